pub mod FindingLaws
