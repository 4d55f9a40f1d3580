pub mod Severities
pub mod Ownership
pub mod SeverityExamples
