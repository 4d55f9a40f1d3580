mod OwnershipLaws
mod StorageLaws
mod KeywordLaws
mod NamedTypes
mod CombinationLaws
mod QualifierLaws
mod NearestLaws
