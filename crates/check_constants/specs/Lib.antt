pub mod IntegerValues
