pub mod ClearNames
pub mod ClearFields
pub mod ClearVerdicts
