pub mod SealedForm
pub mod OpenedMessage
pub mod Agreeing
