pub mod PayloadForm
pub mod MarkingForm
pub mod Verdicts
