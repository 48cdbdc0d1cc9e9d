pub mod FieldKinds
mod Joins
mod ModeExamples
pub mod Runs
mod Said
