pub mod Spectra
pub mod Answers
