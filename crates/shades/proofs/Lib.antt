pub mod Spectra
