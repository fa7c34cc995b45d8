pub mod Polynomial
pub mod Generators
pub mod Fit
