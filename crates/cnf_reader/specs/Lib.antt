pub mod Parts
pub mod CnfArrays
pub mod CnfArrayLaws
pub mod Lines
