pub mod CnfBytes
pub mod CnfStands
