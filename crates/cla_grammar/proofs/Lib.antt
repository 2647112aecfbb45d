pub mod MachineComplete
pub mod MachineSound
pub mod MachineLive
pub mod PowersAndSpans
pub mod FirstRefused
pub mod CanonicalLength
