pub mod SafeVerdicts
