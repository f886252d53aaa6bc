pub mod Lemmas
mod Sets
mod SendPreserves
mod SilentPreserves
mod StablePreserves
mod ForgetPreserves
mod CrashPreserves
mod RestartPreserves
mod DeliverPreserves
mod StepPreserves
