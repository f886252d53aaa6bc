pub mod Lemmas
mod Places
mod LearnedLogs
mod Choices
mod Facts
mod SoundSteps
mod Refusals
mod StepKeeps
mod Contributions
