mod PlaceLemmas
mod Refusals
mod VerdictEndings
mod Writing
