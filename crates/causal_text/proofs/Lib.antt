pub mod Lemmas
mod Begun
mod Canonicals
mod ChunkLemmas
mod Feeds
mod LineSteps
mod ShapeData
mod Sizes
mod Spellings
mod Stops
