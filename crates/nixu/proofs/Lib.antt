mod Each
mod PlaceLemmas
