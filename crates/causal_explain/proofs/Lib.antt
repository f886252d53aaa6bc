mod CauseLemmas
mod ChainLemmas
mod MarkLemmas
mod RangeLemmas
mod StandingLemmas
mod WayLemmas
