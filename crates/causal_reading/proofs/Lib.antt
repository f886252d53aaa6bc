mod FeedLemmas
mod LineLemmas
mod SharingLemmas
