mod FactLists
mod SetMembers
mod StoredLemmas
