mod PendingLemmas
mod PrintLemmas
