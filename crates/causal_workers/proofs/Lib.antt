mod EarlyLemmas
mod JudgementLemmas
mod ShareLemmas
