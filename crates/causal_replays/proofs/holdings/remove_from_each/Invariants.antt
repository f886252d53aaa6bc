use Rattle.std.proofs.Common.{ℕ, ◌≡◌, ◌<◌, true, false, get_or, vec_len}
use Rattle.causal_replays.specs.Inside.Holdings.{holds}
use Rattle.causal_replays.proofs.holdings.remove_from_each.Given as goal

-- the process is removed from the holders of the numbers so far, and nothing else changed
abbrev pub invariant-loop-number : goal.invariant-loop-number
invariant-loop-number l = record {
  removed : (k : ℕ) → k < l.number-index → holds l.holders.items (get_or l.numbers k 0) l.who ≡ false;
  others : (i p : ℕ) → (p ≡ l.who → ⊥) → holds l.holders.items i p ≡ holds l.initial.holders.items i p;
  fewer : (i p : ℕ) → holds l.holders.items i p ≡ true → holds l.initial.holders.items i p ≡ true;
  count : vec_len l.holders ≡ vec_len l.initial.holders;
}
