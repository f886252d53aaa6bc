-- What a process may accept now or later, and that nothing becomes acceptable except by being sent.
use Rattle.std.specs.Prelude.{◌≡◌, ℕ, ◌+◌, ◌≤◌, true, false, None, Some, ◌⊎◌}
use Rattle.causal_rounds.specs.Rounds.{with_value_at, Round, RecoveryState, RoundStep, RoundInvariant}
use Rattle.causal_rounds.specs.Gathered.{Carrier, DetState, MayComplete, DetInvariant}

-- the receiver is up and does not refuse the lane; or it is down, and the sender is up in that lane, or has replied
-- to a round of the receiver that may still complete and whose view does not refuse the lane
pub data IsAcceptable (w : RecoveryState) (t : Carrier) : Type 0 where
  by_floor : w.down t.to ≡ false → w.floors t.to t.from ≤ t.lane → IsAcceptable w t
  by_sender : w.down t.to ≡ true → w.down t.from ≡ false → t.lane ≡ w.lane t.from → IsAcceptable w t
  by_round : (o : Round) → w.down t.to ≡ true → w.rounds t.to ≡ Some o → MayComplete w t.to o → o.replied t.from ≡ true → o.view t.from ≤ t.lane → IsAcceptable w t

-- what is acceptable after a step was acceptable before it
abbrev pub AcceptanceNeedsSending : Type 0
AcceptanceNeedsSending = (w x : RecoveryState) → RoundStep w x → RoundInvariant w → (t : Carrier) → t.lane ≤ w.lane t.from → IsAcceptable x t → IsAcceptable w t

-- the state after the restart of s with the view of r
abbrev pub IsRestart : RecoveryState → ℕ → Round → RecoveryState → Type 0
IsRestart w s r x = x ≡ record { lane = with_value_at w.lane s (w.lane s + 1); down = with_value_at w.down s false; floors = with_value_at w.floors s r.view; rounds = with_value_at w.rounds s None }

-- the same of what is acceptable after the restart
abbrev pub RestartsMissNothing : Type 0
RestartsMissNothing = (a : DetState) (s : ℕ) (r : Round) (x : RecoveryState) → RoundInvariant a.state → DetInvariant a → a.state.rounds s ≡ Some r → ((q : ℕ) → (q ≡ s → ⊥) → r.replied q ≡ true)
    → IsRestart a.state s r x → a.must_recover s ≡ true → a.stable ≡ false
    → ((y : ℕ) × (a.logs y ≡ true)) ⊎ ((i : ℕ) × (t : Carrier) × (a.carriers i ≡ Some t) × IsAcceptable x t)
    → a.gathered s ≡ true
