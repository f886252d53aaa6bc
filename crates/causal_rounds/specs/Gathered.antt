-- What becomes of one determinant while several processes gather at once.
use Rattle.std.specs.Prelude.{◌≡◌, ℕ, ◌+◌, ◌≤◌, Bool, true, false, ◌||◌, Option, None, Some, ◌⊎◌}
use Rattle.causal_rounds.specs.Rounds.{with_value_at, Round, RecoveryState, number, new_round, with_reply, RoundInvariant}

-- something in transit that carries the determinant: who sent it, from which lane, and to whom; a write goes to
-- stable storage
pub record Carrier : Type 0 where
  pub from : ℕ
  pub lane : ℕ
  pub to : ℕ

-- who logs the determinant, who is down and has to recover it, whether a stable entry names it, what carries it, and
-- whose round has gathered it; stable storage logs what it has stored
pub record DetState : Type 0 where
  pub state : RecoveryState
  pub logs : ℕ → Bool
  pub must_recover : ℕ → Bool
  pub stable : Bool
  pub carriers : ℕ → Option Carrier
  pub gathered : ℕ → Bool

-- those that have not replied are as the view has them, so the round may still complete
abbrev pub MayComplete : RecoveryState → ℕ → Round → Type 0
MayComplete w s r = (q : ℕ) → (q ≡ s → ⊥) → r.replied q ≡ false → number w q ≡ r.view q

-- q logs it, or something that it sent from this lane carries it
abbrev pub HasFromLane : DetState → ℕ → ℕ → Type 0
HasFromLane a q lane = (a.logs q ≡ true) ⊎ ((i : ℕ) × (t : Carrier) × (a.carriers i ≡ Some t) × (t.from ≡ q) × (t.lane ≡ lane))

-- what a step does to one determinant
pub data DetStep (a : DetState) : DetState → Type 0 where
  -- p sends something that carries it
  emit : (p to i : ℕ) → a.state.down p ≡ false → a.logs p ≡ true → a.carriers i ≡ None
      → DetStep a (record a { carriers = with_value_at a.carriers i (Some (record { from = p; lane = a.state.lane p; to = to })) })
  -- y takes what carries it, from a lane that it does not refuse
  take : (y i : ℕ) (t : Carrier) → a.state.down y ≡ false → a.carriers i ≡ Some t → a.state.floors y t.from ≤ t.lane
      → DetStep a (record a { logs = with_value_at a.logs y true })
  -- y delivers it: it logged it, or it was stable; or y delivers it as new, and then nobody has to recover it any
  -- more
  deliver_again : (y : ℕ) → a.state.down y ≡ false → (a.logs y ≡ true) ⊎ (a.stable ≡ true)
      → DetStep a (record a { logs = with_value_at a.logs y true })
  deliver_as_new : (y : ℕ) → a.state.down y ≡ false
      → DetStep a (record a { logs = with_value_at a.logs y true; must_recover = λ p. false })
  forget : (y : ℕ) → a.stable ≡ true
      → DetStep a (record a { logs = with_value_at a.logs y false })
  record_stable : DetStep a (record a { stable = true })
  crash : (p : ℕ) → a.state.down p ≡ false
      → DetStep a (record a { state = record a.state { down = with_value_at a.state.down p true }; logs = with_value_at a.logs p false; must_recover = with_value_at a.must_recover p (a.logs p) })
  begin : (s : ℕ) (view : ℕ → ℕ) (absent : ℕ → Bool) → ((q : ℕ) → absent q ≡ true → (a.state.down q ≡ true) × (view q ≡ a.state.lane q + 1))
      → DetStep a (record a { state = record a.state { rounds = with_value_at a.state.rounds s (Some (new_round view absent)) }; gathered = with_value_at a.gathered s false })
  give_up : (s : ℕ)
      → DetStep a (record a { state = record a.state { rounds = with_value_at a.state.rounds s None } })
  answer : (y s : ℕ) (r : Round) (floors : ℕ → ℕ) → a.state.down y ≡ false → a.state.rounds s ≡ Some r → r.view y ≡ a.state.lane y
      → DetStep a (record a { state = record a.state { floors = with_value_at a.state.floors y floors; rounds = with_value_at a.state.rounds s (Some (with_reply r y true)) }; gathered = with_value_at a.gathered s (a.gathered s || a.logs y) })
  refuse : (y : ℕ) (floors : ℕ → ℕ)
      → DetStep a (record a { state = record a.state { floors = with_value_at a.state.floors y floors } })
  not_up : (q s : ℕ) (r : Round) → a.state.down q ≡ true → (q ≡ s → ⊥) → a.state.rounds s ≡ Some r → r.view q ≡ a.state.lane q + 1
      → DetStep a (record a { state = record a.state { rounds = with_value_at (with_value_at a.state.rounds s (Some (with_reply r q false))) q None } })
  restart : (s : ℕ) (r : Round) → a.state.rounds s ≡ Some r → ((q : ℕ) → (q ≡ s → ⊥) → r.replied q ≡ true)
      → DetStep a (record a { state = record { lane = with_value_at a.state.lane s (a.state.lane s + 1); down = with_value_at a.state.down s false; floors = with_value_at a.state.floors s r.view; rounds = with_value_at a.state.rounds s None }; logs = with_value_at a.logs s (a.gathered s); must_recover = with_value_at a.must_recover s false })

-- the invariant of one determinant
pub record DetInvariant (a : DetState) : Type 0 where
  pub logs_up : (p : ℕ) → a.logs p ≡ true → a.state.down p ≡ false
  pub recovering_are_down : (p : ℕ) → a.must_recover p ≡ true → a.state.down p ≡ true
  pub lanes : (i : ℕ) (t : Carrier) → a.carriers i ≡ Some t → t.lane ≤ a.state.lane t.from
  -- what a process has sent from its present lane it still logs, or it is stable
  pub sent : (i : ℕ) (t : Carrier) → a.carriers i ≡ Some t → a.state.down t.from ≡ false → t.lane ≡ a.state.lane t.from → (a.logs t.from ≡ true) ⊎ (a.stable ≡ true)
  -- if the round may still complete, and its process has to recover the determinant, which is not stable: what a
  -- process that has replied logs, or sent from the lane of the view, is gathered, or a process that has not replied
  -- logs it
  pub gathers : (s q : ℕ) (r : Round) → a.state.rounds s ≡ Some r → MayComplete a.state s r → a.must_recover s ≡ true → a.stable ≡ false → r.replied q ≡ true → HasFromLane a q (r.view q)
      → (a.gathered s ≡ true) ⊎ ((z : ℕ) × (r.replied z ≡ false) × (a.logs z ≡ true))

-- each step preserves the invariant of one determinant
abbrev pub DetStepsPreserve : Type 0
DetStepsPreserve = (a b : DetState) → DetStep a b → RoundInvariant a.state → DetInvariant a → DetInvariant b

-- what is in transit once s has come up with the view of r: to a process that is up, or to s, from a lane that is not
-- refused; to one that is down, from the present lane of a process that is up, or of one that has replied to its
-- round
pub data IsInTransitAfter (a : DetState) (s : ℕ) (r : Round) (t : Carrier) : Type 0 where
  to_up : a.state.down t.to ≡ false → a.state.floors t.to t.from ≤ t.lane → IsInTransitAfter a s r t
  to_new : t.to ≡ s → r.view t.from ≤ t.lane → IsInTransitAfter a s r t
  from_up : a.state.down t.from ≡ false → t.lane ≡ a.state.lane t.from → IsInTransitAfter a s r t
  to_round : (o : Round) → (t.to ≡ s → ⊥) → a.state.rounds t.to ≡ Some o → o.replied t.from ≡ true → o.view t.from ≤ t.lane → IsInTransitAfter a s r t

-- if s, to which all others have replied, comes up, and has to recover the determinant, which is not stable: it has
-- gathered it, if any process logs it or anything still in transit carries it
abbrev pub RestartsGatherAll : Type 0
RestartsGatherAll = (a : DetState) (s : ℕ) (r : Round) → RoundInvariant a.state → DetInvariant a → a.state.rounds s ≡ Some r → ((q : ℕ) → (q ≡ s → ⊥) → r.replied q ≡ true)
    → a.must_recover s ≡ true → a.stable ≡ false
    → ((y : ℕ) × (a.logs y ≡ true)) ⊎ ((i : ℕ) × (t : Carrier) × (a.carriers i ≡ Some t) × IsInTransitAfter a s r t)
    → a.gathered s ≡ true
