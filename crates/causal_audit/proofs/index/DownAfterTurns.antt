-- The crashes and restarts, and the down processes after each.
use Rattle.std.proofs.lemmas.Grind.{common_steps}
use Rattle.causal_audit.proofs.Common.{ℕ, ◌≡◌, ◌+◌, ◌-◌, ◌<◌, ◌≤◌, false, List, length, get_or, Some, sym, subst, ◌∙◌, arith, nat_cmp, FinSet, contains, empty, IsPartitionPoint, false_from_ne_true, get_or_default, Entry, instant, entry_at, is_down}
use Rattle.causal_audit.specs.declared.index.transitions.Transitions.{Transitions}
use Rattle.causal_audit.specs.declared.index.transitions.TransitionCursor.{TransitionCursor}
use Rattle.causal_audit.specs.Inside.Index.Lists.{AreTransitions}
use Rattle.causal_audit.specs.Quiet.{is_transition}
use Rattle.causal_audit.specs.Inside.Index.RunIndexes.{IsTransitionIndex}
use Rattle.causal_audit.specs.Inside.Index.TransitionCursors.{IsCursorAt}
use Rattle.causal_audit.specs.Inside.DeliveryStates.{HasExactly}
use Rattle.causal_audit.specs.Inside.SafetyScan.Persistence.{restarts_one, RestartsNone}
use Rattle.causal_audit.proofs.by_clock.Begun.{down_stays}
use Rattle.causal_audit.proofs.Steps.{nobody_down}

-- ---- the down processes at an instant

module _ (past : List Entry) (list : List ℕ) (downs : List (FinSet nat_cmp)) (are : AreTransitions past list downs) (t passed : ℕ) (within : t ≤ length past) (inside : passed ≤ length list)
    (point : IsPartitionPoint (λ v. v < t) (λ v. t ≤ v) list passed) where
  no_turn : (s : ℕ) → ((i : ℕ) → i < passed → get_or list i 0 < s) → (v : ℕ) (e : Entry) → s ≤ v → v < t → entry_at past v ≡ Some e → is_transition e ≡ false
  no_turn s old v e late early at =
      are.turned v e at (λ listed. grind (arith, get_or_default list listed.0 0 v listed.1, old listed.0, point.1 listed.0 v, listed.2))

  -- before the first of them no process is down
  pub none_turned : passed ≡ 0 → HasExactly empty (λ p. is_down (instant past t) p)
  none_turned is p = nobody_down past p ∙ down_stays past 0 t (omega arith) within (no_turn 0 (λ i low. absurd (omega (arith, is, low)))) p

  -- otherwise the down processes are those after the last one
  pub last_turned : 0 < passed → (s : FinSet nat_cmp) → s ≡ get_or downs (passed - 1) s → HasExactly s (λ p. is_down (instant past t) p)
  last_turned some s value p =
      let j = passed - 1 in
      let before : get_or list j 0 < t = point.0 j 0 (omega arith) (omega (arith, some)) in
      subst (λ x. contains x p ≡ is_down (instant past (get_or list j 0 + 1)) p) (sym value) (are.shown j s (omega (arith, some, inside)) p)
      ∙ down_stays past (get_or list j 0 + 1) t (omega (arith, before)) within (no_turn (get_or list j 0 + 1) (λ i low. omega (arith, are.ascends.ascending i j 0 (omega (arith, low)) (omega (arith, some, inside))))) p

-- ---- a scan to the next restart of one of these processes

-- the passed transitions from `from` on restart none of these processes
abbrev pub PassNone : List Entry → List ℕ → FinSet nat_cmp → ℕ → ℕ → Type 0
PassNone past list members from passed =
    (i : ℕ) (e : Entry) → i < passed → from ≤ get_or list i 0 → entry_at past (get_or list i 0) ≡ Some e → restarts_one members e ≡ false

module _ (past : List Entry) (list : List ℕ) (downs : List (FinSet nat_cmp)) (are : AreTransitions past list downs) (members : FinSet nat_cmp) (from passed : ℕ) (none : PassNone past list members from passed) where
  -- so none of these processes restarts before the transitions that are left
  pub none_restarts : (u : ℕ) → ((i v : ℕ) → passed ≤ i → i < length list → u ≤ get_or list i v) → RestartsNone past members from u
  none_restarts u rest v e late early at =
      false_from_ne_true (restarts_one members e) (λ is.
      let quiet : is_transition e ≡ false = are.turned v e at (λ listed.
      grind (arith, get_or_default list listed.0 0 v listed.1, none listed.0 e, rest listed.0 v, listed.2)) in
      grind (arith, quiet, is))

  module _ (x : ℕ) (there : passed < length list) (is : x ≡ get_or list passed x) where
    -- none that is left is before the next one
    pub left_above : (i v : ℕ) → passed ≤ i → i < length list → x ≤ get_or list i v
    left_above i v ahead inside = grind (arith, are.ascends.ascending passed i v, get_or_default list passed x v there)

    -- a transition that restarts none of these processes is passed too
    pub passed_one_more : (e : Entry) → entry_at past x ≡ Some e → restarts_one members e ≡ false → PassNone past list members from (passed + 1)
    passed_one_more e at not_one i y low late here = grind (arith, common_steps)

-- ---- a transition cursor

-- the down processes at a cursor are those after the transitions that it passed
pub passed_down : (past : List Entry) (transitions : Transitions) (t : ℕ) (walk : TransitionCursor) → IsTransitionIndex past transitions → IsCursorAt transitions t walk → IsTransitionIndex past walk.transitions.now × IsCursorAt walk.transitions.now t walk
passed_down past transitions t walk are has = (subst (IsTransitionIndex past) (sym has.over) are, subst (λ x. IsCursorAt x t walk) (sym has.over) has)
