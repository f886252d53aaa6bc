-- The number of steps from an event to others, with one more entry.
use Rattle.std.proofs.Common.{ℕ, ◌≡◌, ◌+◌, ◌<◌, ◌≤◌, inl, inr, true, List, [], ◌∷◌, length, refl, sym, ap, subst, ◌∙◌, arith, ◌++◌, get_or, reverse, replicate, Option, Some, None, ◌-◌}
use Rattle.std.specs.Option.{is_some}
use Rattle.causal_trace.specs.declared.entry.Entry.{Entry}
use Rattle.causal_trace.specs.Past.{lane}
use Rattle.causal_trace.specs.Laws.{IsPath}
use Rattle.causal_trace.specs.Dependence.{AreForward, actor, IsEventOf, DirectlyPrecedes, in_order, by_message}
use Rattle.causal_trace.proofs.Lemmas.DependenceSteps.{event_below, event_old, delivers_below, precedes_before, precedes_old, precedes_more, event_lane}
use Rattle.causal_explain.specs.Inside.ShortestPaths.{HasPath, at_once, onward, PrecedesNext, AreNearest, ArePathSteps, IsLeastDistance, IsPathStep, Nearest, IsPathStepOf, closer_event, IsPathOfLength}
use Rattle.std.specs.Prelude.{◌⊎◌, ◌==◌, slice_set, IfSome}
use Rattle.std.proofs.lemmas.Bool.{false≢true, cond-true, cond-false, eq-eqb, ne_eqb}
use Rattle.std.proofs.lemmas.Bool.Decides.{eqb_tells}
use Rattle.std.proofs.lemmas.List.{length-append, length-replicate, length-set, get_or-replicate, get_or-set_other, get_or-set_same, reverse-append}
use Rattle.std.proofs.Math.ListN.{get_or-append}
use Rattle.std.proofs.Math.Seq.{get_or-append_seam}
use Rattle.causal_name.specs.declared.Det.{Det}
use Rattle.causal_name.specs.declared.Pid.{Pid}
use Rattle.causal_trace.specs.declared.entry.Entry.TheVariants.{Deliver, Restart}
use Rattle.causal_trace.specs.State.{past_at}
use Rattle.causal_trace.proofs.Lemmas.AtInstants.{at_instant}
use Rattle.causal_trace.proofs.Lemmas.Instants.{instant_past}
use Rattle.causal_explain.specs.declared.paths.ReachedEvent.{ReachedEvent}
use Rattle.causal_explain.specs.declared.paths.PathStep.{PathStep}

-- an event that precedes the next entry directly precedes it, once it is there
pub next_preceded : (e : Entry) (past : List Entry) (j : ℕ) → PrecedesNext e past j → DirectlyPrecedes (e ∷ past) j (length past)
next_preceded e past j (inl h) = in_order h.0 (lane past h.0) (event_below past j h.0 (lane past h.0) h.2) (inl h.2) (inr (refl, h.1, refl))
next_preceded e past j (inr h) = by_message (inr (refl, h))

-- steps that lead to an event still do with one more entry
pub comes_more : (e : Entry) (past : List Entry) (i k n : ℕ) → HasPath past i k n → HasPath (e ∷ past) i k n
comes_more e past i k n (at_once p l at is none) = at_once p l (inl at) is none
comes_more e past i k n (onward j m c d is) = onward j m (comes_more e past i j m c) (precedes_more e past j k d) is

-- no new steps lead to an earlier event
pub comes_old : (e : Entry) (past : List Entry) (i k n : ℕ) → AreForward (e ∷ past) → k < length past → HasPath (e ∷ past) i k n → HasPath past i k n
comes_old e past i k n forward below (at_once p l at is none) = at_once p l (event_old e past i p l (omega (arith, below, is)) at) is none
comes_old e past i k n forward below (onward j m c d is) =
    let earlier : j < k = precedes_before (e ∷ past) j k forward d in
    onward j m (comes_old e past i j m forward (omega (arith, below, earlier)) c) (precedes_old e past j k below d) is

-- an event that is reached is in the past
pub comes_within : (past : List Entry) (i k n : ℕ) → HasPath past i k n → k < length past
comes_within past i k n (at_once p l at is none) = omega (arith, event_below past i p l at, is)
comes_within past i k n (onward j m c (in_order p l h a b) is) = event_below past k p l b
comes_within past i k n (onward j m c (by_message h) is) = delivers_below past k j h

-- each step advances by at least one position
pub comes_few : (past : List Entry) (i k n : ℕ) → AreForward past → HasPath past i k n → n ≤ k
comes_few past i k n forward (at_once p l at is none) = omega (arith, none)
comes_few past i k n forward (onward j m c d is) = grind (arith, precedes_before past j k forward d, is, comes_few past i j m forward c)

-- an event that is reached by zero steps is the start itself
pub comes_nowhere : (past : List Entry) (i k : ℕ) → (n : ℕ) → n ≡ 0 → HasPath past i k n → k ≡ i
comes_nowhere past i k n zero (at_once p l at is none) = is
comes_nowhere past i k n zero (onward j m c d is) = absurd (omega (arith, zero, is))

-- how the newest entry is reached from i: it is that event, or an event that directly precedes it is reached
pub data ComesNewest (e : Entry) (past : List Entry) (i n : ℕ) : Type 0 where
  is_newest : i ≡ length past → is_some (actor e) ≡ true → n ≡ 0 → ComesNewest e past i n
  through : (j m : ℕ) → PrecedesNext e past j → HasPath past i j m → n ≡ m + 1 → ComesNewest e past i n

-- the newest event is reached by zero steps, or by one more than an event that directly precedes it
pub comes_newest : (e : Entry) (past : List Entry) (i k n : ℕ) → AreForward (e ∷ past) → k ≡ length past → HasPath (e ∷ past) i k n → ComesNewest e past i n
comes_newest e past i k n forward here (at_once p l (inl old) is none) = absurd (omega (arith, event_below past i p l old, is, here))
comes_newest e past i k n forward here (at_once p l (inr new) is none) = is_newest (sym is ∙ here) (ap is_some new.1) none
comes_newest e past i k n forward here (onward j m c (in_order p l h a (inl b)) is) = absurd (omega (arith, event_below past k p l b, here))
comes_newest e past i k n forward here (onward j m c (in_order p l h a (inr b)) is) =
    let below : j < length past = omega (arith, h, here) in
    through j m (inl (p, b.1, subst (IsEventOf past j p) (sym b.2) (event_old e past j p l below a))) (comes_old e past i j m forward below c) is
comes_newest e past i k n forward here (onward j m c (by_message (inl h)) is) = absurd (omega (arith, delivers_below past k j h, here))
comes_newest e past i k n forward here (onward j m c (by_message (inr h)) is) = through j m (inr h.1) (comes_old e past i j m forward (omega (arith, forward k j (inr h), here)) c) is

-- steps that lead to the start of a path also lead to its end, with those of the path
pub comes_along : (past : List Entry) (i j k n m : ℕ) (over : List ℕ) → HasPath past i j n → IsPath past j over k → m ≡ n + length over → HasPath past i k m
comes_along past i j k n m [] c path is = subst (λ x. HasPath past i x m) path (subst (HasPath past i j) (let same : n ≡ m = omega (arith, is) in same) c)
comes_along past i j k n m (v ∷ over) c path is = comes_along past i v k (n + 1) m over (onward j n c path.0 refl) path.1 (omega (arith, is))

-- ---- the nearest of some events, and the path to each, with one more entry

module _ (past : List Entry) (i : ℕ) (A B C : ℕ → Type 0) (either : (k : ℕ) → C k → A k ⊎ B k) (one : (k : ℕ) → A k → C k) (other : (k : ℕ) → B k → C k) where
  -- the closer one of the nearest of two kinds is the nearest of both
  pub nearest_of_both : (a b : Option ReachedEvent) → Nearest past i A a → Nearest past i B b → Nearest past i C (closer_event a b)
  nearest_of_both a b h g = grind arith

-- the nearest of earlier events is unchanged with one more entry
pub nearest_still : (e : Entry) (past : List Entry) (i : ℕ) (A B : ℕ → Type 0) → AreForward (e ∷ past) → ((k : ℕ) → A k → k < length past) → ((k : ℕ) → A k → B k) → ((k : ℕ) → B k → A k)
    → (found : Option ReachedEvent) → Nearest past i A found → Nearest (e ∷ past) i B found
nearest_still e past i A B forward within to from found h = grind (arith, comes_more, comes_old)

-- the nearest event of a process that the entry does not concern is unchanged
pub lane_still : (e : Entry) (past : List Entry) (i p : ℕ) (found : Option ReachedEvent) → AreForward (e ∷ past) → (actor e ≡ Some p → ⊥) → lane (e ∷ past) p ≡ lane past p
    → Nearest past i (λ k. IsEventOf past k p (lane past p)) found → Nearest (e ∷ past) i (λ k. IsEventOf (e ∷ past) k p (lane (e ∷ past) p)) found
lane_still e past i p found forward other same h = grind (arith, nearest_still, event_below)

-- the nearest event of an event's process is the closer one of the previous nearest and the event
pub lane_joined : (e : Entry) (past : List Entry) (i p : ℕ) (before reached : Option ReachedEvent) → AreForward (e ∷ past) → actor e ≡ Some p → lane (e ∷ past) p ≡ lane past p
    → Nearest past i (λ k. IsEventOf past k p (lane past p)) before → Nearest (e ∷ past) i (λ k. k ≡ length past) reached
    → Nearest (e ∷ past) i (λ k. IsEventOf (e ∷ past) k p (lane (e ∷ past) p)) (closer_event before reached)
lane_joined e past i p before reached forward who same h new =
    nearest_of_both (e ∷ past) i (λ k. IsEventOf past k p (lane past p)) (λ k. k ≡ length past) (λ k. IsEventOf (e ∷ past) k p (lane (e ∷ past) p)) (λ k at. grind arith)
    (λ k at. inl (rw same at)) (λ k here. inr (here, who, sym same)) before reached
    (nearest_still e past i (λ k. IsEventOf past k p (lane past p)) (λ k. IsEventOf past k p (lane past p)) forward (λ k at. event_below past k p (lane past p) at) (λ k at. at) (λ k at. at) before h) new

-- a new lane has no event yet
pub lane_empty : (e : Entry) (past : List Entry) (i p : ℕ) → actor e ≡ None → lane (e ∷ past) p ≡ lane past p + 1 → Nearest (e ∷ past) i (λ k. IsEventOf (e ∷ past) k p (lane (e ∷ past) p)) None
lane_empty e past i p none more = λ k n at c. grind (arith, event_lane past k p (lane (e ∷ past) p))

-- the nearest events, if that of one process is set
pub lanes_changed : (e : Entry) (past : List Entry) (i : ℕ) (lanes : List (Option ReachedEvent)) (q : ℕ) (found : Option ReachedEvent) → q < length lanes → AreForward (e ∷ past)
    → ((p : ℕ) → (p ≡ q → ⊥) → (actor e ≡ Some p → ⊥) × (lane (e ∷ past) p ≡ lane past p)) → Nearest (e ∷ past) i (λ k. IsEventOf (e ∷ past) k q (lane (e ∷ past) q)) found
    → AreNearest past i lanes → AreNearest (e ∷ past) i (slice_set lanes q found)
lanes_changed e past i lanes q found within forward others own h = λ p below.
    grind (arith, eqb_tells p q, get_or-set_same lanes q found None within, get_or-set_other, lane_still, length-set lanes q found)

-- the nearest events, if none is set
pub lanes_still : (e : Entry) (past : List Entry) (i : ℕ) (lanes : List (Option ReachedEvent)) → AreForward (e ∷ past) → actor e ≡ None → ((p : ℕ) → lane (e ∷ past) p ≡ lane past p)
    → AreNearest past i lanes → AreNearest (e ∷ past) i lanes
lanes_still e past i lanes forward none same h = λ p below. lane_still e past i p (get_or lanes p None) forward (λ is. let x : None ≡ Some p = sym none ∙ is in cc) (same p) (h p below)

module _ (e : Entry) (past : List Entry) (i : ℕ) (forward : AreForward (e ∷ past)) where
  -- the event itself is reached by zero steps
  pub way_to_itself : (v : ℕ) → length past ≡ v → v ≡ i → is_some (actor e) ≡ true → IsPathStep (e ∷ past) i v (record { steps = 0; previous = i })
  way_to_itself v here own event = record {
    fewest = record { comes = begins (actor e) refl event; least = λ m c. omega arith };
    last = λ m is. absurd (omega (arith, is));
  }
    where
      begins : (a : Option ℕ) → actor e ≡ a → is_some a ≡ true → HasPath (e ∷ past) i v 0
      begins None is some = absurd (false≢true some)
      begins (Some p) is some = at_once p (lane past p) (inr (sym own ∙ sym here, is, refl)) own refl

  -- another event is reached by one step from the nearest one that directly precedes it
  pub way_through : (v : ℕ) → length past ≡ v → (i ≡ length past → is_some (actor e) ≡ true → ⊥) → (x : ReachedEvent) → Nearest past i (PrecedesNext e past) (Some x)
      → IsPathStep (e ∷ past) i v (record { steps = x.steps + 1; previous = x.position })
  way_through v here other x h =
      let comes = comes_more e past i x.position x.steps h.1 in
      let precedes : DirectlyPrecedes (e ∷ past) x.position v = rw (← here) (next_preceded e past x.position h.0) in
      record {
        fewest = record { comes = onward x.position x.steps comes precedes refl; least = λ n c. grind (arith, comes_newest e past i v n forward (sym here) c) };
        last = λ m is. (precedes, rw (let same : m ≡ x.steps = omega (arith, is) in same) comes);
      }

  -- an event is not reached if none that directly precedes it is
  pub no_way : (v : ℕ) → length past ≡ v → (i ≡ length past → is_some (actor e) ≡ true → ⊥) → Nearest past i (PrecedesNext e past) None → (n : ℕ) → HasPath (e ∷ past) i v n → ⊥
  no_way v here other h n c = grind (arith, comes_newest e past i v n forward (sym here) c)

-- an event of q becomes the nearest of its lane if it is closer
pub lanes_joined : (e : Entry) (past : List Entry) (i : ℕ) (lanes : List (Option ReachedEvent)) (q : ℕ) (reached : Option ReachedEvent) → q < length lanes → AreForward (e ∷ past)
    → actor e ≡ Some q → ((p : ℕ) → lane (e ∷ past) p ≡ lane past p) → Nearest (e ∷ past) i (λ k. k ≡ length past) reached
    → AreNearest past i lanes → AreNearest (e ∷ past) i (slice_set lanes q (closer_event (get_or lanes q None) reached))
lanes_joined e past i lanes q reached within forward who same new h =
    grind (arith, lanes_changed, lane_joined e past i q (get_or lanes q None) reached forward who (same q) (h q within) new)

-- a restart of q empties its lane
pub lanes_restarted : (past : List Entry) (i : ℕ) (lanes : List (Option ReachedEvent)) (who : Pid) (listed : List Det) → who.0 < length lanes → AreForward (Restart who listed ∷ past)
    → AreNearest past i lanes → AreNearest (Restart who listed ∷ past) i (slice_set lanes who.0 None)
lanes_restarted past i lanes who listed within forward h =
    lanes_changed (Restart who listed) past i lanes who.0 None within forward
    (λ p apart. (λ is. let x : None ≡ Some p = is in cc, cond-false (who.0 == p) _ _ (ne_eqb who.0 p (λ same. apart (sym same)))))
    (lane_empty (Restart who listed) past i who.0 refl (cond-true (who.0 == who.0) _ _ (eq-eqb who.0 who.0 refl))) h

-- the nearest event that directly precedes a delivery is of the delivery's lane, or is its send
pub nearest_delivered : (past : List Entry) (i : ℕ) (to : Pid) (send rsn : ℕ) (listed : List Det) (a b : Option ReachedEvent) → Nearest past i (λ k. IsEventOf past k to.0 (lane past to.0)) a
    → Nearest past i (λ k. k ≡ send) b → Nearest past i (PrecedesNext (Deliver to send rsn listed) past) (closer_event a b)
nearest_delivered past i to send rsn listed a b h g = grind (arith, nearest_of_both, eq-eqb)

-- a path is unchanged with one more entry
way_still : (e : Entry) (past : List Entry) (i k : ℕ) (found : Option PathStep) → AreForward (e ∷ past) → k < length past → IsPathStepOf past i k found → IsPathStepOf (e ∷ past) i k found
way_still e past i k None forward below h = λ n c. h n (comes_old e past i k n forward below c)
way_still e past i k (Some w) forward below h = record {
  fewest = grind (arith, comes_more e past i k w.steps h.fewest.comes, comes_old);
  last = λ m is. let before = h.last m is in (precedes_more e past w.previous k before.0, comes_more e past i w.previous m before.1);
}

-- the paths with one more entry
pub ways_more : (e : Entry) (past : List Entry) (i : ℕ) (ways : List (Option PathStep)) (way : Option PathStep) → AreForward (e ∷ past) → IsPathStepOf (e ∷ past) i (length past) way
    → ArePathSteps past i ways → ArePathSteps (e ∷ past) i (ways ++ way ∷ [])
ways_more e past i ways way forward new h =
    grind (arith, length-append ways (way ∷ []), eqb_tells, get_or-append_seam ways way [] None, get_or-append, way_still)

-- the paths before the first entry
pub ways_none : (i : ℕ) → ArePathSteps [] i []
ways_none i = record { count = refl; each = λ k below. absurd (omega (arith, below)) }

-- the nearest events before the first entry
pub lanes_none : (i n : ℕ) → AreNearest [] i (replicate n None)
lanes_none i n = λ p below. subst (Nearest [] i (λ k. IsEventOf [] k p 0)) (sym (get_or-replicate n p None None (omega (arith, below, length-replicate {A = Option ReachedEvent} n None)))) (λ k m at c. absurd at)

-- the nearest event, if any, is reached by fewer steps than this number of entries
pub nearest_below : (past : List Entry) (i : ℕ) (A : ℕ → Type 0) (n : ℕ) (found : Option ReachedEvent) → AreForward past → length past ≡ n → Nearest past i A found → IfSome found (λ x. x.steps < n)
nearest_below past i A n found forward long h = grind (arith, comes_few, comes_within)

-- the event one step back is reached by one step less
pub step_back : (past : List Entry) (i k n : ℕ) (w : PathStep) → IsPathStep past i k w → IsLeastDistance past i k (n + 1) → DirectlyPrecedes past w.previous k × IsLeastDistance past i w.previous n
step_back past i k n w h fewest =
    let same : w.steps ≡ n + 1 = omega (arith, h.fewest.least (n + 1) fewest.comes, fewest.least w.steps h.fewest.comes) in
    let before = h.last n same in (
      before.0,
      record { comes = before.1; least = λ m c. let more = fewest.least (m + 1) (onward w.previous m c before.0 refl) in omega (arith, more) },
    )

-- at each instant of a run, no delivery precedes its send
pub forward_at : (es : List Entry) (t : ℕ) → t ≤ length es → AreForward (reverse es) → AreForward (past_at es t)
forward_at es t within h = subst AreForward (instant_past es t within) (at_instant AreForward (λ e past k j i d. k j i (inl d)) (reverse es) t h)

-- ---- a path to an event, traced back from its last step

-- of `total` steps, `gone` are traced back, to this position
pub record IsWalkedBack (past : List Entry) (i last total gone position : ℕ) (chain : List ℕ) : Type 0 where
  pub rest : List ℕ
  pub reversed : reverse chain ≡ position ∷ rest
  pub path : IsPath past position rest last
  -- the steps that are traced back
  pub steps : length rest ≡ gone
  pub left : ℕ
  pub in_all : left + gone ≡ total
  -- the position is reached from i by as many steps as are left, and by no fewer
  pub fewest : IsLeastDistance past i position left

-- one more step is traced back, to an event from which one step less is left
pub walk_more : (past : List Entry) (i last total gone position : ℕ) (chain : List ℕ) (next : ℕ) → gone < total → IsWalkedBack past i last total gone position chain
    → ((n : ℕ) → IsLeastDistance past i position (n + 1) → DirectlyPrecedes past next position × IsLeastDistance past i next n) → IsWalkedBack past i last total (gone + 1) next (chain ++ next ∷ [])
walk_more past i last total gone position chain next below h back =
    let n = h.left - 1 in
    let one_more : h.left ≡ n + 1 = omega (arith, below, h.in_all) in
    let before = back n (subst (IsLeastDistance past i position) one_more h.fewest) in
    record {
      rest = position ∷ h.rest;
      reversed = reverse-append chain (next ∷ []) ∙ ap (λ xs. next ∷ xs) h.reversed;
      path = (before.0, h.path);
      steps = omega (arith, h.steps);
      left = n;
      in_all = omega (arith, h.in_all, one_more);
      fewest = before.1;
    }

-- after all steps, the reversed chain is the path in the order of the run
pub walk_over : (past : List Entry) (i last total gone position : ℕ) (chain : List ℕ) → gone ≡ total → IsWalkedBack past i last total gone position chain → IsPathOfLength past i last total (reverse chain)
walk_over past i last total gone position chain over h = grind (arith, comes_nowhere)
