-- Each step preserves the invariant of the rounds.
use Rattle.std.proofs.Common.{ℕ, ◌≡◌, ◌≤◌, ◌+◌, inl, inr, Bool, true, false, cond, Option, Some, None, refl, sym, ap, subst, ◌∙◌, arith}
use Rattle.std.specs.Prelude.{◌⊎◌, ◌==◌}
use Rattle.std.proofs.lemmas.Bool.{both_ways, eq-eqb, cond-true, cond-false, cases_Bool, false_from_ne_true}
use Rattle.std.proofs.lemmas.Bool.Decides.{eqb_tells}
use Rattle.causal_rounds.specs.Rounds.{with_value_at, Round, RecoveryState, number, new_round, with_reply, crash, begin, give_up, answer, refuse, not_up, restart, RoundInvariant, RoundStepsPreserve}

-- the value at a number
pub set_at_cases : {X : Type 0} (f : ℕ → X) (p : ℕ) (x : X) (q : ℕ) → ((q ≡ p) × (with_value_at f p x q ≡ x)) ⊎ ((q ≡ p → ⊥) × (with_value_at f p x q ≡ f q))
set_at_cases f p x q = elim (eqb_tells q p) [ inl is ↦ inl (is.1, cond-true (q == p) x (f q) is.0) | inr other ↦ inr (other.1, cond-false (q == p) x (f q) other.0) ]

-- the value at p is the new one
pub set_at_here : {X : Type 0} (f : ℕ → X) (p : ℕ) (x : X) → with_value_at f p x p ≡ x
set_at_here f p x = cond-true (p == p) x (f p) (eq-eqb p p refl)

-- the others are as they were
pub set_at_away : {X : Type 0} (f : ℕ → X) (p : ℕ) (x : X) (q : ℕ) → (q ≡ p → ⊥) → with_value_at f p x q ≡ f q
set_at_away f p x q other = elim (set_at_cases f p x q) [ inl is ↦ absurd (other is.0) | inr fact ↦ fact.1 ]

pub some_is : {X : Type 0} (x y : X) → Some x ≡ Some y → x ≡ y
some_is x y h = cc

pub none_some : {X : Type 0} (x : X) → None ≡ Some x → ⊥
none_some x h = cc

-- a test that holds of q still holds when it holds of p too
pub still_true : (f : ℕ → Bool) (p q : ℕ) → f q ≡ true → with_value_at f p true q ≡ true
still_true f p q h = elim (set_at_cases f p true q) [ inl is ↦ is.1 | inr other ↦ other.1 ∙ h ]

pub fewer : (f : ℕ → Bool) (p q : ℕ) → with_value_at f p true q ≡ false → f q ≡ false
fewer f p q h = false_from_ne_true (f q) (λ is. both_ways (with_value_at f p true q) h (still_true f p q is))

pub number_up : (w : RecoveryState) (q : ℕ) → w.down q ≡ false → number w q ≡ w.lane q
number_up w q up = cond-false (w.down q) (w.lane q + 1) (w.lane q) up

pub number_down : (w : RecoveryState) (q : ℕ) → w.down q ≡ true → number w q ≡ w.lane q + 1
number_down w q down = cond-true (w.down q) (w.lane q + 1) (w.lane q) down

-- y refuses more: floors rise, and are still numbers that were told
module _ (w : RecoveryState) (y : ℕ) (floors : ℕ → ℕ) where
  pub floors_rise : ((z : ℕ) → w.floors y z ≤ floors z) → (p z : ℕ) → w.floors p z ≤ with_value_at w.floors y floors p z
  floors_rise rise p z = grind (arith, set_at_cases w.floors y floors p, rise z)

  floors_below : ((z : ℕ) → floors z ≤ number w z) → RoundInvariant w → (p q : ℕ) → with_value_at w.floors y floors p q ≤ number w q
  floors_below below k p q = grind (arith, set_at_cases w.floors y floors p, below q, k.floors_told p q)

pub crash_number : (w : RecoveryState) (p q : ℕ) → number w q ≤ number (record w { down = with_value_at w.down p true }) q
crash_number w p q = grind (arith, cases_Bool (w.down q), still_true w.down p q, cond-true, cond-false)

-- a crash
module _ (w : RecoveryState) (p : ℕ) (up : w.down p ≡ false) (k : RoundInvariant w) where
  abbrev crashed : RecoveryState
  crashed = record w { down = with_value_at w.down p true }

  crash_preserves : RoundInvariant crashed
  crash_preserves = record {
    gathering_are_down = λ s r at. still_true w.down p s (k.gathering_are_down s r at);
    own_view = k.own_view;
    views_told = λ s q r at. omega (arith, k.views_told s q r at, crash_number w p q);
    floors_told = λ y q. omega (arith, k.floors_told y q, crash_number w p q);
    one_way = k.one_way;
    same_lane = k.same_lane;
    still_down = λ s q r at replied_q quiet. let old = k.still_down s q r at replied_q quiet in (still_true w.down p q old.0, old.1);
    answers_are_replies = k.answers_are_replies;
    refuses = λ s y z r at was here. k.refuses s y z r at was (fewer w.down p y here);
    ordered = k.ordered;
  }

-- a round begins, or is given up: a round that is there is an old one, or the new one of s
module _ (w : RecoveryState) (s : ℕ) (k : RoundInvariant w) where
  abbrev without : RecoveryState
  without = record w { rounds = with_value_at w.rounds s None }

  left : (q : ℕ) (r : Round) → with_value_at w.rounds s None q ≡ Some r → w.rounds q ≡ Some r
  left q r h = elim (set_at_cases w.rounds s None q) [ inl is ↦ absurd (none_some r (sym is.1 ∙ h)) | inr other ↦ sym other.1 ∙ h ]

  give_up_preserves : RoundInvariant without
  give_up_preserves = record {
    gathering_are_down = λ p r at. k.gathering_are_down p r (left p r at);
    own_view = λ p r at. k.own_view p r (left p r at);
    views_told = λ p q r at. k.views_told p q r (left p r at);
    floors_told = k.floors_told;
    one_way = λ p q r o at there. k.one_way p q r o (left p r at) (left q o there);
    same_lane = λ p q r at. k.same_lane p q r (left p r at);
    still_down = λ p q r at. k.still_down p q r (left p r at);
    answers_are_replies = λ p q r at. k.answers_are_replies p q r (left p r at);
    refuses = λ p y z r at. k.refuses p y z r (left p r at);
    ordered = λ p z y r o at there. k.ordered p z y r o (left p r at) (left z o there);
  }

module _ (w : RecoveryState) (s : ℕ) (view : ℕ → ℕ) (is_down : w.down s ≡ true) (mine : view s ≡ w.lane s + 1) (low : (q : ℕ) → view q ≤ number w q) (absent : ℕ → Bool) (there : absent s ≡ false)
    (gone : (q : ℕ) → absent q ≡ true → (w.down q ≡ true) × (w.rounds q ≡ None) × (view q ≡ w.lane q + 1)) (k : RoundInvariant w) where
  abbrev begun : RecoveryState
  begun = record w { rounds = with_value_at w.rounds s (Some (new_round view absent)) }

  which : (p : ℕ) (r : Round) → with_value_at w.rounds s (Some (new_round view absent)) p ≡ Some r → ((p ≡ s) × (new_round view absent ≡ r)) ⊎ (w.rounds p ≡ Some r)
  which p r h = elim (set_at_cases w.rounds s (Some (new_round view absent)) p) [ inl is ↦ inl (is.0, some_is (new_round view absent) r (sym is.1 ∙ h)) | inr other ↦ inr (sym other.1 ∙ h) ]

  replied_new : (r : Round) (q : ℕ) → new_round view absent ≡ r → r.replied q ≡ absent q
  replied_new r q is = sym (ap (λ (o : Round). o.replied q) is)

  -- an absent process has no round
  absent_round : (q : ℕ) (o : Round) → absent q ≡ true → w.rounds q ≡ Some o → ⊥
  absent_round q o is at = none_some o (sym (gone q is).1 ∙ at)

  present : (q : ℕ) (o : Round) → w.rounds q ≡ Some o → absent q ≡ false
  present q o at = false_from_ne_true (absent q) (λ is. absent_round q o is at)

  unanswered : (r : Round) (q : ℕ) → new_round view absent ≡ r → r.answered q ≡ false
  unanswered r q is = sym (ap (λ (o : Round). o.answered q) is)

  begin_preserves : RoundInvariant begun
  begin_preserves = record {
    gathering_are_down = λ p r at. elim (which p r at) [ inl is ↦ subst (λ q. w.down q ≡ true) (sym is.0) is_down | inr old ↦ k.gathering_are_down p r old ];
    own_view = λ p r at. (grind (arith, which p r at, there, k.own_view p r), grind (arith, which p r at, mine, k.own_view p r));
    views_told = λ p q r at. elim (which p r at) [ inl is ↦ subst (λ v. v ≤ number w q) (ap (λ (o : Round). o.view q) is.1) (low q) | inr old ↦ k.views_told p q r old ];
    floors_told = k.floors_told;
    one_way = λ p q r o at other replied_q. grind (arith, which p r at, which q o other, there, present p r, absent_round q o, k.one_way p q r o, replied_q);
    same_lane = λ p q r at replied_q was. elim (which p r at) [ inl new ↦ absurd (both_ways (r.answered q) (unanswered r q new.1) was) | inr old ↦ k.same_lane p q r old replied_q was ];
    still_down = λ p q r at replied_q quiet. (grind (arith, which p r at, gone q, k.still_down p q r, replied_q, quiet), grind (arith, which p r at, gone q, k.still_down p q r, replied_q, quiet));
    answers_are_replies = λ p q r at was. elim (which p r at) [ inl new ↦ absurd (both_ways (r.answered q) (unanswered r q new.1) was) | inr old ↦ k.answers_are_replies p q r old was ];
    refuses = λ p y z r at was. elim (which p r at) [ inl new ↦ absurd (both_ways (r.answered y) (unanswered r y new.1) was) | inr old ↦ k.refuses p y z r old was ];
    ordered = λ p z y r o at other replied_q was. grind (arith, which p r at, which z o other, unanswered r y, absent_round p r, k.ordered p z y r o, replied_q, was);
  }

-- one process more has replied to the round of s
module _ (w : RecoveryState) (s y : ℕ) (up : Bool) (r : Round) (at : w.rounds s ≡ Some r) (k : RoundInvariant w) where
  abbrev grown : Round
  grown = with_reply r y up

  heard_more : (q : ℕ) → grown.replied q ≡ true → (q ≡ y) ⊎ (r.replied q ≡ true)
  heard_more q h = elim (set_at_cases r.replied y true q) [ inl is ↦ inl is.0 | inr other ↦ inr (sym other.1 ∙ h) ]

  heard_other : (q : ℕ) → (q ≡ y → ⊥) → grown.replied q ≡ r.replied q
  heard_other = set_at_away r.replied y true

  answered_more : (q : ℕ) → grown.answered q ≡ true → ((q ≡ y) × (up ≡ true)) ⊎ ((q ≡ y → ⊥) × (r.answered q ≡ true))
  answered_more q h = elim (set_at_cases r.answered y up q) [ inl is ↦ inl (is.0, sym is.1 ∙ h) | inr other ↦ inr (other.0, sym other.1 ∙ h) ]

  silent_more : (q : ℕ) → grown.replied q ≡ true → grown.answered q ≡ false → ((q ≡ y) × (up ≡ false)) ⊎ ((r.replied q ≡ true) × (r.answered q ≡ false))
  silent_more q h quiet = elim (set_at_cases r.answered y up q) [
    | inl is ↦ inl (is.0, sym is.1 ∙ quiet)
    | inr other ↦ inr (sym (heard_other q other.0) ∙ h, sym other.1 ∙ quiet)
  ]

  -- whatever the floors: y has no round
  module _ (rounds : ℕ → Option Round) (not_s : s ≡ y → ⊥) (seen : (p : ℕ) (o : Round) → rounds p ≡ Some o → (p ≡ y → ⊥) × (((p ≡ s) × (grown ≡ o)) ⊎ (w.rounds p ≡ Some o)))
      (as_up : up ≡ true → (w.down y ≡ false) × (w.lane y ≡ r.view y)) (as_down : up ≡ false → (w.down y ≡ true) × (w.lane y + 1 ≡ r.view y)) where
    self_unheard : grown.replied s ≡ false
    self_unheard = heard_other s not_s ∙ (k.own_view s r at).0

    reply_one_way : (p q : ℕ) (a o : Round) → rounds p ≡ Some a → rounds q ≡ Some o → a.replied q ≡ true → o.replied p ≡ false
    reply_one_way p q a o here there replied_q = grind (arith, seen p a here, seen q o there, heard_more q, heard_other p, k.own_view s r at, k.one_way s q r o at, k.one_way p s a r, k.one_way p q a o, replied_q, at)

    reply_order : (p z q : ℕ) (a o : Round) → rounds p ≡ Some a → rounds z ≡ Some o → o.replied p ≡ true → a.answered q ≡ true → o.view q ≤ a.view q
    reply_order p z q a o here there replied_q was = grind (arith, seen p a here, seen z o there, self_unheard, answered_more q, heard_more p, k.views_told z y o, number_up w y, as_up, k.ordered s z q r o at, k.ordered p s q a r, k.ordered p z q a o, replied_q, was, at)

    reply_preserves : (floors : ℕ → ℕ → ℕ) → ((p q : ℕ) → floors p q ≤ number w q) → ((p q z : ℕ) (a : Round) → rounds p ≡ Some a → a.answered q ≡ true → w.down q ≡ false → a.view z ≤ floors q z) → RoundInvariant (record w { floors = floors; rounds = rounds })
    reply_preserves floors told refuses = record {
      gathering_are_down = λ p o there. elim (seen p o there).1 [ inl is ↦ subst (λ q. w.down q ≡ true) (sym is.0) (k.gathering_are_down s r at) | inr old ↦ k.gathering_are_down p o old ];
      own_view = λ p o there. (grind (arith, seen p o there, self_unheard, k.own_view p o), grind (arith, seen p o there, k.own_view s r at, k.own_view p o));
      views_told = λ p q o there. elim (seen p o there).1 [ inl is ↦ subst (λ (x : Round). x.view q ≤ number w q) is.1 (k.views_told s q r at) | inr old ↦ k.views_told p q o old ];
      floors_told = told;
      one_way = reply_one_way;
      same_lane = λ p q a here replied_q was. grind (arith, seen p a here, answered_more q, as_up, k.same_lane s q r at, k.same_lane p q a, k.answers_are_replies s q r at, replied_q, was);
      still_down = λ p q a here replied_q quiet. (
        grind (arith, seen p a here, silent_more q, as_down, k.still_down s q r at, k.still_down p q a, replied_q, quiet),
        grind (arith, seen p a here, silent_more q, as_down, k.still_down s q r at, k.still_down p q a, replied_q, quiet),
      );
      answers_are_replies = λ p q a here was. grind (arith, seen p a here, answered_more q, set_at_cases r.replied y true q, k.answers_are_replies s q r at, k.answers_are_replies p q a, was);
      refuses = refuses;
      ordered = reply_order;
    }

-- y, which is up, answers s
module _ (w : RecoveryState) (y s : ℕ) (r : Round) (new_floors : ℕ → ℕ) (up : w.down y ≡ false) (at : w.rounds s ≡ Some r) (fits : r.view y ≡ w.lane y) (rise : (z : ℕ) → w.floors y z ≤ new_floors z) (above : (z : ℕ) → r.view z ≤ new_floors z) (low : (z : ℕ) → new_floors z ≤ number w z) (k : RoundInvariant w) where
  abbrev told : Round
  told = with_reply r y true

  abbrev told_world : RecoveryState
  told_world = record w { floors = with_value_at w.floors y new_floors; rounds = with_value_at w.rounds s (Some told) }

  -- a process with a round is not y
  has_none : (p : ℕ) (o : Round) → w.rounds p ≡ Some o → p ≡ y → ⊥
  has_none p o there is = both_ways (w.down y) up (subst (λ q. w.down q ≡ true) is (k.gathering_are_down p o there))

  not_s : s ≡ y → ⊥
  not_s is = has_none s r at is

  found : (p : ℕ) (o : Round) → with_value_at w.rounds s (Some told) p ≡ Some o → (p ≡ y → ⊥) × (((p ≡ s) × (told ≡ o)) ⊎ (w.rounds p ≡ Some o))
  found p o h = elim (set_at_cases w.rounds s (Some told) p) [
    | inl is ↦ (λ e. not_s (sym is.0 ∙ e), inl (is.0, some_is told o (sym is.1 ∙ h)))
    | inr other ↦ (has_none p o (sym other.1 ∙ h), inr (sym other.1 ∙ h))
  ]

  floors_here : (z : ℕ) → r.view z ≤ with_value_at w.floors y new_floors y z
  floors_here z = subst (λ g. r.view z ≤ g z) (sym (cond-true (y == y) new_floors (w.floors y) (eq-eqb y y refl))) (above z)

  answer_refuses : (p q z : ℕ) (a : Round) → with_value_at w.rounds s (Some told) p ≡ Some a → a.answered q ≡ true → w.down q ≡ false → a.view z ≤ with_value_at w.floors y new_floors q z
  answer_refuses p q z a here was is_up = grind (arith, found p a here, answered_more w s y true r at k q, floors_here z, floors_rise w y new_floors rise q z, k.refuses s q z r at, k.refuses p q z a, was, is_up)

  answer_preserves : RoundInvariant told_world
  answer_preserves = reply_preserves w s y true r at k (with_value_at w.rounds s (Some told)) not_s found (λ e. (up, sym fits)) (λ e. absurd (both_ways true e refl)) (with_value_at w.floors y new_floors)
      (floors_below w y new_floors low k) answer_refuses

-- y, which is not up, says so to s
module _ (w : RecoveryState) (y s : ℕ) (r : Round) (is_down : w.down y ≡ true) (other_one : y ≡ s → ⊥) (at : w.rounds s ≡ Some r) (fits : r.view y ≡ w.lane y + 1) (k : RoundInvariant w) where
  abbrev said : Round
  said = with_reply r y false

  abbrev said_rounds : ℕ → Option Round
  said_rounds = with_value_at (with_value_at w.rounds s (Some said)) y None

  abbrev said_world : RecoveryState
  said_world = record w { rounds = said_rounds }

  -- y has no round
  seen : (p : ℕ) (o : Round) → said_rounds p ≡ Some o → (p ≡ y → ⊥) × (((p ≡ s) × (said ≡ o)) ⊎ (w.rounds p ≡ Some o))
  seen p o h = elim (set_at_cases (with_value_at w.rounds s (Some said)) y None p) [
    | inl is ↦ absurd (none_some o (sym is.1 ∙ h))
    | inr away ↦ (away.0, elim (set_at_cases w.rounds s (Some said) p) [ inl is ↦ inl (is.0, some_is said o (sym is.1 ∙ sym away.1 ∙ h)) | inr other ↦ inr (sym other.1 ∙ sym away.1 ∙ h) ])
  ]

  -- a process that has answered did so before
  old_answer : (q : ℕ) → said.answered q ≡ true → r.answered q ≡ true
  old_answer q was = elim (answered_more w s y false r at k q was) [ inl is ↦ absurd (both_ways false refl is.1) | inr old ↦ old.1 ]

  not_up_preserves : RoundInvariant said_world
  not_up_preserves = reply_preserves w s y false r at k said_rounds (λ is. other_one (sym is)) seen (λ e. absurd (both_ways false refl e)) (λ e. (is_down, sym fits)) w.floors k.floors_told
      (λ p q z a here was up. grind (arith, seen p a here, old_answer q, k.refuses s q z r at, k.refuses p q z a, was, up))

-- the number of a process that comes up is the one that it had told
pub number_risen : (w x : RecoveryState) (s : ℕ) → x.lane ≡ with_value_at w.lane s (w.lane s + 1) → x.down ≡ with_value_at w.down s false → w.down s ≡ true → (q : ℕ) → number x q ≡ number w q
number_risen w x s lane down was q = (λ j. cond (down j q) (lane j q + 1) (lane j q)) ∙ elim (eqb_tells q s) [
  | inl is ↦ grind (arith, set_at_cases w.lane s (w.lane s + 1) q, set_at_cases w.down s false q, is, was)
  | inr other ↦ (λ j. cond (set_at_away w.down s false q other.1 j) (set_at_away w.lane s (w.lane s + 1) q other.1 j + 1) (set_at_away w.lane s (w.lane s + 1) q other.1 j))
]

-- all others have replied to s, and it comes up
module _ (w : RecoveryState) (s : ℕ) (r : Round) (at : w.rounds s ≡ Some r) (all : (q : ℕ) → (q ≡ s → ⊥) → r.replied q ≡ true) (k : RoundInvariant w) where
  abbrev come : RecoveryState
  come = record { lane = with_value_at w.lane s (w.lane s + 1); down = with_value_at w.down s false; floors = with_value_at w.floors s r.view; rounds = with_value_at w.rounds s None }

  others : (p : ℕ) (o : Round) → with_value_at w.rounds s None p ≡ Some o → (p ≡ s → ⊥) × (w.rounds p ≡ Some o)
  others p o h = elim (set_at_cases w.rounds s None p) [ inl is ↦ absurd (none_some o (sym is.1 ∙ h)) | inr other ↦ (other.0, sym other.1 ∙ h) ]

  -- s has replied to no round
  unheard_s : (p : ℕ) (o : Round) → with_value_at w.rounds s None p ≡ Some o → o.replied s ≡ false
  unheard_s p o h = let old = others p o h in k.one_way s p r o at old.1 (all p old.0)

  -- a process that has replied is not s
  had_not_replied : (p q : ℕ) (o : Round) → with_value_at w.rounds s None p ≡ Some o → o.replied q ≡ true → q ≡ s → ⊥
  had_not_replied p q o there replied_q is = both_ways (o.replied s) (unheard_s p o there) (subst (λ x. o.replied x ≡ true) is replied_q)

  restart_preserves : RoundInvariant come
  restart_preserves = record {
    gathering_are_down = λ p o there. let old = others p o there in set_at_away w.down s false p old.0 ∙ k.gathering_are_down p o old.1;
    own_view = λ p o there. let old = others p o there in let fact = k.own_view p o old.1 in (fact.0, fact.1 ∙ ap (λ l. l + 1) (sym (set_at_away w.lane s (w.lane s + 1) p old.0)));
    views_told = λ p q o there. subst (λ m. o.view q ≤ m) (sym (number_risen w come s refl refl (k.gathering_are_down s r at) q)) (k.views_told p q o (others p o there).1);
    floors_told = λ p q. subst (λ m. come.floors p q ≤ m) (sym (number_risen w come s refl refl (k.gathering_are_down s r at) q)) (elim (set_at_cases w.floors s r.view p) [ inl is ↦ subst (λ g. g q ≤ number w q) (sym is.1) (k.views_told s q r at) | inr other ↦ subst (λ g. g q ≤ number w q) (sym other.1) (k.floors_told p q) ]);
    one_way = λ p q a o here there. k.one_way p q a o (others p a here).1 (others q o there).1;
    same_lane = λ p q a here replied_q was. set_at_away w.lane s (w.lane s + 1) q (had_not_replied p q a here replied_q) ∙ k.same_lane p q a (others p a here).1 replied_q was;
    still_down = λ p q a here replied_q quiet. let fact = k.still_down p q a (others p a here).1 replied_q quiet in let away = had_not_replied p q a here replied_q in (set_at_away w.down s false q away ∙ fact.0, ap (λ l. l + 1) (set_at_away w.lane s (w.lane s + 1) q away) ∙ fact.1);
    answers_are_replies = λ p q a here was. k.answers_are_replies p q a (others p a here).1 was;
    refuses = λ p q z a here was up.
        let old = (others p a here).1 in
        let away = had_not_replied p q a here (k.answers_are_replies p q a old was) in
        let before = k.refuses p q z a old was (sym (set_at_away w.down s false q away) ∙ up) in
        elim (set_at_cases w.floors s r.view q) [ inl is ↦ absurd (away is.0) | inr other ↦ subst (λ g. a.view z ≤ g z) (sym other.1) before ];
    ordered = λ p z q a o here there. k.ordered p z q a o (others p a here).1 (others z o there).1;
  }

-- y refuses more
refuse_preserves : (w : RecoveryState) (y : ℕ) (floors : ℕ → ℕ) → ((z : ℕ) → w.floors y z ≤ floors z) → ((z : ℕ) → floors z ≤ number w z) → RoundInvariant w → RoundInvariant (record w { floors = with_value_at w.floors y floors })
refuse_preserves w y floors rise below k =
    let refuses : (s p z : ℕ) (r : Round) → w.rounds s ≡ Some r → r.answered p ≡ true → w.down p ≡ false → r.view z ≤ with_value_at w.floors y floors p z = λ s p z r at was up. omega (arith, k.refuses s p z r at was up, floors_rise w y floors rise p z) in
    assumption (floors_below w y floors below k)

pub round_step_preserves : RoundStepsPreserve
round_step_preserves w next (crash p up) k = crash_preserves w p up k
round_step_preserves w next (begin s view absent is_down mine low there gone) k = begin_preserves w s view is_down mine low absent there gone k
round_step_preserves w next (give_up s) k = give_up_preserves w s k
round_step_preserves w next (answer y s r floors up at fits rise above low) k = answer_preserves w y s r floors up at fits rise above low k
round_step_preserves w next (refuse y floors up rise below) k = refuse_preserves w y floors rise below k
round_step_preserves w next (not_up q s r is_down away at fits) k = not_up_preserves w q s r is_down away at fits k
round_step_preserves w next (restart s r at all) k = restart_preserves w s r at all k
