-- The position since which a test holds, with one more entry.
use Rattle.std.proofs.Common.{ℕ, ◌≡◌, Bool, true, false, List, [], ◌∷◌, length, sym, ap, ◌∙◌, arith, ◌+◌, ◌<◌, take, replicate, get_or, subst, cond, ◌++◌, inl, inr, Some}
use Rattle.std.proofs.lemmas.Bool.{cases_lt, or_parts, and_from, or_from, or_right, not-true, eqb-true, cond-true, cond-false}
use Rattle.causal_trace.specs.declared.entry.Entry.{Entry}
use Rattle.causal_trace.proofs.Lemmas.AtInstants.{instants_stay, last_instant, one_more_instant}
use Rattle.causal_explain.specs.ProcessFacts.{HoldsSince, ever_holds, ListsExactly, members_below, IsLoss, Loses}
use Rattle.std.specs.Prelude.{◌&&◌, not, slice_set}
use Rattle.std.proofs.lemmas.Bool.Decides.{eqb_tells}
use Rattle.std.proofs.lemmas.List.{length-set, length-take, length-replicate, get_or-set_other, get_or-set_same, get_or-take, get_or-replicate, map-append, append-nil, map-id}
use Rattle.causal_trace.specs.State.{past_at}
use Rattle.causal_trace.proofs.Lemmas.Instants.{past_more, past_length}
use Rattle.causal_explain.specs.declared.validity.Change.{Change}
use Rattle.causal_explain.specs.declared.validity.Validity.{Validity}
use Rattle.causal_explain.specs.declared.validity.Validity.TheVariants.{Never, Holds, Ended}
use Rattle.causal_explain.specs.Inside.Validities.{AreValidities, IsOverSince, IsValidity, IsChangeOf}
use Rattle.std.proofs.lemmas.List.Elements.{All-push}
use Rattle.std.proofs.lemmas.List.FromFn.{filter_of_map_range_with_len_more}
use Rattle.causal_name.specs.declared.Det.{Det}
use Rattle.causal_trace.specs.Past.{instant, entry_at, logs}
use Rattle.causal_explain.specs.Inside.Losing.{lost_by}
use Rattle.causal_facts.specs.declared.process_fact.Loss.{Loss}
use Rattle.causal_trace.proofs.Lemmas.EntryFacts.{not_false}

-- a test that never held does not hold at this state
pub fails_now : (past : List Entry) (test : List Entry → Bool) → ever_holds test past ≡ false → test past ≡ false
fails_now [] test never = never
fails_now (e ∷ past) test never = (or_parts (test (e ∷ past)) (ever_holds test past) never).0

-- a test that holds since a position holds at this state
pub holds_now : (past : List Entry) (test : List Entry → Bool) (s : ℕ) → HoldsSince past test s → test past ≡ true
holds_now past test s h = sym (ap test (last_instant past)) ∙ h.after (length past) h.within (omega arith)

-- a test that did not hold and holds with one more entry holds since that entry
pub since_newest : (e : Entry) (past : List Entry) (test : List Entry → Bool) → test past ≡ false → test (e ∷ past) ≡ true → HoldsSince (e ∷ past) test (length past)
since_newest e past test before after = grind (arith, instants_stay, last_instant past, one_more_instant e past)

-- a test that holds since a position, and holds with one more entry, holds since the same position
pub since_more : (e : Entry) (past : List Entry) (test : List Entry → Bool) (s : ℕ) → HoldsSince past test s → test (e ∷ past) ≡ true → HoldsSince (e ∷ past) test s
since_more e past test s h after = grind (arith, instants_stay, cases_lt, one_more_instant e past)

-- ---- the value of a process, with one more entry

module _ (e : Entry) (past : List Entry) (test : List Entry → Bool) where
  -- a value is unchanged if the entry does not change its test
  pub still_stands : (standing : Validity) → test (e ∷ past) ≡ test past → IsValidity past test standing → IsValidity (e ∷ past) test standing
  still_stands Never same h = or_from (test (e ∷ past)) (ever_holds test past) (same ∙ fails_now past test h) h
  still_stands (Holds since) same h = since_more e past test since h (same ∙ holds_now past test since h)
  still_stands (Ended span) same h = (
    (since_more e past (λ state. not (test state)) span.to h.0.0 (ap not same ∙ holds_now past (λ state. not (test state)) span.to h.0.0), or_right (test (e ∷ past)) (ever_holds test past) h.0.1),
    subst (λ state. HoldsSince state test span.from) (sym (instants_stay e past span.to (let within = h.0.0.within in omega (arith, within)))) h.1,
  )

-- no fact holds before the first entry
pub stand_none : (test : ℕ → List Entry → Bool) (n : ℕ) → ((p : ℕ) → test p [] ≡ false) → AreValidities [] test (replicate n Never)
stand_none test n none = λ p below. subst (IsValidity [] (test p)) (sym (get_or-replicate n p Never Never (omega (arith, below, length-replicate n Never)))) (none p)

-- the first n values are those of the first n processes
pub stand_first : (past : List Entry) (test : ℕ → List Entry → Bool) (standings : List Validity) (n : ℕ) → AreValidities past test standings → AreValidities past test (take n standings)
stand_first past test standings n h = λ p below.
    grind (arith, length-take n standings, get_or-take n standings p Never (omega (arith, below, length-take n standings)))

-- a fact that is over held before, and does not hold at this state
pub lost_now : (past : List Entry) (test : List Entry → Bool) (s : ℕ) → IsOverSince past test s → (ever_holds test past && not (test past)) ≡ true
lost_now past test s h = and_from (ever_holds test past) (not (test past)) h.1 (holds_now past (λ state. not (test state)) s h.0)

-- all values are unchanged if no test changes
pub stand_unchanged : (e : Entry) (past : List Entry) (test : ℕ → List Entry → Bool) (standings : List Validity) → ((p : ℕ) → test p (e ∷ past) ≡ test p past) → AreValidities past test standings → AreValidities (e ∷ past) test standings
stand_unchanged e past test standings same h = λ p below. still_stands e past (test p) (get_or standings p Never) (same p) (h p below)

-- the values, if the one whose test changes is set
pub stand_changed : (e : Entry) (past : List Entry) (test : ℕ → List Entry → Bool) (standings : List Validity) (q : ℕ) (standing : Validity) → q < length standings
    → ((p : ℕ) → (p ≡ q → ⊥) → test p (e ∷ past) ≡ test p past) → IsValidity (e ∷ past) (test q) standing → AreValidities past test standings → AreValidities (e ∷ past) test (slice_set standings q standing)
stand_changed e past test standings q standing within same new h = λ p below.
    grind (arith, eqb_tells p q, get_or-set_same standings q standing Never within, get_or-set_other, still_stands, length-set standings q standing)

-- the values after the entry at a position, by those before it
pub stand_next : (entries : List Entry) (i : ℕ) (e : Entry) (change : Change) (test : ℕ → List Entry → Bool) (old new : List Validity) → i < length entries → e ≡ get_or entries i e
    → ((test : ℕ → List Entry → Bool) (e : Entry) (past : List Entry) → length past ≡ i → IsChangeOf test e change → AreValidities past test old → AreValidities (e ∷ past) test new)
    → IsChangeOf test e change → AreValidities (past_at entries i) test old → AreValidities (past_at entries (i + 1)) test new
stand_next entries i e change test old new below is noted tells stand = grind (arith, past_more entries i e below is, past_length)

-- ---- lists of processes that pass a test, built process by process

-- the processes that pass, with one process more
passing_more : (n : ℕ) (test : ℕ → Bool) → members_below (n + 1) test ≡ members_below n test ++ cond (test n) (n ∷ []) []
passing_more n test = simp map-id at (filter_of_map_range_with_len_more test (λ x. x) 0 n n (omega arith))

-- the list with the next process, which passes
pub tells_one : {X : Type 0} (n : ℕ) (test : ℕ → Bool) (process : X → ℕ) (IsRight : X → Type 0) (told : List X) (x : X)
    → ListsExactly n test process IsRight told → process x ≡ n → test n ≡ true → IsRight x → ListsExactly (n + 1) test process IsRight (told ++ x ∷ [])
tells_one n test process IsRight told x h is passes right =
    grind (arith, map-append process told (x ∷ []), passing_more n test, All-push IsRight told x h.each right)

-- the list without the next process, which does not pass
pub tells_skipped : {X : Type 0} (n : ℕ) (test : ℕ → Bool) (process : X → ℕ) (IsRight : X → Type 0) (told : List X)
    → ListsExactly n test process IsRight told → test n ≡ false → ListsExactly (n + 1) test process IsRight told
tells_skipped n test process IsRight told h fails = grind (arith, append-nil (members_below n test), passing_more n test)

-- ---- the entry by which a log loses a determinant

-- the entry at a position, and the instants before and after it
next_instant : (past : List Entry) (s : ℕ) → s < length past → (e : Entry) × (entry_at past s ≡ Some e) × (instant past (s + 1) ≡ e ∷ instant past s)
next_instant [] s below = absurd (omega (arith, below))
next_instant (e ∷ past) s below = elim (eqb_tells s (length past)) [
  | inl here ↦ (e, cond-true _ _ _ here.0, grind (arith, one_more_instant e past, instants_stay e past (length past), last_instant past))
  | inr apart ↦
      let low : s < length past = let ne : s ≡ length past → ⊥ = apart.1 in omega (arith, below) in
      let older = next_instant past s low in
      (older.0, cond-false _ _ _ apart.0 ∙ older.1, instants_stay e past (s + 1) (omega (arith, low)) ∙ older.2 ∙ ap (λ x. older.0 ∷ x) (sym (instants_stay e past s (omega (arith, low)))))
]

-- an entry by which a log loses a determinant is a crash or a forgetting
loses : (e : Entry) (past : List Entry) (p : ℕ) (d : Det) → logs past p d ≡ true → logs (e ∷ past) p d ≡ false → Loses e p d (lost_by (Some e))
loses e past p d held gone = grind (arith, eqb-true)

-- a loss with the kind of its entry is true
pub is_loss : (past : List Entry) (d : Det) (x : Loss) → HoldsSince (instant past x.lost) (λ state. logs state x.process d) x.since → HoldsSince past (λ state. not (logs state x.process d)) x.lost → x.by ≡ lost_by (entry_at past x.lost) → IsLoss past d x
is_loss past d x held since by =
    grind (
      arith,
      next_instant past x.lost since.within,
      not_false,
      not-true,
      loses (next_instant past x.lost since.within).0 (instant past x.lost) x.process d (not_false _ since.before) (ap (λ state. logs state x.process d) (sym (next_instant past x.lost since.within).2) ∙ not-true _ (since.after (x.lost + 1) (omega arith) (omega (arith, since.within)))),
    )
