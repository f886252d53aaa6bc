-- Each determinant that an entry mentions is that of a delivery, so it has a number.
use Rattle.causal_audit.proofs.Common.{ℕ, ◌≡◌, ◌≤◌, true, List, [], ◌∷◌, length, reverse, take, None, refl, sym, ap, subst, ◌∙◌, arith, not, ◌||◌, All, All-cons, All-nil, All-permutation, All-weaker, is_some, cases_lt, cond-true, cond-false, or_right, take_all, reverse-reverse, Det, Entry, Deliver, Stable, Restart, Forget, Recording, AreLegalEntries, accepted_then, deliveries_in, det_of, entries_of, first_fault, instant, instants_stay, one_more_instant, row_fails}
use Rattle.std.proofs.lemmas.List.Sums.{AllPass-from_list_all}
use Rattle.std.proofs.lemmas.List.Sorted.{IsPermutation-reverse}
use Rattle.causal_trace.specs.Past.{is_delivered, is_det, mentioned_dets}
use Rattle.causal_trace.specs.Numbers.{delivered_dets, number_of}
use Rattle.causal_trace.specs.Rows.{are_delivered, are_delivered_with, rows_within, refusal_rows}
use Rattle.causal_trace.specs.declared.fault.TraceFault.TheVariants.{NoDelivery}
use Rattle.causal_trace.proofs.Lemmas.DeliveryNumbers.{delivered_numbered, listed_once}
use Rattle.causal_trace.proofs.Lemmas.EntryFacts.{not_false}
use Rattle.causal_audit.specs.Inside.Index.Lists.{HaveNumbers}
use Rattle.causal_audit.proofs.Steps.{begins}

-- ---- mentioned determinants are those of deliveries

abbrev AreDelivered : List Entry → List Det → Type 0
AreDelivered past dets = All (λ d. is_delivered past d ≡ true) dets

delivered_still : (e : Entry) (past : List Entry) (dets : List Det) → AreDelivered past dets → AreDelivered (e ∷ past) dets
delivered_still e past dets all = All-weaker (λ d. is_delivered past d ≡ true) (λ d. is_delivered (e ∷ past) d ≡ true) (λ d h. or_right (is_det (det_of past e) d) (is_delivered past d) h) dets all

-- by the next legal entry
next_delivered : (n : ℕ) (past : List Entry) (e : Entry) → first_fault n past e ≡ None → AreDelivered (e ∷ past) (mentioned_dets e)
unfolding rows_within
next_delivered n past (Deliver to send rsn listed) legal =
    let e : Entry = Deliver to send rsn listed in
    AllPass-from_list_all (λ d. is_det (det_of past e) d || is_delivered past d) listed (not_false (are_delivered_with past (det_of past e) listed) (row_fails (refusal_rows n past e) legal 7 (not (are_delivered_with past (det_of past e) listed), NoDelivery) refl))
next_delivered n past (Stable det) legal =
    let told = not_false (is_delivered past det) (row_fails (refusal_rows n past (Stable det)) legal 1 (not (is_delivered past det), NoDelivery) refl) in
    delivered_still (Stable det) past (det ∷ []) (All-cons (λ d. is_delivered past d ≡ true) det [] told (All-nil (λ d. is_delivered past d ≡ true)))
next_delivered n past (Restart who listed) legal =
    delivered_still (Restart who listed) past listed (AllPass-from_list_all (is_delivered past) listed (not_false (are_delivered past listed) (row_fails (refusal_rows n past (Restart who listed)) legal 5 (not (are_delivered past listed), NoDelivery) refl)))
next_delivered n past (Forget who listed) legal =
    delivered_still (Forget who listed) past listed (AllPass-from_list_all (is_delivered past) listed (not_false (are_delivered past listed) (row_fails (refusal_rows n past (Forget who listed)) legal 4 (not (are_delivered past listed), NoDelivery) refl)))
next_delivered n past e legal = All-nil (λ d. is_delivered (e ∷ past) d ≡ true)

-- by each entry
all_delivered : (n : ℕ) (past : List Entry) → AreLegalEntries n past → All (λ e. AreDelivered past (mentioned_dets e)) past
all_delivered n [] legal = All-nil (λ e. AreDelivered [] (mentioned_dets e))
all_delivered n (e ∷ past) legal =
    All-cons (λ x. AreDelivered (e ∷ past) (mentioned_dets x)) e past (next_delivered n past e legal.1)
    (All-weaker (λ x. AreDelivered past (mentioned_dets x)) (λ x. AreDelivered (e ∷ past) (mentioned_dets x)) (λ x. delivered_still e past (mentioned_dets x)) past (all_delivered n past legal.0))

-- ---- so they have numbers

-- a delivery before an instant has a number among as many deliveries as there are before it, or more
number_then : (past : List Entry) (end many : ℕ) (d : Det) → end ≤ length past → deliveries_in (instant past end) ≤ many → is_delivered (instant past end) d ≡ true → is_some (number_of many (delivered_dets past) d) ≡ true
number_then [] end many d within few h = grind arith
number_then (e ∷ past) end many d within few h =
    grind (arith, cases_lt (length past) end, one_more_instant e past, delivered_numbered many (e ∷ past) d, listed_once (e ∷ past), instants_stay e past end, cond-true, cond-false, number_then past end many d)

-- the determinants that entries before an instant mention have numbers among these deliveries
pub mentioned_numbered : (r : Recording) (es : List Entry) → es ≡ entries_of r → AreLegalEntries r.processes r.past → (end many : ℕ) → end ≤ length r.past → deliveries_in (instant r.past end) ≤ many
    → All (λ e. HaveNumbers many (delivered_dets r.past) (mentioned_dets e)) (take end es)
mentioned_numbered r es read legal end many within few =
    let then = instant r.past end in
    let P : Entry → Type 0 = λ e. HaveNumbers many (delivered_dets r.past) (mentioned_dets e) in
    let each : All P then = All-weaker (λ e. AreDelivered then (mentioned_dets e)) P (λ e.
    All-weaker (λ d. is_delivered then d ≡ true) (λ d. is_some (number_of many (delivered_dets r.past) d) ≡ true) (λ d. number_then r.past end many d within few) (mentioned_dets e)) then (all_delivered r.processes then (accepted_then r.processes r.past end legal)) in
    let es_then = take end es in
    let back : reverse then ≡ es_then = ap reverse (sym (begins r es read end within)) ∙ reverse-reverse (take (length es_then) es_then) ∙ take_all (length es_then) es_then (omega arith) in
    subst (All P) back (All-permutation P then (reverse then) (IsPermutation-reverse then) each)
