-- Entries that are legal where they are make a trace, within its limits.
use Rattle.std.proofs.Common.{ℕ, ◌+◌, ◌≡◌, ◌<◌, ◌≤◌, Bool, true, false, not, nat_lt, nat_le, List, [], ◌∷◌, length, Some, None, refl, ap, ◌∙◌, arith}
use Rattle.std.specs.List.{list_any, list_all}
use Rattle.std.specs.Option.{option_map_or}
use Rattle.std.proofs.lemmas.Bool.{or_from, or_left, or_right, and_from, eq-eqb, cond-false, lt-ltb, le-ltb}
use Rattle.causal_name.specs.declared.Det.{Det}
use Rattle.causal_name.specs.Names.{same_det, is_ascending}
use Rattle.causal_name.proofs.Lemmas.DetOrder.{same_itself}
use Rattle.causal_trace.specs.declared.entry.Entry.{Entry}
use Rattle.causal_trace.specs.declared.entry.Entry.TheVariants.{Send, Deliver, Stable, Crash, Restart, Forget}
use Rattle.causal_trace.specs.declared.fault.TraceFault.{TraceFault}
use Rattle.causal_trace.specs.Limits.{max_entries, max_listed, max_restarts}
use Rattle.causal_trace.specs.Past.{list_has, is_down, sends, deliveries, message_at, is_sent_to, det_of, is_delivered, has_delivered, listed_by, listed_in, restarts}
use Rattle.causal_trace.specs.Rows.{exceeds_any_limit, are_delivered, are_delivered_with, rows_within, refusal_rows, first_refusal, first_fault, AreLegalEntries}

-- what makes an entry legal, within the limits of a trace
abbrev pub IsLegalHere : ℕ → List Entry → Entry → Type 0
IsLegalHere n past (Send from to ssn) = (from.0 < n) × (to.0 < n) × (is_down past from.0 ≡ false) × (ssn ≡ sends past from.0)
IsLegalHere n past (Deliver to send rsn listed) =
    (to.0 < n)
    × (is_down past to.0 ≡ false)
    × (is_sent_to past send to.0 ≡ true)
    × (rsn ≡ deliveries past to.0)
    × (option_map_or (has_delivered past to.0) (message_at past send) false ≡ false)
    × (is_ascending listed ≡ true)
    × (are_delivered_with past (det_of past (Deliver to send rsn listed)) listed ≡ true)
IsLegalHere n past (Stable det) = is_delivered past det ≡ true
IsLegalHere n past (Crash who) = (who.0 < n) × (is_down past who.0 ≡ false)
IsLegalHere n past (Restart who listed) = (who.0 < n) × (is_down past who.0 ≡ true) × (is_ascending listed ≡ true) × (are_delivered past listed ≡ true)
IsLegalHere n past (Forget who listed) = (who.0 < n) × (is_down past who.0 ≡ false) × (is_ascending listed ≡ true) × (are_delivered past listed ≡ true)

abbrev pub AreLegalHere : ℕ → List Entry → Type 0
AreLegalHere n [] = Unit {0}
AreLegalHere n (e ∷ past) = AreLegalHere n past × IsLegalHere n past e

-- a test of each listed determinant
pub all_from : (listed : List Det) (test : Det → Bool) → ((d : Det) → list_has listed d ≡ true → test d ≡ true) → list_all test listed ≡ true
all_from [] test h = refl
all_from (x ∷ xs) test h =
    and_from (test x) (list_all test xs) (h x (or_left (same_det x x) (list_any (same_det x) xs) (same_itself x))) (all_from xs test (λ d has. h d (or_right (same_det d x) (list_any (same_det d) xs) has)))

abbrev NoneHolds : List (Bool × TraceFault) → Type 0
NoneHolds [] = Unit {0}
NoneHolds (row ∷ rest) = (row.0 ≡ false) × NoneHolds rest

no_refusal : (rows : List (Bool × TraceFault)) → NoneHolds rows → first_refusal rows ≡ None
no_refusal [] h = refl
no_refusal (row ∷ rest) h = cond-false row.0 (Some row.1) (first_refusal rest) h.0 ∙ no_refusal rest h.1

not_up_to : (a b : ℕ) → b < a → nat_le a b ≡ false
not_up_to a b h = grind (arith, h)

module _ (n : ℕ) (past : List Entry) (count : length past + 1 ≤ max_entries) where
  within : (k : ℕ) → listed_in past + k ≤ max_listed → exceeds_any_limit past k ≡ false
  within k listed = or_from (nat_lt max_entries (length past + 1)) (nat_lt max_listed (listed_in past + k)) (le-ltb max_entries (length past + 1) count) (le-ltb max_listed (listed_in past + k) listed)

  is_process : (p : ℕ) → p < n → not (nat_lt p n) ≡ false
  is_process p low = ap not (lt-ltb p n low)

  legal_if : (e : Entry) → IsLegalHere n past e → listed_in past + length (listed_by e) ≤ max_listed → restarts (e ∷ past) ≤ max_restarts → first_fault n past e ≡ None
  unfolding rows_within
  legal_if (Send from to ssn) h listed lanes =
      no_refusal (refusal_rows n past (Send from to ssn)) (within 0 listed, (ap not (and_from (nat_lt from.0 n) (nat_lt to.0 n) (lt-ltb from.0 n h.0) (lt-ltb to.0 n h.1)), (h.2, (ap not (eq-eqb ssn (sends past from.0) h.3), tt))))
  legal_if (Deliver to send rsn listed) h few lanes =
      no_refusal (refusal_rows n past (Deliver to send rsn listed))
      (within (length listed) few, (is_process to.0 h.0, (h.1, (ap not h.2, (ap not (eq-eqb rsn (deliveries past to.0) h.3), (h.4, (ap not h.5, (ap not h.6, tt))))))))
  legal_if (Stable det) h listed lanes = no_refusal (refusal_rows n past (Stable det)) (within 0 listed, (ap not h, tt))
  legal_if (Crash who) h listed lanes = no_refusal (refusal_rows n past (Crash who)) (within 0 listed, (is_process who.0 h.0, (h.1, tt)))
  legal_if (Restart who listed) h few lanes =
      no_refusal (refusal_rows n past (Restart who listed)) (within (length listed) few, (is_process who.0 h.0, (ap not h.1, (not_up_to max_restarts (restarts past) (omega (arith, lanes)), (ap not h.2, (ap not h.3, tt))))))
  legal_if (Forget who listed) h few lanes = no_refusal (refusal_rows n past (Forget who listed)) (within (length listed) few, (is_process who.0 h.0, (h.1, (ap not h.2, (ap not h.3, tt)))))

fewer_restarts : (e : Entry) (past : List Entry) → restarts past ≤ restarts (e ∷ past)
fewer_restarts (Send from to ssn) past = omega arith
fewer_restarts (Deliver to send rsn listed) past = omega arith
fewer_restarts (Stable det) past = omega arith
fewer_restarts (Crash who) past = omega arith
fewer_restarts (Restart who listed) past = omega arith
fewer_restarts (Forget who listed) past = omega arith

pub are_legal : (n : ℕ) (past : List Entry) → AreLegalHere n past → length past ≤ max_entries → listed_in past ≤ max_listed → restarts past ≤ max_restarts → AreLegalEntries n past
are_legal n [] h count listed lanes = tt
are_legal n (e ∷ past) h count listed lanes =
    let fewer = fewer_restarts e past in
    (are_legal n past h.0 (omega (arith, count)) (omega (arith, listed)) (omega (arith, lanes, fewer)), legal_if n past (omega (arith, count)) e h.1 listed lanes)
