-- The definitions agree with their other forms.
use Rattle.std.proofs.Common.{ℕ, List, [], ◌∷◌, ◌++◌, refl, sym, subst, arith, ◌≡◌, true, length, Some, None}
use Rattle.std.proofs.lemmas.Option.{slice_get-get_or}
use Rattle.std.proofs.lemmas.Bool.{eqb-true, cond-true, cond-false, eq-eqb, ne_eqb, false≢true}
use Rattle.causal_trace.specs.declared.entry.Entry.{Entry}
use Rattle.causal_trace.specs.declared.entry.Entry.TheVariants.{Send, Deliver, Stable, Crash, Restart, Forget}
use Rattle.causal_trace.specs.Dependence.{DirectlyPrecedes, Reaches, itself, onward, IsEventOf}
use Rattle.causal_trace.specs.Laws.{InstantsArePrefixes, InstantsKeepPlaces, DownIsLastTransition, LogIsLastListing, IsPath, ReachesByPath, SendsAreCounted, DeliveriesAreCounted, DeliveredAtPosition, StableAtPosition}
use Rattle.causal_trace.proofs.Lemmas.Instants.{entry_there, instant_past, entry_beyond}
use Rattle.causal_trace.proofs.Lemmas.EntryFacts.{delivers_up, restarts_down}
use Rattle.std.specs.Prelude.{◌==◌}
use Rattle.std.proofs.lemmas.Bool.Decides.{eqb_tells}
use Rattle.causal_name.specs.declared.Det.{Det}
use Rattle.causal_name.proofs.Lemmas.DetOrder.{same_itself}
use Rattle.causal_trace.specs.Past.{entry_at, is_stable}
use Rattle.causal_trace.proofs.Lemmas.DeliveredDets.{found_det, at_delivered}

-- instants

-- instant t of a run is the state after its first t entries
pub instants_prefixes : InstantsArePrefixes
instants_prefixes = instant_past

-- at an instant, the entry at each position is the run's
pub instants_keep_places : InstantsKeepPlaces
instants_keep_places entries t k within below = grind (arith, entry_there entries t k (Crash (record { 0 = 0 })) within below, slice_get-get_or)

-- down processes

-- a process is down if and only if its last crash or restart is a crash
pub down_last : DownIsLastTransition
down_last [] p = refl
down_last (Send from to ssn ∷ past) p = down_last past p
down_last (Deliver to send rsn listed ∷ past) p = down_last past p
down_last (Stable d ∷ past) p = down_last past p
down_last (Crash who ∷ past) p = grind (arith, down_last past p)
down_last (Restart who listed ∷ past) p = grind (arith, down_last past p)
down_last (Forget who listed ∷ past) p = down_last past p

-- paths

path_more : (past : List Entry) (i : ℕ) (over : List ℕ) (j k : ℕ) → IsPath past i over j → DirectlyPrecedes past j k → IsPath past i (over ++ k ∷ []) k
path_more past i [] j k h d = (subst (λ x. DirectlyPrecedes past x k) (sym h) d, refl)
path_more past i (m ∷ over) j k h d = (h.0, path_more past m over j k h.1 d)

by_path : (past : List Entry) (i j : ℕ) → Reaches past i j → ((p : ℕ) × (l : ℕ) × IsEventOf past i p l) × ((over : List ℕ) × IsPath past i over j)
by_path past i j (itself p l at) = ((p, l, at), ([], refl))
by_path past i k (onward {j = j} r d) = let before = by_path past i j r in (before.0, (before.1.0 ++ k ∷ [], path_more past i before.1.0 j k before.1.1 d))

along : (past : List Entry) (i k : ℕ) (over : List ℕ) (j : ℕ) → Reaches past i k → IsPath past k over j → Reaches past i j
along past i k [] j r h = subst (λ x. Reaches past i x) h r
along past i k (m ∷ over) j r h = along past i m over j (onward r h.0) h.1

-- i reaches j if and only if there is a path from i to j
pub reaches_path : ReachesByPath
reaches_path past i j = (by_path past i j, λ h. along past i i h.1.0 j (itself h.0.0 h.0.1 h.0.2) h.1.1)

-- logs

-- a process that is up logs d if and only if the last entry of its lane that lists d is not a forget entry
pub log_last : LogIsLastListing
log_last n [] p d t = refl
log_last n (Send from to ssn ∷ past) p d t = log_last n past p d t.0
log_last n (Deliver to send rsn listed ∷ past) p d t = grind (arith, eqb-true, delivers_up, log_last n past p d t.0)
log_last n (Stable det ∷ past) p d t = log_last n past p d t.0
log_last n (Crash who ∷ past) p d t = grind (arith, eqb-true, log_last n past p d t.0)
log_last n (Restart who listed ∷ past) p d t = grind (arith, eqb-true, restarts_down, log_last n past p d t.0)
log_last n (Forget who listed ∷ past) p d t = grind (arith, eqb-true, log_last n past p d t.0)

-- counts

-- the send count of the present lane is the number of its send entries
pub sends_counted : SendsAreCounted
sends_counted [] p = refl
sends_counted (Send from to ssn ∷ past) p = grind (arith, sends_counted past p)
sends_counted (Deliver to send rsn listed ∷ past) p = sends_counted past p
sends_counted (Stable d ∷ past) p = sends_counted past p
sends_counted (Crash who ∷ past) p = sends_counted past p
sends_counted (Restart who listed ∷ past) p = grind (arith, sends_counted past p)
sends_counted (Forget who listed ∷ past) p = sends_counted past p

-- the delivery count of the present lane is the number of its delivery entries
pub deliveries_counted : DeliveriesAreCounted
deliveries_counted [] p = refl
deliveries_counted (Send from to ssn ∷ past) p = deliveries_counted past p
deliveries_counted (Deliver to send rsn listed ∷ past) p = grind (arith, deliveries_counted past p)
deliveries_counted (Stable d ∷ past) p = deliveries_counted past p
deliveries_counted (Crash who ∷ past) p = deliveries_counted past p
deliveries_counted (Restart who listed ∷ past) p = grind (arith, deliveries_counted past p)
deliveries_counted (Forget who listed ∷ past) p = deliveries_counted past p

-- delivered determinants

-- d is delivered if and only if the delivery at some position has this determinant
pub delivered_at_position : DeliveredAtPosition
delivered_at_position past d = (found_det past d, λ h. at_delivered past d h.0 h.1)

-- stable determinants

newest_write : (past : List Entry) (d : Det) → (k : ℕ) × (entry_at (Stable d ∷ past) k ≡ Some (Stable d))
newest_write past d = (length past, cond-true (length past == length past) (Some (Stable d)) (entry_at past (length past)) (eq-eqb (length past) (length past) refl))

found_write : (past : List Entry) (d : Det) → is_stable past d ≡ true → (k : ℕ) × (entry_at past k ≡ Some (Stable d))
found_write [] d h = absurd (false≢true h)
found_write (e ∷ past) d h = grind (arith, newest_write past d, entry_beyond, ne_eqb, found_write past d)

told_write : (past : List Entry) (d : Det) (k : ℕ) → entry_at past k ≡ Some (Stable d) → is_stable past d ≡ true
told_write [] d k h = absurd (let e : None ≡ Some (Stable d) = h in cc)
told_write (e ∷ past) d k h = grind (arith, eqb_tells, cond-true, same_itself, told_write past d k, cond-false)

-- d is stable if and only if the entry at some position writes it
pub stable_at_position : StableAtPosition
stable_at_position past d = (found_write past d, λ h. told_write past d h.0 h.1)
