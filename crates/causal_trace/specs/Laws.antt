-- Other forms of the definitions of states, counts, logs and happened-before.
use Rattle.std.specs.Prelude.{◌≡◌, ℕ, ◌+◌, ◌≤◌, ◌<◌, ◌↔◌, Bool, true, false, not, ◌==◌, ◌&&◌, if◌then◌else◌, List, [], ◌∷◌, length, reverse, slice_get, Some}
use Rattle.std.specs.List.{filter, find}
use Rattle.std.specs.Option.{option_map_or}
use Rattle.causal_name.specs.declared.Det.{Det}
use Rattle.causal_trace.specs.declared.entry.Entry.{Entry}
use Rattle.causal_trace.specs.declared.entry.Entry.TheVariants.{Send, Deliver, Stable, Crash, Restart, Forget}
use Rattle.causal_trace.specs.Past.{instant, entry_at, is_down, sends, deliveries, det_at, is_delivered, list_has, logs, is_stable}
use Rattle.causal_trace.specs.Rows.{AreLegalEntries}
use Rattle.causal_trace.specs.State.{past_at}
use Rattle.causal_trace.specs.Dependence.{DirectlyPrecedes, Reaches, IsEventOf}

-- instant t of a run with these entries, oldest first, is the state after the first t of them
abbrev pub InstantsArePrefixes : Type 0
InstantsArePrefixes = (entries : List Entry) (t : ℕ) → t ≤ length entries → instant (reverse entries) t ≡ past_at entries t

-- one more entry leaves the earlier instants unchanged
abbrev pub InstantsPersist : Type 0
InstantsPersist = (e : Entry) (past : List Entry) (t : ℕ) → t ≤ length past → instant (e ∷ past) t ≡ instant past t

-- one more entry adds one instant, which is the whole state
abbrev pub OneMoreInstant : Type 0
OneMoreInstant = (e : Entry) (past : List Entry) → instant (e ∷ past) (length past + 1) ≡ e ∷ past

-- at instant t, the entry at each position below t is the run's entry there
abbrev pub InstantsKeepPlaces : Type 0
InstantsKeepPlaces = (entries : List Entry) (t k : ℕ) → t ≤ length entries → k < t → entry_at (past_at entries t) k ≡ slice_get entries k

-- whether the entry is a crash
abbrev pub is_crash : Entry → Bool
is_crash (Crash who) = true
is_crash _ = false

-- whether the entry is a crash or a restart of p
abbrev pub is_transition_of : ℕ → Entry → Bool
is_transition_of p (Crash who) = who.0 == p
is_transition_of p (Restart who listed) = who.0 == p
is_transition_of p _ = false

-- p is down if and only if its last crash or restart is a crash
abbrev pub DownIsLastTransition : Type 0
DownIsLastTransition = (past : List Entry) (p : ℕ) → is_down past p ≡ option_map_or is_crash (find (is_transition_of p) past) false

-- whether the entry is a delivery to p, or a restart or a forget entry of p, that lists d
abbrev pub lists_for : ℕ → Det → Entry → Bool
lists_for p d (Deliver to send rsn listed) = to.0 == p && list_has listed d
lists_for p d (Restart who listed) = who.0 == p && list_has listed d
lists_for p d (Forget who listed) = who.0 == p && list_has listed d
lists_for p d _ = false

-- whether the entry is a forget entry
abbrev pub is_forgetting : Entry → Bool
is_forgetting (Forget who listed) = true
is_forgetting _ = false

-- the entries since p's present lane (incarnation) began, with the restart that began it, if any
abbrev pub present_lane_entries : List Entry → ℕ → List Entry
present_lane_entries [] p = []
present_lane_entries (Restart who listed ∷ past) p = if who.0 == p then Restart who listed ∷ [] else Restart who listed ∷ present_lane_entries past p
present_lane_entries (e ∷ past) p = e ∷ present_lane_entries past p

-- in a well-formed trace, a process that is up logs d if and only if the last entry of its lane that lists d is not a
-- forget entry; a down process logs nothing
abbrev pub LogIsLastListing : Type 0
LogIsLastListing =
    (n : ℕ) (past : List Entry) (p : ℕ) (d : Det) → AreLegalEntries n past
    → logs past p d ≡ (not (is_down past p) && option_map_or (λ e. not (is_forgetting e)) (find (lists_for p d) (present_lane_entries past p)) false)

-- whether the entry is a send of p
abbrev pub is_send_of : ℕ → Entry → Bool
is_send_of p (Send from to ssn) = from.0 == p
is_send_of p _ = false

-- whether the entry is a delivery to p
abbrev pub is_delivery_to : ℕ → Entry → Bool
is_delivery_to p (Deliver to send rsn listed) = to.0 == p
is_delivery_to p _ = false

-- the send count of p's present lane is the number of its send entries
abbrev pub SendsAreCounted : Type 0
SendsAreCounted = (past : List Entry) (p : ℕ) → sends past p ≡ length (filter (is_send_of p) (present_lane_entries past p))

-- the delivery count of p's present lane is the number of its delivery entries
abbrev pub DeliveriesAreCounted : Type 0
DeliveriesAreCounted = (past : List Entry) (p : ℕ) → deliveries past p ≡ length (filter (is_delivery_to p) (present_lane_entries past p))

-- d is delivered if and only if the delivery at some position has this determinant
abbrev pub DeliveredAtPosition : Type 0
DeliveredAtPosition = (past : List Entry) (d : Det) → (is_delivered past d ≡ true) ↔ ((k : ℕ) × (det_at past k ≡ Some d))

-- d is stable if and only if the entry at some position writes it to stable storage
abbrev pub StableAtPosition : Type 0
StableAtPosition = (past : List Entry) (d : Det) → (is_stable past d ≡ true) ↔ ((k : ℕ) × (entry_at past k ≡ Some (Stable d)))

-- a path from i over these positions to j: each directly precedes the next
abbrev pub IsPath : List Entry → ℕ → List ℕ → ℕ → Type 0
IsPath past i [] j = i ≡ j
IsPath past i (k ∷ ks) j = DirectlyPrecedes past i k × IsPath past k ks j

-- i reaches j if and only if i is an event and there is a path from i to j
abbrev pub ReachesByPath : Type 0
ReachesByPath = (past : List Entry) (i j : ℕ) → Reaches past i j ↔ (((p : ℕ) × (l : ℕ) × IsEventOf past i p l) × ((over : List ℕ) × IsPath past i over j))
