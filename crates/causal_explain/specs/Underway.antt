-- A determinant in transit at an instant: a message sent before brings it to a process only afterwards.
use Rattle.std.specs.Prelude.{◌≡◌, ℕ, ◌≤◌, ◌<◌, Bool, true, false, not, ◌&&◌, nat_lt, List, Option, None, Some, MatchOption}
use Rattle.std.specs.List.{list_any}
use Rattle.std.specs.Option.{option_map_or, option_and_then}
use Rattle.causal_name.specs.declared.Det.{Det}
use Rattle.causal_trace.specs.declared.entry.Entry.{Entry}
use Rattle.causal_trace.specs.declared.entry.Entry.TheVariants.{Send, Deliver}
use Rattle.causal_trace.specs.Dependence.{is_delivery_of}
use Rattle.causal_trace.specs.Past.{instant, entry_at, list_has, logs}

-- whether an entry is a send by a process whose volatile log has d at this state
abbrev pub is_sent_by_holder : List Entry → Det → Entry → Bool
is_sent_by_holder past d (Send from to ssn) = logs past from.0 d
is_sent_by_holder past d _ = false

-- whether the entry at position k is a send by a process whose volatile log then has d
abbrev pub holder_sends : List Entry → Det → ℕ → Bool
holder_sends past d k = option_map_or (is_sent_by_holder (instant past k) d) (entry_at past k) false

-- whether a process whose volatile log then has d sends at position k, and no entry of this state delivers the message
abbrev pub is_in_transit : List Entry → Det → ℕ → Bool
is_in_transit past d k = holder_sends past d k && not (list_any (is_delivery_of k) past)

-- whether an entry after this state is a delivery that lists d, by a process whose volatile log lacks d at the state, of
-- a message that is in transit there and that a holder sent before position k
abbrev pub arrives_late : List Entry → ℕ → Det → Entry → Bool
arrives_late past k d (Deliver to send rsn listed) = nat_lt send k && is_in_transit past d send && not (logs past to.0 d) && list_has listed d
arrives_late past k d _ = false

-- whether the entry at position j is such a delivery after instant t
abbrev pub is_late : List Entry → ℕ → ℕ → Det → ℕ → Bool
is_late past t k d j = option_map_or (arrives_late (instant past t) k d) (entry_at past j) false

-- j is the first position from t on with such a delivery
pub record IsFirstLate (past : List Entry) (t k : ℕ) (d : Det) (j : ℕ) : Type 0 where
  pub after : t ≤ j
  pub late : is_late past t k d j ≡ true
  pub first : (i : ℕ) → t ≤ i → i < j → is_late past t k d i ≡ false

-- the first such position; None if there is none
abbrev pub FirstLate : List Entry → ℕ → ℕ → Det → Option ℕ → Type 0
FirstLate past t k d found = MatchOption found ((j : ℕ) → t ≤ j → is_late past t k d j ≡ false) (IsFirstLate past t k d)

-- the position of the send whose message an entry delivers
abbrev pub send_delivered : Entry → Option ℕ
send_delivered (Deliver to send rsn listed) = Some send
send_delivered _ = None

-- the position of the send whose message the entry at a position delivers
abbrev pub delivered_send : List Entry → Option ℕ → Option ℕ
delivered_send past delivery = option_and_then (λ j. option_and_then send_delivered (entry_at past j)) delivery

-- the first late delivery of d by a message sent before the one that left d out; None if no message left it out
abbrev pub FirstUnderway : List Entry → ℕ → Det → Option ℕ → Option ℕ → Type 0
FirstUnderway past t d unlisted found = MatchOption (delivered_send past unlisted) (found ≡ None) (λ k. FirstLate past t k d found)
