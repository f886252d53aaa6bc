-- Queries of a state: who is down, lanes, counts, volatile logs, stable storage.
-- A state is its past: the list of its entries, newest first. Positions count from the oldest entry, so the newest
-- entry of `e ∷ past` has position `length past`.
use Rattle.std.specs.Prelude.{ℕ, ◌+◌, ◌-◌, Bool, false, not, ◌==◌, ◌&&◌, ◌||◌, if◌then◌else◌, List, [], ◌∷◌, length, drop, Option, Some, None}
use Rattle.std.specs.List.{list_any}
use Rattle.std.specs.Option.{option_map, option_map_or, option_and_then}
use Rattle.causal_name.specs.Names.{same_det, same_message}
use Rattle.causal_name.specs.declared.Pid.{Pid}
use Rattle.causal_name.specs.declared.Det.{Det}
use Rattle.causal_name.specs.declared.MsgName.{MsgName}
use Rattle.causal_trace.specs.declared.entry.Entry.{Entry}
use Rattle.causal_trace.specs.declared.entry.Entry.TheVariants.{Send, Deliver, Stable, Crash, Restart, Forget}

-- instant t of a run: the state after its first t entries
abbrev pub instant : List Entry → ℕ → List Entry
instant past t = drop (length past - t) past

-- the entry at a position
abbrev pub entry_at : List Entry → ℕ → Option Entry
entry_at [] i = None
entry_at (e ∷ past) i = if i == length past then Some e else entry_at past i

-- the line of the entry at a position in the trace's text; lines count from 1, and line 1 is the header
abbrev pub line_at : ℕ → ℕ
line_at position = position + 2

-- p is down if its last crash or restart is a crash
abbrev pub is_down : List Entry → ℕ → Bool
is_down [] p = false
is_down (Crash who ∷ past) p = who.0 == p || is_down past p
is_down (Restart who listed ∷ past) p = not (who.0 == p) && is_down past p
is_down (_ ∷ past) p = is_down past p

-- the lane (incarnation) of p: the number of its restarts
abbrev pub lane : List Entry → ℕ → ℕ
lane [] p = 0
lane (Restart who listed ∷ past) p = if who.0 == p then lane past p + 1 else lane past p
lane (_ ∷ past) p = lane past p

-- how many messages p's present lane has sent
abbrev pub sends : List Entry → ℕ → ℕ
sends [] p = 0
sends (Send from to ssn ∷ past) p = if from.0 == p then sends past p + 1 else sends past p
sends (Restart who listed ∷ past) p = if who.0 == p then 0 else sends past p
sends (_ ∷ past) p = sends past p

-- how many messages p's present lane has delivered
abbrev pub deliveries : List Entry → ℕ → ℕ
deliveries [] p = 0
deliveries (Deliver to send rsn listed ∷ past) p = if to.0 == p then deliveries past p + 1 else deliveries past p
deliveries (Restart who listed ∷ past) p = if who.0 == p then 0 else deliveries past p
deliveries (_ ∷ past) p = deliveries past p

-- the message that an entry sends
abbrev pub message_sent : Entry → Option MsgName
message_sent (Send from to ssn) = Some (record { source = from; ssn = ssn })
message_sent _ = None

-- the message that the entry at a position sends
abbrev pub message_at : List Entry → ℕ → Option MsgName
message_at past send = option_and_then message_sent (entry_at past send)

-- whether the entry is a send to p
abbrev pub is_send_to : ℕ → Entry → Bool
is_send_to p (Send from to ssn) = to.0 == p
is_send_to p _ = false

-- whether the entry at a position is a send to p
abbrev pub is_sent_to : List Entry → ℕ → ℕ → Bool
is_sent_to past send p = option_map_or (is_send_to p) (entry_at past send) false

-- the determinant of a delivery: its message's sender and number, its receiver and its number there
abbrev pub det_from : Pid → ℕ → MsgName → Det
det_from to rsn m = record { source = m.source; ssn = m.ssn; dest = to; rsn = rsn }

-- the determinant of a delivery entry that follows this past
abbrev pub det_of : List Entry → Entry → Option Det
det_of past (Deliver to send rsn listed) = option_map (det_from to rsn) (message_at past send)
det_of past _ = None

-- the determinant of the delivery at a position
abbrev pub det_at : List Entry → ℕ → Option Det
det_at [] k = None
det_at (e ∷ past) k = if k == length past then det_of past e else det_at past k

-- whether an optional determinant is d
abbrev pub is_det : Option Det → Det → Bool
is_det own d = option_map_or (λ e. same_det e d) own false

-- whether an optional message is m
abbrev pub is_message : Option MsgName → MsgName → Bool
is_message found m = option_map_or (λ k. same_message k m) found false

-- whether d is the determinant of a delivery, in any lane
abbrev pub is_delivered : List Entry → Det → Bool
is_delivered [] d = false
is_delivered (e ∷ past) d = is_det (det_of past e) d || is_delivered past d

-- whether p's present lane has delivered this message
abbrev pub has_delivered : List Entry → ℕ → MsgName → Bool
has_delivered [] p m = false
has_delivered (Deliver to send rsn listed ∷ past) p m = (to.0 == p && is_message (message_at past send) m) || has_delivered past p m
has_delivered (Restart who listed ∷ past) p m = not (who.0 == p) && has_delivered past p m
has_delivered (_ ∷ past) p m = has_delivered past p m

-- whether a list contains d
abbrev pub list_has : List Det → Det → Bool
list_has listed d = list_any (same_det d) listed

-- whether p's volatile log contains d: deliveries and restarts add what they list, forget entries remove it, and a
-- crash empties the log
abbrev pub logs : List Entry → ℕ → Det → Bool
logs [] p d = false
logs (Deliver to send rsn listed ∷ past) p d = (to.0 == p && list_has listed d) || logs past p d
logs (Crash who ∷ past) p d = not (who.0 == p) && logs past p d
logs (Restart who listed ∷ past) p d = (who.0 == p && list_has listed d) || logs past p d
logs (Forget who listed ∷ past) p d = not (who.0 == p && list_has listed d) && logs past p d
logs (_ ∷ past) p d = logs past p d

-- whether d is in stable storage
abbrev pub is_stable : List Entry → Det → Bool
is_stable [] d = false
is_stable (Stable det ∷ past) d = same_det d det || is_stable past d
is_stable (_ ∷ past) d = is_stable past d

-- the determinants that an entry lists
abbrev pub listed_by : Entry → List Det
listed_by (Deliver to send rsn listed) = listed
listed_by (Restart who listed) = listed
listed_by (Forget who listed) = listed
listed_by _ = []

-- the determinants that an entry mentions: those that it lists, and the one that it writes to stable storage
abbrev pub mentioned_dets : Entry → List Det
mentioned_dets (Stable det) = det ∷ []
mentioned_dets e = listed_by e

-- how many determinants the entries list in all
abbrev pub listed_in : List Entry → ℕ
listed_in [] = 0
listed_in (e ∷ past) = listed_in past + length (listed_by e)

-- the number of restarts
abbrev pub restarts : List Entry → ℕ
restarts [] = 0
restarts (Restart who listed ∷ past) = restarts past + 1
restarts (_ ∷ past) = restarts past

-- the number of deliveries
abbrev pub deliveries_in : List Entry → ℕ
deliveries_in [] = 0
deliveries_in (Deliver to send rsn listed ∷ past) = deliveries_in past + 1
deliveries_in (_ ∷ past) = deliveries_in past
