-- A volatile log as contracts see it: a map from determinants to what is known of them.
-- After Alvisi and Marzullo 1998.
use Rattle.std.specs.Prelude.{◌≡◌, ℕ, Bool, true, false, not, nat_le, ◌&&◌, ◌+◌, List, [], ◌∷◌, ◌++◌, map, filter, length, slice_get, count_by, Option, Some, None, is_none, unwrap_or, refl}
use Rattle.std.specs.Coded.{Coded, code_by, coded×, coded_ℕ}
use Rattle.std.specs.Option.{option_map}
use Rattle.std.specs.List.{list_any}
use Rattle.std.specs.FinMap as fin
use Rattle.std.specs.FinSet as set
use Rattle.causal_name.specs.declared.Det.{Det}
use Rattle.causal_name.specs.declared.MsgName.{MsgName}
use Rattle.causal_name.specs.declared.Pid.{Pid}
use Rattle.causal_name.specs.declared.Slot.{Slot}
use Rattle.causal_name.specs.Names.{det_cmp, same_pid, same_det, message_of, is_ascending}
use Rattle.causal_log.specs.declared.known.Known.{Known}
use Rattle.causal_log.specs.declared.batch.Item.{Item}
use Rattle.causal_log.specs.Slots.{first_of_slot}
use Rattle.causal_log.specs.Knowledge.{unknown, held_by, union_with, as_stable, knowledge_from_item, is_carried, coded_det, coded_known}

-- what is known of each logged determinant
abbrev pub LogMap : Type 0
LogMap = fin.FinMap det_cmp Known

-- what a contract sees of a log: the map, and how many insertions cannot fail to allocate
pub record LogState : Type 0 where
  pub map : LogMap
  pub spare : ℕ

abbrev pub coded_log : Coded LogState
coded_log =
    code_by (LogMap × ℕ) (coded× (fin.code coded_det coded_known) coded_ℕ)
    (λ log. (log.map, log.spare)) (λ p. record { map = p.0; spare = p.1 }) (λ _. refl)

-- the map that log entries make
abbrev pub log_of : List (Det × Known) → LogMap
log_of es = fin.from_entries es

-- what is known of a determinant, logged or not
abbrev pub known_of : LogMap → Det → Known
known_of log det = unwrap_or (fin.get log det) unknown

-- the determinants of a list that are not logged
abbrev pub not_logged_in : LogMap → List Det → List Det
not_logged_in log dets = filter (λ det. is_none (fin.get log det)) dets

-- a determinant is logged, and this is known of it
abbrev pub IsLogged : LogMap → Det → Known → Type 0
IsLogged log det known = fin.get log det ≡ Some known

-- the log entry at an index, by ascending determinant
abbrev pub IsEntryAt : LogMap → ℕ → Det → Known → Type 0
IsEntryAt log i det known = slice_get (fin.entries log) i ≡ Some (det, known)

-- two lists are equal as multisets: every test counts the same in both
abbrev pub SameMultiset : List Det → List Det → Type 0
SameMultiset dets others = (test : Det → Bool) → count_by test dets ≡ count_by test others

-- the log after this is learned of one determinant
abbrev pub after_learn : LogMap → Det → Known → LogMap
after_learn log det known = fin.insert log det (union_with (known_of log det) known)

-- the log after these entries are learned, one after the other
abbrev pub after_learn_all : List (Det × Known) → LogMap → LogMap
after_learn_all [] log = log
after_learn_all (e ∷ es) log = after_learn_all es (after_learn log e.0 e.1)

-- the log after its process receives a message with these items
abbrev pub after_absorb : List Item → Pid → Pid → LogMap → LogMap
after_absorb items from me log = after_learn_all (map (knowledge_from_item from me) items) log

-- the log after a delivery: it has learned what the message carries, and that the receiver holds the new determinant
abbrev pub after_delivery : List Item → Det → Pid → Pid → LogMap → LogMap
after_delivery items own from me log = after_learn (after_absorb items from me log) own (held_by me)

-- the log after all that another log knows is learned
abbrev pub after_union : LogMap → LogMap → LogMap
after_union log other = after_learn_all (fin.entries other) log

-- how many determinants the union of two logs has
abbrev pub union_len : LogMap → LogMap → ℕ
union_len log other = fin.len log + length (not_logged_in log (fin.keys other))

abbrev pub mark : LogMap → Det → Option Known → LogMap
mark log det None = log
mark log det (Some known) = fin.insert log det (as_stable known)

-- the log after a determinant is marked as stable; unchanged if it is not logged
abbrev pub after_mark : LogMap → Det → LogMap
after_mark log det = mark log det (fin.get log det)

-- the determinants that are known to be stable, ascending
abbrev pub stable_in : LogMap → List Det
stable_in log = map (λ e. e.0) (filter (λ e. e.1.stable) (fin.entries log))

-- the determinants that are not known to be stable, ascending
abbrev pub unstable_in : LogMap → List Det
unstable_in log = map (λ e. e.0) (filter (λ e. not e.1.stable) (fin.entries log))

-- the log without the determinants that are known to be stable
abbrev pub after_drop_stable : LogMap → LogMap
after_drop_stable log = log_of (filter (λ e. not e.1.stable) (fin.entries log))

-- whether a process whose next delivery has this slot forgets an entry: it is known to be stable, and is of no delivery
-- that the process has still to make
abbrev pub is_forgotten : Slot → Det × Known → Bool
is_forgotten next e = e.1.stable && not (same_pid e.0.dest next.dest && nat_le next.rsn e.0.rsn)

-- the determinants that it forgets, ascending, and the log after
abbrev pub forgotten_in : Slot → LogMap → List Det
forgotten_in next log = map (λ e. e.0) (filter (is_forgotten next) (fin.entries log))

abbrev pub after_forget : Slot → LogMap → LogMap
after_forget next log = log_of (filter (λ e. not (is_forgotten next e)) (fin.entries log))

-- the item of a log entry: its determinant with its known holders
abbrev pub item_of : Det × Known → Item
item_of e = record { det = e.0; holders = e.1.holders }

-- what a message carries: the entries not known to be stable and with at most f known holders, ascending
abbrev pub batch_items : ℕ → LogMap → List Item
batch_items f log = map item_of (filter (λ e. is_carried f e.1) (fin.entries log))

-- whether a message carries a determinant, by its look-up in the log
abbrev pub is_in_batch : ℕ → Option Known → Bool
is_in_batch f None = false
is_in_batch f (Some known) = is_carried f known

-- the determinants of items
abbrev pub dets_of : List Item → List Det
dets_of items = map (λ item. item.det) items

-- items ascend and come before a determinant
abbrev pub AllBefore : List Item → Det → Type 0
AllBefore items det = is_ascending (dets_of items ++ det ∷ []) ≡ true

-- items ascend and come after a determinant
abbrev pub AllAfter : Det → List Item → Type 0
AllAfter det items = is_ascending (det ∷ dets_of items) ≡ true

-- whether an item names a determinant; whether one names it with this holder
abbrev pub names_det : Det → List Item → Bool
names_det det items = list_any (λ item. same_det det item.det) items

abbrev pub names_holder : Det → ℕ → List Item → Bool
names_holder det p items = list_any (λ item. same_det det item.det && set.contains item.holders p) items

-- the message that the log names for a slot: that of the slot's least determinant
abbrev pub named_message : Pid → ℕ → LogMap → Option MsgName
named_message dest rsn log = option_map message_of (first_of_slot dest rsn (fin.keys log))
