-- Merging a message's items into the items that messages carry.
use Rattle.std.specs.Prelude.{◌≡◌, ℕ, Bool, List, ◌∷◌, [], ◌++◌, true, false, slice_get}
use Rattle.std.specs.List.{list_any}
use Rattle.std.specs.Option.{IfSome, option_map_or}
use Rattle.std.specs.Ordering.{nat_cmp}
use Rattle.std.specs.FinMap as fin
use Rattle.std.specs.FinSet as set
use Rattle.causal_name.specs.declared.Det.{Det}
use Rattle.causal_name.specs.declared.Pid.{Pid}
use Rattle.causal_name.specs.Names.{same_det, is_ascending, is_before}
use Rattle.causal_log.specs.declared.batch.Item.{Item}
use Rattle.causal_log.specs.declared.next_batch_merge.AppliedDelivery.{AppliedDelivery}
use Rattle.causal_log.specs.Logs.{LogMap, log_of, after_absorb, after_delivery, batch_items, dets_of}

-- the log before a delivery, after its items, and after its own determinant
abbrev pub log_before : AppliedDelivery → LogMap
log_before d = log_of d.entries.now.entries

abbrev pub log_after_items : AppliedDelivery → LogMap
log_after_items d = after_absorb d.items.now d.from d.me (log_before d)

abbrev pub log_after : AppliedDelivery → LogMap
log_after d = after_delivery d.items.now d.own d.from d.me (log_before d)

-- whether the log knows each of these processes as a holder of a determinant
abbrev pub are_known_to_hold : LogMap → Det → set.FinSet nat_cmp → Bool
are_known_to_hold log det holders = option_map_or (λ known. set.is_subset holders known.holders) (fin.get log det) false

-- the item at an index, if there is one, does not come before a determinant
abbrev pub NextIsNotBefore : List Item → ℕ → Det → Type 0
NextIsNotBefore items place det = IfSome (slice_get items place) (λ item. is_before item.det det ≡ false)

-- no determinant is in both lists
abbrev pub AreDisjoint : List Item → List Item → Type 0
AreDisjoint items kept = (d : Det) → list_any (same_det d) (dets_of items) ≡ true → list_any (same_det d) (dets_of kept) ≡ false

-- the state of a merge: `log` has learned all items but `rest`; messages carry `out` and `kept` of it. The
-- determinants of `rest` are as in `source`, and `out` comes before them.
pub record IsMergeState (f : ℕ) (items rest : List Item) (from me : Pid) (source : LogMap) (out kept : List Item) : Type 0 where
  pub log : LogMap
  pub carries : out ++ kept ≡ batch_items f log
  pub all : after_absorb rest from me log ≡ after_absorb items from me source
  pub same : (q : Det) → list_any (λ item. same_det q item.det) rest ≡ true → fin.get log q ≡ fin.get source q
  pub before : (x : Item) (xs : List Item) → rest ≡ x ∷ xs → is_ascending (dets_of out ++ x.det ∷ []) ≡ true
