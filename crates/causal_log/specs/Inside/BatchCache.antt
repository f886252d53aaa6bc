-- The batch that messages carry, cached by a log.
use Rattle.std.specs.Prelude.{◌≡◌, ℕ, Bool, false, cond, List, Option, Some, None, [], ◌∷◌, ◌++◌, true, map}
use Rattle.std.specs.List.{list_any}
use Rattle.std.specs.Map.{lookup}
use Rattle.std.specs.Option.{IfSome}
use Rattle.std.specs.FinMap as fin
use Rattle.causal_name.specs.declared.Det.{Det}
use Rattle.causal_name.specs.declared.Pid.{Pid}
use Rattle.causal_name.specs.Names.{same_det, is_ascending}
use Rattle.causal_log.specs.declared.known.Known.{Known}
use Rattle.causal_log.specs.declared.batch.Item.{Item}
use Rattle.causal_log.specs.declared.cached_batch.CachedBatch.{CachedBatch}
use Rattle.causal_log.specs.Knowledge.{held_by, union_with, is_carried}
use Rattle.causal_log.specs.Logs.{LogMap, batch_items, after_learn}

-- what the sender of an item knew of its determinant
abbrev pub known_of_item : Item → Known
known_of_item item = record { holders = item.holders; stable = false }

-- both ends of a message hold a determinant that it carries
abbrev pub held_by_both : Pid → Pid → Known
held_by_both from me = union_with (held_by from) (held_by me)

-- what an item's sender knew, for each item
abbrev pub item_entries : List Item → List (Det × Known)
item_entries items = map (λ item. (item.det, known_of_item item)) items

-- what is known of a determinant, if messages carry it
abbrev pub carried_knowledge : ℕ → Option Known → Option Known
carried_knowledge f None = None
carried_knowledge f (Some known) = cond (is_carried f known) (Some known) None

-- except for some determinants, these items are those that messages carry of a log
abbrev pub CarriesBut : List Det → ℕ → LogMap → List Item → Type 0
CarriesBut dets f log items = (q : Det) → list_any (same_det q) dets ≡ false → lookup (same_det q) (item_entries items) ≡ carried_knowledge f (fin.get log q)

-- except for these determinants and those that have changed, the items of a cached batch are those that messages carry
abbrev pub CacheIsRightBut : List Det → Option CachedBatch → LogMap → Type 0
CacheIsRightBut dets kept log = IfSome kept (λ k. CarriesBut (dets ++ k.changed.items) k.f log k.batch)

-- the same, except for those that have changed alone
abbrev pub CacheIsRight : Option CachedBatch → LogMap → Type 0
CacheIsRight kept log = CacheIsRightBut [] kept log

-- items with one more determinant appended, if messages carry it
abbrev pub with_carried : ℕ → Det → Known → List Item → List Item
with_carried f det known items = cond (is_carried f known) (items ++ record { det = det; holders = known.holders } ∷ []) items

-- items with one more determinant appended, of which this may be known, if messages carry it
abbrev pub with_knowledge : ℕ → Det → Option Known → List Item → List Item
with_knowledge f det None items = items
with_knowledge f det (Some known) items = with_carried f det known items

-- if `before` are the items that messages carry of a log, `after` are those once this is learned of a determinant
abbrev pub LearnsItem : ℕ → Det → Known → LogMap → List Item → List Item → Type 0
LearnsItem f det news log before after = before ≡ batch_items f log → after ≡ batch_items f (after_learn log det news)

-- the invariant of a log: its entries ascend if `sorted` is set, and its cached batch is right
pub record IsLogState (dets : List Det) (sorted : Bool) (carried : Option CachedBatch) (log : LogMap) : Type 0 where
  pub ascending : sorted ≡ true → is_ascending dets ≡ true
  pub carries : CacheIsRight carried log
