-- The items that `choose` returns ascend.
use Rattle.std.proofs.Common.{ℕ, ◌≡◌, ◌∙◌, true, List, map, filter, ap}
use Rattle.std.proofs.lemmas.Simd.{map-map}
use Rattle.std.specs.FinMap as fin
use Rattle.std.specs.Map.{keys_of}
use Rattle.causal_name.specs.declared.Det.{Det}
use Rattle.causal_log.specs.declared.known.Known.{Known}
use Rattle.causal_name.specs.Names.{is_ascending}
use Rattle.causal_log.specs.Knowledge.{is_carried}
use Rattle.causal_log.specs.Logs.{LogMap, batch_items, dets_of, item_of}
use Rattle.causal_log.proofs.Lemmas.Ascents.{filter_ascends}

-- items made of entries have the determinants of the entries
pub dets_of_items : (es : List (Det × Known)) → dets_of (map item_of es) ≡ keys_of es
dets_of_items es = map-map (λ item. item.det) item_of es

-- the items that messages carry ascend
pub chosen_ascend : (f : ℕ) (log : LogMap) → is_ascending (dets_of (batch_items f log)) ≡ true
chosen_ascend f log = ap is_ascending (dets_of_items (filter (λ e. is_carried f e.1) (fin.entries log))) ∙ filter_ascends (λ e. is_carried f e.1) log
