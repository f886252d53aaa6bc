-- What an acknowledgement contains: the process is not among the other holders, and there are fewer than 2^32 items.
use Rattle.std.proofs.Common.{◌≡◌, ◌≤◌, false, List, length, filter, is_some, arith}
use Rattle.std.specs.FinMap as fin
use Rattle.std.specs.FinSet as set
use Rattle.std.proofs.lemmas.List.{length-map}
use Rattle.std.proofs.lemmas.List.Elements.{All-map}
use Rattle.std.proofs.lemmas.List.Sums.{length-filter, count_by-le-length}
use Rattle.causal_name.specs.declared.Det.{Det}
use Rattle.causal_name.specs.declared.Pid.{Pid}
use Rattle.causal_log.specs.Logs.{LogMap}
use Rattle.causal_wire.specs.declared.parcel.ParcelItem.{ParcelItem}
use Rattle.causal_wire.specs.Parcels.{AreWithoutSource}
use Rattle.causal_endpoint.specs.Acknowledging.{acknowledged_item, acknowledged_items}
use Rattle.causal_endpoint.proofs.Written.{not_itself}

pub acknowledged_without : (me : Pid) (log : LogMap) (dets : List Det) → AreWithoutSource me.0 (acknowledged_items me log dets)
acknowledged_without me log dets =
    All-map (λ (item : ParcelItem). set.contains item.others me.0 ≡ false) (acknowledged_item me log) (filter (λ det. is_some (fin.get log det)) dets) (λ k d h. not_itself _ me.0)

pub acknowledged_few : (me : Pid) (log : LogMap) (dets : List Det) → length (acknowledged_items me log dets) ≤ length dets
acknowledged_few me log dets =
    let logged = λ (det : Det). is_some (fin.get log det) in
    omega (arith, length-map (filter logged dets) (acknowledged_item me log), length-filter logged dets, count_by-le-length logged dets)
