-- Items and log entries: in a log with all holders, in a parcel without its source, which holds what it carries.
use Rattle.std.specs.Prelude.{List, map}
use Rattle.std.specs.FinMap as fin
use Rattle.std.specs.FinSet as set
use Rattle.causal_name.specs.declared.Det.{Det}
use Rattle.causal_name.specs.declared.Pid.{Pid}
use Rattle.causal_log.specs.declared.batch.Item.{Item as LogItem}
use Rattle.causal_log.specs.declared.known.Known.{Known}
use Rattle.causal_log.specs.Logs.{LogMap, after_learn_all}
use Rattle.causal_wire.specs.declared.parcel.ParcelItem.{ParcelItem as WireItem}
use Rattle.causal_wire.specs.declared.parcel.LogEntry.{LogEntry}

-- an item of a batch, in a parcel from this process
abbrev pub wire_item : Pid → LogItem → WireItem
wire_item source item = record { det = item.det; others = set.remove item.holders source.0 }

-- an item of a parcel from this process, in a batch
abbrev pub log_item : Pid → WireItem → LogItem
log_item source item = record { det = item.det; holders = set.insert item.others source.0 }

-- an entry of a log, in a parcel from this process
abbrev pub wire_entry : Pid → Det × Known → LogEntry
wire_entry source e = record { item = record { det = e.0; others = set.remove e.1.holders source.0 }; stable = e.1.stable }

-- an entry of a parcel from this process, in a log
abbrev pub log_entry : Pid → LogEntry → Det × Known
log_entry source entry = (entry.item.det, record { holders = set.insert entry.item.others source.0; stable = entry.stable })

-- the log that entries of a parcel from this process make
abbrev pub log_from : Pid → List LogEntry → LogMap
log_from source entries = after_learn_all (map (log_entry source) entries) fin.empty
