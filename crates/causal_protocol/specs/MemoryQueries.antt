-- Queries of a process's memory: its log, the holders and marks that it knows, and its sent messages.
use Rattle.std.specs.Prelude.{◌≡◌, ℕ, Bool, false, ◌==◌, ◌&&◌, ◌||◌, List, [], Some, is_some, slice_get}
use Rattle.std.specs.List.{list_any}
use Rattle.std.specs.Option.{option_map, option_map_or}
use Rattle.std.specs.FinMap as fin
use Rattle.std.specs.FinSet as set
use Rattle.causal_name.specs.declared.Det.{Det}
use Rattle.causal_name.specs.Names.{same_det}
use Rattle.causal_log.specs.declared.batch.Item.{Item}
use Rattle.causal_log.specs.Logs.{LogMap, known_of}
use Rattle.causal_steps.specs.Transit.{TransitParcel, VolatileState}
use Rattle.causal_protocol.specs.Memory.{SentMessage, Memories, present_at}

-- p's log; empty if p is down
unfoldable pub log_at : Memories → ℕ → LogMap
log_at ms p = option_map_or (λ m. m.log) (present_at ms p) fin.empty

-- the messages that p has sent, by ssn; none if p is down
unfoldable pub messages : Memories → ℕ → List SentMessage
messages ms p = option_map_or (λ m. m.sent) (present_at ms p) []

-- whether a log has d; whether it has q as a known holder of d; whether d is known to be stable in it
abbrev pub has_entry : Det → LogMap → Bool
has_entry d log = is_some (fin.get log d)

abbrev pub log_knows_holder : Det → ℕ → LogMap → Bool
log_knows_holder d q log = set.contains (known_of log d).holders q

abbrev pub log_knows_stable : Det → LogMap → Bool
log_knows_stable d log = (known_of log d).stable

-- whether p logs d; whether p knows that q holds d; whether p knows that d is stable
abbrev pub memory_logs : Memories → ℕ → Det → Bool
memory_logs ms p d = has_entry d (log_at ms p)

abbrev pub knows_holder : Memories → ℕ → Det → ℕ → Bool
knows_holder ms p d q = log_knows_holder d q (log_at ms p)

abbrev pub knows_stable : Memories → ℕ → Det → Bool
knows_stable ms p d = log_knows_stable d (log_at ms p)

-- p's memory has this sent message
abbrev pub HasSent : Memories → ℕ → SentMessage → Type 0
HasSent ms p k = (ssn : ℕ) × (slice_get (messages ms p) ssn ≡ Some k)

-- whether an item is of d; whether an item of d names q as a holder
abbrev pub has_item : Det → List Item → Bool
has_item d items = list_any (λ item. same_det d item.det) items

abbrev pub item_holder : Det → ℕ → List Item → Bool
item_holder d q items = list_any (λ item. same_det d item.det && set.contains item.holders q) items

-- a message that p has sent, as a parcel in transit: it names p and the holders of its items
abbrev pub parcel_of : ℕ → SentMessage → TransitParcel
parcel_of p k = record {
  from = p;
  send = Some k.send;
  carries = λ d. has_item d k.batch;
  names_holder = λ d q. item_holder d q k.batch || (has_item d k.batch && q == p);
  names_stable = λ d. false;
}

-- what is known and in transit: the messages that up processes have sent
abbrev pub volatile_of : Memories → VolatileState
volatile_of ms = record {
  knows_holder = λ p d q. knows_holder ms p d q;
  knows_stable = λ p d. knows_stable ms p d;
  parcels = λ p ssn. option_map (parcel_of p) (slice_get (messages ms p) ssn);
}
