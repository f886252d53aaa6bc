-- What an endpoint writes is a parcel of its run.
use Rattle.std.proofs.Common.{ℕ, suc, ◌≡◌, ◌∙◌, ◌<◌, ◌^◌, Bool, true, false, List, [], ◌∷◌, map, filter, length, Option, Some, is_some, unwrap_or, refl, ap, arith}
use Rattle.std.specs.Prelude.{slice_get, if◌then◌else◌}
use Rattle.std.specs.List.{AllByRecursion}
use Rattle.std.specs.FinMap as fin
use Rattle.std.specs.FinSet as set
use Rattle.std.proofs.lemmas.Bool.{and_parts, and_from}
use Rattle.std.proofs.ByRecursion.{All-weaker, All-map, all_kept_by, kept_by_passes}
use Rattle.std.proofs.lemmas.List.{length-map, map-id}
use Rattle.std.proofs.lemmas.Simd.{map-map}
use Rattle.std.proofs.lemmas.List.Sums.{length-filter, count_by-le-length}
use Rattle.causal_name.specs.declared.Pid.{Pid}
use Rattle.causal_name.specs.declared.Det.{Det}
use Rattle.causal_name.specs.Names.{is_ascending, is_before}
use Rattle.causal_log.specs.declared.known.Known.{Known}
use Rattle.causal_log.specs.Knowledge.{unknown, is_carried}
use Rattle.causal_log.specs.Logs.{LogMap, known_of, item_of, batch_items}
use Rattle.causal_log.proofs.Lemmas.Ascents.{ascending_tail, ascending_skip, map_ascends}
use Rattle.causal_log.proofs.Lemmas.ChosenLemmas.{chosen_ascend}
use Rattle.causal_log.proofs.Lemmas.LogLists.{place_shown}
use Rattle.causal_protocol.specs.MemoryQueries.{has_entry}
use Rattle.causal_wire.specs.declared.parcel.LogEntry.{LogEntry}
use Rattle.causal_wire.specs.Parcels.{parcel_dets, IsItem, AreItems, AreEntries}
use Rattle.causal_calls.specs.Views.{HasHoldersBelow}
use Rattle.causal_endpoint.specs.Items.{wire_item, wire_entry}
use Rattle.causal_endpoint.specs.Acknowledging.{acknowledged_item, acknowledged_items as wire_acknowledged}
use Rattle.causal_endpoints.specs.States.{HasDets}
use Rattle.causal_endpoints.proofs.Items.{not_itself, only_others}

-- facts of each element of a list
pub all_shown : {A : Type 0} (P : A → Type 0) (xs : List A) → ((i : ℕ) (x : A) → slice_get xs i ≡ Some x → P x) → AllByRecursion P xs
all_shown P [] h = tt
all_shown P (x ∷ xs) h = (h 0 x refl, all_shown P xs (λ i y at. h (suc i) y at))

-- the determinants of what is written
said_dets : (me : Pid) (log : LogMap) (ds : List Det) → parcel_dets (map (acknowledged_item me log) ds) ≡ ds
said_dets me log ds = map-map _ (acknowledged_item me log) ds ∙ map-id ds

-- some of an ascending list ascend
after_first : (keeps : Det → Bool) (d : Det) (ds : List Det) → is_ascending (d ∷ ds) ≡ true → is_ascending (d ∷ filter keeps ds) ≡ true
after_first keeps d [] h = refl
after_first keeps d (x ∷ xs) h =
    let both = and_parts (is_before d x) (is_ascending (x ∷ xs)) h in
    elim (keeps x) as (λ b. is_ascending (d ∷ (if b then x ∷ filter keeps xs else filter keeps xs)) ≡ true) [
      | true ↦ and_from _ _ both.0 (after_first keeps x xs both.1)
      | false ↦ after_first keeps d xs (ascending_skip d x xs h)
    ]

pub some_ascend : (keeps : Det → Bool) (ds : List Det) → is_ascending ds ≡ true → is_ascending (filter keeps ds) ≡ true
some_ascend keeps [] h = refl
some_ascend keeps (x ∷ xs) h = grind (arith, after_first keeps x xs h, some_ascend keeps xs (ascending_tail x xs h))

-- of a log whose determinants and holders are of n processes
module _ (n : ℕ) (me : Pid) (log : LogMap) (dets : HasDets n log) (holders : HasHoldersBelow n log) where
  item_fits : (d : Det) (known : Known) → fin.get log d ≡ Some known → IsItem n me.0 (record { det = d; others = set.remove known.holders me.0 })
  item_fits d known at = record {
    det = dets d (ap is_some at);
    others = record {
      processes = λ p h. holders d p (ap (λ (o : Option Known). set.contains (unwrap_or o unknown).holders p) at ∙ only_others known.holders me.0 p h);
      others = not_itself known.holders me.0;
    };
  }

  each_entry : AllByRecursion (λ (e : Det × Known). IsItem n me.0 (record { det = e.0; others = set.remove e.1.holders me.0 })) (fin.entries log)
  each_entry = all_shown _ (fin.entries log) (λ i e at. item_fits e.0 e.1 (place_shown log i e.0 e.1 at))

  -- what a message carries
  pub carried_fit : (f : ℕ) → fin.len log < 2 ^ 32 → AreItems n me.0 (map (wire_item me) (batch_items f log))
  carried_fit f few = record {
    each = All-map (IsItem n me.0) (wire_item me) (batch_items f log) (All-map (λ item. IsItem n me.0 (wire_item me item)) item_of (filter (λ e. is_carried f e.1) (fin.entries log)) (all_kept_by (λ e. is_carried f e.1) _ (fin.entries log) each_entry));
    ascending = ap is_ascending (map-map _ (wire_item me) (batch_items f log)) ∙ chosen_ascend f log;
    count =
        let es = fin.entries log in
        omega (
          arith,
          few,
          length-map (batch_items f log) (wire_item me),
          length-map (filter (λ e. is_carried f e.1) es) item_of,
          length-filter (λ e. is_carried f e.1) es,
          count_by-le-length (λ e. is_carried f e.1) es,
          fin.len-entries log,
        );
  }

  -- the whole log
  pub entries_fit : fin.len log < 2 ^ 32 → AreEntries n me.0 (map (wire_entry me) (fin.entries log))
  entries_fit few = record {
    each = All-map (λ (entry : LogEntry). IsItem n me.0 entry.item) (wire_entry me) (fin.entries log) each_entry;
    ascending = ap is_ascending (map-map _ (wire_entry me) (fin.entries log)) ∙ map_ascends log;
    count = omega (arith, few, length-map (fin.entries log) (wire_entry me), fin.len-entries log);
  }

  logged_fits : (d : Det) → has_entry d log ≡ true → IsItem n me.0 (acknowledged_item me log d)
  logged_fits d has = item_fits d (known_of log d) (grind arith)

  -- an acknowledgement
  pub acknowledged_fit : (ds : List Det) → is_ascending ds ≡ true → length ds < 2 ^ 32 → AreItems n me.0 (wire_acknowledged me log ds)
  acknowledged_fit ds ascends few =
      let logged = λ (det : Det). is_some (fin.get log det) in
      record {
        each = All-map (IsItem n me.0) (acknowledged_item me log) (filter logged ds) (All-weaker (λ d. logged d ≡ true) _ logged_fits (filter logged ds) (kept_by_passes logged ds));
        ascending = ap is_ascending (said_dets me log (filter logged ds)) ∙ some_ascend logged ds ascends;
        count = omega (arith, few, length-map (filter logged ds) (acknowledged_item me log), length-filter logged ds, count_by-le-length logged ds);
      }
