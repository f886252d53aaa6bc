-- What an endpoint writes: its process is not among the other holders, and there are fewer than 2^32 elements.
use Rattle.std.proofs.Common.{◌≡◌, ℕ, zero, suc, ◌+◌, ◌<◌, ◌≤◌, ◌^◌, false, not, List, [], ◌∷◌, ◌++◌, length, map, filter, take, Option, Some, None, slice_get, is_some, unwrap_or, true≢false, refl, arith, ◌∙◌, ap, sym}
use Rattle.std.specs.Prelude.{◌&&◌}
use Rattle.std.specs.Option.{option_map}
use Rattle.std.specs.FinMap as fin
use Rattle.std.specs.FinSet as set
use Rattle.std.specs.Ordering.{nat_cmp}
use Rattle.std.proofs.lemmas.Cmp.{nat_cmp_total, eq_by_cmp_equiv}
use Rattle.std.proofs.lemmas.List.{length-map, take_more, map-append}
use Rattle.std.proofs.lemmas.List.Elements.{All-map}
use Rattle.std.proofs.lemmas.List.Sums.{length-filter, count_by-le-length}
use Rattle.std.proofs.lemmas.Option.{slice_get_within, get_or_from_slice_get}
use Rattle.causal_name.specs.declared.Det.{Det}
use Rattle.causal_name.specs.declared.Pid.{Pid}
use Rattle.causal_log.specs.declared.batch.Item.{Item as LogItem}
use Rattle.causal_log.specs.declared.known.Known.{Known}
use Rattle.causal_log.specs.Knowledge.{is_carried}
use Rattle.causal_log.specs.Logs.{LogMap, batch_items, item_of, dets_of as log_dets_of}
use Rattle.causal_wire.specs.declared.parcel.ParcelItem.{ParcelItem as WireItem}
use Rattle.causal_wire.specs.declared.parcel.LogEntry.{LogEntry}
use Rattle.causal_wire.specs.Parcels.{AreWithoutSource, AreEntriesWithoutSource, IsWritable, parcel_dets}
use Rattle.causal_node.specs.declared.node_answer.RoundReply.{RoundReply}
use Rattle.causal_node.specs.declared.node_answer.RoundReply.TheVariants as Replies
use Rattle.causal_endpoint.specs.Endpoints.{EndpointState}
use Rattle.causal_endpoint.specs.Items.{wire_item, log_item, wire_entry}
use Rattle.causal_endpoint.specs.Receiving.{reply_contents}

pub not_itself : (s : set.FinSet nat_cmp) (p : ℕ) → set.contains (set.remove s p) p ≡ false
not_itself s p = set.contains-remove nat_cmp_total s p p ∙ ap (λ b. not b && set.contains s p) ((eq_by_cmp_equiv nat_cmp_total).refl p)

-- no item or entry that a process writes has it among the other holders
pub items_without : (source : Pid) (items : List LogItem) → AreWithoutSource source.0 (map (wire_item source) items)
items_without source items = All-map (λ (item : WireItem). set.contains item.others source.0 ≡ false) (wire_item source) items (λ k d h. not_itself _ source.0)

pub entries_without : (source : Pid) (es : List (Det × Known)) → AreEntriesWithoutSource source.0 (map (wire_entry source) es)
entries_without source es = All-map (λ (entry : LogEntry). set.contains entry.item.others source.0 ≡ false) (wire_entry source) es (λ k d h. not_itself _ source.0)

-- as many items are written as there are
pub items_few : (source : Pid) (items : List LogItem) → length (map (wire_item source) items) ≡ length items
items_few source items = length-map items (wire_item source)

-- a batch has at most as many items as the log has determinants
pub carried_few : (f : ℕ) (log : LogMap) (source : Pid) → length (map (wire_item source) (batch_items f log)) ≤ fin.len log
carried_few f log source =
    let es = fin.entries log in
    omega (
      arith,
      length-map (batch_items f log) (wire_item source),
      length-map (filter (λ e. is_carried f e.1) es) item_of,
      length-filter (λ e. is_carried f e.1) es,
      count_by-le-length (λ e. is_carried f e.1) es,
      fin.len-entries log,
    )

-- a reply can be written
pub reply_written : (e : EndpointState) (round : ℕ) (reply : RoundReply) → fin.len e.node.memory.log < 2 ^ 32 → IsWritable e.node.identity.me.0 (reply_contents e round reply)
reply_written e round Replies.Log h =
    (omega (arith, h, length-map (fin.entries e.node.memory.log) (wire_entry e.node.identity.me), fin.len-entries e.node.memory.log), entries_without e.node.identity.me (fin.entries e.node.memory.log))
reply_written e round Replies.OwnNumber h = tt
reply_written e round Replies.NotUp h = tt

-- the items of a parcel and of its batch name the same determinants
pub same_dets : (source : Pid) (items : List WireItem) → log_dets_of (map (log_item source) items) ≡ parcel_dets items
same_dets source [] = refl
same_dets source (item ∷ items) = ap (λ ds. item.det ∷ ds) (same_dets source items)

-- one entry more is written
entry_more : (source : Pid) (es : List (Det × Known)) (i : ℕ) (e : Det × Known) → slice_get es i ≡ Some e → map (wire_entry source) (take (i + 1) es) ≡ map (wire_entry source) (take i es) ++ wire_entry source e ∷ []
entry_more source es i e at =
    ap (map (wire_entry source)) (take_more es i e (slice_get_within es i e at) ∙ ap (λ x. take i es ++ x ∷ []) (get_or_from_slice_get es i e e at))
    ∙ map-append (wire_entry source) (take i es) (e ∷ [])

pub entry_next : (source : Pid) (es : List (Det × Known)) (i : ℕ) (w : LogEntry) → Some w ≡ option_map (wire_entry source) (slice_get es i) → map (wire_entry source) (take (i + 1) es) ≡ map (wire_entry source) (take i es) ++ w ∷ []
entry_next source es i w h = by (slice_get es i) refl h
  where
    by : (o : Option (Det × Known)) → slice_get es i ≡ o → Some w ≡ option_map (wire_entry source) o → map (wire_entry source) (take (i + 1) es) ≡ map (wire_entry source) (take i es) ++ w ∷ []
    by None at there = absurd (true≢false (ap is_some there))
    by (Some e) at there = entry_more source es i e at ∙ ap (λ x. map (wire_entry source) (take i es) ++ x ∷ []) (ap (λ o. unwrap_or o w) (sym there))

-- each index of a list has an element
pub none_past : {X : Type 0} (xs : List X) (i : ℕ) → slice_get xs i ≡ None → i < length xs → ⊥
none_past [] i none h = omega (arith, h)
none_past (x ∷ xs) zero none h = absurd (true≢false (ap is_some none))
none_past (x ∷ xs) (suc i) none h = none_past xs i none (omega (arith, h))
