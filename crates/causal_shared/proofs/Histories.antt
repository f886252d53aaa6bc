-- A delivery in a trace stays there as the trace grows, and appending one item preserves the facts on a history.
use Rattle.std.proofs.Common.{◌≡◌, ◌<◌, ◌∙◌, sym, ℕ, List, [], ◌∷◌, length, arith, Some, ◌≢◌, ◌≤◌, refl, ap, subst, ◌++◌, slice_set, replicate, None, length-append, inl, inr}
use Rattle.std.specs.Prelude.{Result, Ok, Err, IfOk, slice_get, Option, option_map, unwrap_or}
use Rattle.causal_name.specs.declared.Det.{Det}
use Rattle.causal_trace.specs.declared.entry.Entry.{Entry}
use Rattle.causal_trace.specs.Past.{det_at}
use Rattle.causal_name.specs.declared.Pid.{Pid}
use Rattle.causal_protocol.specs.declared.request.Request.TheVariants as Requests
use Rattle.causal_protocol.specs.declared.request.Reply.TheVariants as Replies
use Rattle.causal_protocol.specs.declared.request.Delivered.{Delivered}
use Rattle.causal_protocol.specs.declared.request.CoreFault.{CoreFault}
use Rattle.causal_protocol.specs.Run.{Run}
use Rattle.causal_protocol.specs.Steps.{append_all, LegalStep, Steps, reply_of_delivery}
use Rattle.causal_shared.specs.declared.item.Item.{Item}
use Rattle.causal_shared.specs.History.{run_length, HasDeliveryOf, IsCallStep, next_first, AllLegal, items_of, last_item, IsHistory, record_after, item_count, new_record, LockedState, Holds, UpdatesSeen}
use Rattle.causal_trace.proofs.Lemmas.Instants.{det_more}
use Rattle.std.proofs.lemmas.Option.{slice_get_cases, gets}
use Rattle.std.proofs.lemmas.List.Sums.{length-filter, count_by-le-length}
use Rattle.std.proofs.lemmas.List.{append-nil, get_or-replicate, length-replicate}
use Rattle.std.proofs.lemmas.Bool.{cases_eq}
use Rattle.std.proofs.lemmas.List.Elements.{filter-append}
use Rattle.std.proofs.lemmas.Bool.Decides.{nat_tests}
use Rattle.causal_shared.specs.declared.item.SeatRecord.{SeatRecord}
use Rattle.causal_shared.specs.Limits.{max_items}
use Rattle.causal_shared.specs.LockInvariant.{item_at, FitsHistory, AllRecordsFit, LockInvariant}
use Rattle.causal_core.proofs.Lemmas.Slices.{slice_get-set_same, slice_get-set_other}
use Rattle.causal_shared.proofs.Cuts.{slice_get-append, slice_get-append_seam, slice_get-snoc, slice_get-last, Longer, Longer-step, cut-whole, IsStep-step}
use Rattle.causal_protocol.specs.declared.request.Request.{Request}
use Rattle.causal_protocol.specs.declared.request.Reply.{Reply}

det_at-below : (past : List Entry) (k : ℕ) (d : Det) → det_at past k ≡ Some d → k < length past
det_at-below [] k d is = absurd cc
det_at-below (e ∷ past) k d is = grind (arith, det_at-below past k d)

-- a determinant at a position stays at that position as entries are added
pub det_at-pushed : (es past : List Entry) (k : ℕ) (d : Det) → det_at past k ≡ Some d → det_at (append_all es past) k ≡ Some d
det_at-pushed [] past k d is = is
det_at-pushed (e ∷ es) past k d is = det_at-pushed es (e ∷ past) k d (det_more e past k (det_at-below past k d is) ∙ is)

-- the trace contains the delivery of a delivery's item
pub shows_delivery : (old new : Run) (q source : Pid) (ssn : ℕ) (answer : Result Delivered CoreFault) (item : Item) → Steps old (Requests.Deliver q source ssn) (reply_of_delivery answer) new
    → IfOk answer (λ d. det_at new.recording.past d.first ≡ Some d.det) → item.reply ≡ reply_of_delivery answer → item.first ≡ run_length old → HasDeliveryOf new.recording.past item
unfolding LegalStep
shows_delivery old new q source ssn (Ok told) item step det is first d reply = grind arith
shows_delivery old new q source ssn (Err fault) item step det is first d reply = absurd (let x : Replies.Refused fault ≡ Replies.Delivered d = sym is ∙ reply in cc)

-- no item begins after the end of the run
pub next_first-le : (r : Run) (items : List Item) → AllLegal r items → next_first r items ≤ run_length r
next_first-le r [] legal = omega arith
next_first-le r (item ∷ items) legal = let rest = next_first-le r items legal.2 in let first = legal.0 in omega (arith, rest, first)

next_first-snoc : (r new : Run) (items : List Item) (item : Item) → item.first ≡ run_length r → next_first new (items ++ item ∷ []) ≡ next_first r items
next_first-snoc r new [] item at = at
next_first-snoc r new (i ∷ items) item at = refl

-- the earlier items stay legal, and the new item is legal
pub AllLegal-snoc : (r new : Run) (items : List Item) (item : Item) → Longer r new → AllLegal r items → item.first ≡ run_length r → IsCallStep r item.request item.reply new → AllLegal new (items ++ item ∷ [])
AllLegal-snoc r new [] item longer legal at step = grind (arith, cut-whole r (run_length r) refl, cut-whole new (run_length new) refl)
AllLegal-snoc r new (i ∷ items) item longer legal at step =
    grind (arith, next_first-snoc r new items item at, next_first-le r items legal.2, AllLegal-snoc r new items item longer legal.2 at step)

pub items_of-snoc : (items : List Item) (item : Item) → items_of item.seat (items ++ item ∷ []) ≡ items_of item.seat items ++ item ∷ []
items_of-snoc items item = grind (arith, nat_tests, filter-append)

pub items_of-snoc_other : (items : List Item) (item : Item) (seat : ℕ) → item.seat ≢ seat → items_of seat (items ++ item ∷ []) ≡ items_of seat items
items_of-snoc_other items item seat ne = grind (arith, nat_tests, filter-append, append-nil (items_of seat items))

numbered-snoc : (items : List Item) (item : Item) → ((seat k : ℕ) (i : Item) → slice_get (items_of seat items) k ≡ Some i → i.call ≡ k) → item.call ≡ length (items_of item.seat items) → (seat k : ℕ) (i : Item) → slice_get (items_of seat (items ++ item ∷ [])) k ≡ Some i → i.call ≡ k
numbered-snoc items item numbered call seat k i is =
    grind (arith, cases_eq item.seat seat, items_of-snoc items item, items_of-snoc_other items item seat, slice_get-snoc (items_of item.seat items) item i k, numbered seat k i)

pub IsHistory-snoc : (run new : Run) (items : List Item) (item : Item) → IsHistory run items → Steps run item.request item.reply new → item.first ≡ run_length run → item.call ≡ length (items_of item.seat items) → IsHistory new (items ++ item ∷ [])
IsHistory-snoc run new items item history step at call = record {
  legal = AllLegal-snoc run new items item (Longer-step run new item.request item.reply step) history.legal at (IsStep-step run new item.request item.reply step);
  numbered = numbered-snoc items item history.numbered call;
}

-- a seat's record contains the number of its items
pub item_count-is : (run : Run) (items : List Item) (seats : List SeatRecord) (seat : ℕ) → AllRecordsFit run items seats → seat < length seats → item_count seats seat ≡ length (items_of seat items)
item_count-is run items seats seat kept inside = by_get (slice_get seats seat) refl
  where
    by_get : (o : Option SeatRecord) → slice_get seats seat ≡ o → item_count seats seat ≡ length (items_of seat items)
    by_get None is = absurd (grind (arith, slice_get_cases seats seat))
    by_get (Some k) is = ap (λ (o : Option SeatRecord). unwrap_or (option_map (λ (k : SeatRecord). k.count) o) 0) is ∙ (kept seat k is).count

pub item_count-le : (run : Run) (items : List Item) (seats : List SeatRecord) (seat : ℕ) → AllRecordsFit run items seats → seat < length seats → item_count seats seat ≤ length items
item_count-le run items seats seat kept inside = grind (arith, item_count-is run items seats seat kept inside, length-filter, count_by-le-length)

-- the record of another seat fits the longer history
FitsHistory-snoc_other : (run new : Run) (items : List Item) (item : Item) (seat : ℕ) (kept : SeatRecord) → item.seat ≢ seat → run_length run ≤ run_length new → FitsHistory run items seat kept → FitsHistory new (items ++ item ∷ []) seat kept
FitsHistory-snoc_other run new items item seat kept other longer was =
    grind (arith, items_of-snoc_other items item seat, length-append items (item ∷ []), slice_get-append items (item ∷ []))

-- the updated record of the item's seat fits the longer history
FitsHistory-snoc : (new : Run) (items : List Item) (item : Item) (place : ℕ) → place ≡ length items → item.call ≡ length (items_of item.seat items) → FitsHistory new (items ++ item ∷ []) item.seat (record_after item (run_length new) place)
FitsHistory-snoc new items item place at call =
    grind (
      arith,
      items_of-snoc items item,
      length-append (items_of item.seat items) (item ∷ []),
      length-append items (item ∷ []),
      slice_get-append_seam items item,
      slice_get-last (items_of item.seat items) item,
    )

pub AllKept-snoc : (run new : Run) (items : List Item) (seats : List SeatRecord) (item : Item) (place : ℕ) → AllRecordsFit run items seats → run_length run ≤ run_length new → place ≡ length items → item.seat < length seats → item.call ≡ length (items_of item.seat items) → AllRecordsFit new (items ++ item ∷ []) (slice_set seats item.seat (record_after item (run_length new) place))
AllKept-snoc run new items seats item place kept longer at inside call seat k is =
    let set = record_after item (run_length new) place in
    let mine = FitsHistory-snoc new items item place at call in
    grind (arith, cases_eq item.seat seat, mine, slice_get-set_same seats item.seat set inside, slice_get-set_other seats item.seat seat set, FitsHistory-snoc_other run new items item seat k, kept seat k)

-- a delivery that a run contains is still there after a step
Shows-step : (old new : Run) (request : Request) (reply : Reply) (item : Item) → Steps old request reply new → HasDeliveryOf old.recording.past item → HasDeliveryOf new.recording.past item
Shows-step old new request reply item step was d told = grind (arith, det_at-pushed step.appended old.recording.past item.first d.det (was d told))

-- an item that records the step to the new run preserves the lock's invariant
pub Keeps-note : (old new : Run) (items : List Item) (seats : List SeatRecord) (item : Item) (place seen : ℕ) (items' : List Item) (seats' : List SeatRecord)
    → LockInvariant old items seats → Steps old item.request item.reply new → item.seat < length seats → item.first ≡ run_length old → item.call ≡ item_count seats item.seat
    → place ≡ length items → seen ≡ run_length new → items' ≡ items ++ item ∷ [] → seats' ≡ slice_set seats item.seat (record_after item seen place)
    → HasDeliveryOf new.recording.past item → LockInvariant new items' seats'
Keeps-note old new items seats item place seen items' seats' keeps step inside first is_call at sees items_are seats_are shows =
    let counted : item.call ≡ length (items_of item.seat items) = is_call ∙ item_count-is old items seats item.seat keeps.kept inside in
    rw (items_are, seats_are, sees) record {
      legal = IsHistory-snoc old new items item keeps.legal step first counted;
      kept = AllKept-snoc old new items seats item place keeps.kept (Longer-step old new item.request item.reply step).later at inside counted;
      shown = λ k i is. elim (slice_get-snoc items item i k is) [
        | inl was ↦ Shows-step old new item.request item.reply i step (keeps.shown k i was)
        | inr here ↦ subst (λ x. HasDeliveryOf new.recording.past x) here.1 shows
      ];
    }

-- each call's number is below the maximum number of items
pub count_below : (r : Run) (items : List Item) (seats : List SeatRecord) (seat call : ℕ) → LockInvariant r items seats → seat < length seats → call ≡ item_count seats seat → length items < max_items → call < max_items
count_below r items seats seat call keeps inside is room = let few = item_count-le r items seats seat keeps.kept inside in omega (arith, few, is, room)

slice_get-replicate : (k seat : ℕ) (x kept : SeatRecord) → slice_get (replicate k x) seat ≡ Some kept → x ≡ kept
slice_get-replicate k seat x kept is = grind (arith, gets, get_or-replicate k seat x, length-replicate k x)

-- the invariant holds of an empty history whose seats' `seen` counts equal the run's length
pub Keeps-new : (r : Run) (k seen : ℕ) (items : List Item) (seats : List SeatRecord) → items ≡ [] → seats ≡ replicate k (new_record seen) → seen ≡ run_length r → LockInvariant r items seats
Keeps-new r k seen items seats none seats_are sees = grind (arith, slice_get-replicate)

-- a seat's view matches its record if and only if its last item is the recorded one
pub Holds-is : (held : LockedState) (seat count seen : ℕ) (kept : SeatRecord) (mine last : Option Item) → AllRecordsFit held.run held.history held.seats → slice_get held.seats seat ≡ Some kept → kept.count ≡ count → kept.seen ≡ seen → mine ≡ item_at held.history kept.last
    → (mine ≡ last → Holds held seat count seen last) × (Holds held seat count seen last → mine ≡ last)
Holds-is held seat count seen kept mine last all is counts sees mine_is =
    let ends : mine ≡ last_item (items_of seat held.history) = mine_is ∙ (all seat kept is).last in (
      λ same. record { kept = (kept, is, counts, sees); ends = sym same ∙ ends },
      λ holds. ends ∙ sym holds.ends,
    )

-- a record whose `seen` count becomes the run's length still fits the history
pub AllKept-seen : (run : Run) (items : List Item) (seats : List SeatRecord) (at : ℕ) (k : SeatRecord) (seen : ℕ) → at < length seats → slice_get seats at ≡ Some k → seen ≤ run_length run → AllRecordsFit run items seats → AllRecordsFit run items (slice_set seats at (record k { seen = seen }))
AllKept-seen run items seats at k seen inside is few kept seat k' found =
    let set : SeatRecord = record k { seen = seen } in
    grind (arith, cases_eq at seat, slice_get-set_same seats at set inside, slice_get-set_other seats at seat set, kept seat k', kept at k is)

-- the invariant is preserved if a seat's `seen` count becomes the run's length
pub Keeps-seen : (r : Run) (items : List Item) (seats : List SeatRecord) (at : ℕ) (k : SeatRecord) (seen : ℕ) → at < length seats → slice_get seats at ≡ Some k → seen ≡ run_length r → LockInvariant r items seats → LockInvariant r items (slice_set seats at (record k { seen = seen }))
Keeps-seen r items seats at k seen inside is sees keeps = record {
  legal = keeps.legal;
  kept = AllKept-seen r items seats at k seen inside is (omega (arith, sees)) keeps.kept;
  shown = keeps.shown;
}

-- replacing only the `seen` count in a seat's record satisfies `UpdatesSeen`
pub Sees-is : (old new : LockedState) (seat : ℕ) (k : SeatRecord) (seen : ℕ) → slice_get old.seats seat ≡ Some k → seen ≡ run_length old.run → new.run ≡ old.run → new.history ≡ old.history → new.seats ≡ slice_set old.seats seat (record k { seen = seen }) → UpdatesSeen old new seat
Sees-is old new seat k seen is sees run history seats = grind arith
