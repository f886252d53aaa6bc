-- One item call, as recorded in its seat.
use Rattle.std.proofs.Common.{subst, ◌≡◌, ◌≤◌, ◌<◌, ◌+◌, ◌∙◌, sym, refl, ap, ℕ, List, [], ◌∷◌, ◌++◌, length, map, zero, suc, arith, Some}
use Rattle.std.specs.Prelude.{Option, Result, Ok, Err, slice_get, ◌==◌, ◌↔◌}
use Rattle.std.proofs.lemmas.Option.{slice_get_cases}
use Rattle.std.proofs.lemmas.List.Sums.{length-filter, count_by-le-length}
use Rattle.causal_protocol.specs.declared.request.Request.{Request}
use Rattle.causal_protocol.specs.declared.request.Reply.{Reply}
use Rattle.causal_shared.specs.declared.item.Item.{Item}
use Rattle.causal_shared.specs.Limits.{max_items}
use Rattle.causal_trace.specs.declared.entry.Entry.{Entry}
use Rattle.causal_shared.specs.History.{run_length, HasDeliveryOf, LockedState, Holds, item_count}
use Rattle.causal_shared.specs.LockInvariant.{LockInvariant}
use Rattle.causal_protocol.specs.declared.request.Restarted.{Restarted}
use Rattle.causal_shared.specs.declared.refused.LockedRefused.{LockedRefused}
use Rattle.causal_shared.specs.Inside.ResultConversions.{map_refusal, shared_refusal}
use Rattle.causal_shared.specs.Locked.{item_reply, restart_item_reply, ItemCall, IsSnapshot}
use Rattle.causal_shared.specs.declared.fault.LockedFault.{LockedFault}
use Rattle.causal_shared.specs.declared.fault.SharedFault.{SharedFault}
use Rattle.causal_shared.specs.declared.fault.SharedFault.TheVariants as Fault
use Rattle.causal_trace.specs.Rows.{Recording}
use Rattle.causal_shared.specs.declared.item.Snapshot.{Snapshot}
use Rattle.causal_shared.specs.Seat.{seat_reply, seat_restart_reply, SeatView, SeatCall, SeatMemory, with_item, SnapshotSeen}
use Rattle.causal_shared.specs.Inside.SeatChecks.{refusal_of, shared_result, CanCall, MatchesRecord, ItemSection}
use Rattle.causal_protocol.proofs.Lemmas.StepAppends.{replies_tell_entries}

-- a seat that can call satisfies the precondition of the locked value's calls
pub called : (held : LockedState) (seat : SeatMemory) (first number count : ℕ) → CanCall held seat first → number ≡ seat.view.number → count ≡ length seat.view.items
    → (number < length held.seats) × (count ≡ item_count held.seats number) × (length held.history < max_items)
called held seat first number count may own counted = (subst (λ n. n < length held.seats) (sym own) may.inside, counted ∙ may.counted ∙ ap (item_count held.seats) (sym own), may.room)

-- a matching seat's `seen` count is at most the run's length
pub Holds-seen : (held : LockedState) (seat count seen : ℕ) (last : Option Item) → LockInvariant held.run held.history held.seats → Holds held seat count seen last → seen ≤ run_length held.run
Holds-seen held seat count seen last keeps holds =
    let k = holds.kept in
    omega (arith, (keeps.kept seat k.0 k.1).seen, k.3)

-- a matching seat has at most as many items as the history
pub Holds-count : (held : LockedState) (seat count seen : ℕ) (last : Option Item) → LockInvariant held.run held.history held.seats → Holds held seat count seen last → count ≤ length held.history
Holds-count held seat count seen last keeps holds =
    let k = holds.kept in
    let counted = (keeps.kept seat k.0 k.1).count in
    let as_count = length-filter (λ (i : Item). i.seat == seat) held.history in
    let few = count_by-le-length (λ (i : Item). i.seat == seat) held.history in
    omega (arith, counted, k.2, as_count, few)

Holds-inside : (held : LockedState) (seat count seen : ℕ) (last : Option Item) → Holds held seat count seen last → seat < length held.seats
Holds-inside held seat count seen last holds = let is = holds.kept.1 in grind (arith, is, slice_get_cases held.seats seat)

Holds-counted : (held : LockedState) (seat count seen : ℕ) (last : Option Item) → Holds held seat count seen last → count ≡ item_count held.seats seat
Holds-counted held seat count seen last holds = grind arith

-- the trace contains the delivery of a matching seat's last item
Holds-shows : (held : LockedState) (seat count seen : ℕ) (last : Option Item) (item : Item) → LockInvariant held.run held.history held.seats → Holds held seat count seen last → last ≡ Some item → HasDeliveryOf held.run.recording.past item
Holds-shows held seat count seen last item keeps holds is = grind (arith, keeps.kept seat holds.kept.0, holds.kept, holds.ends, keeps.shown)

-- a seat that matches its record can make an item call if there is capacity
pub MayCall-is : (held : LockedState) (seat : SeatMemory) (tag first : ℕ) → LockInvariant held.run held.history held.seats → MatchesRecord tag held seat.view → length held.history < max_items → first ≡ run_length held.run → 1 ≤ seat.spare → CanCall held seat first
MayCall-is held seat tag first keeps seated room begins spare =
    let view = seat.view in
    let known = Holds-seen held _ _ _ _ keeps seated.1 in
    let count = Holds-count held _ _ _ _ keeps seated.1 in
    record {
      begins = begins;
      later = omega (arith, known, begins);
      inside = Holds-inside held _ _ _ _ seated.1;
      counted = Holds-counted held _ _ _ _ seated.1;
      room = room;
      few = omega (arith, count, room);
      spare = spare;
    }

-- an item call that made an item, with the seat's new view
pub section_some : (old new : LockedState) (seat : SeatMemory) (seat' : SeatView) (request : Request) (reply : Reply) (first seen : ℕ) → CanCall old seat first → ItemCall old new seat.view.number (length seat.view.items) request (Some reply)
    → seen ≡ run_length new.run → seat' ≡ with_item seat.view request reply first seen → ItemSection old new seat.view seat' request (Some reply)
section_some old new seat seat' request reply first seen may adds sees is =
    grind (arith, replies_tell_entries old.run new.run request reply adds.step)

-- a snapshot updates the seat's view as `SnapshotSeen` states
pub SeesEntries-is : (held : LockedState) (old new : SeatView) (s : Snapshot) (tag seen : ℕ) → LockInvariant held.run held.history held.seats → MatchesRecord tag held old → IsSnapshot held s → seen ≡ length s.trace.recording.past → new ≡ record old { seen = seen } → SnapshotSeen old new s.trace.recording.past
SeesEntries-is held old new s tag seen keeps seated copy sees is =
    let known = Holds-seen held _ _ _ _ keeps seated.1 in
    let same : length s.trace.recording.past ≡ run_length held.run = ap (λ (r : Recording). length r.past) copy.trace in
    record {
      later = omega (arith, known, same);
      change = is ∙ ap (λ n. record old { seen = n }) sees;
      shows = λ item last. subst (λ (past : List Entry). HasDeliveryOf past item) (sym (ap (λ (r : Recording). r.past) copy.trace)) (Holds-shows held _ _ _ _ item keeps seated.1 last);
    }

-- appending one seat to the list of new seats
pub seats_snoc : (seats : List SeatMemory) (seat : SeatMemory) (f : ℕ → SeatView) (k : ℕ) → length seats ≡ k → ((n : ℕ) → n < k → slice_get (map (λ (s : SeatMemory). s.view) seats) n ≡ Some (f n)) → seat.view ≡ f k
    → (n : ℕ) → n < k + 1 → slice_get (map (λ (s : SeatMemory). s.view) (seats ++ seat ∷ [])) n ≡ Some (f n)
seats_snoc [] seat f k len each is zero lt = let none : k ≡ 0 = sym len in ap Some (is ∙ ap f none)
seats_snoc [] seat f k len each is (suc n) lt = absurd (omega (arith, len, lt))
seats_snoc (s ∷ seats) seat f zero len each is n lt = absurd (omega (arith, len))
seats_snoc (s ∷ seats) seat f (suc k) len each is zero lt = each 0 (omega arith)
seats_snoc (s ∷ seats) seat f (suc k) len each is (suc n) lt = seats_snoc seats seat (λ n. f (suc n)) k (omega (arith, len)) (λ n lt. each (suc n) (omega (arith, lt))) is n (omega (arith, lt))

-- the reply stored in the seat's list equals the reply stored in the history
heard_told : {A : Type 0} (answer : A → Reply) (a : Result A LockedFault) → seat_reply answer (shared_result a) ≡ item_reply answer a
heard_told answer a = grind arith

-- the locked value's call and the seat's update are together one section of the lock
pub section_heard : {A : Type 0} (answer : A → Reply) (old new : LockedState) (before : SeatView) (seat seat' : SeatMemory) (request asked : Request) (a : Result A LockedFault) (result : Result A SharedFault) (reply : Option Reply) (number count first : ℕ)
    → ((old : LockedState) → CanCall old seat first → ItemCall old new seat.view.number (length seat.view.items) asked reply → ItemSection old new seat.view seat'.view asked reply)
    → CanCall old seat first → ItemCall old new number count request (item_reply answer a) → number ≡ seat.view.number → count ≡ length seat.view.items → asked ≡ request → reply ≡ item_reply answer a → result ≡ shared_result a → seat.view ≡ before
    → ItemSection old new before seat'.view request (seat_reply answer result)
section_heard answer old new before seat seat' request asked a result reply number count first hears may made at counted asks tells shared same =
    grind (arith, heard_told answer a)

-- the locked value never returns `WrongSeat` or `HistoryFull`
never_wrong : {A : Type 0} (a : Result A LockedFault) → shared_result a ≡ Err Fault.WrongSeat → ⊥
never_wrong a e = grind arith

-- the locked value never returns `HistoryFull`
pub never_full : {A : Type 0} (a : Result A LockedFault) → shared_result a ≡ Err Fault.HistoryFull → ⊥
never_full a e = grind arith

-- a seat that can call is not reported as wrong
pub not_wrong : {A : Type 0} (a : Result A LockedFault) (item_reply : Result A SharedFault) (r : Result ℕ SharedFault) (first : ℕ) (P : Type 0) → item_reply ≡ shared_result a → r ≡ Ok first → (r ≡ Err Fault.WrongSeat ↔ ¬ P) → (item_reply ≡ Err Fault.WrongSeat ↔ ¬ P)
not_wrong a item_reply r first P is ok wrong = (λ e. absurd (never_wrong a (sym is ∙ e)), λ no. absurd (let e : ◌≡◌ {A = Result ℕ SharedFault} (Ok first) (Err Fault.WrongSeat) = sym ok ∙ wrong.1 no in cc))

-- for a restart's result, the seat's item reply equals the history's item reply
pub heard_again : {B : Type 0} (a : Result Restarted (LockedRefused B)) → seat_restart_reply (map_refusal shared_refusal a) ≡ restart_item_reply a
heard_again a = grind arith

pub restarts_never_wrong : {B : Type 0} (a : Result Restarted (LockedRefused B)) → refusal_of (map_refusal shared_refusal a) ≡ Some Fault.WrongSeat → ⊥
restarts_never_wrong a e = grind arith

pub restarts_never_full : {B : Type 0} (a : Result Restarted (LockedRefused B)) → refusal_of (map_refusal shared_refusal a) ≡ Some Fault.HistoryFull → ⊥
restarts_never_full a e = grind arith

-- a section of the lock implies the seat's public clause
pub seat_called : (old new : LockedState) (seat seat' : SeatView) (request : Request) (reply : Option Reply) → ItemSection old new seat seat' request reply → SeatCall seat seat' request reply
seat_called old new seat seat' request reply section = grind (arith, section)

-- `WrongSeat` is returned if and only if the seat does not match
pub not_seated : {A : Type 0} (P : Type 0) → ¬ P → (◌≡◌ {A = Result A SharedFault} (Err Fault.WrongSeat) (Err Fault.WrongSeat) ↔ ¬ P)
not_seated P unseated = (λ e. unseated, λ other. refl)
