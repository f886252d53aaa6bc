-- Items of commands that one seat issues, and what a legal history of them says: a run of the commands, or a true refusal.
use Rattle.std.proofs.Common.{◌≡◌, ◌≢◌, ◌∙◌, sym, refl, subst, List, Some, ◌<◌, ◌+◌, ap, ℕ, [], ◌∷◌, ◌++◌, length, take, drop, get_or, Ok, ◌-◌, zero, suc, slice_set, arith}
use Rattle.causal_name.specs.declared.Pid.{Pid}
use Rattle.causal_trace.specs.declared.entry.Entry.{Entry}
use Rattle.causal_protocol.specs.declared.request.Request.{Request}
use Rattle.causal_protocol.specs.declared.request.Request.TheVariants as Requests
use Rattle.causal_protocol.specs.declared.request.Reply.{Reply}
use Rattle.causal_protocol.specs.declared.request.Reply.TheVariants as Replies
use Rattle.causal_protocol.specs.declared.request.FlushFault.{FlushFault}
use Rattle.causal_protocol.specs.declared.request.CoreFault.{CoreFault}
use Rattle.causal_protocol.specs.declared.request.CoreFault.TheVariants as Faults
use Rattle.causal_protocol.specs.Run.{Run}
use Rattle.causal_protocol.specs.Refusals.{request_fault}
use Rattle.causal_protocol.specs.Steps.{LegalStep, flush_reason_of, Steps}
use Rattle.causal_protocol.proofs.Lemmas.Reasons.{reason_known}
use Rattle.causal_shared.specs.declared.item.Item.{Item}
use Rattle.causal_shared.specs.History.{run_length, entries_since, IsCallStep, drop_newest, run_at, AllLegal, opening_in, items_of}
use Rattle.causal_script.specs.declared.script.Command.{Command}
use Rattle.causal_run.specs.Runs.{fault_in_reply, IsRefusedWith, spares_for, spares_in, PerformsOne, Performs, IsStarted, IsRunTo, IsRefusedFrom, ExplainsRunFault}
use Rattle.std.specs.List.{AllZip}
use Rattle.std.proofs.lemmas.List.{take_more, drop_more, take-append-drop}
use Rattle.std.proofs.lemmas.List.Sums.{sum_by-drop_more}
use Rattle.causal_shared.specs.declared.fault.SharedFault.{SharedFault}
use Rattle.causal_shared.specs.declared.fault.SharedFault.TheVariants as Call
use Rattle.causal_shared.specs.Seat.{SeatView, IsSeatCall, SeatCall, seat_fault_reply, next_item, SeatMemory}
use Rattle.causal_run.specs.Inside.IssuedRequests.{RecordsRequest, ArePerformed, IsPerformed, IsRefusedRun, IsRefusedRunAt, refusal_at, run_fault_at}
use Rattle.std.specs.Prelude.{All}
use Rattle.std.proofs.lemmas.Bool.Decides.{nat_tests}
use Rattle.causal_process.specs.declared.message.Input.{Input}
use Rattle.causal_process.specs.declared.message.Outgoing.{Outgoing}
use Rattle.causal_core.specs.CoreView.{CoreState}
use Rattle.causal_core.specs.Starts.{Starts}
use Rattle.causal_shared.specs.Shared.{Opening}
use Rattle.causal_shared.specs.Finish.{HasSeatHistory, AllHaveSeats, before_items}
use Rattle.causal_run.specs.declared.fault.RunFault.{RunFault}
use Rattle.causal_run.specs.declared.fault.RunFault.TheVariants as Fault

flush_stands : (r : Run) (p : Pid) (fault : CoreFault) → request_fault r (Requests.Flush p) ≡ flush_reason_of fault → fault ≢ Faults.NoMemory → IsRefusedWith r (Requests.Flush p) fault
flush_stands r p Faults.NoMemory is known = absurd (known refl)
flush_stands r p fault is known = is

refused_stands : (r : Run) (request : Request) (fault : CoreFault) (es : List Entry) → LegalStep r request (Replies.Refused fault) es → fault ≢ Faults.NoMemory → IsRefusedWith r request fault
unfolding LegalStep
refused_stands r (Requests.Flush p) fault es legal known = absurd legal
refused_stands r request fault es legal known = legal.0 ∙ reason_known fault known

stopped_stands : (r : Run) (request : Request) (f : FlushFault) (es : List Entry) → LegalStep r request (Replies.FlushRefused f) es → f.fault ≢ Faults.NoMemory → IsRefusedWith r request f.fault
unfolding LegalStep
stopped_stands r (Requests.Flush p) f es legal known = flush_stands r p f.fault legal.0 known
stopped_stands r request f es legal known = absurd legal

told_stands : (r : Run) (request : Request) (reply : Reply) (es : List Entry) (fault : CoreFault) → LegalStep r request reply es → fault_in_reply reply ≡ Some fault → fault ≢ Faults.NoMemory → IsRefusedWith r request fault
told_stands r request (Replies.Refused f) es fault legal told known =
    let same : f ≡ fault = cc in subst (IsRefusedWith r request) same (refused_stands r request f es legal (λ e. known (sym same ∙ e)))
told_stands r request (Replies.FlushRefused f) es fault legal told known =
    let same : f.fault ≡ fault = cc in subst (IsRefusedWith r request) same (stopped_stands r request f es legal (λ e. known (sym same ∙ e)))
told_stands r request reply es fault legal told known = absurd cc

-- the fault of an item is true of its command, unless it is out of memory
pub stands : (r new : Run) (item : Item) (command : Command) (fault : CoreFault) → IsCallStep r item.request item.reply new → item.request ≡ command.request → fault_in_reply item.reply ≡ Some fault → fault ≢ Faults.NoMemory → IsRefusedWith r command.request fault
stands r new item command fault step asked told known =
    subst (λ (request : Request). IsRefusedWith r request fault) asked (told_stands r item.request item.reply (entries_since (run_length r) new) fault step.legal told known)

AllZip-snoc : {A B : Type 0} (R : A → B → Type 0) (xs : List A) (ys : List B) (x : A) (y : B) → AllZip R xs ys → R x y → AllZip R (xs ++ x ∷ []) (ys ++ y ∷ [])
AllZip-snoc R [] [] x y all r = (r, tt)
AllZip-snoc R (z ∷ xs) (w ∷ ys) x y all r = (all.0, AllZip-snoc R xs ys x y all.1 r)
AllZip-snoc R _ _ x y all r = absurd all

-- the commands up to and including one
take-with : (commands : List Command) (i : ℕ) (d command : Command) → i < length commands → get_or commands i d ≡ command → take (i + 1) commands ≡ take i commands ++ command ∷ []
take-with commands i d command lt is = take_more commands i d lt ∙ ap (λ (c : Command). take i commands ++ c ∷ []) is

-- one more command is performed
pub done_more : {A : Type 0} (a : A) (commands : List Command) (i : ℕ) (d command : Command) (old new : SeatView) → i < length commands → get_or commands i d ≡ command
    → RecordsRequest old new command.request (Ok a) → ArePerformed (take i commands) old.items → ArePerformed (take (i + 1) commands) new.items
done_more a commands i d command old new lt is asked done =
    let items : new.items ≡ old.items ++ next_item old command.request asked.0 asked.2.first ∷ [] = ap (λ (s : SeatView). s.items) asked.2.change in
    rw (take-with commands i d command lt is, items) (AllZip-snoc IsPerformed (take i commands) old.items command (next_item old command.request asked.0 asked.2.first) done (refl, asked.1))

-- the remaining spares suffice
pub spares_left : (commands : List Command) (i : ℕ) (d command : Command) → i < length commands → get_or commands i d ≡ command → spares_in (drop i commands) ≡ spares_for command.request + spares_in (drop (i + 1) commands)
spares_left commands i d command lt is = sum_by-drop_more (λ (c : Command). spares_for c.request) commands i d lt ∙ ap (λ (c : Command). spares_for c.request + spares_in (drop (i + 1) commands)) is

-- the commands are those before one, that one, and the rest
split-at : (commands : List Command) (i : ℕ) (d command : Command) → i < length commands → get_or commands i d ≡ command → commands ≡ take i commands ++ command ∷ drop (i + 1) commands
split-at commands i d command lt is =
    sym (take-append-drop i commands) ∙ ap (λ (cs : List Command). take i commands ++ cs) (drop_more commands i d lt ∙ ap (λ (c : Command). c ∷ drop (i + 1) commands) is)

stopped-at : (commands : List Command) (i : ℕ) (d command : Command) (old new : SeatView) (reply : Reply) (fault : CoreFault) → i < length commands → get_or commands i d ≡ command
    → ArePerformed (take i commands) old.items → IsSeatCall old new command.request reply → fault_in_reply reply ≡ Some fault → fault ≢ Faults.NoMemory → IsRefusedRunAt commands new.items command.line fault
stopped-at commands i d command old new reply fault lt is done call told known = record {
  before = take i commands;
  command = command;
  after = drop (i + 1) commands;
  split = split-at commands i d command lt is;
  here = refl;
  performed = old.items;
  last = next_item old command.request reply call.first;
  all_items = ap (λ (s : SeatView). s.items) call.change;
  each = done;
  request = refl;
  refused = told;
  known = known;
}

stopped_core : (commands : List Command) (i : ℕ) (d command : Command) (old new : SeatView) (reply : Reply) (fault : CoreFault) → i < length commands → get_or commands i d ≡ command
    → ArePerformed (take i commands) old.items → IsSeatCall old new command.request reply → fault_in_reply reply ≡ Some fault → IsRefusedRun commands new.items (refusal_at command.line fault)
stopped_core commands i d command old new reply Faults.NoMemory lt is done call told = tt
stopped_core commands i d command old new reply fault lt is done call told = stopped-at commands i d command old new reply _ lt is done call told (λ e. absurd cc)

-- the next command fails
pub stopped : (commands : List Command) (i : ℕ) (d command : Command) (old new : SeatView) (fault : SharedFault) → i < length commands → get_or commands i d ≡ command
    → ArePerformed (take i commands) old.items → SeatCall old new command.request (seat_fault_reply fault) → IsRefusedRun commands new.items (run_fault_at command.line fault)
stopped commands i d command old new (Call.Core fault) lt is done call = stopped_core commands i d command old new (Replies.Refused fault) fault lt is done call refl
stopped commands i d command old new (Call.Flush f) lt is done call = stopped_core commands i d command old new (Replies.FlushRefused f) f.fault lt is done call refl
stopped commands i d command old new fault lt is done call = tt

cut-end : (r : Run) → run_at r (run_length r) ≡ r
unfolding run_at
cut-end r = let none : run_length r - run_length r ≡ 0 = omega arith in ap (λ k. drop_newest k r) none

Does-item : (old new : Run) (command : Command) (item : Item) → IsPerformed command item → IsCallStep old item.request item.reply new → PerformsOne old command new
Does-item old new command item done step =
    (item.reply, done.1, subst (λ (request : Request). Steps old request item.reply new) done.0 record { appended = entries_since (run_length old) new; grown = step.grown; legal = step.legal })

pub performed : (r : Run) (commands : List Command) (items : List Item) → AllLegal r items → ArePerformed commands items → Performs (opening_in r items) commands r
performed r [] [] legal done = cut-end r
performed r (command ∷ commands) (item ∷ items) legal done =
    (opening_in r items, Does-item (run_at r item.first) (opening_in r items) command item done.0 legal.1, performed r commands items legal.2 done.1)
performed r _ _ legal done = absurd done

-- the items before the last perform the commands, and the last item is a legal step from there
pub performed-before : (r : Run) (commands : List Command) (items : List Item) (last : Item) → AllLegal r (items ++ last ∷ []) → ArePerformed commands items
    → Performs (opening_in r (items ++ last ∷ [])) commands (run_at r last.first) × IsCallStep (run_at r last.first) last.request last.reply (run_at r (run_length r))
performed-before r [] [] last legal done = (refl, legal.1)
performed-before r (command ∷ commands) (item ∷ items) last legal done =
    let rest = performed-before r commands items last legal.2 done.1 in
    ((opening_in r (items ++ last ∷ []), Does-item (run_at r item.first) (opening_in r (items ++ last ∷ [])) command item done.0 legal.1, rest.0), rest.1)
performed-before r _ _ last legal done = absurd done

faults-cut : (r : Run) (n : ℕ) → (run_at r n).faults ≡ r.faults
unfolding run_at
faults-cut r n = refl

-- a history of these items that begins where a core started
module _ {B : Type 0} (answers : B → List Input → List (List Outgoing)) (f : ℕ) (boxes : List B) (core : CoreState B) (r : Run) (items : List Item) (opening : Opening)
    (starts : Starts answers f boxes core) (opens : before_items r items ≡ opening) (same_recording : opening.recording ≡ core.run.recording) (same_faults : opening.faults ≡ core.run.faults) where
  -- a run has the bound f with which its core started
  pub faults-as : r.faults ≡ f
  faults-as = ap (λ (o : Opening). o.faults) opens ∙ same_faults ∙ ap (λ (run : Run). run.faults) starts.run

  started : IsStarted answers f boxes (opening_in r items)
  started = record { core = core; starts = starts; recording = ap (λ (o : Opening). o.recording) opens ∙ same_recording; faults = faults-cut r _ ∙ faults-as }

  -- a legal history from a start, in which all commands were performed, is a run of them
  pub run-of : (commands : List Command) → AllLegal r items → ArePerformed commands items → IsRunTo (IsStarted answers f boxes) commands r
  run-of commands legal done = record { start = opening_in r items; started = started; performed = performed r commands items legal done }

  refused-at : (commands : List Command) (line : ℕ) (fault : CoreFault) → AllLegal r items → IsRefusedRunAt commands items line fault → IsRefusedFrom (IsStarted answers f boxes) commands line fault
  refused-at commands line fault legal stopped =
      let all : AllLegal r (stopped.performed ++ stopped.last ∷ []) = subst (AllLegal r) stopped.all_items legal in
      let both = performed-before r stopped.before stopped.performed stopped.last all stopped.each in record {
        before = stopped.before;
        command = stopped.command;
        after = stopped.after;
        split = stopped.split;
        here = stopped.here;
        start = opening_in r items;
        end = run_at r stopped.last.first;
        started = started;
        performed = subst (λ (is : List Item). Performs (opening_in r is) stopped.before (run_at r stopped.last.first)) (sym stopped.all_items) both.0;
        refused = stands (run_at r stopped.last.first) (run_at r (run_length r)) stopped.last stopped.command fault both.1 stopped.request stopped.refused stopped.known;
      }

  -- if a legal history from a start ends with an error, the error is true of the commands
  pub refused-as : (commands : List Command) (fault : RunFault) → AllLegal r items → IsRefusedRun commands items fault → ExplainsRunFault (IsStarted answers f boxes) commands fault
  refused-as commands (Fault.Refused line fault) legal stopped = refused-at commands line fault legal stopped
  refused-as commands fault legal stopped = tt

seat-of : (s x : SeatMemory) (item : Item) (k : ℕ) → k < 1 → get_or (s ∷ []) k x ≡ x → x.view.number ≡ item.seat → s.view.number ≡ item.seat
seat-of s x item zero lt is here = ap (λ (s : SeatMemory). s.view.number) is ∙ here
seat-of s x item (suc k) lt is here = absurd (omega arith)

all-of : (n : ℕ) (items : List Item) → ((k : ℕ) (d : Item) → k < length items → n ≡ (get_or items k d).seat) → items_of n items ≡ items
all-of n [] each = refl
all-of n (item ∷ items) each =
    let head : n ≡ item.seat = each 0 item (omega arith) in
    grind (arith, nat_tests, all-of n items (λ k d lt. each (suc k) d (omega arith)))

-- if all items are of one seat, the seat's own list is the history
pub one-seat : (history : List Item) (seats : List SeatMemory) (s : SeatMemory) → seats ≡ s ∷ [] → All (HasSeatHistory history) seats → AllHaveSeats seats history → s.view.items ≡ history
one-seat history seats s is agree seated =
    let agrees : All (HasSeatHistory history) (s ∷ []) = subst (All (HasSeatHistory history)) is agree in
    let all : AllHaveSeats (s ∷ []) history = subst (λ (ss : List SeatMemory). AllHaveSeats ss history) is seated in
    sym (agrees 0 s (omega arith)) ∙ all-of s.view.number history (λ k d lt. let h = (all.each k d lt).seat in seat-of s h.1 (get_or history k d) h.0 h.2 h.3 h.4)

-- setting the only element of a list leaves exactly the new element
pub set-one : {X : Type 0} (xs : List X) (x : X) → length xs ≡ 1 → slice_set xs 0 x ≡ x ∷ []
set-one (y ∷ []) x is = refl
set-one _ x is = absurd (omega (arith, is))
