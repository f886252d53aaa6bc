-- Each call of an endpoint keeps what is true of its states, and sends to stable storage determinants of processes.
use Rattle.std.proofs.Common.{ℕ, ◌≡◌, ◌∙◌, ◌==◌, ◌<◌, ◌^◌, Bool, true, false, not, ◌&&◌, List, [], ◌∷◌, map, length, Option, None, inl, inr, refl, sym, ap, subst, arith}
use Rattle.std.specs.Prelude.{if◌then◌else◌}
use Rattle.std.specs.List.{list_any, AllByRecursion}
use Rattle.std.specs.Cmp.{nat_cmp_total}
use Rattle.std.specs.Ordering.{nat_cmp}
use Rattle.std.specs.FinMap as fin
use Rattle.std.specs.FinSet as set
use Rattle.std.proofs.lemmas.Bool.{false≢true, both_ways, or_cases, and_parts, eqb-true}
use Rattle.causal_name.specs.declared.Pid.{Pid}
use Rattle.causal_name.specs.declared.Det.{Det}
use Rattle.causal_name.specs.Names.{same_det, same_pid}
use Rattle.causal_name.proofs.Lemmas.DetOrder.{nat_ties, same_is}
use Rattle.causal_trace.specs.declared.entry.Entry.{Entry}
use Rattle.causal_log.specs.declared.known.Known.{Known}
use Rattle.causal_log.proofs.Lemmas.KnowledgeGrows.{logged_all, known_all, holds_either}
use Rattle.causal_protocol.specs.MemoryQueries.{has_entry, log_knows_holder, item_holder}
use Rattle.causal_wire.specs.declared.parcel.Head.{Head}
use Rattle.causal_wire.specs.declared.parcel.ParcelItem.{ParcelItem as WireItem}
use Rattle.causal_wire.specs.declared.parcel.LogEntry.{LogEntry}
use Rattle.causal_wire.specs.Parcels.{Contents, message, acknowledgement, question, answer, own_number, not_up, IsDet, IsItem, IsRun, IsParcel}
use Rattle.causal_wire.specs.Reading.{read_parcel}
use Rattle.causal_world.specs.World.{Packet}
use Rattle.causal_node.specs.declared.node.Identity.{Identity}
use Rattle.causal_node.specs.NodeStates.{NodeState, floor_of}
use Rattle.causal_nodes.specs.Packets.{Sent, not_up_packet, number_packet}
use Rattle.causal_calls.specs.Views.{IsNodeState}
use Rattle.causal_calls.specs.StepLaws.{NamesProcesses, TakesOfProcesses, CallsKeepNodeStates}
use Rattle.causal_protocol.proofs.Lemmas.LogMembers.{none_entry, none_holds}
use Rattle.causal_endpoint.specs.declared.fault.EndpointFault.TheVariants as Faults
use Rattle.causal_endpoint.specs.Endpoints.{EndpointState, run_of}
use Rattle.causal_endpoint.specs.Receiving.{contents_fault, clock_with}
use Rattle.causal_endpoint.specs.Items.{log_item, log_entry, log_from}
use Rattle.causal_endpoints.specs.Packets.{taken_with, not_up_for}
use Rattle.causal_endpoints.specs.Calls.{CallInput, nothing, bytes, from_storage, ended, Output, one_request, output_at, EndpointCall, send, resend, acknowledge, forget, receive, write, stored, begin_round, ask, take_ended, ask_storage, take_stored, finish_read, restart, open_again}
use Rattle.causal_endpoints.specs.States.{IsEndpointState, IsOfDets, IsOfRun}
use Rattle.causal_endpoints.specs.CallLaws.{IsListed, TakesPacket, EndpointCallsKeepStates}
use Rattle.causal_endpoints.proofs.Legal.{or_else_none, node_or_none, clock_below}
use Rattle.causal_endpoints.proofs.CallRows.{ReadsBack, read_is, one_among, calls_are_node_calls}
use Rattle.causal_endpoints.proofs.Within.{IsWithin, IsTakenWithin, IsWithinIfTaken, each_number, calls_within}

-- what follows of an element that passes, follows if one of a list does
from_any : {A B G : Type 0} (P : A → Type 0) (to : A → B) (test : B → Bool) (xs : List A) → AllByRecursion P xs → list_any test (map to xs) ≡ true → ((x : A) → P x → test (to x) ≡ true → G) → G
from_any P to test [] each h get = absurd (false≢true h)
from_any P to test (x ∷ xs) each h get = elim (or_cases (test (to x)) _ h) [ inl here ↦ get x each.0 here | inr later ↦ from_any P to test xs each.1 later get ]

-- what a parcel of n processes brings
module _ (n : ℕ) (source : Pid) (low : source.0 < n) where
  member : (s : set.FinSet nat_cmp) (q : ℕ) → ((p : ℕ) → set.contains s p ≡ true → p < n) → set.contains (set.insert s source.0) q ≡ true → q < n
  member s q others h = grind (arith, set.contains-insert nat_cmp_total s source.0 q, nat_ties q source.0, eqb-true q source.0, others q)

  det_is : (d : Det) (x : WireItem) → IsItem n source.0 x → same_det d x.det ≡ true → IsDet n d
  det_is d x fits here = subst (IsDet n) (sym (same_is d x.det here)) fits.det

  holder_is : (d : Det) (q : ℕ) (x : WireItem) → IsItem n source.0 x → (same_det d x.det && set.contains (set.insert x.others source.0) q) ≡ true → q < n
  holder_is d q x fits here = member x.others q fits.others.processes (and_parts _ _ here).1

  items_holders : (d : Det) (q : ℕ) (items : List WireItem) → AllByRecursion (IsItem n source.0) items → item_holder d q (map (log_item source) items) ≡ true → q < n
  items_holders d q items each h = from_any _ (log_item source) _ items each h (holder_is d q)

  log_dets : (d : Det) (entries : List LogEntry) → AllByRecursion (λ (entry : LogEntry). IsItem n source.0 entry.item) entries → has_entry d (log_from source entries) ≡ true → IsDet n d
  log_dets d entries each h = elim (or_cases _ _ (sym (logged_all (map (log_entry source) entries) fin.empty d) ∙ h)) [
    | inl none ↦ absurd (both_ways _ (none_entry d) none)
    | inr there ↦ from_any _ (log_entry source) _ entries each there (λ x. det_is d x.item)
  ]

  log_holders : (d : Det) (q : ℕ) (entries : List LogEntry) → AllByRecursion (λ (entry : LogEntry). IsItem n source.0 entry.item) entries → log_knows_holder d q (log_from source entries) ≡ true → q < n
  log_holders d q entries each h = elim (or_cases _ _ (sym (known_all (λ (k : Known). set.contains k.holders q) (holds_either q) (map (log_entry source) entries) fin.empty d) ∙ h)) [
    | inl none ↦ absurd (both_ways _ (none_holds d q) none)
    | inr there ↦ from_any _ (log_entry source) _ entries each there (λ x. holder_is d q x.item)
  ]

module _ (e : EndpointState) where
  abbrev n : ℕ
  n = e.node.identity.processes

  said_within : (q : Pid) (number name : ℕ) → number < 2 ^ 32 → IsTakenWithin n (not_up_for e.node q number name)
  said_within q number name low =
      elim (floor_of e.node.floors q == number) as (λ b. IsTakenWithin n (if b then not_up_packet q.0 e.node.identity.me.0 name else number_packet q.0 number)) [ true ↦ tt | false ↦ low ]

  said_names : (q : Pid) (number name : ℕ) → NamesProcesses n (not_up_for e.node q number name)
  said_names q number name =
      elim (floor_of e.node.floors q == number) as (λ b. NamesProcesses n (if b then not_up_packet q.0 e.node.identity.me.0 name else number_packet q.0 number)) [ true ↦ λ p is. absurd is | false ↦ λ p is. absurd is ]

  parcel_within : (at : ℕ) (head : Head) (contents : Contents) → IsParcel (run_of e) (head, contents) → IsTakenWithin n (taken_with e.node at head contents)
  parcel_within at head (message ssn items body) fits = (fits.head.source, fits.contents.0, λ d h. from_any _ (log_item head.source) _ items fits.contents.1.each h (det_is n head.source fits.head.source d))
  parcel_within at head (acknowledgement items) fits = tt
  parcel_within at head (question round view) fits = each_number view fits.contents.1.each
  parcel_within at head (answer round entries) fits = λ d h. log_dets n head.source fits.head.source d entries fits.contents.1.each h
  parcel_within at head (own_number round) fits = fits.head.lane
  parcel_within at head (not_up round) fits = said_within head.source head.lane round fits.head.lane

  -- a packet, and the one that is equal to it
  as_packet : (p t : Packet) → p ≡ t → ((d : Det) (q : ℕ) → p.parcel.names_holder d q ≡ true → q < n) → (d : Det) (q : ℕ) → t.parcel.names_holder d q ≡ true → q < n
  as_packet p t is names = subst (λ (x : Packet). (d : Det) (q : ℕ) → x.parcel.names_holder d q ≡ true → q < n) is names

  parcel_names : (at : ℕ) (head : Head) (contents : Contents) → IsParcel (run_of e) (head, contents) → NamesProcesses n (taken_with e.node at head contents)
  parcel_names at head (message ssn items body) fits = λ p is. as_packet _ p is (λ d q h. grind (arith, items_holders n head.source fits.head.source d q items fits.contents.1.each, eqb-true q head.source.0, fits.head.source))
  parcel_names at head (acknowledgement items) fits = λ p is. as_packet _ p is (λ d q h. items_holders n head.source fits.head.source d q items fits.contents.each h)
  parcel_names at head (answer round entries) fits = λ p is. as_packet _ p is (λ d q h. log_holders n head.source fits.head.source d q entries fits.contents.1.each h)
  parcel_names at head (not_up round) fits = said_names head.source head.lane round
  parcel_names at head _ fits = λ p is. absurd is

  within_of : IsEndpointState e → IsWithin n e.node.identity.me.0 e.node
  within_of k = record { lane = k.lane; floors = k.floors; logged = k.logged; round = k.round; kept = k.kept; sent = k.sent; received = k.received }

  -- what comes from storage
  abbrev IsReply : CallInput → Type 0
  IsReply (from_storage k) = IsTakenWithin n k × NamesProcesses n k
  IsReply _ = Unit {0}

  takes_within : ReadsBack → IsEndpointState e → (past : List Entry) (input : CallInput) (taken : Option Sent) → IsOfRun e input → IsReply input → TakesPacket past e input taken → IsWithinIfTaken n taken × TakesOfProcesses n taken
  takes_within back k past nothing taken fits reply takes = (subst (λ o. IsWithinIfTaken n o) (sym takes) tt, subst (λ o. TakesOfProcesses n o) (sym takes) tt)
  takes_within back k past (bytes b) taken fits reply (p, read, mine, other, inl none) = (subst (λ o. IsWithinIfTaken n o) (sym none) tt, subst (λ o. TakesOfProcesses n o) (sym none) tt)
  takes_within back k past (bytes b) taken fits reply (p, read, mine, other, inr is) =
      let same : p ≡ fits.0 = read_is (read_parcel (run_of e) b) p fits.0 read (ap (read_parcel (run_of e)) fits.2 ∙ back (run_of e) fits.0 k.run fits.1) in
      let of_run = subst (λ q. IsParcel (run_of e) q) (sym same) fits.1 in
      (subst (λ o. IsWithinIfTaken n o) (sym is.2) (parcel_within is.0 p.0 p.1 of_run), subst (λ o. TakesOfProcesses n o) (sym is.2) (parcel_names is.0 p.0 p.1 of_run))
  takes_within back k past (from_storage j) taken fits reply takes = (subst (λ o. IsWithinIfTaken n o) (sym takes) reply.0, subst (λ o. TakesOfProcesses n o) (sym takes) reply.1)
  takes_within back k past (ended q number) taken fits reply (r, gathers, is, apart) = (subst (λ o. IsWithinIfTaken n o) (sym is) (said_within q number r.name fits), subst (λ o. TakesOfProcesses n o) (sym is) (said_names q number r.name))

  -- the clock after a parcel was taken
  clock_kept : (now : ℕ) (head : Head) (contents : Contents) → e.clock < 2 ^ 62 → head.clock < 2 ^ 62 → contents_fault e now head contents ≡ None → clock_with e now head contents < 2 ^ 62
  clock_kept now head (message ssn items body) low head_low legal = clock_below _ (node_or_none _ _ legal).1
  clock_kept now head (question round view) low head_low legal = clock_below _ (node_or_none _ _ legal).1
  clock_kept now head _ low head_low legal = omega (arith, low, head_low)

  silent_at : (now : ℕ) (head : Head) (contents : Contents) → ((name : ℕ) → IsListed (output_at e now head contents).names name → ⊥) × ((k : Sent) → IsListed (output_at e now head contents).to_storage k → ⊥)
  silent_at now head (message ssn items body) = ((λ name h. h), (λ k h. h))
  silent_at now head _ = ((λ name h. h), (λ k h. h))

-- what is plain of each call
record IsPlain (old : EndpointState) (input : CallInput) (new : EndpointState) (output : Output) : Type 0 where
  run : new.run ≡ old.run
  clock : new.clock < 2 ^ 62
  names : (name : ℕ) → IsListed output.names name → name < 2 ^ 64
  reply : IsReply old input
  requests : (k : Sent) → IsListed output.to_storage k → IsOfDets old.node.identity.processes k

plainly : (old new : EndpointState) (input : CallInput) (output : Output) → new.run ≡ old.run → new.clock < 2 ^ 62 → IsReply old input → ((name : ℕ) → IsListed output.names name → ⊥) → ((k : Sent) → IsListed output.to_storage k → ⊥)
    → IsPlain old input new output
plainly old new input output run clock reply unnamed unasked = record { run = run; clock = clock; names = λ name h. absurd (unnamed name h); reply = reply; requests = λ k h. absurd (unasked k h) }

asking : (old : EndpointState) (k : Sent) → old.clock < 2 ^ 62 → IsOfDets old.node.identity.processes k → IsPlain old nothing old (one_request k)
asking old k clock fits = record { run = refl; clock = clock; names = λ name h. absurd h; reply = tt; requests = one_among (IsOfDets old.node.identity.processes) k fits }

none_of : {X : Type 0} (x : X) → IsListed [] x → ⊥
none_of x h = h

plain : ReadsBack → (past : List Entry) (old new : EndpointState) (input : CallInput) (output : Output) (entries : List Entry) → EndpointCall past old input new output entries → IsEndpointState old → IsOfRun old input → IsPlain old input new output
plain back past old new input output entries (send now to body legal) k fits = plainly old new input output refl (clock_below _ (or_else_none _ _ _ (node_or_none _ _ legal).1).1) tt none_of none_of
plain back past old new input output entries (resend ssn again legal is) k fits = plainly old new input output refl k.clock tt none_of none_of
plain back past old new input output entries (acknowledge now to dets ascends legal) k fits = plainly old new input output refl (clock_below _ (or_else_none _ _ _ (node_or_none _ _ legal).1).1) tt none_of none_of
plain back past old new input output entries (forget now legal) k fits = plainly old new input output refl (clock_below _ (node_or_none _ _ legal).1) tt none_of none_of
plain back past old new input output entries (receive now b p recorded read legal records) k fits =
    let same : p ≡ fits.0 = read_is (read_parcel (run_of old) b) p fits.0 read (ap (read_parcel (run_of old)) fits.2 ∙ back (run_of old) fits.0 k.run fits.1) in
    let of_run = subst (λ q. IsParcel (run_of old) q) (sym same) fits.1 in
    let dest = or_else_none (not (same_pid p.0.dest old.node.identity.me)) Faults.NotMine _ legal in
    let source = or_else_none (same_pid p.0.source old.node.identity.me) Faults.OwnParcel _ dest.1 in
    plainly old new input output refl (clock_kept old now p.0 p.1 k.clock of_run.head.clock source.1) tt (silent_at old now p.0 p.1).0 (silent_at old now p.0 p.1).1
plain back past old new input output entries (write dets up logged) k fits = asking old _ k.clock (λ d h. k.logged d (logged d h))
plain back past old new input output entries (stored now dets det up legal has) k fits = plainly old new input output refl (clock_below _ (node_or_none _ _ legal).1) (fits, λ p is. absurd is) none_of none_of
plain back past old new input output entries (begin_round name low legal) k fits = record { run = refl; clock = k.clock; names = one_among (λ m. m < 2 ^ 64) name low; reply = tt; requests = λ j h. absurd h }
plain back past old new input output entries (ask now to legal) k fits = plainly old new input output refl (clock_below _ (node_or_none _ _ legal).1) tt none_of none_of
plain back past old new input output entries (take_ended name q number legal) k fits = plainly old new input output refl k.clock tt none_of none_of
plain back past old new input output entries (ask_storage r gathers legal) k fits = asking old _ k.clock tt
plain back past old new input output entries (take_stored now r dets det gathers legal has) k fits = plainly old new input output refl (clock_below _ (node_or_none _ _ legal).1) (fits, λ p is. absurd is) none_of none_of
plain back past old new input output entries (finish_read r dets gathers legal all) k fits = plainly old new input output refl k.clock (fits, λ p is. absurd is) none_of none_of
plain back past old new input output entries (restart now reserved legal) k fits = plainly old new input output refl (clock_below _ (node_or_none _ _ legal).1) tt none_of none_of
plain back past old new input output entries (open_again round clock down low) k fits = plainly old new input output refl low tt none_of none_of

-- the state of an endpoint, by what is true of its node
pub state_of : (e : EndpointState) → IsNodeState e.node → IsRun (run_of e) → e.clock < 2 ^ 62 → IsWithin e.node.identity.processes e.node.identity.me.0 e.node → IsEndpointState e
state_of e node run clock within = assumption

-- the state after a call
state_from : (old new : EndpointState) → IsEndpointState old → new.node.identity ≡ old.node.identity → new.run ≡ old.run → new.clock < 2 ^ 62 → IsNodeState new.node
    → IsWithin old.node.identity.processes old.node.identity.me.0 new.node → IsEndpointState new
state_from old new k identity run clock node within =
    let of_run = subst IsRun (λ i. record { id = sym run i; processes = (sym identity i).processes; f = (sym identity i).faults }) k.run in
    state_of new node of_run clock (subst (λ (i : Identity). IsWithin i.processes i.me.0 new.node) (sym identity) within)

pub calls_keep_states : ReadsBack → CallsKeepNodeStates → EndpointCallsKeepStates
calls_keep_states back keep past old new input output entries call k few fits =
    let facts = plain back past old new input output entries call k fits in
    elim (calls_are_node_calls back past old new input output entries call k few fits) [
      | inl c ↦
          let takes = takes_within old back k past input c.taken fits facts.reply c.takes in
          let kept = keep (length past) old.node new.node c.taken c.sent entries c.call k.node takes.1 in
          let within = calls_within (length past) old.node new.node c.taken c.sent entries c.call k.node few (within_of old k) takes.0 (λ from name view was. facts.names name (c.questions from name view was).1) in
          (state_from old new k kept.1 facts.run facts.clock kept.0 within, kept.1, facts.run, facts.requests)
      | inr none ↦
          let identity = ap (λ (s : NodeState). s.identity) none.same in (
            state_from old new k identity facts.run facts.clock (subst (λ s. IsNodeState s) (sym none.same) k.node) (subst (λ s. IsWithin old.node.identity.processes old.node.identity.me.0 s) (sym none.same) (within_of old k)),
            identity,
            facts.run,
            facts.requests,
          )
    ]
