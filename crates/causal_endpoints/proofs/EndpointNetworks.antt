-- A system of nodes makes the calls of each system of endpoints, and so that is safe.
-- The invariant: the packet of each parcel that was sent was sent by a node, and the number of its source. So what a call
-- takes was sent. A process that has ended says itself that it is not up; that changes nothing of it.
use Rattle.std.proofs.Common.{ℕ, ◌≡◌, ◌∙◌, ◌==◌, ◌<◌, ◌+◌, ◌^◌, Bool, true, false, List, [], ◌∷◌, ◌++◌, length, Option, Some, None, unwrap_or, inl, inr, refl, sym, ap, subst, arith}
use Rattle.std.specs.Prelude.{◌⊎◌, nat_lt, if◌then◌else◌}
use Rattle.std.specs.List.{list_any}
use Rattle.std.specs.FinMap as fin
use Rattle.std.proofs.lemmas.Bool.{false≢true, or_cases, eqb-true, ltb-true, false_from_ne_true}
use Rattle.std.proofs.lemmas.Bool.Decides.{eqb_tells}
use Rattle.causal_name.specs.declared.Pid.{Pid}
use Rattle.causal_name.specs.declared.Det.{Det}
use Rattle.causal_name.specs.Names.{det_cmp}
use Rattle.causal_name.specs.Sets.{count_below}
use Rattle.causal_log.specs.declared.known.Known.{Known}
use Rattle.causal_trace.specs.declared.entry.Entry.{Entry}
use Rattle.causal_trace.specs.declared.entry.Entry.TheVariants.{Crash}
use Rattle.causal_rounds.specs.Rounds.{with_value_at}
use Rattle.causal_protocol.specs.Naming.{message_name}
use Rattle.causal_wire.specs.declared.parcel.Head.{Head}
use Rattle.causal_wire.specs.declared.parcel.RunId.{RunId}
use Rattle.causal_wire.specs.Parcels.{Contents, message, not_up, IsDet, IsRun, IsParcel}
use Rattle.causal_wire.specs.Bytes.{parcel_bytes}
use Rattle.causal_wire.specs.Reading.{read_parcel}
use Rattle.causal_node.specs.declared.node.Identity.{Identity}
use Rattle.causal_node.specs.NodeStates.{NodeState, RoundState, floor_of}
use Rattle.causal_node.specs.NodeRecovery.{opened_node}
use Rattle.causal_nodes.specs.Packets.{Sent, WasSent, WasTaken, message_packet, write_packet, written_packet, question_packet, not_up_packet, read_packet, stored_packet, number_packet, is_of_round}
use Rattle.causal_nodes.specs.Network.{HasFreshName}
use Rattle.causal_calls.specs.Views.{numbers}
use Rattle.causal_calls.specs.Parcels.{message_with}
use Rattle.causal_calls.specs.Calls.{NodeCall}
use Rattle.causal_calls.specs.Systems.{System, identity_of, is_recovering, IsReachableSystem, SystemsAreSafe, SystemsShareNoSlot}
use Rattle.causal_calls.specs.Systems as nodes
use Rattle.causal_calls.proofs.Lemmas.Openings.{opening}
use Rattle.causal_calls.proofs.Lemmas.Refusals.{not_below}
use Rattle.causal_endpoint.specs.Endpoints.{EndpointState, run_of}
use Rattle.causal_endpoint.specs.Receiving.{name_in, batch_in}
use Rattle.causal_endpoints.specs.Packets.{packet_of, packet_with, taken_with, not_up_for, IsSendWith, Says}
use Rattle.causal_endpoints.specs.Calls.{CallInput, nothing, bytes, from_storage, ended, Output, EndpointCall}
use Rattle.causal_endpoints.specs.States.{IsEndpointState, HasCountedLog, IsOfDets, IsOfRun}
use Rattle.causal_endpoints.specs.CallLaws.{IsListed, TakesPacket, IsNodeCall, IsSentAgain, IsNoCall, EndpointCallsAreNodeCalls, EndpointCallsKeepStates}
use Rattle.causal_endpoints.specs.CallLaws as again
use Rattle.causal_endpoints.specs.Systems.{EndpointSystem, HasGoneDown, IsTakeable, opened_after, EndpointEvent, IsNewEndpointSystem, IsReachableEndpointSystem, new_system, next_system, EndpointSystemsAreSafe, EndpointSystemsShareNoSlot}
use Rattle.causal_endpoints.specs.Systems as system
use Rattle.causal_endpoints.proofs.CallRows.{ReadsBack, read_is, is_question}
use Rattle.causal_endpoints.proofs.Within.{opened_within}
use Rattle.causal_endpoints.proofs.KeptRows.{state_of}
use Rattle.causal_endpoints.proofs.Counts.{one_send}
use Rattle.causal_endpoints.proofs.Effects.{not_sent}
use Rattle.causal_endpoints.proofs.SystemFacts.{SystemFacts, was_older, was_newer, either_sent, at_each, first_facts, facts_after_call, facts_after_crash, facts_after_storage}
use Rattle.causal_endpoints.proofs.Ghosts.{tells_number, says_not_up}

-- what is among two lists
among_older : {X : Type 0} (new old : List X) (x : X) → IsListed old x → IsListed (new ++ old) x
among_older [] old x there = there
among_older (y ∷ new) old x there = inr (among_older new old x there)

among_newer : {X : Type 0} (new old : List X) (x : X) → IsListed new x → IsListed (new ++ old) x
among_newer [] old x there = absurd there
among_newer (y ∷ new) old x (inl is) = inl is
among_newer (y ∷ new) old x (inr there) = inr (among_newer new old x there)

either_among : {X : Type 0} (new old : List X) (x : X) → IsListed (new ++ old) x → IsListed new x ⊎ IsListed old x
either_among [] old x there = inr there
either_among (y ∷ new) old x (inl is) = inl (inl is)
either_among (y ∷ new) old x (inr there) = elim (either_among new old x there) [ inl here ↦ inl (inr here) | inr before ↦ inr before ]

-- functions that are changed at one number
same_at : {X : Type 0} (xs : ℕ → X) (p : ℕ) (x : X) → x ≡ xs p → with_value_at xs p x ≡ xs
same_at xs p x is = λ i q. by q (eqb_tells q p) i
  where
    by : (q : ℕ) → ((q == p ≡ true) × (q ≡ p)) ⊎ ((q == p ≡ false) × (q ≡ p → ⊥)) → with_value_at xs p x q ≡ xs q
    by q (inl here) = ap (λ (b : Bool). if b then x else xs q) here.0 ∙ is ∙ ap xs (sym here.1)
    by q (inr other) = ap (λ (b : Bool). if b then x else xs q) other.0

-- the nodes of endpoints
abbrev nodes_of : (ℕ → EndpointState) → ℕ → NodeState
nodes_of endpoints p = (endpoints p).node

nodes_at : (endpoints : ℕ → EndpointState) (p : ℕ) (e : EndpointState) → with_value_at (nodes_of endpoints) p e.node ≡ nodes_of (with_value_at endpoints p e)
nodes_at endpoints p e = λ i q. (elim (q == p) as (λ b. (if b then e.node else (endpoints q).node) ≡ (if b then e else endpoints q).node) [ true ↦ refl | false ↦ refl ]) i

abbrev run_at : ℕ → ℕ → ℕ → RunId
run_at n f run = record { id = run; processes = n; f = f }

-- the system of nodes that has sent these packets
abbrev system_of : EndpointSystem → List Sent → System
system_of w packets = record { past = w.past; nodes = nodes_of w.endpoints; sent = packets; stored = w.stored; floors = w.floors }

-- that system with other entries and nodes
abbrev with_nodes : EndpointSystem → List Entry → (ℕ → NodeState) → List Sent → System
with_nodes w past nodes packets = record { past = past; nodes = nodes; sent = packets; stored = w.stored; floors = w.floors }

-- a system after a call of an endpoint, and after a crash
abbrev after_output : EndpointSystem → Pid → EndpointState → Output → List Entry → EndpointSystem
after_output w me e output entries = record w {
  past = entries ++ w.past;
  endpoints = with_value_at w.endpoints me.0 e;
  sent = output.bytes ++ w.sent;
  requests = output.to_storage ++ w.requests;
  names = with_value_at w.names me.0 (output.names ++ w.names me.0);
}

abbrev after_fall : EndpointSystem → Pid → ℕ → EndpointSystem
after_fall w who clock = record w { past = Crash who ∷ w.past; endpoints = with_value_at w.endpoints who.0 (opened_after (w.endpoints who.0) clock) }

-- the packet of a parcel was sent, and the number of its source
record IsParcelSent (n f run : ℕ) (packets : List Sent) (b : List ℕ) : Type 0 where
  parcel : Head × Contents
  of_run : IsParcel (run_at n f run) parcel
  written : b ≡ parcel_bytes (run_at n f run) parcel
  at : ℕ
  packet : WasSent packets (packet_of at parcel)
  number : (parcel.0.dest.0 ≡ parcel.0.source.0 → ⊥) → WasSent packets (number_packet parcel.0.source.0 parcel.0.lane)

record IsSystemOf (n f run : ℕ) (w : EndpointSystem) : Type 0 where
  packets : List Sent
  reached : IsReachableSystem n f (system_of w packets)
  facts : SystemFacts n f (system_of w packets)
  range : IsRun (run_at n f run)
  states : (p : ℕ) → p < n → IsEndpointState (w.endpoints p)
  counted : (p : ℕ) → p < n → HasCountedLog (w.endpoints p)
  runs : (p : ℕ) → p < n → (w.endpoints p).run ≡ run
  parcels : (b : List ℕ) → IsListed w.sent b → IsParcelSent n f run packets b
  requests : (k : Sent) → IsListed w.requests k → WasSent packets k × IsOfDets n k
  stored : (d : Det) → w.stored d ≡ true → IsDet n d
  names : (s name : ℕ) (view : ℕ → ℕ) → WasSent packets (question_packet s name view) → IsListed (w.names s) name

more_sent : (n f run : ℕ) (new old : List Sent) (b : List ℕ) → IsParcelSent n f run old b → IsParcelSent n f run (new ++ old) b
more_sent n f run new old b p = record { parcel = p.parcel; of_run = p.of_run; written = p.written; at = p.at; packet = was_older new old _ p.packet; number = λ other. was_older new old _ (p.number other) }

-- a packet that is no question has a fresh name
fresh_if_other : (old : List Sent) (k : Sent) → (is_question k ≡ true → ⊥) → HasFreshName old k
fresh_if_other old (question_packet from name view) h = absurd (h refl)
fresh_if_other old _ h = tt

module _ (n f run : ℕ) (w : EndpointSystem) where
  -- a call of a node that leaves it as it is
  module _ (sys : IsSystemOf n f run w) (me : Pid) (low : me.0 < n) (taken : Option Sent) (sent : List Sent) (was : WasTaken sys.packets taken) (call : NodeCall (length w.past) (w.endpoints me.0).node taken (w.endpoints me.0).node sent [])
      (other : list_any is_question sent ≡ false) where
    abbrev here : System
    here = system_of w sys.packets

    abbrev changed : System
    changed = record { past = w.past; nodes = with_value_at here.nodes me.0 (here.nodes me.0); sent = sent ++ sys.packets; stored = w.stored; floors = w.floors }

    as_before : changed ≡ system_of w (sent ++ sys.packets)
    as_before = λ i. record { past = w.past; nodes = same_at here.nodes me.0 (here.nodes me.0) refl i; sent = sent ++ sys.packets; stored = w.stored; floors = w.floors }

    abbrev ghost : IsSystemOf n f run w
    ghost = record sys {
      packets = sent ++ sys.packets;
      reached = subst (λ s. IsReachableSystem n f s) as_before (nodes.next_system here changed sys.reached (nodes.call_event me taken (here.nodes me.0) sent [] low was call (λ k there. fresh_if_other sys.packets k (not_sent is_question sent k other there))));
      facts = subst (λ s. SystemFacts n f s) as_before (facts_after_call n f here sys.facts me low taken (here.nodes me.0) sent [] was call refl);
      parcels = λ b there. more_sent n f run sent sys.packets b (sys.parcels b there);
      requests = λ k there. let before = sys.requests k there in (was_older sent sys.packets k before.0, before.1);
      names = λ s name view there. elim (either_sent sent sys.packets _ there) [ inl now ↦ absurd (not_sent is_question sent _ other now refl) | inr before ↦ sys.names s name view before ];
    }

  -- more packets, the same system
  record IsMore (sys : IsSystemOf n f run w) : Type 0 where
    next : IsSystemOf n f run w
    keeps : (k : Sent) → WasSent sys.packets k → WasSent next.packets k

  module _ (sys : IsSystemOf n f run w) where
    processes_is : (p : ℕ) → p < n → (w.endpoints p).node.identity.processes ≡ n
    processes_is p low = ap (λ (i : Identity). i.processes) (sys.facts.identities p low)

    me_is : (p : ℕ) → p < n → (w.endpoints p).node.identity.me.0 ≡ p
    me_is p low = ap (λ (i : Identity). i.me.0) (sys.facts.identities p low)

    run_is : (p : ℕ) → p < n → run_of (w.endpoints p) ≡ run_at n f run
    run_is p low = λ i. record { id = sys.runs p low i; processes = (sys.facts.identities p low i).processes; f = (sys.facts.identities p low i).faults }

    record HasNumber (p : ℕ) : Type 0 where
      more : IsMore sys
      number : 1 < n → WasSent more.next.packets (number_packet p (w.endpoints p).node.lane)

    -- a process sends its number, if there is another one
    numbered : (p : Pid) → p.0 < n → HasNumber p.0
    numbered p low = by (nat_lt 1 n) refl
      where
        someone : (q : Pid) × ((1 < n → q.0 < n) × (q.0 ≡ p.0 → ⊥))
        someone = elim (eqb_tells p.0 0) [
          | inl is ↦ (record { 0 = 1 }, ((λ h. h), λ e. omega (arith, e, is.1)))
          | inr other ↦ (record { 0 = 0 }, ((λ h. omega (arith, h)), λ e. other.1 (sym e)))
        ]

        by : (b : Bool) → nat_lt 1 n ≡ b → HasNumber p.0
        by false is = record { more = record { next = sys; keeps = λ k was. was }; number = λ h. absurd (omega (arith, not_below 1 n is, h)) }
        by true is =
            let enough : 1 < n = ltb-true 1 n is in
            let q = someone in
            let k = (sys.states p.0 low).node in
            let call = tells_number (length w.past) (w.endpoints p.0).node k q.0 (subst (λ m. q.0.0 < m) (sym (processes_is p.0 low)) (q.1.0 enough)) (λ e. q.1.1 (e ∙ me_is p.0 low)) in
            let packet = number_packet (w.endpoints p.0).node.identity.me.0 (w.endpoints p.0).node.lane in
            record {
              more = record { next = ghost sys p low None (packet ∷ []) tt call refl; keeps = λ k was. inr was };
              number = λ h. inl (ap (λ m. number_packet m (w.endpoints p.0).node.lane) (me_is p.0 low));
            }

    record HasTaken (taken : Option Sent) : Type 0 where
      more : IsMore sys
      was : WasTaken more.next.packets taken

    taken_here : (taken : Option Sent) → WasTaken sys.packets taken → HasTaken taken
    taken_here taken was = record { more = record { next = sys; keeps = λ k there. there }; was = was }

    -- a process that has ended says that it is not up, or its number
    said_for : (me q : Pid) → me.0 < n → q.0 < n → (number : ℕ) → HasGoneDown (w.endpoints q.0) number → (r : RoundState) → (w.endpoints me.0).node.recovery ≡ Some (Some r) → (me.0 ≡ q.0 → ⊥)
        → HasTaken (Some (not_up_for (w.endpoints me.0).node q number r.name))
    said_for me q low low_q number has_ended r gathers apart = by (floor_of (w.endpoints me.0).node.floors q == number) refl
      where
        lane_is : (w.endpoints q.0).node.lane ≡ number
        lane_is = ap (λ (s : NodeState). s.lane) has_ended.fresh

        by : (b : Bool) → (floor_of (w.endpoints me.0).node.floors q == number) ≡ b → HasTaken (Some (if b then not_up_packet q.0 (w.endpoints me.0).node.identity.me.0 r.name else number_packet q.0 number))
        by true is =
            let floors = (w.endpoints me.0).node.floors in
            let asked : WasSent sys.packets (question_packet me.0 r.name (numbers floors)) = sys.facts.questions me.0 low r gathers in
            let known : numbers floors (w.endpoints q.0).node.identity.me.0 ≡ (w.endpoints q.0).node.lane = ap (numbers floors) (me_is q.0 low_q) ∙ eqb-true _ _ is ∙ sym lane_is in
            let size : length floors ≡ (w.endpoints q.0).node.identity.processes = (sys.states me.0 low).node.floors ∙ processes_is me.0 low ∙ sym (processes_is q.0 low_q) in
            let fresh = has_ended.fresh ∙ ap (opened_node (w.endpoints q.0).node.identity) (sym lane_is) in
            let call = says_not_up (length w.past) (w.endpoints q.0).node has_ended.down fresh me (subst (λ m. me.0 < m) (sym (processes_is q.0 low_q)) low) (λ e. apart (e ∙ me_is q.0 low_q)) r.name floors size known in
            let packet = not_up_packet (w.endpoints q.0).node.identity.me.0 me.0 r.name in
            record {
              more = record { next = ghost sys q low_q (Some (question_packet me.0 r.name (numbers floors))) (packet ∷ []) asked call refl; keeps = λ k was. inr was };
              was = inl (λ i. not_up_packet (me_is q.0 low_q i) (sym (me_is me.0 low) i) r.name);
            }
        by false other =
            let has = numbered q low_q in
            let enough : 1 < n = omega (arith, low, low_q, apart) in
            record { more = has.more; was = subst (λ m. WasSent has.more.next.packets (number_packet q.0 m)) lane_is (has.number enough) }

    -- the packet that a receiver takes with a parcel was sent
    packet_taken : (node : NodeState) (head : Head) (contents : Contents) (sent at : ℕ) → head.dest ≡ node.identity.me → WasSent sys.packets (packet_with sent head contents) → WasSent sys.packets (number_packet head.source.0 head.lane)
        → IsSendWith w.past at head contents → WasSent sys.packets (taken_with node at head contents)
    packet_taken node head (message ssn items body) sent at mine was number is =
        let name = name_in head ssn in
        let entry = sys.facts.messages name (message_with head.lane head.dest sent name (batch_in head items)) was in
        let same : sent ≡ at = ap (λ o. unwrap_or o sent) entry.1 ∙ one_send w.past entry.0 at head.lane name sys.facts.counted entry.2 is in
        subst (λ m. WasSent sys.packets (message_packet name (message_with head.lane head.dest m name (batch_in head items)))) same was
    packet_taken node head (not_up round) sent at mine was number is =
        elim (floor_of node.floors head.source == head.lane) as (λ b. WasSent sys.packets (if b then not_up_packet head.source.0 node.identity.me.0 round else number_packet head.source.0 head.lane)) [
          | true ↦ subst (λ (to : Pid). WasSent sys.packets (not_up_packet head.source.0 to.0 round)) mine was
          | false ↦ number
        ]
    packet_taken node head _ sent at mine was number is = was

    -- what a node takes was sent
    prepared : ReadsBack → (me : Pid) → me.0 < n → (input : CallInput) (taken : Option Sent) → IsTakeable n w input → TakesPacket w.past (w.endpoints me.0) input taken → HasTaken taken
    prepared back me low nothing taken takeable takes = taken_here taken (subst (λ o. WasTaken sys.packets o) (sym takes) tt)
    prepared back me low (bytes b) taken takeable (p, read, mine, other, inl none) = taken_here taken (subst (λ o. WasTaken sys.packets o) (sym none) tt)
    prepared back me low (bytes b) taken takeable (p, read, mine, other, inr is) =
        let sent = sys.parcels b takeable in
        let same : p ≡ sent.parcel = read_is (read_parcel (run_at n f run) b) p sent.parcel (ap (λ r. read_parcel r b) (sym (run_is me.0 low)) ∙ read) (ap (read_parcel (run_at n f run)) sent.written ∙ back (run_at n f run) sent.parcel sys.range sent.of_run) in
        let apart : (sent.parcel.0.dest.0 ≡ sent.parcel.0.source.0 → ⊥) = λ e. other (ap (λ (q : Head × Contents). q.0.source.0) same ∙ sym e ∙ ap (λ (q : Head × Contents). q.0.dest.0) (sym same) ∙ ap (λ (to : Pid). to.0) mine) in
        let packet = subst (λ (q : Head × Contents). WasSent sys.packets (packet_of sent.at q)) (sym same) sent.packet in
        let number = subst (λ (q : Head × Contents). WasSent sys.packets (number_packet q.0.source.0 q.0.lane)) (sym same) (sent.number apart) in
        taken_here taken (subst (λ o. WasTaken sys.packets o) (sym is.2) (packet_taken (w.endpoints me.0).node p.0 p.1 sent.at is.0 mine packet number is.1))
    prepared back me low (from_storage k) taken takeable takes = taken_here taken (subst (λ o. WasTaken sys.packets o) (sym takes) (sys.requests k takeable).0)
    prepared back me low (ended q number) taken takeable (r, gathers, is, apart) =
        let has = said_for me q low takeable.0 number takeable.1 r gathers (λ e. apart (sym e ∙ sym (me_is me.0 low))) in
        record { more = has.more; was = subst (λ o. WasTaken has.more.next.packets o) (sym is) has.was }

    -- what a call takes is of the run
    taken_of_run : (me : Pid) → me.0 < n → (input : CallInput) → IsTakeable n w input → IsOfRun (w.endpoints me.0) input
    taken_of_run me low nothing takeable = tt
    taken_of_run me low (bytes b) takeable =
        let sent = sys.parcels b takeable in
        (sent.parcel, subst (λ r. IsParcel r sent.parcel) (sym (run_is me.0 low)) sent.of_run, sent.written ∙ ap (λ r. parcel_bytes r sent.parcel) (sym (run_is me.0 low)))
    taken_of_run me low (from_storage k) takeable = subst (λ m. IsOfDets m k) (sym (processes_is me.0 low)) (sys.requests k takeable).1
    taken_of_run me low (ended q number) takeable = subst (λ m. m < 2 ^ 32) (ap (λ (s : NodeState). s.lane) takeable.1.fresh) (sys.states q.0 takeable.0).lane

  -- after a call of an endpoint
  module _ (sys : IsSystemOf n f run w) (me : Pid) (low : me.0 < n) (input : CallInput) (e : EndpointState) (output : Output) (entries : List Entry)
      (unused : (name : ℕ) → IsListed output.names name → IsListed (w.names me.0) name → ⊥)
      (counted : HasCountedLog e) (state : IsEndpointState e) (identity : e.node.identity ≡ (w.endpoints me.0).node.identity) (same_run : e.run ≡ (w.endpoints me.0).run)
      (dets : (k : Sent) → IsListed output.to_storage k → IsOfDets (w.endpoints me.0).node.identity.processes k) where
    abbrev old : EndpointState
    old = w.endpoints me.0

    abbrev after : EndpointSystem
    after = after_output w me e output entries

    -- with more packets, of which the node's call has sent some
    module _ (sent : List Sent) (numbers_sent : 1 < n → WasSent sys.packets (number_packet me.0 old.node.lane))
        (reached : IsReachableSystem n f (system_of after (sent ++ sys.packets))) (facts : SystemFacts n f (system_of after (sent ++ sys.packets)))
        (parcels : (b : List ℕ) → IsListed output.bytes b → (at : ℕ) × ((k : Sent) × WasSent (sent ++ sys.packets) k × Says old at b k))
        (requests : (k : Sent) → IsListed output.to_storage k → WasSent sent k)
        (questions : (from name : ℕ) (view : ℕ → ℕ) → WasSent sent (question_packet from name view) → (from ≡ me.0) × IsListed output.names name) where
      parcel_sent : (b : List ℕ) → IsListed output.bytes b → IsParcelSent n f run (sent ++ sys.packets) b
      parcel_sent b there =
          let said = parcels b there in
          let says = said.1.2 in
          let of_run = subst (λ r. IsParcel r says.parcel) (run_is sys me.0 low) says.of_run in
          record {
            parcel = says.parcel;
            of_run = of_run;
            written = says.written ∙ ap (λ r. parcel_bytes r says.parcel) (run_is sys me.0 low);
            at = said.0;
            packet = subst (λ k. WasSent (sent ++ sys.packets) k) (sym says.packet) said.1.1;
            number = λ other.
                let source : says.parcel.0.source.0 ≡ me.0 = ap (λ (p : Pid). p.0) says.source ∙ me_is sys me.0 low in
                let enough : 1 < n = omega (arith, of_run.head.dest, of_run.head.source, other) in
                was_older sent sys.packets _ (subst (λ m. WasSent sys.packets (number_packet says.parcel.0.source.0 m)) (sym says.in_lane) (subst (λ m. WasSent sys.packets (number_packet m old.node.lane)) (sym source) (numbers_sent enough)));
          }

      names_after : (s name : ℕ) (view : ℕ → ℕ) → WasSent (sent ++ sys.packets) (question_packet s name view) → IsListed (after.names s) name
      names_after s name view there = elim (either_sent sent sys.packets _ there) [
        | inl now ↦
            let is = questions s name view now in
            subst (λ m. IsListed (after.names m) name) (sym is.0) (at_each (λ p names. (p ≡ me.0) → IsListed names name) w.names me.0 (output.names ++ w.names me.0) (λ h. among_newer output.names (w.names me.0) name is.1) me.0 (λ other. absurd (other refl)) refl)
        | inr before ↦ at_each (λ p names. (WasSent sys.packets (question_packet p name view)) → IsListed names name) w.names me.0 (output.names ++ w.names me.0) (λ h. among_older output.names (w.names me.0) name (sys.names me.0 name view h)) s (λ other h. sys.names s name view h) before
      ]

      system_after : IsSystemOf n f run after
      system_after = record {
        packets = sent ++ sys.packets;
        reached = reached;
        facts = facts;
        range = sys.range;
        states = λ p low_p. at_each (λ p x. IsEndpointState x) w.endpoints me.0 e state p (λ other. sys.states p low_p);
        counted = λ p low_p. at_each (λ p x. HasCountedLog x) w.endpoints me.0 e counted p (λ other. sys.counted p low_p);
        runs = λ p low_p. at_each (λ p (x : EndpointState). x.run ≡ run) w.endpoints me.0 e (same_run ∙ sys.runs me.0 low) p (λ other. sys.runs p low_p);
        parcels = λ b there. elim (either_among output.bytes w.sent b there) [ inl now ↦ parcel_sent b now | inr before ↦ more_sent n f run sent sys.packets b (sys.parcels b before) ];
        requests = λ k there. elim (either_among output.to_storage w.requests k there) [
          | inl now ↦ (was_newer sent sys.packets k (requests k now), subst (λ m. IsOfDets m k) (processes_is sys me.0 low) (dets k now))
          | inr before ↦ let was = sys.requests k before in (was_older sent sys.packets k was.0, was.1)
        ];
        stored = sys.stored;
        names = names_after;
      }

    -- by a call of its node
    module _ (c : IsNodeCall w.past old input e output entries) (was : WasTaken sys.packets c.taken) (numbers_sent : 1 < n → WasSent sys.packets (number_packet me.0 old.node.lane)) where
      fresh : (k : Sent) → WasSent c.sent k → HasFreshName sys.packets k
      fresh (question_packet from name view) there = λ j before. false_from_ne_true (is_of_round j from name) (λ of.
          let asked = sys.facts.asked j from name before of in
          let is = c.questions from name view there in
          unused name is.1 (subst (λ m. IsListed (w.names m) name) (is.0 ∙ me_is sys me.0 low) (sys.names from name asked.0 asked.1)))
      fresh _ there = tt

      stepped : with_nodes w (entries ++ w.past) (with_value_at (nodes_of w.endpoints) me.0 e.node) (c.sent ++ sys.packets) ≡ system_of after (c.sent ++ sys.packets)
      stepped = λ i. with_nodes w (entries ++ w.past) (nodes_at w.endpoints me.0 e i) (c.sent ++ sys.packets)

      after_node_call : IsSystemOf n f run after
      after_node_call = system_after c.sent numbers_sent
          (subst (λ s. IsReachableSystem n f s) stepped (nodes.next_system (system_of w sys.packets) _ sys.reached (nodes.call_event me c.taken e.node c.sent entries low was c.call fresh)))
          (subst (λ s. SystemFacts n f s) stepped (facts_after_call n f (system_of w sys.packets) sys.facts me low c.taken e.node c.sent entries was c.call identity))
          (λ b there. let said = c.parcels b there in (length w.past, (said.0, was_newer c.sent sys.packets _ said.1, said.2)))
          c.requests
          (λ from name view there. let is = c.questions from name view there in (is.0 ∙ me_is sys me.0 low, is.1))

    -- by no call of its node
    module _ (none : IsNoCall old input e output entries) (numbers_sent : 1 < n → WasSent sys.packets (number_packet me.0 old.node.lane)) where
      same_nodes : nodes_of w.endpoints ≡ nodes_of (with_value_at w.endpoints me.0 e)
      same_nodes = sym (same_at (nodes_of w.endpoints) me.0 e.node none.same) ∙ nodes_at w.endpoints me.0 e

      as_still : system_of w sys.packets ≡ system_of after sys.packets
      as_still = λ i. with_nodes w (sym none.unrecorded i ++ w.past) (same_nodes i) sys.packets

      sent_again : (packet : ℕ → Sent) → IsSentAgain old.node packet → (at : ℕ) × WasSent sys.packets (packet at)
      sent_again packet (again.question r gathers) = (0, subst (λ m. WasSent sys.packets (question_packet m r.name (numbers old.node.floors))) (sym (me_is sys me.0 low)) (sys.facts.questions me.0 low r gathers))
      sent_again packet (again.message ssn kept at) =
          let was = sys.facts.kept me.0 low ssn kept at in
          (was.0, subst (λ (m : ℕ). WasSent sys.packets (message_packet (message_name (record { 0 = m }) ssn) (message_with old.node.lane kept.to was.0 (message_name (record { 0 = m }) ssn) kept.batch))) (sym (me_is sys me.0 low)) was.1)

      after_no_call : IsSystemOf n f run after
      after_no_call = system_after [] numbers_sent
          (subst (λ s. IsReachableSystem n f s) as_still sys.reached)
          (subst (λ s. SystemFacts n f s) as_still sys.facts)
          (λ b there.
          let said = none.parcels b there in
          let was = sent_again said.0 said.1 in
          (was.0, (said.0 was.0, was.1, said.2 was.0)))
          (λ k there. absurd (subst (λ ks. IsListed ks k) none.no_requests there))
          (λ from name view there. absurd there)

module _ (back : ReadsBack) (calls : EndpointCallsAreNodeCalls) (keeps : EndpointCallsKeepStates) (n f run : ℕ) where
  module _ (w : EndpointSystem) (sys : IsSystemOf n f run w) where
    after_call : (me : Pid) (input : CallInput) (e : EndpointState) (output : Output) (entries : List Entry) → me.0 < n → IsTakeable n w input → EndpointCall w.past (w.endpoints me.0) input e output entries → HasCountedLog e
        → ((name : ℕ) → IsListed output.names name → IsListed (w.names me.0) name → ⊥)
        → IsSystemOf n f run (after_output w me e output entries)
    after_call me input e output entries low takeable call counted unused =
        let of_run = taken_of_run n f run w sys me low input takeable in
        let kept = keeps w.past (w.endpoints me.0) e input output entries call (sys.states me.0 low) (sys.counted me.0 low) of_run in
        elim (calls w.past (w.endpoints me.0) e input output entries call (sys.states me.0 low) (sys.counted me.0 low) of_run) [
          | inl c ↦
              let has = prepared n f run w sys back me low input c.taken takeable c.takes in
              let told = numbered n f run w has.more.next me low in
              let still = elim c.taken as (λ t. WasTaken has.more.next.packets t → WasTaken told.more.next.packets t) [ None ↦ λ was. tt | Some k ↦ told.more.keeps k ] in
              after_node_call n f run w told.more.next me low input e output entries unused counted kept.0 kept.1 kept.2 kept.3 c (still has.was) told.number
          | inr none ↦
              let told = numbered n f run w sys me low in
              after_no_call n f run w told.more.next me low input e output entries unused counted kept.0 kept.1 kept.2 kept.3 none told.number
        ]

    -- an endpoint that is opened after a crash
    opened_state : (p : ℕ) → p < n → (clock : ℕ) → (w.endpoints p).node.lane + 1 < 2 ^ 32 → clock < 2 ^ 62 → IsEndpointState (opened_after (w.endpoints p) clock)
    opened_state p low clock lane early = state_of (opened_after (w.endpoints p) clock) (opening _ _ (sys.states p low).node.process) (sys.states p low).run early (opened_within _ _ _ _ lane)

    after_crash : (who : Pid) (clock : ℕ) → who.0 < n → (w.endpoints who.0).node.recovery ≡ None → count_below n (λ q. is_recovering (w.endpoints q).node) < f → (w.endpoints who.0).node.lane + 1 < 2 ^ 32 → clock < 2 ^ 62
        → IsSystemOf n f run (after_fall w who clock)
    after_crash who clock low up few lane early = record {
      packets = sys.packets;
      reached = subst (λ s. IsReachableSystem n f s) fallen (nodes.next_system (system_of w sys.packets) _ sys.reached (nodes.crash_event who low up few));
      facts = subst (λ s. SystemFacts n f s) fallen (facts_after_crash n f (system_of w sys.packets) sys.facts who low up);
      range = sys.range;
      states = λ p low_p. at_each (λ p x. IsEndpointState x) w.endpoints who.0 (opened_after (w.endpoints who.0) clock) (opened_state who.0 low clock lane early) p (λ other. sys.states p low_p);
      counted = λ p low_p. at_each (λ p x. HasCountedLog x) w.endpoints who.0 (opened_after (w.endpoints who.0) clock) (omega (arith, fin.len-empty det_cmp Known)) p (λ other. sys.counted p low_p);
      runs = λ p low_p. at_each (λ p (x : EndpointState). x.run ≡ run) w.endpoints who.0 (opened_after (w.endpoints who.0) clock) (sys.runs who.0 low) p (λ other. sys.runs p low_p);
      parcels = sys.parcels;
      requests = sys.requests;
      stored = sys.stored;
      names = sys.names;
    }
      where
        fallen : with_nodes w (Crash who ∷ w.past) (with_value_at (nodes_of w.endpoints) who.0 (opened_node (w.endpoints who.0).node.identity ((w.endpoints who.0).node.lane + 1))) sys.packets ≡ system_of (after_fall w who clock) sys.packets
        fallen = λ i. with_nodes w (Crash who ∷ w.past) (nodes_at w.endpoints who.0 (opened_after (w.endpoints who.0) clock) i) sys.packets

    -- stable storage takes a write, or sends what it has
    after_storage : (j : Sent) (stored : Det → Bool) (floors : ℕ → ℕ) → is_question j ≡ false
        → IsReachableSystem n f (record { past = w.past; nodes = nodes_of w.endpoints; sent = j ∷ sys.packets; stored = stored; floors = floors })
        → SystemFacts n f (record { past = w.past; nodes = nodes_of w.endpoints; sent = j ∷ sys.packets; stored = stored; floors = floors })
        → IsOfDets n j → ((d : Det) → stored d ≡ true → IsDet n d)
        → IsSystemOf n f run (record w { requests = j ∷ w.requests; stored = stored; floors = floors })
    after_storage j stored floors other reached facts dets all = record {
      packets = j ∷ sys.packets;
      reached = reached;
      facts = facts;
      range = sys.range;
      states = sys.states;
      counted = sys.counted;
      runs = sys.runs;
      parcels = λ b there. more_sent n f run (j ∷ []) sys.packets b (sys.parcels b there);
      requests = λ k there. elim there [
        | inl is ↦ (inl is, subst (λ x. IsOfDets n x) is dets)
        | inr before ↦ let was = sys.requests k before in (inr was.0, was.1)
      ];
      stored = all;
      names = λ s name view there. elim there [ inl is ↦ absurd (false≢true (sym other ∙ ap is_question is)) | inr before ↦ sys.names s name view before ];
    }

    after_event : (next : EndpointSystem) → EndpointEvent n f w next → IsSystemOf n f run next
    after_event next (system.call_event me input e output entries low takeable call counted unused) = after_call me input e output entries low takeable call counted unused
    after_event next (system.crash_event who clock low up few lane early) = after_crash who clock low up few lane early
    after_event next (system.store_event p there floor) =
        let was = sys.requests (write_packet p) there in
        after_storage (written_packet p.parcel.carries) _ w.floors refl
        (nodes.next_system (system_of w sys.packets) _ sys.reached (nodes.store_event p was.0 floor))
        (facts_after_storage n f (system_of w sys.packets) sys.facts (written_packet p.parcel.carries) _ w.floors (λ name t is. cc) (λ s name of. absurd (false≢true of)))
        was.1
        (λ d has. elim (or_cases (w.stored d) (p.parcel.carries d) has) [ inl before ↦ sys.stored d before | inr new ↦ was.1 d new ])
    after_event next (system.read_event s name view there) =
        let was = sys.requests (read_packet s name view) there in
        after_storage (stored_packet s name w.stored) w.stored _ refl
        (nodes.next_system (system_of w sys.packets) _ sys.reached (nodes.read_event s name view was.0))
        (facts_after_storage n f (system_of w sys.packets) sys.facts (stored_packet s name w.stored) w.stored _ (λ x t is. cc) (λ p x of. sys.facts.asked (read_packet s name view) p x was.0 of))
        sys.stored
        sys.stored

  begins : (w : EndpointSystem) → IsNewEndpointSystem n f run w → IsSystemOf n f run w
  begins w new = record {
    packets = [];
    reached = nodes.new_system (system_of w []) (record { past = new.past; nodes = opened_nodes; sent = refl; stored = new.stored; floors = new.floors });
    facts = first_facts n f (system_of w []) new.past opened_nodes refl;
    range = record { id = new.number; processes = new.processes; f = new.bound };
    states = λ p low. subst (λ x. IsEndpointState x) (sym (new.endpoints p low).2) (first_state p low (new.endpoints p low).0 (new.endpoints p low).1);
    counted = λ p low. subst (λ x. HasCountedLog x) (sym (new.endpoints p low).2) (omega (arith, fin.len-empty det_cmp Known));
    runs = λ p low. ap (λ (x : EndpointState). x.run) (new.endpoints p low).2;
    parcels = λ b there. absurd (subst (λ bs. IsListed bs b) new.sent there);
    requests = λ k there. absurd (subst (λ ks. IsListed ks k) new.requests there);
    stored = λ d has. absurd (false≢true (sym (new.stored d) ∙ has));
    names = λ s name view there. absurd there;
  }
    where
      opened_nodes : (p : ℕ) → p < n → (w.endpoints p).node ≡ opened_node (identity_of n f p) 0
      opened_nodes p low = ap (λ (x : EndpointState). x.node) (new.endpoints p low).2

      first_state : (p : ℕ) → p < n → (clock : ℕ) → clock < 2 ^ 62 → IsEndpointState (record { node = opened_node (identity_of n f p) 0; run = run; clock = clock })
      first_state p low clock early = state_of _ (opening (identity_of n f p) 0 low) (record { id = new.number; processes = new.processes; f = new.bound }) early (opened_within n p (identity_of n f p) 0 (omega arith))

  systems : (w : EndpointSystem) → IsReachableEndpointSystem n f run w → IsSystemOf n f run w
  systems w (new_system same new) = begins w new
  systems w (next_system before same reach event) = after_event before (systems before reach) w event

-- the laws of systems of nodes, for systems of endpoints
pub endpoint_systems_are_safe : ReadsBack → EndpointCallsAreNodeCalls → EndpointCallsKeepStates → SystemsAreSafe → EndpointSystemsAreSafe
endpoint_systems_are_safe back calls keeps safe n f run w reach = let sys = systems back calls keeps n f run w reach in safe n f (system_of w sys.packets) sys.reached

pub endpoint_systems_share_no_slot : ReadsBack → EndpointCallsAreNodeCalls → EndpointCallsKeepStates → SystemsShareNoSlot → EndpointSystemsShareNoSlot
endpoint_systems_share_no_slot back calls keeps single n f run w reach = let sys = systems back calls keeps n f run w reach in single n f (system_of w sys.packets) sys.reached
