-- Each call of an endpoint is a call of its node, with the packets that its parcels' bytes encode.
use Rattle.std.proofs.Common.{ℕ, ◌≡◌, ◌∙◌, ◌==◌, ◌<◌, ◌≤◌, ◌^◌, Bool, true, false, List, [], ◌∷◌, map, length, Option, Some, None, is_some, Result, Ok, unwrap_or, inl, inr, refl, sym, ap, subst, arith}
use Rattle.std.specs.Prelude.{slice_get, if◌then◌else◌}
use Rattle.std.specs.FinMap as fin
use Rattle.std.specs.FinSet as set
use Rattle.std.proofs.lemmas.Bool.{false≢true, both_ways, eqb-true, eq-eqb, not-false, or_parts}
use Rattle.std.proofs.lemmas.Option.{slice_get_within}
use Rattle.std.proofs.lemmas.Simd.{map-map}
use Rattle.causal_name.specs.declared.Pid.{Pid}
use Rattle.causal_name.specs.declared.Det.{Det}
use Rattle.causal_name.specs.Names.{is_ascending}
use Rattle.causal_trace.specs.declared.entry.Entry.{Entry}
use Rattle.causal_trace.specs.declared.entry.Entry.TheVariants.{Send}
use Rattle.causal_log.specs.Logs.{batch_items}
use Rattle.causal_protocol.specs.Memory.{SentMessage}
use Rattle.causal_protocol.specs.Naming.{message_name}
use Rattle.causal_wire.specs.declared.fault.WireFault.{WireFault}
use Rattle.causal_wire.specs.declared.parcel.Head.{Head}
use Rattle.causal_wire.specs.declared.parcel.RunId.{RunId}
use Rattle.causal_wire.specs.Parcels.{Contents, message, acknowledgement, question, answer, own_number, not_up, IsRun, IsParcel, AreContents}
use Rattle.causal_wire.specs.Bytes.{parcel_bytes}
use Rattle.causal_wire.specs.Reading.{read_parcel}
use Rattle.causal_node.specs.declared.node_answer.RoundReply.{RoundReply}
use Rattle.causal_node.specs.declared.node_answer.RoundReply.TheVariants as Replies
use Rattle.causal_node.specs.NodeStates.{RoundState, floor_of}
use Rattle.causal_node.specs.NodeRounds.{round_name}
use Rattle.causal_node.specs.NodeRecovery.{begin_fault, reply_fault, after_not_up}
use Rattle.causal_node.specs.NodeAnswers.{answer_fault, round_reply}
use Rattle.causal_nodes.specs.Packets.{Sent, WasSent, message_packet, acknowledgement_packet, question_packet, answer_packet, not_up_packet, number_packet}
use Rattle.causal_calls.specs.Views.{numbers, IsRecoveryState}
use Rattle.causal_calls.specs.Parcels.{message_with, acknowledgement_with, acknowledgement_of, next_message_packet, log_packet}
use Rattle.causal_calls.specs.Calls.{NodeCall}
use Rattle.causal_calls.specs.Calls as node
use Rattle.causal_calls.proofs.Lemmas.Refusals.{of_round}
use Rattle.causal_endpoint.specs.Endpoints.{EndpointState, run_of, head_to, next_clock, with_node}
use Rattle.causal_endpoint.specs.Refusals.{clock_fault}
use Rattle.causal_endpoint.specs.Items.{wire_item, log_item, wire_entry, log_from}
use Rattle.causal_endpoint.specs.Resending.{kept_body, resent_bytes, resend_fault}
use Rattle.causal_endpoint.specs.Sending as sending
use Rattle.causal_endpoint.specs.Acknowledging as acknowledging
use Rattle.causal_endpoint.specs.Recovering as recovering
use Rattle.causal_endpoint.specs.Receiving.{name_in, batch_in, clock_after, contents_fault, reply_bytes, after_contents}
use Rattle.causal_endpoints.specs.Packets.{packet_of, not_up_for, Says}
use Rattle.causal_endpoints.specs.Calls.{CallInput, nothing, bytes, ended, no_output, one_parcel, one_request, one_name, output_at, Records, send, resend, acknowledge, forget, receive, write, stored, begin_round, ask, take_ended, ask_storage, take_stored, finish_read, restart, open_again}
use Rattle.causal_endpoints.specs.States.{IsRoundWithin, IsEndpointState, HasCountedLog}
use Rattle.causal_endpoints.specs.CallLaws.{IsListed, TakesPacket, IsNodeCall, IsSentAgain, question as asked_question, message as kept_message, IsNoCall, EndpointCallsAreNodeCalls}
use Rattle.causal_endpoints.proofs.Items.{message_again, acknowledged_again, log_again}
use Rattle.causal_endpoints.proofs.Written.{carried_fit, entries_fit, acknowledged_fit}
use Rattle.causal_endpoints.proofs.Legal.{or_else_none, node_or_none, not_at, clock_below, sent_to, said_to, asked_in}

-- the law of the bytes
abbrev pub ReadsBack : Type 0
ReadsBack = (run : RunId) (p : Head × Contents) → IsRun run → IsParcel run p → read_parcel run (parcel_bytes run p) ≡ Ok p

-- what is read is what was written
pub read_is : {A : Type 0} (r : Result A WireFault) (x y : A) → r ≡ Ok x → r ≡ Ok y → x ≡ y
read_is r x y a b = cc

-- whether a packet is a question
abbrev pub is_question : Sent → Bool
is_question (question_packet from name view) = true
is_question _ = false

-- one of one, or of none
pub one_among : {X : Type 0} (P : X → Type 0) (x : X) → P x → (y : X) → IsListed (x ∷ []) y → P y
one_among P x here y (inl is) = subst P is here
one_among P x here y (inr none) = absurd none

module _ (back : ReadsBack) (past : List Entry) (e : EndpointState) (k : IsEndpointState e) (few : HasCountedLog e) where
  abbrev me : Pid
  me = e.node.identity.me

  abbrev n : ℕ
  n = e.node.identity.processes

  abbrev run : RunId
  run = run_of e

  says : (at : ℕ) (to : Pid) (clock : ℕ) (contents : Contents) (packet : Sent) → to.0 < n → clock < 2 ^ 62 → AreContents n me.0 contents → packet_of at (head_to e to clock, contents) ≡ packet
      → Says e at (parcel_bytes run (head_to e to clock, contents)) packet
  says at to clock contents packet low early fits is = record {
    parcel = (head_to e to clock, contents);
    of_run = record { head = record { source = k.node.process; dest = low; lane = k.lane; clock = early }; contents = fits };
    written = refl;
    packet = is;
    source = refl;
    in_lane = refl;
  }

  -- a call that sends no bytes, and nothing to stable storage
  quietly : (input : CallInput) (new : EndpointState) (entries es : List Entry) (taken : Option Sent) → entries ≡ es → NodeCall (length past) e.node taken new.node [] es → TakesPacket past e input taken
      → IsNodeCall past e input new no_output entries
  quietly input new entries es taken recorded call takes = record {
    taken = taken;
    sent = [];
    call = subst (NodeCall (length past) e.node taken new.node []) (sym recorded) call;
    takes = takes;
    parcels = λ b there. absurd there;
    requests = λ j there. absurd there;
    questions = λ from name view was. absurd was;
  }

  -- a call that sends bytes with its packet, which is no question
  aloud : (input : CallInput) (new : EndpointState) (entries : List Entry) (taken : Option Sent) (packet : Sent) (b : List ℕ) → NodeCall (length past) e.node taken new.node (packet ∷ []) entries → TakesPacket past e input taken
      → is_question packet ≡ false → Says e (length past) b packet
      → IsNodeCall past e input new (one_parcel b) entries
  aloud input new entries taken packet b call takes other said = record {
    taken = taken;
    sent = packet ∷ [];
    call = call;
    takes = takes;
    parcels = one_among (λ c. (j : Sent) × WasSent (packet ∷ []) j × Says e (length past) c j) b (packet, inl refl, said);
    requests = λ j there. absurd there;
    questions = λ from name view was. elim was [ inl is ↦ absurd (false≢true (sym other ∙ ap is_question is)) | inr none ↦ absurd none ];
  }

  asks_storage : (new : EndpointState) (packet : Sent) → NodeCall (length past) e.node None new.node (packet ∷ []) [] → is_question packet ≡ false
      → IsNodeCall past e nothing new (one_request packet) []
  asks_storage new packet call other = record {
    taken = None;
    sent = packet ∷ [];
    call = call;
    takes = refl;
    parcels = λ b there. absurd there;
    requests = one_among (λ j. WasSent (packet ∷ []) j) packet (inl refl);
    questions = λ from name view was. elim was [ inl is ↦ absurd (false≢true (sym other ∙ ap is_question is)) | inr none ↦ absurd none ];
  }

  sends : (now : ℕ) (to : Pid) (body : List ℕ) → sending.send_fault e now to (length body) ≡ None
      → IsNodeCall past e nothing (sending.after_send e now to body) (one_parcel (parcel_bytes run (sending.next_message e to body (next_clock now e.clock)))) (Send me to (length e.node.memory.sent) ∷ [])
  sends now to body legal =
      let first = node_or_none _ _ legal in
      let short = or_else_none _ _ _ first.1 in
      let count : length e.node.memory.sent ≤ 65536 = k.sent in
      let batch = batch_items e.node.identity.faults e.node.memory.log in
      let clock = next_clock now e.clock in
      let said = says (length past) to clock (message (length e.node.memory.sent) (sending.carried_items e) body) (message_packet (message_name me (length e.node.memory.sent)) (next_message_packet (length past) e.node to)) (sent_to e.node to first.0) (clock_below clock short.1)
      (omega (arith, count), carried_fit n me e.node.memory.log k.logged k.node.holders e.node.identity.faults few, not_at (2 ^ 32) (length body) short.0)
      (ap (message_packet (message_name me (length e.node.memory.sent))) (message_again me e.node.lane to (length past) (length e.node.memory.sent) batch)) in
      aloud nothing (sending.after_send e now to body) (Send me to (length e.node.memory.sent) ∷ []) None (message_packet (message_name me (length e.node.memory.sent)) (next_message_packet (length past) e.node to)) _ (node.send to body first.0) refl refl said

  resends : (ssn : ℕ) (again : List ℕ) → resend_fault e ssn (slice_get e.node.memory.sent ssn) ≡ None → resent_bytes e ssn (slice_get e.node.memory.sent ssn) ≡ Some again
      → IsNoCall e nothing e (one_parcel again) []
  resends ssn again legal is = by (slice_get e.node.memory.sent ssn) refl legal is
    where
      by : (o : Option SentMessage) → slice_get e.node.memory.sent ssn ≡ o → resend_fault e ssn o ≡ None → resent_bytes e ssn o ≡ Some again → IsNoCall e nothing e (one_parcel again) []
      by None at legal is = absurd (false≢true (ap is_some is))
      by (Some kept) at legal is =
          let b = parcel_bytes run (head_to e kept.to e.clock, message ssn (map (wire_item me) kept.batch) (kept_body e ssn)) in
          let same : b ≡ again = ap (λ o. unwrap_or o again) is in
          let fits = k.kept ssn kept at in
          let count : length e.node.memory.sent ≤ 65536 = k.sent in
          let within = slice_get_within e.node.memory.sent ssn kept at in
          let short = (or_parts _ _ (or_else_none _ _ None legal).0).1 in
          record {
            nothing_taken = refl;
            same = refl;
            unrecorded = refl;
            parcels = one_among (λ c. (packet : ℕ → Sent) × IsSentAgain e.node packet × ((at : ℕ) → Says e at c (packet at))) again (
              _,
              kept_message ssn kept at,
              λ position. subst (λ c. Says e position c (message_packet (message_name me ssn) (message_with e.node.lane kept.to position (message_name me ssn) kept.batch))) same
                  (says position kept.to e.clock (message ssn (map (wire_item me) kept.batch) (kept_body e ssn)) _ fits.to k.clock (omega (arith, count, within), fits.items, not_at (2 ^ 32) (length (kept_body e ssn)) short)
                  (ap (message_packet (message_name me ssn)) (message_again me e.node.lane kept.to position ssn kept.batch))),
            );
            no_requests = refl;
            no_names = refl;
          }

  acknowledges : (now : ℕ) (to : Pid) (dets : List Det) → is_ascending dets ≡ true → acknowledging.acknowledge_fault e now to (length dets) ≡ None
      → IsNodeCall past e nothing (with_node e e.node (next_clock now e.clock)) (one_parcel (parcel_bytes run (acknowledging.acknowledgement_to e to dets (next_clock now e.clock)))) []
  acknowledges now to dets ascends legal =
      let first = node_or_none _ _ legal in
      let short = or_else_none _ _ _ first.1 in
      let clock = next_clock now e.clock in
      aloud nothing (with_node e e.node clock) [] None (acknowledgement_packet (acknowledgement_of e.node to dets)) _ (node.acknowledge to dets first.0) refl refl
      (says (length past) to clock (acknowledgement (acknowledging.acknowledged_items me e.node.memory.log dets)) _ (said_to e.node to first.0) (clock_below clock short.1)
      (acknowledged_fit n me e.node.memory.log k.logged k.node.holders dets ascends (not_at (2 ^ 32) (length dets) short.0))
      (ap (λ items. acknowledgement_packet (acknowledgement_with me e.node.lane to items)) (acknowledged_again me e.node.memory.log k.node.own dets)))

  -- it is said that a process is not up
  said_not_up : (name : ℕ) (q : Pid) (number : ℕ) → reply_fault e.node.recovery name q ≡ None → NodeCall (length past) e.node (Some (not_up_for e.node q number name)) (after_not_up e.node q number) [] []
  said_not_up name q number legal = by (floor_of e.node.floors q == number) refl
    where
      by : (b : Bool) → (floor_of e.node.floors q == number) ≡ b → NodeCall (length past) e.node (Some (if b then not_up_packet q.0 me.0 name else number_packet q.0 number)) (after_not_up e.node q number) [] []
      by true is = subst (λ m. NodeCall (length past) e.node (Some (not_up_packet q.0 me.0 name)) (after_not_up e.node q m) [] []) (eqb-true _ _ is) (node.take_not_up name q legal)
      by false other = node.take_other_number name q number legal other

  -- the reply to a question
  module _ (now : ℕ) (b : List ℕ) (head : Head) (round : ℕ) (view : List ℕ) (read : read_parcel run b ≡ Ok (head, question round view)) (fits : IsParcel run (head, question round view)) (mine : head.dest ≡ me) (other : head.source.0 ≡ me.0 → ⊥)
      (legal : (answer_fault e.node head.source view ≡ None) × (clock_fault (clock_after e now head) ≡ None)) where
    abbrev clock : ℕ
    clock = clock_after e now head

    replies : (reply : RoundReply) → round_reply e.node view ≡ reply → IsNodeCall past e (bytes b) (after_contents e now head (question round view)) (one_parcel (reply_bytes e head.source round clock reply)) []
    replies Replies.Log is =
        aloud (bytes b) (after_contents e now head (question round view)) [] (Some (question_packet head.source.0 round (numbers view))) (answer_packet round (log_packet me.0 e.node.lane head.source.0 e.node.memory.log)) _
        (node.answer_log head.source round view legal.0 is) ((head, question round view), read, mine, other, inr (0, tt, refl)) refl
        (says (length past) head.source clock (answer round (map (wire_entry me) (fin.entries e.node.memory.log))) _ fits.head.source (clock_below clock legal.1) (fits.contents.0, entries_fit n me e.node.memory.log k.logged k.node.holders few)
        (ap (answer_packet round) (log_again me e.node.memory.log k.node.own e.node.lane head.source.0)))
    replies Replies.OwnNumber is =
        aloud (bytes b) (after_contents e now head (question round view)) [] None (number_packet me.0 e.node.lane) _
        (node.answer_number head.source view legal.0 is) ((head, question round view), read, mine, other, inl refl) refl
        (says (length past) head.source clock (own_number round) _ fits.head.source (clock_below clock legal.1) fits.contents.0 refl)
    replies Replies.NotUp is =
        aloud (bytes b) (after_contents e now head (question round view)) [] (Some (question_packet head.source.0 round (numbers view))) (not_up_packet me.0 head.source.0 round) _
        (node.answer_not_up head.source round view legal.0 is) ((head, question round view), read, mine, other, inr (0, tt, refl)) refl
        (says (length past) head.source clock (not_up round) _ fits.head.source (clock_below clock legal.1) fits.contents.0 refl)

  receives : (now : ℕ) (b : List ℕ) (head : Head) (contents : Contents) (entries : List Entry) → read_parcel run b ≡ Ok (head, contents) → IsParcel run (head, contents) → head.dest ≡ me → (head.source.0 ≡ me.0 → ⊥)
      → contents_fault e now head contents ≡ None → Records past e head contents entries
      → IsNodeCall past e (bytes b) (after_contents e now head contents) (output_at e now head contents) entries
  receives now b head (message ssn items body) entries read fits mine other legal recorded =
      let name = name_in head ssn in
      let batch = batch_in head items in
      let taken = Some (message_packet name (message_with head.lane me recorded.0 name batch)) in
      quietly (bytes b) (after_contents e now head (message ssn items body)) entries _ taken recorded.2
      (node.deliver head.lane name recorded.0 batch (ap is_ascending (map-map _ (log_item head.source) items) ∙ fits.contents.1.ascending) (node_or_none _ _ legal).0)
      ((head, message ssn items body), read, mine, other, inr (recorded.0, recorded.1, ap (λ to. Some (message_packet name (message_with head.lane to recorded.0 name batch))) (sym mine)))
  receives now b head (acknowledgement items) entries read fits mine other legal recorded =
      let batch = batch_in head items in
      quietly (bytes b) (after_contents e now head (acknowledgement items)) entries [] (Some (acknowledgement_packet (acknowledgement_with head.source head.lane me batch))) recorded
      (node.learn head.lane head.source batch (node_or_none _ _ legal).0)
      ((head, acknowledgement items), read, mine, other, inr (0, tt, ap (λ to. Some (acknowledgement_packet (acknowledgement_with head.source head.lane to batch))) (sym mine)))
  receives now b head (question round view) entries read fits mine other legal recorded =
      subst (λ es. IsNodeCall past e (bytes b) (after_contents e now head (question round view)) (output_at e now head (question round view)) es) (sym recorded) (replies now b head round view read fits mine other (node_or_none _ _ legal) (round_reply e.node view) refl)
  receives now b head (answer round entries) recorded_entries read fits mine other legal recorded =
      let log = log_from head.source entries in
      quietly (bytes b) (after_contents e now head (answer round entries)) recorded_entries [] (Some (answer_packet round (log_packet head.source.0 head.lane me.0 log))) recorded
      (node.take_log round head.lane head.source log (node_or_none _ _ legal).0)
      ((head, answer round entries), read, mine, other, inr (0, tt, ap (λ (to : Pid). Some (answer_packet round (log_packet head.source.0 head.lane to.0 log))) (sym mine)))
  receives now b head (own_number round) entries read fits mine other legal recorded =
      quietly (bytes b) (after_contents e now head (own_number round)) entries [] (Some (number_packet head.source.0 head.lane)) recorded (node.take_number round head.source head.lane (node_or_none _ _ legal).0) ((head, own_number round), read, mine, other, inr (0, tt, refl))
  receives now b head (not_up round) entries read fits mine other legal recorded =
      quietly (bytes b) (after_contents e now head (not_up round)) entries [] (Some (not_up_for e.node head.source head.lane round)) recorded (said_not_up round head.source head.lane (node_or_none _ _ legal).0) ((head, not_up round), read, mine, other, inr (0, tt, refl))

  begins : (name : ℕ) → begin_fault e.node.recovery ≡ None → IsNodeCall past e nothing (recovering.after_begin e name) (one_name name) []
  begins name legal =
      let packet = question_packet me.0 name (numbers e.node.floors) in
      record {
        taken = None;
        sent = packet ∷ [];
        call = node.begin_round name legal;
        takes = refl;
        parcels = λ b there. absurd there;
        requests = λ j there. absurd there;
        questions = λ from x view was. elim was [ inl is ↦ (cc, inl cc) | inr none ↦ absurd none ];
      }

  asks : (now : ℕ) (to : Pid) → recovering.question_fault e now to ≡ None
      → IsNoCall e nothing (with_node e e.node (next_clock now e.clock)) (one_parcel (parcel_bytes run (recovering.question_to e to (next_clock now e.clock)))) []
  asks now to legal =
      let first = node_or_none _ _ legal in
      let there = asked_in e.node to first.0 in
      let clock = next_clock now e.clock in
      let name_is : unwrap_or (round_name e.node.recovery) 0 ≡ there.0.name = ap (λ o. unwrap_or (round_name o) 0) there.1 in
      let within = subst (λ o. IsRoundWithin n o) there.1 k.round in
      record {
        nothing_taken = refl;
        same = refl;
        unrecorded = refl;
        parcels = one_among (λ c. (packet : ℕ → Sent) × IsSentAgain e.node packet × ((at : ℕ) → Says e at c (packet at))) _ (
          _,
          asked_question there.0 there.1,
          λ at. says at to clock (question (unwrap_or (round_name e.node.recovery) 0) e.node.floors) (question_packet me.0 there.0.name (numbers e.node.floors)) there.2 (clock_below clock first.1)
              (subst (λ m. m < 2 ^ 64) (sym name_is) within.0, record { each = k.floors; count = k.node.floors })
              (ap (λ m. question_packet me.0 m (numbers e.node.floors)) name_is),
        );
        no_requests = refl;
        no_names = refl;
      }

-- a reply that is awaited is of another process
awaited_other : (e : EndpointState) → IsEndpointState e → (r : RoundState) → e.node.recovery ≡ Some (Some r) → (q : Pid) → set.contains r.awaited q.0 ≡ true → q.0 ≡ e.node.identity.me.0 → ⊥
awaited_other e k r gathers q awaited is = both_ways _ (subst (λ o. IsRecoveryState e.node.identity o) gathers k.node.recovery).1 (ap (set.contains r.awaited) (sym is) ∙ awaited)

-- the law of each call
pub calls_are_node_calls : ReadsBack → EndpointCallsAreNodeCalls
calls_are_node_calls back past old new input output entries (send now to body legal) k few fits = inl (sends back past old k few now to body legal)
calls_are_node_calls back past old new input output entries (resend ssn again legal is) k few fits = inr (resends back past old k few ssn again legal is)
calls_are_node_calls back past old new input output entries (acknowledge now to dets ascends legal) k few fits = inl (acknowledges back past old k few now to dets ascends legal)
calls_are_node_calls back past old new input output entries (forget now legal) k few fits = inl (quietly back past old k few nothing _ _ _ None refl (node.forget (node_or_none _ _ legal).0) refl)
calls_are_node_calls back past old new input output entries (receive now b p recorded read legal records) k few fits =
    let same : p ≡ fits.0 = read_is (read_parcel (run_of old) b) p fits.0 read (ap (read_parcel (run_of old)) fits.2 ∙ back (run_of old) fits.0 k.run fits.1) in
    let dest = or_else_none _ _ _ legal in
    let source = or_else_none _ _ _ dest.1 in
    let mine : p.0.dest ≡ old.node.identity.me = λ i. record { 0 = eqb-true p.0.dest.0 old.node.identity.me.0 (not-false _ dest.0) i } in
    inl (receives back past old k few now b p.0 p.1 recorded read (subst (λ q. IsParcel (run_of old) q) (sym same) fits.1) mine (λ same_pid_is. false≢true (sym source.0 ∙ eq-eqb p.0.source.0 old.node.identity.me.0 same_pid_is)) source.1 records)
calls_are_node_calls back past old new input output entries (write dets up logged) k few fits = inl (asks_storage back past old k few old _ (node.write dets up logged) refl)
calls_are_node_calls back past old new input output entries (stored now dets det up legal has) k few fits = inl (quietly back past old k few _ _ _ _ _ refl (node.stored dets det up has) refl)
calls_are_node_calls back past old new input output entries (begin_round name low legal) k few fits = inl (begins back past old k few name legal)
calls_are_node_calls back past old new input output entries (ask now to legal) k few fits = inr (asks back past old k few now to legal)
calls_are_node_calls back past old new input output entries (take_ended name q number legal) k few fits =
    let r = of_round old.node.recovery name q legal in
    inl (quietly back past old k few (ended q number) _ _ [] (Some (not_up_for old.node q number name)) refl (said_not_up back past old k few name q number legal) (r.0, r.1, ap (λ m. Some (not_up_for old.node q number m)) (sym r.2), awaited_other old k r.0 r.1 q r.3))
calls_are_node_calls back past old new input output entries (ask_storage r gathers legal) k few fits = inl (asks_storage back past old k few old _ (node.ask_storage r gathers legal) refl)
calls_are_node_calls back past old new input output entries (take_stored now r dets det gathers legal has) k few fits = inl (quietly back past old k few _ _ _ _ _ refl (node.take_stored r dets det gathers (node_or_none _ _ legal).0 has) refl)
calls_are_node_calls back past old new input output entries (finish_read r dets gathers legal all) k few fits = inl (quietly back past old k few _ _ _ _ _ refl (node.finish_read r dets gathers legal all) refl)
calls_are_node_calls back past old new input output entries (restart now reserved legal) k few fits = inl (quietly back past old k few nothing _ _ _ None refl (node.restart reserved (node_or_none _ _ legal).0) refl)
calls_are_node_calls back past old new input output entries (open_again round reopened down low) k few fits = inl (quietly back past old k few nothing _ _ [] None refl (node.open_again round down) refl)
