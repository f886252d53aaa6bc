-- A recovery, step by step: of two processes the second one delivers a message and sends another one, crashes, and
-- recovers the determinant of its delivery from the first one.
use Rattle.std.proofs.Common.{ℕ, ◌≡◌, ◌<◌, inl, inr, Bool, true, false, ◌&&◌, ◌||◌, List, [], ◌∷◌, ◌++◌, length, Option, Some, None, refl, sym, subst, ◌∙◌, arith}
use Rattle.std.specs.Prelude.{◌==◌}
use Rattle.std.proofs.lemmas.Bool.{false≢true, or_left, or_right, and_parts, and_from}
use Rattle.causal_name.specs.declared.Pid.{Pid}
use Rattle.causal_name.specs.declared.MsgName.{MsgName}
use Rattle.causal_name.specs.declared.Det.{Det}
use Rattle.causal_name.specs.Names.{same_det}
use Rattle.causal_trace.specs.declared.entry.Entry.{Entry}
use Rattle.causal_trace.specs.declared.entry.Entry.TheVariants.{Send, Deliver, Crash, Restart}
use Rattle.causal_trace.specs.Past.{list_has, det_from}
use Rattle.causal_rounds.specs.Rounds.{with_value_at}
use Rattle.causal_rounds.proofs.Lemmas.RoundSteps.{set_at_away}
use Rattle.causal_world.specs.World.{Packet}
use Rattle.causal_nodes.specs.Node.{UpNode, NodeRound, DownNode, Node, up_node, down_node}
use Rattle.causal_nodes.specs.Packets.{Sent, message_packet, question_packet, answer_packet, read_packet, stored_packet, WasSent, WasTaken, is_of_round}
use Rattle.causal_nodes.specs.NodeSteps.{NodeStep, IsOfNodeLog, empty_log, with_one_sent, with_floors, raised, up_after_delivery, with_round, fallen_node, new_node_round, after_answer, with_heard, up_after_restart, send_row, deliver_row, answer_row, begin_row, hear_answer_row, read_row, hear_stored_row, restart_row}
use Rattle.causal_nodes.specs.Network.{IsNewNode, Network, HasFreshName, step_event, crash_event, read_event, IsReachableNetwork, new_network, next_network, NodesRecover}

abbrev after_step : Network → ℕ → Node → List Sent → List Entry → Network
after_step net p node emitted entries = record { past = entries ++ net.past; nodes = with_value_at net.nodes p node; sent = emitted ++ net.sent; stored = net.stored; floors = net.floors }

steps : (net : Network) (me : Pid) (taken : Option Sent) (node : Node) (emitted : List Sent) (entries : List Entry) → me.0 < 2 → IsReachableNetwork 2 1 net → WasTaken net.sent taken → NodeStep 2 1 me (length net.past) (net.nodes me.0) taken node emitted entries
    → ((new : Sent) → WasSent emitted new → HasFreshName net.sent new) → IsReachableNetwork 2 1 (after_step net me.0 node emitted entries)
steps net me taken node emitted entries low h was step fresh = next_network net (after_step net me.0 node emitted entries) h (step_event me taken node emitted entries low was step fresh)

-- a packet that begins no round
one_fresh : (sent : List Sent) (k : Sent) → HasFreshName sent k → (new : Sent) → WasSent (k ∷ []) new → HasFreshName sent new
one_fresh sent k fresh new (inl is) = subst (λ y. HasFreshName sent y) is fresh
one_fresh sent k fresh new (inr was) = absurd was

or_false : (b : Bool) → (b || false) ≡ b
or_false b = grind arith

turned : (a b : Bool) → (a || (b || false)) ≡ (b || a)
turned a b = grind arith

abbrev first : Pid
first = record { 0 = 0 }

abbrev second : Pid
second = record { 0 = 1 }

abbrev new_node : UpNode
new_node = record { lane = 0; log = empty_log; floors = λ q. 0; sent = 0; received = [] }

abbrev start : Network
start = record { past = []; nodes = λ p. up_node new_node; sent = []; stored = λ d. false; floors = λ q. 0 }

starts : IsReachableNetwork 2 1 start
starts =
    let nodes : (p : ℕ) → p < 2 → (a : UpNode) × (start.nodes p ≡ up_node a) × IsNewNode a = λ p low. (new_node, refl, assumption) in
    new_network start assumption

-- the first process sends a message
abbrev message : Packet
message = record { parcel = record { from = 0; send = Some 0; carries = λ d. false; names_holder = λ d q. false; names_stable = λ d. false }; lane = 0; to = 1 }

abbrev name : MsgName
name = record { source = first; ssn = 0 }

abbrev sent : Network
sent = after_step start 0 (up_node (with_one_sent new_node)) (message_packet name message ∷ []) (Send first second 0 ∷ [])

sends : IsReachableNetwork 2 1 sent
sends = steps start first None (up_node (with_one_sent new_node)) (message_packet name message ∷ []) (Send first second 0 ∷ []) (omega arith) starts tt
    (send_row new_node second message (omega arith) (record { from = refl; lane = refl; logged = λ d h. absurd (false≢true h); known_holders = λ d q h. absurd (false≢true h); known_stable = λ d h. absurd (false≢true h); names_sender = λ d h. absurd (false≢true h) }) refl refl (λ d h. absurd (false≢true h)))
    (one_fresh start.sent (message_packet name message) tt)

-- the second one delivers it
abbrev own : Det
own = det_from second 0 name

abbrev listed : List Det
listed = own ∷ []

abbrev receiver : UpNode
receiver = up_after_delivery 1 name listed message.parcel new_node

abbrev delivered : Network
delivered = after_step sent 1 (up_node receiver) [] (Deliver second 0 0 listed ∷ [])

delivers : IsReachableNetwork 2 1 delivered
delivers = steps sent second (Some (message_packet name message)) (up_node receiver) [] (Deliver second 0 0 listed ∷ []) (omega arith) sends (inl refl)
    (deliver_row new_node name message 0 listed refl refl (omega arith) refl refl (λ d h dest rsn. absurd (false≢true h)) (λ d. refl)) (λ new was. absurd was)

-- it sends a message that carries the determinant of its delivery
abbrev reply : Packet
reply = record { parcel = record { from = 1; send = Some 2; carries = λ d. same_det d own; names_holder = λ d q. same_det d own && q == 1; names_stable = λ d. false }; lane = 0; to = 0 }

abbrev reply_name : MsgName
reply_name = record { source = second; ssn = 0 }

receiver_has : (d : Det) → receiver.log.has d ≡ same_det d own
receiver_has d = or_false (list_has listed d) ∙ or_false (same_det d own)

of_receiver : IsOfNodeLog 1 receiver reply
of_receiver = record {
  from = refl;
  lane = refl;
  logged = λ d h. receiver_has d ∙ h;
  known_holders = λ d q h. let parts = and_parts (same_det d own) (q == 1) h in (or_left (list_has listed d && (false || q == 1)) false (and_from (list_has listed d) (false || q == 1) (or_left (same_det d own) false parts.0) parts.1), parts.0);
  known_stable = λ d h. absurd (false≢true h);
  names_sender = λ d h. and_from (same_det d own) (1 == 1) h refl;
}

abbrev replied : Network
replied = after_step delivered 1 (up_node (with_one_sent receiver)) (message_packet reply_name reply ∷ []) (Send second first 0 ∷ [])

replies : IsReachableNetwork 2 1 replied
replies = steps delivered second None (up_node (with_one_sent receiver)) (message_packet reply_name reply ∷ []) (Send second first 0 ∷ []) (omega arith) delivers tt
    (send_row receiver first reply (omega arith) of_receiver refl refl (λ d h. inl (sym (receiver_has d) ∙ h))) (one_fresh delivered.sent (message_packet reply_name reply) tt)

-- the first one delivers it, and so logs that determinant too
abbrev other : Det
other = det_from first 0 reply_name

abbrev both : List Det
both = own ∷ other ∷ []

abbrev holder : UpNode
holder = up_after_delivery 0 reply_name both reply.parcel (with_one_sent new_node)

abbrev spread : Network
spread = after_step replied 0 (up_node holder) [] (Deliver first 2 0 both ∷ [])

spreads : IsReachableNetwork 2 1 spread
spreads = steps replied first (Some (message_packet reply_name reply)) (up_node holder) [] (Deliver first 2 0 both ∷ []) (omega arith) replies (inl refl)
    (deliver_row (with_one_sent new_node) reply_name reply 2 both refl refl (omega arith) refl refl (λ d h dest rsn. absurd (false≢true h)) (λ d. turned (same_det d own) (same_det d other))) (λ new was. absurd was)

-- the second one crashes, and begins a round
abbrev crashed : Network
crashed = record { past = Crash second ∷ spread.past; nodes = with_value_at spread.nodes 1 (down_node (fallen_node 0)); sent = spread.sent; stored = spread.stored; floors = spread.floors }

crashes : IsReachableNetwork 2 1 crashed
crashes = next_network spread crashed spreads (crash_event second (with_one_sent receiver) (omega arith) refl (omega arith))

abbrev view : ℕ → ℕ
view = with_value_at (λ q. 0) 1 1

abbrev begun_round : NodeRound
begun_round = new_node_round 0 view

abbrev begun : Network
begun = after_step crashed 1 (down_node (with_round (fallen_node 0) (Some begun_round))) (question_packet 1 0 view ∷ []) []

begins : IsReachableNetwork 2 1 begun
begins = steps crashed second None (down_node (with_round (fallen_node 0) (Some begun_round))) (question_packet 1 0 view ∷ []) [] (omega arith) crashes tt
    (begin_row (fallen_node 0) 0 view refl (λ q apart. let e = set_at_away {X = ℕ} (λ z. 0) 1 1 q apart in omega (arith, e)))
    (one_fresh crashed.sent (question_packet 1 0 view) fresh)
  where
    fresh : HasFreshName crashed.sent (question_packet 1 0 view)
    fresh k (inl is) = subst (λ y. is_of_round y 1 0 ≡ false) is refl
    fresh k (inr (inl is)) = subst (λ y. is_of_round y 1 0 ≡ false) is refl
    fresh k (inr (inr was)) = absurd was

-- the first one answers with its log
abbrev answer : Packet
answer = record { parcel = record { from = 0; send = None; carries = λ d. holder.log.has d; names_holder = λ d q. list_has both d && (reply.parcel.names_holder d q || q == 0); names_stable = λ d. false }; lane = 0; to = 1 }

of_holder : IsOfNodeLog 0 holder answer
of_holder = record {
  from = refl;
  lane = refl;
  logged = λ d h. h;
  known_holders = λ d q h. (or_left (list_has both d && (reply.parcel.names_holder d q || q == 0)) false h, or_left (list_has both d) false (and_parts (list_has both d) (reply.parcel.names_holder d q || q == 0) h).0);
  known_stable = λ d h. absurd (false≢true h);
  names_sender = λ d h. and_from (list_has both d) (reply.parcel.names_holder d 0 || 0 == 0) (sym (or_false (list_has both d)) ∙ h) (or_right (reply.parcel.names_holder d 0) (0 == 0) refl);
}

abbrev answered : Network
answered = after_step begun 0 (up_node (with_floors holder (raised holder.floors view))) (answer_packet 0 answer ∷ []) []

answers : IsReachableNetwork 2 1 answered
answers = steps begun first (Some (question_packet 1 0 view)) (up_node (with_floors holder (raised holder.floors view))) (answer_packet 0 answer ∷ []) [] (omega arith) begins (inl refl)
    (answer_row holder 1 0 view answer refl of_holder refl refl (λ d. refl)) (one_fresh begun.sent (answer_packet 0 answer) tt)

-- the second one takes the answer, asks stable storage, and comes up
abbrev heard_round : NodeRound
heard_round = after_answer 0 answer.parcel begun_round

abbrev down_with : NodeRound → DownNode
down_with r = with_round (fallen_node 0) (Some r)

abbrev heard : Network
heard = after_step answered 1 (down_node (down_with heard_round)) [] []

hears : IsReachableNetwork 2 1 heard
hears = steps answered second (Some (answer_packet 0 answer)) (down_node (down_with heard_round)) [] [] (omega arith) answers (inl refl) (hear_answer_row (down_with begun_round) begun_round answer refl refl) (λ new was. absurd was)

abbrev asked : Network
asked = after_step heard 1 (down_node (down_with heard_round)) (read_packet 1 0 view ∷ []) []

asks : IsReachableNetwork 2 1 asked
asks = steps heard second None (down_node (down_with heard_round)) (read_packet 1 0 view ∷ []) [] (omega arith) hears tt (read_row (down_with heard_round) heard_round refl all) (one_fresh heard.sent (read_packet 1 0 view) tt)
  where
    all : (q : ℕ) → q < 2 → (q ≡ 1 → ⊥) → heard_round.heard q ≡ true
    all q low apart = grind (arith, low, apart)

abbrev was_read : Network
was_read = record { past = asked.past; nodes = asked.nodes; sent = stored_packet 1 0 asked.stored ∷ asked.sent; stored = asked.stored; floors = raised asked.floors view }

reads : IsReachableNetwork 2 1 was_read
reads = next_network asked was_read asks (read_event 1 0 view (inl refl))

abbrev read_round : NodeRound
read_round = with_heard 2 heard_round

abbrev ready : Network
ready = after_step was_read 1 (down_node (down_with read_round)) [] []

readies : IsReachableNetwork 2 1 ready
readies = steps was_read second (Some (stored_packet 1 0 asked.stored)) (down_node (down_with read_round)) [] [] (omega arith) reads (inl refl) (hear_stored_row (down_with heard_round) heard_round asked.stored refl (λ d h. absurd (false≢true h))) (λ new was. absurd was)

abbrev recovered : Network
recovered = after_step ready 1 (up_node (up_after_restart 1 1 read_round)) [] (Restart second both ∷ [])

restarts : IsReachableNetwork 2 1 recovered
restarts = steps ready second None (up_node (up_after_restart 1 1 read_round)) [] (Restart second both ∷ []) (omega arith) readies tt (restart_row (down_with read_round) read_round both refl refl all (λ d. sym (or_false (list_has both d)))) (λ new was. absurd was)
  where
    all : (q : ℕ) → q < 3 → (q ≡ 1 → ⊥) → read_round.heard q ≡ true
    all q low apart = grind (arith, low, apart)

pub nodes_recover : NodesRecover
nodes_recover = (recovered, restarts, up_after_restart 1 1 read_round, refl, refl, own, refl, refl)
