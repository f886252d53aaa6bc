-- Each call of a node is a step of the theory, keeps its state's facts, and sends what names only processes.
use Rattle.std.proofs.Common.{ℕ, ◌≡◌, ◌∙◌, ◌<◌, true, List, [], ◌∷◌, Option, Some, None, inl, inr, refl, sym, ap, subst, arith}
use Rattle.std.specs.Prelude.{◌⊎◌, if◌then◌else◌}
use Rattle.std.proofs.lemmas.Bool.{and_parts}
use Rattle.causal_name.specs.declared.Det.{Det}
use Rattle.causal_trace.specs.declared.entry.Entry.{Entry}
use Rattle.causal_world.specs.World.{Packet}
use Rattle.causal_node.specs.NodeStates.{NodeState, Recovery, RoundState, floor_of}
use Rattle.causal_node.specs.NodeRecovery.{node_restart_fault, begin_fault, node_after_stored, after_restart_at, with_recovery, map_round, without_awaited, after_number, after_not_up}
use Rattle.causal_node.specs.NodeAnswers.{node_after_answer, after_answer_at, knows_number}
use Rattle.causal_nodes.specs.Node.{Node, DownNode, up_node, down_node, lane_or_next}
use Rattle.causal_nodes.specs.Packets.{Sent, WasSent, acknowledgement_packet, write_packet, question_packet, answer_packet, not_up_packet, read_packet, number_packet}
use Rattle.causal_nodes.specs.NodeSteps.{tell_row}
use Rattle.causal_calls.specs.Views.{numbers, up_view, RepresentsAt, Represents, IsDownView, IsNodeState}
use Rattle.causal_calls.specs.Parcels.{next_message_packet, acknowledgement_of, log_packet, write_of}
use Rattle.causal_calls.specs.Calls.{send, deliver, acknowledge, learn, forget, write, stored, answer_log, answer_not_up, answer_number, begin_round, take_log, take_not_up, take_other_number, take_number, ask_storage, take_stored, finish_read, restart, open_again}
use Rattle.causal_calls.specs.StepLaws.{NamesProcesses, IsStepOf, IsNoStep, CallsAreSteps, CallsKeepNodeStates}
use Rattle.causal_calls.proofs.Lemmas.LogChanges.{acknowledged_holders}
use Rattle.causal_calls.proofs.Lemmas.Refusals.{some_none, unless_up_none, of_round}
use Rattle.causal_calls.proofs.UpCalls.{sends, delivers, acknowledges, learns, forgets, writes, marks, answers, replies_log, replies_not_up, replies_number, message_of_log}
use Rattle.causal_calls.proofs.DownCalls.{begins, says_not_up, hears_number, opens_again, takes_log, takes_not_up, asks_storage, takes_stored, finishes, restarts}
use Rattle.causal_calls.proofs.Keeps
use Rattle.causal_calls.proofs.Lemmas.Openings.{opening}

-- a round in which a call applies
begun_or_not : (o : Recovery) → begin_fault o ≡ None → (round : Option RoundState) × (o ≡ Some round)
begun_or_not None h = absurd (some_none _ h)
begun_or_not (Some round) h = (round, refl)

has_round : (o : Recovery) → node_restart_fault o ≡ None → (r : RoundState) × (o ≡ Some (Some r))
has_round (Some (Some r)) h = (r, refl)
has_round _ h = absurd (some_none _ h)

module _ (position : ℕ) (s : NodeState) (k : IsNodeState s) (node : Node) (rep : Represents s node) (taken : Option Sent) (new : NodeState) (emitted : List Sent) (entries : List Entry) where
  abbrev Goal : Node → Type 0
  Goal y = IsStepOf position s y taken new emitted entries ⊎ IsNoStep y new emitted entries

  -- a process that is up, or down
  if_up : s.recovery ≡ None → (s.recovery ≡ None → Goal (up_node (up_view s))) → Goal node
  if_up up each = subst (λ y. Goal y) (sym (subst (λ (o : Recovery). RepresentsAt s o node) up rep)) (each up)

  if_down : (round : Option RoundState) → s.recovery ≡ Some round → ((x : DownNode) → IsDownView s round x → Goal (down_node x)) → Goal node
  if_down round down each =
      let is = subst (λ (o : Recovery). RepresentsAt s o node) down rep in
      subst (λ y. Goal y) (sym is.1) (each is.0 is.2)

-- each process sends its number
number_is : (s : NodeState) (node : Node) (o : Recovery) → RepresentsAt s o node → lane_or_next node ≡ s.lane
number_is s node None rep = ap lane_or_next rep
number_is s node (Some round) rep = ap lane_or_next rep.1 ∙ sym rep.2.lane

pub calls_are_steps : CallsAreSteps
calls_are_steps position old new taken emitted entries node (send to body legal) k single rep =
    if_up position old k node rep taken new emitted entries (unless_up_none _ _ legal).0 (λ up. inl (sends position old k up to body legal))
calls_are_steps position old new taken emitted entries node (deliver lane name at items ascending legal) k single rep =
    if_up position old k node rep taken new emitted entries (unless_up_none _ _ legal).0 (λ up. inl (delivers position old k up lane name at items ascending legal (single up)))
calls_are_steps position old new taken emitted entries node (acknowledge to dets legal) k single rep =
    if_up position old k node rep taken new emitted entries (unless_up_none _ _ legal).0 (λ up. inl (acknowledges position old k up to dets))
calls_are_steps position old new taken emitted entries node (learn lane from items legal) k single rep =
    if_up position old k node rep taken new emitted entries (unless_up_none _ _ legal).0 (λ up. inl (learns position old k up lane from items legal))
calls_are_steps position old new taken emitted entries node (forget legal) k single rep =
    if_up position old k node rep taken new emitted entries (unless_up_none _ _ legal).0 (λ up. forgets position old k up)
calls_are_steps position old new taken emitted entries node (write dets up logged) k single rep = if_up position old k node rep taken new emitted entries up (λ up. inl (writes position old k up dets logged))
calls_are_steps position old new taken emitted entries node (stored dets det up has) k single rep = if_up position old k node rep taken new emitted entries up (λ up. inl (marks position old k up dets det has))
calls_are_steps position old new taken emitted entries node (answer_log asker name view legal reply) k single rep =
    if_up position old k node rep taken new emitted entries (replies_log (knows_number old view) old.recovery reply).1 (λ up. inl (answers position old k up asker name view legal reply))
calls_are_steps position old new taken emitted entries node (answer_not_up asker name view legal reply) k single rep =
    let down = (replies_not_up (knows_number old view) old.recovery reply).1 in
    if_down position old k node rep taken new emitted entries down.0 down.1 (λ x is. inl (says_not_up position old k down.0 down.1 x is asker name view legal reply))
calls_are_steps position old new taken emitted entries node (answer_number asker view legal reply) k single rep =
    let same : old ≡ node_after_answer old view = λ i. if sym (replies_number (knows_number old view) old.recovery reply) i then after_answer_at old view old.recovery else old in
    subst (λ (t : NodeState). IsStepOf position old node None t (number_packet old.identity.me.0 old.lane ∷ []) [] ⊎ IsNoStep node t (number_packet old.identity.me.0 old.lane ∷ []) []) same
    (inl (subst (λ (m : ℕ). IsStepOf position old node None old (number_packet old.identity.me.0 m ∷ []) []) (number_is old node old.recovery rep) (record { next = node; step = tell_row node; represents = rep })))
calls_are_steps position old new taken emitted entries node (begin_round name legal) k single rep =
    let down = begun_or_not old.recovery legal in
    if_down position old k node rep taken new emitted entries down.0 down.1 (λ x is. inl (begins position old k down.0 down.1 x is name))
calls_are_steps position old new taken emitted entries node (take_log name lane q log legal) k single rep =
    let r = of_round old.recovery name q legal in
    if_down position old k node rep taken new emitted entries (Some r.0) r.1 (λ x is. inl (takes_log position old k r.0 r.1 x is name lane q log r.2))
calls_are_steps position old new taken emitted entries node (take_not_up name q legal) k single rep =
    let r = of_round old.recovery name q legal in
    if_down position old k node rep taken new emitted entries (Some r.0) r.1 (λ x is. inl (takes_not_up position old k r.0 r.1 x is name q r.2))
calls_are_steps position old new taken emitted entries node (take_other_number name q number legal other) k single rep =
    let r = of_round old.recovery name q legal in
    let after : after_number old q number ≡ after_not_up old q number = λ i. if sym other i then with_recovery old (map_round (λ r. without_awaited r q.0) old.recovery) else after_number old q number in
    if_down position old k node rep taken new emitted entries (Some r.0) r.1 (λ x is. subst (λ (t : NodeState). IsStepOf position old (down_node x) (Some (number_packet q.0 number)) t [] [] ⊎ IsNoStep (down_node x) t [] []) after
    (hears_number position old k (Some r.0) r.1 x is q number (Keeps.apart old k r.0 r.1 q r.3)))
calls_are_steps position old new taken emitted entries node (take_number name q number legal) k single rep =
    let r = of_round old.recovery name q legal in
    if_down position old k node rep taken new emitted entries (Some r.0) r.1 (λ x is. hears_number position old k (Some r.0) r.1 x is q number (Keeps.apart old k r.0 r.1 q r.3))
calls_are_steps position old new taken emitted entries node (ask_storage r gathers legal) k single rep = if_down position old k node rep taken new emitted entries (Some r) gathers (λ x is. inl (asks_storage position old k r gathers x is legal))
calls_are_steps position old new taken emitted entries node (take_stored r dets det gathers legal has) k single rep = if_down position old k node rep taken new emitted entries (Some r) gathers (λ x is. inl (takes_stored position old k r gathers x is dets det has))
calls_are_steps position old new taken emitted entries node (finish_read r dets gathers legal all) k single rep = if_down position old k node rep taken new emitted entries (Some r) gathers (λ x is. inl (finishes position old k r gathers x is dets all))
calls_are_steps position old new taken emitted entries node (restart reserved legal) k single rep =
    let r = has_round old.recovery legal in
    if_down position old k node rep taken new emitted entries (Some r.0) r.1 (λ x is. inl (restarts position old k r.0 r.1 x is reserved legal))
calls_are_steps position old new taken emitted entries node (open_again round down) k single rep = if_down position old k node rep taken new emitted entries round down (λ x is. inl (opens_again position old k round down x is))

-- one packet, or none
names_one : (n : ℕ) (k : Sent) → NamesProcesses n k → (j : Sent) → WasSent (k ∷ []) j → NamesProcesses n j
names_one n k names j (inl is) = subst (λ x. NamesProcesses n x) is names
names_one n k names j (inr other) = absurd other

names_nothing : (n : ℕ) (j : Sent) → WasSent [] j → NamesProcesses n j
names_nothing n j was = absurd was

-- what is not a parcel names nobody
module _ (s : NodeState) (k : IsNodeState s) where
  names_packet : (p t : Packet) → p ≡ t → ((d : Det) (q : ℕ) → p.parcel.names_holder d q ≡ true → q < s.identity.processes) → (d : Det) (q : ℕ) → t.parcel.names_holder d q ≡ true → q < s.identity.processes
  names_packet p t is names = subst (λ (x : Packet). (d : Det) (q : ℕ) → x.parcel.names_holder d q ≡ true → q < s.identity.processes) is names

pub calls_keep : CallsKeepNodeStates
calls_keep position old new taken emitted entries (send to body legal) k names =
    let of_log = message_of_log position old k (unless_up_none _ _ legal).0 to in
    (assumption, refl, names_one old.identity.processes _ (λ p is. names_packet old k (next_message_packet position old to) p is (λ d q h. k.holders d q (of_log.known_holders d q h).0)))
calls_keep position old new taken emitted entries (deliver lane name at items ascending legal) k names = (Keeps.delivered old k lane name at items names, refl, names_nothing old.identity.processes)
calls_keep position old new taken emitted entries (acknowledge to dets legal) k names =
    (k, refl, names_one old.identity.processes (acknowledgement_packet (acknowledgement_of old to dets)) (λ p is. names_packet old k (acknowledgement_of old to dets) p is (λ d q h. k.holders d q (and_parts _ _ (and_parts _ _ (sym (acknowledged_holders old.memory.log dets d q) ∙ h)).1).1)))
calls_keep position old new taken emitted entries (learn lane from items legal) k names = (Keeps.acknowledged old k lane from items names, refl, names_nothing old.identity.processes)
calls_keep position old new taken emitted entries (forget legal) k names = (Keeps.forgot old k, refl, names_nothing old.identity.processes)
calls_keep position old new taken emitted entries (write dets up logged) k names =
    (k, refl, names_one old.identity.processes (write_packet (write_of old dets)) (λ p is. names_packet old k (write_of old dets) p is (λ d q h. k.holders d q (and_parts _ _ h).1)))
calls_keep position old new taken emitted entries (stored dets det up has) k names = (Keeps.marked_stable old k det up, subst (λ (o : Recovery). (node_after_stored old det o).identity ≡ old.identity) (sym up) refl, names_nothing old.identity.processes)
calls_keep position old new taken emitted entries (answer_log asker name view legal reply) k names =
    (Keeps.answered old k asker view legal, grind arith, names_one old.identity.processes (answer_packet name (log_packet old.identity.me.0 old.lane asker.0 old.memory.log)) (λ p is. names_packet old k (log_packet old.identity.me.0 old.lane asker.0 old.memory.log) p is k.holders))
calls_keep position old new taken emitted entries (answer_not_up asker name view legal reply) k names =
    (Keeps.answered old k asker view legal, grind arith, names_one old.identity.processes (not_up_packet old.identity.me.0 asker.0 name) (λ p is. absurd is))
calls_keep position old new taken emitted entries (answer_number asker view legal reply) k names =
    (Keeps.answered old k asker view legal, grind arith, names_one old.identity.processes (number_packet old.identity.me.0 old.lane) (λ p is. absurd is))
calls_keep position old new taken emitted entries (begin_round name legal) k names = (Keeps.begun old k name, refl, names_one old.identity.processes (question_packet old.identity.me.0 name (numbers old.floors)) (λ p is. absurd is))
calls_keep position old new taken emitted entries (take_log name lane q log legal) k names =
    let r = of_round old.recovery name q legal in
    (Keeps.log_taken old k r.0 r.1 q log (names (log_packet q.0 lane old.identity.me.0 log) refl), refl, names_nothing old.identity.processes)
calls_keep position old new taken emitted entries (take_not_up name q legal) k names =
    let r = of_round old.recovery name q legal in
    (Keeps.not_up_taken old k r.0 r.1 q (floor_of old.floors q) r.3, grind arith, names_nothing old.identity.processes)
calls_keep position old new taken emitted entries (take_other_number name q number legal other) k names =
    let r = of_round old.recovery name q legal in
    (Keeps.not_up_taken old k r.0 r.1 q number r.3, grind arith, names_nothing old.identity.processes)
calls_keep position old new taken emitted entries (take_number name q number legal) k names =
    let r = of_round old.recovery name q legal in
    (Keeps.number_taken old k r.0 r.1 q number r.3, refl, names_nothing old.identity.processes)
calls_keep position old new taken emitted entries (ask_storage r gathers legal) k names = (k, refl, names_one old.identity.processes (read_packet old.identity.me.0 r.name (numbers old.floors)) (λ p is. absurd is))
calls_keep position old new taken emitted entries (take_stored r dets det gathers legal has) k names =
    (Keeps.stored_taken old k r gathers det, subst (λ (o : Recovery). (node_after_stored old det o).identity ≡ old.identity) (sym gathers) refl, names_nothing old.identity.processes)
calls_keep position old new taken emitted entries (finish_read r dets gathers legal all) k names = (Keeps.read_finished old k r gathers, refl, names_nothing old.identity.processes)
calls_keep position old new taken emitted entries (restart reserved legal) k names =
    let r = has_round old.recovery legal in
    (Keeps.restarted old k r.0 r.1 reserved, subst (λ (o : Recovery). (after_restart_at old o reserved).identity ≡ old.identity) (sym r.1) refl, names_nothing old.identity.processes)
calls_keep position old new taken emitted entries (open_again round down) k names = (opening old.identity old.lane k.process, refl, names_nothing old.identity.processes)
