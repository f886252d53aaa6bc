-- Calls of nodes that endpoints need not make: a number that is sent, and what whoever knows of an end says for a process.
use Rattle.std.proofs.Common.{ℕ, ◌≡◌, ◌∙◌, ◌==◌, ◌<◌, ◌+◌, true, false, not, ◌&&◌, List, [], ◌∷◌, length, Some, None, replicate, sym, ap, subst, arith}
use Rattle.std.specs.Prelude.{nat_le, nat_lt, slice_set, if◌then◌else◌}
use Rattle.std.proofs.lemmas.Bool.{eq-eqb, ne_eqb, le-ltb, or_from}
use Rattle.std.proofs.lemmas.List.{length-set}
use Rattle.causal_name.specs.declared.Pid.{Pid}
use Rattle.causal_name.specs.Names.{same_pid}
use Rattle.causal_node.specs.declared.node_answer.RoundReply.TheVariants as Replies
use Rattle.causal_node.specs.declared.node_fault.NodeFault.TheVariants as Faults
use Rattle.causal_node.specs.NodeStates.{NodeState, Recovery, floor_of}
use Rattle.causal_node.specs.NodeRefusals.{or_else}
use Rattle.causal_node.specs.NodeRecovery.{opened_node}
use Rattle.causal_node.specs.NodeAnswers.{is_gathering, knows_number, answer_fault, reply_at, node_after_answer, after_answer_at}
use Rattle.causal_nodes.specs.Packets.{question_packet, not_up_packet, number_packet}
use Rattle.causal_calls.specs.Views.{numbers, IsNodeState}
use Rattle.causal_calls.specs.Calls.{NodeCall, answer_number, answer_not_up}
use Rattle.causal_calls.proofs.Lemmas.Numbers.{set_other, set_here, zeros}

-- a question that is not refused
answered : (s : NodeState) (asker : Pid) (view : List ℕ) → asker.0 < s.identity.processes → (asker.0 ≡ s.identity.me.0 → ⊥) → length view ≡ s.identity.processes
    → nat_lt (floor_of view asker) (floor_of s.floors asker) ≡ false → (is_gathering s.recovery && (knows_number s view && nat_lt s.identity.me.0 asker.0)) ≡ false
    → answer_fault s asker view ≡ None
answered s asker view low other size late waits = λ i.
    or_else (or_from (nat_le s.identity.processes asker.0) (same_pid asker s.identity.me) (grind (arith, low)) (ne_eqb asker.0 s.identity.me.0 other) i) Faults.NoProcess
    (or_else (ap not (eq-eqb (length view) s.identity.processes size) i) Faults.View
    (or_else (late i) Faults.OldLane
    (or_else (waits i) Faults.NotYet None)))

-- a node may send its number, if there is another process
module _ (position : ℕ) (s : NodeState) (k : IsNodeState s) (asker : Pid) (low : asker.0 < s.identity.processes) (other : asker.0 ≡ s.identity.me.0 → ⊥) where
  abbrev view : List ℕ
  view = slice_set s.floors s.identity.me.0 (s.lane + 1)

  unknown : knows_number s view ≡ false
  unknown = ap (λ m. m == s.lane) (set_here s.floors s.identity.me.0 (s.lane + 1) (subst (λ m. s.identity.me.0 < m) (sym k.floors) k.process)) ∙ ne_eqb (s.lane + 1) s.lane (λ e. omega (arith, e))

  pub tells_number : NodeCall position s None s (number_packet s.identity.me.0 s.lane ∷ []) []
  tells_number =
      let waits : (is_gathering s.recovery && (knows_number s view && nat_lt s.identity.me.0 asker.0)) ≡ false = grind (arith, unknown) in
      let late = le-ltb (numbers view asker.0) (numbers s.floors asker.0) (let same = set_other s.floors s.identity.me.0 (s.lane + 1) asker.0 other in omega (arith, same)) in
      subst (λ t. NodeCall position s None t (number_packet s.identity.me.0 s.lane ∷ []) []) (λ i. if unknown i then after_answer_at s view s.recovery else s)
      (answer_number asker view (answered s asker view low other (length-set s.floors s.identity.me.0 (s.lane + 1) ∙ k.floors) late waits) (λ i. if unknown i then reply_at s.recovery else Replies.OwnNumber))

-- a process that has ended, and done nothing since, replies to a question with its number that it is not up
module _ (position : ℕ) (s : NodeState) (down : s.recovery ≡ Some None) (fresh : s ≡ opened_node s.identity s.lane) (asker : Pid) (low : asker.0 < s.identity.processes) (other : asker.0 ≡ s.identity.me.0 → ⊥) where
  no_floor : numbers s.floors asker.0 ≡ 0
  no_floor = ap (λ (t : NodeState). numbers t.floors asker.0) fresh ∙ set_other (replicate s.identity.processes 0) s.identity.me.0 s.lane asker.0 other ∙ zeros s.identity.processes asker.0

  pub says_not_up : (name : ℕ) (view : List ℕ) → length view ≡ s.identity.processes → numbers view s.identity.me.0 ≡ s.lane
      → NodeCall position s (Some (question_packet asker.0 name (numbers view))) s (not_up_packet s.identity.me.0 asker.0 name ∷ []) []
  says_not_up name view size known =
      let knows : knows_number s view ≡ true = eq-eqb (numbers view s.identity.me.0) s.lane known in
      let waits : (is_gathering s.recovery && (knows_number s view && nat_lt s.identity.me.0 asker.0)) ≡ false = ap (λ (o : Recovery). is_gathering o && (knows_number s view && nat_lt s.identity.me.0 asker.0)) down in
      let late = le-ltb (numbers view asker.0) (numbers s.floors asker.0) (omega (arith, no_floor)) in
      let same : node_after_answer s view ≡ s = (λ i. if knows i then after_answer_at s view (down i) else s) ∙ (λ i. record s { recovery = sym down i }) in
      subst (λ t. NodeCall position s (Some (question_packet asker.0 name (numbers view))) t (not_up_packet s.identity.me.0 asker.0 name ∷ []) []) same
      (answer_not_up asker name view (answered s asker view low other size late waits) (λ i. if knows i then reply_at (down i) else Replies.OwnNumber))
