-- The calls of a node that is up are steps of a process that is up.
use Rattle.std.proofs.Common.{ℕ, ◌≡◌, ◌∙◌, ◌<◌, Bool, true, false, ◌||◌, List, [], ◌∷◌, ◌++◌, length, Option, Some, None, inl, inr, length-append, refl, sym, ap, subst, arith}
use Rattle.std.specs.Prelude.{◌⊎◌, if◌then◌else◌}
use Rattle.std.specs.List.{list_any}
use Rattle.std.proofs.lemmas.Bool.{false≢true, or_right, and_parts, and_from, eqb-true, eq-eqb, not-false}
use Rattle.causal_name.specs.declared.Pid.{Pid}
use Rattle.causal_name.specs.declared.MsgName.{MsgName}
use Rattle.causal_name.specs.declared.Det.{Det}
use Rattle.causal_name.specs.Names.{is_ascending, same_det}
use Rattle.causal_name.specs.Sets.{count_below}
use Rattle.causal_holders.proofs.Lemmas.MemberCounts.{len_counted}
use Rattle.causal_trace.specs.declared.entry.Entry.TheVariants.{Send, Deliver, Stable}
use Rattle.causal_trace.specs.Past.{list_has, det_from}
use Rattle.causal_log.specs.declared.batch.Item.{Item}
use Rattle.causal_log.specs.Logs.{LogMap, known_of, dets_of, forgotten_in, batch_items}
use Rattle.causal_log.proofs.Lemmas.MessageItems.{carried_dets, carried_holders, left_out}
use Rattle.causal_memory.proofs.Lemmas.ListInsert.{with_ascending}
use Rattle.causal_protocol.specs.Naming.{message_name, with_own}
use Rattle.causal_protocol.specs.Steps.{forget_entries}
use Rattle.causal_protocol.specs.MemoryQueries.{has_entry, log_knows_holder, log_knows_stable}
use Rattle.causal_node.specs.declared.node_answer.RoundReply.TheVariants as Replies
use Rattle.causal_node.specs.NodeStates.{NodeState, Recovery, RoundState, floor_of}
use Rattle.causal_node.specs.NodeRefusals.{node_send_fault, deliver_fault}
use Rattle.causal_node.specs.NodeSteps.{node_after_send, node_after_delivery}
use Rattle.causal_node.specs.NodeRecovery.{node_after_stored}
use Rattle.causal_node.specs.NodeAcknowledgements.{learn_fault, after_acknowledgement}
use Rattle.causal_node.specs.NodeForgetting.{next_slot, node_after_forget}
use Rattle.causal_node.specs.NodeAnswers.{answer_fault, node_after_answer, after_answer_at, knows_number, raised_floors, with_floors, round_reply, reply_at}
use Rattle.causal_nodes.specs.Node.{Node, up_node}
use Rattle.causal_nodes.specs.Packets.{message_packet, acknowledgement_packet, write_packet, written_packet, question_packet, answer_packet}
use Rattle.causal_nodes.specs.NodeSteps.{send_row, deliver_row, acknowledge_row, learn_row, write_row, mark_row, forget_row, answer_row, IsOfNodeLog, with_one_sent, with_node_log, log_after_acknowledgement, log_after_mark, log_without}
use Rattle.causal_nodes.specs.NodeSteps as theory
use Rattle.causal_calls.specs.Views.{numbers, up_view, RepresentsAt, Represents, IsNodeState, log_view}
use Rattle.causal_calls.specs.Parcels.{message_with, next_message_packet, acknowledgement_with, acknowledgement_of, log_packet, write_of}
use Rattle.causal_calls.specs.StepLaws.{HasLogSingleSlots, IsStepOf, IsNoStep}
use Rattle.causal_calls.proofs.Lemmas.LogViews.{delivered, marked}
use Rattle.causal_protocol.proofs.Lemmas.LogMembers.{entry_of_holder, own_have, items_have}
use Rattle.causal_calls.proofs.Lemmas.LogChanges.{learned, acknowledged_dets, acknowledged_holders, forgotten, forgotten_ascends, forgotten_stable, forgotten_made}
use Rattle.causal_calls.proofs.Lemmas.Refusals.{below_from, not_below, or_else_none, unless_up_none}
use Rattle.causal_calls.proofs.Lemmas.Numbers.{raised_numbers}
use Rattle.causal_calls.proofs.Names.{named_only}

-- which reply is given
pub replies_log : (b : Bool) (o : Recovery) → (if b then reply_at o else Replies.OwnNumber) ≡ Replies.Log → (b ≡ true) × (o ≡ None)
replies_log true None h = (refl, refl)
replies_log _ _ h = cc

pub replies_not_up : (b : Bool) (o : Recovery) → (if b then reply_at o else Replies.OwnNumber) ≡ Replies.NotUp → (b ≡ true) × ((r : Option RoundState) × (o ≡ Some r))
replies_not_up true (Some r) h = (refl, (r, refl))
replies_not_up _ _ h = cc

pub replies_number : (b : Bool) (o : Recovery) → (if b then reply_at o else Replies.OwnNumber) ≡ Replies.OwnNumber → b ≡ false
replies_number b o h = grind arith

module _ (position : ℕ) (s : NodeState) (k : IsNodeState s) (up : s.recovery ≡ None) where
  abbrev here : Node
  here = up_node (up_view s)

  abbrev me : Pid
  me = s.identity.me

  abbrev log : LogMap
  log = s.memory.log

  -- a state that is up represents its view
  as_up : (new : NodeState) (next : Node) → new.recovery ≡ s.recovery → next ≡ up_node (up_view new) → Represents new next
  as_up new next same is = subst (λ (o : Recovery). RepresentsAt new o next) (sym (same ∙ up)) is

  -- of the log
  module _ (to : Pid) where
    abbrev items : List Item
    items = batch_items s.identity.faults log

    pub message_of_log : IsOfNodeLog me.0 (up_view s) (next_message_packet position s to)
    message_of_log = record {
      from = refl;
      lane = refl;
      logged = λ d h. grind (arith, carried_dets s.identity.faults log d);
      known_holders = λ d q h. (
        grind (arith, carried_holders s.identity.faults log d q, carried_dets s.identity.faults log d, eqb-true q me.0, k.own d),
        grind (arith, carried_holders s.identity.faults log d q, carried_dets s.identity.faults log d),
      );
      known_stable = λ d h. absurd (false≢true h);
      names_sender = λ d h. or_right _ _ (and_from _ _ h (eq-eqb me.0 me.0 refl));
    }

    left : (d : Det) → has_entry d log ≡ true → (b : Bool) → list_any (λ item. same_det d item.det) (batch_items s.identity.faults log) ≡ b
        → (b ≡ true) ⊎ ((log_knows_stable d log ≡ true) ⊎ (s.identity.faults < count_below s.identity.processes (λ q. log_knows_holder d q log)))
    left d has true is = inl refl
    left d has false is = inr (elim (left_out s.identity.faults log d (known_of log d) (grind arith) is) [
      | inl stable ↦ inl stable
      | inr many ↦ inr (subst (λ m. s.identity.faults < m) (len_counted s.identity.processes (known_of log d).holders (λ q h. k.holders d q h)) many)
    ])

    pub sends : (body : List ℕ) → node_send_fault s to ≡ None
        → IsStepOf position s here None (node_after_send s to body) (message_packet (message_name me (length s.memory.sent)) (next_message_packet position s to) ∷ []) (Send me to (length s.memory.sent) ∷ [])
    sends body legal =
        let low = below_from to.0 s.identity.processes (or_else_none _ _ _ (unless_up_none _ _ legal).1).0 in
        record {
          next = up_node (with_one_sent (up_view s));
          step = send_row (up_view s) to (next_message_packet position s to) low message_of_log refl refl (λ d has. left d has _ refl);
          represents = as_up (node_after_send s to body) _ refl (λ i. up_node (record { lane = s.lane; log = log_view log; floors = numbers s.floors; sent = sym (length-append s.memory.sent (record { to = to; send = length s.memory.sent; batch = items } ∷ [])) i; received = s.memory.received }));
        }

  pub delivers : (lane : ℕ) (name : MsgName) (at : ℕ) (items : List Item) → is_ascending (dets_of items) ≡ true → deliver_fault s lane name items ≡ None → HasLogSingleSlots log
      → IsStepOf position s here (Some (message_packet name (message_with lane me at name items))) (node_after_delivery s name items) [] (Deliver me at (length s.memory.received) (with_own (det_from me (length s.memory.received) name) (dets_of items)) ∷ [])
  delivers lane name at items ascending legal single =
      let own = det_from me (length s.memory.received) name in
      let process = or_else_none _ _ _ (unless_up_none _ _ legal).1 in
      let floor = or_else_none _ _ _ process.1 in
      let once = or_else_none _ _ _ floor.1 in
      record {
        next = up_node (theory.up_after_delivery me.0 name (with_own own (dets_of items)) (message_with lane me at name items).parcel (up_view s));
        step = deliver_row (up_view s) name (message_with lane me at name items) at (with_own own (dets_of items)) (with_ascending own (dets_of items) ascending) refl
            (not_below lane (floor_of s.floors name.source) floor.0) refl (sym (k.received name) ∙ once.0)
            (λ d has mine slot. named_only me s.memory name single d has mine slot _ _ once.1)
            (λ d. own_have own (dets_of items) d ∙ ap (λ b. same_det d own || b) (items_have items d));
        represents = as_up (node_after_delivery s name items) _ refl (λ i. up_node (record { lane = s.lane; log = sym (delivered items own log at) i; floors = numbers s.floors; sent = length s.memory.sent; received = s.memory.received ++ name ∷ [] }));
      }

  pub writes : (dets : List Det) → ((d : Det) → list_has dets d ≡ true → has_entry d log ≡ true)
      → IsStepOf position s here None s (write_packet (write_of s dets) ∷ []) []
  writes dets logged = record {
    next = here;
    step = write_row (up_view s) (write_of s dets) (record {
      from = refl;
      lane = refl;
      logged = logged;
      known_holders = λ d q h. let both = and_parts _ _ h in (both.1, both.0);
      known_stable = λ d h. absurd (false≢true h);
      names_sender = λ d h. and_from _ _ h (k.own d (logged d h));
    }) refl refl;
    represents = as_up s _ refl refl;
  }

  pub marks : (dets : Det → Bool) (det : Det) → dets det ≡ true
      → IsStepOf position s here (Some (written_packet dets)) (node_after_stored s det s.recovery) [] (Stable det ∷ [])
  marks dets det has = subst (λ (o : Recovery). IsStepOf position s here (Some (written_packet dets)) (node_after_stored s det o) [] (Stable det ∷ [])) (sym up) (record {
    next = up_node (with_node_log (up_view s) (log_after_mark det (log_view log)));
    step = mark_row (up_view s) dets det has;
    represents = as_up (node_after_stored s det None) _ refl (λ i. up_node (record { lane = s.lane; log = sym (marked log det) i; floors = numbers s.floors; sent = length s.memory.sent; received = s.memory.received }));
  })

  -- the whole log
  log_of_node : (to : ℕ) → IsOfNodeLog me.0 (up_view s) (log_packet me.0 s.lane to log)
  log_of_node to = record { from = refl; lane = refl; logged = λ d h. h; known_holders = λ d q h. (h, entry_of_holder log d q h); known_stable = λ d h. h; names_sender = k.own }

  pub answers : (asker : Pid) (name : ℕ) (view : List ℕ) → answer_fault s asker view ≡ None → round_reply s view ≡ Replies.Log
      → IsStepOf position s here (Some (question_packet asker.0 name (numbers view))) (node_after_answer s view) (answer_packet name (log_packet me.0 s.lane asker.0 log) ∷ []) []
  answers asker name view legal reply =
      let knows = (replies_log (knows_number s view) s.recovery reply).0 in
      let after : node_after_answer s view ≡ with_floors s (raised_floors s.floors view) = λ i. if knows i then after_answer_at s view (up i) else s in
      let size : length view ≡ s.identity.processes = eqb-true _ _ (not-false _ (or_else_none _ _ _ (or_else_none _ _ _ legal).1).0) in
      subst (λ (t : NodeState). IsStepOf position s here (Some (question_packet asker.0 name (numbers view))) t (answer_packet name (log_packet me.0 s.lane asker.0 log) ∷ []) []) (sym after) (record {
        next = up_node (theory.with_floors (up_view s) (theory.raised (numbers s.floors) (numbers view)));
        step = answer_row (up_view s) asker.0 name (numbers view) (log_packet me.0 s.lane asker.0 log) (eqb-true _ _ knows) (log_of_node asker.0) refl refl (λ d. refl);
        represents = as_up (with_floors s (raised_floors s.floors view)) _ refl (λ i. up_node (record { lane = s.lane; log = log_view log; floors = λ q. sym (raised_numbers s.floors view (k.floors ∙ sym size) q) i; sent = length s.memory.sent; received = s.memory.received }));
      })

  pub acknowledges : (to : Pid) (dets : List Det) → IsStepOf position s here None s (acknowledgement_packet (acknowledgement_of s to dets) ∷ []) []
  acknowledges to dets = record {
    next = here;
    step = acknowledge_row (up_view s) (acknowledgement_of s to dets) (record {
      from = refl;
      lane = refl;
      logged = λ d h. (and_parts (list_has dets d) (has_entry d log) (sym (acknowledged_dets log dets d) ∙ h)).1;
      known_holders = λ d q h. (grind (arith, acknowledged_holders log dets d q), grind (arith, acknowledged_holders log dets d q, acknowledged_dets log dets d));
      known_stable = λ d h. absurd (false≢true h);
      names_sender = λ d h. grind (arith, acknowledged_dets log dets d, acknowledged_holders log dets d me.0, k.own d);
    }) refl;
    represents = as_up s _ refl refl;
  }

  pub learns : (lane : ℕ) (from : Pid) (items : List Item) → learn_fault s lane from ≡ None
      → IsStepOf position s here (Some (acknowledgement_packet (acknowledgement_with from lane me items))) (after_acknowledgement s items) [] []
  learns lane from items legal =
      let floor = or_else_none _ _ _ (or_else_none _ _ _ (unless_up_none _ _ legal).1).1 in
      let t = acknowledgement_with from lane me items in
      record {
        next = up_node (with_node_log (up_view s) (log_after_acknowledgement t.parcel (log_view log)));
        step = learn_row (up_view s) t refl (not_below lane (floor_of s.floors from) floor.0);
        represents = as_up (after_acknowledgement s items) _ refl (λ i. up_node (record { lane = s.lane; log = sym (learned log items t.parcel (λ d q. refl)) i; floors = numbers s.floors; sent = length s.memory.sent; received = s.memory.received }));
      }

  -- a forgetting of nothing is no step
  pub forgets : IsStepOf position s here None (node_after_forget s) [] (forget_entries me (forgotten_in (next_slot s) log)) ⊎ IsNoStep here (node_after_forget s) [] (forget_entries me (forgotten_in (next_slot s) log))
  forgets = by (forgotten_in (next_slot s) log) refl
    where
      represented : (listed : List Det) → forgotten_in (next_slot s) log ≡ listed → Represents (node_after_forget s) (up_node (with_node_log (up_view s) (log_without listed (log_view log))))
      represented listed is = as_up (node_after_forget s) _ refl (λ i. up_node (record { lane = s.lane; log = (ap (λ ds. log_without ds (log_view log)) (sym is) ∙ sym (forgotten (next_slot s) log)) i; floors = numbers s.floors; sent = length s.memory.sent; received = s.memory.received }))

      by : (listed : List Det) → forgotten_in (next_slot s) log ≡ listed
          → IsStepOf position s here None (node_after_forget s) [] (forget_entries me listed) ⊎ IsNoStep here (node_after_forget s) [] (forget_entries me listed)
      by [] is = inr (record { silent = refl; unrecorded = refl; represents = represented [] is })
      by (d ∷ ds) is = inl (record {
        next = up_node (with_node_log (up_view s) (log_without (d ∷ ds) (log_view log)));
        step = forget_row (up_view s) (d ∷ ds) (sym (ap is_ascending is) ∙ forgotten_ascends (next_slot s) log)
            (λ x h. forgotten_stable (next_slot s) log x (ap (λ ys. list_has ys x) is ∙ h))
            (λ x h mine. forgotten_made (next_slot s) log x (ap (λ ys. list_has ys x) is ∙ h) mine);
        represents = represented (d ∷ ds) is;
      })
