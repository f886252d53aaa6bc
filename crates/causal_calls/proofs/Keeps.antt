-- Each call of a node keeps what is true of its states, and what it sends names only processes.
use Rattle.std.proofs.Common.{ℕ, ◌≡◌, ◌∙◌, ◌==◌, Bool, true, false, not, ◌&&◌, ◌||◌, List, [], ◌∷◌, length, max, Some, None, inl, inr, refl, sym, ap, subst, arith}
use Rattle.std.specs.Prelude.{nat_lt, if◌then◌else◌, slice_set}
use Rattle.std.specs.List.{list_any}
use Rattle.std.specs.FinMap as fin
use Rattle.std.specs.FinSet as set
use Rattle.std.proofs.Math.Bool.{or-false}
use Rattle.std.proofs.lemmas.Bool.{or_cases, or_right, and_parts, eqb-true, eq-eqb, both_ways, not-false}
use Rattle.std.proofs.lemmas.List.{length-set}
use Rattle.std.proofs.lemmas.List.Folds.{list_any-append}
use Rattle.causal_name.specs.declared.Pid.{Pid}
use Rattle.causal_name.specs.declared.MsgName.{MsgName}
use Rattle.causal_name.specs.declared.Det.{Det}
use Rattle.causal_name.specs.Names.{same_message}
use Rattle.causal_trace.specs.Past.{det_from}
use Rattle.causal_log.specs.declared.batch.Item.{Item}
use Rattle.causal_log.specs.Knowledge.{stable_and_held_by}
use Rattle.causal_log.specs.Logs.{LogMap, after_mark, after_learn, after_forget as log_after_forget}
use Rattle.causal_log.proofs.Lemmas.KnowledgeGrows.{united_holders}
use Rattle.causal_log.proofs.Lemmas.LogLists.{keys_logged}
use Rattle.causal_protocol.specs.MemoryQueries.{has_entry, log_knows_holder}
use Rattle.causal_protocol.specs.Memory.{with_log}
use Rattle.causal_node.specs.NodeStates.{NodeState, Recovery, RoundState, floor_of, with_memory}
use Rattle.causal_node.specs.NodeSteps.{node_after_delivery}
use Rattle.causal_node.specs.NodeRecovery.{new_round_state, with_recovery, map_round, with_log_of, without_awaited, after_not_up, after_number, node_after_stored, node_after_read, after_restart_at, processes_below}
use Rattle.causal_node.specs.NodeAcknowledgements.{log_with_holders, after_acknowledgement}
use Rattle.causal_node.specs.NodeForgetting.{next_slot, node_after_forget}
use Rattle.causal_node.specs.NodeAnswers.{answer_fault, node_after_answer, after_answer_at, knows_number}
use Rattle.causal_nodes.specs.Node.{NodeLog}
use Rattle.causal_nodes.specs.Packets.{message_packet, acknowledgement_packet}
use Rattle.causal_calls.specs.Views.{numbers, HasHoldersBelow, IsNodeState, IsRecoveryState}
use Rattle.causal_calls.specs.Parcels.{message_with, acknowledgement_with}
use Rattle.causal_calls.specs.StepLaws.{NamesProcesses}
use Rattle.causal_calls.proofs.Lemmas.LogViews.{delivered_has, delivered_holder, marked, one_holder, one_holds, held_has, held_holder}
use Rattle.causal_protocol.proofs.Lemmas.LogMembers.{none_holds}
use Rattle.causal_calls.proofs.Lemmas.LogChanges.{learned, forgotten}
use Rattle.causal_calls.proofs.Lemmas.Refusals.{or_else_none}
use Rattle.causal_calls.proofs.Lemmas.Numbers.{set_other, raised_numbers, raised_length}
use Rattle.causal_calls.proofs.Names.{has_names, inserted_name}
use Rattle.causal_calls.proofs.DownCalls.{removed}

-- a view that is answered has a number for each process
sized : (s : NodeState) (asker : Pid) (view : List ℕ) → answer_fault s asker view ≡ None → s.identity.processes ≡ length view
sized s asker view legal = sym (eqb-true _ _ (not-false _ (or_else_none _ _ _ (or_else_none _ _ _ legal).1).0))

module _ (s : NodeState) (k : IsNodeState s) where
  abbrev me : Pid
  me = s.identity.me

  abbrev n : ℕ
  n = s.identity.processes

  -- the same floors, log and received names
  pub with_other : (recovery : Recovery) → IsRecoveryState s.identity recovery → IsNodeState (with_recovery s recovery)
  with_other recovery is = record { process = k.process; floors = k.floors; own_floor = k.own_floor; holders = k.holders; own = k.own; received = k.received; recovery = is }

  -- other floors
  with_floors : (floors : List ℕ) (recovery : Recovery) → length floors ≡ n → numbers floors me.0 ≡ s.lane → IsRecoveryState s.identity recovery → IsNodeState (record s { floors = floors; recovery = recovery })
  with_floors floors recovery size own is = assumption

  pub delivered : (lane : ℕ) (name : MsgName) (at : ℕ) (items : List Item) → NamesProcesses n (message_packet name (message_with lane me at name items)) → IsNodeState (node_after_delivery s name items)
  delivered lane name at items names =
      let own = det_from me (length s.memory.received) name in
      record {
        process = k.process;
        floors = k.floors;
        own_floor = k.own_floor;
        holders = λ d q h. grind (arith, delivered_holder items own s.memory.log d q, names (message_with lane me at name items) refl d q, eqb-true q me.0, k.process, k.holders d q);
        own = λ d h. grind (arith, delivered_holder items own s.memory.log d me.0, delivered_has items own s.memory.log d, eq-eqb me.0 me.0 refl, k.own d);
        received = λ m. has_names _ m ∙ inserted_name s.received_names name m ∙ ap (λ b. b || same_message m name) (sym (has_names s.received_names m) ∙ k.received m)
            ∙ sym (list_any-append (same_message m) s.memory.received (name ∷ []) ∙ ap (λ b. list_any (same_message m) s.memory.received || b) (or-false (same_message m name)));
        recovery = k.recovery;
      }

  -- a state with another log, in which the process is a holder of what it logs
  with_other_log : (change : LogMap → LogMap) → HasHoldersBelow n (change s.memory.log)
      → ((d : Det) → has_entry d (change s.memory.log) ≡ true → log_knows_holder d me.0 (change s.memory.log) ≡ true) → IsNodeState (with_memory s (with_log change s.memory) s.bodies)
  with_other_log change holders own = record { process = k.process; floors = k.floors; own_floor = k.own_floor; holders = holders; own = own; received = k.received; recovery = k.recovery }

  pub marked_stable : (det : Det) → s.recovery ≡ None → IsNodeState (node_after_stored s det s.recovery)
  marked_stable det up =
      let is = marked s.memory.log det in
      subst (λ (o : Recovery). IsNodeState (node_after_stored s det o)) (sym up) (with_other_log (λ log. after_mark log det)
      (λ d q h. k.holders d q (sym (ap (λ (x : NodeLog). x.holder d q) is) ∙ h))
      (λ d h. ap (λ (x : NodeLog). x.holder d me.0) is ∙ k.own d (sym (ap (λ (x : NodeLog). x.has d) is) ∙ h)))

  pub acknowledged : (lane : ℕ) (from : Pid) (items : List Item) → NamesProcesses n (acknowledgement_packet (acknowledgement_with from lane me items)) → IsNodeState (after_acknowledgement s items)
  acknowledged lane from items names =
      let log = s.memory.log in
      let is = learned log items (acknowledgement_with from lane me items).parcel (λ d q. refl) in
      with_other_log (log_with_holders items)
      (λ d q h. grind (arith, ap (λ (x : NodeLog). x.holder d q) is, names (acknowledgement_with from lane me items) refl d q, k.holders d q))
      (λ d h. ap (λ (x : NodeLog). x.holder d me.0) is ∙ or_right _ _ (k.own d (sym (ap (λ (x : NodeLog). x.has d) is) ∙ h)))

  pub forgot : IsNodeState (node_after_forget s)
  forgot =
      let log = s.memory.log in
      let next = next_slot s in
      let is = forgotten next log in
      with_other_log (log_after_forget next)
      (λ d q h. k.holders d q (and_parts _ _ (sym (ap (λ (x : NodeLog). x.holder d q) is) ∙ h)).1)
      (λ d h. grind (arith, ap (λ (x : NodeLog). x.has d) is, ap (λ (x : NodeLog). x.holder d me.0) is, k.own d))

  pub answered : (asker : Pid) (view : List ℕ) → answer_fault s asker view ≡ None → IsNodeState (node_after_answer s view)
  answered asker view legal = by (knows_number s view) refl
    where
      size : length s.floors ≡ length view
      size = k.floors ∙ sized s asker view legal

      at_recovery : floor_of view me ≡ s.lane → (o : Recovery) → IsRecoveryState s.identity s.recovery → IsNodeState (after_answer_at s view o)
      at_recovery same None is = with_floors _ s.recovery (raised_length s.floors view size ∙ k.floors) (omega (arith, raised_numbers s.floors view size me.0, k.own_floor, same)) is
      at_recovery same (Some r) is = with_other (Some None) tt

      by : (b : Bool) → knows_number s view ≡ b → IsNodeState (if b then after_answer_at s view s.recovery else s)
      by true is = at_recovery (eqb-true _ _ is) s.recovery k.recovery
      by false is = k

  pub begun : (name : ℕ) → IsNodeState (with_recovery s (Some (Some (new_round_state s.identity name))))
  begun name = with_other (Some (Some (new_round_state s.identity name))) (λ d q h. absurd (both_ways _ (none_holds d q) h), removed (processes_below n) me.0 me.0 ∙ ap (λ b. not b && set.contains (processes_below n) me.0) (eq-eqb me.0 me.0 refl))

  module _ (r : RoundState) (gathers : s.recovery ≡ Some (Some r)) where
    pub kept : IsRecoveryState s.identity (Some (Some r))
    kept = subst (λ o. IsRecoveryState s.identity o) gathers k.recovery

    pub changed : (change : RoundState → RoundState) → IsRecoveryState s.identity (Some (Some (change r))) → IsNodeState (with_recovery s (map_round change s.recovery))
    changed change is = with_other (map_round change s.recovery) (subst (λ o. IsRecoveryState s.identity (map_round change o)) (sym gathers) is)

    not_mine : (q : ℕ) → set.contains (set.remove r.awaited q) me.0 ≡ false
    not_mine q = grind (arith, removed r.awaited q me.0, kept.1)

    pub log_taken : (q : Pid) (log : LogMap) → HasHoldersBelow n log → IsNodeState (with_recovery s (map_round (λ r. with_log_of r q.0 log) s.recovery))
    log_taken q log names = changed (λ r. with_log_of r q.0 log) (λ d p h. elim (or_cases _ _ (sym (united_holders r.log log d p) ∙ h)) [ inl old ↦ kept.0 d p old | inr new ↦ names d p new ], not_mine q.0)

    -- a reply that is awaited is of another process
    pub apart : (q : Pid) → set.contains r.awaited q.0 ≡ true → q.0 ≡ me.0 → ⊥
    apart q awaited is = both_ways _ kept.1 (ap (set.contains r.awaited) (sym is) ∙ awaited)

    number_floors : (q : Pid) (number : ℕ) → (q.0 ≡ me.0 → ⊥) → (b : Bool) → IsNodeState (record s { floors = if b then slice_set s.floors q.0 (max number (floor_of s.floors q)) else s.floors; recovery = Some None })
    number_floors q number other true = with_floors _ (Some None) (length-set s.floors q.0 _ ∙ k.floors) (set_other s.floors q.0 _ me.0 (λ e. other (sym e)) ∙ k.own_floor) tt
    number_floors q number other false = with_floors s.floors (Some None) k.floors k.own_floor tt

    pub number_taken : (q : Pid) (number : ℕ) → set.contains r.awaited q.0 ≡ true → IsNodeState (after_number s q number)
    number_taken q number awaited = number_floors q number (apart q awaited) (nat_lt q.0 (length s.floors))

    pub not_up_taken : (q : Pid) (number : ℕ) → set.contains r.awaited q.0 ≡ true → IsNodeState (after_not_up s q number)
    not_up_taken q number awaited = by (floor_of s.floors q == number)
      where
        by : (b : Bool) → IsNodeState (if b then with_recovery s (map_round (λ r. without_awaited r q.0) s.recovery) else after_number s q number)
        by true = changed (λ r. without_awaited r q.0) (kept.0, not_mine q.0)
        by false = number_taken q number awaited

    pub stored_taken : (det : Det) → IsNodeState (node_after_stored s det s.recovery)
    stored_taken det = subst (λ (o : Recovery). IsNodeState (node_after_stored s det o)) (sym gathers) (with_other (Some (Some (record r { log = after_learn r.log det (stable_and_held_by me) }))) (holds, kept.1))
      where
        holds : HasHoldersBelow n (after_learn r.log det (stable_and_held_by me))
        holds d q h = grind (arith, one_holder r.log det (stable_and_held_by me) d q, one_holds me.0 q, kept.0 d q, eqb-true q me.0, k.process)

    pub read_finished : IsNodeState (with_recovery s (map_round node_after_read s.recovery))
    read_finished = changed node_after_read kept

    pub restarted : (reserved : List MsgName) → IsNodeState (after_restart_at s s.recovery reserved)
    restarted reserved = subst (λ (o : Recovery). IsNodeState (after_restart_at s o reserved)) (sym gathers) (record {
      process = k.process;
      floors = k.floors;
      own_floor = k.own_floor;
      holders = λ d q h. grind (arith, held_holder me d q (fin.keys r.log) r.log, kept.0 d q, eqb-true q me.0, k.process);
      own = λ d h. grind (arith, held_holder me d me.0 (fin.keys r.log) r.log, held_has me d (fin.keys r.log) r.log, keys_logged r.log d, eq-eqb me.0 me.0 refl);
      received = λ m. refl;
      recovery = tt;
    })
