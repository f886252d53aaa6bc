-- The calls of a node that recovers are steps of a process that is down, or give up a round.
use Rattle.std.proofs.Common.{ℕ, zero, suc, ◌≡◌, ◌∙◌, ◌==◌, ◌<◌, ◌≤◌, ◌+◌, Bool, true, false, not, ◌&&◌, ◌||◌, List, [], ◌∷◌, max, Option, Some, None, inl, inr, replicate, refl, sym, ap, subst, arith}
use Rattle.std.specs.Prelude.{◌⊎◌, nat_lt, if◌then◌else◌}
use Rattle.std.specs.Cmp.{nat_cmp_total}
use Rattle.std.specs.Ordering.{nat_cmp}
use Rattle.std.specs.FinMap as fin
use Rattle.std.specs.FinSet as set
use Rattle.std.proofs.lemmas.Bool.{false≢true, or_cases, or_left, or_right, and_from, eqb-true, eq-eqb, ne_eqb, both_ways, ltb-true, not-false, or_parts}
use Rattle.std.proofs.lemmas.Bool.Decides.{eqb_tells}
use Rattle.causal_name.specs.declared.Pid.{Pid}
use Rattle.causal_name.specs.declared.MsgName.{MsgName}
use Rattle.causal_name.specs.declared.Det.{Det}
use Rattle.causal_name.proofs.Lemmas.DetOrder.{nat_ties}
use Rattle.causal_trace.specs.declared.entry.Entry.TheVariants.{Stable, Restart}
use Rattle.causal_trace.specs.Past.{list_has}
use Rattle.causal_log.specs.Knowledge.{stable_and_held_by}
use Rattle.causal_log.specs.Logs.{LogMap, after_learn}
use Rattle.causal_log.proofs.Lemmas.KnowledgeGrows.{united_logged, united_holders, united_stable}
use Rattle.causal_log.proofs.Lemmas.LogLists.{keys_logged}
use Rattle.causal_log.proofs.Lemmas.Ascents.{map_ascends}
use Rattle.causal_protocol.specs.MemoryQueries.{has_entry, log_knows_holder, log_knows_stable}
use Rattle.causal_rounds.specs.Rounds.{with_value_at}
use Rattle.causal_node.specs.declared.node_answer.RoundReply.TheVariants as Replies
use Rattle.causal_node.specs.declared.node.Identity.{Identity}
use Rattle.causal_node.specs.NodeStates.{NodeState, Recovery, RoundState, floor_of}
use Rattle.causal_node.specs.NodeRecovery.{ask_fault, node_restart_fault, new_round_state, with_recovery, map_round, with_log_of, without_awaited, after_not_up, after_number, raised_at, node_after_stored, node_after_read, after_restart_at, restart_log_of, opened_node, processes_below}
use Rattle.causal_node.specs.NodeAnswers.{answer_fault, node_after_answer, after_answer_at, knows_number, round_reply}
use Rattle.causal_nodes.specs.Node.{NodeRound, DownNode, Node, up_node, down_node}
use Rattle.causal_nodes.specs.Packets.{Sent, question_packet, answer_packet, not_up_packet, read_packet, stored_packet, number_packet}
use Rattle.causal_nodes.specs.NodeSteps.{hear_number_row, begin_row, not_up_row, give_up_row, hear_answer_row, hear_not_up_row, read_row, take_stored_row, hear_stored_row, restart_row, with_round, fallen_node, new_node_round, with_heard, round_with_stored}
use Rattle.causal_nodes.specs.NodeSteps as theory
use Rattle.causal_calls.specs.Views.{numbers, log_view, RepresentsAt, Represents, IsRoundOf, IsDownView, IsNodeState}
use Rattle.causal_calls.specs.Parcels.{log_packet}
use Rattle.causal_calls.specs.StepLaws.{IsStepOf, IsNoStep}
use Rattle.causal_calls.proofs.Lemmas.LogViews.{same_log, one_entry, one_holder, one_stable, one_holds, held_has, held_holder, held_stable}
use Rattle.causal_protocol.proofs.Lemmas.LogMembers.{none_entry, none_holds, none_stable, entry_of_holder}
use Rattle.causal_calls.proofs.Lemmas.Refusals.{or_else_none}
use Rattle.causal_calls.proofs.Lemmas.Numbers.{set_other, set_here, zeros}
use Rattle.causal_calls.proofs.Lemmas.Refusals.{not_below}
use Rattle.causal_calls.proofs.UpCalls.{replies_not_up}

-- the processes below n are those
pub is_below : (n q : ℕ) → q < n → set.contains (processes_below n) q ≡ true
unfolding processes_below
is_below zero q low = absurd (omega (arith, low))
is_below (suc n) q low = set.contains-insert nat_cmp_total (processes_below n) n q ∙ elim (eqb_tells q n) [
  | inl is ↦ or_left _ _ (sym (nat_ties q n) ∙ is.0)
  | inr other ↦ or_right _ _ (is_below n q (omega (arith, low, other.1)))
]

-- after one is not awaited any more
pub removed : (awaited : set.FinSet nat_cmp) (q p : ℕ) → set.contains (set.remove awaited q) p ≡ (not (p == q) && set.contains awaited p)
removed awaited q p = set.contains-remove nat_cmp_total awaited q p ∙ ap (λ b. not b && set.contains awaited p) (sym (nat_ties p q))

-- all others but one were awaited
pub still_awaited : (n me q : ℕ) → q < n → (q ≡ me → ⊥) → set.contains (set.remove (processes_below n) me) q ≡ true
still_awaited n me q low apart = removed (processes_below n) me q ∙ and_from _ _ (ap not (ne_eqb q me apart)) (is_below n q low)

-- nobody is awaited
pub awaits_none : (awaited : set.FinSet nat_cmp) → nat_lt 0 (set.len awaited) ≡ false → (q : ℕ) → set.contains awaited q ≡ false
awaits_none awaited none q = ap (λ s. set.contains s q) (set.empty_of_len awaited (omega (arith, not_below 0 (set.len awaited) none))) ∙ set.contains-empty nat_cmp q

-- a node that is opened after a crash
pub reopened : (who : Identity) (lane : ℕ) → Represents (opened_node who (lane + 1)) (down_node (fallen_node lane))
reopened who lane = subst (λ (b : Bool). RepresentsAt (opened_node who (lane + 1)) (if b then None else Some None) (down_node (fallen_node lane))) (sym (ne_eqb (lane + 1) 0 (λ e. omega (arith, e)))) (
  fallen_node lane,
  refl,
  record {
    lane = refl;
    told = λ q apart. omega (arith, set_other (replicate who.processes 0) who.me.0 (lane + 1) q apart, zeros who.processes q);
    round = tt;
  },
)

module _ (position : ℕ) (s : NodeState) (k : IsNodeState s) where
  abbrev me : Pid
  me = s.identity.me

  abbrev n : ℕ
  n = s.identity.processes

  module _ (round : Option RoundState) (down : s.recovery ≡ Some round) (x : DownNode) (is_down : IsDownView s round x) where
    abbrev here : Node
    here = down_node x

    -- a state in a round represents the process in that round
    in_round : (recovery : Recovery) (r : RoundState) (next : NodeRound) → IsRoundOf s r next → RepresentsAt (with_recovery s recovery) (Some (Some r)) (down_node (with_round x (Some next)))
    in_round recovery r next is = (with_round x (Some next), refl, record { lane = is_down.lane; told = is_down.told; round = (next, refl, assumption) })

    pub begins : (name : ℕ) → IsStepOf position s here None (with_recovery s (Some (Some (new_round_state s.identity name)))) (question_packet me.0 name (numbers s.floors) ∷ []) []
    begins name = record {
      next = down_node (with_round x (Some (new_node_round name (numbers s.floors))));
      step = begin_row x name (numbers s.floors) (k.own_floor ∙ is_down.lane) is_down.told;
      represents = in_round (Some (Some (new_round_state s.identity name))) (new_round_state s.identity name) (new_node_round name (numbers s.floors)) (record {
        name = refl;
        view = refl;
        heard = λ q low apart gone. absurd (both_ways _ gone (still_awaited n me.0 q low apart));
        read = λ h. absurd (false≢true h);
        has = λ d. sym (none_entry d);
        holder = λ d q apart. sym (none_holds d q);
        own = λ d h. absurd (false≢true h);
        stable = λ d. sym (none_stable d);
      });
    }

    pub says_not_up : (asker : Pid) (name : ℕ) (view : List ℕ) → answer_fault s asker view ≡ None → round_reply s view ≡ Replies.NotUp
        → IsStepOf position s here (Some (question_packet asker.0 name (numbers view))) (node_after_answer s view) (not_up_packet me.0 asker.0 name ∷ []) []
    says_not_up asker name view legal reply =
        let knows = (replies_not_up (knows_number s view) s.recovery reply).0 in
        let apart : asker.0 ≡ me.0 → ⊥ = λ e. both_ways _ (or_else_none _ _ _ legal).0 (or_right _ _ (eq-eqb asker.0 me.0 e)) in
        let after : node_after_answer s view ≡ with_recovery s (Some None) = λ i. if knows i then after_answer_at s view (down i) else s in
        subst (λ (t : NodeState). IsStepOf position s here (Some (question_packet asker.0 name (numbers view))) t (not_up_packet me.0 asker.0 name ∷ []) []) (sym after) (record {
          next = down_node (with_round x None);
          step = not_up_row x asker.0 name (numbers view) apart (eqb-true _ _ knows ∙ is_down.lane);
          represents = (with_round x None, refl, record { lane = is_down.lane; told = is_down.told; round = tt });
        })

    floors_after : (q : Pid) (number p : ℕ) → ((p ≡ q.0) × (numbers (raised_at s.floors q number) p ≤ max number (numbers s.floors q.0))) ⊎ ((p ≡ q.0 → ⊥) × (numbers (raised_at s.floors q number) p ≡ numbers s.floors p))
    floors_after q number p = elim (eqb_tells p q.0) [
      | inl same ↦ inl (same.1, grind (arith, set_here, same.1))
      | inr other ↦ inr (other.1, grind (arith, set_other s.floors q.0 (max number (floor_of s.floors q)) p other.1))
    ]

    -- a number is heard, or is not above what was heard before
    pub hears_number : (q : Pid) (number : ℕ) → (q.0 ≡ me.0 → ⊥) → IsStepOf position s here (Some (number_packet q.0 number)) (after_number s q number) [] [] ⊎ IsNoStep here (after_number s q number) [] []
    hears_number q number apart = by (nat_lt number (numbers s.floors q.0)) refl
      where
        lowered : (told : ℕ → ℕ) → ((p : ℕ) → (p ≡ me.0 → ⊥) → numbers (raised_at s.floors q number) p ≤ told p) → Represents (after_number s q number) (down_node (record x { told = told }))
        lowered told low = (record x { told = told }, refl, record { lane = is_down.lane; told = low; round = tt })

        by : (b : Bool) → nat_lt number (numbers s.floors q.0) ≡ b → IsStepOf position s here (Some (number_packet q.0 number)) (after_number s q number) [] [] ⊎ IsNoStep here (after_number s q number) [] []
        by true lower = inr (record {
          silent = refl;
          unrecorded = refl;
          represents = lowered x.told (λ p other. elim (floors_after q number p) [
            | inl same ↦ subst (λ m. numbers (raised_at s.floors q number) p ≤ x.told m) (sym same.0) (omega (arith, same.1, is_down.told q.0 apart, ltb-true number (numbers s.floors q.0) lower))
            | inr elsewhere ↦ subst (λ m. m ≤ x.told p) (sym elsewhere.1) (is_down.told p other)
          ]);
        })
        by false higher = inl (record {
          next = down_node (record x { told = with_value_at x.told q.0 number });
          step = hear_number_row x q.0 number;
          represents = lowered (with_value_at x.told q.0 number) (λ p other. elim (floors_after q number p) [
            | inl same ↦ subst (λ (b : Bool). numbers (raised_at s.floors q number) p ≤ (if b then number else x.told p)) (sym (eq-eqb p q.0 same.0)) (omega (arith, same.1, not_below number (numbers s.floors q.0) higher))
            | inr elsewhere ↦ subst (λ (b : Bool). numbers (raised_at s.floors q number) p ≤ (if b then number else x.told p)) (sym (ne_eqb p q.0 elsewhere.0)) (omega (arith, elsewhere.1, is_down.told p other))
          ]);
        })

    pub opens_again : IsStepOf position s here None (opened_node s.identity s.lane) [] []
    opens_again = record {
      next = down_node (fallen_node x.lane);
      step = give_up_row x;
      represents = subst (λ m. Represents (opened_node s.identity m) (down_node (fallen_node x.lane))) (sym is_down.lane) (reopened s.identity x.lane);
    }

  module _ (r : RoundState) (gathers : s.recovery ≡ Some (Some r)) (x : DownNode) (is_down : IsDownView s (Some r) x) where
    abbrev there : Node
    there = down_node x

    abbrev y : NodeRound
    y = is_down.round.0

    abbrev fits : IsRoundOf s r y
    fits = is_down.round.2

    -- a state with a changed round represents the process with a changed round
    as_round : (change : RoundState → RoundState) (next : NodeRound) → IsRoundOf s (change r) next → Represents (with_recovery s (map_round change s.recovery)) (down_node (with_round x (Some next)))
    as_round change next is = subst (λ o. RepresentsAt (with_recovery s (map_round change s.recovery)) (map_round change o) (down_node (with_round x (Some next)))) (sym gathers) (in_round (Some r) gathers x is_down _ (change r) next is)

    -- one reply more
    round_heard : (q : ℕ) (awaited : set.FinSet nat_cmp) (read : Bool) → ((p : ℕ) → p < n → (p ≡ me.0 → ⊥) → set.contains awaited p ≡ false → with_value_at y.heard q true p ≡ true) → (read ≡ true → with_value_at y.heard q true n ≡ true)
        → IsRoundOf s (record r { awaited = awaited; read = read }) (with_heard q y)
    round_heard q awaited read heard done = assumption fits

    pub takes_log : (name lane : ℕ) (q : Pid) (log : LogMap) → r.name ≡ name
        → IsStepOf position s there (Some (answer_packet name (log_packet q.0 lane me.0 log))) (with_recovery s (map_round (λ r. with_log_of r q.0 log) s.recovery)) [] []
    takes_log name lane q log named = subst (λ (m : ℕ). IsStepOf position s there (Some (answer_packet m (log_packet q.0 lane me.0 log))) (with_recovery s (map_round (λ r. with_log_of r q.0 log) s.recovery)) [] []) (fits.name ∙ named) (record {
      next = down_node (with_round x (Some (theory.after_answer q.0 (log_packet q.0 lane me.0 log).parcel y)));
      step = hear_answer_row x y (log_packet q.0 lane me.0 log) is_down.round.1 refl;
      represents = as_round (λ r. with_log_of r q.0 log) (theory.after_answer q.0 (log_packet q.0 lane me.0 log).parcel y) (record {
        name = fits.name;
        view = fits.view;
        heard = λ p low apart gone. grind (arith, removed r.awaited q.0 p, fits.heard p low apart);
        read = λ h. grind (arith, fits.read h);
        has = λ d. ap (λ b. b || has_entry d log) (fits.has d) ∙ sym (united_logged r.log log d);
        holder = λ d p apart. ap (λ b. b || log_knows_holder d p log) (fits.holder d p apart) ∙ sym (united_holders r.log log d p);
        own = λ d h. elim (or_cases _ _ h) [ inl old ↦ or_left _ _ (fits.own d old) | inr new ↦ or_right _ _ (entry_of_holder log d me.0 new) ];
        stable = λ d. ap (λ b. b || log_knows_stable d log) (fits.stable d) ∙ sym (united_stable r.log log d);
      });
    })

    pub takes_not_up : (name : ℕ) (q : Pid) → r.name ≡ name
        → IsStepOf position s there (Some (not_up_packet q.0 me.0 name)) (after_not_up s q (floor_of s.floors q)) [] []
    takes_not_up name q named =
        let after : with_recovery s (map_round (λ r. without_awaited r q.0) s.recovery) ≡ after_not_up s q (floor_of s.floors q) =
        λ i. if sym (eq-eqb (floor_of s.floors q) (floor_of s.floors q) refl) i then with_recovery s (map_round (λ r. without_awaited r q.0) s.recovery) else after_number s q (floor_of s.floors q)
        in
        subst (λ (t : NodeState). IsStepOf position s there (Some (not_up_packet q.0 me.0 name)) t [] []) after
        (subst (λ (m : ℕ). IsStepOf position s there (Some (not_up_packet q.0 me.0 m)) (with_recovery s (map_round (λ r. without_awaited r q.0) s.recovery)) [] []) (fits.name ∙ named) (record {
          next = down_node (with_round x (Some (with_heard q.0 y)));
          step = hear_not_up_row x y q.0 is_down.round.1;
          represents = as_round (λ r. without_awaited r q.0) (with_heard q.0 y)
              (round_heard q.0 _ r.read (λ p low apart gone. grind (arith, removed r.awaited q.0 p, fits.heard p low apart)) (λ h. grind (arith, fits.read h)));
        }))

    all_heard : nat_lt 0 (set.len r.awaited) ≡ false → (q : ℕ) → q < n → (q ≡ me.0 → ⊥) → y.heard q ≡ true
    all_heard none q low apart = fits.heard q low apart (awaits_none r.awaited none q)

    pub asks_storage : ask_fault s.recovery ≡ None → IsStepOf position s there None s (read_packet me.0 r.name (numbers s.floors) ∷ []) []
    asks_storage legal = subst (λ (k : Sent). IsStepOf position s there None s (k ∷ []) []) (λ i. read_packet me.0 (fits.name i) (fits.view i)) (record {
      next = there;
      step = read_row x y is_down.round.1 (all_heard (or_else_none _ _ None (sym (ap ask_fault gathers) ∙ legal)).0);
      represents = subst (λ o. RepresentsAt s o there) (sym gathers) (x, refl, is_down);
    })

    pub takes_stored : (dets : Det → Bool) (det : Det) → dets det ≡ true
        → IsStepOf position s there (Some (stored_packet me.0 r.name dets)) (node_after_stored s det s.recovery) [] (Stable det ∷ [])
    takes_stored dets det has = subst (λ (m : ℕ). IsStepOf position s there (Some (stored_packet me.0 m dets)) (node_after_stored s det s.recovery) [] (Stable det ∷ [])) fits.name
        (subst (λ (o : Recovery). IsStepOf position s there (Some (stored_packet me.0 y.name dets)) (node_after_stored s det o) [] (Stable det ∷ [])) (sym gathers) (record {
          next = down_node (with_round x (Some (round_with_stored det y)));
          step = take_stored_row x y dets det is_down.round.1 has;
          represents = in_round (Some r) gathers x is_down _ (record r { log = after_learn r.log det (stable_and_held_by me) }) (round_with_stored det y) (record {
            name = fits.name;
            view = fits.view;
            heard = fits.heard;
            read = fits.read;
            has = λ d. grind (arith, fits.has d, one_entry r.log det (stable_and_held_by me) d);
            holder = λ d q apart. grind (arith, fits.holder d q apart, ne_eqb q me.0 apart, one_holds me.0 q, one_holder r.log det (stable_and_held_by me) d q);
            own = λ d h. or_left _ _ (fits.own d h);
            stable = λ d. grind (arith, fits.stable d, one_stable r.log det (stable_and_held_by me) d);
          });
        }))

    pub finishes : (dets : Det → Bool) → ((d : Det) → dets d ≡ true → has_entry d r.log ≡ true)
        → IsStepOf position s there (Some (stored_packet me.0 r.name dets)) (with_recovery s (map_round node_after_read s.recovery)) [] []
    finishes dets all = subst (λ (m : ℕ). IsStepOf position s there (Some (stored_packet me.0 m dets)) (with_recovery s (map_round node_after_read s.recovery)) [] []) fits.name (record {
      next = down_node (with_round x (Some (with_heard n y)));
      step = hear_stored_row x y dets is_down.round.1 (λ d h. fits.has d ∙ all d h);
      represents = as_round node_after_read (with_heard n y) (round_heard n r.awaited true (λ p low apart gone. grind (arith, fits.heard p low apart gone)) (λ h. grind (arith, eq-eqb n n refl)));
    })

    -- the log of a restart is the theory's
    restarted_has : (d : Det) → has_entry d (restart_log_of me r.log) ≡ has_entry d r.log
    restarted_has d = grind (arith, held_has me d (fin.keys r.log) r.log, keys_logged r.log d)

    listed_is : (d : Det) → list_has (fin.keys (restart_log_of me r.log)) d ≡ has_entry d r.log
    listed_is d = keys_logged (restart_log_of me r.log) d ∙ restarted_has d

    restarted_holder : (d : Det) (q : ℕ) → log_knows_holder d q (restart_log_of me r.log) ≡ ((y.gathered.has d && q == me.0) || y.gathered.holder d q)
    restarted_holder d q = grind (arith, held_holder me d q (fin.keys r.log) r.log, keys_logged r.log d, fits.has d, fits.holder d q, fits.own d, entry_of_holder r.log d q, eqb_tells q me.0)

    restarted_log : (theory.up_after_restart me.0 (x.lane + 1) y).log ≡ log_view (restart_log_of me r.log)
    restarted_log = same_log _ _ (λ d. fits.has d ∙ sym (restarted_has d)) (λ d q. sym (restarted_holder d q)) (λ d. fits.stable d ∙ sym (held_stable me d (fin.keys r.log) r.log))

    pub restarts : (reserved : List MsgName) → node_restart_fault s.recovery ≡ None
        → IsStepOf position s there None (after_restart_at s s.recovery reserved) [] (Restart me (fin.keys (after_restart_at s s.recovery reserved).memory.log) ∷ [])
    restarts reserved legal =
        let done = or_else_none _ _ None (sym (ap node_restart_fault gathers) ∙ legal) in
        let none = (or_parts _ _ done.0).0 in
        let read = not-false _ (or_parts _ _ done.0).1 in
        subst (λ (o : Recovery). IsStepOf position s there None (after_restart_at s o reserved) [] (Restart me (fin.keys (after_restart_at s o reserved).memory.log) ∷ [])) (sym gathers) (record {
          next = up_node (theory.up_after_restart me.0 (x.lane + 1) y);
          step = restart_row x y (fin.keys (restart_log_of me r.log)) (map_ascends (restart_log_of me r.log)) is_down.round.1 (λ q low apart. by q low apart none read (eqb_tells q n)) (λ d. listed_is d ∙ sym (fits.has d));
          represents = λ i. up_node (record { lane = sym is_down.lane i; log = restarted_log i; floors = fits.view i; sent = 0; received = [] });
        })
      where
        by : (q : ℕ) → q < suc n → (q ≡ me.0 → ⊥) → nat_lt 0 (set.len r.awaited) ≡ false → r.read ≡ true → ((q == n ≡ true) × (q ≡ n)) ⊎ ((q == n ≡ false) × (q ≡ n → ⊥)) → y.heard q ≡ true
        by q low apart none read (inl is) = ap y.heard is.1 ∙ fits.read read
        by q low apart none read (inr other) = all_heard none q (omega (arith, low, other.1)) apart
