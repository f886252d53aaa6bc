-- A process that is up answers a question: of the present round for the first time, or of any round again.
use Rattle.std.proofs.Common.{ℕ, ◌≡◌, ◌<◌, ◌≤◌, inl, inr, Bool, true, false, ◌&&◌, ◌||◌, nat_lt, ◌∷◌, Some, None, refl, sym, ap, subst, ◌∙◌, arith}
use Rattle.std.specs.Prelude.{◌⊎◌, ◌==◌, max}
use Rattle.std.proofs.Math.Nat.{le-max_left, le-max_right, max-le}
use Rattle.std.proofs.lemmas.Bool.{both_ways, or_cases, and_parts, and_from, eq-eqb, eqb-true, cases_eq, cond-true, cases_Bool, true_from_ne_false}
use Rattle.causal_name.specs.declared.Pid.{Pid}
use Rattle.causal_name.specs.declared.Det.{Det}
use Rattle.causal_trace.specs.Past.{logs, is_stable}
use Rattle.causal_steps.proofs.Lemmas.Reachable.{reachable_safe}
use Rattle.causal_rounds.specs.Rounds.{with_value_at, Round, number, with_reply}
use Rattle.causal_rounds.proofs.Lemmas.RoundSteps.{set_at_cases, set_at_here, set_at_away, still_true}
use Rattle.causal_world.specs.World.{Packet, World, carrier_of, if_carries, volatile_of}
use Rattle.causal_world.specs.Steps as world
use Rattle.causal_world.specs.Reachable.{IsReachableWorld, next_world}
use Rattle.causal_nodes.specs.Node.{NodeRound, UpNode, DownNode, up_node, down_node}
use Rattle.causal_nodes.specs.Packets.{Sent, question_packet, answer_packet, WasSent, is_of_round}
use Rattle.causal_nodes.specs.NodeSteps.{IsOfNodeLog, raised, with_floors}
use Rattle.causal_nodes.specs.Network.{Network}
use Rattle.causal_nodes.proofs.Represents.{IsTold, IsToldBy, GatheringFits, UpFits, NodeFits, IsOutOf, is_in_round, Represents}
use Rattle.causal_nodes.proofs.Kept.{IsLater, IsUntouched, packets_and_one, gathering_later, node_kept, node_out_and_one, out_of_rest, out_of_each, gathering_more, round_in, nodes_and_one}
use Rattle.causal_nodes.proofs.Context.{floors_kept, IsWorldOf, invariant, up_of, down_of}
use Rattle.causal_nodes.proofs.Quiet.{gathering_of, gathers_still}
use Rattle.causal_nodes.proofs.Rounds.{le_self}
use Rattle.causal_nodes.proofs.Replied.{gathering_replied}
use Rattle.causal_nodes.proofs.Storing.{bounded, bounded_is, bounded_told}
use Rattle.causal_nodes.proofs.Emits.{with_packet, is_sent, still, free_after}

-- two answers that are equal have one packet
answers_are : (a b : ℕ) (p q : Packet) → answer_packet a p ≡ answer_packet b q → p ≡ q
answers_are a b p q e = cc

module _ (n f : ℕ) (net : Network) (w : World) (reach : IsReachableWorld n f w) (rep : Represents n net w) (me : Pid) (low : me.0 < n) (a : UpNode) (at_me : net.nodes me.0 ≡ up_node a) (new : Packet) (of_log : IsOfNodeLog me.0 a new) (s name : ℕ) (view : ℕ → ℕ)
    (was : WasSent net.sent (question_packet s name view)) (own : view me.0 ≡ a.lane) (to : new.to ≡ s) (no_message : new.parcel.send ≡ None) (whole : (d : Det) → new.parcel.carries d ≡ a.log.has d) where
  fits : UpFits n w me.0 a
  fits = up_of n f net w reach rep me.0 a low at_me

  question : (s < n) × IsTold n w view
  question = rep.packets (question_packet s name view) was

  abbrev reply : Sent
  reply = answer_packet name new

  abbrev node : UpNode
  node = with_floors a (raised a.floors view)

  abbrev after_step : Network
  after_step = record { past = net.past; nodes = with_value_at net.nodes me.0 (up_node node); sent = reply ∷ net.sent; stored = net.stored; floors = net.floors }

  -- the number of the answer in the world
  abbrev i : ℕ
  i = rep.free.0

  of_round_is : (q round : ℕ) → ((s == q) && (name == round)) ≡ false → is_of_round reply q round ≡ false
  of_round_is q round h = ap (λ z. (z == q) && (name == round)) to ∙ h

  not_of : (q : ℕ) → (q ≡ s → ⊥) → IsOutOf reply q (net.nodes q)
  not_of = out_of_rest reply s name net.nodes of_round_is

  true_marks : (d : Det) → new.parcel.names_stable d ≡ true → is_stable w.past d ≡ true
  true_marks d h = (reachable_safe n f w.past (volatile_of n w) (invariant n f net w reach rep).reached).facts.known_stable_true me.0 d low (sym (fits.log.stable d) ∙ of_log.known_stable d h)

  named_carried : (d : Det) (q : ℕ) → new.parcel.names_holder d q ≡ true → new.parcel.carries d ≡ true
  named_carried d q h = (of_log.known_holders d q h).1

  carries_logs : (d : Det) → new.parcel.carries d ≡ logs w.past me.0 d
  carries_logs d = whole d ∙ fits.log.has d

  from_low : new.parcel.from < n
  from_low = subst (λ p. p < n) (sym of_log.from) low

  -- no round counts the answer: first it is sent, and then its sender refuses more
  abbrev sent : World
  sent = with_packet n f net w reach rep me low a fits new of_log w.past

  abbrev floor : ℕ → ℕ
  floor = raised (w.rounds.floors me.0) (bounded n view)

  abbrev again : World
  again = record w {
    rounds = record w.rounds { floors = with_value_at w.rounds.floors me.0 floor };
    packets = with_value_at w.packets i (Some new);
  }

  later_again : IsLater w again
  later_again = record { numbers = λ q. le_self (number w.rounds q); packets = still n f net w reach rep me low a fits new of_log; stable = λ d h. h; stored = λ d h. h; messages = λ send m h. h }

  same_again : (q : ℕ) → (q ≡ me.0 → ⊥) → IsUntouched w again q
  same_again q other = assumption (set_at_away w.rounds.floors me.0 floor q other)

  mine_again : UpFits n again me.0 node
  mine_again =
      let floors : (z : ℕ) → z < n → again.rounds.floors me.0 z ≡ node.floors z = λ z low_z. (λ j. set_at_here w.rounds.floors me.0 floor j z) ∙ (λ j. max (fits.floors z low_z j) (bounded_is n view z low_z j)) in
      assumption (floors, fits)

  answers_again : ((q : ℕ) → q < n → (q ≡ me.0 → ⊥) → NodeFits n again (reply ∷ net.sent) q (net.nodes q)) → IsWorldOf n f after_step
  answers_again others = (
    again,
    next_world sent again (next_world w sent reach (world.acknowledge me.0 i new (is_sent n f net w reach rep me low a fits new of_log) no_message))
        (world.refuse me.0 floor fits.is_up (λ z. le-max_left (w.rounds.floors me.0 z) (bounded n view z)) (λ z. max-le ((invariant n f net w reach rep).rounds.floors_told me.0 z) (bounded_told n w view question.1 z))),
    assumption (
      nodes_and_one n again (reply ∷ net.sent) net.nodes me.0 (up_node node) mine_again others,
      packets_and_one n w again later_again net.sent reply rep.packets ((i, set_at_here w.packets i (Some new), from_low), true_marks, named_carried),
      floors_kept n f net w reach rep again.rounds.floors (set_at_away w.rounds.floors me.0 floor n (λ e. omega (arith, low, e))),
      free_after n f net w reach rep me low a fits new of_log,
    ),
  )

  kept_again : (q : ℕ) → q < n → (q ≡ me.0 → ⊥) → NodeFits n again net.sent q (net.nodes q)
  kept_again q low_q other = node_kept n w again later_again q (same_again q other) net.sent (net.nodes q) (rep.nodes q low_q)

  unasked : is_in_round name (net.nodes s) ≡ false → IsWorldOf n f after_step
  unasked out = answers_again (λ q low_q other. node_out_and_one n again net.sent reply q (net.nodes q) (out_of_each reply s name net.nodes of_round_is out q) (kept_again q low_q other))

  -- s is in that round
  module _ (y : DownNode) (nr : NodeRound) (at_s : net.nodes s ≡ down_node y) (has_round : y.round ≡ Some nr) (same_name : name ≡ nr.name) where
    abbrev found : (r : Round) × (w.rounds.rounds s ≡ Some r) × GatheringFits n w net.sent s nr r
    found = gathering_of n f net w reach rep s question.0 y at_s nr has_round

    abbrev r : Round
    r = found.0

    views : (z : ℕ) → z < n → view z ≡ r.view z
    views = found.2.replies (question_packet s name view) was (and_from (s == s) (name == nr.name) (eq-eqb s s refl) (eq-eqb name nr.name same_name))

    -- its view is of the present lane
    view_is : r.view me.0 ≡ w.rounds.lane me.0
    view_is = sym (views me.0 low) ∙ own ∙ sym fits.lane

    from_is : (g : ℕ → Bool) → g new.parcel.from ≡ g me.0
    from_is g = ap g of_log.from

    lane_is : r.view new.parcel.from ≤ new.lane
    lane_is = let e : r.view new.parcel.from ≡ r.view me.0 = ap r.view of_log.from in let v = view_is in let l = of_log.lane in let m = fits.lane in omega (arith, e, v, l, m)

    apart : s ≡ me.0 → ⊥
    apart e = both_ways (w.rounds.down s) (ap w.rounds.down e ∙ fits.is_up) (down_of n f net w reach rep s y question.0 at_s).is_down

    -- it has answered that round before: what it said then it still logs, or it is stable
    module _ (replied : r.replied me.0 ≡ true) where
      answered : r.answered me.0 ≡ true
      answered = true_from_ne_false (r.answered me.0) (λ h. both_ways (w.rounds.down me.0) fits.is_up ((invariant n f net w reach rep).rounds.still_down s me.0 r found.1 replied h).0)

      said : (d : Det) → IsToldBy w net.sent s nr r d me.0 → (new.parcel.carries d ≡ true) ⊎ (is_stable w.past d ≡ true)
      said d b =
          let p = b.packet in
          let up : w.rounds.down p.1.parcel.from ≡ false = ap w.rounds.down p.3 ∙ fits.is_up in
          let lane : p.1.lane ≡ w.rounds.lane p.1.parcel.from = p.4 ∙ view_is ∙ ap w.rounds.lane (sym p.3) in
          let at : if_carries d (w.packets p.0) ≡ Some (carrier_of p.1) = ap (if_carries d) p.2 ∙ cond-true (p.1.parcel.carries d) (Some (carrier_of p.1)) None p.5 in
          elim (((invariant n f net w reach rep).dets d).sent p.0 (carrier_of p.1) at up lane) [ inl logged ↦ inl (by p.1.parcel.from p.3 logged) | inr stable ↦ inr stable ]
        where
          by : (q : ℕ) → q ≡ me.0 → ((nat_lt q n && logs w.past q d) || (q == n && w.stored d)) ≡ true → new.parcel.carries d ≡ true
          by q is h = elim (or_cases (nat_lt q n && logs w.past q d) (q == n && w.stored d) h) [
            | inl logged ↦ carries_logs d ∙ ap (λ z. logs w.past z d) (sym is) ∙ (and_parts (nat_lt q n) (logs w.past q d) logged).1
            | inr stored ↦ absurd (let e : q ≡ n = eqb-true q n (and_parts (q == n) (w.stored d) stored).0 in omega (arith, low, is, e))
          ]

      gathering_again : GatheringFits n w (reply ∷ net.sent) s nr r
      gathering_again = gathering_more n w net.sent reply s nr r (λ d z b p is to_s from. by d z b p (answers_are name nr.name new p is) from) (λ of. (from_is r.replied ∙ replied, from_is r.answered ∙ answered, lane_is)) found.2
        where
          by : (d : Det) (z : ℕ) → IsToldBy w net.sent s nr r d z → (p : Packet) → new ≡ p → p.parcel.from ≡ z → (p.parcel.carries d ≡ true) ⊎ (is_stable w.past d ≡ true)
          by d z b p is from =
              let z_is : z ≡ me.0 = sym from ∙ ap (λ (q : Packet). q.parcel.from) (sym is) ∙ of_log.from in
              subst (λ (q : Packet). (q.parcel.carries d ≡ true) ⊎ (is_stable w.past d ≡ true)) is (said d (subst (λ q. IsToldBy w net.sent s nr r d q) z_is b))

      answered_before : IsWorldOf n f after_step
      answered_before = answers_again (λ q low_q not_me. elim (cases_eq q s) [
        | inl here ↦ subst (λ z. NodeFits n again (reply ∷ net.sent) z (net.nodes z)) (sym here) (gathers_still n f net w reach rep s question.0 y at_s nr has_round again (reply ∷ net.sent) r later_again refl refl found.1 (gathering_later n w again later_again s (λ d. refl) (reply ∷ net.sent) nr r gathering_again))
        | inr other ↦ node_out_and_one n again net.sent reply q (net.nodes q) (not_of q other) (kept_again q low_q not_me)
      ])

    -- it answers that round for the first time
    module _ (silent : r.replied me.0 ≡ false) where
      abbrev new_floors : ℕ → ℕ
      new_floors = raised (w.rounds.floors me.0) r.view

      abbrev told : World
      told = record w {
        rounds = record w.rounds { floors = with_value_at w.rounds.floors me.0 new_floors; rounds = with_value_at w.rounds.rounds s (Some (with_reply r me.0 true)) };
        packets = with_value_at w.packets i (Some new);
        gathered = with_value_at w.gathered s (λ d. w.gathered s d || logs w.past me.0 d);
      }

      later_told : IsLater w told
      later_told = record { numbers = λ q. le_self (number w.rounds q); packets = still n f net w reach rep me low a fits new of_log; stable = λ d h. h; stored = λ d h. h; messages = λ send m h. h }

      never : {X : Type 0} → r.replied me.0 ≡ true → X
      never h = absurd (both_ways (r.replied me.0) silent h)

      in_either : (d : Det) → told.gathered s d ≡ true → (w.gathered s d ≡ true) ⊎ (logs w.past me.0 d ≡ true)
      in_either d h = or_cases (w.gathered s d) (logs w.past me.0 d) (sym (ap (λ (g : Det → Bool). g d) (set_at_here w.gathered s (λ e. w.gathered s e || logs w.past me.0 e))) ∙ h)

      -- what it logs it has sent
      told_now : (d : Det) → logs w.past me.0 d ≡ true → IsToldBy told (reply ∷ net.sent) s nr (with_reply r me.0 true) d me.0
      told_now d h = record {
        answered = set_at_here r.answered me.0 true;
        packet = (i, new, set_at_here w.packets i (Some new), of_log.from, of_log.lane ∙ sym fits.lane ∙ sym view_is, carries_logs d ∙ h);
        answers = λ p sent_p to_s from. elim sent_p [
          | inl is ↦ inl (subst (λ (q : Packet). q.parcel.carries d ≡ true) (answers_are name nr.name new p is) (carries_logs d ∙ h))
          | inr old ↦ never (ap r.replied (sym from) ∙ (found.2.replies (answer_packet nr.name p) old (and_from (p.to == s) (nr.name == nr.name) (eq-eqb p.to s to_s) (eq-eqb nr.name nr.name refl))).0)
        ];
        taken = λ heard. never (found.2.heard me.0 low heard);
      }

      none_after_read : r.replied n ≡ true → (d : Det) → told.gathered s d ≡ true → w.gathered s d ≡ true
      none_after_read h d has = never ((invariant n f net w reach rep).reads.last s r me.0 found.1 h low (λ e. apart (sym e)))

      replied : GatheringFits n told (reply ∷ net.sent) s nr (with_reply r me.0 true)
      replied = gathering_replied n w told later_told net.sent reply s nr r me.0 true found.2
          (λ z h. still_true r.answered me.0 z h)
          (λ z h quiet. elim (set_at_cases r.answered me.0 true z) [ inl here ↦ never (ap r.replied (sym here.0) ∙ h) | inr other ↦ other.1 ∙ quiet ])
          (λ p e h. never (ap r.replied (sym (sym (ap (λ (q : Packet). q.parcel.from) (answers_are name nr.name new p e)) ∙ of_log.from)) ∙ (invariant n f net w reach rep).rounds.answers_are_replies s p.parcel.from r found.1 h))
          (λ d h. elim (in_either d h) [ inl old ↦ inl old | inr logged ↦ inr (inl (me.0, low, told_now d logged)) ])
          none_after_read
          (ap (with_value_at r.replied me.0 true) of_log.from ∙ set_at_here r.replied me.0 true, ap (with_value_at r.answered me.0 true) of_log.from ∙ set_at_here r.answered me.0 true, lane_is)

      same_told : (q : ℕ) → (q ≡ me.0 → ⊥) → (q ≡ s → ⊥) → IsUntouched w told q
      same_told q not_me not_s = assumption (
        set_at_away w.rounds.floors me.0 new_floors q not_me,
        set_at_away w.rounds.rounds s (Some (with_reply r me.0 true)) q not_s,
        set_at_away w.gathered s (λ e. w.gathered s e || logs w.past me.0 e) q not_s,
      )

      others_told : (q : ℕ) → q < n → (q ≡ me.0 → ⊥) → NodeFits n told (reply ∷ net.sent) q (net.nodes q)
      others_told q low_q not_me = elim (cases_eq q s) [
        | inl here ↦ subst (λ z. NodeFits n told (reply ∷ net.sent) z (net.nodes z)) (sym here) (gathers_still n f net w reach rep s question.0 y at_s nr has_round told (reply ∷ net.sent) (with_reply r me.0 true) later_told refl refl (set_at_here w.rounds.rounds s (Some (with_reply r me.0 true))) replied)
        | inr other ↦ node_out_and_one n told net.sent reply q (net.nodes q) (not_of q other) (node_kept n w told later_told q (same_told q not_me other) net.sent (net.nodes q) (rep.nodes q low_q))
      ]

      mine_told : UpFits n told me.0 node
      mine_told =
          let floors : (z : ℕ) → z < n → told.rounds.floors me.0 z ≡ node.floors z = λ z low_z. (λ j. set_at_here w.rounds.floors me.0 new_floors j z) ∙ (λ j. max (fits.floors z low_z j) (sym (views z low_z) j)) in
          assumption (floors, fits)

      answers_first : IsWorldOf n f after_step
      answers_first = (
        told,
        next_world w told reach (world.answer me.0 s i r new_floors new low fits.is_up found.1 view_is (λ z. le-max_left (w.rounds.floors me.0 z) (r.view z)) (λ z. le-max_right (w.rounds.floors me.0 z) (r.view z))
            (λ z. max-le ((invariant n f net w reach rep).rounds.floors_told me.0 z) ((invariant n f net w reach rep).rounds.views_told s z r found.1)) (is_sent n f net w reach rep me low a fits new of_log) to no_message carries_logs),
        assumption (
          nodes_and_one n told (reply ∷ net.sent) net.nodes me.0 (up_node node) mine_told others_told,
          packets_and_one n w told later_told net.sent reply rep.packets ((i, set_at_here w.packets i (Some new), from_low), true_marks, named_carried),
          floors_kept n f net w reach rep told.rounds.floors (set_at_away w.rounds.floors me.0 new_floors n (λ e. omega (arith, low, e))),
          free_after n f net w reach rep me low a fits new of_log,
        ),
      )

    answers_in_round : IsWorldOf n f after_step
    answers_in_round = elim (cases_Bool (r.replied me.0)) [ inl h ↦ answered_before h | inr h ↦ answers_first h ]

  pub answers : IsWorldOf n f after_step
  answers = elim (cases_Bool (is_in_round name (net.nodes s))) [ inl h ↦ let i = round_in name (net.nodes s) h in answers_in_round i.0 i.1 i.2 i.3 i.4 | inr out ↦ unasked out ]
