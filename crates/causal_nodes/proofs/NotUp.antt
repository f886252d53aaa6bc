-- A process that is down says so.
use Rattle.std.proofs.Common.{ℕ, ◌+◌, ◌≡◌, ◌<◌, inl, inr, true, false, ◌∷◌, Some, None, refl, sym, ap, subst, ◌∙◌, arith}
use Rattle.std.specs.Prelude.{◌==◌}
use Rattle.std.proofs.lemmas.Bool.{and_from, eq-eqb, cases_eq, cases_Bool}
use Rattle.causal_rounds.specs.Rounds.{with_value_at, Round, number, with_reply}
use Rattle.causal_rounds.proofs.Lemmas.RoundSteps.{set_at_cases, set_at_here, set_at_away}
use Rattle.causal_world.specs.World.{World}
use Rattle.causal_world.specs.Steps as world
use Rattle.causal_world.specs.Reachable.{IsReachableWorld, next_world}
use Rattle.causal_nodes.specs.Node.{NodeRound, DownNode, down_node}
use Rattle.causal_nodes.specs.Packets.{Sent, question_packet, answer_packet, not_up_packet, WasSent}
use Rattle.causal_nodes.specs.NodeSteps.{with_round}
use Rattle.causal_nodes.specs.Network.{Network}
use Rattle.causal_nodes.proofs.Represents.{IsTold, GatheringFits, DownFits, NodeFits, IsOutOf, is_in_round, Represents}
use Rattle.causal_nodes.proofs.Kept.{IsLater, IsUntouched, told_later, packets_and_one, node_kept, node_out_and_one, out_of_rest, out_of_each, round_in, nodes_and_one}
use Rattle.causal_nodes.proofs.Context.{IsWorldOf, invariant, down_of}
use Rattle.causal_nodes.proofs.Quiet.{gathering_of, gathers_still}
use Rattle.causal_nodes.proofs.Rounds.{le_self, with_own_round, later_round, untouched_round}
use Rattle.causal_nodes.proofs.Replied.{gathering_replied}

module _ (n f : ℕ) (net : Network) (w : World) (reach : IsReachableWorld n f w) (rep : Represents n net w) (me : ℕ) (low : me < n) (x : DownNode) (is : net.nodes me ≡ down_node x) (s name : ℕ) (view : ℕ → ℕ) (was : WasSent net.sent (question_packet s name view)) (apart : s ≡ me → ⊥)
    (own : view me ≡ x.lane + 1) where
  before : DownFits n w net.sent me x
  before = down_of n f net w reach rep me x low is

  question : (s < n) × IsTold n w view
  question = rep.packets (question_packet s name view) was

  abbrev new : Sent
  new = not_up_packet me s name

  abbrev after_step : Network
  after_step = record { past = net.past; nodes = with_value_at net.nodes me (down_node (with_round x None)); sent = new ∷ net.sent; stored = net.stored; floors = net.floors }

  -- the reply is of a round of s
  not_of : (q : ℕ) → (q ≡ s → ⊥) → IsOutOf new q (net.nodes q)
  not_of = out_of_rest new s name net.nodes (λ q round h. h)

  -- s is not in that round any more
  module _ (out : is_in_round name (net.nodes s) ≡ false) where
    abbrev alone : World
    alone = with_own_round n f net w reach rep me low x is None w.gathered

    later_alone : IsLater w alone
    later_alone = later_round n f net w reach rep me low x is None w.gathered

    unheard : IsWorldOf n f after_step
    unheard = (
      alone,
      next_world w alone reach (world.give_up me),
      assumption (
        nodes_and_one n alone (new ∷ net.sent) net.nodes me (down_node (with_round x None)) (record { is_down = before.is_down; lane = before.lane; told = told_later n w alone later_alone x.told before.told; round = set_at_here w.rounds.rounds me None })
            (λ q low_q other. node_out_and_one n alone net.sent new q (net.nodes q) (out_of_each new s name net.nodes (λ z round h. h) out q) (node_kept n w alone later_alone q (untouched_round n f net w reach rep me low x is None w.gathered q other refl) net.sent (net.nodes q) (rep.nodes q low_q))),
        packets_and_one n w alone later_alone net.sent new rep.packets low,
      ),
    )

  -- s is in that round
  module _ (y : DownNode) (nr : NodeRound) (at_s : net.nodes s ≡ down_node y) (has_round : y.round ≡ Some nr) (same_name : name ≡ nr.name) where
    abbrev found : (r : Round) × (w.rounds.rounds s ≡ Some r) × GatheringFits n w net.sent s nr r
    found = gathering_of n f net w reach rep s question.0 y at_s nr has_round

    abbrev r : Round
    r = found.0

    fits : r.view me ≡ w.rounds.lane me + 1
    fits = sym (found.2.replies (question_packet s name view) was (and_from (s == s) (name == nr.name) (eq-eqb s s refl) (eq-eqb name nr.name same_name)) me low) ∙ own ∙ ap (λ m. m + 1) (sym before.lane)

    abbrev heard : World
    heard = record w { rounds = record w.rounds { rounds = with_value_at (with_value_at w.rounds.rounds s (Some (with_reply r me false))) me None } }

    later_heard : IsLater w heard
    later_heard = record { numbers = λ q. le_self (number w.rounds q); packets = λ i t at. at; stable = λ d h. h; stored = λ d h. h; messages = λ send m h. h }

    -- it has not answered this round: it would have come up since
    keep_answered : (z : ℕ) → r.answered z ≡ true → (with_reply r me false).answered z ≡ true
    keep_answered z h = elim (set_at_cases r.answered me false z) [
      | inl here ↦
          let answered : r.answered me ≡ true = ap r.answered (sym here.0) ∙ h in
          let k = (invariant n f net w reach rep).rounds in
          let lane = k.same_lane s me r found.1 (k.answers_are_replies s me r found.1 answered) answered in
          absurd (let e = fits in omega (arith, lane, e))
      | inr other ↦ other.1 ∙ h
    ]

    keep_silent : (z : ℕ) → r.replied z ≡ true → r.answered z ≡ false → (with_reply r me false).answered z ≡ false
    keep_silent z h silent = elim (set_at_cases r.answered me false z) [ inl here ↦ here.1 | inr other ↦ other.1 ∙ silent ]

    replied : GatheringFits n heard (new ∷ net.sent) s nr (with_reply r me false)
    replied = gathering_replied n w heard later_heard net.sent new s nr r me false found.2 keep_answered keep_silent (λ p e h. absurd (let c : not_up_packet me s name ≡ answer_packet nr.name p = e in cc)) (λ d h. inl h) (λ h d has. has)
        (set_at_here r.replied me true, set_at_here r.answered me false)

    round_of_s : heard.rounds.rounds s ≡ Some (with_reply r me false)
    round_of_s = set_at_away (with_value_at w.rounds.rounds s (Some (with_reply r me false))) me None s apart ∙ set_at_here w.rounds.rounds s (Some (with_reply r me false))

    of_s : NodeFits n heard (new ∷ net.sent) s (net.nodes s)
    of_s = gathers_still n f net w reach rep s question.0 y at_s nr has_round heard (new ∷ net.sent) (with_reply r me false) later_heard refl refl round_of_s replied

    same : (q : ℕ) → (q ≡ me → ⊥) → (q ≡ s → ⊥) → IsUntouched w heard q
    same q not_me not_s = assumption (set_at_away (with_value_at w.rounds.rounds s (Some (with_reply r me false))) me None q not_me ∙ set_at_away w.rounds.rounds s (Some (with_reply r me false)) q not_s)

    others : (q : ℕ) → q < n → (q ≡ me → ⊥) → NodeFits n heard (new ∷ net.sent) q (net.nodes q)
    others q low_q not_me = elim (cases_eq q s) [
      | inl here ↦ subst (λ z. NodeFits n heard (new ∷ net.sent) z (net.nodes z)) (sym here) of_s
      | inr not_s ↦ node_out_and_one n heard net.sent new q (net.nodes q) (not_of q not_s) (node_kept n w heard later_heard q (same q not_me not_s) net.sent (net.nodes q) (rep.nodes q low_q))
    ]

    counted : IsWorldOf n f after_step
    counted = (
      heard,
      next_world w heard reach (world.not_up me s r low before.is_down (λ e. apart (sym e)) found.1 fits),
      assumption (
        nodes_and_one n heard (new ∷ net.sent) net.nodes me (down_node (with_round x None))
            (record { is_down = before.is_down; lane = before.lane; told = told_later n w heard later_heard x.told before.told; round = set_at_here (with_value_at w.rounds.rounds s (Some (with_reply r me false))) me None })
            others,
        packets_and_one n w heard later_heard net.sent new rep.packets low,
      ),
    )

  pub says_not_up : IsWorldOf n f after_step
  says_not_up = elim (cases_Bool (is_in_round name (net.nodes s))) [ inl h ↦ let i = round_in name (net.nodes s) h in counted i.0 i.1 i.2 i.3 i.4 | inr out ↦ unheard out ]
