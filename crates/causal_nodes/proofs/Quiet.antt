-- Steps that leave the world unchanged: a number is sent or learned, a reply is taken, stable storage is asked.
use Rattle.std.proofs.Common.{ℕ, ◌+◌, ◌≡◌, ◌<◌, inl, Bool, true, false, List, ◌∷◌, Some, refl, sym, ap, subst, ◌∙◌, arith}
use Rattle.std.specs.Prelude.{◌==◌}
use Rattle.std.proofs.lemmas.Bool.{or_left, or_right, and_left}
use Rattle.causal_name.specs.declared.Det.{Det}
use Rattle.causal_name.specs.Names.{same_det}
use Rattle.causal_trace.specs.declared.entry.Entry.TheVariants.{Stable}
use Rattle.causal_trace.specs.Past.{is_stable}
use Rattle.causal_rounds.specs.Rounds.{with_value_at, Round, number}
use Rattle.causal_rounds.proofs.Lemmas.RoundSteps.{set_at_cases, number_up, number_down}
use Rattle.causal_world.specs.World.{Packet, World}
use Rattle.causal_world.specs.Steps as world
use Rattle.causal_world.specs.Reachable.{IsReachableWorld, next_world}
use Rattle.causal_nodes.specs.Node.{NodeRound, DownNode, Node, up_node, down_node, lane_or_next}
use Rattle.causal_nodes.specs.Packets.{Sent, answer_packet, not_up_packet, read_packet, stored_packet, number_packet, WasSent, is_of_round}
use Rattle.causal_nodes.specs.NodeSteps.{with_round, after_answer, with_heard, round_with_stored}
use Rattle.causal_nodes.specs.Network.{Network}
use Rattle.causal_nodes.proofs.Represents.{IsTold, PacketFits, ReplyFits, GatheringFits, RoundFits, DownFits, NodeFits, Represents}
use Rattle.causal_nodes.proofs.Kept.{IsLater, IsUntouched, told_later, packets_and_one, packets_later, gathering_later, gathering_more, node_kept, node_and_one, nodes_and_one}
use Rattle.causal_nodes.proofs.Context.{IsWorldOf, later_same, message_older, other_is, invariant, down_of}
use Rattle.causal_nodes.proofs.Replies.{answer_taken, not_up_taken, det_taken, stored_taken}

-- a node's number is the world's
pub number_fits : (n : ℕ) (w : World) (sent : List Sent) (p : ℕ) (node : Node) → NodeFits n w sent p node → lane_or_next node ≡ number w.rounds p
number_fits n w sent p (up_node a) h = sym h.lane ∙ sym (number_up w.rounds p h.is_up)
number_fits n w sent p (down_node x) h = ap (λ m. m + 1) (sym h.lane) ∙ sym (number_down w.rounds p h.is_down)

-- one packet more that is of the round of s, and no answer
pub gathering_and_reply : (n : ℕ) (w : World) (sent : List Sent) (s : ℕ) (nr : NodeRound) (r : Round) (new : Sent) → ((name : ℕ) (p : Packet) → new ≡ answer_packet name p → ⊥) → ReplyFits n w s nr r new → GatheringFits n w sent s nr r → GatheringFits n w (new ∷ sent) s nr r
gathering_and_reply n w sent s nr r new no_answer fits g = gathering_more n w sent new s nr r (λ d y b p is to from. absurd (no_answer nr.name p is)) (λ of. fits) g

module _ (n f : ℕ) (net : Network) (w : World) (reach : IsReachableWorld n f w) (rep : Represents n net w) (me : ℕ) (low : me < n) where
  -- the network after a step of me without an entry
  abbrev after_step : Node → List Sent → Network
  after_step node sent = record { past = net.past; nodes = with_value_at net.nodes me node; sent = sent; stored = net.stored; floors = net.floors }

  quiet : (node : Node) → NodeFits n w net.sent me node → IsWorldOf n f (after_step node net.sent)
  quiet node mine = (w, reach, record { past = rep.past; nodes = nodes_and_one n w net.sent net.nodes me node mine (λ q low_q other. rep.nodes q low_q); packets = rep.packets; stored = rep.stored; floors = rep.floors; free = rep.free })

  quiet_and_one : (node : Node) (new : Sent) → NodeFits n w (new ∷ net.sent) me node → ((q : ℕ) → (q ≡ me → ⊥) → (name : ℕ) → is_of_round new q name ≡ false) → PacketFits n w new → IsWorldOf n f (after_step node (new ∷ net.sent))
  quiet_and_one node new mine out fits = (
    w,
    reach,
    assumption (
      nodes_and_one n w (new ∷ net.sent) net.nodes me node mine (λ q low_q other. node_and_one n w net.sent new q (out q other) (net.nodes q) (rep.nodes q low_q)),
      packets_and_one n w w (later_same w) net.sent new rep.packets fits,
    ),
  )

  pub tells : IsWorldOf n f (after_step (net.nodes me) (number_packet me (lane_or_next (net.nodes me)) ∷ net.sent))
  tells = quiet_and_one (net.nodes me) (number_packet me (lane_or_next (net.nodes me)))
      (node_and_one n w net.sent (number_packet me (lane_or_next (net.nodes me))) me (λ name. refl) (net.nodes me) (rep.nodes me low))
      (λ q other name. refl) (let e = number_fits n w net.sent me (net.nodes me) (rep.nodes me low) in omega (arith, e))

  module _ (x : DownNode) (is : net.nodes me ≡ down_node x) where
    mine_before : DownFits n w net.sent me x
    mine_before = down_of n f net w reach rep me x low is

    pub hears_number : (q m : ℕ) → WasSent net.sent (number_packet q m) → IsWorldOf n f (after_step (down_node (record { lane = x.lane; told = with_value_at x.told q m; round = x.round })) net.sent)
    hears_number q m was =
        let told : IsTold n w (with_value_at x.told q m) = λ z low_z. grind (arith, set_at_cases x.told q m z, rep.packets (number_packet q m) was, mine_before.told z low_z) in
        quiet (down_node (record { lane = x.lane; told = with_value_at x.told q m; round = x.round })) (assumption (told, mine_before))

    module _ (nr : NodeRound) (has_round : x.round ≡ Some nr) where
      -- the round of the world
      pub gathering_of : (r : Round) × (w.rounds.rounds me ≡ Some r) × GatheringFits n w net.sent me nr r
      gathering_of = subst (λ o. RoundFits n w net.sent me o) has_round mine_before.round

      -- me in this round after another step
      pub gathers_still : (next : World) (sent : List Sent) (o : Round) → IsLater w next → next.rounds.down me ≡ w.rounds.down me → next.rounds.lane me ≡ w.rounds.lane me → next.rounds.rounds me ≡ Some o → GatheringFits n next sent me nr o → NodeFits n next sent me (net.nodes me)
      gathers_still next sent o later down lane at g = subst (λ node. NodeFits n next sent me node) (sym is) (record {
        is_down = down ∙ mine_before.is_down;
        lane = lane ∙ mine_before.lane;
        told = told_later n w next later x.told mine_before.told;
        round = subst (λ z. RoundFits n next sent me z) (sym has_round) (o, at, g);
      })

      with_gathering : (more : NodeRound) → GatheringFits n w net.sent me more gathering_of.0 → DownFits n w net.sent me (with_round x (Some more))
      with_gathering more g = record { is_down = mine_before.is_down; lane = mine_before.lane; told = mine_before.told; round = (gathering_of.0, gathering_of.1, g) }

      pub hears_answer : (p : Packet) → p.to ≡ me → WasSent net.sent (answer_packet nr.name p) → IsWorldOf n f (after_step (down_node (with_round x (Some (after_answer p.parcel.from p.parcel nr)))) net.sent)
      hears_answer p to was =
          let fits = rep.packets (answer_packet nr.name p) was in
          quiet (down_node (with_round x (Some (after_answer p.parcel.from p.parcel nr)))) (with_gathering (after_answer p.parcel.from p.parcel nr) (answer_taken n w net.sent me nr gathering_of.0 gathering_of.2 p was to fits.0 fits.1 fits.2))

      pub hears_not_up : (q : ℕ) → WasSent net.sent (not_up_packet q me nr.name) → IsWorldOf n f (after_step (down_node (with_round x (Some (with_heard q nr)))) net.sent)
      hears_not_up q was = quiet (down_node (with_round x (Some (with_heard q nr)))) (with_gathering (with_heard q nr) (not_up_taken n w net.sent me nr gathering_of.0 gathering_of.2 q (rep.packets (not_up_packet q me nr.name) was) was))

      pub hears_stored : (dets : Det → Bool) → WasSent net.sent (stored_packet me nr.name dets) → ((d : Det) → dets d ≡ true → nr.gathered.has d ≡ true) → IsWorldOf n f (after_step (down_node (with_round x (Some (with_heard n nr)))) net.sent)
      hears_stored dets was all = quiet (down_node (with_round x (Some (with_heard n nr)))) (with_gathering (with_heard n nr) (stored_taken n w net.sent me nr gathering_of.0 gathering_of.2 dets was all))

      pub asks_storage : ((q : ℕ) → q < n → (q ≡ me → ⊥) → nr.heard q ≡ true) → IsWorldOf n f (after_step (down_node x) (read_packet me nr.name nr.view ∷ net.sent))
      asks_storage all = quiet_and_one (down_node x) (read_packet me nr.name nr.view)
          (subst (λ node. NodeFits n w (read_packet me nr.name nr.view ∷ net.sent) me node) is (gathers_still w _ gathering_of.0 (later_same w) refl refl gathering_of.1
          (gathering_and_reply n w net.sent me nr gathering_of.0 (read_packet me nr.name nr.view) (λ name p e. absurd (let h : read_packet me nr.name nr.view ≡ answer_packet name p = e in cc)) (gathering_of.2.view, all) gathering_of.2)))
          (λ q other name. and_left (me == q) (nr.name == name) (other_is me q other))
          (low, λ z low_z. let e = gathering_of.2.view z low_z in let t = (invariant n f net w reach rep).rounds.views_told me z gathering_of.0 gathering_of.1 in omega (arith, e, t))

      module _ (dets : Det → Bool) (det : Det) (was : WasSent net.sent (stored_packet me nr.name dets)) (has_det : dets det ≡ true) where
        abbrev recorded : World
        recorded = record w { past = Stable det ∷ w.past }

        later : IsLater w recorded
        later = record { numbers = λ q. omega arith; packets = λ i t at. at; stable = λ d h. or_right (same_det d det) (is_stable w.past d) h; stored = λ d h. h; messages = message_older (Stable det) w.past }

        same : (q : ℕ) → IsUntouched w recorded q
        same q = assumption

        mine : DownFits n recorded net.sent me (with_round x (Some (round_with_stored det nr)))
        mine = record {
          is_down = mine_before.is_down;
          lane = mine_before.lane;
          told = told_later n w recorded later x.told mine_before.told;
          round = (
            gathering_of.0,
            gathering_of.1,
            det_taken n recorded net.sent me nr gathering_of.0 (gathering_later n w recorded later me (λ d. refl) net.sent nr gathering_of.0 gathering_of.2) det (λ d h. or_left (same_det d det) (is_stable w.past d) h),
          );
        }

        pub takes_stored : IsWorldOf n f (record { past = Stable det ∷ net.past; nodes = with_value_at net.nodes me (down_node (with_round x (Some (round_with_stored det nr)))); sent = net.sent; stored = net.stored; floors = net.floors })
        takes_stored = (
          recorded,
          next_world w recorded reach (world.write_entry det w.knows_stable ((rep.packets (stored_packet me nr.name dets) was) det has_det) (λ y d h. inl h)),
          assumption (
            ap (λ t. Stable det ∷ t) rep.past,
            nodes_and_one n recorded net.sent net.nodes me (down_node (with_round x (Some (round_with_stored det nr)))) mine (λ q low_q other. node_kept n w recorded later q (same q) net.sent (net.nodes q) (rep.nodes q low_q)),
            packets_later n w recorded later net.sent rep.packets,
          ),
        )
