-- A world represents each network that nodes reach, and so the network is safe.
use Rattle.std.proofs.Common.{true, ℕ, suc, ◌≡◌, ◌<◌, ◌≤◌, inl, inr, false, not, nat_lt, List, [], ◌∷◌, ◌++◌, length, Option, None, refl, sym, ap, subst, ◌∙◌, arith}
use Rattle.std.proofs.lemmas.Bool.{lt-ltb, le-ltb}
use Rattle.causal_name.specs.declared.Pid.{Pid}
use Rattle.causal_name.specs.declared.Det.{Det}
use Rattle.causal_trace.specs.declared.entry.Entry.{Entry}
use Rattle.causal_trace.specs.Judgement.{IsSafeTrace}
use Rattle.causal_steps.specs.Transit.{Survives}
use Rattle.causal_rounds.specs.Rounds.{with_value_at}
use Rattle.causal_rounds.specs.Acceptance.{by_floor, by_sender}
use Rattle.causal_world.specs.World.{Packet, World, carrier_of, volatile_of}
use Rattle.causal_world.specs.Reachable.{IsInitialWorld, IsReachableWorld, opening}
use Rattle.causal_world.proofs.Lemmas.Transit.{is_accepted, in_transit_of, landed_in_transit}
use Rattle.causal_world.proofs.Lemmas.ReachableWorlds.{worlds_are_safe, worlds_share_no_slot}
use Rattle.causal_nodes.specs.Node.{Node, lane_or_next}
use Rattle.causal_nodes.specs.Packets.{Sent, message_packet, acknowledgement_packet, write_packet, written_packet, question_packet, answer_packet, not_up_packet, read_packet, stored_packet, number_packet, WasSent, WasTaken}
use Rattle.causal_nodes.specs.NodeSteps.{NodeStep, send_row, deliver_row, acknowledge_row, learn_row, write_row, mark_row, forget_row, answer_row, tell_row, hear_number_row, begin_row, not_up_row, give_up_row, hear_answer_row, hear_not_up_row, read_row, take_stored_row, hear_stored_row, restart_row}
use Rattle.causal_nodes.specs.Network.{Network, HasFreshName, NetworkEvent, step_event, crash_event, store_event, read_event, IsNewNetwork, IsReachableNetwork, new_network, next_network, IsCarrying, SurvivesIn, in_storage, in_log, in_transit, in_transit_to_down, in_write, NodesAreSafe, NodesShareNoSlot}
use Rattle.causal_nodes.proofs.Represents.{IsPacket, PacketFits, NodeFits, Represents}
use Rattle.causal_nodes.proofs.Context.{IsWorldOf, invariant, up_of, down_of}
use Rattle.causal_nodes.proofs.Emits.{new_packet, emits_silently, sends}
use Rattle.causal_nodes.proofs.Logs.{delivers, learns, marks_stable, forgets}
use Rattle.causal_nodes.proofs.Quiet.{tells, hears_number, hears_answer, hears_not_up, hears_stored, asks_storage, takes_stored}
use Rattle.causal_nodes.proofs.Rounds.{crashes, gives_up, begins, restarts}
use Rattle.causal_nodes.proofs.NotUp.{says_not_up}
use Rattle.causal_nodes.proofs.Answering.{answers}
use Rattle.causal_nodes.proofs.Storing.{stores, tells_stored}

module _ (n f : ℕ) (net : Network) (w : World) (reach : IsReachableWorld n f w) (rep : Represents n net w) (me : Pid) (low : me.0 < n) where
  abbrev after_step : Node → List Sent → List Entry → Network
  after_step node emitted entries = record { past = entries ++ net.past; nodes = with_value_at net.nodes me.0 node; sent = emitted ++ net.sent; stored = net.stored; floors = net.floors }

  -- each row of a node's step is a step of the world, or two, or none
  node_step : (old : Node) (taken : Option Sent) (node : Node) (emitted : List Sent) (entries : List Entry) → NodeStep n f me (length net.past) old taken node emitted entries → net.nodes me.0 ≡ old → WasTaken net.sent taken
      → ((new : Sent) → WasSent emitted new → HasFreshName net.sent new) → IsWorldOf n f (after_step node emitted entries)
  node_step old taken node emitted entries (send_row a to new low_to of_log to_is position left_out) is was fresh = sends n f net w reach rep me low a (up_of n f net w reach rep me.0 a low is) new of_log to position left_out
  node_step old taken node emitted entries (deliver_row a name p send listed ascending to floor at_send once only lists) is was fresh =
      delivers n f net w reach rep me low a (up_of n f net w reach rep me.0 a low is) name p send listed was to floor at_send only lists
  node_step old taken node emitted entries (acknowledge_row a new of_log none) is was fresh =
      let fits = up_of n f net w reach rep me.0 a low is in
      emits_silently n f net w reach rep me low a fits new of_log (acknowledgement_packet new) (new_packet n f net w reach rep me low a fits new of_log w.past) (λ q name. refl) none
  node_step old taken node emitted entries (learn_row a p to floor) is was fresh = learns n f net w reach rep me low a (up_of n f net w reach rep me.0 a low is) p was to floor
  node_step old taken node emitted entries (write_row a new of_log to none) is was fresh =
      let fits = up_of n f net w reach rep me.0 a low is in
      emits_silently n f net w reach rep me low a fits new of_log (write_packet new) (new_packet n f net w reach rep me low a fits new of_log w.past, to) (λ q name. refl) none
  node_step old taken node emitted entries (mark_row a dets det has) is was fresh = marks_stable n f net w reach rep me low a (up_of n f net w reach rep me.0 a low is) dets det was has
  node_step old taken node emitted entries (forget_row a listed ascending known repeated) is was fresh = forgets n f net w reach rep me low a (up_of n f net w reach rep me.0 a low is) listed known repeated
  node_step old taken node emitted entries (answer_row a s name view new own of_log to none whole) is was fresh = answers n f net w reach rep me low a is new of_log s name view was own to none whole
  node_step old taken node emitted entries (tell_row same) is was fresh =
      subst (λ (y : Node). IsWorldOf n f (after_step y (number_packet me.0 (lane_or_next y) ∷ []) [])) is (tells n f net w reach rep me.0 low)
  node_step old taken node emitted entries (hear_number_row x q number) is was fresh = hears_number n f net w reach rep me.0 low x is q number was
  node_step old taken node emitted entries (begin_row x name view own heard) is was fresh = begins n f net w reach rep me.0 low x is name view own heard (fresh (question_packet me.0 name view) (inl refl))
  node_step old taken node emitted entries (not_up_row x s name view apart own) is was fresh = says_not_up n f net w reach rep me.0 low x is s name view was apart own
  node_step old taken node emitted entries (give_up_row x) is was fresh = gives_up n f net w reach rep me.0 low x is
  node_step old taken node emitted entries (hear_answer_row x r p has to) is was fresh = hears_answer n f net w reach rep me.0 low x is r has p to was
  node_step old taken node emitted entries (hear_not_up_row x r q has) is was fresh = hears_not_up n f net w reach rep me.0 low x is r has q was
  node_step old taken node emitted entries (read_row x r has all) is was fresh = asks_storage n f net w reach rep me.0 low x is r has all
  node_step old taken node emitted entries (take_stored_row x r dets det has has_det) is was fresh = takes_stored n f net w reach rep me.0 low x is r has dets det was has_det
  node_step old taken node emitted entries (hear_stored_row x r dets has all) is was fresh = hears_stored n f net w reach rep me.0 low x is r has dets was all
  node_step old taken node emitted entries (restart_row x r listed ascending has all lists) is was fresh = restarts n f net w reach rep me low x is r has listed all lists

pub event_steps : (n f : ℕ) (net next : Network) → NetworkEvent n f net next → IsWorldOf n f net → IsWorldOf n f next
event_steps n f net next (step_event me taken node emitted entries low was step fresh) h = node_step n f net h.0 h.1 h.2 me low (net.nodes me.0) taken node emitted entries step refl was fresh
event_steps n f net next (crash_event who a low is few) h = crashes n f net h.0 h.1 h.2 who low a (up_of n f net h.0 h.1 h.2 who.0 a low is) few
event_steps n f net next (store_event p was floor) h = stores n f net h.0 h.1 h.2 p was floor
event_steps n f net next (read_event s name view was) h = tells_stored n f net h.0 h.1 h.2 s name view was

abbrev first_world : ℕ → World
first_world n = record {
  past = [];
  rounds = record { lane = λ p. 0; down = λ p. not (nat_lt p (suc n)); floors = λ p q. 0; rounds = λ p. None };
  knows_holder = λ p d q. false;
  knows_stable = λ p d. false;
  packets = λ i. None;
  gathered = λ s d. false;
  stored = λ d. false;
  landed = λ i. false;
}

opens : (n f : ℕ) (net : Network) → IsNewNetwork n net → IsWorldOf n f net
opens n f net o = (
  first_world n,
  opening (first_world n) first,
  record {
    past = sym o.past;
    nodes = λ p low. let a = o.nodes p low in subst (λ y. NodeFits n (first_world n) net.sent p y) (sym a.1) (record {
      is_up = begun p (omega (arith, low));
      lane = sym a.2.lane;
      log = record { has = a.2.empty; holder = a.2.no_holders; stable = a.2.no_stable };
      floors = λ z low_z. sym (a.2.floors z);
      received = ap length a.2.received;
    });
    packets = λ k was. absurd (subst (λ t. WasSent t k) o.sent was);
    stored = λ d. sym (o.stored d);
    floors = λ z low_z. sym (o.floors z);
    free = (0, λ j high. refl);
  },
)
  where
    begun : (p : ℕ) → p < suc n → not (nat_lt p (suc n)) ≡ false
    begun p low = ap not (lt-ltb p (suc n) low)

    first : IsInitialWorld n (first_world n)
    first =
        let up : (p : ℕ) → p < n → (first_world n).rounds.down p ≡ false = λ p low. begun p (omega (arith, low)) in
        let absent : (p : ℕ) → suc n ≤ p → (first_world n).rounds.down p ≡ true = λ p high. ap not (le-ltb p (suc n) high) in
        assumption (begun n (omega arith))

pub world_of : (n f : ℕ) (net : Network) → IsReachableNetwork n f net → IsWorldOf n f net
world_of n f net (new_network same o) = opens n f net o
world_of n f net (next_network before next h event) = event_steps n f before net event (world_of n f before h)

pub nodes_are_safe : NodesAreSafe
nodes_are_safe n f net h = let x = world_of n f net h in subst (λ (t : List Entry). IsSafeTrace (record { processes = n; past = t }) f) x.2.past (worlds_are_safe n f x.0 x.1)

module _ (n f : ℕ) (net : Network) (w : World) (reach : IsReachableWorld n f w) (rep : Represents n net w) where
  packet_of : (k : Sent) (t : Packet) → IsCarrying k t → PacketFits n w k → IsPacket n w t
  packet_of (message_packet name p) t is h = subst (λ q. IsPacket n w q) is h.0
  packet_of (acknowledgement_packet p) t is h = subst (λ q. IsPacket n w q) is h
  packet_of (write_packet p) t is h = subst (λ q. IsPacket n w q) is h.0
  packet_of (written_packet dets) t is h = absurd is
  packet_of (question_packet from name view) t is h = absurd is
  packet_of (answer_packet name p) t is h = subst (λ q. IsPacket n w q) is h.0
  packet_of (not_up_packet from to name) t is h = absurd is
  packet_of (read_packet from name view) t is h = absurd is
  packet_of (stored_packet to name dets) t is h = absurd is
  packet_of (number_packet from m) t is h = absurd is

  -- what survives in the network survives in the world
  pub survives : (d : Det) → SurvivesIn n net d → Survives n w.past (volatile_of n w) d
  survives d (in_storage stored) =
      let from = (invariant n f net w reach rep).stores.stored_from d (rep.stored d ∙ stored) in
      inr (inr (from.1.parcel, landed_in_transit n w from.0 from.1 from.2 from.3, from.4))
  survives d (in_log p a low is has) = inr (inl (p, low, sym ((up_of n f net w reach rep p a low is).log.has d) ∙ has))
  survives d (in_transit k t a was carrying low is floor carries) =
      let packet = packet_of k t carrying (rep.packets k was) in
      let fits = up_of n f net w reach rep t.to a low is in
      inr (inr (t.parcel, in_transit_of n w packet.0 t packet.1 (is_accepted (suc n) w.rounds (carrier_of t) (by_floor fits.is_up (subst (λ m. m ≤ t.lane) (sym (fits.floors t.parcel.from packet.2)) floor))), carries))
  survives d (in_transit_to_down k t x a was carrying low is up lane carries) =
      let packet = packet_of k t carrying (rep.packets k was) in
      let sender = up_of n f net w reach rep t.parcel.from a packet.2 up in
      let receiver = down_of n f net w reach rep t.to x low is in
      inr (inr (t.parcel, in_transit_of n w packet.0 t packet.1 (is_accepted (suc n) w.rounds (carrier_of t) (by_sender receiver.is_down sender.is_up (lane ∙ sym sender.lane))), carries))
  survives d (in_write t was floor carries) =
      let packet = rep.packets (write_packet t) was in
      let up : w.rounds.down t.to ≡ false = ap w.rounds.down packet.1 ∙ (invariant n f net w reach rep).storage.up in
      let above : w.rounds.floors t.to t.parcel.from ≤ t.lane = subst (λ q. w.rounds.floors q t.parcel.from ≤ t.lane) (sym packet.1) (subst (λ m. m ≤ t.lane) (sym (rep.floors t.parcel.from packet.0.2)) floor) in
      inr (inr (t.parcel, in_transit_of n w packet.0.0 t packet.0.1 (is_accepted (suc n) w.rounds (carrier_of t) (by_floor up above)), carries))

pub nodes_share_no_slot : NodesShareNoSlot
nodes_share_no_slot n f net h a b a_survives b_survives =
    let x = world_of n f net h in
    worlds_share_no_slot n f x.0 x.1 a b (survives n f net x.0 x.1 x.2 a a_survives) (survives n f net x.0 x.1 x.2 b b_survives)
