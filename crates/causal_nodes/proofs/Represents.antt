-- How a world represents a network of nodes.
use Rattle.std.proofs.Common.{ℕ, ◌≡◌, ◌<◌, ◌≤◌, Bool, true, false, List, length, Option, Some, None}
use Rattle.std.specs.Prelude.{◌⊎◌, ◌==◌}
use Rattle.causal_name.specs.declared.Det.{Det}
use Rattle.causal_trace.specs.Past.{logs, is_stable, deliveries, message_at}
use Rattle.causal_rounds.specs.Rounds.{Round, number}
use Rattle.causal_world.specs.World.{Packet, World, GatheredFrom}
use Rattle.causal_nodes.specs.Node.{NodeLog, UpNode, NodeRound, DownNode, Node, up_node, down_node}
use Rattle.causal_nodes.specs.Packets.{Sent, message_packet, acknowledgement_packet, write_packet, written_packet, question_packet, answer_packet, not_up_packet, read_packet, stored_packet, number_packet, WasSent, is_of_round}
use Rattle.causal_nodes.specs.Network.{Network}

-- the log of p is what the world has of p
pub record LogFits (w : World) (p : ℕ) (l : NodeLog) : Type 0 where
  pub has : (d : Det) → l.has d ≡ logs w.past p d
  pub holder : (d : Det) (q : ℕ) → l.holder d q ≡ w.knows_holder p d q
  pub stable : (d : Det) → l.stable d ≡ w.knows_stable p d

pub record UpFits (n : ℕ) (w : World) (p : ℕ) (a : UpNode) : Type 0 where
  pub is_up : w.rounds.down p ≡ false
  pub lane : w.rounds.lane p ≡ a.lane
  pub log : LogFits w p a.log
  pub floors : (z : ℕ) → z < n → w.rounds.floors p z ≡ a.floors z
  pub received : length a.received ≡ deliveries w.past p

abbrev pub IsPacket : ℕ → World → Packet → Type 0
IsPacket n w p = (i : ℕ) × (w.packets i ≡ Some p) × (p.parcel.from < n)

abbrev pub IsTold : ℕ → World → (ℕ → ℕ) → Type 0
IsTold n w view = (z : ℕ) → z < n → view z ≤ number w.rounds z

-- what is true of a packet from then on
abbrev pub PacketFits : ℕ → World → Sent → Type 0
PacketFits n w (message_packet name p) = IsPacket n w p × ((send : ℕ) × (p.parcel.send ≡ Some send) × (message_at w.past send ≡ Some name))
PacketFits n w (acknowledgement_packet p) = IsPacket n w p
PacketFits n w (write_packet p) = IsPacket n w p × (p.to ≡ n)
PacketFits n w (written_packet dets) = (d : Det) → dets d ≡ true → w.stored d ≡ true
PacketFits n w (question_packet from name view) = (from < n) × IsTold n w view
PacketFits n w (answer_packet name p) =
    IsPacket n w p × ((d : Det) → p.parcel.names_stable d ≡ true → is_stable w.past d ≡ true) × ((d : Det) (q : ℕ) → p.parcel.names_holder d q ≡ true → p.parcel.carries d ≡ true)
PacketFits n w (not_up_packet from to name) = from < n
PacketFits n w (read_packet from name view) = (from < n) × IsTold n w view
PacketFits n w (stored_packet to name dets) = (d : Det) → dets d ≡ true → w.stored d ≡ true
PacketFits n w (number_packet from m) = m ≤ number w.rounds from

-- what is true of a packet of the present round of s
abbrev pub ReplyFits : ℕ → World → ℕ → NodeRound → Round → Sent → Type 0
ReplyFits n w s nr r (question_packet from name view) = (z : ℕ) → z < n → view z ≡ r.view z
ReplyFits n w s nr r (answer_packet name p) = (r.replied p.parcel.from ≡ true) × (r.answered p.parcel.from ≡ true) × (r.view p.parcel.from ≤ p.lane)
ReplyFits n w s nr r (not_up_packet from to name) = (r.replied from ≡ true) × (r.answered from ≡ false)
ReplyFits n w s nr r (read_packet from name view) = ((z : ℕ) → z < n → view z ≡ r.view z) × ((q : ℕ) → q < n → (q ≡ s → ⊥) → nr.heard q ≡ true)
ReplyFits n w s nr r (stored_packet to name dets) = (r.replied n ≡ true) × ((d : Det) → w.gathered s d ≡ true → (nr.gathered.has d ≡ true) ⊎ (dets d ≡ true))
ReplyFits n w s nr r _ = Unit {0}

-- y has answered the round of s with d: each of its answers has d, or d is stable; and once s has taken one, s has
pub record IsToldBy (w : World) (sent : List Sent) (s : ℕ) (nr : NodeRound) (r : Round) (d : Det) (y : ℕ) : Type 0 where
  pub answered : r.answered y ≡ true
  pub packet : (i : ℕ) × (p : Packet) × (w.packets i ≡ Some p) × (p.parcel.from ≡ y) × (p.lane ≡ r.view y) × (p.parcel.carries d ≡ true)
  pub answers : (p : Packet) → WasSent sent (answer_packet nr.name p) → p.to ≡ s → p.parcel.from ≡ y → (p.parcel.carries d ≡ true) ⊎ (is_stable w.past d ≡ true)
  pub taken : nr.heard y ≡ true → (nr.gathered.has d ≡ true) ⊎ (is_stable w.past d ≡ true)

abbrev pub NamesHolderTo : World → ℕ → Round → Det → ℕ → Type 0
NamesHolderTo w s r d q = (i : ℕ) × (p : Packet) × (w.packets i ≡ Some p) × (p.to ≡ s) × (r.replied p.parcel.from ≡ true) × (r.view p.parcel.from ≤ p.lane) × (p.parcel.names_holder d q ≡ true)

-- the source of what the round of s has gathered in the world
abbrev pub Told : ℕ → World → List Sent → ℕ → NodeRound → Round → Det → Type 0
Told n w sent s nr r d = ((y : ℕ) × (y < n) × IsToldBy w sent s nr r d y) ⊎ ((r.replied n ≡ true) × (w.stored d ≡ true))

-- the round of s, with the round r of the world
pub record GatheringFits (n : ℕ) (w : World) (sent : List Sent) (s : ℕ) (nr : NodeRound) (r : Round) : Type 0 where
  pub view : (z : ℕ) → z < n → nr.view z ≡ r.view z
  pub heard : (q : ℕ) → q < n → nr.heard q ≡ true → r.replied q ≡ true
  pub gathered : (d : Det) → nr.gathered.has d ≡ true → GatheredFrom w s r d ⊎ (is_stable w.past d ≡ true)
  pub holders : (d : Det) (q : ℕ) → nr.gathered.holder d q ≡ true → (nr.gathered.has d ≡ true) × NamesHolderTo w s r d q
  pub stable : (d : Det) → nr.gathered.stable d ≡ true → is_stable w.past d ≡ true
  pub storage : nr.heard n ≡ true → (r.replied n ≡ true) × ((d : Det) → w.gathered s d ≡ true → nr.gathered.has d ≡ true)
  pub told : (d : Det) → w.gathered s d ≡ true → Told n w sent s nr r d
  pub replies : (k : Sent) → WasSent sent k → is_of_round k s nr.name ≡ true → ReplyFits n w s nr r k

abbrev pub RoundFits : ℕ → World → List Sent → ℕ → Option NodeRound → Type 0
RoundFits n w sent s None = w.rounds.rounds s ≡ None
RoundFits n w sent s (Some nr) = (r : Round) × (w.rounds.rounds s ≡ Some r) × GatheringFits n w sent s nr r

pub record DownFits (n : ℕ) (w : World) (sent : List Sent) (s : ℕ) (x : DownNode) : Type 0 where
  pub is_down : w.rounds.down s ≡ true
  pub lane : w.rounds.lane s ≡ x.lane
  pub told : IsTold n w x.told
  pub round : RoundFits n w sent s x.round

abbrev pub NodeFits : ℕ → World → List Sent → ℕ → Node → Type 0
NodeFits n w sent p (up_node a) = UpFits n w p a
NodeFits n w sent p (down_node x) = DownFits n w sent p x

-- the packet is not of the round that this process is in
abbrev pub IsOutOfRound : Sent → ℕ → Option NodeRound → Type 0
IsOutOfRound new s None = Unit {0}
IsOutOfRound new s (Some nr) = is_of_round new s nr.name ≡ false

abbrev pub IsOutOf : Sent → ℕ → Node → Type 0
IsOutOf new s (up_node a) = Unit {0}
IsOutOf new s (down_node x) = IsOutOfRound new s x.round

-- whether the process is in the round of this name
abbrev pub names_round : ℕ → Option NodeRound → Bool
names_round name None = false
names_round name (Some nr) = name == nr.name

abbrev pub is_in_round : ℕ → Node → Bool
is_in_round name (up_node a) = false
is_in_round name (down_node x) = names_round name x.round

-- the world represents the network
pub record Represents (n : ℕ) (net : Network) (w : World) : Type 0 where
  pub past : w.past ≡ net.past
  pub nodes : (p : ℕ) → p < n → NodeFits n w net.sent p (net.nodes p)
  pub packets : (k : Sent) → WasSent net.sent k → PacketFits n w k
  pub stored : (d : Det) → w.stored d ≡ net.stored d
  pub floors : (z : ℕ) → z < n → w.rounds.floors n z ≡ net.floors z
  -- from some number on no packet has been sent
  pub free : (i : ℕ) × ((j : ℕ) → i ≤ j → w.packets j ≡ None)
