-- What stays true of nodes and packets while others make steps.
use Rattle.std.proofs.Common.{ℕ, ◌≡◌, ◌<◌, ◌≤◌, inl, inr, true, false, List, ◌∷◌, Option, Some, None, refl, sym, ap, subst, ◌∙◌, arith, Bool, ◌&&◌}
use Rattle.std.specs.Prelude.{◌⊎◌, ◌==◌}
use Rattle.std.proofs.lemmas.Bool.{false≢true, both_ways, and_from, and_left, and_right, cases_eq, eq-eqb, ne_eqb, eqb-true}
use Rattle.causal_name.specs.declared.MsgName.{MsgName}
use Rattle.causal_name.specs.declared.Det.{Det}
use Rattle.causal_trace.specs.Past.{logs, is_stable, deliveries, message_at}
use Rattle.causal_rounds.specs.Rounds.{with_value_at, Round, number}
use Rattle.causal_rounds.proofs.Lemmas.RoundSteps.{set_at_cases}
use Rattle.causal_world.specs.World.{Packet, World, GatheredFrom}
use Rattle.causal_nodes.specs.Node.{UpNode, NodeRound, DownNode, Node, up_node, down_node}
use Rattle.causal_nodes.specs.Packets.{Sent, message_packet, acknowledgement_packet, write_packet, written_packet, question_packet, answer_packet, not_up_packet, read_packet, stored_packet, number_packet, WasSent, is_of_round}
use Rattle.causal_nodes.proofs.Represents.{LogFits, IsPacket, IsTold, PacketFits, ReplyFits, IsToldBy, NamesHolderTo, Told, GatheringFits, RoundFits, NodeFits, IsOutOfRound, IsOutOf, names_round, is_in_round}

-- what never goes back
pub record IsLater (w x : World) : Type 0 where
  pub numbers : (q : ℕ) → number w.rounds q ≤ number x.rounds q
  pub packets : (i : ℕ) (p : Packet) → w.packets i ≡ Some p → x.packets i ≡ Some p
  pub stable : (d : Det) → is_stable w.past d ≡ true → is_stable x.past d ≡ true
  pub stored : (d : Det) → w.stored d ≡ true → x.stored d ≡ true
  pub messages : (send : ℕ) (m : MsgName) → message_at w.past send ≡ Some m → message_at x.past send ≡ Some m

-- the world has the same of q
pub record IsUntouched (w x : World) (q : ℕ) : Type 0 where
  pub is_down : x.rounds.down q ≡ w.rounds.down q
  pub lane : x.rounds.lane q ≡ w.rounds.lane q
  pub floors : x.rounds.floors q ≡ w.rounds.floors q
  pub round : x.rounds.rounds q ≡ w.rounds.rounds q
  pub gathered : x.gathered q ≡ w.gathered q
  pub holders : x.knows_holder q ≡ w.knows_holder q
  pub stables : x.knows_stable q ≡ w.knows_stable q
  pub logged : (d : Det) → logs x.past q d ≡ logs w.past q d
  pub received : deliveries x.past q ≡ deliveries w.past q

-- a packet of a round is still one of it when more have replied, and more was heard and taken
module _ (n : ℕ) (w x : World) (s : ℕ) (nr more : NodeRound) (r : Round) (replied answered : ℕ → Bool) (still_replied : (z : ℕ) → r.replied z ≡ true → replied z ≡ true)
    (still_answered : (z : ℕ) → r.answered z ≡ true → answered z ≡ true) (still_silent : (z : ℕ) → r.replied z ≡ true → r.answered z ≡ false → answered z ≡ false)
    (heard : (q : ℕ) → nr.heard q ≡ true → more.heard q ≡ true) (has : (d : Det) → nr.gathered.has d ≡ true → more.gathered.has d ≡ true)
    (gathered : r.replied n ≡ true → (d : Det) → x.gathered s d ≡ true → w.gathered s d ≡ true) where
  pub reply_kept : (k : Sent) → ReplyFits n w s nr r k → ReplyFits n x s more (record { view = r.view; replied = replied; answered = answered }) k
  reply_kept (message_packet name p) h = tt
  reply_kept (acknowledgement_packet p) h = tt
  reply_kept (write_packet p) h = tt
  reply_kept (written_packet dets) h = tt
  reply_kept (question_packet from name view) h = h
  reply_kept (answer_packet name p) h = (still_replied p.parcel.from h.0, still_answered p.parcel.from h.1, h.2)
  reply_kept (not_up_packet from to name) h = (still_replied from h.0, still_silent from h.0 h.1)
  reply_kept (read_packet from name view) h = (h.0, λ q low other. heard q (h.1 q low other))
  reply_kept (stored_packet to name dets) h = (still_replied n h.0, λ d now. elim (h.1 d (gathered h.0 d now)) [ inl old ↦ inl (has d old) | inr told ↦ inr told ])
  reply_kept (number_packet from m) h = tt

module _ (n : ℕ) (w x : World) (later : IsLater w x) where
  pub packet_later : (p : Packet) → IsPacket n w p → IsPacket n x p
  packet_later p h = (h.0, later.packets h.0 p h.1, h.2)

  pub told_later : (view : ℕ → ℕ) → IsTold n w view → IsTold n x view
  told_later view h z low = let a = h z low in let b = later.numbers z in omega (arith, a, b)

  pub packet_fits_later : (k : Sent) → PacketFits n w k → PacketFits n x k
  packet_fits_later (message_packet name p) h = (packet_later p h.0, (h.1.0, h.1.1, later.messages h.1.0 name h.1.2))
  packet_fits_later (acknowledgement_packet p) h = packet_later p h
  packet_fits_later (write_packet p) h = (packet_later p h.0, h.1)
  packet_fits_later (written_packet dets) h = λ d has. later.stored d (h d has)
  packet_fits_later (question_packet from name view) h = (h.0, told_later view h.1)
  packet_fits_later (answer_packet name p) h = (packet_later p h.0, (λ d named. later.stable d (h.1 d named)), h.2)
  packet_fits_later (not_up_packet from to name) h = h
  packet_fits_later (read_packet from name view) h = (h.0, told_later view h.1)
  packet_fits_later (stored_packet to name dets) h = λ d has. later.stored d (h d has)
  packet_fits_later (number_packet from m) h = let b = later.numbers from in omega (arith, h, b)

  -- the packets that were sent, and a new one
  pub packets_and_one : (sent : List Sent) (new : Sent) → ((k : Sent) → WasSent sent k → PacketFits n w k) → PacketFits n x new → (k : Sent) → WasSent (new ∷ sent) k → PacketFits n x k
  packets_and_one sent new old fits k (inl is) = subst (λ y. PacketFits n x y) is fits
  packets_and_one sent new old fits k (inr was) = packet_fits_later k (old k was)

  pub packets_later : (sent : List Sent) → ((k : Sent) → WasSent sent k → PacketFits n w k) → (k : Sent) → WasSent sent k → PacketFits n x k
  packets_later sent old k was = packet_fits_later k (old k was)

  pub gathered_later : (s : ℕ) (r : Round) (d : Det) → GatheredFrom w s r d → GatheredFrom x s r d
  gathered_later s r d h = (h.0, h.1, later.packets h.0 h.1 h.2, h.3, h.4, h.5, h.6)

  pub holder_later : (s : ℕ) (r : Round) (d : Det) (q : ℕ) → NamesHolderTo w s r d q → NamesHolderTo x s r d q
  holder_later s r d q h = (h.0, h.1, later.packets h.0 h.1 h.2, h.3, h.4, h.5, h.6)

  pub or_stable_later : {A : Type 0} (d : Det) → A ⊎ (is_stable w.past d ≡ true) → A ⊎ (is_stable x.past d ≡ true)
  or_stable_later d (inl a) = inl a
  or_stable_later d (inr stable) = inr (later.stable d stable)

  pub told_by_later : (sent : List Sent) (s : ℕ) (nr : NodeRound) (r : Round) (d : Det) (y : ℕ) → IsToldBy w sent s nr r d y → IsToldBy x sent s nr r d y
  told_by_later sent s nr r d y h = record {
    answered = h.answered;
    packet = let p = h.packet in (p.0, p.1, later.packets p.0 p.1 p.2, p.3, p.4, p.5);
    answers = λ p was to from. or_stable_later d (h.answers p was to from);
    taken = λ heard. or_stable_later d (h.taken heard);
  }

  pub all_told_later : (sent : List Sent) (s : ℕ) (nr : NodeRound) (r : Round) (d : Det) → Told n w sent s nr r d → Told n x sent s nr r d
  all_told_later sent s nr r d (inl h) = inl (h.0, h.1, told_by_later sent s nr r d h.0 h.2)
  all_told_later sent s nr r d (inr h) = inr (h.0, later.stored d h.1)

  module _ (s : ℕ) (same : (d : Det) → x.gathered s d ≡ w.gathered s d) where
    pub gathering_later : (sent : List Sent) (nr : NodeRound) (r : Round) → GatheringFits n w sent s nr r → GatheringFits n x sent s nr r
    gathering_later sent nr r g = record {
      view = g.view;
      heard = g.heard;
      gathered = λ d has. elim (g.gathered d has) [ inl from ↦ inl (gathered_later s r d from) | inr stable ↦ inr (later.stable d stable) ];
      holders = λ d q has. let old = g.holders d q has in (old.0, holder_later s r d q old.1);
      stable = λ d has. later.stable d (g.stable d has);
      storage = λ heard. let old = g.storage heard in (old.0, λ d has. old.1 d (sym (same d) ∙ has));
      told = λ d has. all_told_later sent s nr r d (g.told d (sym (same d) ∙ has));
      replies = λ k was of. reply_kept n w x s nr nr r r.replied r.answered (λ z h. h) (λ z h. h) (λ z h silent. silent) (λ q h. h) (λ d h. h) (λ h d has. sym (same d) ∙ has) k (g.replies k was of);
    }

  module _ (q : ℕ) (same : IsUntouched w x q) where
    pub log_kept : (a : UpNode) → LogFits w q a.log → LogFits x q a.log
    log_kept a h = record { has = λ d. h.has d ∙ sym (same.logged d); holder = λ d p. h.holder d p ∙ (λ j. sym same.holders j d p); stable = λ d. h.stable d ∙ (λ j. sym same.stables j d) }

    pub node_kept : (sent : List Sent) (node : Node) → NodeFits n w sent q node → NodeFits n x sent q node
    node_kept sent (up_node a) h = record {
      is_up = same.is_down ∙ h.is_up;
      lane = same.lane ∙ h.lane;
      log = log_kept a h.log;
      floors = λ z low. (λ j. same.floors j z) ∙ h.floors z low;
      received = h.received ∙ sym same.received;
    }
    node_kept sent (down_node y) h = record { is_down = same.is_down ∙ h.is_down; lane = same.lane ∙ h.lane; told = told_later y.told h.told; round = round_kept y.round h.round }
      where
        round_kept : (o : Option NodeRound) → RoundFits n w sent q o → RoundFits n x sent q o
        round_kept None at = same.round ∙ at
        round_kept (Some nr) h = (h.0, same.round ∙ h.1, gathering_later q (λ d j. same.gathered j d) sent nr h.0 h.2)

-- one packet more, which is not of the round that s is in
module _ (n : ℕ) (w : World) (sent : List Sent) (new : Sent) (s : ℕ) where
  pub not_its_answer : (name : ℕ) → is_of_round new s name ≡ false → (p : Packet) → new ≡ answer_packet name p → p.to ≡ s → ⊥
  not_its_answer name other p is to =
      both_ways (is_of_round new s name) other (ap (λ k. is_of_round k s name) is ∙ and_from (p.to == s) (name == name) (eq-eqb p.to s to) (eq-eqb name name refl))

  -- a packet more: if it is an answer, it has what was told, or that is stable
  module _ (nr : NodeRound) (r : Round) (answer : (d : Det) (y : ℕ) → IsToldBy w sent s nr r d y → (p : Packet) → new ≡ answer_packet nr.name p → p.to ≡ s → p.parcel.from ≡ y → (p.parcel.carries d ≡ true) ⊎ (is_stable w.past d ≡ true))
      (fits : is_of_round new s nr.name ≡ true → ReplyFits n w s nr r new) where
    told_by_more : (d : Det) (y : ℕ) → IsToldBy w sent s nr r d y → IsToldBy w (new ∷ sent) s nr r d y
    told_by_more d y b =
        let answers : (p : Packet) → WasSent (new ∷ sent) (answer_packet nr.name p) → p.to ≡ s → p.parcel.from ≡ y → (p.parcel.carries d ≡ true) ⊎ (is_stable w.past d ≡ true)
        = λ p was to from. elim was [ inl is ↦ answer d y b p is to from | inr old ↦ b.answers p old to from ] in
        assumption

    pub gathering_more : GatheringFits n w sent s nr r → GatheringFits n w (new ∷ sent) s nr r
    gathering_more g =
        let told : (d : Det) → w.gathered s d ≡ true → Told n w (new ∷ sent) s nr r d = λ d has. elim (g.told d has) [ inl b ↦ inl (b.0, b.1, told_by_more d b.0 b.2) | inr h ↦ inr h ] in
        let replies : (k : Sent) → WasSent (new ∷ sent) k → is_of_round k s nr.name ≡ true → ReplyFits n w s nr r k
        = λ k was of. elim was [ inl is ↦ subst (λ y. ReplyFits n w s nr r y) is (fits (ap (λ y. is_of_round y s nr.name) is ∙ of)) | inr old ↦ g.replies k old of ] in
        assumption

  pub gathering_and_one : (nr : NodeRound) → is_of_round new s nr.name ≡ false → (r : Round) → GatheringFits n w sent s nr r → GatheringFits n w (new ∷ sent) s nr r
  gathering_and_one nr other r g = gathering_more nr r (λ d y b p is to from. absurd (not_its_answer nr.name other p is to)) (λ of. absurd (both_ways (is_of_round new s nr.name) other of)) g

  pub round_out_and_one : (o : Option NodeRound) → IsOutOfRound new s o → RoundFits n w sent s o → RoundFits n w (new ∷ sent) s o
  round_out_and_one None other at = at
  round_out_and_one (Some nr) other h = (h.0, h.1, gathering_and_one nr other h.0 h.2)

  pub node_out_and_one : (node : Node) → IsOutOf new s node → NodeFits n w sent s node → NodeFits n w (new ∷ sent) s node
  node_out_and_one (up_node a) other h = h
  node_out_and_one (down_node y) other h = record { is_down = h.is_down; lane = h.lane; told = h.told; round = round_out_and_one y.round other h.round }

-- a packet of no round of s, and one of another round of it
pub out_of_all : (new : Sent) (s : ℕ) → ((name : ℕ) → is_of_round new s name ≡ false) → (node : Node) → IsOutOf new s node
out_of_all new s other (up_node a) = tt
out_of_all new s other (down_node y) = by y.round
  where
    by : (o : Option NodeRound) → IsOutOfRound new s o
    by None = tt
    by (Some nr) = other nr.name

pub out_of_other : (new : Sent) (s name : ℕ) → ((x : ℕ) → (name == x) ≡ false → is_of_round new s x ≡ false) → (node : Node) → is_in_round name node ≡ false → IsOutOf new s node
out_of_other new s name other (up_node a) out = tt
out_of_other new s name other (down_node y) out = by y.round out
  where
    by : (o : Option NodeRound) → names_round name o ≡ false → IsOutOfRound new s o
    by None out = tt
    by (Some nr) out = other nr.name out

-- a packet of this round of s, while s is in another one, or for the others
module _ (new : Sent) (s name : ℕ) (nodes : ℕ → Node) (of : (q x : ℕ) → ((s == q) && (name == x)) ≡ false → is_of_round new q x ≡ false) where
  pub out_of_rest : (q : ℕ) → (q ≡ s → ⊥) → IsOutOf new q (nodes q)
  out_of_rest q other = out_of_all new q (λ round. of q round (and_left (s == q) (name == round) (ne_eqb s q (λ e. other (sym e))))) (nodes q)

  pub out_of_each : is_in_round name (nodes s) ≡ false → (q : ℕ) → IsOutOf new q (nodes q)
  out_of_each out q = elim (cases_eq q s) [
    | inl here ↦ subst (λ z. IsOutOf new z (nodes z)) (sym here) (out_of_other new s name (λ round h. of s round (and_right (s == s) (name == round) h)) (nodes s) out)
    | inr other ↦ out_of_rest q other
  ]

pub node_and_one : (n : ℕ) (w : World) (sent : List Sent) (new : Sent) (s : ℕ) → ((name : ℕ) → is_of_round new s name ≡ false) → (node : Node) → NodeFits n w sent s node → NodeFits n w (new ∷ sent) s node
node_and_one n w sent new s other node h = node_out_and_one n w sent new s node (out_of_all new s other node) h

-- the round that a process is in
pub round_in : (name : ℕ) (node : Node) → is_in_round name node ≡ true → (x : DownNode) × (nr : NodeRound) × (node ≡ down_node x) × (x.round ≡ Some nr) × (name ≡ nr.name)
round_in name (up_node a) h = absurd (false≢true h)
round_in name (down_node x) h = by x.round refl h
  where
    by : (o : Option NodeRound) → x.round ≡ o → names_round name o ≡ true → (y : DownNode) × (nr : NodeRound) × (down_node x ≡ down_node y) × (y.round ≡ Some nr) × (name ≡ nr.name)
    by None is h = absurd (false≢true h)
    by (Some nr) is h = (x, nr, refl, is, eqb-true name nr.name h)

-- the nodes, one of them changed
pub nodes_and_one : (n : ℕ) (x : World) (sent : List Sent) (nodes : ℕ → Node) (me : ℕ) (node : Node) → NodeFits n x sent me node → ((q : ℕ) → q < n → (q ≡ me → ⊥) → NodeFits n x sent q (nodes q)) → (p : ℕ) → p < n → NodeFits n x sent p (with_value_at nodes me node p)
nodes_and_one n x sent nodes me node mine others p low = elim (set_at_cases nodes me node p) [
  | inl is ↦ subst (λ y. NodeFits n x sent p y) (sym is.1) (subst (λ q. NodeFits n x sent q node) (sym is.0) mine)
  | inr other ↦ subst (λ y. NodeFits n x sent p y) (sym other.1) (others p low other.0)
]
