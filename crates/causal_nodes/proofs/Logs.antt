-- A process that is up delivers, learns, records what is stable, or forgets.
use Rattle.std.proofs.Common.{ℕ, ◌+◌, ◌≡◌, ◌<◌, ◌≤◌, inl, inr, Bool, true, false, not, ◌&&◌, ◌||◌, List, [], ◌∷◌, length, Some, sym, ap, subst, ◌∙◌, arith}
use Rattle.std.specs.Prelude.{◌⊎◌, ◌==◌}
use Rattle.std.proofs.lemmas.Bool.{or_cases, or_left, or_right, and_parts, and_from, eqb-true, cond-true, cond-false}
use Rattle.std.proofs.lemmas.List.{length-append}
use Rattle.causal_name.specs.declared.Pid.{Pid}
use Rattle.causal_name.specs.declared.MsgName.{MsgName}
use Rattle.causal_name.specs.declared.Det.{Det}
use Rattle.causal_name.specs.Names.{same_det, message_of}
use Rattle.causal_trace.specs.declared.entry.Entry.{Entry}
use Rattle.causal_trace.specs.declared.entry.Entry.TheVariants.{Deliver, Stable, Forget}
use Rattle.causal_trace.specs.Past.{list_has, logs, is_stable, deliveries, message_at, det_from}
use Rattle.causal_rounds.specs.Rounds.{with_value_at}
use Rattle.causal_rounds.proofs.Lemmas.RoundSteps.{set_at_cases, some_is, set_at_here, set_at_away}
use Rattle.causal_world.specs.World.{Packet, World}
use Rattle.causal_world.specs.Steps as world
use Rattle.causal_world.specs.Reachable.{IsReachableWorld, next_world}
use Rattle.causal_nodes.specs.Node.{NodeLog, UpNode, Node, up_node}
use Rattle.causal_nodes.specs.Packets.{message_packet, acknowledgement_packet, written_packet, WasSent}
use Rattle.causal_nodes.specs.NodeSteps.{with_node_log, node_log_after_delivery, up_after_delivery, log_after_acknowledgement, log_after_mark, log_without}
use Rattle.causal_nodes.specs.Network.{Network}
use Rattle.causal_nodes.proofs.Represents.{UpFits, IsPacket, NodeFits, Represents}
use Rattle.causal_nodes.proofs.Kept.{IsLater, IsUntouched, packets_later, node_kept, nodes_and_one}
use Rattle.causal_nodes.proofs.Context.{IsWorldOf, message_older, own_or, away_or, same_is, other_is}

module _ (n f : ℕ) (net : Network) (w : World) (reach : IsReachableWorld n f w) (rep : Represents n net w) (me : Pid) (low : me.0 < n) (a : UpNode) (fits : UpFits n w me.0 a) where
  -- the world with other entries and other knowledge
  abbrev with_knowledge : List Entry → (ℕ → Det → ℕ → Bool) → (ℕ → Det → Bool) → World
  with_knowledge past holders stables = record w { past = past; knows_holder = holders; knows_stable = stables }

  -- the network after a step of me that sends nothing
  abbrev after_step : Node → List Entry → Network
  after_step node past = record { past = past; nodes = with_value_at net.nodes me.0 node; sent = net.sent; stored = net.stored; floors = net.floors }

  represents : (past next : List Entry) (holders : ℕ → Det → ℕ → Bool) (stables : ℕ → Det → Bool) (node : Node) → past ≡ next → IsLater w (with_knowledge past holders stables)
      → NodeFits n (with_knowledge past holders stables) net.sent me.0 node → ((q : ℕ) → (q ≡ me.0 → ⊥) → IsUntouched w (with_knowledge past holders stables) q)
      → Represents n (after_step node next) (with_knowledge past holders stables)
  represents past next holders stables node is later mine same = assumption (
    nodes_and_one n (with_knowledge past holders stables) net.sent net.nodes me.0 node mine (λ q low_q other. node_kept n w (with_knowledge past holders stables) later q (same q other) net.sent (net.nodes q) (rep.nodes q low_q)),
    packets_later n w (with_knowledge past holders stables) later net.sent rep.packets,
  )

  module _ (name : MsgName) (p : Packet) (send : ℕ) (listed : List Det) (was : WasSent net.sent (message_packet name p)) (mine : p.to ≡ me.0) (floor : a.floors p.parcel.from ≤ p.lane) (at_send : p.parcel.send ≡ Some send)
      (only : (d : Det) → a.log.has d ≡ true → d.dest ≡ me → d.rsn ≡ length a.received → message_of d ≡ name)
      (lists : (d : Det) → list_has listed d ≡ (same_det d (det_from me (length a.received) name) || p.parcel.carries d)) where
    abbrev log : NodeLog
    log = node_log_after_delivery me.0 listed p.parcel a.log

    abbrev known : ℕ → Det → ℕ → Bool
    known = with_value_at w.knows_holder me.0 log.holder

    abbrev entry : Entry
    entry = Deliver me send (length a.received) listed

    abbrev after : World
    after = with_knowledge (entry ∷ w.past) known w.knows_stable

    packet : IsPacket n w p × ((position : ℕ) × (p.parcel.send ≡ Some position) × (message_at w.past position ≡ Some name))
    packet = rep.packets (message_packet name p) was

    sent : message_at w.past send ≡ Some name
    sent = subst (λ m. message_at w.past m ≡ Some name) (some_is packet.1.0 send (sym packet.1.1 ∙ at_send)) packet.1.2

    new_known : (x : ℕ) (d : Det) (q : ℕ) → known x d q ≡ true → (w.knows_holder x d q ≡ true) ⊎ ((me.0 ≡ x) × (list_has listed d ≡ true) × ((p.parcel.names_holder d q ≡ true) ⊎ (q ≡ me.0)))
    new_known x d q h = elim (set_at_cases w.knows_holder me.0 log.holder x) [
      | inl is ↦ by is.0 (or_cases (list_has listed d && (p.parcel.names_holder d q || q == me.0)) (a.log.holder d q) (sym (ap (λ (g : Det → ℕ → Bool). g d q) is.1) ∙ h))
      | inr other ↦ inl (sym (ap (λ (g : Det → ℕ → Bool). g d q) other.1) ∙ h)
    ]
      where
        by : x ≡ me.0 → ((list_has listed d && (p.parcel.names_holder d q || q == me.0)) ≡ true) ⊎ (a.log.holder d q ≡ true) → (w.knows_holder x d q ≡ true) ⊎ ((me.0 ≡ x) × (list_has listed d ≡ true) × ((p.parcel.names_holder d q ≡ true) ⊎ (q ≡ me.0)))
        by is (inl learned) =
            let parts = and_parts (list_has listed d) (p.parcel.names_holder d q || q == me.0) learned in
            inr (sym is, parts.0, elim (or_cases (p.parcel.names_holder d q) (q == me.0) parts.1) [ inl named ↦ inl named | inr self ↦ inr (eqb-true q me.0 self) ])
        by is (inr old) = inl (ap (λ y. w.knows_holder y d q) is ∙ sym (fits.log.holder d q) ∙ old)

    itself : (d : Det) → list_has listed d ≡ true → known me.0 d me.0 ≡ true
    itself d h =
        ap (λ (g : Det → ℕ → Bool). g d me.0) (set_at_here w.knows_holder me.0 log.holder)
        ∙ or_left (list_has listed d && (p.parcel.names_holder d me.0 || me.0 == me.0)) (a.log.holder d me.0) (and_from (list_has listed d) (p.parcel.names_holder d me.0 || me.0 == me.0) h (or_right (p.parcel.names_holder d me.0) (me.0 == me.0) (same_is me.0)))

    keeps : (x : ℕ) (d : Det) (q : ℕ) → w.knows_holder x d q ≡ true → known x d q ≡ true
    keeps x d q h = grind (arith, set_at_cases w.knows_holder me.0 log.holder x, fits.log.holder d q, h)

    later : IsLater w after
    later = record { numbers = λ q. omega arith; packets = λ i t at. at; stable = λ d h. h; stored = λ d h. h; messages = message_older entry w.past }

    same : (q : ℕ) → (q ≡ me.0 → ⊥) → IsUntouched w after q
    same q other = assumption (
      set_at_away w.knows_holder me.0 log.holder q other,
      away_or (me.0 == q) (list_has listed) (logs w.past q) (other_is me.0 q other),
      cond-false (me.0 == q) (deliveries w.past q + 1) (deliveries w.past q) (other_is me.0 q other),
    )

    own : UpFits n after me.0 (up_after_delivery me.0 name listed p.parcel a)
    own = record {
      is_up = fits.is_up;
      lane = fits.lane;
      log = record {
        has = λ d. own_or (me.0 == me.0) (list_has listed d) (a.log.has d) (logs w.past me.0 d) (same_is me.0) (fits.log.has d);
        holder = λ d q. sym (ap (λ (g : Det → ℕ → Bool). g d q) (set_at_here w.knows_holder me.0 log.holder));
        stable = fits.log.stable;
      };
      floors = fits.floors;
      received = length-append a.received (name ∷ []) ∙ ap (λ m. m + 1) fits.received ∙ sym (cond-true (me.0 == me.0) (deliveries w.past me.0 + 1) (deliveries w.past me.0) (same_is me.0));
    }

    pub delivers : IsWorldOf n f (after_step (up_node (up_after_delivery me.0 name listed p.parcel a)) (entry ∷ net.past))
    delivers = (
      after,
      next_world w after reach (world.deliver me send (length a.received) listed packet.0.0 p name known low fits.is_up packet.0.1 mine (subst (λ m. m ≤ p.lane) (sym (fits.floors p.parcel.from packet.0.2)) floor) at_send sent fits.received
          (λ d has. only d (fits.log.has d ∙ has)) lists new_known itself keeps),
      represents (entry ∷ w.past) (entry ∷ net.past) known w.knows_stable (up_node (up_after_delivery me.0 name listed p.parcel a)) (ap (λ t. entry ∷ t) rep.past) later own same,
    )

  module _ (p : Packet) (was : WasSent net.sent (acknowledgement_packet p)) (mine : p.to ≡ me.0) (floor : a.floors p.parcel.from ≤ p.lane) where
    abbrev learned : NodeLog
    learned = log_after_acknowledgement p.parcel a.log

    abbrev knows : ℕ → Det → ℕ → Bool
    knows = with_value_at w.knows_holder me.0 learned.holder

    abbrev wiser : World
    wiser = with_knowledge w.past knows w.knows_stable

    acknowledgement : IsPacket n w p
    acknowledgement = rep.packets (acknowledgement_packet p) was

    learns_new : (x : ℕ) (d : Det) (q : ℕ) → knows x d q ≡ true → (w.knows_holder x d q ≡ true) ⊎ ((x ≡ me.0) × (logs w.past me.0 d ≡ true) × (p.parcel.names_holder d q ≡ true))
    learns_new x d q h = elim (set_at_cases w.knows_holder me.0 learned.holder x) [
      | inl is ↦ elim (or_cases (a.log.has d && p.parcel.names_holder d q) (a.log.holder d q) (sym (ap (λ (g : Det → ℕ → Bool). g d q) is.1) ∙ h)) [
        | inl both ↦ let parts = and_parts (a.log.has d) (p.parcel.names_holder d q) both in inr (is.0, sym (fits.log.has d) ∙ parts.0, parts.1)
        | inr old ↦ inl (ap (λ y. w.knows_holder y d q) is.0 ∙ sym (fits.log.holder d q) ∙ old)
      ]
      | inr other ↦ inl (sym (ap (λ (g : Det → ℕ → Bool). g d q) other.1) ∙ h)
    ]

    still_knows : (x : ℕ) (d : Det) (q : ℕ) → w.knows_holder x d q ≡ true → knows x d q ≡ true
    still_knows x d q h = grind (arith, set_at_cases w.knows_holder me.0 learned.holder x, fits.log.holder d q, h)

    pub learns : IsWorldOf n f (after_step (up_node (with_node_log a learned)) net.past)
    learns = (
      wiser,
      next_world w wiser reach (world.learn me.0 acknowledgement.0 p knows fits.is_up acknowledgement.1 mine (subst (λ m. m ≤ p.lane) (sym (fits.floors p.parcel.from acknowledgement.2)) floor) learns_new still_knows),
      represents w.past net.past knows w.knows_stable (up_node (with_node_log a learned)) rep.past
          (record { numbers = λ q. omega arith; packets = λ i t at. at; stable = λ d h. h; stored = λ d h. h; messages = λ send m h. h })
          (record { is_up = fits.is_up; lane = fits.lane; log = record { has = fits.log.has; holder = λ d q. sym (ap (λ (g : Det → ℕ → Bool). g d q) (set_at_here w.knows_holder me.0 learned.holder)); stable = fits.log.stable }; floors = fits.floors; received = fits.received })
          (λ q other. assumption (set_at_away w.knows_holder me.0 learned.holder q other)),
    )

  module _ (dets : Det → Bool) (det : Det) (was : WasSent net.sent (written_packet dets)) (has_det : dets det ≡ true) where
    abbrev marked : NodeLog
    marked = log_after_mark det a.log

    abbrev marks : ℕ → Det → Bool
    marks = with_value_at w.knows_stable me.0 marked.stable

    abbrev recorded : World
    recorded = with_knowledge (Stable det ∷ w.past) w.knows_holder marks

    is_stored : w.stored det ≡ true
    is_stored = (rep.packets (written_packet dets) was) det has_det

    marks_new : (x : ℕ) (d : Det) → marks x d ≡ true → (w.knows_stable x d ≡ true) ⊎ (same_det d det ≡ true)
    marks_new x d h = grind (arith, set_at_cases w.knows_stable me.0 marked.stable x, fits.log.stable d, h)

    pub marks_stable : IsWorldOf n f (after_step (up_node (with_node_log a marked)) (Stable det ∷ net.past))
    marks_stable = (
      recorded,
      next_world w recorded reach (world.write_entry det marks is_stored marks_new),
      represents (Stable det ∷ w.past) (Stable det ∷ net.past) w.knows_holder marks (up_node (with_node_log a marked)) (ap (λ t. Stable det ∷ t) rep.past)
          (record { numbers = λ q. omega arith; packets = λ i t at. at; stable = λ d h. or_right (same_det d det) (is_stable w.past d) h; stored = λ d h. h; messages = message_older (Stable det) w.past })
          (record { is_up = fits.is_up; lane = fits.lane; log = record { has = fits.log.has; holder = fits.log.holder; stable = λ d. sym (ap (λ (g : Det → Bool). g d) (set_at_here w.knows_stable me.0 marked.stable)) }; floors = fits.floors; received = fits.received })
          (λ q other. assumption (set_at_away w.knows_stable me.0 marked.stable q other)),
    )

  module _ (listed : List Det) (known_stable : (d : Det) → list_has listed d ≡ true → a.log.stable d ≡ true) (repeated : (d : Det) → list_has listed d ≡ true → d.dest.0 ≡ me.0 → d.rsn < length a.received) where
    abbrev holders_left : ℕ → Det → ℕ → Bool
    holders_left p d q = not (me.0 == p && list_has listed d) && w.knows_holder p d q

    abbrev marks_left : ℕ → Det → Bool
    marks_left p d = not (me.0 == p && list_has listed d) && w.knows_stable p d

    abbrev shorter : World
    shorter = with_knowledge (Forget me listed ∷ w.past) (λ p d q. not (me.0 == p && list_has listed d) && w.knows_holder p d q) (λ p d. not (me.0 == p && list_has listed d) && w.knows_stable p d)

    not_own : (b l x y : Bool) → b ≡ true → x ≡ y → (not l && x) ≡ (not (b && l) && y)
    not_own b l x y hb hx = grind (arith, hb, hx)

    not_away : (b l y : Bool) → b ≡ false → (not (b && l) && y) ≡ y
    not_away b l y hb = grind (arith, hb)

    pub forgets : IsWorldOf n f (after_step (up_node (with_node_log a (log_without listed a.log))) (Forget me listed ∷ net.past))
    forgets = (
      shorter,
      next_world w shorter reach (world.forget me listed low fits.is_up (λ d h. sym (fits.log.stable d) ∙ known_stable d h) (λ d h dest. subst (λ m. d.rsn < m) fits.received (repeated d h dest))),
      represents (Forget me listed ∷ w.past) (Forget me listed ∷ net.past) holders_left marks_left (up_node (with_node_log a (log_without listed a.log))) (ap (λ t. Forget me listed ∷ t) rep.past)
          (record { numbers = λ q. omega arith; packets = λ i t at. at; stable = λ d h. h; stored = λ d h. h; messages = message_older (Forget me listed) w.past })
          (record {
            is_up = fits.is_up;
            lane = fits.lane;
            log = record {
              has = λ d. not_own (me.0 == me.0) (list_has listed d) (a.log.has d) (logs w.past me.0 d) (same_is me.0) (fits.log.has d);
              holder = λ d q. not_own (me.0 == me.0) (list_has listed d) (a.log.holder d q) (w.knows_holder me.0 d q) (same_is me.0) (fits.log.holder d q);
              stable = λ d. not_own (me.0 == me.0) (list_has listed d) (a.log.stable d) (w.knows_stable me.0 d) (same_is me.0) (fits.log.stable d);
            };
            floors = fits.floors;
            received = fits.received;
          })
          (λ q other.
          let holders : shorter.knows_holder q ≡ w.knows_holder q = λ j d h. not_away (me.0 == q) (list_has listed d) (w.knows_holder q d h) (other_is me.0 q other) j in
          let stables : shorter.knows_stable q ≡ w.knows_stable q = λ j d. not_away (me.0 == q) (list_has listed d) (w.knows_stable q d) (other_is me.0 q other) j in
          let logged : (d : Det) → logs shorter.past q d ≡ logs w.past q d = λ d. not_away (me.0 == q) (list_has listed d) (logs w.past q d) (other_is me.0 q other) in
          assumption),
    )
