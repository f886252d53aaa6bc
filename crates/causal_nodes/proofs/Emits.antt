-- A process that is up sends something of its log.
use Rattle.std.proofs.Common.{ℕ, suc, ◌≡◌, ◌<◌, ◌≤◌, inl, inr, true, false, List, ◌∷◌, length, Some, None, refl, sym, ap, subst, ◌∙◌, arith}
use Rattle.std.specs.Prelude.{◌⊎◌}
use Rattle.causal_name.specs.declared.Pid.{Pid}
use Rattle.causal_name.specs.declared.MsgName.{MsgName}
use Rattle.causal_name.specs.declared.Det.{Det}
use Rattle.causal_name.specs.Sets.{count_below}
use Rattle.causal_holders.proofs.Lemmas.MemberCounts.{count_below-same}
use Rattle.causal_trace.specs.declared.entry.Entry.{Entry}
use Rattle.causal_trace.specs.declared.entry.Entry.TheVariants.{Send}
use Rattle.causal_trace.specs.Past.{logs}
use Rattle.causal_rounds.specs.Rounds.{with_value_at}
use Rattle.causal_rounds.proofs.Lemmas.RoundSteps.{set_at_cases, none_some, set_at_here, set_at_away}
use Rattle.causal_world.specs.World.{Packet, World}
use Rattle.causal_world.specs.Steps.{IsSentBy}
use Rattle.causal_world.specs.Steps as world
use Rattle.causal_world.specs.Reachable.{IsReachableWorld, next_world}
use Rattle.causal_nodes.specs.Node.{UpNode, up_node}
use Rattle.causal_nodes.specs.Packets.{Sent, message_packet, is_of_round}
use Rattle.causal_nodes.specs.NodeSteps.{IsOfNodeLog, with_one_sent}
use Rattle.causal_nodes.specs.Network.{Network}
use Rattle.causal_nodes.proofs.Represents.{UpFits, IsPacket, PacketFits, NodeFits, Represents}
use Rattle.causal_nodes.proofs.Kept.{IsLater, IsUntouched, packets_and_one, node_kept, node_and_one, nodes_and_one}
use Rattle.causal_nodes.proofs.Context.{IsWorldOf, message_older, message_newest, up_in_past}

module _ (n f : ℕ) (net : Network) (w : World) (reach : IsReachableWorld n f w) (rep : Represents n net w) (me : Pid) (low : me.0 < n) (a : UpNode) (fits : UpFits n w me.0 a) (new : Packet) (s : IsOfNodeLog me.0 a new) where
  -- the number of the packet in the world
  abbrev pub i : ℕ
  i = rep.free.0

  abbrev pub with_packet : List Entry → World
  with_packet past = record w { past = past; packets = with_value_at w.packets i (Some new) }

  pub is_free : w.packets i ≡ None
  is_free = rep.free.1 i (omega arith)

  pub is_sent : IsSentBy n w me.0 i new
  is_sent = record {
    free = is_free;
    lane = s.lane ∙ sym fits.lane;
    of_log = record {
      process = low;
      up = up_in_past n f net w reach rep me.0 low fits.is_up;
      from = s.from;
      logged = λ d h. sym (fits.log.has d) ∙ s.logged d h;
      known_holders = λ d q h. let old = s.known_holders d q h in (sym (fits.log.holder d q) ∙ old.0, old.1);
      known_stable = λ d h. sym (fits.log.stable d) ∙ s.known_stable d h;
      names_sender = s.names_sender;
    };
  }

  pub still : (j : ℕ) (p : Packet) → w.packets j ≡ Some p → with_value_at w.packets i (Some new) j ≡ Some p
  still j p at = elim (set_at_cases w.packets i (Some new) j) [ inl is ↦ absurd (none_some p (sym is_free ∙ ap w.packets (sym is.0) ∙ at)) | inr other ↦ other.1 ∙ at ]

  pub free_after : (j : ℕ) × ((m : ℕ) → j ≤ m → with_value_at w.packets i (Some new) m ≡ None)
  free_after = (suc i, λ m above. set_at_away w.packets i (Some new) m (λ e. omega (arith, above, e)) ∙ rep.free.1 m (omega (arith, above)))

  pub new_packet : (past : List Entry) → IsPacket n (with_packet past) new
  new_packet past = (i, set_at_here w.packets i (Some new), subst (λ p. p < n) (sym s.from) low)

  pub silent_later : IsLater w (with_packet w.past)
  silent_later = record { numbers = λ q. omega arith; packets = still; stable = λ d h. h; stored = λ d h. h; messages = λ send m h. h }

  -- a packet that is not a message
  pub emits_silently : (k : Sent) → PacketFits n (with_packet w.past) k → ((q name : ℕ) → is_of_round k q name ≡ false) → new.parcel.send ≡ None
      → IsWorldOf n f (record { past = net.past; nodes = with_value_at net.nodes me.0 (up_node a); sent = k ∷ net.sent; stored = net.stored; floors = net.floors })
  emits_silently k k_fits no_round none = (
    with_packet w.past,
    next_world w (with_packet w.past) reach (world.acknowledge me.0 i new is_sent none),
    assumption (
      nodes_and_one n (with_packet w.past) (k ∷ net.sent) net.nodes me.0 (up_node a) mine (λ q low_q other. others q low_q),
      packets_and_one n w (with_packet w.past) silent_later net.sent k rep.packets k_fits,
      free_after,
    ),
  )
    where
      same : (q : ℕ) → IsUntouched w (with_packet w.past) q
      same q = assumption

      mine : UpFits n (with_packet w.past) me.0 a
      mine = node_kept n w (with_packet w.past) silent_later me.0 (same me.0) net.sent (up_node a) fits

      others : (q : ℕ) → q < n → NodeFits n (with_packet w.past) (k ∷ net.sent) q (net.nodes q)
      others q low_q = node_and_one n (with_packet w.past) net.sent k q (no_round q) (net.nodes q) (node_kept n w (with_packet w.past) silent_later q (same q) net.sent (net.nodes q) (rep.nodes q low_q))

  -- a message
  module _ (to : Pid) (position : new.parcel.send ≡ Some (length net.past)) (left_out : (d : Det) → a.log.has d ≡ true → (new.parcel.carries d ≡ true) ⊎ ((a.log.stable d ≡ true) ⊎ (f < count_below n (a.log.holder d)))) where
    abbrev name : MsgName
    name = record { source = me; ssn = a.sent }

    abbrev entry : Entry
    entry = Send me to a.sent

    abbrev after : World
    after = with_packet (entry ∷ w.past)

    at_length : new.parcel.send ≡ Some (length w.past)
    at_length = position ∙ ap (λ (t : List Entry). Some (length t)) (sym rep.past)

    left_out_known : (d : Det) → logs w.past me.0 d ≡ true → (new.parcel.carries d ≡ true) ⊎ ((w.knows_stable me.0 d ≡ true) ⊎ (f < count_below n (w.knows_holder me.0 d)))
    left_out_known d h = by (left_out d (fits.log.has d ∙ h))
      where
        by : (new.parcel.carries d ≡ true) ⊎ ((a.log.stable d ≡ true) ⊎ (f < count_below n (a.log.holder d))) → (new.parcel.carries d ≡ true) ⊎ ((w.knows_stable me.0 d ≡ true) ⊎ (f < count_below n (w.knows_holder me.0 d)))
        by (inl carries) = inl carries
        by (inr (inl stable)) = inr (inl (sym (fits.log.stable d) ∙ stable))
        by (inr (inr many)) = inr (inr (subst (λ m. f < m) (count_below-same n (a.log.holder d) (w.knows_holder me.0 d) (λ q low_q. fits.log.holder d q)) many))

    later : IsLater w after
    later = record { numbers = λ q. omega arith; packets = still; stable = λ d h. h; stored = λ d h. h; messages = message_older entry w.past }

    same : (q : ℕ) → IsUntouched w after q
    same q = assumption

    mine : UpFits n after me.0 (with_one_sent a)
    mine = let old : UpFits n after me.0 a = node_kept n w after later me.0 (same me.0) net.sent (up_node a) fits in record { is_up = old.is_up; lane = old.lane; log = old.log; floors = old.floors; received = old.received }

    pub sends : IsWorldOf n f (record { past = entry ∷ net.past; nodes = with_value_at net.nodes me.0 (up_node (with_one_sent a)); sent = message_packet name new ∷ net.sent; stored = net.stored; floors = net.floors })
    sends = (
      after,
      next_world w after reach (world.send me to a.sent i new is_sent at_length left_out_known),
      assumption (
        ap (λ t. entry ∷ t) rep.past,
        nodes_and_one n after (message_packet name new ∷ net.sent) net.nodes me.0 (up_node (with_one_sent a)) mine
            (λ q low_q other. node_and_one n after net.sent (message_packet name new) q (λ round. refl) (net.nodes q) (node_kept n w after later q (same q) net.sent (net.nodes q) (rep.nodes q low_q))),
        packets_and_one n w after later net.sent (message_packet name new) rep.packets (new_packet (entry ∷ w.past), (length w.past, at_length, message_newest entry w.past)),
        free_after,
      ),
    )
