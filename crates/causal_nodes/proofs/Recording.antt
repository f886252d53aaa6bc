-- Each entry of a network's recording is legal where it is.
use Rattle.std.proofs.Common.{ℕ, ◌+◌, ◌≡◌, ◌<◌, inl, inr, Bool, true, false, not, ◌&&◌, List, [], ◌∷◌, ◌++◌, length, Option, Some, None, refl, sym, ap, subst, ◌∙◌, arith}
use Rattle.std.specs.Prelude.{◌==◌}
use Rattle.std.specs.List.{list_any}
use Rattle.std.specs.Option.{option_map_or}
use Rattle.std.proofs.lemmas.List.Folds.{list_any-append}
use Rattle.std.proofs.lemmas.Bool.{both_ways, or_cases, or_left, or_right, and_parts, and_from, eqb-true, eq-eqb, cond-true, cond-false, false_from_ne_true}
use Rattle.causal_name.specs.declared.Pid.{Pid}
use Rattle.causal_name.specs.declared.MsgName.{MsgName}
use Rattle.causal_name.specs.declared.Det.{Det}
use Rattle.causal_name.specs.Names.{same_message, is_ascending}
use Rattle.causal_trace.specs.declared.entry.Entry.{Entry}
use Rattle.causal_trace.specs.declared.entry.Entry.TheVariants.{Send, Deliver, Stable, Crash, Restart, Forget}
use Rattle.causal_trace.specs.Past.{list_has, is_down, sends, deliveries, message_at, entry_at, is_send_to, is_sent_to, is_message, is_delivered, has_delivered}
use Rattle.causal_steps.proofs.Lemmas.Positions.{at_newest, at_older}
use Rattle.causal_steps.proofs.Lemmas.Reachable.{reachable_safe}
use Rattle.causal_steps.specs.Transit.{Survives}
use Rattle.causal_rounds.specs.Rounds.{with_value_at}
use Rattle.causal_rounds.proofs.Lemmas.RoundSteps.{set_at_cases, some_is, set_at_here}
use Rattle.causal_world.specs.World.{Packet, volatile_of}
use Rattle.causal_nodes.specs.Node.{NodeLog, UpNode, NodeRound, DownNode, Node, up_node, down_node, lane_or_next}
use Rattle.causal_nodes.specs.Packets.{Sent, message_packet, acknowledgement_packet, write_packet, written_packet, question_packet, answer_packet, not_up_packet, read_packet, stored_packet, number_packet, WasSent, WasTaken}
use Rattle.causal_nodes.specs.NodeSteps.{raised, with_node_log, with_floors, with_one_sent, up_after_delivery, log_after_acknowledgement, log_after_mark, log_without, with_round, fallen_node, new_node_round, after_answer, with_heard, round_with_stored, up_after_restart, NodeStep, send_row, deliver_row, acknowledge_row, learn_row, write_row, mark_row, forget_row, answer_row, tell_row, hear_number_row, begin_row, not_up_row, give_up_row, hear_answer_row, hear_not_up_row, read_row, take_stored_row, hear_stored_row, restart_row}
use Rattle.causal_nodes.specs.Network.{Network, NetworkEvent, step_event, crash_event, store_event, read_event, IsNewNetwork, IsReachableNetwork, new_network, next_network, in_storage, in_log}
use Rattle.causal_nodes.specs.Recordings.{NodesRecordTraces}
use Rattle.causal_nodes.proofs.Context.{not_away, IsWorldOf, same_is, other_is, away_or, invariant, up_of, down_of, up_in_past}
use Rattle.causal_nodes.proofs.Networks.{event_steps, world_of, survives}
use Rattle.causal_nodes.proofs.Rows.{IsLegalHere, AreLegalHere, all_from, are_legal}

-- what a process that is up counts is what its entries say
abbrev NodeCounts : List Entry → ℕ → Node → Type 0
NodeCounts past p (up_node a) = (a.sent ≡ sends past p) × ((m : MsgName) → has_delivered past p m ≡ true → list_any (same_message m) a.received ≡ true)
NodeCounts past p (down_node x) = Unit {0}

-- each message was sent at its position, to its receiver
abbrev MessagesAreSent : List Entry → List Sent → Type 0
MessagesAreSent past sent = (name : MsgName) (t : Packet) → WasSent sent (message_packet name t) → (send : ℕ) → t.parcel.send ≡ Some send → (send < length past) × (is_sent_to past send t.to ≡ true)

record Counts (n : ℕ) (net : Network) : Type 0 where
  legal : AreLegalHere n net.past
  nodes : (p : ℕ) → p < n → NodeCounts net.past p (net.nodes p)
  messages : MessagesAreSent net.past net.sent

-- a determinant that is stable or survives is that of a delivery
module _ (n f : ℕ) (net : Network) (h : IsWorldOf n f net) where
  delivered : (d : Det) → Survives n h.0.past (volatile_of n h.0) d → is_delivered net.past d ≡ true
  delivered d s = subst (λ t. is_delivered t d ≡ true) h.2.past ((reachable_safe n f h.0.past (volatile_of n h.0) (invariant n f net h.0 h.1 h.2).reached).facts.survivors_delivered d s)

  logged_delivered : (p : ℕ) (a : UpNode) → p < n → net.nodes p ≡ up_node a → (d : Det) → a.log.has d ≡ true → is_delivered net.past d ≡ true
  logged_delivered p a low is d has = delivered d (survives n f net h.0 h.1 h.2 d (in_log p a low is has))

  stored_delivered : (d : Det) → net.stored d ≡ true → is_delivered net.past d ≡ true
  stored_delivered d stored = delivered d (survives n f net h.0 h.1 h.2 d (in_storage stored))

  marked_delivered : (p : ℕ) (a : UpNode) → p < n → net.nodes p ≡ up_node a → (d : Det) → a.log.stable d ≡ true → is_delivered net.past d ≡ true
  marked_delivered p a low is d marked =
      delivered d (inl ((reachable_safe n f h.0.past (volatile_of n h.0) (invariant n f net h.0 h.1 h.2).reached).facts.known_stable_true p d low (sym ((up_of n f net h.0 h.1 h.2 p a low is).log.stable d) ∙ marked)))

  up_here : (p : ℕ) (a : UpNode) → p < n → net.nodes p ≡ up_node a → is_down net.past p ≡ false
  up_here p a low is = subst (λ t. is_down t p ≡ false) h.2.past (up_in_past n f net h.0 h.1 h.2 p low (up_of n f net h.0 h.1 h.2 p a low is).is_up)

  down_here : (p : ℕ) (x : DownNode) → p < n → net.nodes p ≡ down_node x → is_down net.past p ≡ true
  down_here p x low is = subst (λ t. is_down t p ≡ true) h.2.past (sym ((invariant n f net h.0 h.1 h.2).down p low) ∙ (down_of n f net h.0 h.1 h.2 p x low is).is_down)

-- an older send is still where it was
sent_older : (e : Entry) (past : List Entry) (send to : ℕ) → send < length past → is_sent_to past send to ≡ true → is_sent_to (e ∷ past) send to ≡ true
sent_older e past send to below h = ap (λ o. option_map_or (is_send_to to) o false) (at_older send (length past) (Some e) (entry_at past send) below) ∙ h

messages_older : (e : Entry) (past : List Entry) (sent : List Sent) → MessagesAreSent past sent → MessagesAreSent (e ∷ past) sent
messages_older e past sent old name t was send at = let h = old name t was send at in (let low = h.0 in omega (arith, low), sent_older e past send t.to h.0 h.1)

messages_and_one : (past : List Entry) (sent : List Sent) (k : Sent) → ((name : MsgName) (t : Packet) → k ≡ message_packet name t → ⊥) → MessagesAreSent past sent → MessagesAreSent past (k ∷ sent)
messages_and_one past sent k other old name t (inl is) send at = absurd (other name t is)
messages_and_one past sent k other old name t (inr was) send at = old name t was send at

same_message_turned : (a b : MsgName) → same_message a b ≡ true → same_message b a ≡ true
same_message_turned a b h =
    let parts = and_parts (a.source.0 == b.source.0) (a.ssn == b.ssn) h in
    and_from (b.source.0 == a.source.0) (b.ssn == a.ssn) (eq-eqb b.source.0 a.source.0 (sym (eqb-true a.source.0 b.source.0 parts.0))) (eq-eqb b.ssn a.ssn (sym (eqb-true a.ssn b.ssn parts.1)))

any_first : (test : MsgName → Bool) (xs ys : List MsgName) → list_any test xs ≡ true → list_any test (xs ++ ys) ≡ true
any_first test xs ys h = list_any-append test xs ys ∙ or_left _ _ h

any_last : (test : MsgName → Bool) (xs : List MsgName) (y : MsgName) → test y ≡ true → list_any test (xs ++ y ∷ []) ≡ true
any_last test xs y h = list_any-append test xs (y ∷ []) ∙ or_right _ _ (or_left (test y) false h)

module _ (n : ℕ) (net : Network) (c : Counts n net) (me : ℕ) where
  abbrev after_step : Node → List Sent → List Entry → Network
  after_step node emitted entries = record { past = entries ++ net.past; nodes = with_value_at net.nodes me node; sent = emitted ++ net.sent; stored = net.stored; floors = net.floors }

  nodes_after : (past : List Entry) (node : Node) → NodeCounts past me node → ((q : ℕ) → q < n → (q ≡ me → ⊥) → NodeCounts past q (net.nodes q)) → (p : ℕ) → p < n → NodeCounts past p (with_value_at net.nodes me node p)
  nodes_after past node mine others p low = elim (set_at_cases net.nodes me node p) [
    | inl is ↦ subst (λ y. NodeCounts past p y) (sym is.1) (subst (λ q. NodeCounts past q node) (sym is.0) mine)
    | inr other ↦ subst (λ y. NodeCounts past p y) (sym other.1) (others p low other.0)
  ]

  -- a step without an entry
  quietly : (node : Node) (emitted : List Sent) → NodeCounts net.past me node → MessagesAreSent net.past (emitted ++ net.sent) → Counts n (after_step node emitted [])
  quietly node emitted mine messages = record { legal = c.legal; nodes = nodes_after net.past node mine (λ q low other. c.nodes q low); messages = messages }

  -- a step with one entry, which says nothing of what others have sent and received
  recorded : (e : Entry) (node : Node) (emitted : List Sent) → IsLegalHere n net.past e → NodeCounts (e ∷ net.past) me node
      → ((q : ℕ) → (q ≡ me → ⊥) → (sends (e ∷ net.past) q ≡ sends net.past q) × ((m : MsgName) → has_delivered (e ∷ net.past) q m ≡ has_delivered net.past q m))
      → MessagesAreSent (e ∷ net.past) (emitted ++ net.sent) → Counts n (after_step node emitted (e ∷ []))
  recorded e node emitted legal mine others messages = record {
    legal = (c.legal, legal);
    nodes = nodes_after (e ∷ net.past) node mine (λ q low other. same q (others q other) (net.nodes q) (c.nodes q low));
    messages = messages;
  }
    where
      same : (q : ℕ) → (sends (e ∷ net.past) q ≡ sends net.past q) × ((m : MsgName) → has_delivered (e ∷ net.past) q m ≡ has_delivered net.past q m) → (y : Node) → NodeCounts net.past q y → NodeCounts (e ∷ net.past) q y
      same q still (up_node a) h = (h.0 ∙ sym still.0, λ m has. h.1 m (sym (still.1 m) ∙ has))
      same q still (down_node x) h = tt

  mine_of : (node : Node) → me < n → net.nodes me ≡ node → NodeCounts net.past me node
  mine_of node low is = subst (λ y. NodeCounts net.past me y) is (c.nodes me low)

module _ (n f : ℕ) (net : Network) (c : Counts n net) (h : IsWorldOf n f net) (me : Pid) (low : me.0 < n) where
  abbrev next_of : Node → List Sent → List Entry → Network
  next_of node emitted entries = record { past = entries ++ net.past; nodes = with_value_at net.nodes me.0 node; sent = emitted ++ net.sent; stored = net.stored; floors = net.floors }

  module _ (a : UpNode) (is : net.nodes me.0 ≡ up_node a) where
    mine : NodeCounts net.past me.0 (up_node a)
    mine = mine_of n net c me.0 (up_node a) low is

    module _ (to : Pid) (new : Packet) (low_to : to.0 < n) (to_is : new.to ≡ to.0) (position : new.parcel.send ≡ Some (length net.past)) where
      abbrev name : MsgName
      name = record { source = me; ssn = a.sent }

      abbrev sending : Entry
      sending = Send me to a.sent

      same_packet : (x : MsgName) (t : Packet) → message_packet name new ≡ message_packet x t → new ≡ t
      same_packet x t e = cc

      sent_here : MessagesAreSent (sending ∷ net.past) (message_packet name new ∷ net.sent)
      sent_here x t (inl same) send at =
          let t_is : new ≡ t = same_packet x t same in
          let send_is : length net.past ≡ send = some_is (length net.past) send (sym position ∙ ap (λ (q : Packet). q.parcel.send) t_is ∙ at) in
          let to_t : t.to ≡ to.0 = ap (λ (q : Packet). q.to) (sym t_is) ∙ to_is in
          (omega (arith, send_is), ap (λ o. option_map_or (is_send_to t.to) o false) (at_newest send (length net.past) (Some sending) (entry_at net.past send) (sym send_is)) ∙ eq-eqb to.0 t.to (sym to_t))
      sent_here x t (inr older) send at = messages_older sending net.past net.sent c.messages x t older send at

      send_counts : Counts n (next_of (up_node (with_one_sent a)) (message_packet name new ∷ []) (sending ∷ []))
      send_counts = recorded n net c me.0 sending (up_node (with_one_sent a)) (message_packet name new ∷ []) (low, low_to, up_here n f net h me.0 a low is, mine.0)
          (ap (λ m. m + 1) mine.0 ∙ sym (cond-true (me.0 == me.0) (sends net.past me.0 + 1) (sends net.past me.0) (same_is me.0)), mine.1)
          (λ q other. (cond-false (me.0 == q) (sends net.past q + 1) (sends net.past q) (other_is me.0 q other), λ m. refl))
          sent_here

    module _ (name : MsgName) (p : Packet) (send : ℕ) (listed : List Det) (ascending : is_ascending listed ≡ true) (to : p.to ≡ me.0) (at_send : p.parcel.send ≡ Some send) (once : list_any (same_message name) a.received ≡ false) (was : WasSent net.sent (message_packet name p)) where
      abbrev delivery : Entry
      delivery = Deliver me send (length a.received) listed

      abbrev receiver : UpNode
      receiver = up_after_delivery me.0 name listed p.parcel a

      count : length a.received ≡ deliveries net.past me.0
      count = (up_of n f net h.0 h.1 h.2 me.0 a low is).received ∙ ap (λ t. deliveries t me.0) h.2.past

      message : message_at net.past send ≡ Some name
      message =
          let packet = h.2.packets (message_packet name p) was in
          subst (λ t. message_at t send ≡ Some name) h.2.past (subst (λ m. message_at h.0.past m ≡ Some name) (some_is packet.1.0 send (sym packet.1.1 ∙ at_send)) packet.1.2)

      not_yet : option_map_or (has_delivered net.past me.0) (message_at net.past send) false ≡ false
      not_yet = ap (λ o. option_map_or (has_delivered net.past me.0) o false) message ∙ false_from_ne_true (has_delivered net.past me.0 name) (λ had. both_ways (list_any (same_message name) a.received) once (mine.1 name had))

      has_now : (m : MsgName) → has_delivered (delivery ∷ net.past) me.0 m ≡ true → list_any (same_message m) (a.received ++ name ∷ []) ≡ true
      has_now m has = elim (or_cases (me.0 == me.0 && is_message (message_at net.past send) m) (has_delivered net.past me.0 m) has) [
        | inl now ↦ any_last (same_message m) a.received name (same_message_turned name m (sym (ap (λ o. is_message o m) message) ∙ (and_parts (me.0 == me.0) (is_message (message_at net.past send) m) now).1))
        | inr before ↦ any_first (same_message m) a.received (name ∷ []) (mine.1 m before)
      ]

      deliver_counts : IsWorldOf n f (next_of (up_node receiver) [] (delivery ∷ [])) → Counts n (next_of (up_node receiver) [] (delivery ∷ []))
      deliver_counts next = recorded n net c me.0 delivery (up_node receiver) [] (
        low,
        up_here n f net h me.0 a low is,
        subst (λ q. is_sent_to net.past send q ≡ true) to (c.messages name p was send at_send).1,
        count,
        not_yet,
        ascending,
        all_from listed (is_delivered (delivery ∷ net.past)) (λ d has. logged_delivered n f (next_of (up_node receiver) [] (delivery ∷ [])) next me.0 receiver low (set_at_here net.nodes me.0 (up_node receiver)) d (or_left (list_has listed d) (a.log.has d) has)),
      )
          (mine.0, has_now) (λ q other. (refl, away_or (me.0 == q) (is_message (message_at net.past send)) (has_delivered net.past q) (other_is me.0 q other))) (messages_older delivery net.past net.sent c.messages)

    quiet_up : (node : UpNode) → node.sent ≡ a.sent → node.received ≡ a.received → NodeCounts net.past me.0 (up_node node)
    quiet_up node sent received = (sent ∙ mine.0, λ m had. ap (λ names. list_any (same_message m) names) received ∙ mine.1 m had)

    mark_counts : (log : NodeLog) (det : Det) → is_delivered net.past det ≡ true → Counts n (next_of (up_node (with_node_log a log)) [] (Stable det ∷ []))
    mark_counts log det legal = recorded n net c me.0 (Stable det) (up_node (with_node_log a log)) [] legal (mine.0, mine.1) (λ q other. (refl, λ m. refl)) (messages_older (Stable det) net.past net.sent c.messages)

    forget_counts : (log : NodeLog) (listed : List Det) → is_ascending listed ≡ true → ((d : Det) → list_has listed d ≡ true → a.log.stable d ≡ true) → Counts n (next_of (up_node (with_node_log a log)) [] (Forget me listed ∷ []))
    forget_counts log listed ascending known = recorded n net c me.0 (Forget me listed) (up_node (with_node_log a log)) []
        (low, up_here n f net h me.0 a low is, ascending, all_from listed (is_delivered net.past) (λ d has. marked_delivered n f net h me.0 a low is d (known d has))) (mine.0, mine.1) (λ q other. (refl, λ m. refl)) (messages_older (Forget me listed) net.past net.sent c.messages)

  cleared : (b y : Bool) → b ≡ true → (not b && y) ≡ false
  cleared b y hb = grind (arith, hb)

  restart_counts : (x : DownNode) (r : NodeRound) (listed : List Det) → net.nodes me.0 ≡ down_node x → is_ascending listed ≡ true → ((d : Det) → list_has listed d ≡ r.gathered.has d)
      → IsWorldOf n f (next_of (up_node (up_after_restart me.0 (x.lane + 1) r)) [] (Restart me listed ∷ [])) → Counts n (next_of (up_node (up_after_restart me.0 (x.lane + 1) r)) [] (Restart me listed ∷ []))
  restart_counts x r listed is ascending lists next = recorded n net c me.0 (Restart me listed) (up_node (up_after_restart me.0 (x.lane + 1) r)) [] (
    low,
    down_here n f net h me.0 x low is,
    ascending,
    all_from listed (is_delivered net.past) (λ d has. logged_delivered n f (next_of (up_node (up_after_restart me.0 (x.lane + 1) r)) [] (Restart me listed ∷ [])) next me.0 (up_after_restart me.0 (x.lane + 1) r) low (set_at_here net.nodes me.0 (up_node (up_after_restart me.0 (x.lane + 1) r))) d (sym (lists d) ∙ has)),
  )
      (sym (cond-true (me.0 == me.0) 0 (sends net.past me.0) (same_is me.0)), λ m had. absurd (both_ways (not (me.0 == me.0) && has_delivered net.past me.0 m) (cleared (me.0 == me.0) (has_delivered net.past me.0 m) (same_is me.0)) had))
      (λ q other. (cond-false (me.0 == q) 0 (sends net.past q) (other_is me.0 q other), λ m. not_away (me.0 == q) (has_delivered net.past q m) (other_is me.0 q other)))
      (messages_older (Restart me listed) net.past net.sent c.messages)

  -- a step that sends nothing, or no message
  no_more : (node : Node) → NodeCounts net.past me.0 node → Counts n (next_of node [] [])
  no_more node own = quietly n net c me.0 node [] own c.messages

  one_more : (node : Node) (k : Sent) → NodeCounts net.past me.0 node → ((name : MsgName) (t : Packet) → k ≡ message_packet name t → ⊥) → Counts n (next_of node (k ∷ []) [])
  one_more node k own other = quietly n net c me.0 node (k ∷ []) own (messages_and_one net.past net.sent k other c.messages)

  stored_is_delivered : (det : Det) → h.0.stored det ≡ true → is_delivered net.past det ≡ true
  stored_is_delivered det stored = stored_delivered n f net h det (sym (h.2.stored det) ∙ stored)

  -- each row: with the world of the network after it
  row_counts : (old : Node) (taken : Option Sent) (node : Node) (emitted : List Sent) (entries : List Entry) → NodeStep n f me (length net.past) old taken node emitted entries → net.nodes me.0 ≡ old → WasTaken net.sent taken
      → IsWorldOf n f (next_of node emitted entries) → Counts n (next_of node emitted entries)
  row_counts old taken node emitted entries (send_row a to new low_to of_log to_is position left_out) is was next = send_counts a is to new low_to to_is position
  row_counts old taken node emitted entries (deliver_row a name p send listed ascending to floor at_send once only lists) is was next = deliver_counts a is name p send listed ascending to at_send once was next
  row_counts old taken node emitted entries (acknowledge_row a new of_log none) is was next = one_more (up_node a) (acknowledgement_packet new) (mine a is) (λ name t e. absurd (let x : acknowledgement_packet new ≡ message_packet name t = e in cc))
  row_counts old taken node emitted entries (learn_row a p to floor) is was next = no_more (up_node (with_node_log a (log_after_acknowledgement p.parcel a.log))) (quiet_up a is (with_node_log a (log_after_acknowledgement p.parcel a.log)) refl refl)
  row_counts old taken node emitted entries (write_row a new of_log to none) is was next = one_more (up_node a) (write_packet new) (mine a is) (λ name t e. absurd (let x : write_packet new ≡ message_packet name t = e in cc))
  row_counts old taken node emitted entries (mark_row a dets det has) is was next = mark_counts a is (log_after_mark det a.log) det (stored_is_delivered det ((h.2.packets (written_packet dets) was) det has))
  row_counts old taken node emitted entries (forget_row a listed ascending known repeated) is was next = forget_counts a is (log_without listed a.log) listed ascending known
  row_counts old taken node emitted entries (answer_row a s name view new own of_log to none whole) is was next =
      one_more (up_node (with_floors a (raised a.floors view))) (answer_packet name new) (quiet_up a is (with_floors a (raised a.floors view)) refl refl) (λ nm t e. absurd (let x : answer_packet name new ≡ message_packet nm t = e in cc))
  row_counts old taken node emitted entries (tell_row same) is was next =
      one_more same (number_packet me.0 (lane_or_next same)) (mine_of n net c me.0 same low is) (λ name t e. absurd (let x : number_packet me.0 (lane_or_next same) ≡ message_packet name t = e in cc))
  row_counts old taken node emitted entries (hear_number_row x q number) is was next = no_more (down_node (record { lane = x.lane; told = with_value_at x.told q number; round = x.round })) tt
  row_counts old taken node emitted entries (begin_row x name view own heard) is was next =
      one_more (down_node (with_round x (Some (new_node_round name view)))) (question_packet me.0 name view) tt (λ nm t e. absurd (let y : question_packet me.0 name view ≡ message_packet nm t = e in cc))
  row_counts old taken node emitted entries (not_up_row x s name view apart own) is was next = one_more (down_node (with_round x None)) (not_up_packet me.0 s name) tt (λ nm t e. absurd (let y : not_up_packet me.0 s name ≡ message_packet nm t = e in cc))
  row_counts old taken node emitted entries (give_up_row x) is was next = no_more (down_node (fallen_node x.lane)) tt
  row_counts old taken node emitted entries (hear_answer_row x r p has to) is was next = no_more (down_node (with_round x (Some (after_answer p.parcel.from p.parcel r)))) tt
  row_counts old taken node emitted entries (hear_not_up_row x r q has) is was next = no_more (down_node (with_round x (Some (with_heard q r)))) tt
  row_counts old taken node emitted entries (read_row x r has all) is was next = one_more (down_node x) (read_packet me.0 r.name r.view) tt (λ nm t e. absurd (let y : read_packet me.0 r.name r.view ≡ message_packet nm t = e in cc))
  row_counts old taken node emitted entries (take_stored_row x r dets det has has_det) is was next =
      recorded n net c me.0 (Stable det) (down_node (with_round x (Some (round_with_stored det r)))) [] (stored_is_delivered det ((h.2.packets (stored_packet me.0 r.name dets) was) det has_det)) tt (λ q other. (refl, λ m. refl)) (messages_older (Stable det) net.past net.sent c.messages)
  row_counts old taken node emitted entries (hear_stored_row x r dets has all) is was next = no_more (down_node (with_round x (Some (with_heard n r)))) tt
  row_counts old taken node emitted entries (restart_row x r listed ascending has all lists) is was next = restart_counts x r listed is ascending lists next

event_counts : (n f : ℕ) (net next : Network) → NetworkEvent n f net next → Counts n net → IsWorldOf n f net → IsWorldOf n f next → Counts n next
event_counts n f net next (step_event me taken node emitted entries low was step fresh) c h after = row_counts n f net c h me low (net.nodes me.0) taken node emitted entries step refl was after
event_counts n f net next (crash_event who a low is few) c h after =
    recorded n net c who.0 (Crash who) (down_node (fallen_node a.lane)) [] (low, up_here n f net h who.0 a low is) tt (λ q other. (refl, λ m. refl)) (messages_older (Crash who) net.past net.sent c.messages)
event_counts n f net next (store_event p was floor) c h after = record { legal = c.legal; nodes = c.nodes; messages = messages_and_one net.past net.sent (written_packet p.parcel.carries) (λ nm t e. absurd (let y : written_packet p.parcel.carries ≡ message_packet nm t = e in cc)) c.messages }
event_counts n f net next (read_event s name view was) c h after = record { legal = c.legal; nodes = c.nodes; messages = messages_and_one net.past net.sent (stored_packet s name net.stored) (λ nm t e. absurd (let y : stored_packet s name net.stored ≡ message_packet nm t = e in cc)) c.messages }

new_counts : (n : ℕ) (net : Network) → IsNewNetwork n net → Counts n net
new_counts n net o = record {
  legal = subst (λ t. AreLegalHere n t) (sym o.past) tt;
  nodes = λ p low. let a = o.nodes p low in subst (λ y. NodeCounts net.past p y) (sym a.1) (subst (λ t. NodeCounts t p (up_node a.0)) (sym o.past) (a.2.sent, λ m had. absurd (both_ways false refl had)));
  messages = λ name t was send at. absurd (subst (λ k. WasSent k (message_packet name t)) o.sent was);
}

counts_of : (n f : ℕ) (net : Network) → IsReachableNetwork n f net → Counts n net
counts_of n f net (new_network same o) = new_counts n net o
counts_of n f net (next_network before next h event) = event_counts n f before net event (counts_of n f before h) (world_of n f before h) (event_steps n f before net event (world_of n f before h))

pub nodes_record_traces : NodesRecordTraces
nodes_record_traces n f net h processes count listed lanes = record { count = processes; accepted = are_legal n net.past (counts_of n f net h).legal count listed lanes }
