-- What each system that calls of nodes reach has recorded and sent: its messages have send entries, and what nodes keep
-- and ask was sent.
-- The invariant: a process that is up has restarted as often as its lane says, and its lane has recorded as many sends
-- as the node keeps; a process that recovers is in its next lane. A message that was sent has its send entry at the
-- position that its packet names, in the lane that its packet names. Each kept message is such a packet; the question
-- of a present round was sent, and so was that of each packet of a round. Calls add to what was sent and recorded, and
-- a send has the next number; a restart begins a lane of which nothing was sent, so no packet is of it.
use Rattle.std.proofs.Common.{ℕ, ◌≡◌, ◌∙◌, ◌==◌, ◌<◌, ◌+◌, Bool, true, false, List, [], ◌∷◌, ◌++◌, length, Option, Some, None, is_some, inl, inr, length-append, refl, sym, ap, subst, arith}
use Rattle.std.specs.Prelude.{◌⊎◌, slice_get, if◌then◌else◌}
use Rattle.std.specs.Option.{option_and_then}
use Rattle.std.proofs.lemmas.Bool.{false≢true, cond-true, cond-false, eq-eqb, ne_eqb}
use Rattle.std.proofs.lemmas.Bool.Decides.{eqb_tells}
use Rattle.causal_name.specs.declared.Pid.{Pid}
use Rattle.causal_name.specs.declared.MsgName.{MsgName}
use Rattle.causal_name.specs.declared.Det.{Det}
use Rattle.causal_trace.specs.declared.entry.Entry.{Entry}
use Rattle.causal_trace.specs.declared.entry.Entry.TheVariants.{Send, Crash, Restart}
use Rattle.causal_trace.specs.Past.{entry_at, lane as lane_of, sends, message_sent}
use Rattle.causal_trace.proofs.Lemmas.AtInstants.{instants_stay, last_instant}
use Rattle.causal_steps.proofs.Lemmas.Positions.{at_newest}
use Rattle.causal_rounds.specs.Rounds.{with_value_at}
use Rattle.causal_log.specs.Logs.{batch_items}
use Rattle.causal_protocol.specs.Memory.{SentMessage}
use Rattle.causal_protocol.specs.Naming.{message_name}
use Rattle.causal_world.specs.World.{Packet}
use Rattle.causal_node.specs.declared.node.Identity.{Identity}
use Rattle.causal_node.specs.NodeStates.{NodeState, Recovery, RoundState}
use Rattle.causal_node.specs.NodeRecovery.{opened_node}
use Rattle.causal_nodes.specs.Packets.{Sent, WasSent, WasTaken, message_packet, question_packet, is_of_round}
use Rattle.causal_calls.specs.Views.{numbers}
use Rattle.causal_calls.specs.Parcels.{message_with, next_message_packet}
use Rattle.causal_calls.specs.Calls.{NodeCall}
use Rattle.causal_calls.specs.Systems.{System, identity_of}
use Rattle.causal_endpoints.specs.Packets.{IsSendOf}
use Rattle.causal_endpoints.proofs.Counts.{AreSendsCounted, is_uncounted, send_older}
use Rattle.causal_endpoints.proofs.Within.{last_or_before}
use Rattle.causal_endpoints.proofs.Effects.{AreUncounted, Effect, stays, sends as sent_one, restarts, call_effect, call_rounds, call_asks}

-- the lane and the sends of a process, as its node has them
abbrev CountsAt : List Entry → ℕ → NodeState → Recovery → Type 0
CountsAt past p s None = (lane_of past p ≡ s.lane) × (sends past p ≡ length s.memory.sent)
CountsAt past p s (Some round) = lane_of past p + 1 ≡ s.lane

abbrev NodeCounts : List Entry → ℕ → NodeState → Type 0
NodeCounts past p s = CountsAt past p s s.recovery

-- a message's packet has the position of its send entry
abbrev pub HasSendEntry : List Entry → MsgName → Packet → Type 0
HasSendEntry past name t = (at : ℕ) × (t.parcel.send ≡ Some at) × IsSendOf past at t.lane name

-- a kept message was sent
abbrev pub WasMessageSent : List Sent → ℕ → NodeState → ℕ → SentMessage → Type 0
WasMessageSent sent p s ssn kept = (at : ℕ) × WasSent sent (message_packet (message_name (record { 0 = p }) ssn) (message_with s.lane kept.to at (message_name (record { 0 = p }) ssn) kept.batch))

pub record SystemFacts (n f : ℕ) (w : System) : Type 0 where
  pub counted : AreSendsCounted w.past
  pub identities : (p : ℕ) → p < n → (w.nodes p).identity ≡ identity_of n f p
  pub nodes : (p : ℕ) → p < n → NodeCounts w.past p (w.nodes p)
  pub messages : (name : MsgName) (t : Packet) → WasSent w.sent (message_packet name t) → HasSendEntry w.past name t
  pub kept : (p : ℕ) → p < n → (ssn : ℕ) (kept : SentMessage) → slice_get (w.nodes p).memory.sent ssn ≡ Some kept → WasMessageSent w.sent p (w.nodes p) ssn kept
  pub questions : (p : ℕ) → p < n → (r : RoundState) → (w.nodes p).recovery ≡ Some (Some r) → WasSent w.sent (question_packet p r.name (numbers (w.nodes p).floors))
  pub asked : (k : Sent) (s name : ℕ) → WasSent w.sent k → is_of_round k s name ≡ true → (view : ℕ → ℕ) × WasSent w.sent (question_packet s name view)

-- what was sent before, or is sent now
pub was_older : (new old : List Sent) (k : Sent) → WasSent old k → WasSent (new ++ old) k
was_older [] old k was = was
was_older (x ∷ new) old k was = inr (was_older new old k was)

pub was_newer : (new old : List Sent) (k : Sent) → WasSent new k → WasSent (new ++ old) k
was_newer [] old k was = absurd was
was_newer (x ∷ new) old k (inl is) = inl is
was_newer (x ∷ new) old k (inr was) = inr (was_newer new old k was)

pub either_sent : (new old : List Sent) (k : Sent) → WasSent (new ++ old) k → WasSent new k ⊎ WasSent old k
either_sent [] old k was = inr was
either_sent (x ∷ new) old k (inl is) = inl (inl is)
either_sent (x ∷ new) old k (inr was) = elim (either_sent new old k was) [ inl here ↦ inl (inr here) | inr there ↦ inr there ]

-- what holds at one number, and at the others, holds after a change there
pub at_each : {X : Type 0} (P : ℕ → X → Type 0) (xs : ℕ → X) (here : ℕ) (x : X) → P here x → (p : ℕ) → ((p ≡ here → ⊥) → P p (xs p)) → P p (with_value_at xs here x p)
at_each P xs here x is p other = elim (eqb_tells p here) [
  | inl same ↦ subst (λ (b : Bool). P p (if b then x else xs p)) (sym same.0) (subst (λ q. P q x) (sym same.1) is)
  | inr apart ↦ subst (λ (b : Bool). P p (if b then x else xs p)) (sym apart.0) (other apart.1)
]

-- the counts after an entry that counts nothing, or of another process
uncounted_counts : (e : Entry) (past : List Entry) → is_uncounted e ≡ true → AreSendsCounted past → AreSendsCounted (e ∷ past)
uncounted_counts (Send from to ssn) past is h = absurd (false≢true is)
uncounted_counts _ past is h = h

uncounted_lane : (e : Entry) (past : List Entry) (p : ℕ) → is_uncounted e ≡ true → (lane_of (e ∷ past) p ≡ lane_of past p) × (sends (e ∷ past) p ≡ sends past p)
uncounted_lane (Send from to ssn) past p is = absurd (false≢true is)
uncounted_lane (Restart who listed) past p is = absurd (false≢true is)
uncounted_lane _ past p is = (refl, refl)

-- the counts of a node in another past with the same counts, and of a node with the same numbers
counts_in : (past next : List Entry) (p : ℕ) (s : NodeState) (o : Recovery) → lane_of next p ≡ lane_of past p → sends next p ≡ sends past p → CountsAt past p s o → CountsAt next p s o
counts_in past next p s None lane sent h = (lane ∙ h.0, sent ∙ h.1)
counts_in past next p s (Some round) lane sent h = omega (arith, lane, h)

counts_of : (past : List Entry) (p : ℕ) (s t : NodeState) → t.lane ≡ s.lane → is_some t.recovery ≡ is_some s.recovery → (s.recovery ≡ None → t.memory.sent ≡ s.memory.sent) → NodeCounts past p s → NodeCounts past p t
counts_of past p s t lane up kept h = by s.recovery refl t.recovery up h
  where
    by : (o : Recovery) → s.recovery ≡ o → (u : Recovery) → is_some u ≡ is_some o → CountsAt past p s o → CountsAt past p t u
    by None is None same h = (h.0 ∙ sym lane, h.1 ∙ ap length (sym (kept is)))
    by None is (Some r) same h = absurd (false≢true (sym same))
    by (Some r) is (Some q) same h = omega (arith, h, lane)
    by (Some r) is None same h = absurd (false≢true same)

-- the messages after more entries
abbrev MessagesHaveEntries : List Entry → List Sent → Type 0
MessagesHaveEntries past sent = (name : MsgName) (t : Packet) → WasSent sent (message_packet name t) → HasSendEntry past name t

entries_older : (e : Entry) (past : List Entry) (sent : List Sent) → MessagesHaveEntries past sent → MessagesHaveEntries (e ∷ past) sent
entries_older e past sent h name t was = let there = h name t was in (there.0, there.1, send_older e past there.0 t.lane name there.2)

entries_more : (past : List Entry) (new old : List Sent) → ((name : MsgName) (t : Packet) → WasSent new (message_packet name t) → ⊥) → MessagesHaveEntries past old → MessagesHaveEntries past (new ++ old)
entries_more past new old none h name t was = elim (either_sent new old (message_packet name t) was) [ inl here ↦ absurd (none name t here) | inr there ↦ h name t there ]

-- a kept message, after more was sent, by a node in the same lane
kept_more : (new old : List Sent) (p : ℕ) (s t : NodeState) (ssn : ℕ) (kept : SentMessage) → t.lane ≡ s.lane → WasMessageSent old p s ssn kept → WasMessageSent (new ++ old) p t ssn kept
kept_more new old p s t ssn kept lane was =
    (was.0, was_older new old _ (subst (λ m. WasSent old (message_packet (message_name (record { 0 = p }) ssn) (message_with m kept.to was.0 (message_name (record { 0 = p }) ssn) kept.batch))) (sym lane) was.1))

same_packet : (x y : MsgName) (p t : Packet) → message_packet x p ≡ message_packet y t → (x ≡ y) × (p ≡ t)
same_packet x y p t e = (cc, cc)

module _ (n f : ℕ) (w : System) (k : SystemFacts n f w) (me : Pid) (low : me.0 < n) where
  abbrev old : NodeState
  old = w.nodes me.0

  mine : old.identity.me.0 ≡ me.0
  mine = ap (λ (i : Identity). i.me.0) (k.identities me.0 low)

  -- a node that recovers is not in lane 0
  later : (round : Option RoundState) → old.recovery ≡ Some round → old.lane ≡ 0 → ⊥
  later round down none = let counts = subst (λ o. CountsAt w.past me.0 old o) down (k.nodes me.0 low) in omega (arith, counts, none)

  module _ (taken : Option Sent) (new : NodeState) (sent : List Sent) (entries : List Entry) (was : WasTaken w.sent taken) (call : NodeCall (length w.past) old taken new sent entries) (identity : new.identity ≡ old.identity) where
    abbrev after : System
    after = record { past = entries ++ w.past; nodes = with_value_at w.nodes me.0 new; sent = sent ++ w.sent; stored = w.stored; floors = w.floors }

    -- after these entries, which leave the counts of the other processes
    facts_from : (es : List Entry) → entries ≡ es → AreSendsCounted (es ++ w.past) → NodeCounts (es ++ w.past) me.0 new
        → ((p : ℕ) → (p ≡ me.0 → ⊥) → (lane_of (es ++ w.past) p ≡ lane_of w.past p) × (sends (es ++ w.past) p ≡ sends w.past p))
        → MessagesHaveEntries (es ++ w.past) (sent ++ w.sent)
        → ((ssn : ℕ) (kept : SentMessage) → slice_get new.memory.sent ssn ≡ Some kept → WasMessageSent (sent ++ w.sent) me.0 new ssn kept)
        → SystemFacts n f after
    facts_from es recorded counted counts same messages kept = subst (λ (es : List Entry). SystemFacts n f (record after { past = es ++ w.past })) (sym recorded) (record {
      counted = counted;
      identities = λ p low_p. at_each (λ p s. s.identity ≡ identity_of n f p) w.nodes me.0 new (identity ∙ k.identities me.0 low) p (λ other. k.identities p low_p);
      nodes = λ p low_p. at_each (λ p s. NodeCounts (es ++ w.past) p s) w.nodes me.0 new counts p (λ other. counts_in w.past (es ++ w.past) p (w.nodes p) (w.nodes p).recovery (same p other).0 (same p other).1 (k.nodes p low_p));
      messages = messages;
      kept = λ p low_p. at_each (λ p s. (ssn : ℕ) (kept : SentMessage) → slice_get s.memory.sent ssn ≡ Some kept → WasMessageSent (sent ++ w.sent) p s ssn kept) w.nodes me.0 new kept p
          (λ other ssn kept at. kept_more sent w.sent p (w.nodes p) (w.nodes p) ssn kept refl (k.kept p low_p ssn kept at));
      questions = λ p low_p. at_each (λ p s. (q : RoundState) → s.recovery ≡ Some (Some q) → WasSent (sent ++ w.sent) (question_packet p q.name (numbers s.floors))) w.nodes me.0 new
          (λ q is. elim (call_rounds (length w.past) old new taken sent entries call q is) [
            | inl same ↦ was_older sent w.sent _ (subst (λ j. WasSent w.sent j) (λ i. question_packet me.0 (same.2 i) (numbers (sym same.3 i))) (k.questions me.0 low same.0 same.1))
            | inr now ↦ was_newer sent w.sent _ (subst (λ p. WasSent sent (question_packet p q.name (numbers new.floors))) mine now)
          ])
          p (λ other q is. was_older sent w.sent _ (k.questions p low_p q is));
      asked = λ j s name there of. elim (either_sent sent w.sent j there) [
        | inl now ↦ elim (call_asks (length w.past) old new taken sent entries call j s name now of) [
          | inl took ↦ (took.0, was_older sent w.sent _ (subst (λ o. WasTaken w.sent o) took.1 was))
          | inr rest ↦ elim rest [
            | inl asks ↦ (asks.0, was_newer sent w.sent _ asks.1)
            | inr present ↦ (numbers old.floors, was_older sent w.sent _ (subst (λ j. WasSent w.sent j) (λ i. question_packet ((sym mine ∙ present.3) i) (present.2 i) (numbers old.floors)) (k.questions me.0 low present.0 present.1)))
          ]
        ]
        | inr before ↦ let asked = k.asked j s name before of in (asked.0, was_older sent w.sent _ asked.1)
      ];
    })

    -- the message that a send keeps, and its packet
    abbrev next_kept : Pid → SentMessage
    next_kept to = record { to = to; send = length old.memory.sent; batch = batch_items old.identity.faults old.memory.log }

    abbrev next_packet : Pid → Sent
    next_packet to = message_packet (message_name (record { 0 = me.0 }) (length old.memory.sent)) (message_with new.lane to (length w.past) (message_name (record { 0 = me.0 }) (length old.memory.sent)) (batch_items old.identity.faults old.memory.log))

    -- after what a call does: one that counts nothing
    facts_by : Effect (length w.past) old new sent entries → SystemFacts n f after
    facts_by (stays lane loses up keeps uncounted none) = by uncounted
      where
        kept : (ssn : ℕ) (kept : SentMessage) → slice_get new.memory.sent ssn ≡ Some kept → WasMessageSent (sent ++ w.sent) me.0 new ssn kept
        kept ssn message at = elim loses [
          | inl same ↦ kept_more sent w.sent me.0 old new ssn message lane (k.kept me.0 low ssn message (ap (λ xs. slice_get xs ssn) (sym same) ∙ at))
          | inr lost ↦ absurd (false≢true (ap is_some (ap (λ xs. slice_get xs ssn) (sym lost) ∙ at)))
        ]

        mine_after : NodeCounts w.past me.0 new
        mine_after = counts_of w.past me.0 old new lane up keeps (k.nodes me.0 low)

        by : AreUncounted entries → SystemFacts n f after
        by (inl is) = facts_from [] is k.counted mine_after (λ p other. (refl, refl)) (entries_more w.past sent w.sent none k.messages) kept
        by (inr (e, is, plain)) =
            let same = uncounted_lane e w.past me.0 plain in
            facts_from (e ∷ []) is (uncounted_counts e w.past plain k.counted) (counts_in w.past (e ∷ w.past) me.0 new new.recovery same.0 same.1 mine_after) (λ p other. uncounted_lane e w.past p plain)
            (entries_more (e ∷ w.past) sent w.sent none (entries_older e w.past w.sent k.messages))
            kept
    -- a send
    facts_by (sent_one to up still_up lane more sent_is recorded) = facts_from _ recorded (k.counted, sym counts.1 ∙ ap (sends w.past) (sym mine)) mine_after (λ p other. (refl, others p other)) messages kept
      where
        counts : (lane_of w.past me.0 ≡ old.lane) × (sends w.past me.0 ≡ length old.memory.sent)
        counts = subst (λ o. CountsAt w.past me.0 old o) up (k.nodes me.0 low)

        mine_after : NodeCounts (Send old.identity.me to (length old.memory.sent) ∷ w.past) me.0 new
        mine_after = subst (λ o. CountsAt (Send old.identity.me to (length old.memory.sent) ∷ w.past) me.0 new o) (sym still_up) (
          counts.0 ∙ sym lane,
          cond-true (old.identity.me.0 == me.0) (sends w.past me.0 + 1) (sends w.past me.0) (eq-eqb old.identity.me.0 me.0 mine) ∙ ap (λ m. m + 1) counts.1 ∙ sym (ap length more ∙ length-append old.memory.sent (next_kept to ∷ [])),
        )

        others : (p : ℕ) → (p ≡ me.0 → ⊥) → sends (Send old.identity.me to (length old.memory.sent) ∷ w.past) p ≡ sends w.past p
        others p other = cond-false (old.identity.me.0 == p) _ _ (ne_eqb old.identity.me.0 p (λ e. other (sym e ∙ mine)))

        entry : HasSendEntry (Send old.identity.me to (length old.memory.sent) ∷ w.past) (message_name old.identity.me (length old.memory.sent)) (next_message_packet (length w.past) old to)
        entry = (
          length w.past,
          refl,
          record {
            message = ap (λ o. option_and_then message_sent o) (at_newest (length w.past) (length w.past) (Some (Send old.identity.me to (length old.memory.sent))) (entry_at w.past (length w.past)) refl);
            in_lane = ap (λ p. lane_of p old.identity.me.0) (instants_stay (Send old.identity.me to (length old.memory.sent)) w.past (length w.past) (omega arith) ∙ last_instant w.past) ∙ ap (lane_of w.past) mine ∙ counts.0;
          },
        )

        messages : MessagesHaveEntries (Send old.identity.me to (length old.memory.sent) ∷ w.past) (sent ++ w.sent)
        messages name t was = elim (either_sent sent w.sent (message_packet name t) was) [
          | inl now ↦ elim (subst (λ js. WasSent js (message_packet name t)) sent_is now) [
            | inl is ↦
                let same = same_packet _ name _ t is in
                subst (λ (x : Packet). HasSendEntry (Send old.identity.me to (length old.memory.sent) ∷ w.past) name x) same.1 (subst (λ (x : MsgName). HasSendEntry (Send old.identity.me to (length old.memory.sent) ∷ w.past) x (next_message_packet (length w.past) old to)) same.0 entry)
            | inr none ↦ absurd none
          ]
          | inr before ↦ entries_older (Send old.identity.me to (length old.memory.sent)) w.past w.sent k.messages name t before
        ]

        last : WasMessageSent (sent ++ w.sent) me.0 new (length old.memory.sent) (next_kept to)
        last = (length w.past, was_newer sent w.sent (next_packet to) (subst (λ js. WasSent js (next_packet to)) (sym sent_is) (inl (λ i. message_packet (message_name (record { 0 = mine i }) (length old.memory.sent)) (message_with (sym lane i) to (length w.past) (message_name (record { 0 = mine i }) (length old.memory.sent)) (batch_items old.identity.faults old.memory.log))))))

        kept : (i : ℕ) (message : SentMessage) → slice_get new.memory.sent i ≡ Some message → WasMessageSent (sent ++ w.sent) me.0 new i message
        kept i message at = elim (last_or_before old.memory.sent (next_kept to) i message (ap (λ xs. slice_get xs i) (sym more) ∙ at)) [
          | inl before ↦ kept_more sent w.sent me.0 old new i message lane (k.kept me.0 low i message before)
          | inr now ↦ subst (λ (x : SentMessage). WasMessageSent (sent ++ w.sent) me.0 new i x) now.1 (subst (λ m. WasMessageSent (sent ++ w.sent) me.0 new m (next_kept to)) (sym now.0) last)
        ]
    -- a restart
    facts_by (restarts listed round down up lane lost sent_is recorded) = facts_from _ recorded k.counted mine_after
        (λ p other. (cond-false (old.identity.me.0 == p) _ _ (apart p other), cond-false (old.identity.me.0 == p) _ _ (apart p other)))
        (entries_more (Restart old.identity.me listed ∷ w.past) sent w.sent (λ name t was. subst (λ js. WasSent js (message_packet name t)) sent_is was) (entries_older (Restart old.identity.me listed) w.past w.sent k.messages))
        (λ ssn kept at. absurd (false≢true (ap is_some (ap (λ xs. slice_get xs ssn) (sym lost) ∙ at))))
      where
        apart : (p : ℕ) → (p ≡ me.0 → ⊥) → (old.identity.me.0 == p) ≡ false
        apart p other = ne_eqb old.identity.me.0 p (λ e. other (sym e ∙ mine))

        counts : lane_of w.past me.0 + 1 ≡ old.lane
        counts = subst (λ o. CountsAt w.past me.0 old o) down (k.nodes me.0 low)

        mine_after : NodeCounts (Restart old.identity.me listed ∷ w.past) me.0 new
        mine_after = subst (λ o. CountsAt (Restart old.identity.me listed ∷ w.past) me.0 new o) (sym up) (
          cond-true (old.identity.me.0 == me.0) _ _ (eq-eqb old.identity.me.0 me.0 mine) ∙ counts ∙ sym lane,
          cond-true (old.identity.me.0 == me.0) _ _ (eq-eqb old.identity.me.0 me.0 mine) ∙ ap length (sym lost),
        )

    pub facts_after_call : SystemFacts n f after
    facts_after_call = facts_by (call_effect (length w.past) old new taken sent entries call later)

-- n nodes that are opened in lane 0
pub first_facts : (n f : ℕ) (w : System) → w.past ≡ [] → ((p : ℕ) → p < n → w.nodes p ≡ opened_node (identity_of n f p) 0) → w.sent ≡ [] → SystemFacts n f w
first_facts n f w past nodes sent = record {
  counted = subst AreSendsCounted (sym past) tt;
  identities = λ p low. ap (λ (s : NodeState). s.identity) (nodes p low);
  nodes = λ p low. subst (λ s. NodeCounts w.past p s) (sym (nodes p low)) (subst (λ (es : List Entry). (lane_of es p ≡ 0) × (sends es p ≡ 0)) (sym past) (refl, refl));
  messages = λ name t was. absurd (subst (λ js. WasSent js (message_packet name t)) sent was);
  kept = λ p low ssn kept at. absurd (false≢true (ap is_some (ap (λ (s : NodeState). slice_get s.memory.sent ssn) (sym (nodes p low)) ∙ at)));
  questions = λ p low r is. absurd (false≢true (ap is_some (ap (λ (s : NodeState). s.recovery) (sym (nodes p low)) ∙ is)));
  asked = λ j s name was of. absurd (subst (λ js. WasSent js j) sent was);
}

-- a crash
pub facts_after_crash : (n f : ℕ) (w : System) → SystemFacts n f w → (who : Pid) → who.0 < n → (w.nodes who.0).recovery ≡ None
    → SystemFacts n f (record { past = Crash who ∷ w.past; nodes = with_value_at w.nodes who.0 (opened_node (w.nodes who.0).identity ((w.nodes who.0).lane + 1)); sent = w.sent; stored = w.stored; floors = w.floors })
facts_after_crash n f w k who low up = record {
  counted = k.counted;
  identities = λ p low_p. at_each (λ p s. s.identity ≡ identity_of n f p) w.nodes who.0 fallen (k.identities who.0 low) p (λ other. k.identities p low_p);
  nodes = λ p low_p. at_each (λ p s. NodeCounts (Crash who ∷ w.past) p s) w.nodes who.0 fallen fallen_counts p (λ other. counts_in w.past (Crash who ∷ w.past) p (w.nodes p) (w.nodes p).recovery refl refl (k.nodes p low_p));
  messages = entries_older (Crash who) w.past w.sent k.messages;
  kept = λ p low_p. at_each (λ p s. (ssn : ℕ) (kept : SentMessage) → slice_get s.memory.sent ssn ≡ Some kept → WasMessageSent w.sent p s ssn kept) w.nodes who.0 fallen (λ ssn kept at. absurd (false≢true (ap is_some at))) p (λ other. k.kept p low_p);
  questions = λ p low_p. at_each (λ p s. (r : RoundState) → s.recovery ≡ Some (Some r) → WasSent w.sent (question_packet p r.name (numbers s.floors))) w.nodes who.0 fallen (λ r is. grind arith) p (λ other. k.questions p low_p);
  asked = k.asked;
}
  where
    fallen : NodeState
    fallen = opened_node (w.nodes who.0).identity ((w.nodes who.0).lane + 1)

    counts : lane_of w.past who.0 ≡ (w.nodes who.0).lane
    counts = (subst (λ o. CountsAt w.past who.0 (w.nodes who.0) o) up (k.nodes who.0 low)).0

    fallen_counts : NodeCounts (Crash who ∷ w.past) who.0 fallen
    fallen_counts = subst (λ (b : Bool). CountsAt (Crash who ∷ w.past) who.0 fallen (if b then None else Some None)) (sym (ne_eqb ((w.nodes who.0).lane + 1) 0 (λ e. omega (arith, e)))) (ap (λ m. m + 1) counts)

-- stable storage sends something that is no message
pub facts_after_storage : (n f : ℕ) (w : System) → SystemFacts n f w → (j : Sent) (stored : Det → Bool) (floors : ℕ → ℕ) → ((name : MsgName) (t : Packet) → j ≡ message_packet name t → ⊥)
    → ((s name : ℕ) → is_of_round j s name ≡ true → (view : ℕ → ℕ) × WasSent w.sent (question_packet s name view))
    → SystemFacts n f (record { past = w.past; nodes = w.nodes; sent = j ∷ w.sent; stored = stored; floors = floors })
facts_after_storage n f w k j stored floors other asked = record {
  counted = k.counted;
  identities = k.identities;
  nodes = k.nodes;
  messages = λ name t was. elim was [ inl is ↦ absurd (other name t is) | inr before ↦ k.messages name t before ];
  kept = λ p low ssn kept at. let was = k.kept p low ssn kept at in (was.0, inr was.1);
  questions = λ p low r is. inr (k.questions p low r is);
  asked = λ i s name was of. elim was [
    | inl is ↦ let there = asked s name (ap (λ x. is_of_round x s name) is ∙ of) in (there.0, inr there.1)
    | inr before ↦ let there = k.asked i s name before of in (there.0, inr there.1)
  ];
}
