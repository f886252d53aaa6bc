-- The sends of a recording: each has the next number of its lane, so a message has one send entry.
use Rattle.std.proofs.Common.{ℕ, ◌≡◌, ◌∙◌, ◌==◌, ◌<◌, ◌≤◌, ◌+◌, Bool, true, false, List, [], ◌∷◌, length, Some, is_some, unwrap_or, inl, inr, refl, sym, ap, subst, arith}
use Rattle.std.specs.Prelude.{◌⊎◌, if◌then◌else◌}
use Rattle.std.specs.Option.{option_and_then}
use Rattle.std.proofs.lemmas.Bool.{false≢true, cond-true, cond-false, eq-eqb}
use Rattle.std.proofs.lemmas.Bool.Decides.{eqb_tells}
use Rattle.causal_name.specs.declared.MsgName.{MsgName}
use Rattle.causal_trace.specs.declared.entry.Entry.{Entry}
use Rattle.causal_trace.specs.declared.entry.Entry.TheVariants.{Send, Restart}
use Rattle.causal_trace.specs.Past.{instant, entry_at, lane as lane_of, sends, message_sent}
use Rattle.causal_trace.proofs.Lemmas.AtInstants.{instants_stay, last_instant}
use Rattle.causal_steps.proofs.Lemmas.Positions.{at_newest, at_older, message_below}
use Rattle.causal_endpoints.specs.Packets.{IsSendOf}

-- each send entry has the next number of its sender's lane
abbrev pub AreSendsCounted : List Entry → Type 0
AreSendsCounted [] = Unit {0}
AreSendsCounted (Send from to ssn ∷ past) = AreSendsCounted past × (ssn ≡ sends past from.0)
AreSendsCounted (_ ∷ past) = AreSendsCounted past

-- an entry that is no send and begins no lane
abbrev pub is_uncounted : Entry → Bool
is_uncounted (Send from to ssn) = false
is_uncounted (Restart who listed) = false
is_uncounted _ = true

module _ (e : Entry) (past : List Entry) where
  -- an entry more leaves the messages of those before it
  pub send_older : (at number : ℕ) (name : MsgName) → IsSendOf past at number name → IsSendOf (e ∷ past) at number name
  send_older at number name is = record {
    message = ap (λ o. option_and_then message_sent o) (at_older at (length past) (Some e) (entry_at past at) (message_below past at name is.message)) ∙ is.message;
    in_lane = ap (λ p. lane_of p name.source.0) (instants_stay e past at (let low = message_below past at name is.message in omega (arith, low))) ∙ is.in_lane;
  }

  -- a message is the newest entry's, or an older one's
  pub sent_now_or_before : (at number : ℕ) (name : MsgName) → IsSendOf (e ∷ past) at number name
      → ((at ≡ length past) × (message_sent e ≡ Some name) × (lane_of past name.source.0 ≡ number)) ⊎ IsSendOf past at number name
  sent_now_or_before at number name is = elim (eqb_tells at (length past)) [
    | inl here ↦ inl (
      here.1,
      sym (ap (λ o. option_and_then message_sent o) (at_newest at (length past) (Some e) (entry_at past at) here.1)) ∙ is.message,
      sym (ap (λ p. lane_of p name.source.0) (instants_stay e past at (omega (arith, here.1)) ∙ ap (instant past) here.1 ∙ last_instant past)) ∙ is.in_lane,
    )
    | inr other ↦
        let older = sym (ap (λ o. option_and_then message_sent o) (cond-false (at == length past) (Some e) (entry_at past at) other.0)) ∙ is.message in
        let low = message_below past at name older in
        inr (record { message = older; in_lane = sym (ap (λ p. lane_of p name.source.0) (instants_stay e past at (omega (arith, low)))) ∙ is.in_lane })
  ]

-- what an entry does to the lane of a process, and to how many messages it has sent
abbrev is_restart_of : Entry → ℕ → Bool
is_restart_of (Restart who listed) p = who.0 == p
is_restart_of _ p = false

lane_step : (e : Entry) (past : List Entry) (p : ℕ) → (is_restart_of e p ≡ true) × (lane_of (e ∷ past) p ≡ lane_of past p + 1) ⊎ (is_restart_of e p ≡ false) × (lane_of (e ∷ past) p ≡ lane_of past p)
lane_step (Restart who listed) past p = grind arith
lane_step _ past p = inr (refl, refl)

lane_grows : (e : Entry) (past : List Entry) (p : ℕ) → lane_of past p ≤ lane_of (e ∷ past) p
lane_grows e past p = elim (lane_step e past p) [ inl is ↦ omega (arith, is.1) | inr is ↦ omega (arith, is.1) ]

sends_grow : (e : Entry) (past : List Entry) (p : ℕ) → is_restart_of e p ≡ false → sends past p ≤ sends (e ∷ past) p
sends_grow (Send from to ssn) past p h = grind arith
sends_grow (Restart who listed) past p h = grind arith
sends_grow _ past p h = omega arith

counted_before : (e : Entry) (past : List Entry) → AreSendsCounted (e ∷ past) → AreSendsCounted past
counted_before (Send from to ssn) past h = h.0
counted_before _ past h = h

-- the message of the newest entry has the next number of its lane
newest_number : (e : Entry) (past : List Entry) (name : MsgName) → AreSendsCounted (e ∷ past) → message_sent e ≡ Some name → (name.ssn ≡ sends past name.source.0) × (sends (e ∷ past) name.source.0 ≡ sends past name.source.0 + 1)
newest_number (Send from to ssn) past name h is =
    let same : record { source = from; ssn = ssn } ≡ name = ap (λ o. unwrap_or o name) is in (
      ap (λ (m : MsgName). m.ssn) (sym same) ∙ h.1 ∙ ap (λ (m : MsgName). sends past m.source.0) same,
      subst (λ (m : MsgName). (if from.0 == m.source.0 then sends past m.source.0 + 1 else sends past m.source.0) ≡ sends past m.source.0 + 1) same (cond-true (from.0 == from.0) (sends past from.0 + 1) (sends past from.0) (eq-eqb from.0 from.0 refl)),
    )
newest_number _ past name h is = absurd (false≢true (ap is_some is))

-- a message that was sent is of a lane that has begun; of the present lane it has a number that was sent
pub lane_begun : (past : List Entry) (at number : ℕ) (name : MsgName) → IsSendOf past at number name → number ≤ lane_of past name.source.0
lane_begun [] at number name is = absurd (false≢true (ap is_some is.message))
lane_begun (e ∷ past) at number name is = elim (sent_now_or_before e past at number name is) [
  | inl now ↦ omega (arith, now.2, lane_grows e past name.source.0)
  | inr before ↦ omega (arith, lane_begun past at number name before, lane_grows e past name.source.0)
]

pub number_sent : (past : List Entry) (at number : ℕ) (name : MsgName) → AreSendsCounted past → IsSendOf past at number name → lane_of past name.source.0 ≡ number → name.ssn < sends past name.source.0
number_sent [] at number name counted is present = absurd (false≢true (ap is_some is.message))
number_sent (e ∷ past) at number name counted is present = elim (sent_now_or_before e past at number name is) [
  | inl now ↦ omega (arith, newest_number e past name counted now.1)
  | inr before ↦ elim (lane_step e past name.source.0) [
    | inl begun ↦ absurd (omega (arith, lane_begun past at number name before, begun.1, present))
    | inr same ↦ omega (arith, sends_grow e past name.source.0 same.0, number_sent past at number name (counted_before e past counted) before (sym same.1 ∙ present))
  ]
]

-- so a message has one send entry
pub one_send : (past : List Entry) (a b number : ℕ) (name : MsgName) → AreSendsCounted past → IsSendOf past a number name → IsSendOf past b number name → a ≡ b
one_send [] a b number name counted is other = absurd (false≢true (ap is_some is.message))
one_send (e ∷ past) a b number name counted is other = elim (sent_now_or_before e past a number name is) [
  | inl x ↦ elim (sent_now_or_before e past b number name other) [ inl y ↦ x.0 ∙ sym y.0 | inr y ↦ absurd (apart x.1 x.2 y) ]
  | inr x ↦ elim (sent_now_or_before e past b number name other) [ inl y ↦ absurd (apart y.1 y.2 x) | inr y ↦ one_send past a b number name (counted_before e past counted) x y ]
]
  where
    apart : {at : ℕ} → message_sent e ≡ Some name → lane_of past name.source.0 ≡ number → IsSendOf past at number name → ⊥
    apart {at} now present before = omega (arith, newest_number e past name counted now, number_sent past at number name (counted_before e past counted) before present)
