-- What each call of a node does to its lane, to what it has sent, and to its round.
use Rattle.std.proofs.Common.{ℕ, ◌≡◌, ◌∙◌, ◌==◌, Bool, true, false, ◌&&◌, List, [], ◌∷◌, ◌++◌, length, Option, Some, None, is_some, inl, inr, refl, sym, ap, subst, arith}
use Rattle.std.specs.Prelude.{◌⊎◌, if◌then◌else◌}
use Rattle.std.specs.FinMap as fin
use Rattle.std.specs.List.{list_any}
use Rattle.std.proofs.lemmas.Bool.{false≢true, and_parts, or_parts, eqb-true, ne_eqb}
use Rattle.causal_name.specs.declared.Pid.{Pid}
use Rattle.causal_name.specs.declared.MsgName.{MsgName}
use Rattle.causal_name.specs.declared.Det.{Det}
use Rattle.causal_trace.specs.declared.entry.Entry.{Entry}
use Rattle.causal_trace.specs.declared.entry.Entry.TheVariants.{Send, Stable, Restart, Forget}
use Rattle.causal_log.specs.Logs.{batch_items, forgotten_in}
use Rattle.causal_protocol.specs.Naming.{message_name}
use Rattle.causal_protocol.specs.Steps.{forget_entries}
use Rattle.causal_world.specs.World.{Packet}
use Rattle.causal_node.specs.NodeStates.{NodeState, Recovery, RoundState, floor_of}
use Rattle.causal_node.specs.NodeForgetting.{next_slot}
use Rattle.causal_node.specs.NodeRecovery.{reply_fault, node_restart_fault, with_recovery, map_round, with_log_of, without_awaited, after_not_up, after_number, node_after_stored, node_after_read, after_restart_at}
use Rattle.causal_node.specs.NodeAnswers.{node_after_answer}
use Rattle.causal_nodes.specs.Packets.{Sent, WasSent, message_packet, question_packet, read_packet, is_of_round}
use Rattle.causal_calls.specs.Views.{numbers}
use Rattle.causal_calls.specs.Parcels.{next_message_packet}
use Rattle.causal_calls.specs.Calls.{NodeCall, send, deliver, forget, stored, answer_log, answer_not_up, answer_number, begin_round, take_log, take_not_up, take_other_number, take_number, ask_storage, take_stored, finish_read, restart, open_again}
use Rattle.causal_calls.proofs.Lemmas.Refusals.{some_none, unless_up_none, of_round}
use Rattle.causal_endpoints.proofs.Counts.{is_uncounted}

-- nothing is recorded, or one entry that counts no send and begins no lane
abbrev pub AreUncounted : List Entry → Type 0
AreUncounted entries = (entries ≡ []) ⊎ ((e : Entry) × (entries ≡ e ∷ []) × (is_uncounted e ≡ true))

abbrev pub HasNoMessage : List Sent → Type 0
HasNoMessage sent = (name : MsgName) (t : Packet) → WasSent sent (message_packet name t) → ⊥

-- what was sent stays, or is lost by a process that recovers
abbrev pub KeepsOrLoses : NodeState → NodeState → Type 0
KeepsOrLoses old new = (new.memory.sent ≡ old.memory.sent) ⊎ (new.memory.sent ≡ [])

pub data Effect (position : ℕ) (old new : NodeState) (sent : List Sent) (entries : List Entry) : Type 0 where
  stays : new.lane ≡ old.lane → KeepsOrLoses old new → is_some new.recovery ≡ is_some old.recovery → (old.recovery ≡ None → new.memory.sent ≡ old.memory.sent) → AreUncounted entries → HasNoMessage sent
      → Effect position old new sent entries
  sends : (to : Pid) → old.recovery ≡ None → new.recovery ≡ None → new.lane ≡ old.lane
      → new.memory.sent ≡ old.memory.sent ++ record { to = to; send = length old.memory.sent; batch = batch_items old.identity.faults old.memory.log } ∷ []
      → sent ≡ message_packet (message_name old.identity.me (length old.memory.sent)) (next_message_packet position old to) ∷ []
      → entries ≡ Send old.identity.me to (length old.memory.sent) ∷ []
      → Effect position old new sent entries
  restarts : (listed : List Det) (round : Option RoundState) → old.recovery ≡ Some round → new.recovery ≡ None → new.lane ≡ old.lane → new.memory.sent ≡ [] → sent ≡ [] → entries ≡ Restart old.identity.me listed ∷ []
      → Effect position old new sent entries

-- whether a packet is a message
abbrev is_message : Sent → Bool
is_message (message_packet name p) = true
is_message _ = false

-- what is sent passes no test that none of it passes
pub not_sent : (test : Sent → Bool) (sent : List Sent) (k : Sent) → list_any test sent ≡ false → WasSent sent k → test k ≡ true → ⊥
not_sent test [] k other none of = none
not_sent test (j ∷ sent) k other (inl is) of = false≢true (sym (or_parts _ _ other).0 ∙ ap test is ∙ of)
not_sent test (j ∷ sent) k other (inr later) of = not_sent test sent k (or_parts _ _ other).1 later of

module _ (position : ℕ) (old new : NodeState) (sent : List Sent) (entries : List Entry) where
  still : new.lane ≡ old.lane → new.memory.sent ≡ old.memory.sent → is_some new.recovery ≡ is_some old.recovery → AreUncounted entries → list_any is_message sent ≡ false → Effect position old new sent entries
  still lane kept up uncounted other = stays lane (inl kept) up (λ is. kept) uncounted (λ name t was. not_sent is_message sent (message_packet name t) other was refl)

forgets : (p : Pid) (listed : List Det) → AreUncounted (forget_entries p listed)
forgets p [] = inl refl
forgets p (d ∷ ds) = inr (Forget p (d ∷ ds), refl, refl)

-- after a reply
record SameCounts (old new : NodeState) : Type 0 where
  lane : new.lane ≡ old.lane
  kept : new.memory.sent ≡ old.memory.sent
  up : is_some new.recovery ≡ is_some old.recovery

reply_counts : (s : NodeState) (view : List ℕ) → SameCounts s (node_after_answer s view)
reply_counts s view = record { lane = grind arith; kept = grind arith; up = grind arith }

not_up_counts : (s : NodeState) (q : Pid) (number name : ℕ) → reply_fault s.recovery name q ≡ None → SameCounts s (after_not_up s q number)
not_up_counts s q number name legal = record { lane = grind arith; kept = grind arith; up = grind (arith, (of_round s.recovery name q legal).1) }

-- the stage of a node that is opened
abbrev recovery_at : Bool → Recovery
recovery_at b = if b then None else Some None

pub call_effect : (position : ℕ) (old new : NodeState) (taken : Option Sent) (sent : List Sent) (entries : List Entry) → NodeCall position old taken new sent entries → ((round : Option RoundState) → old.recovery ≡ Some round → old.lane ≡ 0 → ⊥)
    → Effect position old new sent entries
call_effect position old new taken sent entries (send to body legal) later = let up = (unless_up_none _ _ legal).0 in sends to up up refl refl refl refl
call_effect position old new taken sent entries (deliver lane name at items ascending legal) later = still position old new sent entries refl refl refl (inr (_, refl, refl)) refl
call_effect position old new taken sent entries (forget legal) later = still position old new sent entries refl refl refl (forgets old.identity.me (forgotten_in (next_slot old) old.memory.log)) refl
call_effect position old new taken sent entries (stored dets det up has) later =
    subst (λ (o : Recovery). Effect position old (node_after_stored old det o) [] (Stable det ∷ [])) (sym up) (still position old (node_after_stored old det None) [] (Stable det ∷ []) refl refl refl (inr (_, refl, refl)) refl)
call_effect position old new taken sent entries (answer_log asker name view legal reply) later = let is = reply_counts old view in still position old new sent entries is.lane is.kept is.up (inl refl) refl
call_effect position old new taken sent entries (answer_not_up asker name view legal reply) later = let is = reply_counts old view in still position old new sent entries is.lane is.kept is.up (inl refl) refl
call_effect position old new taken sent entries (answer_number asker view legal reply) later = let is = reply_counts old view in still position old new sent entries is.lane is.kept is.up (inl refl) refl
call_effect position old new taken sent entries (begin_round name legal) later = still position old new sent entries refl refl (grind arith) (inl refl) refl
call_effect position old new taken sent entries (take_log name lane q log legal) later = still position old new sent entries refl refl (grind arith) (inl refl) refl
call_effect position old new taken sent entries (take_not_up name q legal) later = let is = not_up_counts old q (floor_of old.floors q) name legal in still position old new sent entries is.lane is.kept is.up (inl refl) refl
call_effect position old new taken sent entries (take_other_number name q number legal other) later = let is = not_up_counts old q number name legal in still position old new sent entries is.lane is.kept is.up (inl refl) refl
call_effect position old new taken sent entries (take_number name q number legal) later = still position old new sent entries refl refl (ap is_some (sym (of_round old.recovery name q legal).1)) (inl refl) refl
call_effect position old new taken sent entries (take_stored r dets det gathers legal has) later =
    subst (λ (o : Recovery). Effect position old (node_after_stored old det o) [] (Stable det ∷ [])) (sym gathers) (still position old (node_after_stored old det (Some (Some r))) [] (Stable det ∷ []) refl refl (ap is_some (sym gathers)) (inr (_, refl, refl)) refl)
call_effect position old new taken sent entries (finish_read r dets gathers legal all) later = still position old new sent entries refl refl (grind arith) (inl refl) refl
call_effect position old new taken sent entries (restart reserved legal) later = by old.recovery refl legal
  where
    by : (o : Recovery) → old.recovery ≡ o → node_restart_fault o ≡ None → Effect position old (after_restart_at old o reserved) [] (Restart old.identity.me (fin.keys (after_restart_at old o reserved).memory.log) ∷ [])
    by (Some (Some r)) is legal = restarts _ (Some r) is refl refl refl refl refl
    by _ is legal = absurd (some_none _ legal)
call_effect position old new taken sent entries (open_again round down) later =
    stays refl (inr refl) (ap {B = Bool} (λ (b : Bool). is_some (recovery_at b)) (ne_eqb old.lane 0 (later round down)) ∙ ap is_some (sym down)) (λ up. absurd (false≢true (ap is_some (sym up ∙ down)))) (inl refl) (λ name t none. none)
call_effect position old new taken sent entries _ later = still position old new sent entries refl refl refl (inl refl) refl

-- a round is the one before, or its question was sent
abbrev pub RoundEffect : NodeState → NodeState → List Sent → Type 0
RoundEffect old new sent = (q : RoundState) → new.recovery ≡ Some (Some q)
    → ((r : RoundState) × (old.recovery ≡ Some (Some r)) × (r.name ≡ q.name) × (new.floors ≡ old.floors)) ⊎ WasSent sent (question_packet old.identity.me.0 q.name (numbers new.floors))

reply_rounds : (s : NodeState) (view : List ℕ) (sent : List Sent) → RoundEffect s (node_after_answer s view) sent
reply_rounds s view sent = λ q is. inl (q, grind arith, refl, grind arith)

changed_round : (s : NodeState) (change : RoundState → RoundState) → ((r : RoundState) → (change r).name ≡ r.name) → (sent : List Sent) → RoundEffect s (with_recovery s (map_round change s.recovery)) sent
changed_round s change named sent = by s.recovery refl
  where
    by : (o : Recovery) → s.recovery ≡ o → RoundEffect s (with_recovery s (map_round change o)) sent
    by (Some (Some r)) down q is = inl (r, down, cc (named r), refl)
    by _ _ q is = cc

not_up_rounds : (s : NodeState) (q : Pid) (number : ℕ) (sent : List Sent) → RoundEffect s (after_not_up s q number) sent
not_up_rounds s p number sent = elim (floor_of s.floors p == number) as (λ b. RoundEffect s (if b then with_recovery s (map_round (λ r. without_awaited r p.0) s.recovery) else after_number s p number) sent) [
  | true ↦ changed_round s (λ r. without_awaited r p.0) (λ r. refl) sent
  | false ↦ λ q is. cc
]

pub call_rounds : (position : ℕ) (old new : NodeState) (taken : Option Sent) (sent : List Sent) (entries : List Entry) → NodeCall position old taken new sent entries → RoundEffect old new sent
call_rounds position old new taken sent entries (stored dets det up has) = subst (λ (o : Recovery). RoundEffect old (node_after_stored old det o) []) (sym up) (λ q is. inl (q, is, refl, refl))
call_rounds position old new taken sent entries (answer_log asker name view legal reply) = reply_rounds old view sent
call_rounds position old new taken sent entries (answer_not_up asker name view legal reply) = reply_rounds old view sent
call_rounds position old new taken sent entries (answer_number asker view legal reply) = reply_rounds old view sent
call_rounds position old new taken sent entries (begin_round name legal) = λ q is. inr (inl cc)
call_rounds position old new taken sent entries (take_log name lane p log legal) = changed_round old (λ r. with_log_of r p.0 log) (λ r. refl) sent
call_rounds position old new taken sent entries (take_not_up name p legal) = not_up_rounds old p (floor_of old.floors p) sent
call_rounds position old new taken sent entries (take_other_number name p number legal other) = not_up_rounds old p number sent
call_rounds position old new taken sent entries (take_number name p number legal) = λ q is. cc
call_rounds position old new taken sent entries (take_stored r dets det gathers legal has) = subst (λ (o : Recovery). RoundEffect old (node_after_stored old det o) []) (sym gathers) (λ q is. inl (r, gathers, cc, refl))
call_rounds position old new taken sent entries (finish_read r dets gathers legal all) = changed_round old node_after_read (λ r. refl) sent
call_rounds position old new taken sent entries (restart reserved legal) = by old.recovery refl legal
  where
    by : (o : Recovery) → old.recovery ≡ o → node_restart_fault o ≡ None → RoundEffect old (after_restart_at old o reserved) []
    by (Some (Some r)) is legal = λ q none. cc
    by _ is legal = absurd (some_none _ legal)
call_rounds position old new taken sent entries (open_again round down) = λ q is. absurd (grind arith)
call_rounds position old new taken sent entries _ = λ q is. inl (q, is, refl, refl)

-- a packet of a round is sent after its question: one that is taken or sent now, or that of the present round
abbrev pub AskEffect : NodeState → Option Sent → List Sent → Type 0
AskEffect old taken sent = (k : Sent) (s name : ℕ) → WasSent sent k → is_of_round k s name ≡ true
    → ((view : ℕ → ℕ) × (taken ≡ Some (question_packet s name view))) ⊎ (((view : ℕ → ℕ) × WasSent sent (question_packet s name view)) ⊎ ((r : RoundState) × (old.recovery ≡ Some (Some r)) × (r.name ≡ name) × (old.identity.me.0 ≡ s)))

-- a reply to a question
of_question : (old : NodeState) (j : Sent) (asker round : ℕ) (view : ℕ → ℕ) → ((s name : ℕ) → is_of_round j s name ≡ (asker == s && round == name)) → AskEffect old (Some (question_packet asker round view)) (j ∷ [])
of_question old j asker round view to k s name (inl is) of =
    let same = and_parts (asker == s) (round == name) (sym (to s name) ∙ ap (λ x. is_of_round x s name) is ∙ of) in
    inl (view, λ i. Some (question_packet (eqb-true asker s same.0 i) (eqb-true round name same.1 i) view))
of_question old j asker round view to k s name (inr none) of = absurd none

of_begun : (old : NodeState) (round : ℕ) → AskEffect old None (question_packet old.identity.me.0 round (numbers old.floors) ∷ [])
of_begun old round k s name (inl is) of =
    let same = and_parts (old.identity.me.0 == s) (round == name) (ap (λ j. is_of_round j s name) is ∙ of) in
    inr (inl (numbers old.floors, inl (λ i. question_packet (eqb-true old.identity.me.0 s same.0 i) (eqb-true round name same.1 i) (numbers old.floors))))
of_begun old round k s name (inr none) of = absurd none

of_present : (old : NodeState) (r : RoundState) → old.recovery ≡ Some (Some r) → AskEffect old None (read_packet old.identity.me.0 r.name (numbers old.floors) ∷ [])
of_present old r gathers k s name (inl is) of =
    let same = and_parts (old.identity.me.0 == s) (r.name == name) (ap (λ j. is_of_round j s name) is ∙ of) in
    inr (inr (r, gathers, eqb-true r.name name same.1, eqb-true old.identity.me.0 s same.0))
of_present old r gathers k s name (inr none) of = absurd none

pub call_asks : (position : ℕ) (old new : NodeState) (taken : Option Sent) (sent : List Sent) (entries : List Entry) → NodeCall position old taken new sent entries → AskEffect old taken sent
call_asks position old new taken sent entries (answer_log asker name view legal reply) = of_question old _ asker.0 name (numbers view) (λ s x. refl)
call_asks position old new taken sent entries (answer_not_up asker name view legal reply) = of_question old _ asker.0 name (numbers view) (λ s x. refl)
call_asks position old new taken sent entries (begin_round name legal) = of_begun old name
call_asks position old new taken sent entries (ask_storage r gathers legal) = of_present old r gathers
call_asks position old new taken sent entries _ = λ k s name was of. absurd (not_sent (λ j. is_of_round j s name) sent k refl was of)
