-- Each call of a node keeps its numbers and determinants within what a parcel can have.
use Rattle.std.proofs.Common.{ℕ, zero, suc, ◌≡◌, ◌∙◌, ◌==◌, ◌<◌, ◌≤◌, ◌^◌, Bool, true, false, not, List, [], ◌∷◌, ◌++◌, length, max, replicate, Option, Some, None, is_some, unwrap_or, inl, inr, length-append, refl, sym, ap, subst, arith}
use Rattle.std.specs.Prelude.{◌⊎◌, slice_get, slice_set, nat_le, nat_lt, if◌then◌else◌}
use Rattle.std.specs.List.{AllByRecursion}
use Rattle.std.specs.FinMap as fin
use Rattle.std.proofs.lemmas.Bool.{false≢true, both_ways, or_cases, and_parts}
use Rattle.causal_name.specs.declared.Pid.{Pid}
use Rattle.causal_name.specs.declared.MsgName.{MsgName}
use Rattle.causal_name.specs.declared.Det.{Det}
use Rattle.causal_name.proofs.Lemmas.DetOrder.{same_is}
use Rattle.causal_trace.specs.declared.entry.Entry.{Entry}
use Rattle.causal_trace.specs.Past.{det_from}
use Rattle.causal_log.specs.Knowledge.{stable_and_held_by}
use Rattle.causal_log.specs.Logs.{LogMap, after_learn, after_mark, after_forget, batch_items, dets_of}
use Rattle.causal_log.proofs.Lemmas.KnowledgeGrows.{united_logged}
use Rattle.causal_log.proofs.Lemmas.LogLists.{keys_logged}
use Rattle.causal_protocol.specs.Limits.{max_run_entries, max_run_listed}
use Rattle.causal_protocol.specs.Memory.{SentMessage, with_log}
use Rattle.causal_protocol.specs.Naming.{with_own}
use Rattle.causal_wire.specs.Parcels.{IsDet}
use Rattle.causal_node.specs.declared.node.Identity.{Identity}
use Rattle.causal_node.specs.NodeStates.{NodeState, Recovery, RoundState, floor_of, with_memory, has_name}
use Rattle.causal_node.specs.NodeRefusals.{naming_fault, or_else}
use Rattle.causal_node.specs.declared.node_fault.NodeFault.{NodeFault}
use Rattle.causal_node.specs.declared.node_fault.NodeFault.TheVariants as Faults
use Rattle.causal_memory.specs.Namings.{named_message_by}
use Rattle.causal_node.specs.NodeAcknowledgements.{log_with_holders}
use Rattle.causal_node.specs.NodeForgetting.{next_slot}
use Rattle.causal_node.specs.declared.node_answer.RoundReply.TheVariants as Replies
use Rattle.causal_node.specs.NodeRecovery.{reply_fault, node_restart_fault, new_round_state, with_recovery, map_round, with_log_of, without_awaited, after_not_up, after_number, node_after_stored, node_after_read, after_restart_at, opened_node}
use Rattle.causal_node.specs.NodeAnswers.{node_after_answer, after_answer_at, knows_number, raised_floors, round_reply, reply_at}
use Rattle.causal_nodes.specs.Node.{NodeLog}
use Rattle.causal_nodes.specs.Packets.{Sent, WasSent, message_packet, written_packet, question_packet, answer_packet, stored_packet, number_packet}
use Rattle.causal_calls.specs.Views.{numbers, IsNodeState}
use Rattle.causal_calls.specs.Parcels.{acknowledgement_with}
use Rattle.causal_calls.specs.Calls.{NodeCall, send, deliver, learn, forget, stored, answer_log, answer_not_up, answer_number, begin_round, take_log, take_not_up, take_other_number, take_number, take_stored, finish_read, restart, open_again}
use Rattle.causal_calls.proofs.Lemmas.Refusals.{below_from, some_none, or_else_none, unless_up_none, of_round}
use Rattle.causal_calls.proofs.Lemmas.LogViews.{delivered_has, marked, one_entry, held_has}
use Rattle.causal_protocol.proofs.Lemmas.LogMembers.{own_have, items_have, none_entry}
use Rattle.causal_calls.proofs.Lemmas.LogChanges.{learned, forgotten}
use Rattle.causal_endpoints.specs.States.{HasDets, IsRoundWithin, IsKeptMessage}
use Rattle.causal_endpoints.proofs.Written.{carried_fit}
use Rattle.causal_endpoints.proofs.Legal.{not_at}

-- the numbers of a node, and the determinants that it logs and keeps, are within what parcels of n processes have
pub record IsWithin (n me : ℕ) (s : NodeState) : Type 0 where
  pub lane : s.lane < 2 ^ 32
  pub floors : AllByRecursion (λ number. number < 2 ^ 32) s.floors
  pub logged : HasDets n s.memory.log
  pub round : IsRoundWithin n s.recovery
  pub kept : (ssn : ℕ) (kept : SentMessage) → slice_get s.memory.sent ssn ≡ Some kept → IsKeptMessage n me kept
  pub sent : length s.memory.sent ≤ max_run_entries
  pub received : length s.memory.received ≤ max_run_entries

-- what is taken brings determinants and numbers that parcels of n processes have
abbrev pub IsTakenWithin : ℕ → Sent → Type 0
IsTakenWithin n (message_packet name p) = (name.source.0 < n) × (name.ssn < 2 ^ 32) × ((d : Det) → p.parcel.carries d ≡ true → IsDet n d)
IsTakenWithin n (answer_packet name p) = (d : Det) → p.parcel.carries d ≡ true → IsDet n d
IsTakenWithin n (question_packet from name view) = (q : ℕ) → view q < 2 ^ 32
IsTakenWithin n (number_packet from number) = number < 2 ^ 32
IsTakenWithin n (written_packet dets) = (d : Det) → dets d ≡ true → IsDet n d
IsTakenWithin n (stored_packet to name dets) = (d : Det) → dets d ≡ true → IsDet n d
IsTakenWithin n _ = Unit {0}

abbrev pub IsWithinIfTaken : ℕ → Option Sent → Type 0
IsWithinIfTaken n None = Unit {0}
IsWithinIfTaken n (Some k) = IsTakenWithin n k

-- a round that is begun has a name of 64 bits
abbrev pub NamesRounds : List Sent → Type 0
NamesRounds sent = (from name : ℕ) (view : ℕ → ℕ) → WasSent sent (question_packet from name view) → name < 2 ^ 64

-- lists of numbers after a change
numbers_each : (view : List ℕ) → ((q : ℕ) → numbers view q < 2 ^ 32) → AllByRecursion (λ number. number < 2 ^ 32) view
numbers_each [] h = tt
numbers_each (x ∷ xs) h = (h 0, numbers_each xs (λ q. h (suc q)))

pub each_number : (view : List ℕ) → AllByRecursion (λ number. number < 2 ^ 32) view → (q : ℕ) → numbers view q < 2 ^ 32
each_number [] h q = omega arith
each_number (x ∷ xs) h zero = h.0
each_number (x ∷ xs) h (suc q) = each_number xs h.1 q

set_within : (xs : List ℕ) (i v : ℕ) → v < 2 ^ 32 → AllByRecursion (λ number. number < 2 ^ 32) xs → AllByRecursion (λ number. number < 2 ^ 32) (slice_set xs i v)
set_within [] i v low h = tt
set_within (x ∷ xs) zero v low h = (low, h.1)
set_within (x ∷ xs) (suc i) v low h = (h.0, set_within xs i v low h.1)

zeros_within : (m : ℕ) → AllByRecursion (λ number. number < 2 ^ 32) (replicate m 0)
zeros_within zero = tt
zeros_within (suc m) = (omega arith, zeros_within m)

raised_within : (floors view : List ℕ) → AllByRecursion (λ number. number < 2 ^ 32) floors → AllByRecursion (λ number. number < 2 ^ 32) view → AllByRecursion (λ number. number < 2 ^ 32) (raised_floors floors view)
raised_within (x ∷ xs) (v ∷ vs) h k = (omega (arith, h.0, k.0), raised_within xs vs h.1 k.1)
raised_within _ _ h k = tt

-- the last of a list with one more
pub last_or_before : {X : Type 0} (xs : List X) (x : X) (i : ℕ) (y : X) → slice_get (xs ++ x ∷ []) i ≡ Some y → (slice_get xs i ≡ Some y) ⊎ ((i ≡ length xs) × (x ≡ y))
last_or_before [] x zero y at = inr (refl, ap (λ o. unwrap_or o x) at)
last_or_before [] x (suc i) y at = absurd (false≢true (ap is_some at))
last_or_before (z ∷ xs) x zero y at = inl at
last_or_before (z ∷ xs) x (suc i) y at = elim (last_or_before xs x i y at) [ inl before ↦ inl before | inr last ↦ inr (omega (arith, last.0), last.1) ]

one_more : {X : Type 0} (P : X → Type 0) (xs : List X) (x : X) → ((i : ℕ) (y : X) → slice_get xs i ≡ Some y → P y) → P x → (i : ℕ) (y : X) → slice_get (xs ++ x ∷ []) i ≡ Some y → P y
one_more P xs x old new i y at = elim (last_or_before xs x i y at) [ inl before ↦ old i y before | inr last ↦ subst P last.1 new ]

nothing_kept : {X : Type 0} (P : X → Type 0) (i : ℕ) (y : X) → slice_get {X = X} [] i ≡ Some y → P y
nothing_kept P i y at = absurd (false≢true (ap is_some at))

-- a node that is opened
pub opened_within : (n me : ℕ) (who : Identity) (lane : ℕ) → lane < 2 ^ 32 → IsWithin n me (opened_node who lane)
opened_within n me who lane low = record {
  lane = low;
  floors = set_within (replicate who.processes 0) who.me.0 lane low (zeros_within who.processes);
  logged = λ d h. absurd (both_ways _ (none_entry d) h);
  round = elim (lane == 0) as (λ b. IsRoundWithin n (if b then None else Some None)) [ true ↦ tt | false ↦ tt ];
  kept = nothing_kept (IsKeptMessage n me);
  sent = omega arith;
  received = omega arith;
}

module _ (n me : ℕ) (s : NodeState) (k : IsWithin n me s) where
  -- with another log
  with_other_log : (change : LogMap → LogMap) → HasDets n (change s.memory.log) → IsWithin n me (with_memory s (with_log change s.memory) s.bodies)
  with_other_log change dets = record { lane = k.lane; floors = k.floors; logged = dets; round = k.round; kept = k.kept; sent = k.sent; received = k.received }

  -- with other floors, in another round
  with_other_floors : (floors : List ℕ) (recovery : Recovery) → AllByRecursion (λ number. number < 2 ^ 32) floors → IsRoundWithin n recovery → IsWithin n me (record s { floors = floors; recovery = recovery })
  with_other_floors floors recovery low is = record { lane = k.lane; floors = low; logged = k.logged; round = is; kept = k.kept; sent = k.sent; received = k.received }

  changed : (r : RoundState) → s.recovery ≡ Some (Some r) → (change : RoundState → RoundState) → (IsRoundWithin n (Some (Some r)) → IsRoundWithin n (Some (Some (change r)))) → IsWithin n me (with_recovery s (map_round change s.recovery))
  changed r gathers change keeps = with_other_floors s.floors (map_round change s.recovery) k.floors (subst (λ o. IsRoundWithin n (map_round change o)) (sym gathers) (keeps (subst (λ o. IsRoundWithin n o) gathers k.round)))

  after_other_number : (q : Pid) (number : ℕ) → number < 2 ^ 32 → IsWithin n me (after_number s q number)
  after_other_number q number low = by (nat_lt q.0 (length s.floors))
    where
      by : (b : Bool) → IsWithin n me (record s { floors = if b then slice_set s.floors q.0 (max number (floor_of s.floors q)) else s.floors; recovery = Some None })
      by true = with_other_floors (slice_set s.floors q.0 (max number (floor_of s.floors q))) (Some None) (set_within s.floors q.0 _ (omega (arith, low, each_number s.floors k.floors q.0)) k.floors) tt
      by false = with_other_floors s.floors (Some None) k.floors tt

  after_reply : (view : List ℕ) → AllByRecursion (λ number. number < 2 ^ 32) view → IsWithin n me (node_after_answer s view)
  after_reply view low = by (knows_number s view) s.recovery refl
    where
      by : (b : Bool) (o : Recovery) → s.recovery ≡ o → IsWithin n me (if b then after_answer_at s view o else s)
      by true None is = record { lane = k.lane; floors = raised_within s.floors view k.floors low; logged = k.logged; round = k.round; kept = k.kept; sent = k.sent; received = k.received }
      by true (Some r) is = with_other_floors s.floors (Some None) k.floors tt
      by false o is = k

-- more messages may be received
room : (o : Option MsgName) (reserved : Bool) (name : MsgName) (rest : Option NodeFault) → naming_fault o reserved name rest ≡ None → rest ≡ None
room o reserved name rest h = grind (arith, or_else_none)

-- a reply with the own number changes nothing
number_same : (s : NodeState) (view : List ℕ) → round_reply s view ≡ Replies.OwnNumber → s ≡ node_after_answer s view
number_same s view reply = by (knows_number s view) s.recovery reply
  where
    by : (b : Bool) (o : Recovery) → (if b then reply_at o else Replies.OwnNumber) ≡ Replies.OwnNumber → s ≡ (if b then after_answer_at s view s.recovery else s)
    by false o h = refl
    by true None h = cc
    by true (Some r) h = cc

not_up_within : (s : NodeState) → IsWithin s.identity.processes s.identity.me.0 s → (q : Pid) (number name : ℕ) → reply_fault s.recovery name q ≡ None → number < 2 ^ 32 → IsWithin s.identity.processes s.identity.me.0 (after_not_up s q number)
not_up_within s k q number name legal low = by (floor_of s.floors q == number)
  where
    by : (b : Bool) → IsWithin s.identity.processes s.identity.me.0 (if b then with_recovery s (map_round (λ r. without_awaited r q.0) s.recovery) else after_number s q number)
    by true = let r = of_round s.recovery name q legal in changed s.identity.processes s.identity.me.0 s k r.0 r.1 (λ r. without_awaited r q.0) (λ w. w)
    by false = after_other_number s.identity.processes s.identity.me.0 s k q number low

restarted_within : (s : NodeState) → IsWithin s.identity.processes s.identity.me.0 s → (reserved : List MsgName) (o : Recovery) → s.recovery ≡ o → node_restart_fault o ≡ None → IsWithin s.identity.processes s.identity.me.0 (after_restart_at s o reserved)
restarted_within s k reserved (Some (Some r)) is legal = record {
  lane = k.lane;
  floors = k.floors;
  logged = λ d h. (subst (IsRoundWithin s.identity.processes) is k.round).1 d (elim (or_cases _ _ (sym (held_has s.identity.me d (fin.keys r.log) r.log) ∙ h)) [ inl old ↦ old | inr listed ↦ sym (keys_logged r.log d) ∙ listed ]);
  round = tt;
  kept = nothing_kept (IsKeptMessage s.identity.processes s.identity.me.0);
  sent = omega arith;
  received = omega arith;
}
restarted_within s k reserved _ is legal = absurd (some_none _ legal)

pub calls_within : (position : ℕ) (old new : NodeState) (taken : Option Sent) (sent : List Sent) (entries : List Entry) → NodeCall position old taken new sent entries
    → IsNodeState old → fin.len old.memory.log < 2 ^ 32 → IsWithin old.identity.processes old.identity.me.0 old → IsWithinIfTaken old.identity.processes taken → NamesRounds sent
    → IsWithin old.identity.processes old.identity.me.0 new
calls_within position old new taken sent entries (send to body legal) is few k fits named =
    let low = or_else_none (not (nat_lt to.0 old.identity.processes)) Faults.NoProcess _ (unless_up_none _ _ legal).1 in
    let more = or_else_none (nat_le max_run_entries (length old.memory.sent)) Faults.Full None low.1 in
    let space = not_at 65536 (length old.memory.sent) more.0 in
    record {
      lane = k.lane;
      floors = k.floors;
      logged = k.logged;
      round = k.round;
      kept = one_more (IsKeptMessage old.identity.processes old.identity.me.0) old.memory.sent _ k.kept (record { to = below_from to.0 old.identity.processes low.0; items = carried_fit old.identity.processes old.identity.me old.memory.log k.logged is.holders old.identity.faults few });
      sent = omega (arith, space, length-append old.memory.sent (record { to = to; send = length old.memory.sent; batch = batch_items old.identity.faults old.memory.log } ∷ []));
      received = k.received;
    }
calls_within position old new taken sent entries (deliver lane name at items ascending legal) is few k fits named =
    let process = or_else_none (not (nat_lt name.source.0 old.identity.processes)) Faults.NoProcess _ (unless_up_none _ _ legal).1 in
    let floor = or_else_none (nat_lt lane (floor_of old.floors name.source)) Faults.OldLane _ process.1 in
    let once = or_else_none (has_name old.received_names name) Faults.Duplicate _ floor.1 in
    let own = det_from old.identity.me (length old.memory.received) name in
    let few_listed = or_else (nat_lt max_run_listed (length (with_own own (dets_of items)))) Faults.Full None in
    let more = room (named_message_by old.identity.me old.memory None) (has_name old.reserved_names name) name (or_else (nat_le max_run_entries (length old.memory.received)) Faults.Full few_listed) once.1 in
    let space = not_at 65536 (length old.memory.received) (or_else_none _ _ few_listed more).0 in
    let mine : IsDet old.identity.processes own = record { source = fits.0; ssn = fits.1; dest = is.process; rsn = omega (arith, space) } in
    record {
      lane = k.lane;
      floors = k.floors;
      logged = λ d h. grind (arith, delivered_has items own old.memory.log d, own_have own (dets_of items) d, same_is d own, mine, items_have items d, fits.2 d, k.logged d);
      round = k.round;
      kept = k.kept;
      sent = k.sent;
      received = omega (arith, space, length-append old.memory.received (name ∷ []));
    }
calls_within position old new taken sent entries (learn lane from items legal) is few k fits named =
    with_other_log old.identity.processes old.identity.me.0 old k (log_with_holders items) (λ d h. k.logged d (sym (ap (λ (x : NodeLog). x.has d) (learned old.memory.log items (acknowledgement_with from lane old.identity.me items).parcel (λ d q. refl))) ∙ h))
calls_within position old new taken sent entries (forget legal) is few k fits named =
    with_other_log old.identity.processes old.identity.me.0 old k (after_forget (next_slot old)) (λ d h. k.logged d (and_parts _ _ (sym (ap (λ (x : NodeLog). x.has d) (forgotten (next_slot old) old.memory.log)) ∙ h)).1)
calls_within position old new taken sent entries (stored dets det up has) is few k fits named =
    subst (λ (o : Recovery). IsWithin old.identity.processes old.identity.me.0 (node_after_stored old det o)) (sym up)
    (with_other_log old.identity.processes old.identity.me.0 old k (λ log. after_mark log det) (λ d h. k.logged d (sym (ap (λ (x : NodeLog). x.has d) (marked old.memory.log det)) ∙ h)))
calls_within position old new taken sent entries (answer_log asker name view legal reply) is few k fits named = after_reply old.identity.processes old.identity.me.0 old k view (numbers_each view fits)
calls_within position old new taken sent entries (answer_not_up asker name view legal reply) is few k fits named = after_reply old.identity.processes old.identity.me.0 old k view (numbers_each view fits)
calls_within position old new taken sent entries (answer_number asker view legal reply) is few k fits named = subst (λ t. IsWithin old.identity.processes old.identity.me.0 t) (number_same old view reply) k
calls_within position old new taken sent entries (begin_round name legal) is few k fits named =
    with_other_floors old.identity.processes old.identity.me.0 old k old.floors (Some (Some (new_round_state old.identity name))) k.floors (named old.identity.me.0 name (numbers old.floors) (inl refl), λ d h. absurd (both_ways _ (none_entry d) h))
calls_within position old new taken sent entries (take_log name lane q log legal) is few k fits named =
    let r = of_round old.recovery name q legal in
    changed old.identity.processes old.identity.me.0 old k r.0 r.1 (λ r. with_log_of r q.0 log) (λ w. (w.0, λ d h. elim (or_cases _ _ (sym (united_logged r.0.log log d) ∙ h)) [ inl before ↦ w.1 d before | inr new ↦ fits d new ]))
calls_within position old new taken sent entries (take_not_up name q legal) is few k fits named = not_up_within old k q (floor_of old.floors q) name legal (each_number old.floors k.floors q.0)
calls_within position old new taken sent entries (take_other_number name q number legal other) is few k fits named = not_up_within old k q number name legal fits
calls_within position old new taken sent entries (take_number name q number legal) is few k fits named = after_other_number old.identity.processes old.identity.me.0 old k q number fits
calls_within position old new taken sent entries (take_stored r dets det gathers legal has) is few k fits named =
    let gathered = subst (IsRoundWithin old.identity.processes) gathers k.round in
    subst (λ (o : Recovery). IsWithin old.identity.processes old.identity.me.0 (node_after_stored old det o)) (sym gathers)
    (with_other_floors old.identity.processes old.identity.me.0 old k old.floors (Some (Some (record r { log = after_learn r.log det (stable_and_held_by old.identity.me) }))) k.floors (
      gathered.0,
      λ d h. grind (arith, one_entry r.log det (stable_and_held_by old.identity.me) d, gathered.1 d, same_is d det, fits det has),
    ))
calls_within position old new taken sent entries (finish_read r dets gathers legal all) is few k fits named = changed old.identity.processes old.identity.me.0 old k r gathers node_after_read (λ w. w)
calls_within position old new taken sent entries (restart reserved legal) is few k fits named = restarted_within old k reserved old.recovery refl legal
calls_within position old new taken sent entries (open_again round down) is few k fits named = opened_within old.identity.processes old.identity.me.0 old.identity old.lane k.lane
calls_within position old new taken sent entries _ is few k fits named = k
