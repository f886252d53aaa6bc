-- The invariant of `Sends`, after one more entry.
use Rattle.std.proofs.Common.{◌≡◌, ℕ, ◌+◌, ◌<◌, ◌≤◌, List, [], ◌∷◌, length, Bool, true, false, cond, arith, refl, get_or, set, ⊎_elim, ◌≢◌, Option, Some, None, ap, sym, ◌∙◌}
use Rattle.std.specs.Prelude.{◌==◌, ◌&&◌, option_map, unwrap_or}
use Rattle.std.proofs.lemmas.Grind.{common_steps}
use Rattle.std.proofs.lemmas.Bool.{cases_eq}
use Rattle.std.specs.BTreeMap.{get, is_at}
use Rattle.std.specs.Ordering.{nat_cmp, is_eq, ordering_then}
use Rattle.std.specs.declared.cmp.Ordering.{Ordering}
use Rattle.std.specs.declared.cmp.Ordering.TheVariants.{Less}
use Rattle.causal_merge.specs.declared.sends.SendName.{SendName}
use Rattle.causal_name.proofs.Lemmas.DetOrder.{nat_ties}
use Rattle.causal_merge.specs.EventMerge.{same_send}
use Rattle.causal_trace.specs.declared.entry.Entry.{Entry}
use Rattle.causal_name.specs.declared.Det.{Det}
use Rattle.causal_name.specs.declared.Pid.{Pid}
use Rattle.causal_trace.specs.declared.entry.Entry.TheVariants.{Send, Deliver, Stable, Crash, Restart, Forget}
use Rattle.causal_merge.specs.declared.sends.Sends.{Sends}
use Rattle.causal_merge.specs.Inside.Sends.{IsSendsOf, send_cmp}
use Rattle.causal_trace.specs.Past.{lane}
use Rattle.causal_trace.specs.declared.fault.TraceFault.{TraceFault}
use Rattle.causal_line.specs.Kinds.{text_kind_of}
use Rattle.causal_line.specs.declared.kind.TextKind.TheVariants.{NoMemory}
use Rattle.causal_trace.specs.declared.fault.TraceFault.TheVariants as trace
use Rattle.causal_merge.specs.declared.fault.MergeKind.{MergeKind}
use Rattle.causal_merge.specs.declared.fault.MergeKind.TheVariants as kind

-- one more lane at most
lane_step : (b : Bool) (n m : ℕ) → n ≤ m → cond b (n + 1) n ≤ m + 1
lane_step true n m h = omega (arith, h)
lane_step false n m h = omega (arith, h)

-- the present lane (incarnation) of a process is at most the number of entries
pub lane_le : (past : List Entry) (p : ℕ) → lane past p ≤ length past
lane_le [] p = omega arith
lane_le (Restart who listed ∷ past) p = (let h = lane_step (who.0 == p) (lane past p) (length past) (lane_le past p) in omega (arith, h))
lane_le (Send from to ssn ∷ past) p = omega (arith, lane_le past p)
lane_le (Deliver to send rsn listed ∷ past) p = omega (arith, lane_le past p)
lane_le (Stable det ∷ past) p = omega (arith, lane_le past p)
lane_le (Crash who ∷ past) p = omega (arith, lane_le past p)
lane_le (Forget who listed ∷ past) p = omega (arith, lane_le past p)

-- the lanes after one more restart
pub lane_after : (lanes : List ℕ) (w p v : ℕ) (past : List Entry) → w < length lanes → v ≡ lane past w + 1 → get_or lanes p 0 ≡ lane past p → get_or (set lanes w v) p 0 ≡ cond (w == p) (lane past p + 1) (lane past p)
lane_after lanes w p v past within is was = ⊎_elim (λ e. grind (arith, common_steps, within, is, was, e)) (λ ne. grind (arith, common_steps, was, ne)) (cases_eq w p)

-- an entry that is neither a send nor a restart changes nothing
pub IsSendsOf-other : (sends : Sends) (past : List Entry) (e : Entry) → ((from to : Pid) (ssn : ℕ) → e ≢ Send from to ssn) → ((who : Pid) (listed : List Det) → e ≢ Restart who listed) → IsSendsOf sends past → IsSendsOf sends (e ∷ past)
IsSendsOf-other sends past (Send from to ssn) no_send no_restart h = absurd (no_send from to ssn refl)
IsSendsOf-other sends past (Restart who listed) no_send no_restart h = absurd (no_restart who listed refl)
IsSendsOf-other sends past (Deliver to send rsn listed) no_send no_restart h = record { positions = h.positions; lanes = h.lanes }
IsSendsOf-other sends past (Stable det) no_send no_restart h = record { positions = h.positions; lanes = h.lanes }
IsSendsOf-other sends past (Crash who) no_send no_restart h = record { positions = h.positions; lanes = h.lanes }
IsSendsOf-other sends past (Forget who listed) no_send no_restart h = record { positions = h.positions; lanes = h.lanes }

then_eq : (a b : Ordering) → is_eq (ordering_then a b) ≡ (is_eq a && is_eq b)
then_eq Less b = refl
then_eq _ b = refl

-- two names are equal in the order of sends where they are those of one send
send_ties : (a b : SendName) → is_at (send_cmp a) b ≡ same_send a b
send_ties a b =
    let rest = then_eq (nat_cmp a.lane b.lane) (nat_cmp a.ssn b.ssn) ∙ (λ i. sym (nat_ties a.lane b.lane) i && sym (nat_ties a.ssn b.ssn) i) in
    then_eq (nat_cmp a.source.0 b.source.0) (ordering_then (nat_cmp a.lane b.lane) (nat_cmp a.ssn b.ssn)) ∙ (λ i. sym (nat_ties a.source.0 b.source.0) i && rest i)

-- the position of a send is recorded at its name
pub IsSendsOf-send : (old new : Sends) (past : List Entry) (from to : Pid) (ssn lane_read position : ℕ) → new.lanes ≡ old.lanes → lane_read ≡ lane past from.0
    → ((q : SendName) → get send_cmp new.positions q ≡ cond (is_at (send_cmp (record { source = from; lane = lane_read; ssn = ssn })) q) (Some position) (get send_cmp old.positions q))
    → position ≡ length past → IsSendsOf old past → IsSendsOf new (Send from to ssn ∷ past)
IsSendsOf-send old new past from to ssn lane_read position same read put at h =
    record {
      positions = λ q. rw (put q, send_ties (record { source = from; lane = lane_read; ssn = ssn }) q, read, at, h.positions q) refl;
      lanes = λ p below. rw same (h.lanes p below);
    }

-- ---- the entry that a trace refuses is returned, unless an allocation failed

-- the error of a refused entry, unless it is `NoMemory`, comes with the entry
pub entry_returned : (o : Option TraceFault) (e : Entry) (f : TraceFault) (found : Option Entry) → f ≡ unwrap_or o trace.NoMemory → found ≡ option_map (λ _. e) o → kind.Line (text_kind_of f) ≢ kind.Line NoMemory → found ≡ Some e
entry_returned o e f found is entry other = grind arith

-- and it is the entry's error
pub fault_kept : (o : Option TraceFault) (f : TraceFault) (k : MergeKind) → f ≡ unwrap_or o trace.NoMemory → k ≡ kind.Line (text_kind_of f) → k ≢ kind.Line NoMemory → option_map (λ g. kind.Line (text_kind_of g)) o ≡ Some k
fault_kept None f k is of other = absurd (other (of ∙ ap (λ g. kind.Line (text_kind_of g)) is))
fault_kept (Some g) f k is of other = ap Some (sym (of ∙ ap (λ h. kind.Line (text_kind_of h)) is))
