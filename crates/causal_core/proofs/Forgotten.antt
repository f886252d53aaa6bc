-- A process forgets what it knows to be stable.
use Rattle.std.proofs.Common.{ℕ, ◌≡◌, ◌<◌, ◌≤◌, Bool, true, cond, List, [], ◌∷◌, length, map, Option, None, is_some, sym, ap, arith}
use Rattle.std.specs.Prelude.{not, Result}
use Rattle.std.specs.List.{list_all}
use Rattle.std.specs.Option.{option_map, option_map_or}
use Rattle.std.specs.FinMap as fin
use Rattle.causal_name.specs.declared.Pid.{Pid}
use Rattle.causal_name.specs.declared.Det.{Det}
use Rattle.causal_name.proofs.Lemmas.DetOrder.{dets_total, exact_dets}
use Rattle.causal_log.specs.Logs.{LogMap, stable_in, after_drop_stable}
use Rattle.causal_trace.specs.declared.entry.Entry.{Entry}
use Rattle.causal_trace.specs.declared.entry.Entry.TheVariants.{Forget}
use Rattle.causal_trace.specs.Rows as Rows
use Rattle.causal_protocol.specs.declared.request.Request.TheVariants as Requests
use Rattle.causal_protocol.specs.declared.request.Reply.TheVariants as Replies
use Rattle.causal_protocol.specs.Memory.{Memory, Memories, present_at, update_at, with_log}
use Rattle.causal_protocol.specs.Gathering.{without_dets}
use Rattle.causal_protocol.specs.Run.{Run, memories, memories_of}
use Rattle.causal_protocol.specs.Refusals.{request_refusals, request_fault, dets_to_forget}
use Rattle.causal_protocol.specs.Steps.{LegalStep, Steps, extend_run, forget_entries, reply_of_forget}
use Rattle.causal_protocol.specs.declared.request.CoreFault.{CoreFault}
use Rattle.causal_trace.specs.Past.{is_stable, list_has}
use Rattle.causal_core.proofs.RunAfterStep.{changed_up}
use Rattle.causal_core.specs.Inside.MemoryInvariant.{MatchesEntriesAt, AllMatchEntries, IsRunData}
use Rattle.causal_core.proofs.MemoriesFit.{all_within, fits_other, all_fit_set, placed_more, there, fits_up}
use Rattle.causal_log.proofs.Lemmas.LogLists.{keys_logged, stable_ascends, stable_listed, get_unmarked}

get_without : (log : LogMap) (ds : List Det) (d : Det) → fin.get (without_dets ds log) d ≡ cond (not (list_has ds d)) (fin.get log d) None
get_without log ds d = fin.get-retain_keys log (λ x. not (list_has ds x)) d (λ x t. ap (λ y. not (list_has ds y)) (sym (exact_dets d x t)))

-- a log without the determinants that it knows to be stable is its unmarked part
forgets_marked : (log : LogMap) → without_dets (stable_in log) log ≡ after_drop_stable log
forgets_marked log = fin.same_map dets_total exact_dets _ _ (λ d. grind (arith, get_without log (stable_in log) d, stable_listed log d, get_unmarked log d))

-- what holds for a whole log holds for its unmarked part
unmarked_all : (P : Det → Bool) (log : LogMap) → list_all P (fin.keys log) ≡ true → list_all P (fin.keys (after_drop_stable log)) ≡ true
unmarked_all P log all = all_within P (fin.keys log) (fin.keys (after_drop_stable log)) (λ d there. grind (arith, there, keys_logged, get_unmarked log d)) all

-- and for its stable determinants
stable_all : (P : Det → Bool) (log : LogMap) → list_all P (fin.keys log) ≡ true → list_all P (stable_in log) ≡ true
stable_all P log all = all_within P (fin.keys log) (stable_in log) (λ d there. grind (arith, there, keys_logged, stable_listed log d)) all

forgotten_at : (past : List Entry) (p : Pid) (listed : List Det) (o : Option Memory) → MatchesEntriesAt past p.0 o → MatchesEntriesAt (Forget p listed ∷ past) p.0 (option_map (with_log after_drop_stable) o)
forgotten_at past p listed o h = grind (arith, unmarked_all, placed_more)

-- dropping the marked determinants equals removing the listed ones
same_change : (o : Option Memory) → option_map (with_log after_drop_stable) o ≡ option_map (with_log (without_dets (option_map_or (λ m. stable_in m.log) o []))) o
same_change o = grind (arith, forgets_marked)

-- after p dropped the marked determinants, the memories are those of the run with the forget entry
pub forgotten_held : (r : Run) (ms : Memories) (p : Pid) (listed : List Det) → IsRunData r ms → p.0 < r.recording.processes → listed ≡ dets_to_forget r p → Rows.first_fault r.recording.processes r.recording.past (Forget p listed) ≡ None → IsRunData (extend_run r (Requests.Forget p) (Forget p listed ∷ [])) (update_at (with_log after_drop_stable) ms p.0)
unfolding memories
forgotten_held r ms p listed run_data process is next =
    grind (
      arith,
      same_change (present_at (memories_of r) p.0),
      all_fit_set r.recording.processes r.recording.past (Forget p listed ∷ r.recording.past) ms p.0,
      fits_other,
      forgotten_at r.recording.past p listed (present_at ms p.0) (run_data.fit.each p.0 process),
    )

-- if the runtime does not refuse a forget, its entry is legal in the trace
pub forget_legal : (r : Run) (p : Pid) (listed : List Det) → AllMatchEntries r.recording.processes r.recording.past (memories_of r) → request_fault r (Requests.Forget p) ≡ None → listed ≡ dets_to_forget r p → 1 ≤ length listed
    → (p.0 < r.recording.processes) × (Rows.first_fault r.recording.processes r.recording.past (Forget p listed) ≡ None)
unfolding request_refusals Rows.rows_within
forget_legal r p listed fit none is some = grind (arith, fits_up, there {X = Memory}, stable_ascends, stable_all)

-- the list of a forget that is not refused has at most the limit's length
pub forget_few : (r : Run) (p : Pid) (listed : List Det) → request_fault r (Requests.Forget p) ≡ None → listed ≡ dets_to_forget r p → length listed ≤ 268435456
unfolding request_refusals
forget_few r p listed none is = grind arith

-- a forget appends nothing, or one forget entry
appended_is : (r next : Run) (p : Pid) (told : Result ℕ CoreFault) → Steps r (Requests.Forget p) (reply_of_forget told) next → (ds : List Det) × (next ≡ extend_run r (Requests.Forget p) (forget_entries p ds))
unfolding LegalStep
appended_is r next p told h = grind arith

-- a forget changes neither which processes are up nor what is stable
module _ (r next : Run) (p : Pid) (told : Result ℕ CoreFault) (s : Steps r (Requests.Forget p) (reply_of_forget told) next) where
  pub forget_filled : map is_some (memories_of next) ≡ map is_some (memories_of r)
  unfolding memories
  forget_filled = let a = appended_is r next p told s in grind (arith, a, changed_up)

  pub forget_stable : (d : Det) → is_stable next.recording.past d ≡ is_stable r.recording.past d
  forget_stable d = let a = appended_is r next p told s in grind (arith, a)
