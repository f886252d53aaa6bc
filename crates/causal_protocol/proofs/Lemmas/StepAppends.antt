-- How many entries a legal step appends: as many as its reply says, and one stable entry for each writer.
use Rattle.std.proofs.Common.{◌≡◌, ◌+◌, refl, ℕ, List, [], ◌∷◌, length, map, count_by, cond, length-take, arith}
use Rattle.std.proofs.lemmas.List.{length-map, length-replicate}
use Rattle.std.proofs.lemmas.List.Sums.{sum_by-cons}
use Rattle.causal_name.specs.declared.Pid.{Pid}
use Rattle.causal_name.specs.declared.Det.{Det}
use Rattle.causal_trace.specs.declared.entry.Entry.{Entry}
use Rattle.causal_trace.specs.declared.entry.Entry.TheVariants.{Stable}
use Rattle.causal_protocol.specs.declared.request.Request.{Request}
use Rattle.causal_protocol.specs.declared.request.Reply.{Reply}
use Rattle.causal_protocol.specs.Run.{Run}
use Rattle.causal_protocol.specs.Steps.{LegalStep, append_all, sends_of, writers_of}
use Rattle.causal_protocol.specs.Runs.{RepliesMatchEntries}
use Rattle.causal_protocol.specs.ReplyEntries.{is_stable_entry, reply_entries}

written-sends_of : (q : Pid) (ssn : ℕ) (tos : List Pid) → count_by is_stable_entry (sends_of q ssn tos) ≡ 0
unfolding sends_of
written-sends_of q ssn [] = refl
written-sends_of q ssn (to ∷ tos) = written-sends_of q (ssn + 1) tos

written-stable : (ds : List Det) → count_by is_stable_entry (map Stable ds) ≡ length (map Stable ds)
written-stable [] = refl
written-stable (d ∷ ds) = grind (arith, written-stable ds, sum_by-cons (λ x. cond (is_stable_entry x) 1 0) (Stable d) (map Stable ds))

-- a step appends as many stable entries as it has writers
pub written-step : (r : Run) (request : Request) (reply : Reply) (es : List Entry) → LegalStep r request reply es → count_by is_stable_entry es ≡ length (writers_of request es)
unfolding LegalStep
written-step r request reply es legal = grind (arith, written-sends_of, written-stable, length-replicate)

-- a reply gives the number of entries that the step appended
pub told_entries-is : (r : Run) (request : Request) (reply : Reply) (es : List Entry) → LegalStep r request reply es → length es ≡ reply_entries reply
unfolding LegalStep
told_entries-is r request reply es legal = grind (arith, length-map, length-take)

-- a past is longer by the number of appended entries
pub length-pushed : (es past : List Entry) → length (append_all es past) ≡ length es + length past
length-pushed [] past = omega arith
length-pushed (e ∷ es) past = omega (arith, length-pushed es (e ∷ past))

-- each reply gives the number of entries by which the run grew
pub replies_tell_entries : RepliesMatchEntries
replies_tell_entries old new request reply step = grind (arith, told_entries-is, length-pushed)
