-- What is written for recorder files, if the bytes of the reader and of the writer are known.
use Rattle.std.proofs.Common.{◌≡◌, ◌<◌, List, ℕ, Option, length, take, subst}
use Rattle.std.specs.Io.KnownBytes.{Appends}
use Rattle.causal_outcomes.specs.declared.ended.Ended.{Ended}
use Rattle.causal_outcomes.specs.declared.ended.Ended.TheVariants.{Accepted, Breached, Ranged, Followed, Strayed, Merged, Faulted, Ran, Refused, ReadFault, WriteFault, NoMemory, NoWorker, FinishFault}
use Rattle.causal_outcomes.specs.declared.merge_command.Mapping.{Mapping}
use Rattle.causal_outcomes.specs.declared.merge_command.MergeOutcome.{MergeOutcome}
use Rattle.causal_outcomes.specs.Merges.{IsMergeAnswer, WritesMerge, WritesMergeFor, bytes_read}
use Rattle.causal_outcomes.specs.Inside.MergeOutcomes.{IsMergeFor}
use Rattle.causal_outcomes.proofs.Lemmas.Known.{IfSome-weaker}

-- the outcome after a write fault
abbrev with_write_fault : MergeOutcome → MergeOutcome
with_write_fault m = record { ended = WriteFault; torn = m.torn; origins = m.origins; fault = m.fault; excerpt = m.excerpt }

answered : (most : ℕ) (mapping : Mapping) (text : List ℕ) (m : MergeOutcome) (old new : Option (List ℕ)) (e : Ended) (out : List ℕ) → IsMergeAnswer most mapping e text m out → Appends old new out → WritesMerge most mapping e text m old new
answered most mapping text m old new Accepted out p a = absurd p
answered most mapping text m old new Breached out p a = absurd p
answered most mapping text m old new Ranged out p a = absurd p
answered most mapping text m old new Followed out p a = absurd p
answered most mapping text m old new Strayed out p a = absurd p
answered most mapping text m old new Merged out p a = (out, p, a)
answered most mapping text m old new Faulted out p a = (out, p, a)
answered most mapping text m old new Ran out p a = absurd p
answered most mapping text m old new Refused out p a = absurd p
answered most mapping text m old new ReadFault out p a = absurd p
answered most mapping text m old new WriteFault out p a = absurd p
answered most mapping text m old new NoMemory out p a = absurd p
answered most mapping text m old new NoWorker out p a = absurd p
answered most mapping text m old new FinishFault out p a = absurd p

as_write_fault : (most : ℕ) (mapping : Mapping) (text : List ℕ) (m : MergeOutcome) (e : Ended) (out : List ℕ) → IsMergeAnswer most mapping e text m out → IsMergeAnswer most mapping e text (with_write_fault m) out
as_write_fault most mapping text m Accepted out p = absurd p
as_write_fault most mapping text m Breached out p = absurd p
as_write_fault most mapping text m Ranged out p = absurd p
as_write_fault most mapping text m Followed out p = absurd p
as_write_fault most mapping text m Strayed out p = absurd p
as_write_fault most mapping text m Merged out p = record { recording = p.recording; origins = p.origins; merges = p.merges; spelled = p.spelled; returned = p.returned; faultless = p.faultless }
as_write_fault most mapping text m Faulted out p = record { fault = p.fault; first = p.first; line = p.line; faulty = p.faulty; whole = p.whole; unmapped = p.unmapped }
as_write_fault most mapping text m Ran out p = absurd p
as_write_fault most mapping text m Refused out p = absurd p
as_write_fault most mapping text m ReadFault out p = absurd p
as_write_fault most mapping text m WriteFault out p = absurd p
as_write_fault most mapping text m NoMemory out p = absurd p
as_write_fault most mapping text m NoWorker out p = absurd p
as_write_fault most mapping text m FinishFault out p = absurd p

-- the whole answer was appended
pub merged_whole : (most : ℕ) (mapping : Mapping) (known old new : Option (List ℕ)) (m : MergeOutcome) (out bytes : List ℕ) → bytes ≡ out → IsMergeFor most mapping known m out → Appends old new bytes → WritesMergeFor most mapping known m old new
merged_whole most mapping known old new m out bytes same p a =
    IfSome-weaker known _ _ (λ text is. answered most mapping (bytes_read most text) m old new m.ended out is (subst (Appends old new) same a)) p

-- a proper prefix of the answer was appended
pub merged_first : (most : ℕ) (mapping : Mapping) (known old new : Option (List ℕ)) (m : MergeOutcome) (out bytes : List ℕ) (n : ℕ) → bytes ≡ out → IsMergeFor most mapping known m out → n < length bytes → Appends old new (take n bytes)
    → WritesMergeFor most mapping known (with_write_fault m) old new
merged_first most mapping known old new m out bytes n same p some a =
    IfSome-weaker known _ _ (λ text is. (m.ended, out, n, as_write_fault most mapping (bytes_read most text) m m.ended out is, subst (λ b. n < length b) same some, subst (λ b. Appends old new (take n b)) same a)) p
