-- What is written for the text of a script, if the bytes of the reader and of the writer are known.
use Rattle.std.proofs.Common.{◌≡◌, ◌<◌, List, ℕ, Option, length, take, subst}
use Rattle.std.specs.Prelude.{IfSome}
use Rattle.std.specs.Io.KnownBytes.{Appends}
use Rattle.causal_outcomes.specs.declared.ended.Ended.{Ended}
use Rattle.causal_outcomes.specs.declared.ended.Ended.TheVariants.{Accepted, Breached, Ranged, Followed, Strayed, Merged, Faulted, Ran, Refused, ReadFault, WriteFault, NoMemory, NoWorker, FinishFault}
use Rattle.causal_runtime_commands.specs.Runs.{IsScriptAnswer, WritesScript, script_bytes_read}
use Rattle.causal_outcomes.proofs.Lemmas.Known.{IfSome-weaker}

answered : (text : List ℕ) (old new : Option (List ℕ)) (e : Ended) (out : List ℕ) → IsScriptAnswer text e out → Appends old new out → WritesScript text e old new
answered text old new Accepted out p a = absurd p
answered text old new Breached out p a = absurd p
answered text old new Ranged out p a = absurd p
answered text old new Followed out p a = absurd p
answered text old new Strayed out p a = absurd p
answered text old new Merged out p a = absurd p
answered text old new Faulted out p a = (out, p, a)
answered text old new Ran out p a = (out, p, a)
answered text old new Refused out p a = (out, p, a)
answered text old new ReadFault out p a = absurd p
answered text old new WriteFault out p a = absurd p
answered text old new NoMemory out p a = absurd p
answered text old new NoWorker out p a = absurd p
answered text old new FinishFault out p a = absurd p

-- the whole answer was appended
pub prints_whole : (known old new : Option (List ℕ)) (e : Ended) (out bytes : List ℕ) → bytes ≡ out → IfSome known (λ text. IsScriptAnswer (script_bytes_read text) e out)
    → Appends old new bytes → IfSome known (λ text. WritesScript (script_bytes_read text) e old new)
prints_whole known old new e out bytes same p a =
    IfSome-weaker known _ _ (λ text is. answered (script_bytes_read text) old new e out is (subst (Appends old new) same a)) p

-- a proper prefix of the answer was appended
pub prints_first : (known old new : Option (List ℕ)) (e : Ended) (out bytes : List ℕ) (n : ℕ) → bytes ≡ out → IfSome known (λ text. IsScriptAnswer (script_bytes_read text) e out)
    → n < length bytes → Appends old new (take n bytes) → IfSome known (λ text. WritesScript (script_bytes_read text) WriteFault old new)
prints_first known old new e out bytes n same p some a =
    IfSome-weaker known _ _ (λ text is. (e, out, n, is, subst (λ b. n < length b) same some, subst (λ b. Appends old new (take n b)) same a)) p
