-- Verdicts for one more value of f.
use Rattle.std.proofs.Common.{ℕ, List, [], ◌∷◌, ◌++◌}
use Rattle.causal_trace.specs.Rows.{Recording}
use Rattle.nixu.specs.declared.c_verdict.CVerdict.{CVerdict}
use Rattle.nixu.specs.VerdictArrays.{IsVerdictStruct, AreVerdictStructs}

-- the verdict for one more f is appended
pub TellEach-more : (r : Recording) (fs : List ℕ) (verdict : List CVerdict) (f : ℕ) (one : CVerdict) → AreVerdictStructs r fs verdict → IsVerdictStruct r f one → AreVerdictStructs r (fs ++ f ∷ []) (verdict ++ one ∷ [])
TellEach-more r [] [] f one verdict is = (is, tt)
TellEach-more r (g ∷ fs) (two ∷ more) f one verdict is = (verdict.0, TellEach-more r fs more f one verdict.1 is)
TellEach-more r [] (two ∷ more) f one verdict is = absurd verdict
TellEach-more r (g ∷ fs) [] f one verdict is = absurd verdict
