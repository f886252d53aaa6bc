use Rattle.std.proofs.Common.{◌≡◌, ◌⊎◌, ℕ, List, Result, Ok, Err, inl, inr, refl}
use Rattle.causal_trace.specs.Rows.{Recording}
use Rattle.causal_line.specs.declared.kind.TextFault.{TextFault}
use Rattle.causal_text.specs.Inside.LineByLine.{read_text}
use Rattle.causal_text.specs.Spelling.{SpellsWithin, IsFirstFaultWithin}
use Rattle.causal_text.proofs.Spellings.{Spells-reading, IsFirstFault-reading}
use Rattle.causal_text.proofs.Lemmas.Exact.{one_recording, one_fault, not_both}
use Rattle.causal_text.proofs.laws.reading_is_unique.Goals as goal

cases : (most : ℕ) (text : List ℕ) (r : Result Recording TextFault) → read_text most text ≡ r → ((t : Recording) × SpellsWithin most text t) ⊎ ((f : TextFault) × IsFirstFaultWithin most text f)
cases most text (Ok t) e = inl (t, Spells-reading most text t e)
cases most text (Err f) e = inr (f, IsFirstFault-reading most text f e)

pub returns : goal.returns
returns c = λ most. record { one_recording = one_recording most; one_fault = one_fault most; not_both = not_both most; one_of_them = λ text. cases most text (read_text most text) refl }
