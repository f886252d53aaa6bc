-- The context of an error, for bytes that more bytes may follow.
use Rattle.std.specs.Prelude.{ℕ, List, [], ◌∷◌, ◌++◌, IfSome}
use Rattle.causal_line.specs.declared.text_refusal.TextRefusal.{TextRefusal}
use Rattle.causal_text.specs.FaultContexts.{IsContextWithin, HasTrueContextWithin}

-- the context is true of the text, whatever follows these bytes
abbrev pub HasTrueContextAlways : ℕ → List ℕ → TextRefusal → Type 0
HasTrueContextAlways most bytes rejected = IfSome rejected.context (λ at. (more : List ℕ) → IsContextWithin most (bytes ++ more) rejected.fault.line at.trace.recording at.parsed_line)

-- the context is true whatever follows, or of these bytes alone if the last piece was empty
abbrev pub HasTrueContextAfter : ℕ → List ℕ → List ℕ → TextRefusal → Type 0
HasTrueContextAfter most [] bytes rejected = HasTrueContextWithin most bytes rejected
HasTrueContextAfter most (x ∷ xs) bytes rejected = HasTrueContextAlways most bytes rejected
