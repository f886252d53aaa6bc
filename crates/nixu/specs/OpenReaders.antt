-- Open readers and the bytes that they have read. `most` is the maximum number of entries.
use Rattle.std.specs.Prelude.{ℕ, List, ◌++◌, Option, Some, None}
use Rattle.causal_text.specs.PushReaders.{HasReceived}
use Rattle.nixu.specs.declared.handle_content.HandleContent.{HandleContent}
use Rattle.nixu.specs.declared.handle_content.HandleContent.TheVariants.{Reader, Trace}
use Rattle.nixu.specs.declared.c_verdict.CVerdict.{CVerdict}
use Rattle.nixu.specs.CVerdicts.{IsFaultOfTextWithin}

-- a reader is open and has read these bytes
abbrev pub HasReadIn : ℕ → Option HandleContent → List ℕ → Type 0
HasReadIn most (Some (Reader s)) bytes = HasReceived most s bytes
HasReadIn most (Some (Trace t limits)) bytes = ⊥
HasReadIn most None bytes = ⊥

-- a reader is open
abbrev pub IsReader : Option HandleContent → Type 0
IsReader (Some (Reader s)) = Unit {0}
IsReader (Some (Trace t limits)) = ⊥
IsReader None = ⊥

-- no reader is open
abbrev pub IsNoReader : Option HandleContent → Type 0
IsNoReader (Some (Reader s)) = ⊥
IsNoReader (Some (Trace t limits)) = Unit {0}
IsNoReader None = Unit {0}

-- the struct contains the first error of the bytes, whatever bytes follow
abbrev pub IsFaultOfAllTexts : ℕ → List ℕ → CVerdict → Type 0
IsFaultOfAllTexts most bytes verdict = (more : List ℕ) → IsFaultOfTextWithin most (bytes ++ more) verdict
