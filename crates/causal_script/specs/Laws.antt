-- The law that each text has exactly one reading.
use Rattle.std.specs.Prelude.{◌≡◌, ◌⊎◌, ℕ, List}
use Rattle.causal_script.specs.declared.script.ScriptFault.{ScriptFault}
use Rattle.causal_script.specs.Spelling.{ScriptContent, SpellsScript}
use Rattle.causal_script.specs.Faults.{IsFirstScriptFault}

-- a text spells exactly one script or has exactly one first error, and never both
pub record ScriptReadingIsUnique : Type 0 where
  pub one_plan : (text : List ℕ) (p q : ScriptContent) → SpellsScript text p → SpellsScript text q → p ≡ q
  pub one_fault : (text : List ℕ) (f g : ScriptFault) → IsFirstScriptFault text f → IsFirstScriptFault text g → f ≡ g
  pub not_both : (text : List ℕ) (p : ScriptContent) (f : ScriptFault) → SpellsScript text p → IsFirstScriptFault text f → ⊥
  pub one_of_them : (text : List ℕ) → ((p : ScriptContent) × SpellsScript text p) ⊎ ((f : ScriptFault) × IsFirstScriptFault text f)
