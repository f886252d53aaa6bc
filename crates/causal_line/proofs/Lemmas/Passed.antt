-- Consequences of a result that is not an error, and of a line's place in the text.
use Rattle.std.proofs.Common.{◌≡◌, ◌≢◌, ℕ, suc, ◌<◌, ◌≤◌, List, Bool, true, false, cond, Ok, Err, refl, arith}
use Rattle.std.specs.Prelude.{Result}
use Rattle.std.proofs.lemmas.Bool.{lt-leb}
use Rattle.causal_trace.specs.Rows.{Recording}
use Rattle.causal_line.specs.declared.kind.TextKind.{TextKind}
use Rattle.causal_line.specs.declared.kind.TextKind.TheVariants.{Big}
use Rattle.causal_line.specs.declared.parsed_line.ParsedLine.{ParsedLine}
use Rattle.causal_line.specs.declared.stage.Stage.{Stage}
use Rattle.causal_line.specs.declared.stage.Stage.TheVariants.{Ended}
use Rattle.causal_line.specs.declared.version.Version.{Version}
use Rattle.causal_line.specs.Reading.{◌>>=◌}
use Rattle.causal_line.specs.Stages.{max_text_len, apply_line, check_limit, advance_stage}
use Rattle.causal_line.specs.Values.{parse_line}

-- if a sequence succeeds, both parts do
pub bind_ok : {A B E : Type 0} (r : Result A E) (f : A → Result B E) (y : B) → (r >>= f) ≡ Ok y → (x : A) × (r ≡ Ok x) × (f x ≡ Ok y)
bind_ok r f y h = grind arith

-- a success means that the test passed, if a failed test is an error
pub passed : {A : Type 0} (b : Bool) (r : Result A TextKind) (e : TextKind) (y : A) → cond b r (Err e) ≡ Ok y → (b ≡ true) × (r ≡ Ok y)
passed b r e y h = grind arith

-- a success means that the test failed, if a passed test is an error
pub passed_not : {A : Type 0} (b : Bool) (r : Result A TextKind) (e : TextKind) (y : A) → cond b (Err e) r ≡ Ok y → (b ≡ false) × (r ≡ Ok y)
passed_not b r e y h = grind arith

-- a line that ends within the limit is not refused as `Big`
pub in_limit : (most : ℕ) (end : ℕ) (r : Result Stage TextKind) → end ≤ max_text_len most → check_limit most end r ≡ r
in_limit most end r h = rw (lt-leb (suc (max_text_len most)) end (omega arith)) refl

-- a parsed line within the limit is applied, unless it follows the end line
pub followed : (most : ℕ) (s : Stage) (end : ℕ) (line : List ℕ) (x : ParsedLine) → ((version : Version) (r : Recording) → s ≢ Ended version r) → end ≤ max_text_len most → parse_line line ≡ Ok x → advance_stage most s end line ≡ apply_line most s x
followed most s end line x going few is = grind (arith, in_limit)

over_limit : (most : ℕ) (end : ℕ) (r : Result Stage TextKind) → max_text_len most < end → check_limit most end r ≡ Err Big
over_limit most end r h = grind arith

-- a line beyond the limit is refused, unless it follows the end line
pub too_long : (most : ℕ) (s : Stage) (end : ℕ) (line : List ℕ) → ((version : Version) (r : Recording) → s ≢ Ended version r) → max_text_len most < end → advance_stage most s end line ≡ Err Big
too_long most (Ended version r) end line going over = absurd (going version r refl)
too_long most _ end line going over = over_limit most end _ over
