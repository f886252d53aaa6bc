use Rattle.std.proofs.Common.{◌≡◌, ◌<◌, get_or, set, length, ap, refl, ◌∙◌, arith, below_more}
use Rattle.std.proofs.lemmas.List.{get_or-set_same, get_or-set_other, length-set}
use Rattle.std.proofs.lemmas.List.FromFn.{fill_by_all}
use Rattle.std.specs.Prelude.{if◌then◌else◌}
use Rattle.std.specs.FinSet.{contains}
use mathlib.Core.Bool.{Bool, true, false}
use mir.Val.{bool_byte}
use Rattle.nixu_boundary.specs.Flags.{flags}
use Rattle.nixu_boundary.proofs.flags.flags_of.Goals as goal

byte : (b : Bool) → bool_byte b ≡ (if b then 1 else 0)
byte true = refl
byte false = refl

pub loop-process-preserved : goal.loop-process-preserved
loop-process-preserved c =
    let xs = c.loop-process.flags in
    let i = c.loop-process.process in
    let y = c.from.result in
    let one : y ≡ (if contains c.args.set i then 1 else 0) = c.from.ensures ∙ ap bool_byte c.contains.ensures ∙ byte (contains c.args.set i) in
    let lt : i < length xs = omega (arith, c.loop-process.invariant.count, c.loop-process-test.true) in
    record {
      count = length-set xs i y ∙ c.loop-process.invariant.count;
      verdict = below_more (λ p. get_or (set xs i y) p 0 ≡ (if contains c.args.set p then 1 else 0)) i
          (λ p low. get_or-set_other xs i p y 0 (λ e. omega (arith, e, low)) ∙ c.loop-process.invariant.verdict p low)
          (get_or-set_same xs i y 0 lt ∙ one);
    }

pub returns : goal.returns
unfolding flags
returns c = fill_by_all (λ p. if contains c.args.set p then 1 else 0) c.loop-process.flags 256 0 c.loop-process.invariant.count (λ k low. c.loop-process.invariant.verdict k (omega (arith, c.loop-process-test.false, low)))
