use Rattle.std.proofs.Common.{◌≡◌, ◌∷◌, [], length, ap, sym, ◌∙◌, arith}
use Rattle.causal_holders.specs.Members.{ascending}
use Rattle.causal_holders.proofs.Order.{ascending-empty, ascending-least}
use Rattle.causal_holders.proofs.IterIterator.next.Goals as goal

pub returns-in_err-number-clause-steps : goal.returns-in_err-number-clause-steps
returns-in_err-number-clause-steps c =
    let h = c.in_err-number.ensures in
    let nothing : ascending c.args.self.now ≡ [] = ap ascending (sym c.self.view_is ∙ h) ∙ ascending-empty in
    rw c.from_residual.ensures (nothing, nothing)

-- the least member is removed
taken : (c : goal.After-remove) → ascending c.args.self.now ≡ c.in_ok-number.number ∷ ascending c.remove.new.self
taken c =
    let h = c.in_ok-number.ensures in
    ap ascending (sym c.self.view_is)
    ∙ ascending-least c.self.inside.rest c.in_ok-number.number (omega arith) h
    ∙ ap (λ s. c.in_ok-number.number ∷ ascending s) (sym c.remove.ensures)

pub returns-clause-steps : goal.returns-clause-steps
returns-clause-steps c = taken c

pub returns-clause-goes : goal.returns-clause-goes
returns-clause-goes c =
    let e = taken c in
    record { on = λ _. (tt, tt, omega (arith, ap length e)); keeps = tt; rests = λ _. tt }
