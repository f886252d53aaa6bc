use Rattle.std.proofs.Common.{arith, ap, sym, ◌+◌, ◌∙◌, get_or}
use Rattle.std.specs.FinSet as set
use Rattle.causal_wire.proofs.Holders.{others_fault-right, from_list-next}
use Rattle.causal_wire.proofs.lists.others_of.Goals as goal

pub loop-number-preserved : goal.loop-number-preserved
loop-number-preserved c =
    let i = c.loop-number.number-index in
    record {
      set_so_far = c.insert.ensures ∙ ap (λ s. set.insert s (get_or c.args.listed.now i 0)) c.loop-number.invariant.set_so_far ∙ sym (from_list-next i c.args.listed.now c.loop-number-test.true);
      rest = c.loop-number.invariant.rest
          ∙ others_fault-right c.args.n c.args.source.0 c.loop-number.least (c.from-least.result + 1) i c.args.listed.now c.loop-number-test.true
          (omega (arith, c.from.ensures, c.if-n-from.false)) (omega (arith, c.from-in-loop-number.ensures, c.if-from-least.false)) (λ same. omega (arith, same, c.if-number-source.false)) (omega (arith, c.from-least.ensures));
    }
