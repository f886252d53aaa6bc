use Rattle.causal_audit.proofs.Common.{get_or, arith, Contains-get_or}
use Rattle.std.proofs.lemmas.Grind.{common_steps}
use Rattle.causal_audit.proofs.index.mentions.Mentions.list_by.Goals as goal

pub returns : goal.returns
returns c past kept =
    let own = c.get-own.result.now in
    grind (arith, common_steps, Contains-get_or own 0 0, kept.owned c.args.number (get_or own 0 0) c.args.det, c.if-is_empty.false, c.is_empty.ensures)
