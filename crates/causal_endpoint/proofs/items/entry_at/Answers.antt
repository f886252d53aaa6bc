use Rattle.std.proofs.Common.{sym, ◌∙◌, arith}
use Rattle.std.specs.FinMap as fin
use Rattle.causal_endpoint.proofs.Written.{none_past}
use Rattle.causal_endpoint.proofs.items.entry_at.Goals as goal

pub unreachable-requires : goal.unreachable-requires
unreachable-requires c = none_past (fin.entries c.args.log.now.map) c.args.i (sym c.at.ensures ∙ c.in_default.is) (omega (arith, c.requires, fin.len-entries c.args.log.now.map))
