use Rattle.causal_audit.proofs.index.Filings.{mentions_ascend}
use Rattle.causal_audit.proofs.tables.Tables.first_orphan.Goals as goal

pub first_orphan-requires-clause-ascending : goal.first_orphan-requires-clause-ascending
first_orphan-requires-clause-ascending c = rw c.list-mentions.ensures (mentions_ascend _ _ _ c.self.invariant.mentioned c.args.det)
