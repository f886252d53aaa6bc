use Rattle.std.proofs.Common.{arith}
use Rattle.std.specs.Map.{values_of}
use Rattle.std.proofs.lemmas.Map.Entries.{lookup_from_place}
use Rattle.causal_log.proofs.EntryLemmas.{det_equiv, get_log}
use Rattle.causal_log.proofs.table.Table.known_at.Goals as goal

pub returns-then-eq-clause-known : goal.returns-then-eq-clause-known
returns-then-eq-clause-known c =
    let entries = values_of c.self.inside.entries.entries in
    grind (arith, lookup_from_place det_equiv entries c.args.place c.args.det c.index.result.now.1 c.self.invariant.distinct, get_log)
