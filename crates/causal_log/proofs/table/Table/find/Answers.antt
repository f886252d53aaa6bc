use Rattle.std.proofs.Common.{arith}
use Rattle.std.specs.Map.{values_of}
use Rattle.std.proofs.lemmas.Map.Entries.{lookup_from_place}
use Rattle.causal_log.proofs.EntryLemmas.{det_equiv, get_log}
use Rattle.causal_log.proofs.TableLemmas.{absent_later, lookup_missing}
use Rattle.causal_log.proofs.table.Table.find.Goals as goal

pub returns-then-is_later-clause-known : goal.returns-then-is_later-clause-known
returns-then-is_later-clause-known c =
    grind (arith, absent_later c.self.inside.entries.entries c.self.inside.numbers c.self.invariant.keyed c.self.inside.last c.args.det c.self.invariant.ended, lookup_missing, get_log)

pub returns-clause-known : goal.returns-clause-known
returns-clause-known c = grind (arith, lookup_from_place det_equiv (values_of c.self.inside.entries.entries), lookup_missing, get_log)
