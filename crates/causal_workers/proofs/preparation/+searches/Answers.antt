use Rattle.std.proofs.Common.{arith}
use Rattle.causal_audit.specs.Searches.{IsSearched}
use Rattle.causal_workers.proofs.preparation.+searches.Goals as goal

pub returns : goal.returns
returns g t c =
    let scope = c.args.indexed.now in
    let mid = c.last_share-mid.result in
    let last : IsSearched scope mid c.args.to c.in_ok-last.last = grind (arith, c.in_ok-last.is, c.join-last.ensures.first) in
    let first : IsSearched scope c.args.from mid c.in_ok-first.first = grind (arith, c.in_ok-first.is, c.join-last.ensures.second) in
    c.in_ok-found.ensures scope c.args.from mid c.args.to last first
