use Rattle.causal_audit.proofs.Common.{◌≡◌, ◌<◌, length, sym, subst, arith, get_or-map, length-map, All-get_or}
use Rattle.causal_audit.specs.Inside.PositionLists.{HasNoneUntil}
use Rattle.causal_audit.specs.Inside.Index.Lists.{list_at, lists_in}
use Rattle.causal_audit.proofs.index.by_process.ByProcess.next_of.Goals as goal

pub new-ahead-requires : goal.new-ahead-requires
new-ahead-requires c = let lists = c.args.self.now.lists.items in
    let inside : c.from.result < length lists = omega (arith, c.from.ensures, c.ranges.process.fits, c.args.self.now.count) in
    let is : list_at (lists_in lists) c.from.result ≡ c.as_slice-list.result.now = grind (arith, get_or-map) in
    grind (arith, All-get_or, length-map)

is : (c : goal.After-next) → list_at (lists_in c.args.self.now.lists.items) c.args.process ≡ c.as_slice-list.result.now
is c = grind (arith, get_or-map)

pub returns-clause-none : goal.returns-clause-none
returns-clause-none c = subst (λ list. HasNoneUntil list c.args.from c.next.result) (sym (is c)) (c.next.ensures.none c.as_slice-list.result.now c.new-ahead.ensures)

pub returns-clause-found : goal.returns-clause-found
returns-clause-found c early = grind (arith, is)
