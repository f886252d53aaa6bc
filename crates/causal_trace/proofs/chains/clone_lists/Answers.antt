use Rattle.std.proofs.Common.{[], ◌∷◌, map, arith}
use Rattle.std.proofs.lemmas.List.{map-append, get_or-map, take_more, length-map}
use Rattle.causal_trace.proofs.chains.clone_lists.Goals as goal

pub loop-list-preserved : goal.loop-list-preserved
loop-list-preserved c =
    grind (
      arith,
      length-map c.args.lists.now (λ list. list.items),
      get_or-map (λ list. list.items) c.args.lists.now c.loop-list.list-index c.list-item.result [] c.loop-list-test.true,
      map-append (λ list. list.items) c.loop-list.copied.items (c.in_ok-clone_list.field-0 ∷ []),
      take_more (map (λ list. list.items) c.args.lists.now) c.loop-list.list-index [] (omega (arith, c.loop-list-test.true, length-map c.args.lists.now (λ list. list.items))),
    )
