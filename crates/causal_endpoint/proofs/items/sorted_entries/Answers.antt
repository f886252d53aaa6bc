use Rattle.std.proofs.Common.{sym, ap, ◌∙◌, ◌++◌, ◌∷◌, [], map, arith}
use Rattle.std.specs.FinMap as fin
use Rattle.std.proofs.lemmas.List.{take_all}
use Rattle.causal_endpoint.specs.Items.{wire_entry}
use Rattle.causal_endpoint.proofs.Written.{entry_next}
use Rattle.causal_endpoint.proofs.items.sorted_entries.Goals as goal

pub loop-i-preserved : goal.loop-i-preserved
loop-i-preserved c =
    c.in_ok-push.ensures.items
    ∙ ap (λ xs. xs ++ c.entry_at.result ∷ []) c.loop-i.invariant
    ∙ sym (entry_next c.args.source (fin.entries c.args.sorted.now.map) c.loop-i.i c.entry_at.result c.entry_at.ensures)

pub returns : goal.returns
returns c =
    let es = fin.entries c.args.sorted.now.map in
    c.loop-i.invariant
    ∙ ap (map (wire_entry c.args.source)) (take_all c.loop-i.i es (omega (arith, c.loop-i-test.false, c.len-i-end.ensures, fin.len-entries c.args.sorted.now.map)))
