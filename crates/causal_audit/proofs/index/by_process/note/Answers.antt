use Rattle.std.proofs.lemmas.Result.{on_ok_weaker}
use Rattle.causal_audit.proofs.Common.{◌<◌, ◌∷◌, length, map, sym, ap, subst, ◌∙◌, arith, length-map}
use Rattle.causal_audit.specs.Inside.Index.Lists.{AreTransitionsOf, with_added}
use Rattle.causal_audit.proofs.index.Filings.{turns_more, turns_same}
use Rattle.causal_audit.proofs.index.by_process.note.Goals as goal

pub returns-in-Some-clause-transitions : goal.returns-in-Some-clause-transitions
returns-in-Some-clause-transitions c =
    on_ok_weaker c.push_to_list.result (λ added past long are.
    let lists = map (λ list. list.items) c.args.lists.now.items in
    let there : c.in-Some.process < length lists = omega (arith, c.from.ensures, c.requires, c.from.type_inv, length-map c.args.lists.now.items (λ list. list.items)) in
    subst (AreTransitionsOf c.args.restarts (c.args.entry.now ∷ past)) (sym (added ∙ ap (λ m. with_added lists m c.args.i) c.from.ensures ∙ ap (with_added lists c.in-Some.process) (sym long)))
    (turns_more c.args.restarts c.args.entry.now past lists are c.in-Some.process c.in-Some.ensures there))
    c.push_to_list.ensures.added

pub returns-in-None-clause-transitions : goal.returns-in-None-clause-transitions
returns-in-None-clause-transitions c past long are = turns_same c.args.restarts c.args.entry.now past (map (λ list. list.items) c.args.lists.now.items) are c.in-None.ensures
