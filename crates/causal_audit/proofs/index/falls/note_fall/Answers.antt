use Rattle.causal_audit.proofs.Common.{◌<◌, ◌∷◌, length, map, sym, ap, subst, ◌∙◌, arith, length-map, len}
use Rattle.causal_audit.specs.Inside.Index.Falls.{AreFalls}
use Rattle.causal_audit.specs.Inside.Index.Lists.{with_added}
use Rattle.causal_audit.proofs.Shown.{counted, down_members, few_members}
use Rattle.causal_audit.proofs.index.DownCounts.{falls_more, falls_same}
use Rattle.std.proofs.lemmas.Result.{on_ok_weaker}
use Rattle.causal_audit.proofs.index.falls.note_fall.Goals as goal

pub push_to_list-requires : goal.push_to_list-requires
push_to_list-requires c = omega (arith, c.requires, c.len.ensures.counted, few_members c.args.down c.len.ensures.members)

pub returns-in-Restart-clause-falls : goal.returns-in-Restart-clause-falls
returns-in-Restart-clause-falls c =
    on_ok_weaker c.push_to_list.result (λ added past long shown are.
    let lists = map (λ list. list.items) c.args.lists.now.items in
    let there : len c.args.down < length lists = omega (arith, c.requires, few_members c.args.down c.len.ensures.members, length-map c.args.lists.now.items (λ list. list.items)) in
    subst (AreFalls (c.args.entry.now ∷ past)) (sym (added ∙ ap (λ m. with_added lists m c.args.i) c.len.ensures.counted ∙ ap (with_added lists (len c.args.down)) (sym long)))
    (falls_more c.args.entry.now past lists are (len c.args.down) (λ n legal. sym (counted n c.args.down _ (down_members n (c.args.entry.now ∷ past) c.args.down legal shown))) there))
    c.push_to_list.ensures.added

pub returns-in_default-clause-falls : goal.returns-in_default-clause-falls
returns-in_default-clause-falls c past long shown are = falls_same c.args.entry.now past (map (λ list. list.items) c.args.lists.now.items) are c.in_default.not-Restart
