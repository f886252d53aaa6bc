use Rattle.std.proofs.Common.{arith, ◌∙◌, ◌+◌, ◌++◌, drop, is_some, ap, sym}
use Rattle.causal_log.specs.Knowledge.{is_carried, union_with, knowledge_from_item}
use Rattle.causal_log.specs.Logs.{dets_of}
use Rattle.causal_log.specs.Inside.BatchCache.{with_carried, known_of_item}
use Rattle.causal_log.proofs.KnownLemmas.{joined_nothing, told_both}
use Rattle.causal_log.proofs.MergeLemmas.{drop_got, met, raise, still_out, logged_out, comes_in, next_after, rest_ascends}
use Rattle.causal_log.proofs.next_batch_merge.merge_item.Goals.{then-not-is_carried-via-then-not-is_carried, then-not-is_carried-via-else-not-is_carried+then-is_some}
use Rattle.causal_log.proofs.next_batch_merge.merge_item.Goals as goal

pub returns-in-Some-clause-news : goal.returns-in-Some-clause-news
returns-in-Some-clause-news c = λ log logged was.
    let d = c.args.delivery.now in
    let next = c.in-Some.next in
    let news = (knowledge_from_item d.from d.me c.args.item.now).1 in
    let heard = c.receiver_knowledge-news.ensures ∙ ap (union_with (known_of_item c.args.item.now)) c.requires.both ∙ told_both d.from d.me c.args.item.now in
    let here = drop_got c.args.kept.now c.args.place next c.in-Some.ensures.found in
    rw (c.in_ok-push_if_carried.ensures, c.union_with.ensures, c.sender_knowledge.ensures, heard)
    (met d.f log c.args.item.now.det news c.args.out.now.items next (drop (c.args.place + 1) c.args.kept.now) (rw here at was) c.requires.before c.in-Some.ensures.same)

pub returns-then-not-is_carried-clause-news : goal.returns-then-not-is_carried-clause-news
returns-then-not-is_carried-clause-news c = λ log logged was.
    let d = c.args.delivery.now in
    let det = c.args.item.now.det in
    let news = (knowledge_from_item d.from d.me c.args.item.now).1 in
    let heard = c.receiver_knowledge-news.ensures ∙ ap (union_with (known_of_item c.args.item.now)) c.requires.both ∙ told_both d.from d.me c.args.item.now in
    let out = c.args.out.now.items in
    let rest = drop c.args.place c.args.kept.now in
    let after = next_after c.args.kept.now c.args.place det (rest_ascends d.f log out rest was) c.requires.next (c.next_of.ensures.other (ap is_some c.in_default.is)) in
    elim c.then-not-is_carried.branch [
      | then-not-is_carried-via-then-not-is_carried w ↦
          still_out d.f log det news out rest was c.requires.before after (sym (ap (is_carried d.f) (heard)) ∙ sym c.is_carried.ensures ∙ w.if-not-is_carried.true)
      | then-not-is_carried-via-else-not-is_carried+then-is_some w ↦
          logged_out d.f log det news out rest was c.requires.before after (logged ∙ grind arith)
    ]

pub returns-then-not-is_carried-clause-before : goal.returns-then-not-is_carried-clause-before
returns-then-not-is_carried-clause-before c = λ d low. raise (dets_of c.args.out.now.items) c.args.item.now.det d c.requires.before low

pub returns-clause-news : goal.returns-clause-news
returns-clause-news c = λ log logged was.
    let d = c.args.delivery.now in
    let det = c.args.item.now.det in
    let news = (knowledge_from_item d.from d.me c.args.item.now).1 in
    let heard = c.receiver_knowledge-news.ensures ∙ ap (union_with (known_of_item c.args.item.now)) c.requires.both ∙ told_both d.from d.me c.args.item.now in
    let out = c.args.out.now.items in
    let rest = drop c.args.place c.args.kept.now in
    let after = next_after c.args.kept.now c.args.place det (rest_ascends d.f log out rest was) c.requires.next (c.next_of.ensures.other (ap is_some c.in_default.is)) in
    ap (λ xs. xs ++ rest) c.in_ok-push_if_carried-2.ensures
    ∙ ap (λ k. with_carried d.f det k out ++ rest) (heard ∙ sym (joined_nothing news))
    ∙ comes_in d.f log det news out rest was c.requires.before after (logged ∙ grind arith)
