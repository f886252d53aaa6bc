use Rattle.std.proofs.Common.{◌≡◌, ◌∙◌, sym, true, false}
use Rattle.causal_workers.proofs.streaming.breach_so_far.Goals as goal

pub returns-in_default-clause-none : goal.returns-in_default-clause-none
returns-in_default-clause-none g c = λ most b r fed says look. absurd (c.in_default.ensures.none most b r fed says)

pub returns-then-not-has-clause-none : goal.returns-then-not-has-clause-none
returns-then-not-has-clause-none g c = λ most b r fed says look.
    let yes : c.has.result ≡ true = c.has.ensures.1 (rw (c.len.ensures.length, c.in-Some.ensures.unique most b r fed says) look) in
    absurd (let bad : false ≡ true = sym c.if-not-has.true ∙ yes in cc)

pub returns-in-Accept-clause-none : goal.returns-in-Accept-clause-none
returns-in-Accept-clause-none g c = λ most b r fed says look. rw (c.in-Accept.is, c.in-Some.ensures.unique most b r fed says) at c.in_ok-judged.ensures.verdict
