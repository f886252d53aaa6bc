use Rattle.std.proofs.Common.{◌∙◌, ◌-◌, ◌++◌, ◌∷◌, [], take, length, map, ap}
use Rattle.std.specs.Prelude.{unwrap_or}
use Rattle.causal_memory.specs.Outboxes.{batch_at, kept_among}
use Rattle.causal_memory.proofs.SentMessages.{first_stay, kept_same, last_there}
use Rattle.causal_memory.proofs.outbox.Outbox.begin_step.Goals as goal

pub returns-clause-kept : goal.returns-clause-kept
returns-clause-kept c =
    let old = c.self.inside.batches.items in
    let used = c.self.inside.used_batches in
    let messages = c.self.inside.messages.items in
    ap (λ xs. map (kept_among xs) messages) (c.push_reserved.ensures.items ∙ ap (λ xs. xs ++ c.args.batch ∷ []) c.truncate.ensures.items)
    ∙ kept_same used old (take used old ++ c.args.batch ∷ []) messages c.self.invariant.each (λ step h. first_stay old c.args.batch used step h c.self.invariant.within)
    ∙ ap (λ s. s.kept) c.self.view_is

pub returns-clause-batch : goal.returns-clause-batch
returns-clause-batch c =
    ap (λ xs. batch_at xs (length xs - 1)) c.push_reserved.ensures.items ∙ ap (λ o. unwrap_or o []) (last_there c.truncate.new.self.items c.args.batch)
