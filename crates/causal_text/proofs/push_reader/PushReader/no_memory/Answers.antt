use Rattle.std.proofs.Common.{ap, ◌∙◌}
use Rattle.causal_text.proofs.Stops.{no_memory_refusal}
use Rattle.causal_text.proofs.push_reader.PushReader.no_memory.Goals as goal

pub returns-clause-refusal : goal.returns-clause-refusal
returns-clause-refusal c =
    let same = c.without_context.ensures.fault in
    rw (← c.self.view_is) (λ most b s. no_memory_refusal most _ b _ (ap (λ f. f.kind) same ∙ c.no_memory.ensures.kind) (ap (λ f. f.line) same ∙ c.no_memory.ensures.line) c.without_context.ensures.context s.1)
