use Rattle.std.proofs.Common.{reverse, take}
use Rattle.std.proofs.lemmas.Result.{IfOk-weaker}
use Rattle.causal_trace.specs.Past.{instant}
use Rattle.causal_trace.proofs.Lemmas.EntryFacts.{accepted_forward}
use Rattle.causal_trace.proofs.Lemmas.AtInstants.{accepted_then, state_at}
use Rattle.causal_explain.proofs.ChainLemmas.{all_least, chain_told}
use Rattle.causal_explain.proofs.chain.shortest_chain.Goals as goal

pub shortest_paths-requires-clause-forward : goal.shortest_paths-requires-clause-forward
shortest_paths-requires-clause-forward c =
    let r = c.args.trace.now.recording in
    rw (state_at r c.entries.result.now c.entries.ensures.value c.args.end c.requires) (accepted_forward r.processes (instant r.past c.args.end) (accepted_then r.processes r.past c.args.end c.entries.ensures.formed.accepted))

pub returns : goal.returns
returns c =
    let same = state_at c.args.trace.now.recording c.entries.result.now c.entries.ensures.value c.args.end c.requires in
    let read = reverse (take c.args.end c.entries.result.now) in
    let ways = c.in_ok-ways.ensures in
    IfOk-weaker c.trace_back.result _ _
    (λ found walk. rw same at (chain_told read c.args.from c.args.process _ _ ways.nearest (walk read c.args.from ways.each (all_least read c.args.from c.args.process _ ways.nearest)))) c.trace_back.ensures
