use Rattle.std.proofs.Common.{◌≡◌, length, reverse, take, arith}
use Rattle.std.proofs.lemmas.List.{length-take}
use Rattle.causal_trace.specs.Past.{logs}
use Rattle.causal_explain.proofs.StandingLemmas.{stand_first}
use Rattle.causal_trace.proofs.Lemmas.AtInstants.{state_at}
use Rattle.causal_explain.proofs.holdings.holder_history.Goals as goal

pub returns : goal.returns
returns c =
    let n = c.processes.result in
    let standings = c.holder_validity-transfers.result in
    let read = reverse (take c.args.end c.entries.result.now) in
    let here = state_at c.args.trace.now.recording c.entries.result.now c.entries.ensures.value c.args.end c.requires in
    let count : length (take n standings) ≡ c.args.trace.now.recording.processes = omega (arith, length-take n standings, c.holder_validity-transfers.type_inv, c.processes.ensures.value, c.processes.ensures.formed.count) in
    let stand = stand_first read (λ p state. logs state p c.args.det) standings n c.holder_validity-transfers.ensures in
    record {
      holders = rw (here, count) at (c.in_ok-holders.ensures read c.args.det stand);
      losses = rw (here, count) at (c.in_ok-losses.ensures c.args.det stand);
    }
