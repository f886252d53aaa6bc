use Rattle.std.proofs.Common.{◌≡◌, length, reverse, take, arith}
use Rattle.std.proofs.lemmas.List.{length-take}
use Rattle.std.proofs.lemmas.Result.{IfOk-weaker}
use Rattle.causal_trace.specs.Past.{is_down}
use Rattle.causal_explain.proofs.StandingLemmas.{stand_first}
use Rattle.causal_trace.proofs.Lemmas.AtInstants.{state_at}
use Rattle.causal_explain.proofs.down_processes.down_since.Goals as goal

pub returns : goal.returns
returns c =
    let n = c.processes.result in
    let standings = c.down_validity-standings.result in
    let read = reverse (take c.args.end c.entries.result.now) in
    let here = state_at c.args.trace.now.recording c.entries.result.now c.entries.ensures.value c.args.end c.requires in
    let count : length (take n standings) ≡ c.args.trace.now.recording.processes = omega (arith, length-take n standings, c.down_validity-standings.type_inv, c.processes.ensures.value, c.processes.ensures.formed.count) in
    IfOk-weaker c.down_in.result _ _ (λ down told. rw (here, count) at (told read (stand_first read (λ p state. is_down state p) standings n c.down_validity-standings.ensures))) c.down_in.ensures
