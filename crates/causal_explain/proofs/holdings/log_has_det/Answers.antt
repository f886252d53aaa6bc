use Rattle.std.proofs.Common.{◌<◌, length, sym, arith}
use Rattle.causal_trace.specs.Past.{logs}
use Rattle.causal_explain.proofs.MarkLemmas.{holds_told}
use Rattle.causal_explain.proofs.holdings.log_has_det.Goals as goal

pub returns : goal.returns
returns c past d stand =
    let p = c.args.process in
    let below : p < length c.args.standings.now = omega arith in
    holds_told past (λ state. logs state p d) c.holds_since.result c.is_some.result (c.holds_since.ensures past (λ state. logs state p d) (stand p below)) (sym c.is_some.ensures)
