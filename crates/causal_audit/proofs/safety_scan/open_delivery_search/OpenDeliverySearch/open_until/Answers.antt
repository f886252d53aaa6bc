use Rattle.causal_audit.proofs.Common.{◌≡◌, ◌+◌, inl, inr, get_or, Some, arith, cases_lt, det_at}
use Rattle.causal_audit.specs.Inside.SafetyScan.Scans.{AreAtRiskIntervals}
use Rattle.causal_audit.specs.Inside.Index.Lists.{lists_in}
use Rattle.causal_audit.proofs.index.Receivers.{stays_with, orphan_open}
use Rattle.causal_audit.proofs.index.Filings.{first_crash_is}
use Rattle.causal_audit.proofs.safety_scan.open_delivery_search.OpenDeliverySearch.open_until.Goals as goal

pub returns : goal.returns
returns c =
    let s = c.self.inside in
    let r = s.indexed_trace.trace.now.recording in
    let k = c.args.k in
    let kept = c.self.invariant in
    let formed = kept.formed.accepted in
    let at : det_at r.past k ≡ Some c.args.det = rw (← c.self.view_is) at c.requires.delivery in
    let at_risk = c.args.at_risk.now in
    let found : AreAtRiskIntervals r.processes s.f r.past c.args.det (s.end + 1) at_risk = rw (← c.self.view_is) at c.requires.at_risk in
    let crash = c.next_of-crash in
    let first = first_crash_is r.past (lists_in s.indexed_trace.transitions.now.crashes.lists.items) c.args.det.dest.0 k s.end crash.result s.indexed_trace.turned.crashed crash.ensures.bounds.0 crash.ensures.bounds.1 crash.ensures.none crash.ensures.found in
    rw (← c.self.view_is)
    (λ u above low has.
    elim (cases_lt k at_risk.from) [
      | inl before ↦ omega (arith, above, low, c.open_until.ensures.early before)
      | inr known ↦
          c.open_until.ensures.covered found.rising u known above low
          (orphan_open r.processes s.f r.past formed k c.args.det at (get_or s.departures.now k 0) (stays_with r.processes r.past formed s.departures.now kept.staying k) u (omega (arith, low, kept.within)) has s.end crash.result at_risk low first known found)
    ])
