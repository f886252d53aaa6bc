use Rattle.causal_audit.proofs.Common.{◌≤◌, sym, subst, arith, length}
use Rattle.causal_audit.specs.Inside.Index.RunIndexes.{IsTransitionIndex}
use Rattle.causal_audit.proofs.safety_scan.CoverStays.{holders_unrestarted, stands_until}
use Rattle.causal_audit.proofs.safety_scan.SafeByDown.{has_any_safety, holders_remain, safe_until}
use Rattle.causal_audit.proofs.safety_scan.SafetyScan.next_change.Goals as goal

pub returns-in-Some-clause-passed : goal.returns-in-Some-clause-passed
returns-in-Some-clause-passed c = rw c.requires.same at c.next_fall.ensures.passed

pub returns-in-Some-clause-kept : goal.returns-in-Some-clause-kept
returns-in-Some-clause-kept c formed unmentioned =
    let look = c.args.self.now in
    let at = c.args.scan_position.now in
    let past = look.run.trace.now.recording.past in
    let n = look.run.trace.now.recording.processes in
    let t = at.t in
    let next = c.next_fall.result in
    let within : next ≤ length past = omega (arith, c.next_fall.ensures.bounds.1, c.requires.early, look.within) in
    let none = c.next_fall.ensures.none past (subst (IsTransitionIndex past) (sym c.requires.same) look.run.turned) in
    let holders = at.down_and_holders.holders in
    record {
      unrestarted = holders_remain n past formed look.det t next within unmentioned holders c.requires.scan_position.holders none.0;
      stands = λ u up low. has_any_safety at.safety n look.limit past look.det u (
          safe_until n past formed look.det t next within unmentioned holders c.requires.scan_position.holders none.0 look.limit c.in-Some.count at.down_and_holders.down c.requires.scan_position.down c.in-Some.ensures
          _ (subst (IsTransitionIndex past) (sym c.requires.same) look.run.turned).fallen none.1 u up low);
    }

pub returns-in-None-clause-passed : goal.returns-in-None-clause-passed
returns-in-None-clause-passed c = rw c.requires.same at c.next_restart.ensures.passed

pub returns-in-None-clause-kept : goal.returns-in-None-clause-kept
returns-in-None-clause-kept c formed unmentioned =
    let look = c.args.self.now in
    let at = c.args.scan_position.now in
    let past = look.run.trace.now.recording.past in
    let n = look.run.trace.now.recording.processes in
    let next = c.next_restart.result in
    let within : next ≤ length past = omega (arith, c.next_restart.ensures.bounds.1, c.requires.early, look.within) in
    record {
      unrestarted = holders_unrestarted n past formed look.det at.t next within unmentioned look.limit at.safety look.reached at.down_and_holders.down at.down_and_holders.holders c.watched-watched.result c.watched-watched.ensures
          c.next_restart.ensures.none c.requires.scan_position.down c.requires.scan_position.holders;
      stands = stands_until n past formed look.det at.t next within unmentioned look.limit at.safety look.reached at.down_and_holders.down at.down_and_holders.holders c.watched-watched.result c.watched-watched.ensures
          c.next_restart.ensures.none c.requires.scan_position.down c.requires.scan_position.holders look.reaching;
    }
