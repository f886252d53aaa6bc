use Rattle.std.proofs.Common.{◌≢◌, ◌≤◌, length, arith, rules}
use Rattle.std.proofs.lemmas.Grind.{common_steps}
use Rattle.causal_shared.specs.Limits.{max_items}
use Rattle.causal_shared.specs.Locked.{locked_state}
use Rattle.causal_shared.specs.Inside.SeatChecks.{MatchesRecord}
use Rattle.causal_shared.proofs.Seats.{MayCall-is}
use Rattle.causal_shared.proofs.seat.begin_call.Goals as goal

pub returns-clause-ok : goal.returns-clause-ok
returns-clause-ok g c =
    let held = locked_state c.args.locked.now in
    let seated : MatchesRecord c.args.tag held c.args.seat.now.view = c.matches_record.ensures.0 (search rules) in
    let most : length held.history ≤ max_items = grind (arith, common_steps, c.args.locked.now.has_space) in
    let ne : length held.history ≢ max_items = λ e. absurd (grind (arith, c.full.ensures.1 e, c.if-full.false)) in
    MayCall-is held c.reserve_item.new.self c.args.tag c.entry_count.result c.args.locked.now.is_consistent (rw c.reserve_item.ensures.view seated) (omega (arith, most, ne)) c.entry_count.ensures (search rules)
