use Rattle.std.proofs.Common.{refl, length}
use Rattle.std.specs.Option.{option_copied}
use Rattle.causal_picture.specs.Rows.{shown_processes}
use Rattle.causal_picture.proofs.Shown.{chosen}
use Rattle.causal_picture.proofs.entry_range.grid_around.Goals as goal

pub returns : goal.returns
returns c =
    let r = c.args.trace.now.recording in
    let focus = option_copied c.args.focus in
    let of = chosen (length r.past) r.processes (shown_processes r focus c.args.selection) focus c.args.selection.around in
    let is = rw (c.len.ensures.length, c.processes.ensures.value, c.shown_processes-shown.ensures) at c.choose_grid.ensures in
    rw is (record { value = refl; within = of.within; few = of.few; reaches = of.reaches; chain = of.first; selected = of.selected })
