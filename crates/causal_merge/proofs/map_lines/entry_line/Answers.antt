use Rattle.std.proofs.Common.{refl}
use Rattle.std.proofs.lemmas.Option.{slice_get_read, slice_get_past}
use Rattle.std.proofs.lemmas.Result.{IfOk-weaker}
use Rattle.causal_merge.proofs.map_lines.entry_line.Goals as goal

pub returns-in-Some : goal.returns-in-Some
returns-in-Some c =
    let file = c.in-Some.file.now in
    let found = slice_get_read c.args.input.now _ c.file_index.result file refl c.in-Some.ensures.lookup.3.0 (c.in-Some.ensures.lookup.3.1 file) in
    IfOk-weaker c.map_line.result _ _
    (λ text said ordered. rw (← c.file_index.ensures ordered, found) (rw (c.as_str.ensures.value, c.saturating_sub-line.ensures, c.from-line.ensures) at said)) c.map_line.ensures

pub returns-in-None : goal.returns-in-None
returns-in-None c =
    let none = slice_get_past c.args.input.now c.file_index.result c.in-None.ensures.lookup.3 in
    IfOk-weaker c.map_line-in-None.result _ _
    (λ text said ordered. rw (← c.file_index.ensures ordered, none) (rw c.from-line.ensures at said)) c.map_line-in-None.ensures
