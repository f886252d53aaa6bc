use Rattle.std.proofs.Common.{refl, sym, ◌∙◌}
use Rattle.std.proofs.lemmas.Result.{err_from_is_err_and}
use Rattle.causal_script.proofs.Starts.{says_start, started, not_started}
use Rattle.causal_script.proofs.Texts.{line_here, judged_ok, sound_none, first_fault, after_none, after_more, spelled}
use Rattle.causal_script.specs.Lines.{script_lines}
use Rattle.causal_script.specs.Inside.Place.{IsAfter}
use Rattle.causal_script.proofs.parse.parse_script.Goals as goal
use Rattle.causal_script.proofs.parse.parse_script.Goals.{In_ok-start}

-- the text after the first line, which starts the script
after_start : (c : In_ok-start) → IsAfter c.args.bytes.now 1 c.in-Some.rest.now
after_start c =
    after_more c.args.bytes.now c.args.bytes.now c.in-Some.first.now c.in-Some.rest.now 0 1 c.first_line_past_limit-big.result c.parse_first_line.result c.in_ok-start.start refl (after_none c.args.bytes.now) c.in-Some.ensures.parts c.first_line_past_limit-big.ensures
    (sym c.in_ok-start.ensures) (λ same. started c.in-Some.first.now c.in_ok-start.start (sym c.parse_first_line.ensures ∙ same))

pub returns-in_err-start-clause-err : goal.returns-in_err-start-clause-err
returns-in_err-start-clause-err c =
    let p = err_from_is_err_and c.from_residual.result c.from_residual.ensures.1 in
    let text = c.args.bytes.now in
    let l = c.in-Some.first.now in
    let here = line_here 0 (script_lines text) l (script_lines c.in-Some.rest.now) c.in-Some.ensures.parts in
    rw (p.1, p.2) (λ other. first_fault text l 0 c.first_line_past_limit-big.result c.parse_first_line.result c.in_err-start.field-0.0 c.first_line_past_limit-big.ensures (sound_none text) here.0
    (λ none. not_started l (sym c.parse_first_line.ensures ∙ none)) (sym c.in_err-start.ensures))

pub returns-in_err-commands-clause-err : goal.returns-in_err-commands-clause-err
returns-in_err-commands-clause-err c =
    let p = err_from_is_err_and c.from_residual-in_err-commands.result c.from_residual-in_err-commands.ensures.1 in
    let after = after_start (goal.at.returns-in_err-commands-clause-err c).In_ok-start in
    rw (p.1, p.2) (λ other. c.in_err-commands.ensures.err other c.args.bytes.now after c.first_line_past_limit-big.ensures)

pub returns-in_err-commands-clause-memory : goal.returns-in_err-commands-clause-memory
returns-in_err-commands-clause-memory c =
    let p = err_from_is_err_and c.from_residual-in_err-commands.result c.from_residual-in_err-commands.ensures.1 in
    let after = after_start (goal.at.returns-in_err-commands-clause-memory c).In_ok-start in
    rw (p.1, p.2) (λ memory. c.in_err-commands.ensures.memory memory c.args.bytes.now after c.first_line_past_limit-big.ensures)

pub returns-clause-ok : goal.returns-clause-ok
returns-clause-ok c =
    let text = c.args.bytes.now in
    let l = c.in-Some.first.now in
    let start = c.in_ok-start.start in
    let ok = judged_ok c.first_line_past_limit-big.result 1 c.parse_first_line.result start (sym c.in_ok-start.ensures) in
    let says = says_start l start (sym c.parse_first_line.ensures ∙ ok.1) in
    let after = after_start (goal.at.returns-clause-ok c).In_ok-start in
    let r = c.in_ok-commands.ensures.reaches text after c.first_line_past_limit-big.ensures in
    rw c.new.ensures (spelled text l c.in-Some.rest.now start c.in_ok-commands.commands.items r.0 c.in-Some.ensures.parts says.0 says.1 c.in_ok-commands.ensures.ok r.1)

pub returns-clause-content : goal.returns-clause-content
returns-clause-content c = (returns-clause-ok c).content
