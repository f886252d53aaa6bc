use Rattle.std.proofs.Common.{List, refl, sym, ◌∙◌, subst}
use Rattle.std.proofs.lemmas.Result.{err_from_is_err_and}
use Rattle.causal_script.specs.declared.script.Command.{Command}
use Rattle.causal_script.specs.Inside.Place.{AreCommands, AreOnLines}
use Rattle.causal_script.proofs.Starts.{says_request, commanded, not_commanded}
use Rattle.causal_script.proofs.Texts.{judged_ok, judged_line, commands_more, reaches_more, command_fault, read_up_to, pushed, next_line}
use Rattle.causal_script.proofs.parse.parse_commands.Goals as goal

pub loop-text-preserved : goal.loop-text-preserved
loop-text-preserved c =
    let i = c.loop-text.invariant in
    let l = c.in-Some.text.now in
    let split = c.in-Some.ensures.parts in
    let line = c.saturating_add-line.result in
    let request = c.in_ok-request.request in
    let e = sym c.in_ok-request.ensures in
    let ok = judged_ok c.args.big line c.parse_request.result request e in
    let says = says_request l request (sym c.parse_request.ensures ∙ ok.1) in
    let command : Command = record { line = line; request = request } in
    let more = pushed c.push.result c.push.new.self.items _ _ (sym c.is_err.ensures.value ∙ c.if-is_err.false) c.push.ensures.items in (
      subst (λ (cs : List Command). AreCommands c.args.rest.now cs c.in-Some.after.now) (sym more)
          (commands_more c.args.rest.now c.loop-text.left.now l c.in-Some.after.now c.loop-text.commands.items command i.0 split says.1 says.0),
      λ text a bigs.
          let r = i.1 text a bigs in
          let next = next_line text c.loop-text.left.now c.loop-text.line line r.after c.saturating_add-line.ensures in
          subst (λ (cs : List Command). AreOnLines text cs line c.in-Some.after.now) (sym more)
          (reaches_more text c.loop-text.left.now l c.in-Some.after.now c.loop-text.commands.items c.loop-text.line line c.args.big c.parse_request.result request command next refl r split bigs e
          (λ same. commanded l request (sym c.parse_request.ensures ∙ same))),
    )

pub returns-in_err-request-clause-err : goal.returns-in_err-request-clause-err
returns-in_err-request-clause-err c =
    let p = err_from_is_err_and c.from_residual.result c.from_residual.ensures.1 in
    let i = c.loop-text.invariant in
    let l = c.in-Some.text.now in
    rw (p.1, p.2) (λ other text a bigs.
    let r = i.1 text a bigs in
    let next = next_line text c.loop-text.left.now c.loop-text.line c.saturating_add-line.result r.after c.saturating_add-line.ensures in
    command_fault text c.loop-text.left.now l c.in-Some.after.now c.loop-text.commands.items c.loop-text.line c.saturating_add-line.result c.args.big c.parse_request.result c.in_err-request.field-0.0 next r
    c.in-Some.ensures.parts bigs (sym c.in_err-request.ensures) (λ none. not_commanded l (sym c.parse_request.ensures ∙ none)))

pub returns-in_err-request-clause-memory : goal.returns-in_err-request-clause-memory
returns-in_err-request-clause-memory c =
    let p = err_from_is_err_and c.from_residual.result c.from_residual.ensures.1 in
    let i = c.loop-text.invariant in
    rw (p.1, p.2) (λ memory text a bigs.
    let r = i.1 text a bigs in
    let next = next_line text c.loop-text.left.now c.loop-text.line c.saturating_add-line.result r.after c.saturating_add-line.ensures in
    let line = judged_line c.args.big c.saturating_add-line.result c.parse_request.result c.in_err-request.field-0.0 (sym c.in_err-request.ensures) in
    read_up_to text c.loop-text.left.now c.loop-text.line c.in_err-request.field-0.0.line (line ∙ next) r.after)

pub returns-then-is_err-clause-memory : goal.returns-then-is_err-clause-memory
returns-then-is_err-clause-memory c = λ memory text a bigs.
    let r = c.loop-text.invariant.1 text a bigs in
    let next = next_line text c.loop-text.left.now c.loop-text.line c.saturating_add-line.result r.after c.saturating_add-line.ensures in
    read_up_to text c.loop-text.left.now c.loop-text.line c.saturating_add-line.result next r.after
