use Rattle.std.proofs.Common.{◌≡◌, subst, List, length, rules}
use Rattle.std.specs.Prelude.{Result, Ok, Err, IfErr, IsOk, OnOk}
use Rattle.std.proofs.lemmas.Bool.{false≢true}
use Rattle.std.proofs.lemmas.Result.{IfErr-weaker, IfOk-weaker}
use Rattle.causal_core.specs.CoreView.{core_run, core_state}
use Rattle.causal_shared.specs.declared.item.Item.{Item}
use Rattle.causal_shared.specs.Shared.{opening_of}
use Rattle.causal_run.specs.Inside.IssuedRequests.{ArePerformed, IsRefusedRun}
use Rattle.causal_run.proofs.Histories.{run-of, refused-as, faults-as, one-seat, set-one}
use Rattle.causal_run.proofs.script_commands.core_after.Goals as goal

-- what holds of a success, or of an error, holds of this one
ok_holds : {A E : Type 0} (r : Result A E) (P : Type 0) → IsOk r → OnOk r P → P
ok_holds (Ok a) P is h = h
ok_holds (Err e) P is h = absurd (false≢true is)

err_holds : {A E : Type 0} (r : Result A E) (e : E) (P : E → Type 0) → r ≡ Err e → IfErr r P → P e
err_holds r e P is h = subst (λ r. IfErr r P) is h

pub returns-clause-refused : goal.returns-clause-refused
returns-clause-refused g c =
    let history = c.in_ok-finished.finished.history in
    let r = core_run c.in_ok-finished.finished.core in
    let seat = c.issue_all-outcome.new.seat in
    let len : length c.in_ok-shared.seats.items ≡ 1 = search rules in
    let whole : seat.view.items ≡ history = one-seat history _ seat (set-one c.in_ok-shared.seats.items seat len) c.in_ok-finished.ensures.seats c.in_ok-finished.ensures.others in
    IfErr-weaker c.core_unless.result _ _ (λ fault is. refused-as _ c.args.script.now.f c.args.boxes.items (core_state c.in_ok-core.core) r history (opening_of c.in_ok-shared.shared) c.in_ok-core.ensures.ok c.in_ok-finished.ensures.opening c.in_ok-shared.ensures.recording c.in_ok-shared.ensures.faults
    c.args.commands.now fault c.in_ok-finished.ensures.legal.legal (subst (λ (is : List Item). IsRefusedRun c.args.commands.now is fault) whole (err_holds c.issue_all-outcome.result fault _ is c.issue_all-outcome.ensures.err))) c.core_unless.ensures.err

pub returns-clause-run : goal.returns-clause-run
returns-clause-run g c =
    let history = c.in_ok-finished.finished.history in
    let r = core_run c.in_ok-finished.finished.core in
    let seat = c.issue_all-outcome.new.seat in
    let len : length c.in_ok-shared.seats.items ≡ 1 = search rules in
    let whole : seat.view.items ≡ history = one-seat history _ seat (set-one c.in_ok-shared.seats.items seat len) c.in_ok-finished.ensures.seats c.in_ok-finished.ensures.others in
    IfOk-weaker c.core_unless.result _ _ (λ core is.
    let done = subst (λ (is : List Item). ArePerformed c.args.commands.now is) whole (ok_holds c.issue_all-outcome.result _ is.0 c.issue_all-outcome.ensures.ok) in
    rw is.1 (run-of _ c.args.script.now.f c.args.boxes.items (core_state c.in_ok-core.core) r history (opening_of c.in_ok-shared.shared) c.in_ok-core.ensures.ok c.in_ok-finished.ensures.opening c.in_ok-shared.ensures.recording c.in_ok-shared.ensures.faults
    c.args.commands.now c.in_ok-finished.ensures.legal.legal done)) c.core_unless.ensures.ok

pub returns-clause-faults : goal.returns-clause-faults
returns-clause-faults g c =
    let faults = faults-as _ c.args.script.now.f c.args.boxes.items (core_state c.in_ok-core.core) (core_run c.in_ok-finished.finished.core) c.in_ok-finished.finished.history (opening_of c.in_ok-shared.shared) c.in_ok-core.ensures.ok c.in_ok-finished.ensures.opening c.in_ok-shared.ensures.recording c.in_ok-shared.ensures.faults in
    IfOk-weaker c.core_unless.result _ _ (λ core is. rw is.1 faults) c.core_unless.ensures.ok
