use Rattle.std.proofs.Common.{◌∙◌, sym, subst}
use Rattle.causal_protocol.specs.declared.request.Request.TheVariants as Requests
use Rattle.causal_protocol.specs.Steps.{reply_of_forget}
use Rattle.causal_protocol.proofs.Lemmas.KeptByType.{step_preserves}
use Rattle.causal_core.specs.Inside.GatherCaches.{IsGatherCache}
use Rattle.causal_core.proofs.Forgotten.{forget_filled, forget_stable}
use Rattle.causal_core.proofs.forget.Core+S.forget.Goals as goal

pub invariant_of-self : goal.invariant_of-self
invariant_of-self g c =
    let r = c.args.self.now.run_data.run in
    let next = c.forget.new.self.run in
    record {
      filled = c.args.self.now.filled ∙ sym (forget_filled r next c.args.p c.forget.result c.forget.ensures.step);
      stored = λ d. c.args.self.now.stored d ∙ sym (forget_stable r next c.args.p c.forget.result c.forget.ensures.step d);
      cache_is_right = subst (IsGatherCache next) (sym c.take.ensures.after) tt;
      invariant_holds = step_preserves r next (Requests.Forget c.args.p) (reply_of_forget c.forget.result) c.forget.ensures.step c.args.self.now.invariant_holds;
    }
