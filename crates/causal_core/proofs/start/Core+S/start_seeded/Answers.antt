use Rattle.std.proofs.Common.{◌≡◌, ◌∙◌, ap, sym, subst, arith, length}
use Rattle.std.specs.FinMap as fin
use Rattle.causal_protocol.specs.Runs.{HaveBegunBelow}
use Rattle.causal_protocol.proofs.Lemmas.KeptByType.{start_satisfies}
use Rattle.causal_core.proofs.BoxLemmas.{Began_filled}
use Rattle.causal_core.proofs.ProcessBegins.{all_up, none_stored}
use Rattle.causal_core.proofs.start.Core+S.start_seeded.Goals as goal

pub invariant_of-result : goal.invariant_of-result
invariant_of-result g c =
    let h = c.in-Ok-begin_all.ensures in
    let n = length c.args.boxes.items in
    let r = c.begin_all.new.run_data.run in
    let none : g.S.Stable.contents c.args.store ≡ fin.empty = fin.empty_of_len _ (omega (arith, c.len-stored.ensures, c.if-stored-gt0.false)) in
    record {
      filled = Began_filled (λ b. (goal.Process-dyn g (b.vtable, b.value)).answers b.value) c.args.boxes.items h.sends c.in-Ok-begin_all.slots.items h.began ∙ sym (all_up n _ h.sends r h.run);
      stored = none_stored n _ h.sends r _ h.run none;
      cache_is_right = tt;
      invariant_holds = start_satisfies r (subst (λ k. HaveBegunBelow k k r.recording.past) (sym (ap (λ x. x.recording.processes) h.run)) h.opens) (ap (λ x. x.writers) h.run);
    }

pub returns-clause-store_empty : goal.returns-clause-store_empty
returns-clause-store_empty g c = grind (arith, fin.empty_of_len)
