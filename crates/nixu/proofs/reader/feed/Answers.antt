use Rattle.std.proofs.Common.{refl, sym, subst, arith}
use Rattle.causal_text.specs.PushReaders.{PushReaderState, HasReceived}
use Rattle.nixu.proofs.reader.feed.Goals as goal

pub returns-in-Ok-clause-ok : goal.returns-in-Ok-clause-ok
returns-in-Ok-clause-ok c = λ ok most b read. c.in-Ok.ensures.ok most b (subst (λ (r : PushReaderState). HasReceived most r b) (sym c.replace.ensures.value) read)

pub returns : goal.returns
returns c = record {
  ok = λ e. absurd (omega (arith, e));
  fault = λ e most b read more. (
    c.in-Err.refusal.fault,
    (c.in-Err.ensures.err most b (subst (λ (r : PushReaderState). HasReceived most r b) (sym c.replace.ensures.value) read) more).first c.in_default.not-NoMemory,
    c.c_fault_verdict.ensures,
  );
  kept = λ other. absurd (other refl);
  status = omega arith;
}
