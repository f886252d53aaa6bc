use Rattle.std.proofs.Common.{rules, arith}
use Rattle.nixu.proofs.reader.finish.Goals as goal

pub returns-in_default : goal.returns-in_default
returns-in_default c = record {
  ok = λ e. absurd (omega (arith, e));
  fault = λ e most b read. (c.c_fault_verdict.result, (c.in-Err.fault, c.in-Err.ensures.err most b read c.in_default.not-NoMemory, c.c_fault_verdict.ensures), search rules);
  kept = λ high. absurd (omega (arith, high));
  status = omega arith;
}
