use Rattle.std.proofs.Common.{[], append-nil}
use Rattle.causal_trace.specs.Limits.{default_entries}
use Rattle.causal_text.proofs.reader.read_trace.Goals as goal

pub returns-in-Ok-finish-clause-ok : goal.returns-in-Ok-finish-clause-ok
returns-in-Ok-finish-clause-ok c = c.in-Ok-finish.ensures.ok default_entries c.args.bytes.now (c.in-Ok.ensures.ok default_entries [] c.new.ensures.read)

pub returns-in-Err-finish-clause-err : goal.returns-in-Err-finish-clause-err
returns-in-Err-finish-clause-err c = rw c.into_fault.ensures (c.in-Err-finish.ensures.err default_entries c.args.bytes.now (c.in-Ok.ensures.ok default_entries [] c.new.ensures.read)).first

pub returns-in-Err-finish-clause-memory : goal.returns-in-Err-finish-clause-memory
returns-in-Err-finish-clause-memory c = rw c.into_fault.ensures (c.in-Err-finish.ensures.err default_entries c.args.bytes.now (c.in-Ok.ensures.ok default_entries [] c.new.ensures.read)).memory

pub returns-in-Err-clause-err : goal.returns-in-Err-clause-err
returns-in-Err-clause-err c = rw (c.into_fault-in-Err.ensures, ← append-nil c.args.bytes.now) (c.in-Err.ensures.err default_entries [] c.new.ensures.read []).first

pub returns-in-Err-clause-memory : goal.returns-in-Err-clause-memory
returns-in-Err-clause-memory c = rw (c.into_fault-in-Err.ensures, ← append-nil c.args.bytes.now) (c.in-Err.ensures.err default_entries [] c.new.ensures.read []).memory
