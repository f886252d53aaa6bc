use Rattle.std.proofs.Common.{◌≡◌}
use Rattle.causal_merge.proofs.Lemmas.ReadParts.{read_both, read_refused}
use Rattle.causal_reading.proofs.recorded_chunks.read_after.Goals as goal

pub returns-in-Err : goal.returns-in-Err
returns-in-Err c = λ reader front last before is. read_refused reader front last c.in-Err.fault (rw c.in-Err.is at before)

pub returns-in-Ok-parsed : goal.returns-in-Ok-parsed
returns-in-Ok-parsed c = λ reader front last before is.
    let same : c.in-Ok-parsed.chunk ≡ last = rw c.in-Ok-parsed.is at is in
    rw (← same) (read_both reader c.in-Ok.reader front c.in-Ok-parsed.chunk c.feed_parsed.result (rw c.in-Ok.is at before) c.feed_parsed.ensures)

pub returns-in-Err-parsed : goal.returns-in-Err-parsed
returns-in-Err-parsed c = λ reader front last before is. λ most b h other. absurd (other c.no_memory.ensures)
