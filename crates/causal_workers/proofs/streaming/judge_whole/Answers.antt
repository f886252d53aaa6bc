use Rattle.causal_workers.proofs.streaming.judge_whole.Goals as goal

pub returns-in-Err : goal.returns-in-Err
returns-in-Err g c = record { ok = tt; err = λ most b fed none. (c.in-Err.ensures.err most b fed, λ told. none); one_worker = λ e. absurd (cc) }

pub returns-in-Ok-judge_read : goal.returns-in-Ok-judge_read
returns-in-Ok-judge_read g c =
    let found = c.in-Ok-judge_read.ensures in
    record {
      ok = λ most b fed none looks. (none, record { recording = c.in-Ok.trace.recording; spells = c.in-Ok.ensures.ok most b fed; verdict = found.verdict; entries = found.entries; deliveries = found.deliveries });
      err = tt;
      one_worker = λ e. absurd (cc);
    }

pub returns-in-Err-judge_read : goal.returns-in-Err-judge_read
returns-in-Err-judge_read g c = record { ok = tt; err = λ most b fed none. tt; one_worker = λ e. c.in-Err-judge_read.ensures.one_worker (cc) }
