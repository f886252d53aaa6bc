use Rattle.causal_commands.proofs.drawing.draw_trace.Goals as goal

pub returns : goal.returns
returns c = λ most text spells.
    let judged = c.in_ok-judged.ensures in
    record {
      judgement = record { recording = c.args.trace.now.recording; spells = spells; verdict = judged.verdict; entries = judged.entries; deliveries = judged.deliveries };
      shows = c.in_ok-picture.ensures;
    }
