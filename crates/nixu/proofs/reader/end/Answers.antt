use Rattle.nixu.proofs.reader.end.Goals as goal

pub returns-in-Err-clause-err : goal.returns-in-Err-clause-err
returns-in-Err-clause-err c = λ most b read other. (c.in-Err.ensures.err most b read).first other
