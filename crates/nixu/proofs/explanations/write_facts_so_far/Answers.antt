use Rattle.nixu.proofs.explanations.write_facts_so_far.Goals as goal

pub returns-in-None-clause-misused : goal.returns-in-None-clause-misused
returns-in-None-clause-misused c = λ is most b read. record { none = λ r spelled. c.in-None.ensures.none most b r read spelled }
