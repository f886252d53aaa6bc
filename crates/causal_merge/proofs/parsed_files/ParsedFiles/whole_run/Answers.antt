use Rattle.std.proofs.Common.{inl, sym, ◌≡◌, ◌∙◌, None, arith}
use Rattle.std.proofs.lemmas.Grind.{common_steps}
use Rattle.causal_merge.proofs.ReadLemmas.{none_missing, some_missing}
use Rattle.causal_merge.proofs.parsed_files.ParsedFiles.whole_run.Goals as goal

pub returns-in_default-clause-err : goal.returns-in_default-clause-err
returns-in_default-clause-err c = λ said parsed.
    let is : c.args.self.now.run ≡ None = grind (arith, common_steps) in
    (c.none.result, inl (record { none = sym parsed.run ∙ is; unknown = c.none.ensures }), rw (← parsed.count) c.header_fault.ensures)

pub returns-in-None-clause-ok : goal.returns-in-None-clause-ok
returns-in-None-clause-ok c = λ said parsed.
    let few = rw c.in-Some.is at parsed.few in
    none_missing c.args.self.now said c.in-Some.run' c.unset_among-missing.result parsed c.in-Some.is few.1 c.unset_among-missing.ensures c.in-None.ensures

pub returns-in-Some-least-clause-err : goal.returns-in-Some-least-clause-err
returns-in-Some-least-clause-err c = λ said parsed.
    let few = rw c.in-Some.is at parsed.few in
    let lacks = some_missing c.args.self.now said c.in-Some.run' c.unset_among-missing.result parsed c.in-Some.is few.1 c.unset_among-missing.ensures c.in-Some-least._process c.in-Some-least.ensures.0 in
    (c.unset_among-missing.result, lacks, rw (← parsed.count) c.header_fault-in-Some-least.ensures)
