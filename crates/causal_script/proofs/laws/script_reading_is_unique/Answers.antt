use Rattle.causal_script.proofs.Lemmas.Exact.{one_plan, one_fault, not_both, one_of_them}
use Rattle.causal_script.proofs.laws.script_reading_is_unique.Goals as goal

pub returns : goal.returns
returns c = record { one_plan = one_plan; one_fault = one_fault; not_both = not_both; one_of_them = one_of_them }
