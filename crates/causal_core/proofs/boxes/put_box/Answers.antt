use Rattle.std.proofs.Common.{arith, Some, is_some}
use Rattle.std.proofs.lemmas.List.{map-set}
use Rattle.causal_core.proofs.BoxLemmas.{answers_at-set_same, answers_at-set_other}
use Rattle.causal_core.proofs.boxes.put_box.Goals as goal

pub returns-clause-there : goal.returns-clause-there
returns-clause-there g c = λ inputs. answers_at-set_same _ c.args.slots.now.items c.args.p (Some c.args.process) inputs (omega arith)

pub returns-clause-others : goal.returns-clause-others
returns-clause-others g c = answers_at-set_other _ c.args.slots.now.items c.args.p (Some c.args.process)

pub returns-clause-filled : goal.returns-clause-filled
returns-clause-filled g c = map-set is_some c.args.slots.now.items c.args.p (Some c.args.process)
