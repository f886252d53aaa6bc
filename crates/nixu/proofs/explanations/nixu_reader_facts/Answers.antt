use Rattle.std.proofs.Common.{◌≡◌, subst, arith}
use Rattle.std.specs.Prelude.{Option, Some}
use Rattle.nixu.specs.declared.handle_content.HandleContent.{HandleContent}
use Rattle.nixu.specs.declared.handle_content.HandleContent.TheVariants.{Reader}
use Rattle.nixu.specs.OpenReaders.{HasReadIn}
use Rattle.nixu.proofs.explanations.nixu_reader_facts.Goals as goal

pub returns-clause-misused : goal.returns-clause-misused
returns-clause-misused c = λ is most b read.
    let held : c.args.reader.now.held.value ≡ Some (Reader c.in-Reader.fed) = grind (arith, c.in-Some.ensures.given, c.deref.ensures, c.in-Reader.is) in
    c.write_facts_so_far-status.ensures.misused is most b (subst (λ (v : Option HandleContent). HasReadIn most v b) held read)
