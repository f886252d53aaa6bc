use Rattle.std.proofs.Common.{◌≡◌, ◌∙◌, List, Option, get_or, true, false, sym, subst}
use Rattle.std.specs.List.{Contains}
use Rattle.std.proofs.lemmas.List.Elements.{Contains-get_or}
use Rattle.causal_name.specs.declared.Det.{Det}
use Rattle.causal_trace.specs.Past.{is_det}
use Rattle.causal_line.proofs.deliveries.find_undelivered.Goals as goal

abbrev no_det : Det
no_det = record { source = record { 0 = 0 }; ssn = 0; dest = record { 0 = 0 }; rsn = 0 }

pub returns-then-not-contains : goal.returns-then-not-contains
returns-then-not-contains c =
    let items = c.mentioned_dets-det-items.result.now in
    let det : Det = get_or items c.loop-det.det-index no_det in (
      subst (λ (dets : List Det). Contains dets det) c.mentioned_dets-det-items.ensures (Contains-get_or items c.loop-det.det-index no_det c.loop-det-test.true),
      (
        subst (λ (own : Option Det). is_det own det ≡ false) c.own_det-own.ensures (sym c.is_det.ensures ∙ c.if-not-is_det.true),
        λ k is. absurd (let no : true ≡ false = sym (c.in_ok-delivered.ensures k det is) ∙ sym c.contains.ensures ∙ c.if-not-contains.true in cc),
      ),
    )
