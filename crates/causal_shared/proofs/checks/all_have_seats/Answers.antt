use Rattle.std.proofs.Common.{◌≡◌, All, refl, true, false, subst, List, rules}
use Rattle.std.proofs.lemmas.List.{take_all}
use Rattle.std.proofs.lemmas.List.Elements.{All-more}
use Rattle.causal_shared.specs.declared.item.Item.{Item}
use Rattle.causal_shared.specs.Finish.{HasSeat}
use Rattle.causal_shared.proofs.checks.all_have_seats.Goals as goal

pub returns-then-not-has_seat : goal.returns-then-not-has_seat
returns-then-not-has_seat c = (
  λ no. absurd (let e : false ≡ true = no in cc),
  λ all. absurd (
      let yes : c.has_seat.result ≡ true = c.has_seat.ensures.1 (all.each c.loop-item.item-index _ c.loop-item-test.true) in
      let no : c.has_seat.result ≡ false = search rules in
      cc
      ),
)

pub loop-item-preserved : goal.loop-item-preserved
loop-item-preserved c = All-more (HasSeat c.args.seats.now) c.args.history.now c.loop-item.item-index _ c.loop-item-test.true c.loop-item.invariant (c.has_seat.ensures.0 (search rules))

pub returns : goal.returns
returns c = (
  λ yes. record { each = subst (λ (items : List Item). All (HasSeat c.args.seats.now) items) (take_all c.loop-item.item-index c.args.history.now c.loop-item-test.false) c.loop-item.invariant },
  λ all. refl,
)
