use Rattle.std.proofs.Common.{ℕ, ◌≡◌, ◌<◌, ◌∙◌, List, Result, Ok, Err, OnErr, ap, arith}
use Rattle.std.specs.Map.{values_of}
use Rattle.causal_name.specs.declared.Det.{Det}
use Rattle.causal_log.specs.declared.known.Known.{Known}
use Rattle.causal_log.specs.declared.table.SlotKey.{SlotKey}
use Rattle.causal_log.specs.Inside.Tables.{TableState}
use Rattle.causal_log.proofs.table.Table.reserve.Goals as goal

any_err : {T E P : Type 0} (r : Result T E) → P → OnErr r P
any_err (Ok x) p = tt
any_err (Err e) p = p

pub returns-in_err-grow-clause-refused : goal.returns-in_err-grow-clause-refused
returns-in_err-grow-clause-refused c =
    let same : c.grow.new.entries.entries ≡ c.self.inside.entries.entries = c.grow.ensures.entries in
    let low : c.args.self.now.spare < c.args.more = omega (arith, ap (λ t. t.spare) c.self.view_is, c.if-more-self.false) in
    any_err c.from_residual.result (ap (the_state c.self.inside.room) same ∙ c.self.view_is, low)
  where
    the_state : ℕ → List (SlotKey × (Det × Known)) → TableState
    the_state room es = record { entries = values_of es; spare = room }
