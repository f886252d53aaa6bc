use Rattle.std.proofs.Common.{◌≡◌, ◌-◌, length, Some, refl, sym, ◌∙◌, arith}
use Rattle.std.proofs.lemmas.Result.{IfOk-weaker}
use Rattle.json.specs.Json.{read_key, items, value}
use Rattle.json.specs.Reads.{token_of}
use Rattle.json.proofs.Grammar.{value_is, value-begin_array, value-begin_object, read_key-shorter}
use Rattle.serde_json.specs.Data.{array, object, no_members, put}
use Rattle.serde_json.specs.Read.{of_items, converted}
use Rattle.causal_line.specs.Prescan.{items_fit}
use Rattle.causal_line.proofs.GrammarLoops.{converted-array, converted-object, item_refused, items_over, member_read, member_refused, key_refused, members_over, turn, mapped, unmapped, plain_read, no_value}
use Rattle.causal_line.proofs.prescan.+value_fits.Goals as goal

pub value_fits-returns-in_err-token-clause-err : goal.value_fits-returns-in_err-token-clause-err
value_fits-returns-in_err-token-clause-err t c = grind (arith, value_is)

pub value_fits-returns-then-depth-eq0-clause-err : goal.value_fits-returns-then-depth-eq0-clause-err
unfolding value
value_fits-returns-then-depth-eq0-clause-err t c = grind arith

pub value_fits-returns-then-depth-eq0-2-clause-err : goal.value_fits-returns-then-depth-eq0-2-clause-err
unfolding value
value_fits-returns-then-depth-eq0-2-clause-err t c = grind arith

pub value_fits-returns-in_err-skip_members-in-BeginObject-clause-err : goal.value_fits-returns-in_err-skip_members-in-BeginObject-clause-err
value_fits-returns-in_err-skip_members-in-BeginObject-clause-err t c = grind (arith, value-begin_object, converted-object)

pub value_fits-returns-then-is_plain-clause-ok : goal.value_fits-returns-then-is_plain-clause-ok
value_fits-returns-then-is_plain-clause-ok t c =
    grind (arith, plain_read c.args.depth c.args.left (token_of c.in_ok-token.token) c.next.new.self (sym c.is_plain.ensures ∙ c.if-is_plain.true))

pub value_fits-returns-else-is_plain-clause-err : goal.value_fits-returns-else-is_plain-clause-err
value_fits-returns-else-is_plain-clause-err t c = grind (arith, no_value)

pub value_fits-returns-else-depth-eq0-clause-ok : goal.value_fits-returns-else-depth-eq0-clause-ok
value_fits-returns-else-depth-eq0-clause-ok t c =
    let all = items (value (c.args.depth - 1)) (length c.next.new.self) c.next.new.self in
    IfOk-weaker c.items_fit.result _ _ (λ fit e. let m = mapped (items_fit c.args.left 0) (converted of_items all) fit c.items_fit.new.reader e in (array m.0, grind (arith, value-begin_array, converted-array, m.1), m.2)) c.items_fit.ensures.ok

pub value_fits-returns-else-depth-eq0-clause-err : goal.value_fits-returns-else-depth-eq0-clause-err
value_fits-returns-else-depth-eq0-clause-err t c = grind (arith, value-begin_array, converted-array)

pub value_fits-returns-in_ok-skip_members-in-BeginObject-clause-ok : goal.value_fits-returns-in_ok-skip_members-in-BeginObject-clause-ok
value_fits-returns-in_ok-skip_members-in-BeginObject-clause-ok t c =
    let ok = c.in_ok-skip_members-in-BeginObject.ensures.ok in
    (object ok.0, grind (arith, value-begin_object, converted-object, ok.1), refl)

pub items_fit-returns-in_err-item-clause-err : goal.items_fit-returns-in_err-item-clause-err
items_fit-returns-in_err-item-clause-err t c = grind (arith, item_refused, unmapped)

pub items_fit-items-preserved : goal.items_fit-items-preserved
items_fit-items-preserved t c = grind (arith, turn)

pub items_fit-returns-clause-ok : goal.items_fit-returns-clause-ok
items_fit-returns-clause-ok t c = grind (arith, items_over)

pub skip_members-members-init : goal.skip_members-members-init
skip_members-members-init t c = (length c.args.reader.now, omega arith, no_members, refl, omega arith)

pub skip_members-returns-in_err-next_key-clause-err : goal.skip_members-returns-in_err-next_key-clause-err
skip_members-returns-in_err-next_key-clause-err t c = grind (arith, key_refused)

pub skip_members-returns-in_err-value_fits-clause-err : goal.skip_members-returns-in_err-value_fits-clause-err
skip_members-returns-in_err-value_fits-clause-err t c = grind (arith, member_refused)

pub skip_members-members-preserved : goal.skip_members-members-preserved
skip_members-members-preserved t c =
    let l = c.members in let n = l.invariant.0 in let k = c.in-Some.field-0.now in let done = c.in_ok-value_fits.ensures in
    let named : read_key l.reader ≡ Some (Some k, c.next_key.new.self) = grind arith in
    let less = read_key-shorter l.reader (Some k) c.next_key.new.self named in
    let lesser = done.shorter in (
      n - 1,
      omega (arith, l.invariant.1),
      put k done.ok.0 l.invariant.2,
      l.invariant.3 ∙ member_read (value c.args.depth) l.invariant.2 n k l.reader c.next_key.new.self c.value_fits.new.reader done.ok.0 (omega (arith, l.invariant.1)) named done.ok.1,
      omega (arith, l.invariant.4),
    )

pub skip_members-returns-clause-ok : goal.skip_members-returns-clause-ok
skip_members-returns-clause-ok t c = grind (arith, members_over)
