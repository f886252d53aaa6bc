-- Lemma: equal keys are hashed alike, since they are one.
use Rattle.std.specs.Prelude.{◌≡◌, true, IsTrue}
use Rattle.std.specs.Hash as fed
use Rattle.std.specs.Cmp.{first_so, second_so}
use Rattle.std.proofs.Common.{ap, arith}
use Rattle.std.proofs.lemmas.Bool.{eqb-true}
use Rattle.causal_log.specs.declared.table.SlotKey.{SlotKey}
use Rattle.causal_log.specs.Inside.Tables.{key_word, same_slot_key}

-- equal keys are one
pub same_slot_key_is : (p q : SlotKey) → same_slot_key p q ≡ true → p ≡ q
same_slot_key_is p q h = grind (arith, first_so, second_so, eqb-true)

pub same_words : (p q : SlotKey) → IsTrue (same_slot_key p q) → fed.u64 (key_word p) ≡ fed.u64 (key_word q)
same_words p q h = ap (λ key. fed.u64 (key_word key)) (same_slot_key_is p q h)
