use Rattle.std.proofs.Common.{arith, ◌≡◌, List, Option, ℕ, sym, slice_get, Bor, Some, None, refl, length}
use Rattle.std.specs.Option.{option_copied}
use Rattle.std.specs.Slice.{IsItemAt}
use Rattle.std.proofs.lemmas.Option.{slice_get_past, slice_get_read}
use Rattle.causal_log.proofs.EntryLemmas.{own_entries}
use Rattle.causal_log.proofs.PlaceLemmas.{ranked_entry}
use Rattle.causal_log.proofs.log.Log.at.Goals as goal

pub returns : goal.returns
returns c = grind (arith, ranked_entry c.self.inside.entries.entries c.entries-2.ensures.distinct c.args.i c.det_at_rank.result (rw c.entries-2.ensures.entries at c.det_at_rank.ensures))

pub returns-in_err-det : goal.returns-in_err-det
returns-in_err-det c = grind (arith, ranked_entry c.self.inside.entries.entries c.entries-2.ensures.distinct c.args.i c.det_at_rank.result (rw c.entries-2.ensures.entries at c.det_at_rank.ensures))

-- a copied reference to an element is that element
got : {X : Type 0} (xs : List X) (i : ℕ) (r : Option (Bor X)) → IsItemAt xs i r → option_copied r ≡ slice_get xs i
got xs i None h = sym (slice_get_past xs i h.3)
got xs i (Some x) h = sym (slice_get_read xs (length xs) i x.now refl h.3.0 h.1)

pub returns-then-self : goal.returns-then-self
returns-then-self c = grind (arith, got, own_entries)
