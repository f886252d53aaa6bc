-- Calls of a schedule, one after the other.
use Rattle.std.proofs.Common.{◌≡◌, sym, refl, ap, ◌∙◌, ◌+◌, ℕ, zero, suc, List, [], ◌∷◌, ◌++◌, length, Some, arith}
use Rattle.std.specs.Prelude.{◌%◌, ◌<◌, slice_get, slice_index_or}
use Rattle.std.proofs.lemmas.List.{length-append}
use Rattle.std.proofs.lemmas.Option.{slice_get-get_or}
use Rattle.std.proofs.Math.Nat.{mod-lt}
use Rattle.causal_protocol.specs.declared.request.Request.{Request}
use Rattle.causal_protocol.specs.Run.{Run}
use Rattle.causal_protocol.specs.Steps.{Steps}
use Rattle.causal_driver.specs.declared.schedule.Schedule.{Schedule}
use Rattle.causal_driver.specs.declared.schedule.Call.{Call}
use Rattle.causal_driver.specs.Schedules.{next_word, word_after, first_word, chosen, AreCalls}
use Rattle.causal_driver.specs.Inside.Turns.{IsMade, HaveMade}

-- the word after this many others, the first taken out
shifted : (word count : ℕ) → word_after (next_word word) count ≡ next_word (word_after word count)
unfolding word_after
shifted word zero = refl
shifted word (suc count) = ap next_word (shifted word count)

-- one more call, of the request that the next word chooses
extended : (s : Schedule) (word : ℕ) (calls : List Call) (call : Call) (old mid new : Run) → AreCalls s word calls old mid → chosen s (word_after word (length calls)) mid ≡ Some call.request → Steps mid call.request call.reply new → AreCalls s word (calls ++ call ∷ []) old new
unfolding AreCalls word_after
extended s word [] call old mid new same request step =
    let at : chosen s word old ≡ Some call.request = ap (λ (r : Run). chosen s word r) (sym same) ∙ request in
    (at, (new, (rw (sym same) step, refl)))
extended s word (c ∷ calls) call old mid new made request step =
    let later : chosen s (word_after (next_word word) (length calls)) mid ≡ Some call.request = ap (λ w. chosen s w mid) (shifted word (length calls)) ∙ request in
    (made.0, (made.1.0, (made.1.1.0, extended s (next_word word) calls call made.1.0 mid new made.1.1.1 later step)))

-- nothing is made before the first turn
pub none_made : (s : Schedule) (r : Run) → HaveMade s (first_word s) 0 [] r r
unfolding AreCalls word_after
none_made s r = record { lead = refl; next = refl; number = refl }

-- a turn that makes a call makes one more
pub one_more : (s : Schedule) (word made : ℕ) (before after : List Call) (old mid new : Run) → HaveMade s word made before old mid → IsMade s word before after mid new → HaveMade s (next_word word) (made + 1) after old new
unfolding word_after
one_more s word made before after old mid new so turn =
    let more : length after ≡ length before + 1 = ap length turn.appended ∙ length-append before (turn.call ∷ []) in
    let one : length after ≡ suc (length before) = omega (arith, more) in
    record {
      lead = rw turn.appended (extended s (first_word s) before turn.call old mid new so.lead (ap (λ w. chosen s w mid) (sym so.next) ∙ turn.request) turn.step);
      next = ap next_word so.next ∙ sym (ap (word_after (first_word s)) one);
      number = more ∙ ap (λ n. n + 1) so.number;
    }

-- a move that a number picks
pub picked : (found : List Request) (choice : ℕ) (d : Request) → 0 < length found → slice_get found (choice % length found) ≡ Some (slice_index_or found (choice % length found) d)
picked found choice d some = slice_get-get_or found (choice % length found) d (mod-lt choice some)
