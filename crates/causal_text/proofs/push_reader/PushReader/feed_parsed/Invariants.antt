use Rattle.std.proofs.Common.{◌≡◌, List, ℕ, ◌++◌, length}
use Rattle.std.specs.Vec.Iter.{into_iter_items, into_iter_len}
use Rattle.causal_text.specs.Inside.Chunks.{AreParsed, bytes_of}
use Rattle.causal_text.specs.PushReaders.{HasReceived}
use Rattle.causal_text.proofs.push_reader.PushReader.feed_parsed.Given as goal

abbrev pub invariant-loop-line : goal.invariant-loop-line
invariant-loop-line l =
    (done : List ℕ) × (into_iter_len l.line-iterator ≡ length (into_iter_items l.line-iterator)) × AreParsed (into_iter_items l.line-iterator)
    × (bytes_of (into_iter_items l.initial.line-iterator) ≡ done ++ bytes_of (into_iter_items l.line-iterator))
    × ((most : ℕ) (b : List ℕ) → HasReceived most l.fn.self b → HasReceived most l.reader (b ++ done))
