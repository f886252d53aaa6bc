-- The bytes of streams that are read one after the other.
use Rattle.std.specs.Prelude.{ℕ, List, [], ◌∷◌, drop, Option, Some}
use Rattle.std.specs.Fmt.{option_append}
use Rattle.causal_outcomes.specs.declared.chained_stream.ChainedStream.{ChainedStream}

-- the bytes that these streams still have, in order, if those of each are known
abbrev pub bytes_in_order : {S : Type 0} → (S → Option (List ℕ)) → List S → Option (List ℕ)
bytes_in_order remaining [] = Some []
bytes_in_order remaining (stream ∷ later) = option_append (remaining stream) (bytes_in_order remaining later)

-- the bytes that a chain still has: those of the present stream, then those of the later ones
abbrev pub bytes_in_chain : {S : Type 0} → (S → Option (List ℕ)) → ChainedStream S → Option (List ℕ)
bytes_in_chain remaining chain = bytes_in_order remaining (drop chain.present chain.streams.items)
