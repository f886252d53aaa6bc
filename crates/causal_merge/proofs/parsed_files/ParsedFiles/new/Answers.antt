use Rattle.std.proofs.Common.{ℕ, ◌<◌, refl, [], false}
use Rattle.std.proofs.lemmas.List.{get_or-replicate}
use Rattle.causal_merge.proofs.parsed_files.ParsedFiles.new.Goals as goal

pub returns-clause-read : goal.returns-clause-read
returns-clause-read c = λ most. ([], refl, assumption (λ (p : ℕ) (below : p < 256). get_or-replicate 256 p false false below))
