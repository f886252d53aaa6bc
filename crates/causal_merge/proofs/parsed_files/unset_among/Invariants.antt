use Rattle.std.specs.Prelude.{false, not, slice_index_or}
use Rattle.causal_holders.specs.Members.{HasMembers}
use Rattle.causal_merge.proofs.parsed_files.unset_among.Given as goal

abbrev pub invariant-loop-p : goal.invariant-loop-p
invariant-loop-p l = HasMembers l.p l.missing (λ p. not (slice_index_or l.headers_seen p false))
