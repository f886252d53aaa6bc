use Rattle.std.proofs.Common.{◌≡◌, ◌≤◌, ℕ, List, [], ◌∷◌, length, Bool, true, false, ap, ◌-◌, ◌∙◌, sym, arith, rules}
use Rattle.std.proofs.Math.Dec.{ltb}
use Rattle.std.specs.List.{prefix_len}
use Rattle.std.specs.List.Sorted.{IsPartitionPoint}
use Rattle.std.proofs.lemmas.List.Sums.{prefix_len_is}
use Rattle.std.proofs.lemmas.List.Sorted.{IsPartitionPoint-from_clause, IsPartitionedBy-ltb}
use Rattle.causal_merge.specs.declared.input_files.InputFile.{InputFile}
use Rattle.causal_merge.proofs.input_files.file_index.Goals as goal

-- a partition point is the length of the prefix that passes the test
passing : {X : Type 0} (p : X → Bool) (xs : List X) (i : ℕ) → i ≤ length xs → IsPartitionPoint (λ y. p y ≡ true) (λ y. p y ≡ false) xs i → prefix_len p xs ≡ i
passing p [] i inside point = omega arith
passing p (x ∷ xs) i inside point = prefix_len_is p (x ∷ xs) i x inside (λ k low. point.0 k x (omega arith) low) (λ low. point.1 i x (omega arith) low)

pub returns : goal.returns
returns c = λ ordered.
    let files = c.args.input.now in
    let passed = c.partition_point.result in
    let point = IsPartitionPoint-from_clause (λ (f : InputFile). ltb f.begun c.args.line) files passed c.partition_point.ensures.partitioned
    (IsPartitionedBy-ltb (λ (f : InputFile). f.begun) files c.args.line ordered) (λ a r f' k. search rules) in
    c.saturating_sub.ensures ∙ ap (λ n. n - 1) (sym (passing (λ (f : InputFile). ltb f.begun c.args.line) files passed c.partition_point.ensures.bound point))
