-- The names that a restart reserves: one determinant more.
use Rattle.std.proofs.Common.{ℕ, ◌≡◌, ◌+◌, ◌<◌, Bool, true, false, cond, List, length, get_or, drop, refl, sym, ap, ◌∙◌}
use Rattle.std.specs.Prelude.{◌&&◌, ◌||◌}
use Rattle.std.specs.BTreeMap.{is_at}
use Rattle.std.specs.BTreeSet.{BTreeSet, Updates}
use Rattle.std.proofs.lemmas.List.{drop_more}
use Rattle.causal_name.specs.declared.Pid.{Pid}
use Rattle.causal_name.specs.declared.Det.{Det}
use Rattle.causal_name.specs.declared.MsgName.{MsgName}
use Rattle.causal_name.specs.Names.{same_pid, message_cmp, message_of}
use Rattle.causal_node.specs.NodeStates.{has_name}
use Rattle.causal_node.specs.NodeRecovery.{is_named_for}

added : (is old rest : Bool) → (cond is true old || rest) ≡ (old || ((true && is) || rest))
added true true rest = refl
added true false rest = refl
added false old rest = refl

module _ (me : Pid) (dets : List Det) (i : ℕ) (d : Det) (names : BTreeSet MsgName) (m : MsgName) (h : i < length dets) where
  first : is_named_for me (drop i dets) m ≡ ((same_pid (get_or dets i d).dest me && is_at (message_cmp (message_of (get_or dets i d))) m) || is_named_for me (drop (i + 1) dets) m)
  first = ap (λ ds. is_named_for me ds m) (drop_more dets i d h)

  -- the name of a determinant of the process's own deliveries is added
  pub name_added : (next : BTreeSet MsgName) (k : MsgName) → same_pid (get_or dets i d).dest me ≡ true → k ≡ message_of (get_or dets i d) → Updates message_cmp names next k true → (has_name next.keys m || is_named_for me (drop (i + 1) dets) m) ≡ (has_name names.keys m || is_named_for me (drop i dets) m)
  name_added next k own named updates =
      let is = is_at (message_cmp (message_of (get_or dets i d))) m in
      let rest = is_named_for me (drop (i + 1) dets) m in
      ap (λ b. b || rest) (updates.0 m)
      ∙ ap (λ x. cond (is_at (message_cmp x) m) true (has_name names.keys m) || rest) named
      ∙ added is (has_name names.keys m) rest
      ∙ ap (λ b. has_name names.keys m || ((b && is) || rest)) (sym own)
      ∙ ap (λ b. has_name names.keys m || b) (sym first)

  -- that of another is not
  pub name_skipped : same_pid (get_or dets i d).dest me ≡ false → (has_name names.keys m || is_named_for me (drop (i + 1) dets) m) ≡ (has_name names.keys m || is_named_for me (drop i dets) m)
  name_skipped other =
      let is = is_at (message_cmp (message_of (get_or dets i d))) m in
      let rest = is_named_for me (drop (i + 1) dets) m in
      ap (λ b. has_name names.keys m || ((b && is) || rest)) (sym other)
      ∙ ap (λ b. has_name names.keys m || b) (sym first)
