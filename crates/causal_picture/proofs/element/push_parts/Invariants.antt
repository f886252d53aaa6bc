use Rattle.std.proofs.Common.{◌≡◌, ◌++◌, ℕ, List, take, string_bytes}
use Rattle.causal_picture.specs.Pictures.{AreElements}
use Rattle.causal_picture.proofs.element.push_parts.Given as goal

-- the elements of the parts so far were appended
abbrev pub invariant-loop-part : goal.invariant-loop-part
invariant-loop-part l =
    (written : List ℕ) × AreElements (take l.part-index l.drawing.parts.items) written × (string_bytes l.out ≡ string_bytes l.fn.out ++ written)
