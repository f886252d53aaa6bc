use Rattle.std.proofs.Common.{◌≡◌, ◌+◌, ◌*◌, string_bytes}
use Rattle.causal_picture.proofs.Texts.{IsLonger}
use Rattle.causal_picture.proofs.legend.push_keys.Given as goal

-- the place of the next key, and a text was appended
abbrev pub invariant-loop-shape : goal.invariant-loop-shape
invariant-loop-shape l = (l.x ≡ 20 + 100 * l.shape-index) × IsLonger (string_bytes l.fn.out) (string_bytes l.out)
