-- Texts appended one after another.
use Rattle.std.proofs.Common.{◌≡◌, ◌++◌, List, ℕ, append_assoc}

-- three texts
pub joined : (x0 x1 x2 x3 a b c : List ℕ) → x1 ≡ x0 ++ a → x2 ≡ x1 ++ b → x3 ≡ x2 ++ c → x3 ≡ x0 ++ (a ++ (b ++ c))
joined x0 x1 x2 x3 a b c ea eb ec = rw (ec, eb, ea) (simp append_assoc)
