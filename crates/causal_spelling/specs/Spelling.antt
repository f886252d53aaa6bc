-- The canonical text of arrays of numbers and determinants: JSON without spaces.
use Rattle.std.specs.Prelude.{ℕ, List, [], ◌∷◌, ◌++◌, codes, decimal, flat_map}
use Rattle.causal_name.specs.declared.Det.{Det}

-- the text of a determinant, `[source,ssn,dest,rsn]`
abbrev pub det_text : Det → List ℕ
det_text d = codes "[" ++ (decimal d.source.0 ++ (codes "," ++ (decimal d.ssn ++ (codes "," ++ (decimal d.dest.0 ++ (codes "," ++ (decimal d.rsn ++ codes "]")))))))

-- the text of determinants, each after a comma
abbrev pub more_dets_text : List Det → List ℕ
more_dets_text ds = flat_map (λ d. codes "," ++ det_text d) ds

-- the text of a list of determinants
abbrev pub dets_text : List Det → List ℕ
dets_text [] = codes "[]"
dets_text (d ∷ ds) = codes "[" ++ (det_text d ++ (more_dets_text ds ++ codes "]"))

-- the numbers, each after a comma, and then `end`
abbrev pub numbers_text : List ℕ → List ℕ → List ℕ
numbers_text [] end = end
numbers_text (n ∷ ns) end = codes "," ++ (decimal n ++ numbers_text ns end)

-- an array that begins with a name
abbrev pub named_text : List ℕ → List ℕ → List ℕ → List ℕ
named_text name ns end = codes "[\"" ++ (name ++ (codes "\"" ++ numbers_text ns end))

-- an array that begins with a name and ends with a list, and then `end`
abbrev pub listed_text : List ℕ → List ℕ → List Det → List ℕ → List ℕ
listed_text name ns ds end = named_text name ns (codes ",") ++ (dets_text ds ++ end)
