-- The bounds f for which a verdict holds, as lines and as JSON objects.
use Rattle.std.specs.Prelude.{ℕ, List, [], ◌∷◌, ◌++◌, codes, flat_map}
use Rattle.causal_answers.specs.declared.bounds.Bounds.{Bounds}
use Rattle.causal_answers.specs.declared.bounds.Bounds.TheVariants as bounds
use Rattle.causal_facts.specs.declared.form.Form.{Form}
use Rattle.causal_facts.specs.declared.form.Form.TheVariants.{Lines, Json}
use Rattle.causal_answers.specs.Fields.{json_number, object_start}

-- the word for the verdict
abbrev pub bounds_word : Bounds → List ℕ
bounds_word (bounds.Exceeded last) = codes "exceeded"
bounds_word (bounds.AcceptFrom first) = codes "accept"
bounds_word (bounds.Accept first last) = codes "accept"
bounds_word (bounds.Orphan first) = codes "orphan"

-- the first and the last bound, both included
abbrev pub bounds_fields : Form → Bounds → List ℕ
bounds_fields form (bounds.Exceeded last) = json_number form (codes "to") last
bounds_fields form (bounds.AcceptFrom first) = json_number form (codes "from") first
bounds_fields form (bounds.Accept first last) = json_number form (codes "from") first ++ json_number form (codes "to") last
bounds_fields form (bounds.Orphan first) = json_number form (codes "from") first

-- the sentence, after a colon and with a line feed
abbrev pub bounds_sentence : Bounds → List ℕ
bounds_sentence (bounds.Exceeded last) = codes ": at some instant more than f processes are down\n"
bounds_sentence (bounds.AcceptFrom first) = codes ": the run is safe for f\n"
bounds_sentence (bounds.Accept first last) = codes ": the run is safe for f\n"
bounds_sentence (bounds.Orphan first) = codes ": at some instant a delivery has an orphan for f\n"

-- the line of bounds: `accept from=0 to=1: the run is safe for f`
abbrev pub bounds_line : Bounds → List ℕ
bounds_line x = bounds_word x ++ (bounds_fields Lines x ++ bounds_sentence x)

-- the object of bounds: `{"verdict":"accept","from":0,"to":1}`
abbrev pub bounds_object : Bounds → List ℕ
bounds_object x = object_start (codes "verdict") (bounds_word x) ++ (bounds_fields Json x ++ codes "}")

-- a comma, and the object of bounds
abbrev pub next_bounds : Bounds → List ℕ
next_bounds x = codes "," ++ bounds_object x

-- an object for each of them, with commas between them
abbrev pub bounds_objects : List Bounds → List ℕ
bounds_objects [] = []
bounds_objects (x ∷ more) = bounds_object x ++ flat_map next_bounds more
