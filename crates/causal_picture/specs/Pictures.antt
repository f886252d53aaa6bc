-- The SVG text of a picture: an element for each part of the drawing, in its order.
use Rattle.std.specs.Prelude.{◌≡◌, ℕ, ◌==◌, false, List, [], ◌∷◌, ◌++◌, codes, decimal, Option, Some, None}
use Rattle.std.specs.List.{list_any}
use Rattle.std.specs.Option.{option_map_or}
use Rattle.causal_trace.specs.Rows.{Recording}
use Rattle.causal_picture.specs.declared.focus.Focus.{Focus}
use Rattle.causal_picture.specs.declared.part.DrawnPart.{DrawnPart}
use Rattle.causal_picture.specs.declared.part.DrawnPart.TheVariants.{Row, Up, Event, Held, Chain, Instant, HiddenEntries, HiddenProcesses}
use Rattle.causal_picture.specs.declared.selection.Selection.{Selection}
use Rattle.causal_picture.specs.Drawings.{drawing}
use Rattle.causal_trace.specs.Past.{line_at}

-- the start of the title of the entry at a position
abbrev pub line_title : ℕ → List ℕ
line_title position = codes "line " ++ decimal (line_at position)

-- the start of a part's title: what it is, and of which process, line or instant, or how many are hidden
abbrev pub title_of : DrawnPart → List ℕ
title_of (Row p is_shaded) = codes "process " ++ decimal p
title_of (Up p is_late to) = codes "process " ++ decimal p
title_of (Event mark is_faint link) = line_title mark.position
title_of (Held p from to instant) = []
title_of Chain = codes "chain"
title_of (Instant instant) = codes "instant " ++ decimal instant
title_of (HiddenEntries side count) = decimal count ++ codes " entries"
title_of (HiddenProcesses count) = decimal count ++ codes " processes"

-- the start of a group with these attributes, whose title begins with these words
abbrev pub opening_text : List ℕ → List ℕ → List ℕ
opening_text attributes title = codes "<g" ++ (attributes ++ (codes "><title>" ++ title))

-- the start of a group whose title begins with these words; no attribute has a `<`
abbrev pub IsGroupStart : List ℕ → List ℕ → Type 0
IsGroupStart title text = (attributes : List ℕ) × (list_any (λ byte. byte == 60) attributes ≡ false) × (text ≡ opening_text attributes title)

-- a group whose title begins with these words
abbrev pub IsGroup : List ℕ → List ℕ → Type 0
IsGroup title text = (opening : List ℕ) × (inside : List ℕ) × IsGroupStart title opening × (text ≡ opening ++ (inside ++ codes "</g>\n"))

-- a path
abbrev pub IsSvgPath : List ℕ → Type 0
IsSvgPath text = (rest : List ℕ) × (text ≡ codes "<path d='M" ++ rest)

-- the element of a part: a path for a band, a group with its title for each other part
abbrev pub IsElement : DrawnPart → List ℕ → Type 0
IsElement (Held p from to instant) text = IsSvgPath text
IsElement part text = IsGroup (title_of part) text

-- an element for each part, in order
abbrev pub AreElements : List DrawnPart → List ℕ → Type 0
AreElements [] text = text ≡ []
AreElements (part ∷ parts) text = (first : List ℕ) × (rest : List ℕ) × IsElement part first × AreElements parts rest × (text ≡ first ++ rest)

-- the start of the root element
abbrev pub IsSvgStart : List ℕ → Type 0
IsSvgStart text = (rest : List ℕ) × (text ≡ codes "<svg xmlns='http://www.w3.org/2000/svg'" ++ rest)

-- the word of a verdict: of an orphan, of too many down processes, or without a focus of a safe run
abbrev pub focus_word : Option Focus → List ℕ
focus_word None = codes "accept"
focus_word (Some f) = option_map_or (λ orphan. codes "orphan") f.orphan (codes "exceeded")

-- the verdict with its bound f
abbrev pub verdict_text : ℕ → Option Focus → List ℕ
verdict_text faults focus = focus_word focus ++ (codes " f=" ++ decimal faults)

-- the end of the root element, with the verdict
abbrev pub IsFoot : ℕ → Option Focus → List ℕ → Type 0
IsFoot faults focus text = (before : List ℕ) × (between : List ℕ) × (text ≡ before ++ (verdict_text faults focus ++ (between ++ codes "</svg>\n")))

-- the root element, with an element for each part after its head, and then the verdict
pub record HasElements (faults : ℕ) (focus : Option Focus) (parts : List DrawnPart) (text : List ℕ) : Type 0 where
  pub head : List ℕ
  pub body : List ℕ
  pub foot : List ℕ
  pub starts : IsSvgStart head
  pub each : AreElements parts body
  pub ends : IsFoot faults focus foot
  pub whole : text ≡ head ++ (body ++ foot)

-- the picture of the selected part of a recorded run, audited for f, with a focus
abbrev pub IsPicture : Recording → ℕ → Option Focus → Selection → List ℕ → Type 0
IsPicture r faults focus s text = HasElements faults focus (drawing r focus s) text
