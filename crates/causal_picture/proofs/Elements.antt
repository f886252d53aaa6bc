-- The elements of parts, one after another.
use Rattle.std.proofs.Common.{◌≡◌, ◌+◌, ◌<◌, ◌++◌, List, [], ◌∷◌, ℕ, false, length, take, get_or, refl, sym, append_assoc}
use Rattle.std.proofs.lemmas.List.{append-nil, take_more}
use Rattle.std.specs.Prelude.{◌==◌, codes, Option}
use Rattle.std.specs.List.{list_any}
use Rattle.causal_picture.specs.declared.focus.Focus.{Focus}
use Rattle.causal_picture.specs.declared.part.DrawnPart.{DrawnPart}
use Rattle.causal_picture.specs.Pictures.{AreElements, HasElements, IsElement, IsFoot, IsGroup, IsSvgStart, IsGroupStart, opening_text, verdict_text}

-- the start of a group, and the start of its title after it
pub opening_written : (x y z attributes title : List ℕ) → list_any (λ byte. byte == 60) attributes ≡ false
    → y ≡ x ++ opening_text attributes [] → z ≡ y ++ title → (added : List ℕ) × IsGroupStart title added × (z ≡ x ++ added)
opening_written x y z attributes title closed first last = (opening_text attributes title, (attributes, closed, refl), rw (last, first) (simp append_assoc))

-- a group, from its start to its end
pub group_written : (x y z w title : List ℕ) → ((added : List ℕ) × IsGroupStart title added × (y ≡ x ++ added)) → ((added : List ℕ) × (z ≡ y ++ added))
    → w ≡ z ++ codes "</g>\n" → (added : List ℕ) × IsGroup title added × (w ≡ x ++ added)
group_written x y z w title (opening, starts, first) (inside, second) last =
    (opening ++ (inside ++ codes "</g>\n"), (opening, inside, starts, refl), rw (last, second, first) (simp append_assoc))

-- the head
pub head_written : (x y z start : List ℕ) → y ≡ x ++ start → ((added : List ℕ) × (z ≡ y ++ added))
    → (added : List ℕ) × ((rest : List ℕ) × (added ≡ start ++ rest)) × (z ≡ x ++ added)
head_written x y z start first (rest, last) = (start ++ rest, (rest, refl), rw (last, first) (simp append_assoc))

-- the foot
pub foot_written : (x y z w v start : List ℕ) (faults : ℕ) (focus : Option Focus) → y ≡ x ++ start → z ≡ y ++ verdict_text faults focus
    → ((added : List ℕ) × (w ≡ z ++ added)) → v ≡ w ++ codes "</svg>\n" → (added : List ℕ) × IsFoot faults focus added × (v ≡ x ++ added)
foot_written x y z w v start faults focus first second (rest, third) last =
    let said = verdict_text faults focus in
    (start ++ (said ++ (rest ++ codes "</svg>\n")), (start, rest, refl), rw (last, third, second, first) (simp append_assoc))

-- the head, the elements and the foot
pub picture_written : (x y z w : List ℕ) (faults : ℕ) (focus : Option Focus) (parts : List DrawnPart) → ((added : List ℕ) × IsSvgStart added × (y ≡ x ++ added))
    → ((added : List ℕ) × AreElements parts added × (z ≡ y ++ added)) → ((added : List ℕ) × IsFoot faults focus added × (w ≡ z ++ added))
    → (added : List ℕ) × HasElements faults focus parts added × (w ≡ x ++ added)
picture_written x y z w faults focus parts (head, starts, first) (body, each, second) (foot, ends, last) =
    (head ++ (body ++ foot), record { head = head; body = body; foot = foot; starts = starts; each = each; ends = ends; whole = refl }, rw (last, second, first) (simp append_assoc))

-- one more element makes up one more part
pub elements-more : (parts : List DrawnPart) (part : DrawnPart) (text own : List ℕ) → AreElements parts text → IsElement part own → AreElements (parts ++ (part ∷ [])) (text ++ own)
elements-more [] part text own none is = (own, [], is, refl, rw none (sym (append-nil own)))
elements-more (p ∷ parts) part text own (first, rest, here, there, whole) is =
    (first, rest ++ own, here, elements-more parts part rest own there is, rw whole (append_assoc first rest own))

-- the element of the next part, after those of the parts before it
pub part_written : (parts xs : List DrawnPart) (i : ℕ) (d : DrawnPart) (x y z : List ℕ) → xs ≡ parts → i < length xs
    → ((added : List ℕ) × AreElements (take i parts) added × (y ≡ x ++ added)) → ((own : List ℕ) × IsElement (get_or xs i d) own × (z ≡ y ++ own))
    → (added : List ℕ) × AreElements (take (i + 1) parts) added × (z ≡ x ++ added)
part_written parts xs i d x y z same within (text, each, first) (own, is, last) =
    (text ++ own, rw (← same, take_more xs i d within) (elements-more (take i xs) (get_or xs i d) text own (rw (← same) at each) is), rw (last, first) (append_assoc x text own))
