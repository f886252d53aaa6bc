-- Boxes of a trait object that were all made of values of one type, so they share one vtable.
use Rattle.std.proofs.Common.{◌≡◌, ◌∙◌, ◌⊎◌, inl, inr, sym}
use Rattle.std.specs.declared.dyn_box.DynBox.{DynBox}
use base.Stored.{Gv}
use Rattle.std.specs.Coded.{Coded}
use denote.Param.Object.{Made}

abbrev behind : (F : Unit {0} ⊎ ⊥ → Type 0) (v : Unit {0} ⊎ ⊥) → F v → F (inl tt)
behind F (inl u) w = w
behind F (inr none) w = absurd none

-- the value in a box
abbrev pub value_of : {Z : Type 0} {F : Unit {0} ⊎ ⊥ → Type 0} → DynBox (Unit {0} ⊎ ⊥) Z F → F (inl tt)
value_of {Z} {F} b = behind F b.vtable b.value

behind-made : {F : Unit {0} ⊎ ⊥ → Type 0} (C : Coded (F (inl tt))) (c : (i : Unit {0} ⊎ ⊥) → F i → Gv) (i : Unit {0} ⊎ ⊥) (y : F i) (x : F (inl tt))
    → Made c C.code (inl tt) i y x → ((z : F (inl tt)) → c (inl tt) z ≡ C.code z) → behind F i y ≡ x
behind-made {F} C c (inl u) y x made same = C.inj y x (sym (same y) ∙ made.codes)
behind-made {F} C c (inr none) y x made same = absurd none

-- a box that was made of a value has that value
pub made_of : {Z : Type 0} {F : Unit {0} ⊎ ⊥ → Type 0} (b : DynBox (Unit {0} ⊎ ⊥) Z F) (x : F (inl tt)) (C : Coded (F (inl tt))) (c : (i : Unit {0} ⊎ ⊥) → F i → Gv)
    → Made c C.code (inl tt) b.vtable b.value x → ((z : F (inl tt)) → c (inl tt) z ≡ C.code z) → value_of b ≡ x
made_of {Z} {F} b x C c made same = behind-made C c b.vtable b.value x made same

-- what holds of each value in a box holds of each box
pub of_each : {Z : Type 0} {F : Unit {0} ⊎ ⊥ → Type 0} (P : DynBox (Unit {0} ⊎ ⊥) Z F → Type 0) → ((b : DynBox (Unit {0} ⊎ ⊥) Z F) (w : F (inl tt)) → P (record { ptr = b.ptr; vtable = inl tt; alloc = b.alloc; value = w }))
    → (b : DynBox (Unit {0} ⊎ ⊥) Z F) → P b
of_each {Z} {F} P each b = cases b b.vtable b.value where
  cases : (b : DynBox (Unit {0} ⊎ ⊥) Z F) (i : Unit {0} ⊎ ⊥) (w : F i) → P (record { ptr = b.ptr; vtable = i; alloc = b.alloc; value = w })
  cases b (inl u) w = each b w
  cases b (inr none) w = absurd none
