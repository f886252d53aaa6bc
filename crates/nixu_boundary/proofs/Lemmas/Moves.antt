-- A function that moves a pointer and an allocator, with what they own, from one struct into another.
use Rattle.std.proofs.Common.{◌≡◌, List, [], ◌∷◌, ◌++◌, refl, sym, subst, lit<}
use mathlib.Core.Bool.{true, ◌&&◌}
use lib.Dec.{T}
use seplogic.Ra.Ura.{Ura}
use mir.Syntax.{Sym, Ty, Fn, Callee, local, value_local, place, field, copy, assign, rv_opd, aggregate, seq, return, ty_ptr, ty_struct, tcons, tnil, impl, dnil}
use mir.Val.{Val, vstruct, vcons, vnil, of_list, has_ty, WT}
use base.Logic.{SProp, ent, emp, id⊢}
use base.Fml.{Fml, ftrue, fsep, fex, feq}
use prog.Wp.{WpFn, Closed}
use prog.Model.{Model}
use types.Logic.{Logic}
use types.Kit.{‵, raw, ◌⊛◌, ◌$◌, ◌∵◌, !, qed, move, keep, drop, rewrite, join, split, fsplit, fjoin, fpick, fpack, feq_i, feq_l, suffices, done}
use types.Part.{whole, sub, agg}
use types.Run.{stop, fld, no_more, and_then, of_opd, returns, enter}
use types.ByLocal.{alloc_all, pass_all, free_all, look_at, get, get_in, sets}
use contract.Monad.{fact}
use contract.Running.{Running, tables}
use denote.Exit.{yes, rest}
use denote.RattleType.{Valss, flat, owns}
use denote.RawPtr.{Ptr, block_ptr, null_ptr, ptr_val, RawPtr}
use denote.Signature.{plain}
use denote.Steps.{nothing}
use denote.Param.{layout}
use denote.Struct.Owning.{Owning, row}
use denote.Triple.Clauses.{Ended, Clauses, closing}
use denote.Triple.Spec.{Meets}
use denote.Triple.Walked.{Silent, Stays, says, stay_dropped, walk_of, ends_at, Goes-dropped}
use Rattle.core.proofs.alloc.Calls.{Al, Fits, handle_tells}
use Rattle.std.proofs.raw_atomic.Walks.{proved_at}
use Rattle.std_alloc.proofs.ResultValues.{and_tt}
use Rattle.std_heap.specs.declared.Global.{Global}
use Rattle.std_heap.specs.contracts.Global as Heap
use Rattle.std_heap.specs.contracts.GlobalAllocator.TheImpl.{ghosts, dict}
use Rattle.std_heap.proofs.Global.TheLaws as heap

abbrev al : Al
al = record { row = Heap.the_row; laws = heap.the_row_laws; g = ghosts; d = dict; drops = impl [] tnil dnil }

abbrev heap_ty : Ty
heap_ty = layout Heap.the_row

abbrev struct_ty : Sym → Ty
struct_ty name = ty_struct name (tcons ty_ptr (tcons heap_ty tnil))

abbrev word : Ptr → Val → Val
word p h = vstruct (vcons (ptr_val p) (vcons h vnil))

ptr_good : (p : Ptr) → T (has_ty ty_ptr (ptr_val p)) × WT (ptr_val p)
ptr_good (block_ptr b o) = (tt, tt)
ptr_good null_ptr = (tt, record { fits = lit< tt })

word_good : (p : Ptr) (h : Val) → Fits al h → T (has_ty ty_ptr (ptr_val p) && (has_ty heap_ty h && true)) × WT (word p h)
word_good (block_ptr b o) h fits = (and_tt (has_ty heap_ty h) fits.0, (tt, (fits.1, tt)))
word_good null_ptr h fits = (and_tt (has_ty heap_ty h) fits.0, (record { fits = lit< tt }, (fits.1, tt)))

-- the code of such a function: the two fields are read, the pointer is cast, the struct is made
abbrev pub moving : Sym → Sym → Fn
moving from to = record {
  lifetimes = 0;
  outlives = [];
  ty_params = [];
  givens = 0;
  params = 1;
  locals = local (struct_ty to) value_local ∷ local (struct_ty from) value_local ∷ local ty_ptr value_local ∷ local heap_ty value_local ∷ local ty_ptr value_local ∷ [];
  body = seq (assign (place 2 []) (rv_opd (copy (place 1 (field 0 ∷ [])))))
      (seq (assign (place 3 []) (rv_opd (copy (place 1 (field 1 ∷ [])))))
      (seq (assign (place 4 []) (rv_opd (copy (place 2 []))))
      (seq (assign (place 0 []) (aggregate (copy (place 4 []) ∷ copy (place 3 []) ∷ []))) return)));
}

-- what the two fields own
abbrev pub fields_own : Ptr → Global → List Val → Fml
fields_own at alloc vs = fex (Valss (RawPtr ∷ Heap.the_row ∷ [])) (λ vss. fsep (feq (List Val) vs (vstruct (of_list (flat (RawPtr ∷ Heap.the_row ∷ []) vss)) ∷ [])) (owns (RawPtr ∷ Heap.the_row ∷ []) (at, (alloc, tt)) vss))

module _ (From To : Owning) (at : From.D → Ptr) (alloc : From.D → Global) (to : From.D → To.D) (Says : From.D → To.D → Type 0) where
  abbrev pub ended : Ended
  ended = record { signature = record { lifetimes = 0; outlives = []; params = plain (λ _. row From) ∷ []; result = plain (λ _. row To) }; kept = (yes, tt) }

  abbrev hs : Stays ended.signature.params ended.kept
  hs = (stay_dropped (plain (λ _. row From)) yes, tt)

  module _ {M : Type 1} (𝓤 : Ura M) (𝓛 : Logic 𝓤) (𝓜 : Model 𝓤 𝓛.H) (𝓡 : Running 𝓤 𝓛.H 𝓜) where
    abbrev pub clauses : Clauses 𝓤 ended
    clauses κs a = record { ghost = Unit {0}; requires = λ _. emp 𝓤; ensures = λ _ r _. fact 𝓤 (Says a.0 r) }

    pub moves : ((x : From.D) (vs : List Val) → (row From).own_val x vs ≡ fsep (fields_own (at x) (alloc x) vs) (From.heap x))
        → ((x : From.D) (vs : List Val) → (row To).own_val (to x) vs ≡ fsep (fields_own (at x) (alloc x) vs) (From.heap x))
        → Silent 𝓛 0 (plain (λ _. row From)) yes → ((x : From.D) → Says x (to x))
        → (k : Callee) → Closed 𝓤 𝓛.H (tables 𝓤 𝓛.H 𝓜 𝓡 𝓡.env).C (tables 𝓤 𝓛.H 𝓜 𝓡 𝓡.env).Λ k (moving From.name To.name)
        → Meets 𝓛 ended.signature ((tables 𝓤 𝓛.H 𝓜 𝓡 𝓡.env).C k) (closing 𝓛 ended clauses)
    moves out into silent said k closed =
        let 𝓣 = tables 𝓤 𝓛.H 𝓜 𝓡 𝓡.env in let fn = moving From.name To.name in
        proved_at 𝓛 ended hs clauses 𝓜 𝓡 (Goes-dropped 𝓛 0 (plain (λ _. row From)) yes silent, tt) k fn closed (λ z are.
        let x = z.0.3.0 in let vs = z.0.4.0 in let Post : Val → SProp 𝓤 = (walk_of 𝓛 ended hs clauses).post z in let Run : List Val → SProp 𝓤 = λ us. WpFn 𝓤 𝓛.H 𝓣.C 𝓣.Λ fn us Post in
        qed 𝓛 ((‵ ftrue ⊛ ‵ (fsep ((row From).own_val x vs) ftrue)) ∷ raw (emp 𝓤) ∷ []) ∵ split ! $ drop ! $ fsplit ! $ keep ! (0 ∷ []) $ rewrite ! 0 (λ (F : Fml). ‵ F) (out x vs) refl $
        fsplit ! $ fpick ! (λ vss. fsplit ! $ feq_l ! (λ ev. fsplit ! $ feq_l ! (λ ep. fsplit ! $ handle_tells al ! (alloc x) vss.1.0 (λ h ea fits. move ! (1 ∷ []) $ drop ! $
        let w : Val = word (at x) h in let is : vs ≡ w ∷ [] = subst (λ (us : List Val). vs ≡ vstruct (of_list (ptr_val (at x) ∷ (us ++ []))) ∷ []) ea (subst (λ (us : List Val). vs ≡ vstruct (of_list (us ++ (vss.1.0 ++ []))) ∷ []) ep ev) in
        nothing ! $ move ! (1 ∷ 0 ∷ []) $ fjoin ! $ feq_i ! (List Val) (ptr_val (at x) ∷ []) (ptr_val (at x) ∷ []) refl $ fjoin ! $ feq_i ! (List Val) (w ∷ []) (w ∷ []) refl $ fjoin ! $
        fpack ! (Valss (RawPtr ∷ Heap.the_row ∷ [])) (λ us. fsep (feq (List Val) (w ∷ []) (vstruct (of_list (flat (RawPtr ∷ Heap.the_row ∷ []) us)) ∷ [])) (owns (RawPtr ∷ Heap.the_row ∷ []) (at x, (alloc x, tt)) us)) (ptr_val (at x) ∷ [], (h ∷ [], tt)) $ fjoin ! $
        rewrite ! 0 (λ (F : Fml). ‵ F) (sym (into x (w ∷ []))) refl $
        suffices ! (Run (w ∷ [])) (subst (λ (us : List Val). ent 𝓤 (Run (w ∷ [])) (Run us)) (sym (λ i. is i ++ [])) (id⊢ 𝓤 (Run (w ∷ [])))) $
        enter ! 𝓣.C 𝓣.Λ fn (w ∷ []) Post $ alloc_all ! (λ l. pass_all ! refl (word_good (at x) h fits, tt) $
        sets ! (of_opd ! (get_in ! (fld ! refl (stop !)) (sub ! 0 refl (whole !)))) refl (ptr_good (at x)) $ sets ! (of_opd ! (get_in ! (fld ! refl (stop !)) (sub ! 1 refl (whole !)))) refl fits $
        sets ! (of_opd ! (get ! refl)) refl (ptr_good (at x)) $ sets ! (agg ! (and_then ! (get ! refl) (and_then ! (get ! refl) (no_more !)))) refl (word_good (at x) h fits) $ returns ! (look_at ! 0 refl) $ free_all ! refl $
        suffices ! _ (ends_at 𝓛 ended hs clauses z w (to x) (rest ((row From).exit yes) x, tt) (tt, tt)) $ says ! (said x) $ nothing ! $ nothing ! $ fjoin ! $ join ! $ nothing ! $ join ! $ done !))))))
