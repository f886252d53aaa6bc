use Rattle.std.proofs.Common.{◌≡◌, List, Bool, true, false, refl, ap, subst}
use Rattle.std.specs.Bool.{Decides}
use Rattle.std.specs.Prelude.{◌&&◌}
use Rattle.std.specs.Cmp.Lexicographic.{pointwise}
use Rattle.std.proofs.lemmas.Bool.Decides.{Decides-and, Decides-eqb, Decides-like}
use Rattle.std.proofs.lemmas.Bool.{and_parts, false≢true}
use Rattle.std.proofs.lemmas.Slice.Eq.{slice_eq-Decides}
use Rattle.causal_name.specs.declared.Det.{Det}
use Rattle.causal_name.specs.declared.Pid.{Pid}
use Rattle.causal_name.specs.Names.{same_det, same_pid}
use Rattle.causal_trace.specs.declared.entry.Entry.{Entry}
use Rattle.causal_trace.specs.declared.entry.Entry.TheVariants.{Send, Deliver, Stable, Crash, Restart, Forget}
use Rattle.causal_trace.specs.contracts.entry.EntryPartialEq.TheImpl.{eq-value}
use Rattle.causal_shared.proofs.same.same_entries.Goals as goal

same_pid-decides : (p q : Pid) → Decides (same_pid p q) (p ≡ q)
same_pid-decides p q = Decides-like _ (λ e. ap (λ n. record { 0 = n }) e) (λ e. ap (λ (x : Pid). x.0) e) (Decides-eqb p.0 q.0)

same_det-decides : (a b : Det) → Decides (same_det a b) (a ≡ b)
same_det-decides a b =
    Decides-like _ (λ (h : (a.source ≡ b.source) × ((a.ssn ≡ b.ssn) × ((a.dest ≡ b.dest) × (a.rsn ≡ b.rsn)))). λ i. record { source = h.0 i; ssn = h.1.0 i; dest = h.1.1.0 i; rsn = h.1.1.1 i })
    (λ e. (ap (λ (d : Det). d.source) e, (ap (λ (d : Det). d.ssn) e, (ap (λ (d : Det). d.dest) e, ap (λ (d : Det). d.rsn) e))))
    (Decides-and _ _ (same_pid-decides a.source b.source) (Decides-and _ _ (Decides-eqb a.ssn b.ssn) (Decides-and _ _ (same_pid-decides a.dest b.dest) (Decides-eqb a.rsn b.rsn))))

same_dets-decides : (xs ys : List Det) → Decides (pointwise same_det xs ys) (xs ≡ ys)
same_dets-decides xs ys = slice_eq-Decides same_det-decides xs ys _ refl

-- entries that compare as equal are equal
sound : (a b : Entry) → eq-value.it a b ≡ true → a ≡ b
sound (Send f t s) (Send g u r) h =
    let p = and_parts _ _ h in let q = and_parts _ _ p.1 in let from = (same_pid-decides f g).0 p.0 in let to = (same_pid-decides t u).0 q.0 in let ssn = (Decides-eqb s r).0 q.1 in
    λ i. Send (from i) (to i) (ssn i)
sound (Deliver t s r ds) (Deliver u n q es) h =
    let p = and_parts _ _ h in let k = and_parts _ _ p.1 in let m = and_parts _ _ k.1 in
    let to = (same_pid-decides t u).0 p.0 in let send = (Decides-eqb s n).0 k.0 in let rsn = (Decides-eqb r q).0 m.0 in let listed = (same_dets-decides ds es).0 m.1 in
    λ i. Deliver (to i) (send i) (rsn i) (listed i)
sound (Stable d) (Stable e) h = ap Stable ((same_det-decides d e).0 h)
sound (Crash p) (Crash q) h = ap Crash ((same_pid-decides p q).0 h)
sound (Restart p ds) (Restart q es) h =
    let m = and_parts _ _ h in let who = (same_pid-decides p q).0 m.0 in let listed = (same_dets-decides ds es).0 m.1 in
    λ i. Restart (who i) (listed i)
sound (Forget p ds) (Forget q es) h =
    let m = and_parts _ _ h in let who = (same_pid-decides p q).0 m.0 in let listed = (same_dets-decides ds es).0 m.1 in
    λ i. Forget (who i) (listed i)
sound _ _ h = absurd (false≢true h)

both : (x y : Bool) → x ≡ true → y ≡ true → (x && y) ≡ true
both true y p q = q
both false y p q = p

-- an entry compares as equal to itself
own : (a : Entry) → eq-value.it a a ≡ true
own (Send f t s) = both _ _ ((Decides-eqb f.0 f.0).1 refl) (both _ _ ((Decides-eqb t.0 t.0).1 refl) ((Decides-eqb s s).1 refl))
own (Deliver t s r ds) = both _ _ ((Decides-eqb t.0 t.0).1 refl) (both _ _ ((Decides-eqb s s).1 refl) (both _ _ ((Decides-eqb r r).1 refl) ((same_dets-decides ds ds).1 refl)))
own (Stable d) = (same_det-decides d d).1 refl
own (Crash p) = (Decides-eqb p.0 p.0).1 refl
own (Restart p ds) = both _ _ ((Decides-eqb p.0 p.0).1 refl) ((same_dets-decides ds ds).1 refl)
own (Forget p ds) = both _ _ ((Decides-eqb p.0 p.0).1 refl) ((same_dets-decides ds ds).1 refl)

pub returns : goal.returns
returns c = slice_eq-Decides (λ a b. (sound a b, λ e. subst (λ (x : Entry). eq-value.it a x ≡ true) e (own a))) _ _ _ c.eq.ensures
