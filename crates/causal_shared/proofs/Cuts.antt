-- Lists, and prefixes of an extended run.
use Rattle.std.proofs.Common.{◌≡◌, ◌<◌, ◌+◌, ◌-◌, ◌∙◌, ap, refl, reverse, count_by, cond, ℕ, Bool, List, [], ◌∷◌, ◌++◌, length, arith, Some, length-append, ◌⊎◌, ◌≤◌, sym, take, drop, append-nil, append_assoc}
use Rattle.std.specs.Prelude.{slice_get}
use Rattle.std.proofs.lemmas.Bool.{cases_lt}
use Rattle.std.proofs.lemmas.Option.{slice_get-get_or, slice_get_cases, slice_get_past}
use Rattle.std.proofs.lemmas.List.{reverse-append, get_or_append_left, get_or_push, length_push, reverse-reverse, length-reverse}
use Rattle.std.proofs.lemmas.List.Sums.{sum_by-append}
use Rattle.std.proofs.Math.Seq.{take-append-add, drop-append-add}
use Rattle.causal_trace.specs.declared.entry.Entry.{Entry}
use Rattle.causal_protocol.specs.declared.request.Request.{Request}
use Rattle.causal_protocol.specs.declared.request.Reply.{Reply}
use Rattle.causal_name.specs.declared.Pid.{Pid}
use Rattle.causal_protocol.specs.Run.{Run}
use Rattle.causal_protocol.specs.Steps.{LegalStep, Steps, extend_run, append_all, writers_of}
use Rattle.causal_shared.specs.History.{run_length, drop_newest, run_at, entries_since, IsCallStep}
use Rattle.causal_protocol.proofs.Lemmas.StepAppends.{written-step, length-pushed}
use Rattle.causal_protocol.specs.ReplyEntries.{is_stable_entry}

-- appending leaves the earlier elements unchanged
pub slice_get-append : {X : Type 0} (xs ys : List X) (k : ℕ) → k < length xs → slice_get (xs ++ ys) k ≡ slice_get xs k
slice_get-append xs ys k lt = grind (arith, slice_get_cases xs k, slice_get-get_or (xs ++ ys) k, get_or_append_left xs ys, length-append xs ys)

-- the appended element is at the old length
pub slice_get-append_seam : {X : Type 0} (xs : List X) (x : X) → slice_get (xs ++ x ∷ []) (length xs) ≡ Some x
slice_get-append_seam xs x = slice_get-get_or (xs ++ x ∷ []) (length xs) x (omega (arith, length_push xs x)) ∙ ap Some (get_or_push xs x x (length xs) refl)

-- an index into a list with one appended element selects an old element or the new one
pub slice_get-snoc : {X : Type 0} (xs : List X) (x y : X) (k : ℕ) → slice_get (xs ++ x ∷ []) k ≡ Some y → (slice_get xs k ≡ Some y) ⊎ ((k ≡ length xs) × (x ≡ y))
slice_get-snoc xs x y k is =
    let more = xs ++ x ∷ [] in
    grind (arith, cases_lt k (length xs), slice_get-get_or more k x, slice_get-get_or xs k x, slice_get_past more k, length_push xs x, get_or_append_left xs (x ∷ []) x k, get_or_push xs x x k)

-- the appended element is the last one
pub slice_get-last : {X : Type 0} (xs : List X) (x : X) → slice_get (xs ++ x ∷ []) (length (xs ++ x ∷ []) - 1) ≡ Some x
slice_get-last xs x = grind (arith, length-append xs (x ∷ []), slice_get-append_seam xs x)

-- the first element is the last one of the reversed list
pub reverse-cons : {X : Type 0} (x : X) (xs : List X) → reverse (x ∷ xs) ≡ reverse xs ++ x ∷ []
reverse-cons x xs = reverse-append (x ∷ []) xs

-- the count over two appended lists is the sum of both counts
pub count_by-append : {X : Type 0} (p : X → Bool) (xs ys : List X) → count_by p (xs ++ ys) ≡ count_by p xs + count_by p ys
count_by-append p xs ys = sum_by-append (λ x. cond (p x) 1 0) xs ys

-- reversing a list does not change a count
pub count_by-reverse : {X : Type 0} (p : X → Bool) (xs : List X) → count_by p (reverse xs) ≡ count_by p xs
count_by-reverse p [] = refl
count_by-reverse p (x ∷ xs) =
    grind (arith, count_by-reverse p xs, count_by-append p (reverse xs) (x ∷ []), count_by-append p (x ∷ []) xs, reverse-cons x xs)

pub pushed-is : (es past : List Entry) → append_all es past ≡ reverse es ++ past
pushed-is [] past = refl
pushed-is (e ∷ es) past = pushed-is es (e ∷ past) ∙ (sym (append_assoc (reverse es) (e ∷ []) past) ∙ ap (λ (xs : List Entry). xs ++ past) (sym (reverse-cons e es)))

drop-pushed : (es past : List Entry) (k : ℕ) → drop (length es + k) (append_all es past) ≡ drop k past
drop-pushed es past k = ap (λ n. drop (n + k) (append_all es past)) (sym (length-reverse es)) ∙ (ap (drop (length (reverse es) + k)) (pushed-is es past) ∙ drop-append-add (reverse es) past k)

take-pushed : (es past : List Entry) (k : ℕ) → take (length es + k) (append_all es past) ≡ reverse es ++ take k past
take-pushed es past k = ap (λ n. take (n + k) (append_all es past)) (sym (length-reverse es)) ∙ (ap (take (length (reverse es) + k)) (pushed-is es past) ∙ take-append-add (reverse es) past k)

written-pushed : (es past : List Entry) (k : ℕ) → count_by is_stable_entry (take (length es + k) (append_all es past)) ≡ count_by is_stable_entry es + count_by is_stable_entry (take k past)
written-pushed es past k = ap (count_by is_stable_entry) (take-pushed es past k) ∙ (count_by-append is_stable_entry (reverse es) (take k past) ∙ ap (λ n. n + count_by is_stable_entry (take k past)) (count_by-reverse is_stable_entry es))

drop-writers : (ws writers : List Pid) (m n : ℕ) → m ≡ length ws + n → drop m (ws ++ writers) ≡ drop n writers
drop-writers ws writers m n is = ap (λ m. drop m (ws ++ writers)) is ∙ drop-append-add ws writers n

-- a run with another past and other writers
abbrev run_with : Run → List Entry → List Pid → Run
run_with r past writers = record r { recording = record { processes = r.recording.processes; past = past }; writers = writers }

same_runs : (r : Run) (past past' : List Entry) (writers writers' : List Pid) → past ≡ past' → writers ≡ writers' → run_with r past writers ≡ run_with r past' writers'
same_runs r past past' writers writers' same same' = ap (λ (p : List Entry). run_with r p writers) same ∙ ap (λ (w : List Pid). run_with r past' w) same'

-- dropping the new entries and some older ones equals dropping the older ones from the old run
shortened-extended : (r : Run) (request : Request) (es : List Entry) (k m : ℕ) → m ≡ length es + k → count_by is_stable_entry es ≡ length (writers_of request es) → drop_newest m (extend_run r request es) ≡ drop_newest k r
shortened-extended r request es k m is written =
    grind (arith, same_runs r, drop-pushed es r.recording.past k, drop-writers, written-pushed es r.recording.past k)

-- a run cut at its length is the whole run
pub cut-whole : (r : Run) (n : ℕ) → n ≡ run_length r → run_at r n ≡ r
unfolding run_at
cut-whole r n is = let none : run_length r - n ≡ 0 = omega (arith, is) in ap (λ k. drop_newest k r) none

-- the new run extends the old one: it is at least as long, and has the same prefixes up to the old length
pub record Longer (old new : Run) : Type 0 where
  -- it has no fewer entries
  pub later : run_length old ≤ run_length new
  -- both runs have the same prefix at each instant up to the old length
  pub same : (n : ℕ) → n ≤ run_length old → run_at new n ≡ run_at old n

Longer-extended : (r : Run) (request : Request) (es : List Entry) → count_by is_stable_entry es ≡ length (writers_of request es) → Longer r (extend_run r request es)
unfolding run_at
Longer-extended r request es written = grind (arith, length-pushed es r.recording.past, shortened-extended)

-- a legal step extends the run
pub Longer-step : (old new : Run) (request : Request) (reply : Reply) → Steps old request reply new → Longer old new
Longer-step old new request reply step = rw step.grown (Longer-extended old request step.appended (written-step old request reply step.appended step.legal))

since-extended : (r : Run) (request : Request) (es : List Entry) → entries_since (run_length r) (extend_run r request es) ≡ es
since-extended r request es =
    grind (arith, length-pushed es r.recording.past, take-pushed es r.recording.past 0, append-nil (reverse es), reverse-reverse es)

-- `IsCallStep` holds between a run and its legal extension
pub IsStep-extended : (r : Run) (request : Request) (reply : Reply) (es : List Entry) → LegalStep r request reply es → IsCallStep r request reply (extend_run r request es)
IsStep-extended r request reply es legal = grind (arith, since-extended r request es)

-- a protocol step is an `IsCallStep`, with the entries since the old run
pub IsStep-step : (old new : Run) (request : Request) (reply : Reply) → Steps old request reply new → IsCallStep old request reply new
IsStep-step old new request reply step = rw step.grown (IsStep-extended old request reply step.appended step.legal)
