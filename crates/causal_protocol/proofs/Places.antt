-- What a list of memories has after one of them is changed.
use Rattle.std.proofs.Common.{ℕ, ◌≡◌, ◌<◌, true, false, cond, List, [], ◌∷◌, ◌++◌, length, get_or, replicate, slice_get, slice_set, Option, Some, None, is_none, sym, ap, arith}
use Rattle.std.specs.Prelude.{◌==◌, ◌⊎◌}
use Rattle.std.specs.Option.{option_map, option_map_or, option_and_then}
use Rattle.std.proofs.lemmas.List.{set_past, length-set, get_or-set_same, get_or-set_other, get_or_append_left, get_or_push, get_or-replicate, length-replicate, length_push}
use Rattle.std.proofs.lemmas.Option.{slice_get-get_or, slice_get_cases, slice_get_past}
use Rattle.std.proofs.lemmas.Bool.{cases_lt}
use Rattle.std.proofs.lemmas.Bool.Decides.{eqb_tells}
use Rattle.std.specs.FinMap as fin
use Rattle.causal_log.specs.Logs.{LogMap}
use Rattle.causal_protocol.specs.Memory.{SentMessage, Memory, Memories, present_at, update_at, new_memory}
use Rattle.causal_protocol.specs.MemoryQueries.{log_at, messages}

-- setting one element leaves the others unchanged
pub set_other : {X : Type 0} (xs : List X) (w : ℕ) (x : X) (p : ℕ) → (w ≡ p → ⊥) → slice_get (slice_set xs w x) p ≡ slice_get xs p
set_other xs w x p other =
    let same : get_or (slice_set xs w x) p x ≡ get_or xs p x = get_or-set_other xs w p x x (λ e. other (sym e)) in
    grind (arith, cases_lt p (length xs), slice_get-get_or (slice_set xs w x) p x, slice_get-get_or xs p x, slice_get_past, length-set xs w x)

pub set_elsewhere : {X : Type 0} (xs : List (Option X)) (w : ℕ) (x : Option X) (p : ℕ) → (w ≡ p → ⊥) → present_at (slice_set xs w x) p ≡ present_at xs p
set_elsewhere xs w x p other = ap (option_and_then (λ z. z)) (set_other xs w x p other)

-- after one element is set, a look-up returns the new one at its index and the old ones elsewhere
pub at_set : {X : Type 0} (xs : List (Option X)) (w : ℕ) (x : Option X) (p : ℕ) → w < length xs → present_at (slice_set xs w x) p ≡ cond (w == p) x (present_at xs p)
at_set xs w x p low = grind (arith, eqb_tells w p, slice_get_cases (slice_set xs w x) w, length-set xs w x, get_or-set_same xs w x, set_other xs w x p)

-- the memory at an index after it is changed or set
pub put_here : (ms : Memories) (w : ℕ) (x : Option Memory) → ((present_at (slice_set ms w x) w ≡ None) × (present_at ms w ≡ None)) ⊎ (present_at (slice_set ms w x) w ≡ x)
put_here ms w x = grind (arith, cases_lt w (length ms), at_set ms w x w, eqb_tells w w, set_past ms w x, slice_get_past ms w)

pub changed_here : (g : Memory → Memory) (ms : Memories) (w p : ℕ) → w ≡ p → present_at (update_at g ms w) p ≡ option_map g (present_at ms p)
changed_here g ms w p is = grind (arith, put_here ms w (option_map g (present_at ms w)))

-- an index at which there is a value is within the list
pub at_within : {X : Type 0} (xs : List (Option X)) (p : ℕ) (x : X) → present_at xs p ≡ Some x → p < length xs
at_within xs p x h = grind (arith, slice_get_cases xs p)

abbrev pub log_in : Option Memory → LogMap
log_in o = option_map_or (λ m. m.log) o fin.empty

abbrev pub sent_in : Option Memory → List SentMessage
sent_in o = option_map_or (λ m. m.sent) o []

-- the log of an up process is that of its memory
pub log_here : (ms : Memories) (p : ℕ) (m : Memory) → present_at ms p ≡ Some m → log_at ms p ≡ m.log
unfolding log_at
log_here ms p m here = ap (λ o. option_map_or (λ m. m.log) o fin.empty) here

pub messages_here : (ms : Memories) (p : ℕ) (m : Memory) → present_at ms p ≡ Some m → messages ms p ≡ m.sent
unfolding messages
messages_here ms p m here = ap (λ o. option_map_or (λ m. m.sent) o []) here

-- the memories of processes that have just begun
abbrev pub beginners : ℕ → Memories
beginners n = replicate n (Some (new_memory fin.empty))

pub at_first : (n p : ℕ) → p < n → present_at (beginners n) p ≡ Some (new_memory fin.empty)
at_first n p low = grind (arith, slice_get_cases (beginners n) p, length-replicate n (Some (new_memory fin.empty)), get_or-replicate n p (Some (new_memory fin.empty)))

-- they have empty logs and no messages
pub log_first : (n p : ℕ) → log_at (beginners n) p ≡ fin.empty
unfolding log_at
log_first n p = grind (arith, cases_lt p n, at_first n p, slice_get_past (beginners n) p, length-replicate n (Some (new_memory fin.empty)))

pub messages_first : (n p : ℕ) → messages (beginners n) p ≡ []
unfolding messages
messages_first n p = grind (arith, cases_lt p n, at_first n p, slice_get_past (beginners n) p, length-replicate n (Some (new_memory fin.empty)))

-- after a message is appended, each message is an old one or the new one
pub kept_more : (xs : List SentMessage) (x k : SentMessage) (i : ℕ) → slice_get (xs ++ x ∷ []) i ≡ Some k → (slice_get xs i ≡ Some k) ⊎ ((i ≡ length xs) × (k ≡ x))
kept_more xs x k i h =
    let more = xs ++ x ∷ [] in
    grind (arith, cases_lt i (length xs), slice_get-get_or more i x, slice_get-get_or xs i x, slice_get_past more i, length_push xs x, get_or_append_left xs (x ∷ []) x i, get_or_push xs x x i)

-- the log and messages of a process after one memory is set, by cases
pub set_cases : (ms : Memories) (w : ℕ) (x : Option Memory) (p : ℕ) → w < length ms
    → (((w == p) ≡ true) × (w ≡ p) × (log_at (slice_set ms w x) p ≡ log_in x) × (messages (slice_set ms w x) p ≡ sent_in x))
    ⊎ (((w == p) ≡ false) × (log_at (slice_set ms w x) p ≡ log_at ms p) × (messages (slice_set ms w x) p ≡ messages ms p))
unfolding log_at messages
set_cases ms w x p low = grind (arith, eqb_tells w p, at_set ms w x p low)

-- the log and messages of a process after one memory is changed, by cases
pub changed_cases : (g : Memory → Memory) (ms : Memories) (w : ℕ) (m : Memory) → present_at ms w ≡ Some m → (p : ℕ)
    → (((w == p) ≡ true) × (w ≡ p) × (log_at (update_at g ms w) p ≡ (g m).log) × (messages (update_at g ms w) p ≡ (g m).sent) × (log_at ms p ≡ m.log) × (messages ms p ≡ m.sent))
    ⊎ (((w == p) ≡ false) × (log_at (update_at g ms w) p ≡ log_at ms p) × (messages (update_at g ms w) p ≡ messages ms p))
changed_cases g ms w m here p = grind (arith, set_cases ms w (option_map g (present_at ms w)) p, at_within ms w m here, log_here ms w m here, messages_here ms w m here)

-- changing a memory leaves the set of up processes unchanged
pub changed_state : (g : Memory → Memory) (ms : Memories) (w : ℕ) (m : Memory) → present_at ms w ≡ Some m → (p : ℕ) → is_none (present_at (update_at g ms w) p) ≡ is_none (present_at ms p)
changed_state g ms w m here p = grind (arith, at_set, at_within, eqb_tells)
