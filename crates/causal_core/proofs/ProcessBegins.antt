-- The processes of a core begin.
use Rattle.std.proofs.Common.{ℕ, zero, suc, ◌≡◌, ◌+◌, ◌-◌, ◌<◌, ◌≤◌, Bool, true, List, [], ◌∷◌, ◌++◌, length, map, replicate, Option, Some, is_some, refl, sym, ap, subst, ◌∙◌, arith, slice_set, length-append}
use Rattle.std.specs.List.{list_all}
use Rattle.std.specs.FinMap as fin
use Rattle.std.proofs.lemmas.List.{append_assoc, length-map, length-replicate, get_or-replicate, map_push, set_at}
use Rattle.std.proofs.lemmas.Option.{slice_get-get_or}
use Rattle.causal_name.specs.declared.Pid.{Pid}
use Rattle.causal_name.specs.declared.Det.{Det}
use Rattle.causal_process.specs.declared.message.Input.{Input}
use Rattle.causal_process.specs.declared.message.Outgoing.{Outgoing}
use Rattle.causal_log.specs.Logs.{LogMap, batch_items}
use Rattle.causal_log.specs.Stores.{DetSet, set_has}
use Rattle.causal_trace.specs.declared.entry.Entry.{Entry}
use Rattle.causal_trace.specs.Limits.{IsProcessCount}
use Rattle.causal_trace.specs.Past.{is_stable}
use Rattle.causal_protocol.specs.Memory.{Memories, new_memory, present_at}
use Rattle.causal_protocol.specs.Run.{Run, memories, memories_of}
use Rattle.causal_protocol.specs.Runs.{HaveBegunBelow}
use Rattle.causal_protocol.specs.Steps.{append_all, sends_of}
use Rattle.causal_protocol.proofs.Lemmas.StepAppends.{length-pushed}
use Rattle.causal_core.specs.Boxes.{BoxesBegan}
use Rattle.causal_core.specs.Inside.MemoryInvariant.{MatchesEntriesAt, IsRunData}
use Rattle.causal_core.specs.Inside.Begins.{CanBegin, Begins, HaveBegun}
use Rattle.causal_core.specs.Starts.{with_beginning, with_beginnings, opening}
use Rattle.causal_core.specs.View.{RunDataState, receivers, sent_bodies}
use Rattle.causal_core.specs.Inside.Memories.{keep_all}
use Rattle.causal_core.proofs.RuntimeSend.{set_same, memories_sends, are_sends, receivers_long, addressed_few, sends_length}
use Rattle.causal_core.proofs.BoxLemmas.{Began-push}
use Rattle.causal_core.proofs.RunAfterStep.{sends_up, sends_unstable}
use Rattle.causal_core.proofs.MemoriesFit.{all_from}
use Rattle.causal_log.proofs.Lemmas.LogLists.{keys_logged}

-- an empty log passes each test
pub none_pass : (P : Det → Bool) (log : LogMap) → log ≡ fin.empty → list_all P (fin.keys log) ≡ true
none_pass P log is = all_from P (fin.keys log) (λ d there. grind (arith, is, there, keys_logged log d, fin.get-empty))

at_replicate : {X : Type 0} (n p : ℕ) (x : Option X) → p < n → present_at (replicate n x) p ≡ x
at_replicate n p x h = grind (arith, slice_get-get_or (replicate n x) p x, get_or-replicate, length-replicate)

-- the memories of processes before they begin match a run in which nothing has happened
pub fresh_held : (n f : ℕ) (ms : Memories) → IsProcessCount n → ms ≡ replicate n (Some (new_memory fin.empty)) → IsRunData (opening n f []) ms
unfolding memories
fresh_held n f ms count is = record {
  same = is;
  fit = record {
    count = ap length is ∙ length-replicate n (Some (new_memory fin.empty));
    each = λ p h. subst (MatchesEntriesAt [] p) (sym (ap (λ xs. present_at xs p) is ∙ at_replicate n p (Some (new_memory fin.empty)) h)) (grind (arith, none_pass));
  };
  formed = record { count = count; accepted = tt };
}

-- the memories of a run in which a process begins
module _ (r : Run) (ms : Memories) (run_data : IsRunData r ms) (p : Pid) (may : CanBegin p.0 r) where
  pub begun_memories : (tos : List Pid) → slice_set ms p.0 (Some (keep_all (length r.recording.past) (batch_items r.faults fin.empty) tos (new_memory fin.empty))) ≡ memories r.recording.processes r.faults r.writers (append_all (sends_of p 0 tos) r.recording.past)
  begun_memories tos =
      memories_sends r.recording.processes r.faults r.writers r.recording.past p 0 tos ms (new_memory fin.empty)
      (set_same ms p.0 (Some (new_memory fin.empty)) (ap (λ xs. present_at xs p.0) run_data.same ∙ may.fresh_yet) ∙ run_data.same)
      (let process = may.process in let count = run_data.fit.count in omega (arith, process, count))

-- one more process begins
beginnings_last : (n p : ℕ) (sends : List (List Outgoing)) (sent : List Outgoing) (past : List Entry) → with_beginnings n p (sends ++ sent ∷ []) past ≡ with_beginning n (p + length sends) sent (with_beginnings n p sends past)
unfolding with_beginnings
beginnings_last n p [] sent past = ap (λ k. with_beginning n k sent past) (omega arith)
beginnings_last n p (s ∷ sends) sent past = grind (arith, beginnings_last n (p + 1) sends sent (with_beginning n p s past))

-- it records at most eight entries
beginning_short : (n p : ℕ) (sent : List Outgoing) (past : List Entry) → length sent ≤ 8 → length (with_beginning n p sent past) ≤ length past + 8
beginning_short n p sent past few = grind (arith, length-pushed, sends_length, receivers_long, addressed_few)

began_sends : {B : Type 0} (answers : B → List Input → List (List Outgoing)) (boxes : List B) (sends : List (List Outgoing)) (slots : List (Option B)) → BoxesBegan answers boxes sends slots → (length sends ≡ length boxes) × (length slots ≡ length boxes)
began_sends answers [] sends slots h = grind arith
began_sends answers (each ∷ others) sends slots h = grind (arith, began_sends answers others)

module _ {B : Type 0} (answers : B → List Input → List (List Outgoing)) where
  -- before any box began
  pub none_begun : (n f : ℕ) (d : RunDataState) (slots : List (Option B)) → slots ≡ [] → d.run ≡ opening n f [] → d.bodies ≡ replicate n [] → HaveBegun answers n f [] slots d
  unfolding with_beginnings memories
  none_begun n f d slots empty run bodies = grind (arith, at_replicate)

  -- one more box begins
  module _ (n f : ℕ) (boxes : List B) (slots next : List (Option B)) (was is : RunDataState) (b : B) (h : HaveBegun answers n f boxes slots was) (one : Begins answers b slots next was is) (low : length boxes < n) where
    longer : length (boxes ++ b ∷ []) ≡ suc (length boxes)
    longer = let l = length-append boxes (b ∷ []) in omega (arith, l)

    many : (length h.sends ≡ length boxes) × (length slots ≡ length boxes)
    many = began_sends answers boxes h.sends slots h.began

    sends : List (List Outgoing)
    sends = h.sends ++ one.sends ∷ []

    past_is : is.run.recording.past ≡ with_beginning n (length boxes) one.sends was.run.recording.past
    past_is = ap (λ r. r.recording.past) one.told.run ∙ (λ i. with_beginning (h.run i).recording.processes (many.1 i) one.sends was.run.recording.past)

    bodies_are : is.bodies ≡ map (sent_bodies n) sends ++ replicate (n - length (boxes ++ b ∷ [])) []
    unfolding sends
    bodies_are =
        let y = sent_bodies n one.sends in
        let rest : List (List (List ℕ)) = replicate (n - suc (length boxes)) [] in
        let left : replicate (n - length boxes) [] ≡ [] ∷ rest = ap (λ k. replicate k []) (let l = low in let e : n - length boxes ≡ suc (n - suc (length boxes)) = omega (arith, l) in e) in
        one.told.bodies
        ∙ (λ i. slice_set (h.bodies i) (length slots) (sent_bodies (h.run i).recording.processes one.sends))
        ∙ ap (λ xs. slice_set (map (sent_bodies n) h.sends ++ xs) (length slots) y) left
        ∙ set_at (map (sent_bodies n) h.sends) [] rest y (length slots) (length-map h.sends (sent_bodies n) ∙ many.0 ∙ sym many.1)
        ∙ sym (append_assoc (map (sent_bodies n) h.sends) (y ∷ []) rest)
        ∙ ap (λ xs. xs ++ rest) (sym (map_push (sent_bodies n) h.sends one.sends))
        ∙ ap (λ k. map (sent_bodies n) (h.sends ++ one.sends ∷ []) ++ replicate (n - k) []) (sym longer)

    pub more_begun : HaveBegun answers n f (boxes ++ b ∷ []) next is
    unfolding sends
    more_begun = record {
      sends = sends;
      began = subst (BoxesBegan answers (boxes ++ b ∷ []) (h.sends ++ one.sends ∷ [])) (sym one.slots) (Began-push answers boxes h.sends slots b one.sends one.slot h.began one.box);
      run = let m = many in grind (arith, one.told.run, h.run, m, beginnings_last n 0 h.sends one.sends []);
      bodies = bodies_are;
      fresh_yet = λ q over high. let l = longer in let m = many in grind (arith, one.told.others q, h.fresh_yet q, l, m, over);
      short = let s = beginning_short n (length boxes) one.sends was.run.recording.past one.few in let p = past_is in let l = longer in grind (arith, s, p, l, h.short);
      opens =
          subst (λ k. HaveBegunBelow n k is.run.recording.past) (sym longer)
          (was.run.recording.past, length (receivers n one.sends), sends_of (record { 0 = length boxes }) 0 (receivers n one.sends), h.opens, are_sends n (record { 0 = length boxes }) 0 _ one.sends refl one.few, past_is);
    }

beginnings_up : (n f p : ℕ) (sends : List (List Outgoing)) (past : List Entry) → map is_some (memories n f [] (with_beginnings n p sends past)) ≡ map is_some (memories n f [] past)
unfolding with_beginnings
beginnings_up n f p [] past = refl
beginnings_up n f p (s ∷ sends) past = beginnings_up n f (p + 1) sends (with_beginning n p s past) ∙ sends_up n f [] (record { 0 = p }) 0 (receivers n s) past

up_first : (n : ℕ) → map is_some (replicate n (Some (new_memory fin.empty))) ≡ replicate n true
up_first zero = refl
up_first (suc n) = ap (λ bits. true ∷ bits) (up_first n)

-- after all boxes began, each process is up
pub all_up : (n f : ℕ) (sends : List (List Outgoing)) (r : Run) → r ≡ opening n f (with_beginnings n 0 sends []) → map is_some (memories_of r) ≡ replicate n true
unfolding memories
all_up n f sends r is = ap (λ x. map is_some (memories_of x)) is ∙ beginnings_up n f 0 sends [] ∙ up_first n

beginnings_unstable : (n p : ℕ) (sends : List (List Outgoing)) (past : List Entry) (d : Det) → is_stable (with_beginnings n p sends past) d ≡ is_stable past d
unfolding with_beginnings
beginnings_unstable n p [] past d = refl
beginnings_unstable n p (s ∷ sends) past d = beginnings_unstable n (p + 1) sends (with_beginning n p s past) d ∙ sends_unstable (record { 0 = p }) 0 (receivers n s) past d

-- nothing is stable, so an empty store contains exactly that
pub none_stored : (n f : ℕ) (sends : List (List Outgoing)) (r : Run) (s : DetSet) → r ≡ opening n f (with_beginnings n 0 sends []) → s ≡ fin.empty → (d : Det) → set_has s d ≡ is_stable r.recording.past d
none_stored n f sends r s is none d = grind (arith, fin.get-empty, beginnings_unstable)

-- the next box can begin
pub may_begin : {B : Type 0} (answers : B → List Input → List (List Outgoing)) (n f : ℕ) (boxes : List B) (slots : List (Option B)) (d : RunDataState) → HaveBegun answers n f boxes slots d → length boxes < n → n ≤ 256 → CanBegin (length slots) d.run
may_begin answers n f boxes slots d h low few = grind (arith, began_sends answers boxes h.sends slots h.began)
