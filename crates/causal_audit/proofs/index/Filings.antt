-- The lists of positions of an index, with one more position and one more entry.
use Rattle.std.proofs.lemmas.Grind.{common_steps}
use Rattle.causal_audit.proofs.Common.{ℕ, nat_tests, ◌≡◌, ◌≢◌, ◌+◌, ◌<◌, ◌≤◌, inl, inr, true, false, List, [], ◌∷◌, ◌++◌, length, Option, Some, None, refl, sym, subst, ◌∙◌, arith, Bool, ◌⊎◌, Contains, ◌==◌, option_map_or, All, get_or-eq_default, cases_lt, false≢true, cond-true, cond-false, false_from_ne_true, eqb-true, eq-eqb, ne_eqb, or_cases, or_left, or_right, get_or-set_same, get_or-set_other, get_or_past, All-push, All-set, All-get_or, All-weaker, Contains-append_left, Contains-push, Contains-push_cases, IsNonDecreasingBy-push, Entry, list_has, nat_cmp, FinSet, contains, empty, remove, contains-empty, IsNonDecreasing, Crash, Det, same_det}
use Rattle.causal_audit.specs.Inside.Index.Lists.{Ascends, list_at, with_added, AreMentions, AreMentionsWith, mentions_of, AreTransitionsOf, IsFirstCrash, restarts_or_crashes}
use Rattle.causal_audit.specs.Inside.PositionLists.{HasNoneUntil}
use Rattle.causal_audit.specs.Inside.SafetyScan.Persistence.{restarts_one, CrashesNone, RestartsNone}
use Rattle.causal_audit.proofs.group.GroupReach.{left_out}
use Rattle.causal_audit.proofs.Steps.{entry_cases}
use Rattle.causal_audit.proofs.index.Receivers.{newest_entry, older_entry}
use Rattle.causal_trace.specs.Past.{mentioned_dets}
use Rattle.std.proofs.lemmas.Bool.{lt-ltb}
use Rattle.std.proofs.lemmas.List.{length-set}
use Rattle.causal_trace.specs.Numbers.{number_of}
use Rattle.causal_trace.proofs.Lemmas.DeliveryNumbers.{number_below, found_below, numbers_apart}
use Rattle.causal_name.proofs.Lemmas.DetOrder.{same_is}
use Rattle.causal_trace.proofs.Lemmas.DeliveredDets.{has_more}

-- ==== the lists of positions, with one more position and one more entry

-- ---- a list with one more position

pub ascends_weaker : (low high : ℕ) (list : List ℕ) → low ≤ high → Ascends low list → Ascends high list
ascends_weaker low high list more a = grind (arith, All-weaker)

ascends_push : (low high v : ℕ) (list : List ℕ) → low ≤ v + 1 → v < high → Ascends low list → Ascends high (list ++ v ∷ [])
ascends_push low high v list few some a = grind (arith, common_steps, IsNonDecreasingBy-push, All-push, All-weaker)

pub ascend_weaker : (low high : ℕ) (lists : List (List ℕ)) → low ≤ high → All (Ascends low) lists → All (Ascends high) lists
ascend_weaker low high lists more all = All-weaker (Ascends low) (Ascends high) (λ list. ascends_weaker low high list more) lists all

-- ---- lists with one more position in one of them

module _ (lists : List (List ℕ)) (m v : ℕ) (there : m < length lists) where
  added_here : list_at (with_added lists m v) m ≡ list_at lists m ++ v ∷ []
  added_here = get_or-set_same lists m (list_at lists m ++ v ∷ []) [] there

  added_other : (j : ℕ) → j ≢ m → list_at (with_added lists m v) j ≡ list_at lists j
  added_other j apart = get_or-set_other lists m j (list_at lists m ++ v ∷ []) [] apart

  pub added_has : Contains (list_at (with_added lists m v) m) v
  added_has = subst (λ list. Contains list v) (sym added_here) (Contains-push (list_at lists m) v)

  pub added_keeps : (j w : ℕ) → Contains (list_at lists j) w → Contains (list_at (with_added lists m v) j) w
  added_keeps j w list_has = grind (arith, common_steps, added_here, Contains-append_left, added_other)

  pub added_cases : (j w : ℕ) → Contains (list_at (with_added lists m v) j) w → Contains (list_at lists j) w ⊎ ((j ≡ m) × (v ≡ w))
  added_cases j w list_has = grind (arith, common_steps, Contains-push_cases, added_here, added_other)

  pub added_ascend : (low high : ℕ) → low ≤ v + 1 → v < high → All (Ascends low) lists → All (Ascends high) (with_added lists m v)
  added_ascend low high few some all =
      All-set (Ascends high) lists m (list_at lists m ++ v ∷ []) (ascends_push low high v (list_at lists m) few some (All-get_or (Ascends low) lists m [] there all)) (ascend_weaker low high lists (omega (arith, few, some)) all)

-- ---- empty lists

pub empty_ascend : (lists : List (List ℕ)) → All (λ list. list ≡ []) lists → All (Ascends 0) lists
empty_ascend lists all = All-weaker (λ list. list ≡ []) (Ascends 0) (λ list is. subst (Ascends 0) (sym is) (record { ascending = λ i j d low high. absurd (omega (arith, high)); below = λ i d low. absurd (omega (arith, low)) })) lists all

pub nothing_in : (lists : List (List ℕ)) → All (λ list. list ≡ []) lists → (m v : ℕ) → Contains (list_at lists m) v → ⊥
nothing_in lists all m v list_has = grind (arith, get_or-eq_default)

-- ==== the lists of the crashes of each process, and of its restarts

-- ---- one more entry

module _ (restarts : Bool) (e : Entry) (past : List Entry) (lists : List (List ℕ)) (are : AreTransitionsOf restarts past lists) where
  -- an entry that crashes or restarts no process
  pub turns_same : ((p : ℕ) → restarts_or_crashes restarts p e ≡ false) → AreTransitionsOf restarts (e ∷ past) lists
  turns_same none = record {
    ascend = ascend_weaker _ _ lists (omega arith) are.ascend;
    only = λ p v listed. let was = are.only p v listed in (was.0, older_entry e past v was.0 was.1, was.2);
    all = λ p v x at absent. grind (arith, entry_cases e past v x at);
  }

  -- an entry that crashes or restarts this process
  pub turns_more : (q : ℕ) → ((p : ℕ) → restarts_or_crashes restarts p e ≡ (q == p)) → q < length lists → AreTransitionsOf restarts (e ∷ past) (with_added lists q (length past))
  turns_more q of there = record {
    ascend = added_ascend lists q (length past) there _ _ (omega arith) (omega arith) are.ascend;
    only = λ p v listed. grind (arith, added_cases lists q (length past) there p v listed, are.only p v, older_entry, newest_entry, of p, eq-eqb q p);
    all = λ p v x at absent. grind (arith, entry_cases e past v x at, are.all p v x, added_keeps lists q (length past) there p v, added_has lists q (length past) there, of p, ne_eqb q p);
  }

-- ---- before the first entry

-- empty lists are correct for no entries
pub turns_of_none : (restarts : Bool) (lists : List (List ℕ)) → All (λ list. list ≡ []) lists → AreTransitionsOf restarts [] lists
turns_of_none restarts lists all = grind (arith, common_steps, empty_ascend, nothing_in)

-- the lists ascend
pub lists_ascend : (bound : ℕ) (lists : List (List ℕ)) → All (Ascends bound) lists → All IsNonDecreasing lists
lists_ascend bound lists ascend = All-weaker (Ascends bound) IsNonDecreasing (λ list a. a.ascending) lists ascend

-- ---- the first crash

-- the first position after k in the list of a process is its first crash after k
pub first_crash_is : (past : List Entry) (lists : List (List ℕ)) (p k end c : ℕ) → AreTransitionsOf false past lists → k + 1 ≤ c → c ≤ end → HasNoneUntil (list_at lists p) (k + 1) c → (c < end → Contains (list_at lists p) c) → IsFirstCrash past p k end c
first_crash_is past lists p k end c are after within none found = record {
  within = within;
  after = omega (arith, after);
  found = λ early. grind (arith, are.only p c (found early), eqb-true);
  none = λ v above below of. false≢true (sym (are.all p v (Crash of.0) of.1 (none v (omega (arith, above)) below)) ∙ eq-eqb of.0.0 p of.2);
}

-- ---- the least over some processes

-- no process other than the remaining ones has a position before `next`
abbrev pub RestNone : List (List ℕ) → FinSet nat_cmp → FinSet nat_cmp → ℕ → ℕ → Type 0
RestNone lists members rest from next =
    (p : ℕ) → contains members p ≡ true → contains rest p ≡ false → HasNoneUntil (list_at lists p) from next

-- after the check of one more process, whose next restart is not before `nearer`
pub rest_less : (lists : List (List ℕ)) (members rest : FinSet nat_cmp) (from next nearer p : ℕ) → nearer ≤ next → HasNoneUntil (list_at lists p) from nearer → RestNone lists members rest from next → RestNone lists members (remove rest p) from nearer
rest_less lists members rest from next nearer p low here none q member out =
    elim (left_out rest p q out) [
      | inl same ↦ subst (λ x. HasNoneUntil (list_at lists x) from nearer) (sym same) here
      | inr gone ↦ λ v late early. none q member gone v late (omega (arith, early, low))
    ]

-- an entry that restarts one of these processes restarts exactly one of them
restarted_one : (members : FinSet nat_cmp) (e : Entry) → restarts_one members e ≡ true → (p : ℕ) × (contains members p ≡ true) × (restarts_or_crashes true p e ≡ true)
restarted_one members e h = grind (arith, eq-eqb)

-- if no process remains, none of them restarts before `next`
pub none_rest : (past : List Entry) (lists : List (List ℕ)) (members : FinSet nat_cmp) (from next : ℕ) → AreTransitionsOf true past lists → RestNone lists members empty from next → RestartsNone past members from next
none_rest past lists members from next are none v e late early at =
    false_from_ne_true (restarts_one members e) (λ is.
    let one = restarted_one members e is in
    false≢true (sym (are.all one.0 v e at (none one.0 one.1 (contains-empty nat_cmp one.0) v late early)) ∙ one.2))

-- and none of them crashes before it
pub none_crashes : (past : List Entry) (lists : List (List ℕ)) (members : FinSet nat_cmp) (from next : ℕ) → AreTransitionsOf false past lists → RestNone lists members empty from next → CrashesNone past members from next
none_crashes past lists members from next are none v who late early at =
    false_from_ne_true (contains members who.0) (λ is.
    false≢true (sym (are.all who.0 v (Crash who) at (none who.0 is (contains-empty nat_cmp who.0) v late early)) ∙ eq-eqb who.0 who.0 refl))

-- ==== the lists of the entries that mention each determinant

-- ---- numbers

-- the newest among the first m deliveries is the newest up to itself
pub number_of_found : (m : ℕ) (dets : List Det) (d : Det) (j : ℕ) → number_of m dets d ≡ Some j → number_of (j + 1) dets d ≡ Some j
number_of_found m [] d j is = absurd (let x : None ≡ Some j = is in cc)
number_of_found m (x ∷ older) d j is =
    grind (arith, cond-true, lt-ltb, cond-false, found_below, number_below m older d, nat_tests, number_of_found m older d j)

-- ---- one more position in the list of a determinant

-- an element of a determinant's list remains one after an addition to some list
keeps_of : (o : Option ℕ) (lists : List (List ℕ)) (m v w : ℕ) → m < length lists → Contains (option_map_or (list_at lists) o []) w → Contains (option_map_or (list_at (with_added lists m v)) o []) w
keeps_of None lists m v w there list_has = list_has
keeps_of (Some j) lists m v w there list_has = added_keeps lists m v there j w list_has

-- an element of a determinant's list after the addition was one before, or is the added position in the changed list
cases_of : (o : Option ℕ) (lists : List (List ℕ)) (m v w : ℕ) → m < length lists → Contains (option_map_or (list_at (with_added lists m v)) o []) w → Contains (option_map_or (list_at lists) o []) w ⊎ ((o ≡ Some m) × (v ≡ w))
cases_of None lists m v w there list_has = inl list_has
cases_of (Some j) lists m v w there list_has = grind (arith, added_cases lists m v there j w list_has)

-- after one more determinant of the next entry is added, its list contains the entry's position
pub mentions_more : (past : List Entry) (dets numbers : List Det) (lists : List (List ℕ)) (det : Det) (m : ℕ) → number_of (length lists) numbers det ≡ Some m → m < length lists → AreMentionsWith past dets numbers lists → AreMentionsWith past (dets ++ det ∷ []) numbers (with_added lists m (length past))
mentions_more past dets numbers lists det m at there are =
    record {
      ascend = added_ascend lists m (length past) there _ _ (omega arith) (omega arith) are.ascend;
      mentioned = λ d v e is unlisted. are.mentioned d v e is (λ listed. unlisted (kept d v listed));
      noted = λ d listed. grind (arith, or_cases (list_has dets d) (same_det d det), has_more dets det d, kept d (length past), are.noted d, length-set, same_is d det, added_has lists m (length past) there);
      only = λ d v listed. grind (arith, cases_of (number_of (length lists) numbers d) lists m (length past) v there (rw length-set at listed), are.only d v, has_more dets det d, or_left, or_right, numbers_apart (length lists) numbers d det m);
      owned = λ i v d listed own.
          grind (arith, length-set, added_cases lists m (length past) there i v listed, are.owned i v d, numbers_apart (m + 1) numbers d det m, number_of_found (length lists) numbers det m at, same_is d det);
    }
  where
    kept : (d : Det) (v : ℕ) → Contains (mentions_of numbers lists d) v → Contains (mentions_of numbers (with_added lists m (length past)) d) v
    kept d v listed = rw length-set (keeps_of (number_of (length lists) numbers d) lists m (length past) v there listed)

-- ---- before the first entry

-- empty lists are correct for no entries
pub mentions_of_none : (delivered : List Det) (lists : List (List ℕ)) → All (λ list. list ≡ []) lists → AreMentions [] delivered lists
mentions_of_none delivered lists all =
    record {
      ascend = empty_ascend lists all;
      mentioned = λ d v e at. absurd (let x : None ≡ Some e = at in cc);
      only = λ d v listed. absurd (none_of (number_of (length lists) delivered d) v listed);
      owned = λ i v d listed. absurd (nothing_in lists all i v listed);
    }
  where
    none_of : (o : Option ℕ) (v : ℕ) → Contains (option_map_or (list_at lists) o []) v → ⊥
    none_of None v listed = omega (arith, listed.1)
    none_of (Some m) v listed = nothing_in lists all m v listed

-- ---- one more entry

-- before the determinants of the next entry are added, the lists are correct for the run
pub mentions_begun : (past : List Entry) (numbers : List Det) (lists : List (List ℕ)) → AreMentions past numbers lists → AreMentionsWith past [] numbers lists
mentions_begun past numbers lists are =
    let ascend : All (Ascends (length past + 1)) lists = ascend_weaker _ _ lists (omega arith) are.ascend in
    grind (arith, ascend, false≢true)

-- after all of them are added, the lists are correct for the run with this entry
pub mentions_done : (e : Entry) (past : List Entry) (numbers : List Det) (lists : List (List ℕ)) → AreMentionsWith past (mentioned_dets e) numbers lists → AreMentions (e ∷ past) numbers lists
mentions_done e past numbers lists are = record {
  ascend = ascend_weaker _ _ lists (omega arith) are.ascend;
  mentioned = λ d v x at unlisted. grind (arith, cond-true, cond-false);
  only = λ d v listed. elim (are.only d v listed) [
    | inl before ↦ (before.0, older_entry e past v before.0 before.1, before.2)
    | inr now ↦ (e, newest_entry e past v now.0, now.1)
  ];
  owned = are.owned;
}

-- the positions of the entries that mention a determinant ascend
pub mentions_ascend : (past : List Entry) (numbers : List Det) (lists : List (List ℕ)) → AreMentions past numbers lists → (d : Det) → IsNonDecreasing (mentions_of numbers lists d)
mentions_ascend past numbers lists are d = list_of (number_of (length lists) numbers d)
  where
    list_of : (o : Option ℕ) → IsNonDecreasing (option_map_or (list_at lists) o [])
    list_of None = λ i j x low high. absurd (omega (arith, high))
    list_of (Some m) = grind (arith, cases_lt m (length lists), are.ascend m [], get_or_past lists m [])
