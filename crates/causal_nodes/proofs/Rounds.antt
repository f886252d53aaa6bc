-- A process crashes, begins a round, gives it up, or comes up.
use Rattle.std.proofs.Common.{ℕ, suc, ◌+◌, ◌≡◌, ◌<◌, ◌≤◌, inl, inr, Bool, true, false, cond, not, ◌&&◌, ◌||◌, nat_lt, List, ◌∷◌, Option, Some, None, refl, sym, ap, subst, ◌∙◌, arith}
use Rattle.std.specs.Prelude.{◌⊎◌, ◌==◌}
use Rattle.std.proofs.lemmas.Bool.{false≢true, both_ways, or_cases, or_left, and_left, and_parts, and_from, eqb-true, cases_lt, cases_eq, cond-true, cond-false, lt-ltb, false_from_ne_true, le-ltb}
use Rattle.causal_name.specs.declared.Pid.{Pid}
use Rattle.causal_name.specs.declared.Det.{Det}
use Rattle.causal_name.specs.Sets.{count_below}
use Rattle.causal_holders.proofs.Lemmas.MemberCounts.{count_below-same}
use Rattle.causal_trace.specs.declared.entry.Entry.TheVariants.{Crash, Restart}
use Rattle.causal_trace.specs.Past.{list_has, is_down, logs, is_stable, deliveries}
use Rattle.causal_steps.proofs.Lemmas.Reachable.{reachable_safe}
use Rattle.causal_rounds.specs.Rounds.{with_value_at, Round, number, new_round}
use Rattle.causal_rounds.proofs.Lemmas.RoundSteps.{set_at_cases, set_at_here, set_at_away, number_down, crash_number, number_risen}
use Rattle.causal_world.specs.World.{Packet, World, GatheredFrom, volatile_of}
use Rattle.causal_world.specs.Steps as world
use Rattle.causal_world.specs.Reachable.{IsReachableWorld, next_world}
use Rattle.causal_nodes.specs.Node.{UpNode, NodeRound, DownNode, Node, up_node, down_node, is_node_down}
use Rattle.causal_nodes.specs.Packets.{Sent, question_packet, WasSent, is_of_round}
use Rattle.causal_nodes.specs.NodeSteps.{with_round, fallen_node, new_node_round, up_after_restart}
use Rattle.causal_nodes.specs.Network.{Network}
use Rattle.causal_nodes.proofs.Represents.{ReplyFits, GatheringFits, UpFits, DownFits, NodeFits, Represents}
use Rattle.causal_nodes.proofs.Kept.{IsLater, IsUntouched, told_later, packets_and_one, packets_later, node_kept, node_and_one, nodes_and_one}
use Rattle.causal_nodes.proofs.Context.{not_away, floors_kept, IsWorldOf, message_older, same_is, other_is, away_or, invariant, down_of, up_in_past}
use Rattle.causal_nodes.proofs.Quiet.{gathering_of}

pub le_self : (a : ℕ) → a ≤ a
le_self a = omega arith

module _ (n f : ℕ) (net : Network) (w : World) (reach : IsReachableWorld n f w) (rep : Represents n net w) where
  pub down_is : (p : ℕ) (node : Node) → NodeFits n w net.sent p node → w.rounds.down p ≡ is_node_down node
  down_is p (up_node a) h = h.is_up
  down_is p (down_node x) h = h.is_down

  -- a process that is up has no round
  pub no_round : (p : ℕ) → w.rounds.down p ≡ false → w.rounds.rounds p ≡ None
  no_round p up = by (w.rounds.rounds p) refl
    where
      by : (o : Option Round) → w.rounds.rounds p ≡ o → w.rounds.rounds p ≡ None
      by None is = is
      by (Some r) is = absurd (both_ways (w.rounds.down p) up ((invariant n f net w reach rep).rounds.gathering_are_down p r is))

  module _ (who : Pid) (low : who.0 < n) (a : UpNode) (fits : UpFits n w who.0 a) (few : count_below n (λ q. is_node_down (net.nodes q)) < f) where
    abbrev fallen : World
    fallen = record w {
      past = Crash who ∷ w.past;
      rounds = record w.rounds { down = with_value_at w.rounds.down who.0 true };
      knows_holder = λ p d q. not (who.0 == p) && w.knows_holder p d q;
      knows_stable = λ p d. not (who.0 == p) && w.knows_stable p d;
    }

    few_down : count_below n (is_down w.past) < f
    few_down = subst (λ m. m < f) (count_below-same n (λ q. is_node_down (net.nodes q)) (is_down w.past) (λ q low_q. sym (down_is q (net.nodes q) (rep.nodes q low_q)) ∙ (invariant n f net w reach rep).down q low_q)) few

    later_fallen : IsLater w fallen
    later_fallen = record { numbers = crash_number w.rounds who.0; packets = λ i t at. at; stable = λ d h. h; stored = λ d h. h; messages = message_older (Crash who) w.past }

    pub crashes : IsWorldOf n f (record { past = Crash who ∷ net.past; nodes = with_value_at net.nodes who.0 (down_node (fallen_node a.lane)); sent = net.sent; stored = net.stored; floors = net.floors })
    crashes = (
      fallen,
      next_world w fallen reach (world.crash who low (up_in_past n f net w reach rep who.0 low fits.is_up) few_down),
      assumption (
        ap (λ t. Crash who ∷ t) rep.past,
        nodes_and_one n fallen net.sent net.nodes who.0 (down_node (fallen_node a.lane))
            (record { is_down = set_at_here w.rounds.down who.0 true; lane = fits.lane; told = λ z low_z. omega arith; round = no_round who.0 fits.is_up })
            (λ q low_q other.
            let holders : fallen.knows_holder q ≡ w.knows_holder q = λ j d h. not_away (who.0 == q) (w.knows_holder q d h) (other_is who.0 q other) j in
            let stables : fallen.knows_stable q ≡ w.knows_stable q = λ j d. not_away (who.0 == q) (w.knows_stable q d) (other_is who.0 q other) j in
            let logged : (d : Det) → logs fallen.past q d ≡ logs w.past q d = λ d. not_away (who.0 == q) (logs w.past q d) (other_is who.0 q other) in
            node_kept n w fallen later_fallen q (assumption (set_at_away w.rounds.down who.0 true q other)) net.sent (net.nodes q) (rep.nodes q low_q)),
        packets_later n w fallen later_fallen net.sent rep.packets,
      ),
    )

  module _ (me : ℕ) (low : me < n) (x : DownNode) (is : net.nodes me ≡ down_node x) where
    before : DownFits n w net.sent me x
    before = down_of n f net w reach rep me x low is

    -- the world with another round of me
    abbrev pub with_own_round : Option Round → (ℕ → Det → Bool) → World
    with_own_round o gathered = record w {
      rounds = record w.rounds { rounds = with_value_at w.rounds.rounds me o };
      gathered = gathered;
    }

    pub later_round : (o : Option Round) (gathered : ℕ → Det → Bool) → IsLater w (with_own_round o gathered)
    later_round o gathered = record { numbers = λ q. le_self (number w.rounds q); packets = λ i t at. at; stable = λ d h. h; stored = λ d h. h; messages = λ send m h. h }

    pub untouched_round : (o : Option Round) (gathered : ℕ → Det → Bool) (q : ℕ) → (q ≡ me → ⊥) → gathered q ≡ w.gathered q → IsUntouched w (with_own_round o gathered) q
    untouched_round o gathered q other same = assumption (set_at_away w.rounds.rounds me o q other)

    pub gives_up : IsWorldOf n f (record { past = net.past; nodes = with_value_at net.nodes me (down_node (fallen_node x.lane)); sent = net.sent; stored = net.stored; floors = net.floors })
    gives_up = (
      with_own_round None w.gathered,
      next_world w (with_own_round None w.gathered) reach (world.give_up me),
      assumption (
        nodes_and_one n (with_own_round None w.gathered) net.sent net.nodes me (down_node (fallen_node x.lane))
            (record { is_down = before.is_down; lane = before.lane; told = λ z low_z. omega arith; round = set_at_here w.rounds.rounds me None })
            (λ q low_q other. node_kept n w (with_own_round None w.gathered) (later_round None w.gathered) q (untouched_round None w.gathered q other refl) net.sent (net.nodes q) (rep.nodes q low_q)),
        packets_later n w (with_own_round None w.gathered) (later_round None w.gathered) net.sent rep.packets,
      ),
    )

    module _ (name : ℕ) (view : ℕ → ℕ) (own : view me ≡ x.lane + 1) (heard_of : (q : ℕ) → (q ≡ me → ⊥) → view q ≤ x.told q) (fresh : (k : Sent) → WasSent net.sent k → is_of_round k me name ≡ false) where
      -- the view of the world, which has numbers of no process too
      abbrev full_view : ℕ → ℕ
      full_view q = cond (nat_lt q n) (view q) (number w.rounds q)

      abbrev absent : ℕ → Bool
      absent q = not (nat_lt q (suc n))

      in_view : (q : ℕ) → q < n → full_view q ≡ view q
      in_view q low_q = cond-true (nat_lt q n) (view q) (number w.rounds q) (lt-ltb q n low_q)

      out_view : (q : ℕ) → n ≤ q → full_view q ≡ number w.rounds q
      out_view q high = cond-false (nat_lt q n) (view q) (number w.rounds q) (le-ltb q n high)

      own_number : view me ≡ number w.rounds me
      own_number = own ∙ ap (λ m. m + 1) (sym before.lane) ∙ sym (number_down w.rounds me before.is_down)

      view_told : (q : ℕ) → q < n → view q ≤ number w.rounds q
      view_told q low_q = grind (arith, cases_eq q me, own_number, heard_of q, before.told q low_q)

      all_told : (q : ℕ) → full_view q ≤ number w.rounds q
      all_told q = grind (arith, cases_lt q n, in_view q, out_view q, view_told q)

      gone : (q : ℕ) → suc n ≤ q → (absent q ≡ true) × (full_view q ≡ w.rounds.lane q + 1)
      gone q high = (ap not (le-ltb q (suc n) high), out_view q (omega (arith, high)) ∙ number_down w.rounds q ((invariant n f net w reach rep).absent.down q high))

      abbrev empty : ℕ → Det → Bool
      empty = with_value_at w.gathered me (λ d. false)

      abbrev begun : World
      begun = with_own_round (Some (new_round full_view absent)) empty

      nothing : (d : Det) → empty me d ≡ false
      nothing d = ap (λ (g : Det → Bool). g d) (set_at_here w.gathered me (λ d. false))

      gathering : GatheringFits n begun (question_packet me name view ∷ net.sent) me (new_node_round name view) (new_round full_view absent)
      gathering = record {
        view = λ z low_z. sym (in_view z low_z);
        heard = λ q low_q h. absurd (false≢true h);
        gathered = λ d h. absurd (false≢true h);
        holders = λ d q h. absurd (false≢true h);
        stable = λ d h. absurd (false≢true h);
        storage = λ h. absurd (false≢true h);
        told = λ d h. absurd (both_ways (empty me d) (nothing d) h);
        replies = λ k was of. elim was [
          | inl same ↦ subst (λ y. ReplyFits n begun me (new_node_round name view) (new_round full_view absent) y) same (λ z low_z. sym (in_view z low_z))
          | inr old ↦ absurd (both_ways (is_of_round k me name) (fresh k old) of)
        ];
      }

      pub begins : IsWorldOf n f (record { past = net.past; nodes = with_value_at net.nodes me (down_node (with_round x (Some (new_node_round name view)))); sent = question_packet me name view ∷ net.sent; stored = net.stored; floors = net.floors })
      begins = (
        begun,
        next_world w begun reach (world.begin me full_view absent low before.is_down (in_view me low ∙ own ∙ ap (λ m. m + 1) (sym before.lane)) all_told (λ q low_q. ap not (lt-ltb q (suc n) low_q)) gone),
        assumption (
          nodes_and_one n begun (question_packet me name view ∷ net.sent) net.nodes me (down_node (with_round x (Some (new_node_round name view))))
              (record { is_down = before.is_down; lane = before.lane; told = told_later n w begun (later_round (Some (new_round full_view absent)) empty) x.told before.told; round = (new_round full_view absent, set_at_here w.rounds.rounds me (Some (new_round full_view absent)), gathering) })
              (λ q low_q other. node_and_one n begun net.sent (question_packet me name view) q (λ round. and_left (me == q) (name == round) (other_is me q other)) (net.nodes q)
              (node_kept n w begun (later_round (Some (new_round full_view absent)) empty) q (untouched_round (Some (new_round full_view absent)) empty q other (set_at_away w.gathered me (λ d. false) q other)) net.sent (net.nodes q) (rep.nodes q low_q))),
          packets_and_one n w begun (later_round (Some (new_round full_view absent)) empty) net.sent (question_packet me name view) rep.packets (low, view_told),
        ),
      )

  module _ (me : Pid) (low : me.0 < n) (x : DownNode) (is : net.nodes me.0 ≡ down_node x) (nr : NodeRound) (has_round : x.round ≡ Some nr) (listed : List Det) (all : (q : ℕ) → q < suc n → (q ≡ me.0 → ⊥) → nr.heard q ≡ true) (lists : (d : Det) → list_has listed d ≡ nr.gathered.has d) where
    was_down : DownFits n w net.sent me.0 x
    was_down = down_of n f net w reach rep me.0 x low is

    abbrev found : (r : Round) × (w.rounds.rounds me.0 ≡ Some r) × GatheringFits n w net.sent me.0 nr r
    found = gathering_of n f net w reach rep me.0 low x is nr has_round

    abbrev r : Round
    r = found.0

    abbrev node : UpNode
    node = up_after_restart me.0 (x.lane + 1) nr

    abbrev known : ℕ → Det → ℕ → Bool
    known = with_value_at w.knows_holder me.0 node.log.holder

    abbrev marked : ℕ → Det → Bool
    marked = with_value_at w.knows_stable me.0 node.log.stable

    abbrev risen : World
    risen = record w {
      past = Restart me listed ∷ w.past;
      rounds = record {
        lane = with_value_at w.rounds.lane me.0 (w.rounds.lane me.0 + 1);
        down = with_value_at w.rounds.down me.0 false;
        floors = with_value_at w.rounds.floors me.0 r.view;
        rounds = with_value_at w.rounds.rounds me.0 None;
      };
      knows_holder = known;
      knows_stable = marked;
    }

    n_is_other : n ≡ me.0 → ⊥
    n_is_other e = omega (arith, low, e)

    storage : (r.replied n ≡ true) × ((d : Det) → w.gathered me.0 d ≡ true → nr.gathered.has d ≡ true)
    storage = found.2.storage (all n (omega arith) n_is_other)

    all_replied : (q : ℕ) → q < suc n → (q ≡ me.0 → ⊥) → r.replied q ≡ true
    all_replied q low_q other = grind (arith, cases_lt q n, found.2.heard q, all q low_q other, storage.0, low_q)

    logs_nothing : (d : Det) → logs w.past me.0 d ≡ false
    logs_nothing d = false_from_ne_true (logs w.past me.0 d) (λ h. both_ways (w.rounds.down me.0) (((invariant n f net w reach rep).dets d).logs_up me.0 (or_left _ _ (and_from (nat_lt me.0 n) (logs w.past me.0 d) (lt-ltb me.0 n low) h))) was_down.is_down)

    knows_nothing : (d : Det) (q : ℕ) → w.knows_holder me.0 d q ≡ true → ⊥
    knows_nothing d q h = both_ways (logs w.past me.0 d) (logs_nothing d) ((reachable_safe n f w.past (volatile_of n w) (invariant n f net w reach rep).reached).facts.known_logged me.0 d q low h).1

    from : (d : Det) → list_has listed d ≡ true → (w.gathered me.0 d ≡ true) ⊎ (GatheredFrom w me.0 r d ⊎ (is_stable w.past d ≡ true))
    from d h = inr (found.2.gathered d (sym (lists d) ∙ h))

    new_known : (y : ℕ) (d : Det) (q : ℕ) → known y d q ≡ true
        → (w.knows_holder y d q ≡ true)
        ⊎ ((me.0 ≡ y) × (list_has listed d ≡ true) × ((q ≡ me.0) ⊎ ((i : ℕ) × (p : Packet) × (w.packets i ≡ Some p) × (p.to ≡ me.0) × (r.replied p.parcel.from ≡ true) × (r.view p.parcel.from ≤ p.lane) × (p.parcel.names_holder d q ≡ true))))
    new_known y d q h = elim (set_at_cases w.knows_holder me.0 node.log.holder y) [
      | inl here ↦ elim (or_cases (nr.gathered.has d && q == me.0) (nr.gathered.holder d q) (sym (ap (λ (g : Det → ℕ → Bool). g d q) here.1) ∙ h)) [
        | inl both ↦ let parts = and_parts (nr.gathered.has d) (q == me.0) both in inr (sym here.0, lists d ∙ parts.0, inl (eqb-true q me.0 parts.1))
        | inr old ↦ let o = found.2.holders d q old in inr (sym here.0, lists d ∙ o.0, inr o.1)
      ]
      | inr other ↦ inl (sym (ap (λ (g : Det → ℕ → Bool). g d q) other.1) ∙ h)
    ]

    itself : (d : Det) → list_has listed d ≡ true → known me.0 d me.0 ≡ true
    itself d h = ap (λ (g : Det → ℕ → Bool). g d me.0) (set_at_here w.knows_holder me.0 node.log.holder) ∙ or_left (nr.gathered.has d && me.0 == me.0) (nr.gathered.holder d me.0) (and_from (nr.gathered.has d) (me.0 == me.0) (sym (lists d) ∙ h) (same_is me.0))

    keeps : (y : ℕ) (d : Det) (q : ℕ) → w.knows_holder y d q ≡ true → known y d q ≡ true
    keeps y d q h = grind (arith, set_at_cases w.knows_holder me.0 node.log.holder y, knows_nothing d q, h)

    marks : (y : ℕ) (d : Det) → marked y d ≡ true → (w.knows_stable y d ≡ true) ⊎ (is_stable w.past d ≡ true)
    marks y d h = grind (arith, set_at_cases w.knows_stable me.0 node.log.stable y, found.2.stable d, h)

    risen_numbers : (q : ℕ) → number w.rounds q ≤ number risen.rounds q
    risen_numbers q = let same = number_risen w.rounds risen.rounds me.0 refl refl was_down.is_down q in omega (arith, same)

    later_risen : IsLater w risen
    later_risen = record { numbers = risen_numbers; packets = λ i t at. at; stable = λ d h. h; stored = λ d h. h; messages = message_older (Restart me listed) w.past }

    own_log : (b l y has : Bool) → b ≡ true → y ≡ false → l ≡ has → has ≡ ((b && l) || y)
    own_log b l y has hb hy hl = grind (arith, hb, hy, hl)

    mine : UpFits n risen me.0 node
    mine = record {
      is_up = set_at_here w.rounds.down me.0 false;
      lane = set_at_here w.rounds.lane me.0 (w.rounds.lane me.0 + 1) ∙ ap (λ m. m + 1) was_down.lane;
      log = record {
        has = λ d. own_log (me.0 == me.0) (list_has listed d) (logs w.past me.0 d) (nr.gathered.has d) (same_is me.0) (logs_nothing d) (lists d);
        holder = λ d q. sym (ap (λ (g : Det → ℕ → Bool). g d q) (set_at_here w.knows_holder me.0 node.log.holder));
        stable = λ d. sym (ap (λ (g : Det → Bool). g d) (set_at_here w.knows_stable me.0 node.log.stable));
      };
      floors = λ z low_z. ap (λ (g : ℕ → ℕ). g z) (set_at_here w.rounds.floors me.0 r.view) ∙ sym (found.2.view z low_z);
      received = sym (cond-true (me.0 == me.0) 0 (deliveries w.past me.0) (same_is me.0));
    }

    same : (q : ℕ) → (q ≡ me.0 → ⊥) → IsUntouched w risen q
    same q other = assumption (
      set_at_away w.rounds.down me.0 false q other,
      set_at_away w.rounds.lane me.0 (w.rounds.lane me.0 + 1) q other,
      set_at_away w.rounds.floors me.0 r.view q other,
      set_at_away w.rounds.rounds me.0 None q other,
      set_at_away w.knows_holder me.0 node.log.holder q other,
      set_at_away w.knows_stable me.0 node.log.stable q other,
      away_or (me.0 == q) (list_has listed) (logs w.past q) (other_is me.0 q other),
      cond-false (me.0 == q) 0 (deliveries w.past q) (other_is me.0 q other),
    )

    pub restarts : IsWorldOf n f (record { past = Restart me listed ∷ net.past; nodes = with_value_at net.nodes me.0 (up_node node); sent = net.sent; stored = net.stored; floors = net.floors })
    restarts = (
      risen,
      next_world w risen reach (world.restart me listed r known marked low found.1 all_replied (λ d h. inl (lists d ∙ storage.1 d h)) (λ d h dest. lists d ∙ storage.1 d h) from new_known itself keeps marks),
      assumption (
        ap (λ t. Restart me listed ∷ t) rep.past,
        nodes_and_one n risen net.sent net.nodes me.0 (up_node node) mine (λ q low_q other. node_kept n w risen later_risen q (same q other) net.sent (net.nodes q) (rep.nodes q low_q)),
        packets_later n w risen later_risen net.sent rep.packets,
        floors_kept n f net w reach rep risen.rounds.floors (set_at_away w.rounds.floors me.0 r.view n n_is_other),
      ),
    )
