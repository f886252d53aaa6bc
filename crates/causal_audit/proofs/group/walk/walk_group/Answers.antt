use Rattle.causal_audit.proofs.Common.{ℕ, ◌≡◌, ◌∙◌, ◌+◌, ◌<◌, false≢true, length, sym, subst, arith, instant, is_down, HasOrphan}
use Rattle.causal_audit.specs.Inside.Among.{EarliestAmongBy}
use Rattle.causal_audit.specs.Inside.Group.OpenDeliveries.{positions_of}
use Rattle.causal_audit.specs.Inside.Group.Walk.{HasRow, IsWalkState, IsHeldBy, RowsAreHeld, AreMentionedPlaces, position_at, row}
use Rattle.causal_audit.proofs.group.OpenPositions.{zero}
use Rattle.causal_audit.specs.Inside.DeliveryStates.{HasExactly}
use Rattle.causal_audit.specs.declared.group.buffers.WalkBuffers.{WalkBuffers}
use Rattle.causal_audit.proofs.group.GroupWalk.{copied_next, marked_next, sees_each, place_of, held_then, is_step, told_after, among_opened}
use Rattle.causal_audit.proofs.Steps.{entry_read}
use Rattle.causal_trace.proofs.Lemmas.AtInstants.{next_state}
use Rattle.causal_audit.proofs.group.walk.walk_group.Goals as goal

pub loop-t-init : goal.loop-t-init
loop-t-init c = record {
  from = omega arith;
  rows = c.requires.rows;
  followed = c.requires.begun;
  none = c.requires.none;
  unresolved = record { places = λ j h. (c.places_of-all.ensures j).0 h; over = λ j low out. absurd (false≢true (sym out ∙ (c.places_of-all.ensures j).1 low)) };
  passed = record {
    inside = omega arith;
    earlier = λ j low.
        let made = c.requires.deliveries j zero low in
        let reach = c.requires.begun.told j made.0 low made.1 in
        (λ none. absurd (omega (arith, none)), λ early. grind (arith, early, reach));
  };
}

pub check_step-requires-clause-candidates : goal.check_step-requires-clause-candidates
check_step-requires-clause-candidates c k delivery low u from within = c.requires.candidates k delivery low u from (omega (arith, within, c.loop-t-test.true))

pub check_step-requires-clause-present : goal.check_step-requires-clause-present
check_step-requires-clause-present c = (c.in_ok-newly.ensures.rows c.args.start c.args.end c.loop-t.invariant.rows.reach).present

pub check_step-requires-clause-step : goal.check_step-requires-clause-step
check_step-requires-clause-step c =
    let r = c.args.trace.now.recording in
    let t = c.loop-t.t in
    let i = c.loop-t.invariant in
    let x = c.index-entries-t.result in
    let formed = c.entries-entries.ensures.formed in
    let below : t < length r.past = omega (arith, c.loop-t-test.true, c.requires.within) in
    let next = next_state r c.entries-entries.result.now c.entries-entries.ensures.value t x below c.index-entries-t.is in
    let here : HasRow c.args.start c.loop-t.buffers.reach.rows t = (i.from, omega (arith, i.rows.reach.rows, c.loop-t-test.true)) in
    is_step r c.args.candidates.now c.args.start c.loop-t.buffers _ i.followed formed below next
    (λ j d low at. (sees_each r c.args.candidates.now c.args.start c.loop-t.buffers t x c.places_at-own.result c.in_ok-newly.newly i.followed formed below next c.apply_entry.new.self c.places_at-own.ensures.own
    c.in_ok-newly.ensures.sees j d low at).1)
    c.entries-entries.ensures.few here
    (subst (λ places. AreMentionedPlaces x places c.mentioned_places-mentioned.result) c.get.ensures c.mentioned_places-mentioned.ensures)
    (entry_read r c.entries-entries.result.now c.entries-entries.ensures.value t x below c.index-entries-t.is) (λ j low. c.requires.deliveries j zero low)

pub check_step-requires-clause-followed : goal.check_step-requires-clause-followed
check_step-requires-clause-followed c =
    let r = c.args.trace.now.recording in
    let candidates = c.args.candidates.now in
    let t = c.loop-t.t in
    let i = c.loop-t.invariant in
    let x = c.index-entries-t.result in
    let step = check_step-requires-clause-step c in
    let rows = c.in_ok-newly.ensures.rows c.args.start c.args.end c.loop-t.invariant.rows.reach in
    let by = subst (λ rows. IsHeldBy x rows c.held_by_receiver-held.result) c.deref.ensures.value c.held_by_receiver-held.ensures in
    let buffers : WalkBuffers = record { reach = c.apply_entry.new.self; held_places = c.note_held.new.held; copies = c.update_copies.new.copies; down = c.down_after-buffers.result } in
    subst (λ start. IsWalkState r candidates start (t + 1) buffers) (sym rows.start) (record {
      start_is = rows.start;
      told =
          told_after r candidates c.args.start c.loop-t.buffers t x c.places_at-own.result c.in_ok-newly.newly i.followed c.entries-entries.ensures.formed step.below step.next c.apply_entry.new.self
          c.places_at-own.ensures.own c.in_ok-newly.ensures.sees;
      marked = marked_next r.past c.args.start candidates t c.loop-t.buffers.reach.rows c.apply_entry.new.self.rows (omega (arith, rows.rows, i.rows.reach.rows))
          (subst (λ start. (i : ℕ) → t < start + i → row c.apply_entry.new.self.rows i ≡ row c.loop-t.buffers.reach.rows i) i.rows.reach.start c.in_ok-newly.ensures.later) i.followed.marked;
      copied =
          copied_next r candidates _ step c.places_of-all.result c.held_by_receiver-held.result c.changed_places-places.result c.loop-t.buffers.copies.items c.update_copies.new.copies.items c.places_of-all.ensures
          (λ j d low at h. held_then x (instant r.past t) c.loop-t.buffers.held_places.items c.held_by_receiver-held.result j d by (i.followed.held j d low at) h)
          c.changed_places-places.ensures.quiet c.update_copies.ensures.others c.update_copies.ensures.renewed i.followed.copied;
      held = λ j d low at. subst (λ past. RowsAreHeld past j d c.note_held.new.held.items) (sym step.next) (c.note_held.ensures.keeps (instant r.past t) j d (step.mentioned j d low at) (i.followed.held j d low at));
      down = subst (λ past. HasExactly c.down_after-buffers.result (λ p. is_down past p)) (sym step.next) (c.down_after-buffers.ensures (instant r.past t) i.followed.down);
    })

pub loop-t-preserved : goal.loop-t-preserved
loop-t-preserved c =
    let r = c.args.trace.now.recording in
    let candidates = c.args.candidates.now in
    let t = c.loop-t.t in
    let i = c.loop-t.invariant in
    let rows = c.in_ok-newly.ensures.rows c.args.start c.args.end c.loop-t.invariant.rows.reach in
    let buffers : WalkBuffers = record { reach = c.apply_entry.new.self; held_places = c.note_held.new.held; copies = c.update_copies.new.copies; down = c.down_after-buffers.result } in
    record {
      from = omega (arith, i.from);
      rows = record { reach = rows; copies = c.update_copies.ensures.count ∙ i.rows.copies };
      followed = subst (λ start. IsWalkState r candidates start (t + 1) buffers) rows.start c.check_step.ensures.followed;
      unresolved = c.check_step.ensures.unresolved;
      passed = c.places_at-own.ensures.passed;
      none = λ j low u within has. subst (EarliestAmongBy r c.args.f (t + 1) (positions_of candidates)) c.in_default.is c.check_step.ensures.found (position_at candidates j) u (among_opened candidates j low) within has;
    }

pub returns-clause-buffers : goal.returns-clause-buffers
returns-clause-buffers c = record { present = c.loop-t.invariant.rows.reach.present; copies = c.loop-t.invariant.rows.copies }

pub returns-clause-found : goal.returns-clause-found
returns-clause-found c k t listed within has =
    let r = c.args.trace.now.recording in
    let at = place_of c.args.candidates.now k listed in
    c.loop-t.invariant.none at.0 at.1 t (omega (arith, within, c.loop-t-test.false)) (subst (HasOrphan r.processes c.args.f (instant r.past t)) (sym at.2) has)

pub returns-in-Some-clause-buffers : goal.returns-in-Some-clause-buffers
returns-in-Some-clause-buffers c = record { present = (c.in_ok-newly.ensures.rows c.args.start c.args.end c.loop-t.invariant.rows.reach).present; copies = c.update_copies.ensures.count ∙ c.loop-t.invariant.rows.copies }
