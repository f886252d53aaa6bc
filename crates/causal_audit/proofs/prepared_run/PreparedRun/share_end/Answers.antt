use Rattle.causal_audit.proofs.Common.{List, ◌≡◌, ◌+◌, ◌-◌, drop, length, take, take_all, refl, ap, sym, ◌∙◌, arith, drop-map}
use Rattle.std.proofs.lemmas.List.{length-drop, length-map}
use Rattle.causal_audit.specs.Parts.{FollowedDeliveries}
use Rattle.causal_audit.specs.Inside.Group.OpenDeliveries.{open_lengths_of, positions_of}
use Rattle.causal_audit.specs.declared.group.walk_input.OpenDelivery.{OpenDelivery}
use Rattle.causal_audit.proofs.prepared_run.PreparedRun.share_end.Goals as goal

-- the deliveries have as many positions, and as many lengths
counts : (view followed : FollowedDeliveries) (candidates : List OpenDelivery) → view ≡ followed → positions_of candidates ≡ view.positions → open_lengths_of candidates ≡ view.open_lengths
    → (length candidates ≡ length followed.positions) × (length followed.open_lengths ≡ length followed.positions)
counts view followed candidates is positions lengths =
    let many = length-map candidates (λ (delivery : OpenDelivery). delivery.position) in
    let long = length-map candidates (λ (delivery : OpenDelivery). delivery.until - delivery.position) in
    let first : length candidates ≡ length followed.positions = omega (arith, many, ap length positions, ap (λ (x : FollowedDeliveries). length x.positions) is) in
    (first, omega (arith, first, long, ap length lengths, ap (λ (x : FollowedDeliveries). length x.open_lengths) is))

pub returns-then-workers-eq1-clause-within : goal.returns-then-workers-eq1-clause-within
returns-then-workers-eq1-clause-within c =
    let many = (counts _ c.args.self.now c.self.inside.candidates.items c.self.view_is refl refl).0 in
    (omega (arith, many, c.len.ensures, c.self.inside.candidates.ok, c.requires.0), omega (arith, many, c.len.ensures, c.self.inside.candidates.ok))

pub returns-then-workers-eq1-clause-progress : goal.returns-then-workers-eq1-clause-progress
returns-then-workers-eq1-clause-progress c some = omega (arith, some, (counts _ c.args.self.now c.self.inside.candidates.items c.self.view_is refl refl).0, c.len.ensures, c.self.inside.candidates.ok)

pub returns-then-workers-eq1-clause-lengths : goal.returns-then-workers-eq1-clause-lengths
returns-then-workers-eq1-clause-lengths c = (counts _ c.args.self.now c.self.inside.candidates.items c.self.view_is refl refl).1

pub returns-clause-lengths : goal.returns-clause-lengths
returns-clause-lengths c = (counts _ c.args.self.now c.self.inside.candidates.items c.self.view_is refl refl).1

pub returns-clause-fair : goal.returns-clause-fair
returns-clause-fair c two =
    let from = c.args.from in
    let listed = c.deref.result.now in
    let lengths : open_lengths_of (take (length listed - from) (drop from listed)) ≡ drop from c.args.self.now.open_lengths =
    ap open_lengths_of (take_all (length listed - from) (drop from listed) (omega (arith, length-drop from listed))) ∙ ap (λ list. open_lengths_of (drop from list)) c.deref.ensures.value
    ∙ sym (drop-map (λ (delivery : OpenDelivery). delivery.until - delivery.position) from c.self.inside.candidates.items) ∙ ap (λ (x : FollowedDeliveries). drop from x.open_lengths) c.self.view_is in
    let back : from + c.deliveries_of_share.result - from ≡ c.deliveries_of_share.result = omega arith in
    rw (back, ← lengths, length-map) (rw (c.total_walk_length.ensures, c.from.ensures) at c.deliveries_of_share.ensures.share)
