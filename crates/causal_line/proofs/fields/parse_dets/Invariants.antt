use Rattle.std.proofs.Common.{◌≡◌, drop}
use Rattle.serde_json.specs.View.{items_view}
use Rattle.causal_line.specs.Returns.{with_front}
use Rattle.causal_line.specs.ParsedLines.{parse_dets}
use Rattle.causal_line.proofs.fields.parse_dets.Given as goal

abbrev pub invariant-loop-value : goal.invariant-loop-value
invariant-loop-value l = parse_dets (items_view l.values) ≡ with_front l.dets.items (parse_dets (items_view (drop l.value-index l.values)))
