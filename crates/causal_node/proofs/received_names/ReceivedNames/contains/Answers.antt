use Rattle.std.proofs.Common.{◌∙◌, ap}
use Rattle.std.specs.Prelude.{unwrap_or}
use Rattle.std.specs.BTreeMap.{get}
use Rattle.causal_node.specs.NodeStates.{has_name}
use Rattle.causal_node.specs.Inside.ReceivedNames.{block_cmp}
use Rattle.causal_node.proofs.ReceivedBits.{bit_tells}
use Rattle.causal_node.proofs.received_names.ReceivedNames.contains.Goals as goal

pub returns : goal.returns
returns c =
    bit_tells c.args.name c.self.inside.blocks.entries c.unwrap_or-bits.result c.self.invariant
    (c.unwrap_or-bits.ensures ∙ ap (λ o. unwrap_or o 0) (c.copied.ensures ∙ c.get.ensures.value ∙ ap (λ b. get block_cmp c.self.inside.blocks b) c.block_of.ensures))
    ∙ ap (λ names. has_name names c.args.name) c.self.view_is
