use Rattle.std.proofs.Common.{◌∙◌, ap, cond, Some, bit_or, ◌*◌, ◌^◌, ◌%◌}
use Rattle.std.specs.Prelude.{unwrap_or}
use Rattle.std.specs.BTreeMap.{get, is_at}
use Rattle.std.specs.BTreeSet.{insert_key}
use Rattle.causal_name.specs.Names.{message_cmp}
use Rattle.causal_node.specs.Inside.ReceivedNames.{block_cmp}
use Rattle.causal_node.proofs.ReceivedBits.{inserted_in}
use Rattle.causal_node.proofs.received_names.ReceivedNames.insert.Goals.{in-Ok, in-Err}
use Rattle.causal_node.proofs.received_names.ReceivedNames.insert.Goals as goal

pub returns-clause-ok : goal.returns-clause-ok
returns-clause-ok c =
    elim c.match-insert.branch [
      | in-Ok w ↦
          rw w.result-is
          (inserted_in c.args.name c.self.inside.blocks c.insert.new.self c.unwrap_or-bits.result c.self.invariant c.insert.ensures.ordered
          (c.unwrap_or-bits.ensures ∙ ap (λ o. unwrap_or o 0) (c.copied.ensures ∙ c.get.ensures.value ∙ ap (λ b. get block_cmp c.self.inside.blocks b) c.block_of-block.ensures))
          (λ q. w.in-Ok.ensures.updates.0 q ∙ ap (λ b. cond (is_at (block_cmp b) q) (Some (bit_or c.unwrap_or-bits.result (1 * 2 ^ (c.args.name.ssn % 64) % 2 ^ 64))) (get block_cmp c.self.inside.blocks q)) c.block_of-block.ensures)
          ∙ ap (λ names. insert_key message_cmp names c.args.name) c.self.view_is)
      | in-Err w ↦ rw w.result-is tt
    ]
