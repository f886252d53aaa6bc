use Rattle.std.proofs.Common.{◌∙◌, ◌++◌, ◌∷◌, [], cond, ap, sym, filter, map, arith, append_assoc}
use Rattle.std.specs.List.{range_with_len}
use Rattle.std.proofs.lemmas.List.FromFn.{filter_of_map_range_with_len_more}
use Rattle.causal_protocol.specs.Naming.{message_name}
use Rattle.causal_core.specs.Inside.Memories.{memories_in}
use Rattle.causal_core.specs.Pendings.{is_pending}
use Rattle.causal_core.proofs.pending.list_pending.Goals as goal

pub loop-ssn-preserved : goal.loop-ssn-preserved
loop-ssn-preserved c =
    let test = is_pending (memories_in c.args.process_memories.now) c.args.q in
    let ssn = c.loop-ssn.ssn in
    let asked = message_name c.args.source ssn in
    c.in_ok-push_name_if.ensures
    ∙ (λ i. c.loop-ssn.invariant i ++ cond (c.is_pending.ensures i) (asked ∷ []) [])
    ∙ append_assoc c.args.names.now.items (filter test (map (message_name c.args.source) (range_with_len 0 ssn))) (cond (test asked) (asked ∷ []) [])
    ∙ ap (λ xs. c.args.names.now.items ++ xs) (sym (filter_of_map_range_with_len_more test (message_name c.args.source) 0 ssn ssn (omega arith)))
