use Rattle.std.proofs.Common.{arith}
use Rattle.causal_name.specs.Names.{message_of}
use Rattle.causal_protocol.specs.Memory.{log_after_delivery}
use Rattle.causal_memory.specs.ProcessMemories.{memory_of}
use Rattle.causal_core.proofs.MemoriesFit.{fits_other}
use Rattle.causal_core.proofs.LegalDelivery.{received_fits}
use Rattle.causal_core.proofs.receipt.record_receipt.Goals as goal

pub returns-clause-fit : goal.returns-clause-fit
returns-clause-fit c =
    rw (c.push_reserved.ensures.recording, c.receive.ensures.memory)
    (received_fits c.args.trace.now.recording.past c.args.q c.args.send c.args.own.rsn (message_of c.args.own) c.args.listed (log_after_delivery c.args.piggyback.now c.args.own (memory_of c.args.process_memory.now).log) (memory_of c.args.process_memory.now) c.requires.sent c.requires.fit c.requires.logged)

pub returns-clause-others : goal.returns-clause-others
returns-clause-others c = grind (arith, fits_other)
