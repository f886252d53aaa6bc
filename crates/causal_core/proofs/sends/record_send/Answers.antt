use Rattle.std.proofs.Common.{◌≡◌, None, arith, length}
use Rattle.causal_trace.specs.declared.entry.Entry.TheVariants as Entries
use Rattle.causal_trace.specs.Rows as Rows
use Rattle.causal_trace.proofs.Lemmas.CountBounds.{sends_few}
use Rattle.causal_memory.specs.ProcessMemories.{memory_of}
use Rattle.causal_core.proofs.MemoriesFit.{fits_other}
use Rattle.causal_core.proofs.RuntimeSend.{send_legal, send_fits}
use Rattle.causal_core.proofs.sends.record_send.Goals as goal
use Rattle.causal_core.proofs.sends.record_send.Goals.{After-len-ssn}

legal : (c : After-len-ssn) → Rows.first_fault c.args.trace.now.recording.processes c.args.trace.now.recording.past (Entries.Send c.args.q c.args.outgoing.to (length c.args.process_memory.now.sent.kept)) ≡ None
legal c = send_legal c.args.trace.now.recording.processes c.args.trace.now.recording.past c.args.q c.args.outgoing.to (memory_of c.args.process_memory.now) c.requires.from c.requires.to c.requires.fit c.requires.short c.len-send.ensures.listed

pub overflow_cast-ssn : goal.overflow_cast-ssn
overflow_cast-ssn c = grind (arith, sends_few)

pub push_reserved-requires-clause-legal : goal.push_reserved-requires-clause-legal
push_reserved-requires-clause-legal c = grind (arith, legal)

pub returns-clause-fit : goal.returns-clause-fit
returns-clause-fit c =
    rw (c.push_reserved.ensures.recording, c.len-ssn.ensures, c.keep_message.ensures.memory, c.len-send.ensures.length)
    (send_fits c.args.trace.now.recording.past c.args.q c.args.outgoing.to c.args.process_memory.now.sent.batch (memory_of c.args.process_memory.now) c.requires.fit c.requires.ascending c.requires.delivered)

pub returns-clause-others : goal.returns-clause-others
returns-clause-others c = grind (arith, fits_other)

pub returns-clause-delivered : goal.returns-clause-delivered
returns-clause-delivered c = grind arith
