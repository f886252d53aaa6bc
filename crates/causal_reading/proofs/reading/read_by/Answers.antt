use Rattle.std.proofs.Common.{arith}
use Rattle.causal_text.specs.Streams.{max_piece}
use Rattle.causal_reading.specs.Reads.{max_read}
use Rattle.causal_reading.proofs.FeedLemmas.{max_read_least, shared_read_least, stops_wider}
use Rattle.causal_reading.proofs.reading.read_by.Goals as goal

pub read_pieces-requires-clause-buffer : goal.read_pieces-requires-clause-buffer
read_pieces-requires-clause-buffer g c = grind (arith, shared_read_least c.args.workers)

pub returns-clause-stops : goal.returns-clause-stops
returns-clause-stops g c =
    stops_wider c.args.limits.entries max_piece (max_read c.args.workers) (g.I.Read.remaining c.args.source.now) (g.I.Read.remaining c.read_within.new.source) (max_read_least c.args.workers) c.read_within.ensures.stops
