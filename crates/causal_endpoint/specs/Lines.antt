-- The lines of a recording, of which a trace is merged: JSON arrays without spaces, each with its line feed.
use Rattle.std.specs.Prelude.{ℕ, List, ◌++◌, codes, decimal}
use Rattle.causal_name.specs.declared.Det.{Det}
use Rattle.causal_name.specs.declared.Pid.{Pid}
use Rattle.causal_spelling.specs.Spelling.{det_text, dets_text}
use Rattle.causal_endpoint.specs.declared.forgetting.Forgotten.{Forgotten}
use Rattle.causal_endpoint.specs.declared.receiving.DeliveryRecord.{DeliveryRecord}
use Rattle.causal_endpoint.specs.declared.recovery.RestartRecord.{RestartRecord}
use Rattle.causal_endpoint.specs.declared.sending.SendRecord.{SendRecord}

-- the header of a process's recording, of version 1, in the run with this number and this many processes
abbrev pub header_line : Pid → ℕ → ℕ → List ℕ
header_line me processes run =
    codes "[\"recording\"," ++ (decimal me.0 ++ (codes "," ++ (decimal 1 ++ (codes "," ++ (decimal processes ++ (codes "," ++ (decimal run ++ codes "]\n")))))))

-- a send to this process
abbrev pub send_line : Pid → Pid → SendRecord → List ℕ
send_line me to s = codes "[\"send\"," ++ (decimal me.0 ++ (codes "," ++ (decimal s.clock ++ (codes "," ++ (decimal to.0 ++ (codes "," ++ (decimal s.ssn ++ codes "]\n")))))))

-- a delivery
abbrev pub deliver_line : Pid → DeliveryRecord → List ℕ
deliver_line me d =
    codes "[\"deliver\"," ++ (decimal me.0 ++ (codes "," ++ (decimal d.clock ++ (codes "," ++ (decimal d.name.source.0 ++ (codes "," ++ (decimal d.lane
    ++ (codes "," ++ (decimal d.name.ssn ++ (codes "," ++ (decimal d.det.rsn ++ (codes "," ++ (dets_text d.listed ++ codes "]\n")))))))))))))

-- stable storage has a determinant
abbrev pub stable_line : Pid → ℕ → Det → List ℕ
stable_line me clock det = codes "[\"stable\"," ++ (decimal me.0 ++ (codes "," ++ (decimal clock ++ (codes "," ++ (det_text det ++ codes "]\n")))))

-- the end of a process
abbrev pub crash_line : Pid → ℕ → List ℕ
crash_line who clock = codes "[\"crash\"," ++ (decimal who.0 ++ (codes "," ++ (decimal clock ++ codes "]\n")))

-- a restart
abbrev pub restart_line : Pid → RestartRecord → List ℕ
restart_line me r = codes "[\"restart\"," ++ (decimal me.0 ++ (codes "," ++ (decimal r.clock ++ (codes "," ++ (dets_text r.listed.items ++ codes "]\n")))))

-- a forgetting
abbrev pub forget_line : Pid → Forgotten → List ℕ
forget_line me f = codes "[\"forget\"," ++ (decimal me.0 ++ (codes "," ++ (decimal f.clock ++ (codes "," ++ (dets_text f.listed.items ++ codes "]\n")))))
