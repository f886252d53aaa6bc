-- Calls about one process that return a number: crash, flush and forget.
use Rattle.std.specs.Prelude.{ℕ}
use Rattle.causal_name.specs.declared.Pid.{Pid}
use Rattle.causal_protocol.specs.declared.request.Request.{Request}
use Rattle.causal_protocol.specs.declared.request.Request.TheVariants as Requests
use Rattle.causal_protocol.specs.declared.request.Reply.{Reply}
use Rattle.causal_protocol.specs.declared.request.Reply.TheVariants as Replies
use Rattle.causal_shared.specs.declared.counting_call.CountingCall.{CountingCall}
use Rattle.causal_shared.specs.declared.counting_call.CountingCall.TheVariants.{Crash, Flush, Forget}

-- the request of the call
abbrev pub request_of : CountingCall → Pid → Request
request_of Crash = Requests.Crash
request_of Flush = Requests.Flush
request_of Forget = Requests.Forget

-- the reply that contains the number
abbrev pub reply_of : CountingCall → ℕ → Reply
reply_of Crash = Replies.Crashed
reply_of Flush = Replies.Flushed
reply_of Forget = Replies.Forgotten
