use Rattle.std.proofs.Common.{length, refl, arith, ap}
use Rattle.causal_audit.proofs.by_clock.ClockEvents.{room, sender_in, receiver_in, sent_in, restarted_in, after_send, after_deliver, after_other, after_restart, some_lane}
use Rattle.std.proofs.lemmas.Result.{on_ok_weaker}
use Rattle.causal_audit.proofs.by_clock.events.add_event.Goals as goal

pub bounds-present-from : goal.bounds-present-from
bounds-present-from c = (sender_in _ _ _ c.requires _ _ _ c.in-Send.is).0

pub local-requires-clause-lane : goal.local-requires-clause-lane
local-requires-clause-lane c = (sender_in _ _ _ c.requires _ _ _ c.in-Send.is).1

pub local-requires-clause-room : goal.local-requires-clause-room
local-requires-clause-room c = room _ _ _ c.requires

pub bounds-present-to : goal.bounds-present-to
bounds-present-to c = (receiver_in _ _ _ c.requires _ _ _ _ c.in-Deliver.is).0

pub receive-requires-clause-lane : goal.receive-requires-clause-lane
receive-requires-clause-lane c = (receiver_in _ _ _ c.requires _ _ _ _ c.in-Deliver.is).1

pub receive-requires-clause-sent : goal.receive-requires-clause-sent
receive-requires-clause-sent c = sent_in _ _ _ c.requires _ _ _ _ c.in-Deliver.is

pub receive-requires-clause-room : goal.receive-requires-clause-room
receive-requires-clause-room c = room _ _ _ c.requires

pub bounds-present-who : goal.bounds-present-who
bounds-present-who c = restarted_in _ _ _ c.requires _ _ c.in-Restart.is

pub local-requires-in-Restart-clause-room : goal.local-requires-in-Restart-clause-room
local-requires-in-Restart-clause-room c = omega (arith, room _ _ _ c.requires, ap (λ t. length t.events) c.in-Ok.ensures.opened)

pub local-requires-in-Stable-clause-room : goal.local-requires-in-Stable-clause-room
local-requires-in-Stable-clause-room c = room _ _ _ c.requires

pub local-requires-in-Crash-clause-room : goal.local-requires-in-Crash-clause-room
local-requires-in-Crash-clause-room c = room _ _ _ c.requires

pub local-requires-in-Forget-clause-room : goal.local-requires-in-Forget-clause-room
local-requires-in-Forget-clause-room c = room _ _ _ c.requires

pub returns-in-Ok-clause-mirrors : goal.returns-in-Ok-clause-mirrors
returns-in-Ok-clause-mirrors c n past accepted m = on_ok_weaker c.local-in-Restart.result (λ appended. rw appended (rw (c.in-Ok.ensures.opened, c.in-Ok.ensures.number) (after_restart n past _ _ _ accepted m _ _ c.in-Restart.is))) c.local-in-Restart.ensures.appended

pub returns-in-Send-clause-mirrors : goal.returns-in-Send-clause-mirrors
returns-in-Send-clause-mirrors c n past accepted m = on_ok_weaker c.local.result (λ appended. rw appended (after_send n past _ _ _ accepted m _ _ _ c.in-Send.is)) c.local.ensures.appended

pub returns-in-Deliver-clause-mirrors : goal.returns-in-Deliver-clause-mirrors
returns-in-Deliver-clause-mirrors c n past accepted m = on_ok_weaker c.receive.result (λ appended. rw appended (after_deliver n past _ _ _ accepted m _ _ _ _ c.in-Deliver.is)) c.receive.ensures.appended

pub returns-in-Stable-clause-mirrors : goal.returns-in-Stable-clause-mirrors
returns-in-Stable-clause-mirrors c n past accepted m =
    on_ok_weaker c.local-in-Stable.result (λ appended. rw appended (after_other n past _ _ _ accepted m _ c.in-Stable.is refl (λ q. refl) refl (λ i. refl) (some_lane _ _ _ c.requires)))
    c.local-in-Stable.ensures.appended

pub returns-in-Crash-clause-mirrors : goal.returns-in-Crash-clause-mirrors
returns-in-Crash-clause-mirrors c n past accepted m =
    on_ok_weaker c.local-in-Crash.result (λ appended. rw appended (after_other n past _ _ _ accepted m _ c.in-Crash.is refl (λ q. refl) refl (λ i. refl) (some_lane _ _ _ c.requires)))
    c.local-in-Crash.ensures.appended

pub returns-in-Forget-clause-mirrors : goal.returns-in-Forget-clause-mirrors
returns-in-Forget-clause-mirrors c n past accepted m =
    on_ok_weaker c.local-in-Forget.result (λ appended. rw appended (after_other n past _ _ _ accepted m _ c.in-Forget.is refl (λ q. refl) refl (λ i. refl) (some_lane _ _ _ c.requires)))
    c.local-in-Forget.ensures.appended
