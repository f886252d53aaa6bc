-- Results of core calls, and the item replies that the locked value stores for them.
use Rattle.std.proofs.Common.{◌≡◌, subst, IfOk, arith, ◌++◌, ◌∷◌, [], ℕ, List, length, Some}
use Rattle.std.specs.Prelude.{Result, Ok, Err, Option, OnOk, OnErr, IfErr}
use Rattle.causal_protocol.specs.declared.request.Request.{Request}
use Rattle.causal_protocol.specs.declared.request.Reply.{Reply}
use Rattle.causal_protocol.specs.declared.request.Reply.TheVariants as Replies
use Rattle.causal_protocol.specs.declared.request.CoreFault.{CoreFault}
use Rattle.causal_protocol.specs.declared.request.Restarted.{Restarted}
use Rattle.causal_core.specs.declared.restart.Refused.{Refused}
use Rattle.causal_core.specs.Restarts.{refused_fault}
use Rattle.causal_protocol.specs.declared.request.FlushFault.{FlushFault}
use Rattle.causal_protocol.specs.Steps.{Steps, reply_of_flush, reply_of_restart}
use Rattle.causal_shared.specs.declared.item.Item.{Item}
use Rattle.causal_shared.specs.declared.item.SeatRecord.{SeatRecord}
use Rattle.causal_shared.specs.declared.fault.LockedFault.{LockedFault}
use Rattle.causal_shared.specs.declared.fault.LockedFault.TheVariants as Fault
use Rattle.causal_shared.specs.declared.refused.LockedRefused.{LockedRefused}
use Rattle.causal_protocol.specs.Run.{Run}
use Rattle.causal_shared.specs.History.{run_length, item_count, LockedState, HasDeliveryOf, history_item, with_record}
use Rattle.causal_shared.specs.LockInvariant.{LockInvariant}
use Rattle.causal_shared.specs.Inside.ItemAppends.{PreservesInvariant}
use Rattle.causal_shared.specs.Locked.{item_reply as item_told, restart_item_reply as again, ItemCall}
use Rattle.causal_shared.specs.Inside.ResultConversions.{map_refusal, core_refusal}

module _ {A E : Type 0} where
  -- a property of each `Ok` value holds of this one
  pub holds : (r : Result A E) (x : A) (P : A → Type 0) → r ≡ Ok x → IfOk r P → P x
  holds r x P is h = subst (λ r. IfOk r P) is h

  -- if two properties of an `Ok` value imply a third, the third holds
  pub both_hold : (r : Result A E) (P Q R : A → Type 0) → ((x : A) → P x → Q x → R x) → IfOk r P → IfOk r Q → IfOk r R
  both_hold (Ok x) P Q R from p q = from x p q
  both_hold (Err e) P Q R from p q = tt

-- a property of a result also holds of the item reply made from it
module _ {A E F : Type 0} (refusal : E → F) where
  pub ok_answered : (P : Type 0) (a : Result A E) (told : Result A F) → told ≡ map_refusal refusal a → OnOk a P → OnOk told P
  ok_answered P a told is p = grind (arith, p)

  pub err_answered : (P : Type 0) (a : Result A E) (told : Result A F) → told ≡ map_refusal refusal a → OnErr a P → OnErr told P
  err_answered P a told is p = grind (arith, p)

  pub if_err_answered : (P : E → Type 0) (Q : F → Type 0) (a : Result A E) (told : Result A F) → told ≡ map_refusal refusal a → ((e : E) → P e → Q (refusal e)) → IfErr a P → IfErr told Q
  if_err_answered P Q a told is from p = grind (arith, from, p)

pub tells : {A : Type 0} (ok : A → Reply) (reply : Result A CoreFault → Reply) → ((x : A) → reply (Ok x) ≡ ok x) → ((f : CoreFault) → reply (Err f) ≡ Replies.Refused f) → (a : Result A CoreFault) (told : Result A LockedFault) → told ≡ map_refusal Fault.Core a → item_told ok told ≡ Some (reply a)
tells ok reply oks errs a told is = grind (arith, oks, errs)

pub tells_flush : (a : Result ℕ FlushFault) (told : Result ℕ LockedFault) → told ≡ map_refusal Fault.Flush a → item_told Replies.Flushed told ≡ Some (reply_of_flush a)
tells_flush a told is = grind arith

pub tells_restart : {B : Type 0} (a : Result Restarted (Refused B)) (told : Result Restarted (LockedRefused B)) → told ≡ map_refusal core_refusal a → again told ≡ Some (reply_of_restart refused_fault a)
tells_restart a told is = grind arith

-- a protocol step whose item is appended with the step's reply is an item call
pub is_recorded : (old new : LockedState) (seat call first : ℕ) (items : List Item) (count : ℕ) (request : Request) (reply says : Reply) (tells : Option Reply)
    → tells ≡ Some says → reply ≡ says → Steps old.run request says new.run → first ≡ run_length old.run → items ≡ old.history
    → new.history ≡ items ++ history_item seat call request reply first ∷ []
    → new.seats ≡ with_record old.seats (history_item seat call request reply first) (run_length new.run) count
    → count ≡ length items → ItemCall old new seat call request tells
is_recorded old new seat call first items count request reply says tells tell replies step at same history seats counted = grind arith

-- appending the item of a step preserves the lock's invariant
pub keeps_on : (old new : Run) (item : Item) (says : Reply) (before items items' : List Item) (seats seats' : List SeatRecord)
    → PreservesInvariant new item items seats items' seats' → items ≡ before → LockInvariant old before seats → item.reply ≡ says → Steps old item.request says new
    → item.first ≡ run_length old → item.call ≡ item_count seats item.seat → HasDeliveryOf new.recording.past item → LockInvariant new items' seats'
keeps_on old new item says before items items' seats seats' on same keeps replies step at is_call shows = on old (rw same keeps) (rw replies step) at is_call shows
