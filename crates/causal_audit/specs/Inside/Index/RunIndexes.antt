-- The invariants of a run's index: its transitions and its mentions.
use Rattle.std.specs.Prelude.{◌≡◌, ℕ, true, false, List, vec_len}
use Rattle.causal_trace.specs.Numbers.{delivered_dets}
use Rattle.causal_audit.specs.Inside.Common.{Entry, instant, is_down}
use Rattle.causal_audit.specs.declared.index.mentions.Mentions.{Mentions}
use Rattle.causal_audit.specs.declared.index.transitions.Transitions.{Transitions}
use Rattle.causal_audit.specs.declared.index.transitions.TransitionsBuilder.{TransitionsBuilder}
use Rattle.causal_audit.specs.declared.index.run_index.RunIndex.{RunIndex}
use Rattle.causal_audit.specs.NoRelease.{NoneReleasedFrom}
use Rattle.causal_audit.specs.Inside.DeliveryStates.{HasExactly}
use Rattle.causal_audit.specs.Inside.Index.Falls.{AreFalls}
use Rattle.causal_audit.specs.Inside.Index.Lists.{AreTransitionsOf, AreMentions, AreTransitions, lists_in}

-- the value contains the transitions of the run, the down processes after each, the crashes and restarts of each
-- process, the restarts by the number that are down after them, and a position from which no process is released
pub record IsTransitionIndex (past : List Entry) (transitions : Transitions) : Type 0 where
  pub turned : AreTransitions past transitions.positions.items transitions.downs.items
  pub crashed : AreTransitionsOf false past (lists_in transitions.crashes.lists.items)
  pub restarted : AreTransitionsOf true past (lists_in transitions.restarts.lists.items)
  pub fallen : AreFalls past (lists_in transitions.falls.lists.items)
  pub lasting : NoneReleasedFrom past transitions.no_release_from

-- the builder contains the transitions of the entries so far, and the down processes
pub record IsBuilderOf (past : List Entry) (filing : TransitionsBuilder) : Type 0 where
  pub down : HasExactly filing.down (λ p. is_down past p)
  pub turned : AreTransitions past filing.positions.items filing.downs.items
  pub crashed : AreTransitionsOf false past (lists_in filing.crashes.items)
  pub crashes : vec_len filing.crashes ≡ 256
  pub restarted : AreTransitionsOf true past (lists_in filing.restarts.items)
  pub restarts : vec_len filing.restarts ≡ 256
  pub fallen : AreFalls past (lists_in filing.falls.items)
  pub falls : vec_len filing.falls ≡ 257
  pub lasting : NoneReleasedFrom past filing.no_release_from

-- the lists contain exactly the mentions of each determinant in a past, by the first deliveries of the whole run
abbrev pub IsMentionIndex : List Entry → List Entry → Mentions → Type 0
IsMentionIndex whole past mentions = AreMentions past (delivered_dets whole) mentions.lists

-- the index contains the transitions of the whole run, and the mentions before the instant `end`
pub record IsIndexOf (whole : List Entry) (end : ℕ) (index : RunIndex) : Type 0 where
  pub turned : IsTransitionIndex whole index.transitions
  pub mentioned : IsMentionIndex whole (instant whole end) index.mentions
