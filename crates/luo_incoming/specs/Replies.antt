-- The replies that come to the events of incoming sessions.
use Rattle.std.specs.Prelude.{◌+◌, ◌<◌}
use Rattle.ho_base.specs.declared.limits.TheConstants.{OUT_SLOTS, IN_SLOTS}
use Rattle.ho_events.specs.declared.reply.Reply.{Reply}
use Rattle.ho_events.specs.declared.reply.Reply.TheVariants.{OkSlot, Kept, Gone, AlreadyOpen, NoSession, NoToken, AlreadyTaken}

-- the slot of a name that is opened from now on, that it was opened before, or that it doesn't wait
abbrev pub IsOpenReply : Reply → Type 0
IsOpenReply (OkSlot s) = s.0 < OUT_SLOTS + IN_SLOTS
IsOpenReply AlreadyOpen = Unit {0}
IsOpenReply NoSession = Unit {0}
IsOpenReply reply = ⊥

-- the slot of an opened name, or that there is none
abbrev pub IsFindInReply : Reply → Type 0
IsFindInReply (OkSlot s) = s.0 < OUT_SLOTS + IN_SLOTS
IsFindInReply NoSession = Unit {0}
IsFindInReply reply = ⊥

-- why a session doesn't give a token's file
abbrev pub IsTakeRefusal : Reply → Type 0
IsTakeRefusal NoSession = Unit {0}
IsTakeRefusal NoToken = Unit {0}
IsTakeRefusal AlreadyTaken = Unit {0}
IsTakeRefusal reply = ⊥

-- that a label or an outgoing session still has a file, or all runs of one that is gone
abbrev pub IsFinishReply : Reply → Type 0
IsFinishReply Kept = Unit {0}
IsFinishReply (Gone runs) = Unit {0}
IsFinishReply reply = ⊥
