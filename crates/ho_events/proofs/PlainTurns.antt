-- Any four empty lists have room for an event and a reply that list nothing.
use Rattle.std.proofs.Common.{◌≡◌, ℕ, ◌≤◌, length, ap, arith, List, []}
use Rattle.ho_events.specs.Slips.{HasRoom, HasRoomFor, HasReplyRoom, HasReplyRoomFor}
use Rattle.ho_events.specs.declared.event.Event.{Event}
use Rattle.ho_events.specs.declared.reply.Reply.{Reply}
use Rattle.ho_events.specs.declared.slip.Listed.{Listed}
use Rattle.ho_events.specs.declared.slip.Lists.{Lists}
use Rattle.ho_events.specs.declared.slip.ReplyLists.{ReplyLists}
use Rattle.ho_events.specs.PlainTurns.{EventIsPlain, ReplyIsPlain}

none_fits : {A : Type 0} → (xs : List A) → (n : ℕ) → xs ≡ [] → length xs ≤ n
none_fits xs n h = let e : length xs ≡ 0 = ap length h in omega arith

pub plain_room : (listed : Listed) → (event : Event) → (reply : Reply) → (l : Lists) → HasRoom listed l → EventIsPlain event → ReplyIsPlain reply → HasRoomFor event reply l
plain_room listed event reply l h e r = record {
  event_runs_empty = h.event_runs_empty;
  event_bytes_empty = h.event_bytes_empty;
  reply_runs_empty = h.reply_runs_empty;
  reply_bytes_empty = h.reply_bytes_empty;
  event_runs_room = none_fits _ _ e.runs;
  event_bytes_room = none_fits _ _ e.bytes;
  reply_runs_room = none_fits _ _ r.runs;
  reply_bytes_room = none_fits _ _ r.bytes;
}

pub plain_reply_room : (listed : Listed) → (reply : Reply) → (l : ReplyLists) → HasReplyRoom listed l → ReplyIsPlain reply → HasReplyRoomFor reply l
plain_reply_room listed reply l h r = record {
  runs_empty = h.runs_empty;
  bytes_empty = h.bytes_empty;
  runs_room = none_fits _ _ r.runs;
  bytes_room = none_fits _ _ r.bytes;
}
