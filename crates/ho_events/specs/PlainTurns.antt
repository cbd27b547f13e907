-- Events and replies that list no runs and no bytes.
use Rattle.std.specs.Prelude.{◌≡◌, []}
use Rattle.ho_events.specs.Slips.{event_runs, event_bytes, reply_runs, reply_bytes}
use Rattle.ho_events.specs.declared.event.Event.{Event}
use Rattle.ho_events.specs.declared.reply.Reply.{Reply}

-- an event that lists nothing
pub record EventIsPlain (event : Event) : Type 0 where
  pub runs : event_runs event ≡ []
  pub bytes : event_bytes event ≡ []

-- a reply that lists nothing
pub record ReplyIsPlain (reply : Reply) : Type 0 where
  pub runs : reply_runs reply ≡ []
  pub bytes : reply_bytes reply ≡ []
