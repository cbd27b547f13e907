-- The memory of a turn, and the entry that it makes.
use Rattle.std.specs.Prelude.{◌≡◌, ℕ, ◌+◌, ◌≤◌, max, List, [], length, vec_capacity}
use Rattle.ho_base.specs.declared.numbers.Pfn.{Pfn}
use Rattle.ho_events.specs.declared.slip.At.{At}
use Rattle.ho_events.specs.declared.slip.Listed.{Listed}
use Rattle.ho_events.specs.declared.slip.Lists.{Lists}
use Rattle.ho_events.specs.declared.slip.ReplyLists.{ReplyLists}
use Rattle.ho_events.specs.declared.entry.Entry.{Entry}
use Rattle.ho_events.specs.declared.entry.Place.{Place}
use Rattle.ho_events.specs.declared.event.Event.{Event}
use Rattle.ho_events.specs.declared.event.Event.TheVariants.{PoolGive, PoolMark, PoolUnmark, FileInit, FileWrite, FileFill, FilePin}
use Rattle.ho_events.specs.declared.reply.Reply.{Reply}
use Rattle.ho_events.specs.declared.reply.Reply.TheVariants.{OkBytes, OkRuns, KeptRuns, Gone, Got}

-- four empty lists, each with memory for so many numbers or bytes
pub record HasRoom (listed : Listed) (l : Lists) : Type 0 where
  pub event_runs_empty : l.event_runs.items ≡ []
  pub event_bytes_empty : l.event_bytes.items ≡ []
  pub reply_runs_empty : l.reply_runs.items ≡ []
  pub reply_bytes_empty : l.reply_bytes.items ≡ []
  pub event_runs_room : listed.event_numbers ≤ vec_capacity l.event_runs
  pub event_bytes_room : listed.event_bytes ≤ vec_capacity l.event_bytes
  pub reply_runs_room : listed.reply_numbers ≤ vec_capacity l.reply_runs
  pub reply_bytes_room : listed.reply_bytes ≤ vec_capacity l.reply_bytes

-- the two lists of a reply alone
pub record HasReplyRoom (listed : Listed) (l : ReplyLists) : Type 0 where
  pub runs_empty : l.runs.items ≡ []
  pub bytes_empty : l.bytes.items ≡ []
  pub runs_room : listed.reply_numbers ≤ vec_capacity l.runs
  pub bytes_room : listed.reply_bytes ≤ vec_capacity l.bytes

-- the runs and the bytes that an event lists
abbrev pub event_runs : Event → List Pfn
event_runs (PoolGive o runs) = runs
event_runs (PoolMark o runs) = runs
event_runs (PoolUnmark o runs) = runs
event_runs (FileInit kind o size runs) = runs
event_runs (FileWrite off bytes fills) = fills
event_runs (FileFill off len byte fills) = fills
event_runs (FilePin fills) = fills
event_runs event = []

abbrev pub event_bytes : Event → List ℕ
event_bytes (FileWrite off bytes fills) = bytes
event_bytes event = []

-- those that a reply lists
abbrev pub reply_runs : Reply → List Pfn
reply_runs (OkRuns runs) = runs
reply_runs (KeptRuns runs) = runs
reply_runs (Gone runs) = runs
reply_runs (Got runs) = runs
reply_runs reply = []

abbrev pub reply_bytes : Reply → List ℕ
reply_bytes (OkBytes bytes) = bytes
reply_bytes reply = []

-- the entry of a turn: its stamp is one more than the last stamps of the agent and of the object
abbrev pub entry_at : At → ℕ → Place → Event → Reply → Entry
entry_at at last object event reply = record {
  kernel = at.kernel;
  stamp = 1 + max at.last last;
  agent = at.agent;
  command = at.command;
  object = object;
  event = event;
  reply = reply;
}

-- four empty lists, each with memory for what the event and the reply list
pub record HasRoomFor (event : Event) (reply : Reply) (l : Lists) : Type 0 where
  pub event_runs_empty : l.event_runs.items ≡ []
  pub event_bytes_empty : l.event_bytes.items ≡ []
  pub reply_runs_empty : l.reply_runs.items ≡ []
  pub reply_bytes_empty : l.reply_bytes.items ≡ []
  pub event_runs_room : length (event_runs event) ≤ vec_capacity l.event_runs
  pub event_bytes_room : length (event_bytes event) ≤ vec_capacity l.event_bytes
  pub reply_runs_room : length (reply_runs reply) ≤ vec_capacity l.reply_runs
  pub reply_bytes_room : length (reply_bytes reply) ≤ vec_capacity l.reply_bytes

-- the two lists of a reply alone, each with memory for what the reply lists
pub record HasReplyRoomFor (reply : Reply) (l : ReplyLists) : Type 0 where
  pub runs_empty : l.runs.items ≡ []
  pub bytes_empty : l.bytes.items ≡ []
  pub runs_room : length (reply_runs reply) ≤ vec_capacity l.runs
  pub bytes_room : length (reply_bytes reply) ≤ vec_capacity l.bytes
