-- What a turn tells has room in the lists of its slip.
use Rattle.std.proofs.Common.{◌≡◌, ℕ, ◌≤◌, List, [], length, refl, ap, arith, subst}
use Rattle.std.specs.Prelude.{Option, None, Some}
use Rattle.std.specs.Option.{MatchOption}
use Rattle.std.proofs.lemmas.List.{length-map}
use Rattle.ho_base.specs.declared.numbers.Pfn.{Pfn}
use Rattle.phys_frames.specs.Homes.{HomeId}
use Rattle.phys_frames.specs.Memory.{FolioValue}
use Rattle.ho_events.specs.Lists.{firsts}
use Rattle.ho_events.specs.File.{FileState, runs_of, cut_runs}
use Rattle.ho_events.specs.History.{file_from}
use Rattle.ho_events.specs.Slips.{HasRoom, HasReplyRoom, HasRoomFor, HasReplyRoomFor, event_runs, event_bytes, reply_runs, reply_bytes}
use Rattle.ho_events.specs.declared.slip.Listed.{Listed}
use Rattle.ho_events.specs.declared.slip.Lists.{Lists}
use Rattle.ho_events.specs.declared.slip.ReplyLists.{ReplyLists}
use Rattle.ho_events.specs.declared.entry.Entry.{Entry}
use Rattle.ho_events.specs.declared.event.Event.{Event}
use Rattle.ho_events.specs.declared.reply.Reply.{Reply}
use Rattle.ho_events.specs.declared.reply.Reply.TheVariants.{OkRuns, Kept, KeptRuns, Gone, NoFramesOf, TooBig, SizeFrozen, NotFinished, AlreadyPinned}
use Rattle.file_folios.specs.FileFoliosValues.{FileFoliosValue}
use Rattle.file_folios.specs.FileAnswers.{IsTruncateAnswer, IsPinAnswer, pin_used}
use Rattle.memfd_file.specs.Files.{IsUnpinAnswer, IsCloseFdAnswer, IsFinishAnswer}
use Rattle.memfd_file.specs.FileShown.{shown, KeepsFile}

-- a reply lists at most so many runs, and no bytes
pub record IsFew (n : ℕ) (reply : Reply) : Type 0 where
  pub runs : length (reply_runs reply) ≤ n
  pub bytes : reply_bytes reply ≡ []

pub room_for : (event : Event) (reply : Reply) (listed : Listed) (l : Lists) → HasRoom listed l → length (event_runs event) ≤ listed.event_numbers → event_bytes event ≡ [] → IsFew listed.reply_numbers reply → HasRoomFor event reply l
room_for event reply listed l room runs bytes few =
    let no_event_bytes : length (event_bytes event) ≡ 0 = ap length bytes in
    let no_reply_bytes : length (reply_bytes reply) ≡ 0 = ap length few.bytes in
    record {
      event_runs_empty = room.event_runs_empty;
      event_bytes_empty = room.event_bytes_empty;
      reply_runs_empty = room.reply_runs_empty;
      reply_bytes_empty = room.reply_bytes_empty;
      event_runs_room = omega (arith, runs, room.event_runs_room);
      event_bytes_room = omega (arith, no_event_bytes);
      reply_runs_room = omega (arith, few.runs, room.reply_runs_room);
      reply_bytes_room = omega (arith, no_reply_bytes);
    }

pub reply_room_for : (reply : Reply) (listed : Listed) (l : ReplyLists) → HasReplyRoom listed l → IsFew listed.reply_numbers reply → HasReplyRoomFor reply l
reply_room_for reply listed l room few =
    let no_reply_bytes : length (reply_bytes reply) ≡ 0 = ap length few.bytes in
    record {
      runs_empty = room.runs_empty;
      bytes_empty = room.bytes_empty;
      runs_room = omega (arith, few.runs, room.runs_room);
      bytes_room = omega (arith, no_reply_bytes);
    }

-- runs that are told are as many as those that they tell
told : (runs : List Pfn) (all : List ℕ) → firsts runs ≡ all → length runs ≤ length all
told runs all is = let long : length (firsts runs) ≡ length runs = length-map runs (λ r. r.0) in omega (arith, long, ap length is)

pub close_few : (f : FileState) (reply : Reply) → IsCloseFdAnswer f reply → IsFew (length (runs_of f)) reply
close_few f Kept h = record { runs = omega arith; bytes = refl }
close_few f (Gone runs) h = record { runs = told runs (runs_of f) h.1; bytes = refl }
close_few f reply h = absurd h

pub finish_few : (f : FileState) (reply : Reply) → IsFinishAnswer f reply → IsFew (length (runs_of f)) reply
finish_few f Kept h = record { runs = omega arith; bytes = refl }
finish_few f (Gone runs) h = record { runs = told runs (runs_of f) h.1; bytes = refl }
finish_few f reply h = absurd h

pub unpin_few : (f : FileState) (reply : Reply) → IsUnpinAnswer f reply → IsFew (length (runs_of f)) reply
unpin_few f (KeptRuns runs) h = record { runs = told runs (runs_of f) h.1; bytes = refl }
unpin_few f (Gone runs) h = record { runs = told runs (runs_of f) h.1; bytes = refl }
unpin_few f reply h = absurd h

pub truncate_few : (f : FileState) (size : ℕ) (reply : Reply) → IsTruncateAnswer f size reply → IsFew (length (cut_runs f size)) reply
truncate_few f size TooBig h = record { runs = omega arith; bytes = refl }
truncate_few f size SizeFrozen h = record { runs = omega arith; bytes = refl }
truncate_few f size (OkRuns runs) h = record { runs = told runs (cut_runs f size) h.2; bytes = refl }
truncate_few f size reply h = absurd h

pub pin_few : (f g : FileState) (fills n : ℕ) (reply : Reply) → IsPinAnswer f fills g reply → length (reply_runs reply) ≤ n → IsFew n reply
pin_few f g fills n NotFinished h few = record { runs = few; bytes = refl }
pin_few f g fills n AlreadyPinned h few = record { runs = few; bytes = refl }
pin_few f g fills n (NoFramesOf m) h few = record { runs = few; bytes = refl }
pin_few f g fills n (OkRuns runs) h few = record { runs = few; bytes = refl }
pin_few f g fills n reply h few = absurd h

pub used_few : (reply : Reply) (fills : List FolioValue) → length (pin_used reply fills) ≤ length fills
used_few (OkRuns runs) fills = omega arith
used_few reply fills = omega arith

-- what holds of the state of a file, by its parts
pub has_shown : (start : Option FileState) (h : List Entry) (home : HomeId) (file : Option FileFoliosValue) (P : FileState → Type 0) → KeepsFile start h home file →
    MatchOption (file_from start h) ⊥ (λ s. MatchOption s ⊥ P) → MatchOption file ⊥ (λ v. P v.state)
has_shown start h home file P k has = by_parts file (subst (λ o. MatchOption o ⊥ (λ s. MatchOption s ⊥ P)) k.replayed has)
  where
    by_parts : (o : Option FileFoliosValue) → MatchOption (shown o) ⊥ P → MatchOption o ⊥ (λ v. P v.state)
    by_parts None e = e
    by_parts (Some v) e = e

-- a reply lists few runs, by what it answers and by how many there may be
pub few_by : (file : Option FileFoliosValue) (count : FileState → ℕ) (Is : FileState → Type 0) (n : ℕ) (reply : Reply) →
    MatchOption file ⊥ (λ v. count v.state ≤ n) → MatchOption file ⊥ (λ v. Is v.state) → ((f : FileState) → Is f → IsFew (count f) reply) → IsFew n reply
few_by None count Is n reply le is few = absurd le
few_by (Some v) count Is n reply le is few = let f : IsFew (count v.state) reply = few v.state is in record { runs = omega (arith, f.runs, le); bytes = f.bytes }
