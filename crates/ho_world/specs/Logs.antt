-- Agents' logs: what an agent did, command by command, each entry beside what was known of the objects at that moment.
use Rattle.std.specs.Prelude.{◌≡◌, ℕ, ◌+◌, ◌<◌, ◌^◌, max, if◌then◌else◌, unwrap_or, option_map, List, [], ◌∷◌, ◌++◌, map, zero, suc, slice_get, Option, None, Some}
use Rattle.std.specs.FinMap as finmap
use Rattle.ho_base.specs.Objects.{session_no, file_no}
use Rattle.ho_base.specs.declared.numbers.FileNo.{FileNo}
use Rattle.ho_events.specs.declared.command.Command.{Command}
use Rattle.ho_events.specs.declared.entry.Entry.{Entry}
use Rattle.ho_events.specs.declared.entry.Place.{Place}
use Rattle.ho_events.specs.declared.entry.Place.TheVariants.{Object, Own}
use Rattle.ho_events.specs.declared.event.Event.{Event}
use Rattle.ho_events.specs.declared.event.Event.TheVariants.{SelfDone}
use Rattle.ho_events.specs.declared.reply.Reply.{Reply}
use Rattle.ho_events.specs.declared.slip.At.{At}
use Rattle.ho_events.specs.History.{on, last_stamp}
use Rattle.ho_world.specs.World.{State, Nothing, run}
use Rattle.ho_world.specs.Entries.{is_ok}
use Rattle.ho_world.specs.Acts.{Claim, IsFile, BeganAs, HasFiles, HasToken, Act, Sequence, Holds, IsSort}
use Rattle.ho_world.specs.Sequences.{Labels, Outcome, command_acts}
use Rattle.ho_world.specs.Legal.{Labeling, found_in, after_task}
use Rattle.ho_world.specs.Tasks.{Ask, Due}

-- an object as it is known: its state before the first entry of its history, and that history
pub record Known : Type 0 where
  pub start : State
  pub history : List Entry

-- the state to which the history leads
abbrev pub known_state : Known → State
known_state k = unwrap_or (run k.start k.history) k.start

-- an entry, the history that its object had just before it, and the objects that were known at that moment
pub record Paired : Type 0 where
  pub before : List Entry
  pub known : ℕ → Option Known
  pub entry : Entry

-- the states in which the objects of a kernel began: a number without an object has nothing
abbrev pub began : (ℕ → Option State) → ℕ → State
began begun o = unwrap_or (begun o) Nothing

-- a claim on an object that is known is true
abbrev pub HoldsOf : Option Known → Claim → Type 0
HoldsOf None c = ⊥
HoldsOf (Some k) c = Holds (λ o. Nothing) (λ o. known_state k) c

abbrev pub IsClaimed : (ℕ → Option State) → (ℕ → Option Known) → Claim → Type 0
IsClaimed begun known (IsFile f kind o) = HoldsOf (known (file_no f.0)) (IsFile f kind o)
IsClaimed begun known (BeganAs f kind o) = IsSort (began begun) f kind o
IsClaimed begun known (HasFiles s files) = HoldsOf (known (session_no s.0)) (HasFiles s files)
IsClaimed begun known (HasToken s token r) = HoldsOf (known (session_no s.0)) (HasToken s token r)

abbrev pub AreClaimed : (ℕ → Option State) → (ℕ → Option Known) → List Claim → Type 0
AreClaimed begun known [] = Unit {0}
AreClaimed begun known (c ∷ cs) = IsClaimed begun known c × AreClaimed begun known cs

-- what is done at a place, with its reply, and what is read at that moment
pub record Deed : Type 0 where
  pub place : Place
  pub event : Event
  pub reply : Reply
  pub claims : List Claim

abbrev pub deed_at : ℕ → List Claim → Event → Reply → Deed
deed_at n claims event reply = record { place = Object (record { 0 = n }); event = event; reply = reply; claims = claims }

abbrev pub deed_of : Act → Deed
deed_of act = deed_at act.object act.claims act.event act.reply

-- the end of a command
abbrev pub end_with : Reply → Deed
end_with reply = record { place = Own; event = SelfDone; reply = reply; claims = [] }

-- the deeds of a whole sequence
abbrev pub deeds_of : Sequence → List Deed
deeds_of s = map deed_of s.acts ++ end_with s.reply ∷ []

-- the entry of a deed with this stamp
abbrev pub entry_of : At → Deed → ℕ → Entry
entry_of at d stamp = record {
  kernel = at.kernel;
  stamp = stamp;
  agent = at.agent;
  command = at.command;
  object = d.place;
  event = d.event;
  reply = d.reply;
}

-- Entries are these deeds of one command: each is stamped one more than the last stamps of its agent, which is `last`
-- before the first of them, and of its object, neither of which is too great; and what is read is true. The agent's
-- last stamp afterwards is `last'`.
unfoldable pub AreDone : (ℕ → Option State) → At → ℕ → List Deed → List Paired → ℕ → Type 0
AreDone begun at last [] [] last' = last' ≡ last
AreDone begun at last (d ∷ ds) (p ∷ ps) last' =
    (p.entry ≡ entry_of at d (1 + max last (last_stamp p.before))) × (last < 2 ^ 63) × (last_stamp p.before < 2 ^ 63)
    × AreClaimed begun p.known d.claims × AreDone begun at p.entry.stamp ds ps last'
AreDone begun at last ds ps last' = ⊥

-- the file that acts found
abbrev pub found_among : Option FileNo → List Act → Option FileNo
found_among found [] = found
found_among found (act ∷ acts) = found_among (found_in found act.event act.reply) acts

-- an agent's labels after a command that came out by this sequence: only one that is answered Ok changes them
abbrev pub labels_after : Labels → Command → Sequence → Labels
labels_after labels c s =
    if is_ok s.reply then after_task (record { labels = labels; found = found_among None s.acts }) (Some (record { block = 0; task = Ask c })) else labels

-- one command more, after those of which `Earlier` is true: its entries are a whole sequence of it
pub record DidOneMore (Earlier : Labels → List Paired → At → Type 0) (begun : ℕ → Option State) (c : Option Command) (labels : Labels) (ps : List Paired) (at : At) : Type 0 where
  pub labels_before : Labels
  pub earlier : List Paired
  pub at_before : At
  pub before : Earlier labels_before earlier at_before
  pub command : Command
  pub command_is : c ≡ Some command
  pub outcome : Outcome
  pub acts : Sequence
  pub is_one : command_acts labels_before command outcome ≡ Some acts
  pub made : List Paired
  pub log_is : ps ≡ earlier ++ made
  pub done : AreDone begun at_before at_before.last (deeds_of acts) made at.last
  pub at_is : at ≡ record at_before { command = at_before.command + 1; last = at.last }
  pub labels_are : labels ≡ labels_after labels_before command acts

-- An agent did the first m of these commands, one after another, beginning with these labels and where `first` says:
-- its entries are whole sequences of them, in order, and now it has `labels` and comes next to `at`.
unfoldable pub HasDone : (ℕ → Option State) → List Command → Labels → At → ℕ → Labels → List Paired → At → Type 0
HasDone begun commands at_first first zero labels ps at = (labels ≡ at_first) × (ps ≡ []) × (at ≡ first)
HasDone begun commands at_first first (suc m) labels ps at =
    DidOneMore (HasDone begun commands at_first first m) begun (slice_get commands m) labels ps at

-- histories with some entries after them
abbrev pub grown : (ℕ → List Entry) → List Entry → ℕ → List Entry
grown f log n = f n ++ on n log

abbrev pub before_at : (ℕ → List Entry) → List Entry → Place → List Entry
before_at f seen (Object n) = grown f seen n.0
before_at f seen Own = []

-- what somebody knows who sees all objects: their states before, and their histories with the entries seen
abbrev pub known_all : (ℕ → Option State) → (ℕ → List Entry) → List Entry → ℕ → Option Known
known_all begun f seen o = option_map (λ s. record { start = s; history = grown f seen o }) (begun o)

-- each entry of a list, after those seen, beside what is known by somebody who sees all objects
unfoldable pub paired_on : (ℕ → Option State) → (ℕ → List Entry) → List Entry → List Entry → List Paired
paired_on begun f seen [] = []
paired_on begun f seen (e ∷ es) =
    (record { before = before_at f seen e.object; known = known_all begun f seen; entry = e }) ∷ paired_on begun f (seen ++ e ∷ []) es
