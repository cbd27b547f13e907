-- The labels that an agent's entries say, and those that its commands make.
use Rattle.std.proofs.Common.{◌≡◌, ℕ, ◌+◌, Bool, true, false, List, [], ◌∷◌, ◌++◌, map, refl, sym, ap, subst, ◌∙◌, zero, suc}
use Rattle.std.specs.Prelude.{Option, None, Some, if◌then◌else◌, slice_get}
use Rattle.ho_base.specs.declared.numbers.FileNo.{FileNo}
use Rattle.ho_events.specs.File.{is_device}
use Rattle.ho_events.specs.declared.command.Command.{Command}
use Rattle.ho_events.specs.declared.command.Command.TheVariants as command
use Rattle.ho_events.specs.declared.entry.Entry.{Entry}
use Rattle.ho_events.specs.declared.reply.Reply.{Reply}
use Rattle.ho_events.specs.declared.reply.Reply.TheVariants.{Ok, OkSlot}
use Rattle.ho_events.specs.declared.event.Event.TheVariants.{RegFindIn, SessionTake}
use Rattle.ho_base.specs.declared.numbers.Token.{Token}
use Rattle.ho_events.specs.declared.script.Block.{Block}
use Rattle.ho_events.specs.declared.slip.At.{At}
use Rattle.ho_world.specs.World.{State}
use Rattle.ho_world.specs.Entries.{is_ok}
use Rattle.ho_world.specs.Acts.{Act, Sequence, registry, session}
use Rattle.ho_world.specs.Sequences.{Labels, Outcome, command_acts, MemfdCame, DeviceCame, RetrieveCame}
use Rattle.ho_world.specs.Sequences.Files.{NoNumber, Made, NoDeviceNumber, NoDeviceFrame, DeviceMade}
use Rattle.ho_world.specs.Sequences.Sessions.{NotOpened, NotGiven, NotRetrieved, MemfdTaken, DeviceTaken, RetrieveOutcome, retrieve_acts, is_take_refusal}
use Rattle.ho_world.specs.Tasks.{Ask, Due, due_of}
use Rattle.ho_world.specs.Legal.{Labeling, found_in, after_task, label_entry, labeling_from}
use Rattle.ho_world.specs.Logs.{AreDone, deed_of, end_with, found_among, labels_after, paired_on}
use Rattle.ho_world.proofs.AloneStamps.{IsNextAt, went_at}
use Rattle.ho_world.proofs.Went.{Went}

pub labeling_parts : (blocks : List Block) (l : Labeling) (xs ys : List Entry) → labeling_from blocks l (xs ++ ys) ≡ labeling_from blocks (labeling_from blocks l xs) ys
unfolding labeling_from
labeling_parts blocks l [] ys = refl
labeling_parts blocks l (x ∷ xs) ys = labeling_parts blocks (label_entry blocks l x) xs ys

none_labels : (blocks : List Block) (l : Labeling) → (labeling_from blocks l []).labels ≡ l.labels
unfolding labeling_from
none_labels blocks l = refl

-- what a task with this reply makes of the labels
abbrev made_by : Labels → Option FileNo → Option Due → Reply → Labels
made_by labels found due reply = (if is_ok reply then after_task (record { labels = labels; found = found }) due else labels)

-- one command's entries
module _ (blocks : List Block) (begun : ℕ → Option State) (f : ℕ → List Entry) (at : At) where
  chunk_labels : (l : Labeling) (last : ℕ) (acts : List Act) (reply : Reply) (seen es : List Entry) (last' : ℕ)
      → AreDone begun at last (map deed_of acts ++ end_with reply ∷ []) (paired_on begun f seen es) last'
      → (labeling_from blocks l es).labels ≡ made_by l.labels (found_among l.found acts) (due_of blocks at.agent.0 at.command) reply
  unfolding AreDone paired_on labeling_from
  chunk_labels l last [] reply seen [] last' h = absurd h
  chunk_labels l last [] reply seen (e ∷ []) last' h = ap (λ x. (label_entry blocks l x).labels) h.0
  chunk_labels l last [] reply seen (e ∷ d ∷ es) last' h = absurd h.4
  chunk_labels l last (act ∷ acts) reply seen [] last' h = absurd h
  chunk_labels l last (act ∷ acts) reply seen (e ∷ es) last' h =
      ap (λ x. (labeling_from blocks (label_entry blocks l x) es).labels) h.0
      ∙ chunk_labels (record { labels = l.labels; found = found_in l.found act.event act.reply }) e.stamp acts reply (seen ++ e ∷ []) es last' h.4

-- The file that a command binds is one that its own acts found: an earlier one isn't seen.

abbrev Forgets : Labels → Command → Option FileNo → Option Sequence → Type 0
Forgets labels c found None = Unit {0}
Forgets labels c found (Some s) =
    made_by labels (found_among found s.acts) (Some (record { block = 0; task = Ask c })) s.reply ≡ labels_after labels c s

other : (labels : Labels) (found : Option FileNo) (o : Option Sequence) (c : Command) → ((found : Option FileNo) → after_task (record { labels = labels; found = found }) (Some (record { block = 0; task = Ask c })) ≡ after_task (record { labels = labels; found = None }) (Some (record { block = 0; task = Ask c }))) → Forgets labels c found o
other labels found None c same = tt
other labels found (Some s) c same =
    ap (λ x. if is_ok s.reply then x else labels) (same (found_among found s.acts) ∙ sym (same (found_among None s.acts)))

refused : (labels : Labels) (found : Option FileNo) (c : Command) (s : Sequence) → is_ok s.reply ≡ false → Forgets labels c found (Some s)
refused labels found c s is =
    ap (λ b. if b then after_task (record { labels = labels; found = found_among found s.acts }) (Some (record { block = 0; task = Ask c })) else labels) is
    ∙ sym (ap (λ b. if b then after_task (record { labels = labels; found = found_among None s.acts }) (Some (record { block = 0; task = Ask c })) else labels) is)

only_where : (labels : Labels) (found : Option FileNo) (c : Command) (b : Bool) (o : Option Sequence) → (b ≡ true → Forgets labels c found o) → Forgets labels c found (if b then o else None)
only_where labels found c true o h = h refl
only_where labels found c false o h = tt

not_ok : (x : Reply) → is_take_refusal x ≡ true → is_ok x ≡ false
not_ok Ok h = absurd cc
not_ok x h = refl

retrieved : (labels : Labels) (found : Option FileNo) (name : List ℕ) (t : Token) (label : List ℕ) (x : RetrieveOutcome) → Forgets labels (command.Retrieve name t label) found (retrieve_acts name t x)
retrieved labels found name t label NotOpened = refl
retrieved labels found name t label (NotGiven s x) =
    only_where labels found (command.Retrieve name t label) (is_take_refusal x) _ (λ is. refused labels found (command.Retrieve name t label) (record { acts = registry (RegFindIn name) (OkSlot s) ∷ session s [] (SessionTake name t) x ∷ []; reply = x }) (not_ok x is))
retrieved labels found name t label (NotRetrieved s f k handle m) = only_where labels found (command.Retrieve name t label) (is_device k) _ (λ is. refl)
retrieved labels found name t label (MemfdTaken s f o handle) = refl
retrieved labels found name t label (DeviceTaken s f k handle bound) = only_where labels found (command.Retrieve name t label) (is_device k) _ (λ is. refl)

forgets : (labels : Labels) (c : Command) (found : Option FileNo) (x : Outcome) → Forgets labels c found (command_acts labels c x)
forgets labels (command.Memfd label o) found (MemfdCame NoNumber) = refl
forgets labels (command.Memfd label o) found (MemfdCame (Made f)) = refl
forgets labels (command.Memfd label o) found x = tt
forgets labels (command.Device label kind size) found (DeviceCame NoDeviceNumber) = refl
forgets labels (command.Device label kind size) found (DeviceCame (NoDeviceFrame f)) = refl
forgets labels (command.Device label kind size) found (DeviceCame (DeviceMade f p)) = refl
forgets labels (command.Device label kind size) found x = tt
forgets labels (command.Retrieve name t label) found (RetrieveCame x) = retrieved labels found name t label x
forgets labels (command.Retrieve name t label) found x = tt
forgets labels c found x = other labels found (command_acts labels c x) c (λ g. refl)

-- a command's task in any block
due_labels : (labels : Labels) (c : Command) (found : Option FileNo) (x : Outcome) (s : Sequence) (b : ℕ) (due : Option Due) → command_acts labels c x ≡ Some s → due ≡ Some (record { block = b; task = Ask c })
    → made_by labels (found_among found s.acts) due s.reply ≡ labels_after labels c s
due_labels labels c found x s b due is due_is =
    ap (λ d. made_by labels (found_among found s.acts) d s.reply) due_is ∙ subst (Forgets labels c found) is (forgets labels c found x)

-- what an agent's entries say is what its commands made
module _ (blocks : List Block) (begun : ℕ → Option State) (f : ℕ → List Entry) (commands : List Command) (labels_first : Labels) (first : At) (b : ℕ) (l : Labeling) (is_first : l.labels ≡ labels_first)
    (due : (i : ℕ) (c : Command) → slice_get commands i ≡ Some c → due_of blocks first.agent.0 (first.command + i) ≡ Some (record { block = b; task = Ask c })) where
  pub went_labels : (m : ℕ) (labels : Labels) (es : List Entry) (at : At) → Went begun f commands labels_first first m labels es at → (labeling_from blocks l es).labels ≡ labels
  unfolding Went
  went_labels zero labels es at h = ap (λ xs. (labeling_from blocks l xs).labels) h.1 ∙ none_labels blocks l ∙ is_first ∙ sym h.0
  went_labels (suc m) labels es at h =
      let before : IsNextAt first m h.at_before = went_at begun f commands labels_first first m h.labels_before h.front h.at_before h.before in
      let front : Labeling = labeling_from blocks l h.front in
      let is_before : front.labels ≡ h.labels_before = went_labels m h.labels_before h.front h.at_before h.before in
      let task : due_of blocks h.at_before.agent.0 h.at_before.command ≡ Some (record { block = b; task = Ask h.command }) =
      ap (λ a. due_of blocks a h.at_before.command) before.agent ∙ ap (λ n. due_of blocks first.agent.0 n) before.command ∙ due m h.command h.command_is in
      ap (λ xs. (labeling_from blocks l xs).labels) h.parts
      ∙ ap (λ (x : Labeling). x.labels) (labeling_parts blocks l h.front h.chunk)
      ∙ chunk_labels blocks begun f h.at_before front h.at_before.last h.acts.acts h.acts.reply h.front h.chunk at.last h.done
      ∙ ap (λ x. made_by x (found_among front.found h.acts.acts) (due_of blocks h.at_before.agent.0 h.at_before.command) h.acts.reply) is_before
      ∙ due_labels h.labels_before h.command front.found h.outcome h.acts b (due_of blocks h.at_before.agent.0 h.at_before.command) h.is_one task
      ∙ sym h.labels_are
