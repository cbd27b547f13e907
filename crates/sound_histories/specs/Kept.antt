-- What an agent does alone, and a kexec, keep a kernel's world sound.
use Rattle.std.specs.Prelude.{◌≡◌, ℕ, true, false, List, [], ◌∷◌, Option, Some}
use Rattle.ho_base.specs.declared.numbers.Blob.{Blob}
use Rattle.ho_events.specs.declared.command.Command.{Command}
use Rattle.ho_events.specs.declared.entry.Entry.{Entry}
use Rattle.ho_events.specs.declared.slip.At.{At}
use Rattle.ho_world.specs.Acts.{Sequence}
use Rattle.ho_world.specs.Entries.{is_ok}
use Rattle.ho_world.specs.Frozen.{frozen, next}
use Rattle.ho_world.specs.Logs.{AreDone, HasDone, deeds_of, grown, labels_after, paired_on}
use Rattle.ho_world.specs.Sequences.{Labels, Outcome, command_acts}
use Rattle.ho_world.specs.Sequences.Kexecs.{KexecOutcome, kexec_acts}
use Rattle.ho_world.specs.World.{State, World}
use Rattle.balance_laws.specs.Acted.{Acted}
use Rattle.balance_laws.specs.Keeps.{MayCome, no_labels, relabeled}
use Rattle.balance_laws.specs.Sound.{Sound}
use Rattle.sound_histories.specs.Worlds.{world_on, BeganIn, AreRuns}

-- Commands of an agent that has these labels may come one after another: the first one may come, and the others may
-- come with the labels that it leaves, whatever its outcome is.
unfoldable pub AllMayCome : Labels → List Command → Type 0
AllMayCome labels [] = Unit {0}
AllMayCome labels (c ∷ cs) =
    MayCome labels c × ((outcome : Outcome) (s : Sequence) → command_acts labels c outcome ≡ Some s → AllMayCome (labels_after labels c s) cs)

-- The first m of these commands, done by one agent alone, lead from a sound world to a sound one. All agents' labels
-- were `labels`; this agent's are `later` afterwards.
abbrev pub WorkKeeps : Type 0
WorkKeeps =
    (w : World) (begun : ℕ → Option State) (f : ℕ → List Entry) (labels : ℕ → Labels) (a : ℕ) (commands : List Command) (first last : At) (m : ℕ) (later : Labels) (new : List Entry)
    → BeganIn w begun → AreRuns w (grown f new) → Sound (world_on w f) labels → AllMayCome (labels a) commands
    → HasDone begun commands (labels a) first m later (paired_on begun f [] new) last
    → Sound (world_on w (grown f new)) (relabeled labels a later)

-- a kexec of a sound world that is answered Ok freezes what this world has: its own take of frames changes nothing of it
abbrev pub TakenFreezesSame : Type 0
TakenFreezesSame =
    (labels : ℕ → Labels) (begun : ℕ → State) (w v : World) (blob : Blob) (outcome : KexecOutcome) (s : Sequence) → Sound w labels → kexec_acts w blob outcome ≡ Some s → is_ok s.reply ≡ true
    → v.number ≡ w.number → Acted begun w s.acts v → frozen v ≡ frozen w

-- The entries `new` are a whole sequence of a kexec of the world to which the histories `f` lead: after a refusal the
-- world is sound as before, with the same labels; after an Ok the next kernel's world is sound, without a label.
abbrev pub KexecKeeps : Type 0
KexecKeeps =
    (w : World) (begun : ℕ → Option State) (f : ℕ → List Entry) (labels : ℕ → Labels) (at : At) (last last' : ℕ) (blob : Blob) (outcome : KexecOutcome) (s : Sequence) (new : List Entry)
    → BeganIn w begun → AreRuns w (grown f new) → Sound (world_on w f) labels → kexec_acts (world_on w f) blob outcome ≡ Some s
    → AreDone begun at last (deeds_of s) (paired_on begun f [] new) last' → is_ok s.reply ≡ false
    → Sound (world_on w (grown f new)) labels

abbrev pub KexecBeginsSound : Type 0
KexecBeginsSound =
    (w : World) (begun : ℕ → Option State) (f : ℕ → List Entry) (labels : ℕ → Labels) (at : At) (last last' : ℕ) (blob : Blob) (outcome : KexecOutcome) (s : Sequence) (new : List Entry)
    → BeganIn w begun → AreRuns w (grown f new) → Sound (world_on w f) labels → kexec_acts (world_on w f) blob outcome ≡ Some s
    → AreDone begun at last (deeds_of s) (paired_on begun f [] new) last' → is_ok s.reply ≡ true
    → Sound (next (frozen (world_on w (grown f new)))) no_labels
