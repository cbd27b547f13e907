-- A script that binds each label of an agent once, and makes memfds alone: through all its blocks the running kernel's
-- world is sound.
use Rattle.std.specs.Prelude.{◌≡◌, ℕ, ◌+◌, Bool, true, false, List, [], ◌++◌, take, IsTrue, Option, Some}
use Rattle.std.specs.List.{list_all}
use Rattle.ho_base.specs.ShapeRule.{Layout}
use Rattle.ho_base.specs.declared.numbers.Blob.{Blob}
use Rattle.ho_events.specs.Script.{script_of}
use Rattle.ho_events.specs.Script.Rules.{sections_of}
use Rattle.ho_events.specs.declared.entry.Entry.{Entry}
use Rattle.ho_events.specs.declared.script.AgentWork.{AgentWork}
use Rattle.ho_events.specs.declared.script.Block.{Block}
use Rattle.ho_events.specs.declared.script.Script.{Script}
use Rattle.ho_events.specs.declared.slip.At.{At}
use Rattle.ho_world.specs.Alone.{IsRoundOf, IsAlone}
use Rattle.ho_world.specs.Entries.{is_ok}
use Rattle.ho_world.specs.Legal.{labels_now}
use Rattle.ho_world.specs.Sequences.{Labels}
use Rattle.ho_world.specs.Through.{HasRisingNumbers, IsThrough}
use Rattle.ho_world.specs.World.{State, World, cold}
use Rattle.balance_laws.specs.Keeps.{no_labels}
use Rattle.balance_laws.specs.Sound.{Sound}
use Rattle.kexec_laws.specs.Kexecs.{IsKexecOf, IsKexeced}
use Rattle.sound_histories.specs.Binding.{makes_memfds, bound_in, sections_bind_once, HasOnly}
use Rattle.sound_histories.specs.Blocks.{IsSoundAfter}

-- blocks bind each label of an agent once at most, and make memfds alone
abbrev pub memfds_in : AgentWork → Bool
memfds_in work = list_all makes_memfds work.commands

pub record AreSoundBlocks (blocks : List Block) : Type 0 where
  pub once : IsTrue (sections_bind_once [] (sections_of blocks))
  pub memfds : IsTrue (list_all memfds_in (sections_of blocks))

-- After the entries of the first b blocks the world of kernel k is sound, and no agent has a label but those that its
-- commands of these blocks bind.
pub record StandsSound (start : World) (blocks : List Block) (es : List Entry) (b k : ℕ) : Type 0 where
  pub sound : IsSoundAfter start blocks es k
  pub bound : (a : ℕ) → HasOnly (labels_now blocks k a es) (bound_in [] (sections_of (take b blocks))) a

-- the blocks of each script that is read so far are of this kind
abbrev pub ReadIsSound : Type 0
ReadIsSound = (fresh : Bool) (bytes : List ℕ) (script : Script) → script_of fresh bytes ≡ Some script → AreSoundBlocks script.blocks

-- a sound world in which no agent has a label, before the first block
abbrev pub BegunStands : Type 0
BegunStands = (start : World) (blocks : List Block) → Sound start no_labels → StandsSound start blocks [] 0 0

-- a machine that is switched on, before the first block
abbrev pub ColdStands : Type 0
ColdStands = (shape : Layout) (blocks : List Block) → StandsSound (cold shape) blocks [] 0 0

-- a round that one agent does alone
abbrev pub RoundStands : Type 0
RoundStands =
    (start : World) (blocks : List Block) (es new : List Entry) (b k : ℕ) (work : AgentWork) (begun : ℕ → Option State) (labels later : Labels)
    → AreSoundBlocks blocks → HasRisingNumbers blocks → IsRoundOf blocks b work → IsThrough start blocks es b k
    → IsAlone start blocks es new k work begun labels later → StandsSound start blocks es b k
    → StandsSound start blocks (es ++ new) (b + 1) k

-- a kexec that is refused;  one that is answered Ok
abbrev pub RefusedStands : Type 0
RefusedStands =
    (start : World) (blocks : List Block) (es new : List Entry) (b k : ℕ) (blob : Blob) (at : At) (begun : ℕ → Option State)
    → HasRisingNumbers blocks → IsKexecOf blocks b blob at.command → IsThrough start blocks es b k
    → (did : IsKexeced start es new k blob at begun) → is_ok did.acts.reply ≡ false → StandsSound start blocks es b k
    → StandsSound start blocks (es ++ new) (b + 1) k

abbrev pub EndedStands : Type 0
EndedStands =
    (start : World) (blocks : List Block) (es new : List Entry) (b k : ℕ) (blob : Blob) (at : At) (begun : ℕ → Option State)
    → HasRisingNumbers blocks → IsKexecOf blocks b blob at.command → IsThrough start blocks es b k
    → (did : IsKexeced start es new k blob at begun) → is_ok did.acts.reply ≡ true → StandsSound start blocks es b k
    → StandsSound start blocks (es ++ new) (b + 1) (k + 1)
