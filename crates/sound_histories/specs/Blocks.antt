-- Blocks of a script, one after another, keep the world sound in which the kernel runs.
use Rattle.std.specs.Prelude.{◌≡◌, ℕ, ◌+◌, true, false, List, ◌++◌, Option}
use Rattle.ho_base.specs.declared.numbers.Blob.{Blob}
use Rattle.ho_events.specs.declared.entry.Entry.{Entry}
use Rattle.ho_events.specs.declared.script.AgentWork.{AgentWork}
use Rattle.ho_events.specs.declared.script.Block.{Block}
use Rattle.ho_events.specs.declared.slip.At.{At}
use Rattle.ho_world.specs.Alone.{IsRoundOf, IsAlone}
use Rattle.ho_world.specs.Entries.{is_ok, world_of}
use Rattle.ho_world.specs.Legal.{labels_now}
use Rattle.ho_world.specs.Sequences.{Labels}
use Rattle.ho_world.specs.Through.{HasRisingNumbers, IsThrough}
use Rattle.ho_world.specs.World.{State, World}
use Rattle.kexec_laws.specs.Kexecs.{IsKexecOf, IsKexeced}
use Rattle.balance_laws.specs.Sound.{Sound}
use Rattle.sound_histories.specs.Kept.{AllMayCome}

-- the world of kernel k after some entries is sound, with the labels that these entries give to the agents
abbrev pub IsSoundAfter : World → List Block → List Entry → ℕ → Type 0
IsSoundAfter start blocks es k = Sound (world_of start es k) (λ a. labels_now blocks k a es)

-- a round that one agent does alone, where its commands may come with the labels that it has before
abbrev pub RoundKeeps : Type 0
RoundKeeps =
    (start : World) (blocks : List Block) (es new : List Entry) (b k : ℕ) (work : AgentWork) (begun : ℕ → Option State) (labels later : Labels)
    → HasRisingNumbers blocks → IsRoundOf blocks b work → IsThrough start blocks es b k → IsAlone start blocks es new k work begun labels later
    → AllMayCome labels work.commands → IsSoundAfter start blocks es k
    → IsSoundAfter start blocks (es ++ new) k

-- a kexec that is refused: the same kernel runs on
abbrev pub RefusedBlockKeeps : Type 0
RefusedBlockKeeps =
    (start : World) (blocks : List Block) (es new : List Entry) (b k : ℕ) (blob : Blob) (at : At) (begun : ℕ → Option State)
    → HasRisingNumbers blocks → IsKexecOf blocks b blob at.command → IsThrough start blocks es b k
    → (did : IsKexeced start es new k blob at begun) → is_ok did.acts.reply ≡ false → IsSoundAfter start blocks es k
    → IsSoundAfter start blocks (es ++ new) k

-- a kexec that is answered Ok: the next kernel runs
abbrev pub EndedBlockKeeps : Type 0
EndedBlockKeeps =
    (start : World) (blocks : List Block) (es new : List Entry) (b k : ℕ) (blob : Blob) (at : At) (begun : ℕ → Option State)
    → HasRisingNumbers blocks → IsKexecOf blocks b blob at.command → IsThrough start blocks es b k
    → (did : IsKexeced start es new k blob at begun) → is_ok did.acts.reply ≡ true → IsSoundAfter start blocks es k
    → IsSoundAfter start blocks (es ++ new) (k + 1)
