-- One agent that works alone in a round: what it did command by command makes the round's entries.
use Rattle.std.specs.Prelude.{◌≡◌, ◌≢◌, ℕ, ◌+◌, ◌<◌, List, [], ◌∷◌, ◌++◌, length, is_some, slice_get, IsTrue, Option, Some}
use Rattle.ho_events.specs.declared.command.Command.{Command}
use Rattle.ho_events.specs.declared.entry.Entry.{Entry}
use Rattle.ho_events.specs.declared.script.AgentWork.{AgentWork}
use Rattle.ho_events.specs.declared.script.Block.{Block}
use Rattle.ho_events.specs.declared.script.Block.TheVariants.{Round}
use Rattle.ho_events.specs.declared.script.Script.{Script}
use Rattle.ho_events.specs.declared.slip.At.{At}
use Rattle.ho_events.specs.History.{on, greatest_stamp}
use Rattle.ho_events.specs.Script.Rules.{is_numbered}
use Rattle.ho_world.specs.World.{State, World, run}
use Rattle.ho_world.specs.Entries.{in_kernel, beginning}
use Rattle.ho_world.specs.Tasks.{Ask, Due, due_of}
use Rattle.ho_world.specs.Legal.{kernel_due, labels_now}
use Rattle.ho_world.specs.Logs.{HasDone, paired_on}
use Rattle.ho_world.specs.Sequences.{Labels}
use Rattle.ho_world.specs.Through.{IsThrough, IsNext, HasRisingNumbers}

-- block b is a round in which this agent alone works, and in no other block a task of these numbers is due
pub record IsRoundOf (blocks : List Block) (b : ℕ) (work : AgentWork) : Type 0 where
  pub is_there : slice_get blocks b ≡ Some (Round (work ∷ []))
  pub due : (i : ℕ) (c : Command) → slice_get work.commands i ≡ Some c → due_of blocks work.agent.0 (work.first + i) ≡ Some (record { block = b; task = Ask c })
  pub alone : (a n : ℕ) (d : Due) → due_of blocks a n ≡ Some d → d.block ≡ b → a ≡ work.agent.0
  pub place : (a n : ℕ) (d : Due) → due_of blocks a n ≡ Some d → d.block ≡ b → (i : ℕ) × (n ≡ work.first + i) × (i < length work.commands)

-- where an agent's work on kernel k begins, after these entries
abbrev pub first_at : ℕ → AgentWork → List Entry → At
first_at k work es = record {
  kernel = k;
  agent = work.agent;
  command = work.first;
  last = greatest_stamp (in_kernel k es);
}

-- The entries `new` are all that an agent, working alone on kernel k after the entries `es`, did of its work: whole
-- sequences of its commands, in order, and a run of each object's steps. Its labels were `labels`, and are `later`
-- afterwards. `begun` has the states in which the kernel's objects began.
pub record IsAlone (start : World) (blocks : List Block) (es new : List Entry) (k : ℕ) (work : AgentWork) (begun : ℕ → Option State) (labels later : Labels) : Type 0 where
  pub kernel : kernel_due es ≡ k
  pub agent : 0 < work.agent.0
  pub begun_is : (o : ℕ) (s : State) → begun o ≡ Some s → (beginning start es k).at o ≡ s
  pub labels_are : labels ≡ labels_now blocks k work.agent.0 es
  pub last : At
  pub done : HasDone begun work.commands labels (first_at k work es) (length work.commands) later (paired_on begun (λ o. on o (in_kernel k es)) [] new) last
  pub objects : (o : ℕ) → IsTrue (is_some (run ((beginning start es k).at o) (on o (in_kernel k es ++ new))))

-- what such a round gives: the history goes through one block more, the agent's labels are what its entries say, all
-- other agents' labels stay, and the last stamp is the greatest of the kernel
pub record GivesRound (start : World) (blocks : List Block) (es new : List Entry) (b k : ℕ) (work : AgentWork) (later : Labels) (last : ℕ) : Type 0 where
  pub next : IsNext start blocks es new b k
  pub labels : later ≡ labels_now blocks k work.agent.0 (es ++ new)
  pub others : (a : ℕ) → a ≢ work.agent.0 → labels_now blocks k a (es ++ new) ≡ labels_now blocks k a es
  pub stamp : last ≡ greatest_stamp (in_kernel k (es ++ new))

abbrev pub AloneIsNext : Type 0
AloneIsNext =
    (start : World) (blocks : List Block) (es new : List Entry) (b k : ℕ) (work : AgentWork) (begun : ℕ → Option State) (labels later : Labels)
    → HasRisingNumbers blocks → IsRoundOf blocks b work → IsThrough start blocks es b k
    → (alone : IsAlone start blocks es new k work begun labels later)
    → GivesRound start blocks es new b k work later alone.last.last

-- a round without an agent has no entry
abbrev pub IdleIsNext : Type 0
IdleIsNext =
    (start : World) (blocks : List Block) (es : List Entry) (b k : ℕ) → slice_get blocks b ≡ Some (Round [])
    → IsThrough start blocks es b k → IsNext start blocks es [] b k

-- in a numbered script each round of one agent is a block of its own tasks
abbrev pub NumberedRounds : Type 0
NumberedRounds =
    (script : Script) (b : ℕ) (work : AgentWork) → IsTrue (is_numbered script) → 0 < work.agent.0 → slice_get script.blocks b ≡ Some (Round (work ∷ [])) → IsRoundOf script.blocks b work
