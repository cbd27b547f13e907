-- What an agent has to do: commands, and for agent 0 the kexecs of the script.
use Rattle.std.specs.Prelude.{◌≡◌, ℕ, ◌+◌, ◌-◌, ◌&&◌, ◌==◌, nat_le, if◌then◌else◌, List, [], ◌∷◌, slice_get, Option, None, Some}
use Rattle.ho_base.specs.declared.numbers.Blob.{Blob}
use Rattle.ho_events.specs.declared.command.Command.{Command}
use Rattle.ho_events.specs.declared.script.AgentWork.{AgentWork}
use Rattle.ho_events.specs.declared.script.Block.{Block}
use Rattle.ho_events.specs.declared.script.Block.TheVariants.{Round, Kexec}

-- one task: a command of an agent, or a reboot into a blob
pub data Task : Type 0 where
  Ask : Command → Task
  Reboot : Blob → Task

-- a task and the block in which it stands
pub record Due : Type 0 where
  pub block : ℕ
  pub task : Task

-- the first that is there
abbrev pub or_else : {T : Type 0} → Option T → Option T → Option T
or_else None other = other
or_else (Some x) other = Some x

-- the command of this number in an agent's work
abbrev pub command_in : AgentWork → ℕ → Option Command
command_in work n = (if nat_le work.first n then slice_get work.commands (n - work.first) else None)

abbrev pub command_among : List AgentWork → ℕ → ℕ → Option Command
command_among [] a n = None
command_among (work ∷ works) a n = or_else (if work.agent.0 == a then command_in work n else None) (command_among works a n)

abbrev pub asked_in : ℕ → Option Command → Option Due
asked_in b None = None
asked_in b (Some c) = Some (record { block = b; task = Ask c })

-- the task of this number of an agent, among blocks from number b on, before which k - 1 kexecs stood
unfoldable pub due_from : ℕ → ℕ → List Block → ℕ → ℕ → Option Due
due_from b k [] a n = None
due_from b k (Round works ∷ blocks) a n = or_else (asked_in b (command_among works a n)) (due_from (b + 1) k blocks a n)
due_from b k (Kexec blob ∷ blocks) a n =
    if a == 0 && n == k then Some (record { block = b; task = Reboot blob }) else due_from (b + 1) (k + 1) blocks a n

-- the task of this number of an agent
abbrev pub due_of : List Block → ℕ → ℕ → Option Due
due_of blocks a n = due_from 0 1 blocks a n
