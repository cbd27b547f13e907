-- A script's work that is done, block by block and command by command.
use Rattle.std.specs.Prelude.{◌≡◌, ℕ, ◌+◌, Bool, true, not, ◌&&◌, ◌||◌, ◌==◌, nat_lt, nat_le, List, [], ◌∷◌, ◌++◌, Option, None, Some}
use Rattle.ho_events.specs.declared.command.Command.{Command}
use Rattle.ho_events.specs.declared.entry.Entry.{Entry}
use Rattle.ho_events.specs.declared.script.AgentWork.{AgentWork}
use Rattle.ho_events.specs.declared.script.Block.{Block}
use Rattle.ho_events.specs.declared.script.Block.TheVariants.{Round, Kexec}
use Rattle.ho_world.specs.World.{World}
use Rattle.ho_world.specs.Tasks.{Ask, Reboot}
use Rattle.ho_world.specs.Legal.{block_of}
use Rattle.ho_world.specs.Readings.{IsDone}

-- the commands of an agent from number n on, in block b, are done
abbrev pub CommandsDone : World → List Block → List Entry → ℕ → ℕ → ℕ → List Command → Type 0
CommandsDone start blocks es b a n [] = Unit {0}
CommandsDone start blocks es b a n (c ∷ cs) =
    IsDone start blocks es a n (record { block = b; task = Ask c }) × CommandsDone start blocks es b a (n + 1) cs

abbrev pub WorksDone : World → List Block → List Entry → ℕ → List AgentWork → Type 0
WorksDone start blocks es b [] = Unit {0}
WorksDone start blocks es b (work ∷ works) =
    CommandsDone start blocks es b work.agent.0 work.first work.commands × WorksDone start blocks es b works

-- the work of some blocks, from number b on, before which k - 1 kexecs stood, is done
unfoldable pub BlocksDone : World → List Block → List Entry → ℕ → ℕ → List Block → Type 0
BlocksDone start blocks es b k [] = Unit {0}
BlocksDone start blocks es b k (Round works ∷ more) = WorksDone start blocks es b works × BlocksDone start blocks es (b + 1) k more
BlocksDone start blocks es b k (Kexec blob ∷ more) =
    IsDone start blocks es 0 k (record { block = b; task = Reboot blob }) × BlocksDone start blocks es (b + 1) (k + 1) more

-- the entry is of this kernel or a later one, of a later command where it is this agent's, and of no earlier
-- block
abbrev pub is_not_below : ℕ → Option ℕ → Bool
is_not_below b None = true
is_not_below b (Some c) = nat_le b c

abbrev pub is_following : List Block → ℕ → ℕ → ℕ → ℕ → Entry → Bool
is_following blocks kernel a n b e =
    nat_le kernel e.kernel && (not (e.agent.0 == a) || nat_lt n e.command) && is_not_below b (block_of blocks e)
