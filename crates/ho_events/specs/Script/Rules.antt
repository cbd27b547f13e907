-- What holds of a script, whatever bytes spell it: the numbers of its commands, and their arguments.
use Rattle.std.specs.Prelude.{ℕ, ◌+◌, Bool, true, false, not, ◌&&◌, ◌==◌, nat_le, if◌then◌else◌, List, [], ◌∷◌, ◌++◌, length}
use Rattle.std.specs.List.{list_all}
use Rattle.ho_base.specs.declared.limits.TheConstants.{MIN_FRAMES, MAX_FRAMES, MAX_ORDER, WRITE_BYTES, DEVICE_BYTES, READ_BYTES, AGENTS, KEXECS, COMMANDS}
use Rattle.ho_events.specs.Script.Unbuilt.{is_unbuilt_verb}
use Rattle.ho_events.specs.declared.command.Command.{Command}
use Rattle.ho_events.specs.declared.command.Command.TheVariants as command
use Rattle.ho_events.specs.declared.line.Line.{Line}
use Rattle.ho_events.specs.declared.line.Line.TheVariants as line
use Rattle.ho_events.specs.declared.line.Verb.{Verb}
use Rattle.ho_events.specs.declared.line.Verb.TheVariants as verb
use Rattle.ho_events.specs.declared.script.AgentWork.{AgentWork}
use Rattle.ho_events.specs.declared.script.Block.{Block}
use Rattle.ho_events.specs.declared.script.Block.TheVariants as block
use Rattle.ho_events.specs.declared.script.Script.{Script}

-- the sections of some blocks in order
abbrev pub sections_of : List Block → List AgentWork
sections_of [] = []
sections_of (block.Round works ∷ blocks) = works ++ sections_of blocks
sections_of (block.Kexec blob ∷ blocks) = sections_of blocks

-- how many commands an agent has in some sections
abbrev pub commands_of : ℕ → List AgentWork → ℕ
commands_of agent [] = 0
commands_of agent (work ∷ works) = (if work.agent.0 == agent then length work.commands else 0) + commands_of agent works

-- each section's first command is the next one of its agent, after those of the earlier sections
abbrev pub are_numbered : List AgentWork → List AgentWork → Bool
are_numbered earlier [] = true
are_numbered earlier (work ∷ works) =
    work.first == commands_of work.agent.0 earlier + 1 && are_numbered (earlier ++ work ∷ []) works

-- the commands of each agent are numbered from 1 on over the whole script
abbrev pub is_numbered : Script → Bool
is_numbered script = are_numbered [] (sections_of script.blocks)

-- What a line of each first word says: its kind, and the ranges of its arguments that their types don't have.
abbrev pub is_said : Verb → Line → Bool
is_said verb.Machine (line.Machine n) = nat_le MIN_FRAMES n && nat_le n MAX_FRAMES
is_said verb.Scratch (line.Scratch area) = nat_le area.first.0 MAX_FRAMES && nat_le area.count MAX_FRAMES
is_said verb.Fail (line.Fail fail) = nat_le fail.kernel KEXECS && nat_le 1 fail.nth && nat_le fail.nth 1000000
is_said verb.Round line.Round = true
is_said verb.Agent (line.Agent name) = true
is_said verb.Kexec (line.Kexec blob) = nat_le 1 blob.frames && nat_le blob.frames MAX_FRAMES
is_said verb.Memfd (line.Command (command.Memfd label order)) = nat_le order.0 MAX_ORDER
is_said verb.Device (line.Command (command.Device label kind size)) = nat_le 1 size && nat_le size DEVICE_BYTES
is_said verb.Write (line.Command (command.Write label offset bytes)) = nat_le 1 (length bytes) && nat_le (length bytes) WRITE_BYTES
is_said verb.Fill (line.Command (command.Fill label offset len byte)) = nat_le 1 len
is_said verb.Read (line.Command (command.Read label offset len)) = nat_le len READ_BYTES
is_said verb.Truncate (line.Command (command.Truncate label size)) = true
is_said verb.Seek (line.Command (command.Seek label position)) = true
is_said verb.Tell (line.Command (command.Tell label)) = true
is_said verb.CloseFd (line.Command (command.CloseFd label)) = true
is_said verb.Create (line.Command (command.Create name)) = true
is_said verb.Preserve (line.Command (command.Preserve name token label)) = true
is_said verb.Close (line.Command (command.Close name)) = true
is_said verb.Open (line.Command (command.Open name)) = true
is_said verb.Retrieve (line.Command (command.Retrieve name token label)) = true
is_said verb.Finish (line.Command (command.Finish name)) = true
is_said v l = false

-- the first word of a command
abbrev pub word_of : Command → Verb
word_of (command.Memfd label order) = verb.Memfd
word_of (command.Device label kind size) = verb.Device
word_of (command.Write label offset bytes) = verb.Write
word_of (command.Fill label offset len byte) = verb.Fill
word_of (command.Read label offset len) = verb.Read
word_of (command.Truncate label size) = verb.Truncate
word_of (command.Seek label position) = verb.Seek
word_of (command.Tell label) = verb.Tell
word_of (command.CloseFd label) = verb.CloseFd
word_of (command.Create name) = verb.Create
word_of (command.Preserve name token label) = verb.Preserve
word_of (command.Close name) = verb.Close
word_of (command.Open name) = verb.Open
word_of (command.Retrieve name token label) = verb.Retrieve
word_of (command.Finish name) = verb.Finish

-- a command that a script of this stage may have
abbrev pub is_built : Command → Bool
is_built c = is_said (word_of c) (line.Command c) && not (is_unbuilt_verb (word_of c))

abbrev pub is_built_work : AgentWork → Bool
is_built_work work = list_all is_built work.commands

abbrev pub is_built_block : Block → Bool
is_built_block (block.Round works) = list_all is_built_work works
is_built_block (block.Kexec blob) = nat_le 1 blob.frames && nat_le blob.frames MAX_FRAMES

-- the scripts of this stage
abbrev pub is_built_script : Script → Bool
is_built_script script = list_all is_built_block script.blocks

-- how many commands some sections have
abbrev pub total_commands : List AgentWork → ℕ
total_commands [] = 0
total_commands (work ∷ works) = length work.commands + total_commands works

-- a round has one section at most, as only such rounds are built
abbrev pub is_alone : Block → Bool
is_alone (block.Round works) = nat_le (length works) 1
is_alone (block.Kexec blob) = true

-- how many kexecs stand in some blocks; each of them ends a kernel
abbrev pub kexecs_in : List Block → ℕ
kexecs_in [] = 0
kexecs_in (block.Round works ∷ blocks) = kexecs_in blocks
kexecs_in (block.Kexec blob ∷ blocks) = 1 + kexecs_in blocks

-- a script has no more commands than it may have, one section at most in each round, and no more kexecs than it may
-- have
abbrev pub is_small_script : Script → Bool
is_small_script script =
    nat_le (total_commands (sections_of script.blocks)) COMMANDS
    && (list_all is_alone script.blocks && nat_le (kexecs_in script.blocks) KEXECS)

-- A script's agents so far work one after another: no failures are planned, and each block is a kexec, or a round of
-- at most one section, of an agent whose number is from 1 to 15.
abbrev pub is_agent_section : AgentWork → Bool
is_agent_section work = nat_le 1 work.agent.0 && nat_le work.agent.0 AGENTS

abbrev pub is_single_block : Block → Bool
is_single_block (block.Round works) = nat_le (length works) 1 && list_all is_agent_section works
is_single_block (block.Kexec blob) = true

abbrev pub is_single_script : Script → Bool
is_single_script script = length script.fails == 0 && list_all is_single_block script.blocks
