-- What the lines of a script have said so far.
use Rattle.std.specs.Prelude.{ℕ, ◌+◌, ◌-◌, Bool, true, false, ◌&&◌, ◌==◌, if◌then◌else◌, List, [], ◌∷◌, ◌++◌, length, position, replicate, slice_index, slice_set, Option, Some, None, unwrap_or, option_to_list}
use Rattle.std.specs.List.{list_any}
use Rattle.ho_base.specs.ShapeRule.{Layout}
use Rattle.ho_base.specs.declared.limits.TheConstants.{AGENTS}
use Rattle.ho_base.specs.declared.shape.Area.{Area}
use Rattle.ho_events.specs.Lists.{same_bytes}
use Rattle.ho_events.specs.declared.command.Command.{Command}
use Rattle.ho_events.specs.declared.command.Command.TheVariants.{Memfd, Device, Retrieve}
use Rattle.ho_events.specs.declared.line.Line.{Line}
use Rattle.ho_events.specs.declared.line.Line.TheVariants.{Machine, Scratch, Fail, Round, Agent, Kexec, Command as Act}
use Rattle.ho_events.specs.declared.script.AgentWork.{AgentWork}
use Rattle.ho_events.specs.declared.script.Block.{Block}
use Rattle.ho_events.specs.declared.script.Block.TheVariants as block
use Rattle.ho_events.specs.declared.script.Fail as plan

-- whether the script is a fresh one; the machine's frames, and its shape once a scratch line stood; the
-- planned failures; the agents in order of first naming, and for each how many commands it has; the blocks
-- before the open round; whether a round is open, its sections before the last one, and the last one; the
-- numbers of rounds, kexecs and commands; the labels that are bound, each with the number of its agent
pub record Reading : Type 0 where
  pub fresh : Bool
  pub frames : Option ℕ
  pub shape : Option Layout
  pub fails : List plan.Fail
  pub agents : List (List ℕ)
  pub counts : List ℕ
  pub blocks : List Block
  pub open_round : Bool
  pub works : List AgentWork
  pub section : Option AgentWork
  pub rounds : ℕ
  pub kexecs : ℕ
  pub commands : ℕ
  pub labels : List (ℕ × List ℕ)

-- before the first line
abbrev pub nothing_read : Bool → Reading
nothing_read fresh = record {
  fresh = fresh;
  frames = None;
  shape = None;
  fails = [];
  agents = [];
  counts = replicate AGENTS 0;
  blocks = [];
  open_round = false;
  works = [];
  section = None;
  rounds = 0;
  kexecs = 0;
  commands = 0;
  labels = [];
}

-- the scratch areas so far
abbrev pub areas_of : Option Layout → List Area
areas_of None = []
areas_of (Some shape) = shape.scratch

-- the sections of the open round, and all blocks so far
abbrev pub sections : Reading → List AgentWork
sections r = r.works ++ option_to_list r.section

abbrev pub blocks_so_far : Reading → List Block
blocks_so_far r = (if r.open_round then r.blocks ++ block.Round (sections r) ∷ [] else r.blocks)

-- what has been read once the open round is over
abbrev pub closed : Reading → Reading
closed r = record r { blocks = blocks_so_far r; open_round = false; works = []; section = None }

-- the place of an agent among those that were named; a new one comes last, and its number is one more than its place
abbrev pub place_of : List (List ℕ) → List ℕ → Option ℕ
place_of agents name = position (same_bytes name) agents

abbrev pub agents_with : List (List ℕ) → List ℕ → Option ℕ → List (List ℕ)
agents_with agents name (Some i) = agents
agents_with agents name None = agents ++ name ∷ []

-- the beginning of an agent's section: its commands go on from its last one of the whole script
abbrev pub begun : List ℕ → ℕ → AgentWork
begun counts i = record { agent = record { 0 = i + 1 }; first = slice_index counts i + 1; commands = [] }

abbrev pub with_agent : Reading → List ℕ → Reading
with_agent r name = record r {
  agents = agents_with r.agents name (place_of r.agents name);
  section = Some (begun r.counts (unwrap_or (place_of r.agents name) (length r.agents)));
}

-- the label that a command binds
abbrev pub label_of : Command → Option (List ℕ)
label_of (Memfd label order) = Some label
label_of (Device label kind size) = Some label
label_of (Retrieve name token label) = Some label
label_of command = None

-- the same label of the same agent
abbrev pub same_label : ℕ × List ℕ → ℕ × List ℕ → Bool
same_label a b = a.0 == b.0 && same_bytes a.1 b.1

-- whether an agent's command has bound this one already
abbrev pub is_bound : List (ℕ × List ℕ) → ℕ → Option (List ℕ) → Bool
is_bound labels agent None = false
is_bound labels agent (Some label) = list_any (same_label (agent, label)) labels

-- whether the agent of a section has bound this label already
abbrev pub is_bound_by : List (ℕ × List ℕ) → Option AgentWork → Option (List ℕ) → Bool
is_bound_by labels None label = false
is_bound_by labels (Some work) label = is_bound labels work.agent.0 label

-- the labels that are bound once an agent's command bound this one
abbrev pub with_label : List (ℕ × List ℕ) → ℕ → Option (List ℕ) → List (ℕ × List ℕ)
with_label labels agent None = labels
with_label labels agent (Some label) = labels ++ (agent, label) ∷ []

-- what has been read once a command of a section stands
abbrev pub with_command : Reading → Option AgentWork → Command → Reading
with_command r None command = r
with_command r (Some work) command = record r {
  counts = slice_set r.counts (work.agent.0 - 1) (slice_index r.counts (work.agent.0 - 1) + 1);
  section = Some (record work { commands = work.commands ++ command ∷ [] });
  commands = r.commands + 1;
  labels = with_label r.labels work.agent.0 (label_of command);
}

-- what has been read once a line is taken
unfoldable pub with_line : Reading → Line → Reading
with_line r (Machine n) = record r { frames = Some n }
with_line r (Scratch area) =
    record r { shape = Some (record { frames = unwrap_or r.frames 0; scratch = areas_of r.shape ++ area ∷ [] }) }
with_line r (Fail fail) = record r { fails = r.fails ++ fail ∷ [] }
with_line r Round = record (closed r) { open_round = true; rounds = r.rounds + 1 }
with_line r (Kexec blob) = record (closed r) { blocks = blocks_so_far r ++ block.Kexec blob ∷ []; kexecs = r.kexecs + 1 }
with_line r (Agent name) = with_agent (record r { works = sections r; section = None }) name
with_line r (Act command) = with_command r r.section command
