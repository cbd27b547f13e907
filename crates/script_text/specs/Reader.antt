-- What contracts see of a script's reader.
use Rattle.std.specs.Prelude.{ℕ, ◌≤◌, Bool, true, ◌&&◌, nat_le, Option, Some, None, IsTrue, length, slice_index}
use Rattle.std.specs.Option.{option_map}
use Rattle.ho_base.specs.declared.limits.TheConstants.{AGENTS, COMMANDS}
use Rattle.ho_events.specs.Script.SoFar.{Reading}
use Rattle.ho_events.specs.declared.script.AgentWork.{AgentWork}
use Rattle.script_text.specs.declared.reader.Section.{Section}
use Rattle.script_text.specs.declared.reader.Reader.TheInside.{Inside}

abbrev pub work_of : Section → AgentWork
work_of s = record { agent = s.agent; first = s.first; commands = s.commands.items }

abbrev pub reading_of : Inside → Reading
reading_of r = record {
  fresh = r.fresh;
  frames = r.frames;
  shape = r.shape;
  fails = r.fails.items;
  agents = r.agents.items;
  counts = r.counts;
  blocks = r.blocks.items;
  open_round = r.open_round;
  works = r.works.items;
  section = option_map work_of r.section;
  rounds = r.rounds;
  kexecs = r.kexecs;
  commands = r.commands;
  labels = r.labels;
}

-- a section is that of one of the agents that a script may have
abbrev pub is_within : Option Section → Bool
is_within None = true
is_within (Some s) = nat_le 1 s.agent.0 && nat_le s.agent.0 AGENTS

-- no agent has more commands than the script; the script has no more commands and no more agents than it may have
pub record Fits (r : Inside) : Type 0 where
  pub counted : (k : ℕ) → slice_index r.counts k ≤ r.commands
  pub few : r.commands ≤ COMMANDS
  pub named : length r.agents.items ≤ AGENTS
  pub within : IsTrue (is_within r.section)
