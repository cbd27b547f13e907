-- What contracts see of an agent's labels.
use Rattle.std.specs.Prelude.{ℕ, ◌+◌, nat_lt, List, IsTrue}
use Rattle.std.specs.List.{list_all}
use Rattle.std.specs.FinMap as finmap
use Rattle.ho_base.specs.declared.limits.TheConstants.{AGENTS, FILES}
use Rattle.ho_base.specs.declared.numbers.FileNo.{FileNo}
use Rattle.ho_world.specs.Sequences.{Labels}

-- the labels with their files, and how many more fit without memory
pub record LabelsValue : Type 0 where
  pub bound : Labels
  pub room : ℕ

abbrev pub bound_in : LabelsValue → Labels
bound_in l = l.bound

-- how many agents there may be, with agent 0
abbrev pub agent_count : ℕ
agent_count = 1 + AGENTS

-- the map that pairs show
unfoldable pub labels_of : List (List ℕ × FileNo) → Labels
labels_of pairs = finmap.from_entries pairs

-- each label is of a file number
abbrev pub AreFiles : List (List ℕ × FileNo) → Type 0
AreFiles pairs = IsTrue (list_all (λ e. nat_lt e.1.0 FILES) pairs)
