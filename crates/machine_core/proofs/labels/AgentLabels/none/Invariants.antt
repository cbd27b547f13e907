use Rattle.std.proofs.Common.{◌≡◌, ◌≤◌, map, replicate, vec_len, vec_capacity}
use Rattle.std.specs.FinMap as finmap
use Rattle.machine_core.specs.LabelsShown.{agent_count, bound_in}
use Rattle.machine_core.proofs.labels.AgentLabels.none.Given as goal

-- the lists so far have no labels
abbrev pub invariant-loop-agent : goal.invariant-loop-agent
invariant-loop-agent l =
    (vec_len l.lists ≡ l._agent)
    × (map bound_in l.lists.items ≡ replicate l._agent finmap.empty)
    × (agent_count ≤ vec_capacity l.lists)
