use Rattle.std.proofs.Common.{◌≡◌, ◌+◌}
use Rattle.ho_world.specs.Logs.{HasDone}
use Rattle.machine_core.specs.Agents.{begun, no_hands}
use Rattle.machine_core.specs.Turns.{IsReady, TellsMore}
use Rattle.handover_cli.specs.Rounds.{SameAgent}
use Rattle.handover_cli.proofs.agent_runner.do_commands.Given as goal

-- the commands so far are done, and the next one's place in history is that of the agent
abbrev pub invariant-loop-command : goal.invariant-loop-command
invariant-loop-command g l = record {
  ready : IsReady l.next (g.R.Reach.shown l.reach);
  number : l.next.command ≡ l.fn.at.command + l.command-index;
  hands : (g.R.Reach.shown l.reach).hands ≡ no_hands;
  same : SameAgent (g.R.Reach.shown l.fn.reach) (g.R.Reach.shown l.reach);
  told : TellsMore (g.R.Reach.shown l.reach).log (g.R.Reach.shown l.fn.reach).told (g.R.Reach.shown l.reach).told;
  done : HasDone (begun (g.R.Reach.shown l.fn.reach)) l.commands l.fn.labels.bound l.fn.at l.command-index l.labels.bound (g.R.Reach.shown l.reach).log l.next;
}
