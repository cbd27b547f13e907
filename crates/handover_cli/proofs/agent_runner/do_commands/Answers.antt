-- Nothing is done at first, and each command that is done is one more.
use Rattle.std.proofs.Common.{refl, ◌∙◌, arith}
use Rattle.handover_cli.proofs.Rounds.{none_done, one_command, still_ready, still_same, still_told, tells_none, item_at}
use Rattle.handover_cli.proofs.agent_runner.do_commands.Goals as goal

pub loop-command-init : goal.loop-command-init
loop-command-init g c = record {
  ready = c.requires.ready;
  number = omega arith;
  hands = c.requires.free;
  same = record { number = refl; anchor = refl; starts = refl; earlier = refl };
  told = tells_none _ _ c.requires.fresh;
  done = none_done _ _ _ _ _ c.requires.fresh;
}

pub loop-command-preserved : goal.loop-command-preserved
loop-command-preserved g c =
    let came = c.in-Done.ensures.came in
    let before = c.loop-command.invariant in
    record {
      ready = still_ready _ _ _ _ _ _ _ _ before.ready came;
      number = omega (arith, before.number);
      hands = came.goes.hands ∙ before.hands;
      same = still_same _ _ _ _ _ _ _ _ _ before.same came;
      told = still_told _ _ _ _ _ _ _ _ _ before.told came;
      done = one_command _ _ _ _ _ _ _ _ _ _ _ _ _ before.same (item_at _ _ _ c.loop-command-test.true c.command-item.is) before.done came;
    }
