use Rattle.ho_events.specs.declared.command.Command.TheVariants as command
use Rattle.machine_core.specs.declared.halt.Halt.{Halt}
use Rattle.luo_calls.proofs.Ended.{came_bare, came_full, comes_for, halts_for}
use Rattle.luo_calls.proofs.commands.command.do_command.Goals as goal

pub returns-in-Create : goal.returns-in-Create
returns-in-Create g c = record {
  came =
      came_bare _ _ _ (command.Create c.in-Create.name) _ _ _ _ c.in-Create.is c.create-came.result _
      (comes_for c.args.labels.now.bound _ _ _ _ _ _ c.create-came.ensures.comes)
      (halts_for c.args.labels.now.bound _ _ _ _ _ _ (λ h. h) c.create-came.ensures.halts)
      c.ended_bare-in-Create.ensures.done c.ended_bare-in-Create.ensures.halted;
}

pub returns-in-Close : goal.returns-in-Close
returns-in-Close g c = record {
  came =
      came_full _ _ _ (command.Close c.in-Close.name) _ _ _ _ c.in-Close.is c.close-came.result _
      (comes_for c.args.labels.now.bound _ _ _ _ _ _ c.close-came.ensures.comes)
      (halts_for c.args.labels.now.bound _ _ _ _ _ _ (λ h. h.1) c.close-came.ensures.halts)
      c.close-came.ensures.given_up c.ended-in-Close.ensures.done c.ended-in-Close.ensures.halted;
}
