use Rattle.std.proofs.Common.{refl}
use Rattle.std.specs.Prelude as result
use Rattle.luo_calls.proofs.Ended.{came_bare, came_full}
use Rattle.luo_calls.specs.declared.commands.command.Outcome.TheVariants.{Halted}
use Rattle.luo_incoming.proofs.Others.{others}
use Rattle.luo_incoming.proofs.commands.command.do_command.Goals as goal

pub returns-in-Ok : goal.returns-in-Ok
returns-in-Ok g c = record {
  came = came_bare c.args.labels.now.bound _ _ _ _ _ _ _ c.in-Open.is (result.Ok c.in-Ok.reply) _ (c.in-Ok.ensures.comes c.args.labels.now.bound) tt refl tt;
}

pub returns-in-Err : goal.returns-in-Err
returns-in-Err g c = record {
  came =
      came_bare c.args.labels.now.bound _ _ _ _ _ _ _ c.in-Open.is (result.Err c.in-Err.halt) (Halted c.new.result c.in-Err.halt) tt
      (c.in-Err.ensures.halts c.args.labels.now.bound) tt (refl, c.new.ensures.items);
}

pub returns-in-Err-retrieve : goal.returns-in-Err-retrieve
returns-in-Err-retrieve g c = record {
  came =
      came_bare _ _ _ _ _ _ _ _ c.in-Retrieve.is (result.Err c.in-Err-retrieve.halt) (Halted c.new-in-Err-retrieve.result c.in-Err-retrieve.halt) tt
      c.in-Err-retrieve.ensures.halts tt (refl, c.new-in-Err-retrieve.ensures.items);
}

pub returns-in-Ok-finish : goal.returns-in-Ok-finish
returns-in-Ok-finish g c = record {
  came =
      came_full c.args.labels.now.bound _ _ _ _ _ _ _ c.in-Finish.is (result.Ok c.in-Ok-finish.reply) _
      (c.in-Ok-finish.ensures.comes c.args.labels.now.bound) tt tt refl tt;
}

pub returns-in-Err-finish : goal.returns-in-Err-finish
returns-in-Err-finish g c = record {
  came =
      came_full c.args.labels.now.bound _ _ _ _ _ _ _ c.in-Finish.is (result.Err (c.in-Err-finish.folios, c.in-Err-finish.halt)) _ tt
      (c.in-Err-finish.ensures.halts c.args.labels.now.bound) c.in-Err-finish.ensures.given_up tt refl;
}

pub do_command-requires-clause-here : goal.do_command-requires-clause-here
do_command-requires-clause-here g c = others c.args.command.now c.requires.here c.in_default.not-Open c.in_default.not-Retrieve c.in_default.not-Finish
