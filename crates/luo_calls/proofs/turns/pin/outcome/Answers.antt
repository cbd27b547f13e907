use mathlib.Core.List.{not-mem-nil}
use Rattle.std.proofs.Common.{ap, sym}
use Rattle.luo_calls.specs.Pins.{came_to}
use Rattle.luo_calls.proofs.PinTurns.{other_reply}
use Rattle.luo_calls.proofs.turns.pin.outcome.Goals as goal

pub drop-fills-requires : goal.drop-fills-requires
drop-fills-requires c κs = λ a m. absurd (not-mem-nil m)

pub returns-in-OkRuns : goal.returns-in-OkRuns
returns-in-OkRuns c = sym (ap (came_to c.args.order c.args.fills) c.in-OkRuns.is)

pub returns-in_default : goal.returns-in_default
returns-in_default c = sym (other_reply c.args.order c.args.fills c.args.reply c.in_default.not-OkRuns)
