-- How a command of an agent ended.
use Rattle.std.specs.Prelude.{◌≡◌, []}
use Rattle.ho_events.specs.declared.command.Command.{Command}
use Rattle.ho_events.specs.declared.slip.At.{At}
use Rattle.ho_world.specs.Sequences.{Labels}
use Rattle.phys_frames.specs.Memory.{AreOf}
use Rattle.machine_core.specs.Agents.{Agent}
use Rattle.machine_core.specs.Commands.{Comes, Halts}
use Rattle.machine_core.specs.declared.halt.Halt.{Halt}
use Rattle.luo_calls.specs.declared.commands.command.Outcome.{Outcome}
use Rattle.luo_calls.specs.declared.commands.command.Outcome.TheVariants.{Done, Halted}

-- it came to its end with this reply and last stamp; or it halts, and the folios that it gives up are of this machine
abbrev pub CameTo : Labels → Labels → Command → At → Agent → Agent → Outcome → Type 0
CameTo labels labels' command at a a' (Done reply last) = Comes labels labels' command reply at (record at { last = last }) a a'
CameTo labels labels' command at a a' (Halted folios halt) = (at' : At) × (Halts labels labels' command halt at at' a a' × AreOf a.anchor.home folios.items)

-- it halts so, and gives up no folio
abbrev pub IsHalted : Outcome → Halt → Type 0
IsHalted (Done reply last) halt = ⊥
IsHalted (Halted folios h) halt = (h ≡ halt) × (folios.items ≡ [])
