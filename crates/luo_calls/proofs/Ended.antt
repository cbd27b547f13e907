-- How a command ended, by its last stamp alone.
use Rattle.std.proofs.Common.{◌≡◌, List, [], sym, subst}
use Rattle.std.specs.Prelude.{Result, IfOk, IfErr}
use Rattle.std.specs.Prelude as result
use Rattle.std.specs.Global.{Vec}
use Rattle.ho_events.specs.declared.command.Command.{Command}
use Rattle.ho_events.specs.declared.reply.Reply.{Reply}
use Rattle.ho_events.specs.declared.slip.At.{At}
use Rattle.ho_world.specs.Sequences.{Labels}
use Rattle.phys_frames.specs.Homes.{HomeId}
use Rattle.phys_frames.specs.Memory.{FolioValue, AreOf}
use Rattle.machine_core.specs.Agents.{Agent}
use Rattle.machine_core.specs.declared.halt.Halt.{Halt}
use Rattle.machine_core.specs.Commands.{Comes, Halts}
use Rattle.luo_calls.specs.Came.{CameTo, IsHalted}
use Rattle.luo_calls.specs.declared.commands.command.Outcome.{Outcome}
use Rattle.luo_calls.specs.declared.commands.command.Outcome.TheVariants.{Done, Halted}

-- no folio is of any home
none_of : (home : HomeId) (folios : List FolioValue) → folios ≡ [] → AreOf home folios
none_of home folios is = subst (AreOf home) (sym is) tt

module _ (labels labels' : Labels) (command same : Command) (at at' : At) (a a' : Agent) (is : command ≡ same) where
  comes_at : (reply : Reply) → Comes labels labels' same reply at at' a a' → Comes labels labels' command reply at (record at { last = at'.last }) a a'
  comes_at reply h =
      subst (λ (k : Command). Comes labels labels' k reply at (record at { last = at'.last }) a a') (sym is)
      (subst (λ (t : At). Comes labels labels' same reply at t a a') h.goes.at_is h)

  halts_at : (halt : Halt) → Halts labels labels' same halt at at' a a' → Halts labels labels' command halt at at' a a'
  halts_at halt h = subst (λ (k : Command). Halts labels labels' k halt at at' a a') (sym is) h

  -- a command that never has folios in hand
  pub came_bare : (r : Result Reply Halt) (outcome : Outcome) → IfOk r (λ reply. Comes labels labels' same reply at at' a a') → IfErr r (λ halt. Halts labels labels' same halt at at' a a') → IfOk r (λ reply. outcome ≡ Done reply at'.last) → IfErr r (λ halt. IsHalted outcome halt) → CameTo labels labels' command at a a' outcome
  came_bare (result.Ok reply) outcome comes halts done halted = subst (CameTo labels labels' command at a a') (sym done) (comes_at reply comes)
  came_bare (result.Err halt) (Done reply last) comes halts done halted = absurd halted
  came_bare (result.Err halt) (Halted folios h) comes halts done halted =
      (at', (subst (λ (x : Halt). Halts labels labels' command x at at' a a') (sym halted.0) (halts_at halt halts), none_of a.anchor.home folios.items halted.1))

  -- one that gives up those that it had in hand
  pub came_full : (r : Result Reply (Vec FolioValue × Halt)) (outcome : Outcome) → IfOk r (λ reply. Comes labels labels' same reply at at' a a') → IfErr r (λ h. Halts labels labels' same h.1 at at' a a') → IfErr r (λ h. AreOf a.anchor.home h.0.items) → IfOk r (λ reply. outcome ≡ Done reply at'.last) → IfErr r (λ h. outcome ≡ Halted h.0 h.1) → CameTo labels labels' command at a a' outcome
  came_full (result.Ok reply) outcome comes halts given done halted = subst (CameTo labels labels' command at a a') (sym done) (comes_at reply comes)
  came_full (result.Err h) outcome comes halts given done halted = subst (CameTo labels labels' command at a a') (sym halted) (at', (halts_at h.1 halts, given))

-- where it is said for all labels, it holds of these
module _ {E : Type 0} (labels : Labels) (command : Command) (at at' : At) (a a' : Agent) (r : Result Reply E) where
  pub comes_for : IfOk r (λ reply. (l : Labels) → Comes l l command reply at at' a a') → IfOk r (λ reply. Comes labels labels command reply at at' a a')
  comes_for h = go r h
    where
      go : (r : Result Reply E) → IfOk r (λ reply. (l : Labels) → Comes l l command reply at at' a a') → IfOk r (λ reply. Comes labels labels command reply at at' a a')
      go (result.Ok reply) h = h labels
      go (result.Err e) h = tt

  pub halts_for : (halt_of : E → Halt) → IfErr r (λ e. (l : Labels) → Halts l l command (halt_of e) at at' a a') → IfErr r (λ e. Halts labels labels command (halt_of e) at at' a a')
  halts_for halt_of h = go r h
    where
      go : (r : Result Reply E) → IfErr r (λ e. (l : Labels) → Halts l l command (halt_of e) at at' a a') → IfErr r (λ e. Halts labels labels command (halt_of e) at at' a a')
      go (result.Ok reply) h = tt
      go (result.Err e) h = h labels
