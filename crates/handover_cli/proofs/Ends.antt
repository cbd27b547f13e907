-- What an ended kernel left lets the next one boot, and that one follows it.
use Rattle.std.proofs.Common.{◌≡◌, ℕ, ◌+◌, ◌<◌, ◌≤◌, true, List, Result, Ok, Err, IfOk, refl, sym, ap, subst, ◌∙◌}
use Rattle.ho_base.specs.ShapeRule.{Layout}
use Rattle.ho_base.specs.declared.limits.TheConstants.{KEXECS}
use Rattle.ho_world.specs.Frozen.{frozen, scratch_need, scratch_have}
use Rattle.ho_world.specs.World.{World}
use Rattle.kexec_boot.specs.Begins.{BeginsAs}
use Rattle.machine_core.specs.Kernels.{KernelValue}
use Rattle.machine_core.specs.Worlds.{IsWorldOf}
use Rattle.ho_events.specs.declared.script.AgentWork.{AgentWork}
use Rattle.ho_events.specs.declared.script.Block.{Block}
use Rattle.ho_events.specs.declared.script.Block.TheVariants.{Round}
use Rattle.handover_cli.specs.declared.rebooting.BlockDone.{BlockDone}
use Rattle.handover_cli.specs.Ends.{DidAndLeft, LeftAs, has_ended, CanGoOn, RunsAs}
use Rattle.handover_cli.specs.Works.{FollowsAs}
use Rattle.handover_cli.specs.declared.rebooting.Next.{Next}
use Rattle.handover_cli.specs.declared.rebooting.Next.TheVariants as next

pub follows : (old : KernelValue) (n : Next) (kernel' : KernelValue) → LeftAs old n → RunsAs n kernel' → FollowsAs (has_ended n) old kernel'
follows old (next.Same kernel) kernel' left runs = runs ∙ left
follows old (next.Ended e) kernel' left boots =
    λ w is. subst (λ k. BeginsAs (k + 1) (frozen w) kernel') left.kernel (boots (frozen w) (left.carries w is))

pub can_go_on : (old : KernelValue) (n : Next) → LeftAs old n → (w : World) × IsWorldOf old w → (has_ended n ≡ true → old.number < KEXECS) → CanGoOn n
can_go_on old (next.Same kernel) left w few = tt
can_go_on old (next.Ended e) left w few = record {
  state = frozen w.0;
  carries = left.carries w.0 w.1;
  shape = left.same_shape w.0 w.1 ∙ sym left.shape;
  memfds = left.memfds w.0 w.1;
  fits = subst (λ (s : Layout). scratch_need s e.blob ≤ scratch_have s) (sym left.shape) left.fits;
  few = subst (λ k. k < KEXECS) (sym left.kernel) (few refl);
}

-- a round that was done, with whatever number the next kexec has
pub round_left : {E : Type 0} (r : Result BlockDone E) (number : ℕ) (kernel : KernelValue) (works given : List AgentWork) (block : Block) → block ≡ Round works → given ≡ works
    → IfOk r (λ d. (n : ℕ) → DidAndLeft n (Round given) kernel d.entries.items d.next) → IfOk r (λ d. DidAndLeft number block kernel d.entries.items d.next)
round_left (Ok d) number kernel works given block is same h = subst (λ b. DidAndLeft number b kernel d.entries.items d.next) (ap (λ ws. Round ws) same ∙ sym is) (h number)
round_left (Err e) number kernel works given block is same h = tt
