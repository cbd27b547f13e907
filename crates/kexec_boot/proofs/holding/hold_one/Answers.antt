use Rattle.std.proofs.Common.{◌≡◌, ◌≤◌, sym, subst}
use Rattle.std.specs.Prelude.{IfOk}
use Rattle.ho_base.specs.declared.limits.TheConstants.{FILE_BYTES}
use Rattle.kexec_boot.proofs.HeldSteps.{held_with, size_is}
use Rattle.kexec_boot.proofs.holding.hold_one.Goals as goal

pub held-requires-clause-within : goal.held-requires-clause-within
held-requires-clause-within c =
    subst (λ n. n ≤ FILE_BYTES) (sym (size_is c.args.home c.args.file c.args.folios.items c.requires.fits c.requires.long c.size_of.result c.size_of.ensures)) c.requires.fits.within

pub held-requires-clause-position : goal.held-requires-clause-position
held-requires-clause-position c =
    subst (λ n. c.args.file.position ≤ n) (sym (size_is c.args.home c.args.file c.args.folios.items c.requires.fits c.requires.long c.size_of.result c.size_of.ensures)) c.requires.fits.position

pub returns-clause-start : goal.returns-clause-start
returns-clause-start c =
    subst (λ s. IfOk c.held.result (λ f. f.start ≡ s)) (held_with c.args.home c.args.file c.args.folios.items c.requires.fits c.requires.long c.size_of.result c.size_of.ensures) c.held.ensures.start
