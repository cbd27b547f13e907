use Rattle.std.proofs.Common.{refl, sym, ap, ◌∙◌, arith}
use Rattle.std.specs.List.{list_all}
use Rattle.ho_base.specs.declared.numbers.Pfn.{Pfn}
use Rattle.record_frames.specs.Rules.{is_run}
use Rattle.records_bench.proofs.CarrySteps.{file_can}
use Rattle.records_bench.proofs.checks.is_carried_file.Goals as goal

pub returns-clause-can : goal.returns-clause-can
returns-clause-can c = λ h.
    file_can c.args.frames c.args.file.now (sym c.if-not-has_limits.ensures) (sym c.if-not-has_runs.ensures) (c.if-not-is_memfd.ensures.kind refl) (c.if-not-is_memfd.ensures.handle refl)
    c.fits.ensures (omega (arith, c.if-len.false, c.len.ensures))
    (ap (list_all (λ (p : Pfn). is_run c.args.frames c.args.file.now.order.0 p.0)) (sym c.as_slice.ensures) ∙ sym c.are_runs.ensures ∙ h)
