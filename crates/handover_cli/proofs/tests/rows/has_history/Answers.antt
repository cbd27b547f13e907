use Rattle.std.proofs.Common.{List, ℕ, nat_eq, refl, ap, map, ◌∙◌}
use Rattle.std.specs.Cmp.Lexicographic.{pointwise}
use Rattle.std.specs.Prelude.{Some, string_bytes}
use Rattle.handover_cli.proofs.Shown.{shown_if}
use Rattle.handover_cli.proofs.tests.rows.has_history.Goals as goal

pub returns-in-Done : goal.returns-in-Done
returns-in-Done c = λ has.
    shown_if c.args.script.now c.run.new.host.out c.args.history.now _ c.in_ok-host.host.held _ _ c.eq.result (ap (λ ws. map string_bytes ws) c.as_slice-2.ensures.value ∙ c.in_ok-words.ensures)
    c.in_ok-host.ensures.holds (ap (λ (t : List ℕ). Some t) c.in_ok-host.ensures.out) refl (c.run.ensures.legal c.in-Done.is) (c.eq.ensures ∙ ap (λ (t : List ℕ). pointwise nat_eq t c.args.history.now) c.out.ensures) has
