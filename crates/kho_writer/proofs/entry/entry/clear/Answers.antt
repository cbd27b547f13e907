use Rattle.std.proofs.Common.{◌≡◌, ◌^◌, ◌*◌, ℕ, length, sym, ap, ◌∙◌, rules}
use Rattle.kho_writer.proofs.Steps.{zeros_held}
use Rattle.kho_writer.proofs.entry.entry.clear.Goals as goal

pub returns-clause-blank : goal.returns-clause-blank
returns-clause-blank c =
    let size : length c.args.folio.now.bytes ≡ 4096 = ap length (sym c.bytes-page.ensures.value) ∙ c.bytes-page.ensures.len ∙ ap (λ (n : ℕ). 2 ^ n * 4096) c.requires in
    search (rules, zeros_held, size)
