use Rattle.std.proofs.Common.{◌≡◌, ◌∙◌, ap, length, subst, sym, arith}
use Rattle.kho_writer.specs.Folios.{CarryIt, OtherBytes}
use Rattle.freeze_path.proofs.Handing.{written_over}
use Rattle.freeze_path.proofs.freezing.written.Goals as goal

pub returns-clause-same : goal.returns-clause-same
returns-clause-same c =
    let long : c.args.folios.len ≡ length c.args.folios.items = omega (arith, c.args.folios.ok) in
    subst (OtherBytes c.args.folios.items) (sym (written_over c.args.folios.len c.write.new.folios c.args.folios.items (c.write.auto.folios ∙ ap length c.as_mut_slice.ensures.value) long)) (subst (λ l. OtherBytes l c.write.new.folios) c.as_mut_slice.ensures.value c.write.ensures.same)

pub returns-clause-carry : goal.returns-clause-carry
returns-clause-carry c =
    let long : c.args.folios.len ≡ length c.args.folios.items = omega (arith, c.args.folios.ok) in
    subst (CarryIt c.args.ready.carried) (sym (written_over c.args.folios.len c.write.new.folios c.args.folios.items (c.write.auto.folios ∙ ap length c.as_mut_slice.ensures.value) long)) c.write.ensures.carries
