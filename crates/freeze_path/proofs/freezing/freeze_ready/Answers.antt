use Rattle.std.proofs.Common.{subst, ap, sym, ◌∙◌, length}
use Rattle.kho_writer.specs.Folios.{HasRoom, OtherBytes}
use Rattle.freeze_path.specs.Ready.{TookOn, folios_of}
use Rattle.freeze_path.proofs.Results.{need_some, has_room, froze, did_few}
use Rattle.freeze_path.proofs.freezing.freeze_ready.Goals as goal

pub take_all-kernel-requires-clause-some : goal.take_all-kernel-requires-clause-some
take_all-kernel-requires-clause-some c = need_some c.args.kernel c.args.ready c.requires.ready

pub written-frozen-requires-clause-room : goal.written-frozen-requires-clause-room
written-frozen-requires-clause-room c =
    subst (HasRoom c.args.ready.carried) (sym (c.take_all-kernel.ensures.folios ∙ ap (folios_of c.args.kernel.home) c.in-Got.is))
    (has_room c.args.kernel c.take_all-kernel.result.0 c.args.at c.args.blob c.args.ready c.take_all-kernel.result.1.items _ c.requires.ready c.take_all-kernel.ensures.stays c.has_pool.ensures
    (subst (TookOn c.args.kernel c.args.at c.args.ready.need c.take_all-kernel.result.1.items) c.in-Got.is c.take_all-kernel.ensures.took) c.carried_has_room.ensures)

pub returns-in-Got-clause-came : goal.returns-in-Got-clause-came
returns-in-Got-clause-came c =
    let eq = c.take_all-kernel.ensures.folios ∙ ap (folios_of c.args.kernel.home) c.in-Got.is in
    froze c.args.kernel c.take_all-kernel.result.0 c.args.at c.args.blob c.args.ready c.take_all-kernel.result.1.items _ c.requires.ready c.take_all-kernel.ensures.stays c.has_pool.ensures
    (subst (TookOn c.args.kernel c.args.at c.args.ready.need c.take_all-kernel.result.1.items) c.in-Got.is c.take_all-kernel.ensures.took) c.written-frozen.result c.written-frozen.ensures.carried c.written-frozen.ensures.blob
    (subst (λ l. OtherBytes l c.written-frozen.result.folios.items) eq c.written-frozen.ensures.same) (c.written-frozen.ensures.count ∙ ap length eq) c.written-frozen.ensures.carry c.carried_has_room.ensures c.requires.fits

pub returns-in-TooFew-clause-came : goal.returns-in-TooFew-clause-came
returns-in-TooFew-clause-came c =
    did_few c.args.kernel c.args.blob c.args.ready c.requires.ready c.requires.fits c.args.at c.take_all-kernel.result.1.items
    (subst (TookOn c.args.kernel c.args.at c.args.ready.need c.take_all-kernel.result.1.items) c.in-TooFew.is c.take_all-kernel.ensures.took)
