use Rattle.std.proofs.Common.{◌≡◌, ◌∷◌, [], refl, subst}
use Rattle.std.specs.Bool.{MatchBool}
use Rattle.ho_events.specs.declared.reply.Reply.TheVariants.{ScratchSmall}
use Rattle.ho_world.specs.Logs.{end_with}
use Rattle.freeze_path.specs.Ready.{DidDeeds}
use Rattle.freeze_path.proofs.Results.{did_small}
use Rattle.freeze_path.proofs.freezing.refuse_small.Goals as goal

pub returns-then-done-clause-came : goal.returns-then-done-clause-came
returns-then-done-clause-came c =
    did_small c.args.kernel c.args.at c.args.blob c.end_alone-kernel.result.1.items c.args.blob.frames c.args.have c.has_pool.ensures refl c.requires.have c.requires.small
    (subst (λ b. MatchBool b (DidDeeds c.args.kernel c.args.at (end_with (ScratchSmall c.args.blob.frames c.args.have) ∷ []) c.end_alone-kernel.result.1.items) (c.end_alone-kernel.result.1.items ≡ [])) c.if-done.true
    c.end_alone-kernel.ensures.done)
