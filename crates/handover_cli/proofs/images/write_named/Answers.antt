-- A file that was made has what was written.
use Rattle.std.proofs.Common.{◌∙◌, inr}
use Rattle.handover_cli.proofs.FileMade.{file_made}
use Rattle.handover_cli.proofs.images.write_named.Goals as goal

pub returns-in-Ok-write_image-clause-all : goal.returns-in-Ok-write_image-clause-all
returns-in-Ok-write_image-clause-all g c = λ _. record {
  made = file_made _ _ _ _ _ _ _ _ _
      c.shut_dst.ensures.made c.in-Ok.ensures.made_kept
      (c.in-Ok-write_image.ensures.named ∙ c.in-Ok.ensures.named)
      c.in-Ok.ensures.written c.in-Ok-write_image.ensures.all;
  asked = c.shut_dst.ensures.asked_kept ∙ c.in-Ok.ensures.asked;
}

pub returns-in-Err-clause-some : goal.returns-in-Err-clause-some
returns-in-Err-clause-some g c = λ _.
    let part = c.in-Err.ensures.part in
    inr (
      part.0,
      part.1.0,
      record {
        made = file_made _ _ _ _ _ _ _ _ _
            c.shut_dst-in-Err.ensures.made c.in-Ok.ensures.made_kept
            (c.in-Err.ensures.named ∙ c.in-Ok.ensures.named)
            c.in-Ok.ensures.written part.1.1;
        asked = c.shut_dst-in-Err.ensures.asked_kept ∙ c.in-Ok.ensures.asked;
      },
    )
