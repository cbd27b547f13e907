-- How a run ends where no kernel begins with its image.
use Rattle.std.proofs.Common.{◌≡◌, ap, ◌∙◌, subst}
use Rattle.std.specs.Prelude.{Err}
use Rattle.ho_io.specs.Told.{behind, with_item}
use Rattle.ho_io.specs.declared.host.Way.TheVariants.{Open}
use Rattle.handover_cli.specs.Due.{WroteFront}
use Rattle.handover_cli.specs.ImageRefusals.{image_line}
use Rattle.handover_cli.specs.Images.{Seen, seen}
use Rattle.handover_cli.specs.Resumes.{UnlessFault}
use Rattle.handover_cli.specs.declared.status.Status.TheVariants.{Memory, ReadFault}
use Rattle.handover_cli.proofs.ImageLoads.{told_unfit}
use Rattle.handover_cli.proofs.Stopping.{image_stops, image_stops_by, opened_is}
use Rattle.handover_cli.proofs.resuming.begin_image.Goals.{in-Fault, in-Refused, in-Memory}
use Rattle.handover_cli.proofs.resuming.begin_image.Goals as goal

pub returns-after-unfit-clause-stopped : goal.returns-after-unfit-clause-stopped
returns-after-unfit-clause-stopped g c =
    let told = g.H.Host.holds c.args.host.now c.args.name.now in
    let before : Seen = seen (g.H.Host.out c.args.host.now) (g.H.Host.made c.args.host.now) (g.H.Host.asked c.args.host.now) in
    let kept = c.boot_named.ensures in
    elim c.match-unfit.branch [
      | in-Fault w ↦
          image_stops_by told c.args.name.now before g.H.Host.out g.H.Host.made g.H.Host.asked c.match-unfit.host c.boot_named.new.host c.match-unfit.result ReadFault w.host-is w.result-is kept.out_kept
      | in-Refused w ↦
          let why = w.as_str.result.now in
          let line = image_line why in
          let due = told_unfit told why c.in-Err.unfit w.in-Refused.words w.in-Refused.is w.as_str.ensures.value c.in-Err.ensures.unfit in
          let opened = subst (λ r. UnlessFault r (g.H.Host.asked c.boot_named.new.host ≡ with_item (g.H.Host.asked c.args.host.now) (Open, c.args.name.now))) (c.in-Err.is ∙ ap Err w.in-Refused.is) kept.opened in
          let of = w.refuse_image.ensures in
          image_stops_by told c.args.name.now before g.H.Host.out g.H.Host.made g.H.Host.asked c.match-unfit.host w.refuse_image.new.host c.match-unfit.result w.refuse_image.result w.host-is w.result-is
          (image_stops told c.args.name.now before (seen (g.H.Host.out w.refuse_image.new.host) (g.H.Host.made w.refuse_image.new.host) (g.H.Host.asked w.refuse_image.new.host)) line due w.refuse_image.result
          (λ h. of.whole h ∙ ap (λ o. behind o line) kept.out_kept)
          (λ h. subst (λ o. WroteFront (λ text. text ≡ line) o (g.H.Host.out w.refuse_image.new.host)) kept.out_kept (of.part h))
          (λ h. opened_is (g.H.Host.out c.args.host.now) (g.H.Host.out w.refuse_image.new.host) (g.H.Host.made c.args.host.now) (g.H.Host.made w.refuse_image.new.host) (g.H.Host.asked c.args.host.now) (g.H.Host.asked w.refuse_image.new.host) c.args.name.now (of.silent h ∙ kept.out_kept) (of.made_kept ∙ kept.made_kept) (of.asked_kept ∙ opened))
          of.not_done of.not_usage of.not_read of.not_script)
      | in-Memory w ↦
          let opened = subst (λ r. UnlessFault r (g.H.Host.asked c.boot_named.new.host ≡ with_item (g.H.Host.asked c.args.host.now) (Open, c.args.name.now))) (c.in-Err.is ∙ ap Err w.in-Memory.is) kept.opened in
          image_stops_by told c.args.name.now before g.H.Host.out g.H.Host.made g.H.Host.asked c.match-unfit.host c.boot_named.new.host c.match-unfit.result Memory w.host-is w.result-is
          (opened_is (g.H.Host.out c.args.host.now) (g.H.Host.out c.boot_named.new.host) (g.H.Host.made c.args.host.now) (g.H.Host.made c.boot_named.new.host) (g.H.Host.asked c.args.host.now) (g.H.Host.asked c.boot_named.new.host) c.args.name.now kept.out_kept kept.made_kept opened)
    ]
