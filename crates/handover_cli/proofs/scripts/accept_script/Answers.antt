-- A script that is read is of the kinds that a run can do, and the line of a refusal is the one that is due.
use Rattle.std.proofs.Common.{◌≡◌, ◌+◌, ◌≤◌, ℕ, List, length, ap, sym, ◌∙◌, subst}
use Rattle.std.specs.Prelude.{Option, Err}
use Rattle.ho_base.specs.declared.limits.TheConstants.{SCRIPT_BYTES}
use Rattle.ho_io.specs.Told.{Tells, behind, in_front, with_item}
use Rattle.ho_io.specs.declared.host.Way.TheVariants.{Open}
use Rattle.sound_histories.proofs.Standing.{read_is_sound}
use Rattle.handover_cli.specs.Due.{WroteFront}
use Rattle.handover_cli.specs.Images.{Seen, seen}
use Rattle.handover_cli.specs.Refusals.{line_text, too_long_text}
use Rattle.handover_cli.specs.Stops.{ButFault}
use Rattle.handover_cli.specs.declared.status.Status.TheVariants.{Memory, ReadFault}
use Rattle.handover_cli.proofs.Begins.{can_run}
use Rattle.handover_cli.proofs.DueTexts.{accepted, refused, refusal_told, told_accepted, told_refused, told_spelled, too_long_told}
use Rattle.handover_cli.proofs.Stopping.{length_stops, opened_is, script_stops, stops_by, too_many}
use Rattle.handover_cli.proofs.scripts.accept_script.Goals.{in-TooLong, in-Fault, in-Memory}
use Rattle.handover_cli.proofs.scripts.accept_script.Goals as goal

pub returns-in-Ok-read-clause-ready : goal.returns-in-Ok-read-clause-ready
returns-in-Ok-read-clause-ready g c =
    let fresh = c.args.fresh in
    let told = g.H.Host.holds c.args.host.now c.args.name.now in
    let bytes = c.as_slice.result.now in
    let script = c.in-Ok-read.script in
    let all : Tells told bytes = subst (Tells told) (sym c.as_slice.ensures.value) c.in-Ok.ensures.all in
    let within : length bytes ≤ SCRIPT_BYTES = subst (λ b. length b ≤ SCRIPT_BYTES) (sym c.as_slice.ensures.value) c.in-Ok.ensures.within in
    let is = c.in-Ok-read.ensures.ok in
    record {
      read = told_spelled fresh told bytes script all is;
      accepted = told_accepted fresh told bytes all (accepted fresh bytes within script is);
      shaped = c.in-Ok-read.ensures.shaped;
      can = can_run script c.in-Ok-read.ensures.built c.in-Ok-read.ensures.numbered c.in-Ok-read.ensures.single c.in-Ok-read.ensures.small (read_is_sound fresh bytes script is);
    }

pub returns-in-Err-Bad-clause-stopped : goal.returns-in-Err-Bad-clause-stopped
returns-in-Err-Bad-clause-stopped g c =
    let fresh = c.args.fresh in
    let told = g.H.Host.holds c.args.host.now c.args.name.now in
    let bytes = c.as_slice.result.now in
    let line = line_text c.in-Err-Bad.line c.in-Err-Bad.reason in
    let all : Tells told bytes = subst (Tells told) (sym c.as_slice.ensures.value) c.in-Ok.ensures.all in
    let within : length bytes ≤ SCRIPT_BYTES = subst (λ b. length b ≤ SCRIPT_BYTES) (sym c.as_slice.ensures.value) c.in-Ok.ensures.within in
    let due = told_refused fresh told bytes line all (refused fresh bytes within _ (refusal_told fresh bytes c.in-Err-Bad.field-0 c.in-Err-Bad.line _ c.in-Err-Bad.ensures.bad c.in-Err-Bad.field-0-is)) in
    let of = c.refuse_line.ensures in
    let kept = c.read_named.ensures in
    script_stops told c.args.name.now _ _ line fresh due c.refuse_line.result
    (λ h. of.whole h ∙ ap (λ o. behind o line) kept.out_kept)
    (λ h. subst (λ o. WroteFront (λ text. text ≡ line) o (g.H.Host.out c.refuse_line.new.host)) kept.out_kept (of.part h))
    (λ h. opened_is _ _ _ _ _ _ _ (of.silent h ∙ kept.out_kept) (of.made_kept ∙ kept.made_kept) (of.asked_kept ∙ c.in-Ok.ensures.opened))
    of.not_done of.not_usage of.not_read of.not_image

pub returns-clause-stopped : goal.returns-clause-stopped
returns-clause-stopped g c =
    let told = g.H.Host.holds c.args.host.now c.args.name.now in
    let before : Seen = seen (g.H.Host.out c.args.host.now) (g.H.Host.made c.args.host.now) (g.H.Host.asked c.args.host.now) in
    let kept = c.read_named.ensures in
    elim c.match-error.branch [
      | in-TooLong w ↦
          let is = too_many (λ bytes. (rest : Option (List ℕ)) × (told ≡ in_front bytes rest)) c.read_named.result c.in-Err.error w.in-TooLong.field-0 c.in-Err.is w.in-TooLong.is kept.front in
          let count = too_many (λ bytes. length bytes ≡ SCRIPT_BYTES + 1) c.read_named.result c.in-Err.error w.in-TooLong.field-0 c.in-Err.is w.in-TooLong.is kept.too_long in
          let due = too_long_told c.args.fresh told w.in-TooLong.field-0.items is.0 is.1 count in
          stops_by told c.args.name.now before g.H.Host.out g.H.Host.made g.H.Host.asked c.match-error.host w.refuse_length.new.host c.match-error.result w.refuse_length.result w.host-is w.result-is c.args.fresh
          (length_stops told c.args.name.now before (seen (g.H.Host.out w.refuse_length.new.host) (g.H.Host.made w.refuse_length.new.host) (g.H.Host.asked w.refuse_length.new.host)) too_long_text c.args.fresh due w.refuse_length.result
          (λ h. w.refuse_length.ensures.whole h ∙ ap (λ o. behind o too_long_text) kept.out_kept)
          (λ h. subst (λ o. WroteFront (λ text. text ≡ too_long_text) o (g.H.Host.out w.refuse_length.new.host)) kept.out_kept (w.refuse_length.ensures.part h))
          w.refuse_length.ensures.either)
      | in-Fault w ↦ stops_by told c.args.name.now before g.H.Host.out g.H.Host.made g.H.Host.asked c.match-error.host c.read_named.new.host c.match-error.result ReadFault w.host-is w.result-is c.args.fresh kept.out_kept
      | in-Memory w ↦
          let opened = subst (λ r. ButFault r (g.H.Host.asked c.read_named.new.host ≡ with_item (g.H.Host.asked c.args.host.now) (Open, c.args.name.now))) (c.in-Err.is ∙ ap Err w.in-Memory.is) kept.opened in
          stops_by told c.args.name.now before g.H.Host.out g.H.Host.made g.H.Host.asked c.match-error.host c.read_named.new.host c.match-error.result Memory w.host-is w.result-is c.args.fresh
          (opened_is (g.H.Host.out c.args.host.now) (g.H.Host.out c.read_named.new.host) (g.H.Host.made c.args.host.now) (g.H.Host.made c.read_named.new.host) (g.H.Host.asked c.args.host.now) (g.H.Host.asked c.read_named.new.host) c.args.name.now kept.out_kept kept.made_kept opened)
    ]
