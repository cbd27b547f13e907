-- A script that goes on from an image begins in the world that follows what the image carries.
use Rattle.std.proofs.Common.{refl, inl, inr, subst, sym}
use Rattle.std.specs.Prelude.{option_map}
use Rattle.ho_io.specs.Told.{with_item}
use Rattle.ho_io.specs.declared.host.Way.TheVariants.{Open}
use Rattle.ho_world.specs.Frozen.{next}
use Rattle.handover_cli.specs.Asked.{AsksImages}
use Rattle.handover_cli.specs.Images.{Seen, seen}
use Rattle.handover_cli.specs.Run.{WroteAll, WroteBlocks, WroteSoFar}
use Rattle.handover_cli.proofs.Begins.{image_begins}
use Rattle.handover_cli.proofs.ImagesMade.{no_asks}
use Rattle.handover_cli.proofs.Starts.{on_start}
use Rattle.handover_cli.proofs.run.run_resumed.Goals as goal

pub run_blocks-requires-clause-begins : goal.run_blocks-requires-clause-begins
run_blocks-requires-clause-begins g c =
    let from = c.in-Ok.ensures.begins in
    (next from.state, image_begins (g.H.Host.holds c.args.host.now c.args.image.now) c.as_slice.result.now c.in-Ok.kernel from)

pub returns-in-Ok-clause-legal : goal.returns-in-Ok-clause-legal
returns-in-Ok-clause-legal g c = λ h.
    let from = c.in-Ok.ensures.begins in
    let told = g.H.Host.holds c.args.host.now c.args.image.now in
    let blocks = c.as_slice.result.now in
    on_start _ _ _ (next from.state) blocks (from.state, from.tells, refl) c.as_slice.ensures
    (subst (λ (s : Seen). WroteAll (next from.state) blocks (option_map (λ file. file.now) c.args.images) s (seen (g.H.Host.out c.run_blocks.new.host) (g.H.Host.made c.run_blocks.new.host) (g.H.Host.asked c.run_blocks.new.host))) c.in-Ok.ensures.opened
    (c.run_blocks.ensures.legal h (next from.state) (image_begins told blocks c.in-Ok.kernel from)))

pub returns-in-Ok-clause-memory : goal.returns-in-Ok-clause-memory
returns-in-Ok-clause-memory g c = λ h.
    let from = c.in-Ok.ensures.begins in
    let told = g.H.Host.holds c.args.host.now c.args.image.now in
    let blocks = c.as_slice.result.now in
    inr (on_start _ _ _ (next from.state) blocks (from.state, from.tells, refl) c.as_slice.ensures
    (subst (λ (s : Seen). WroteBlocks (next from.state) blocks (option_map (λ file. file.now) c.args.images) s (seen (g.H.Host.out c.run_blocks.new.host) (g.H.Host.made c.run_blocks.new.host) (g.H.Host.asked c.run_blocks.new.host))) c.in-Ok.ensures.opened
    (c.run_blocks.ensures.memory h (next from.state) (image_begins told blocks c.in-Ok.kernel from))))

pub returns-in-Ok-clause-part : goal.returns-in-Ok-clause-part
returns-in-Ok-clause-part g c = λ h.
    let from = c.in-Ok.ensures.begins in
    let told = g.H.Host.holds c.args.host.now c.args.image.now in
    let blocks = c.as_slice.result.now in
    inr (on_start _ _ _ (next from.state) blocks (from.state, from.tells, refl) c.as_slice.ensures
    (subst (λ (s : Seen). WroteSoFar (next from.state) blocks (option_map (λ file. file.now) c.args.images) s (seen (g.H.Host.out c.run_blocks.new.host) (g.H.Host.made c.run_blocks.new.host) (g.H.Host.asked c.run_blocks.new.host))) c.in-Ok.ensures.opened
    (c.run_blocks.ensures.part h (next from.state) (image_begins told blocks c.in-Ok.kernel from))))

pub returns-clause-asked : goal.returns-clause-asked
returns-clause-asked g c = elim c.in-Err.ensures.asked [
  | inl same ↦ inl same
  | inr more ↦ inr (subst (AsksImages (option_map (λ file. file.now) c.args.images) (with_item (g.H.Host.asked c.args.host.now) (Open, c.args.image.now))) (sym more) (no_asks _ _))
]
