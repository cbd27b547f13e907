-- Each block that is done and written goes on from those before it.
use Rattle.std.proofs.Common.{refl, ◌∙◌, arith}
use Rattle.std.specs.Prelude.{option_map}
use Rattle.handover_cli.specs.Images.{seen}
use Rattle.handover_cli.proofs.ImagesMade.{all_asks, short_asks, part_asks}
use Rattle.handover_cli.proofs.NextKernels.{did_at, numbers_fit}
use Rattle.handover_cli.proofs.Written.{stands_first, stands_more, stands_all, stands_part, written_short, unwritten_short, stands_memory, stands_sound, goes_on, next_number}
use Rattle.handover_cli.proofs.Rounds.{item_at}
use Rattle.handover_cli.proofs.block_runner.run_blocks.Goals as goal

pub loop-block-init : goal.loop-block-init
loop-block-init g c = record {
  stands = λ start begins. stands_first _ _ _ _ _ begins.after begins.sound;
  number = refl;
  counts = omega arith;
  sinks = refl;
}

pub go_on-requires : goal.go_on-requires
go_on-requires g c = goes_on c.requires.begins.0 c.args.blocks.now c.loop-block.block-index c.block-item.result c.loop-block.kernel c.in-Ok.done.next (option_map (λ file. file.now) c.args.images) (seen (g.H.Host.out c.args.host.now) (g.H.Host.made c.args.host.now) (g.H.Host.asked c.args.host.now)) (seen (g.H.Host.out c.loop-block.host) (g.H.Host.made c.loop-block.host) (g.H.Host.asked c.loop-block.host)) c.in-Ok.done.entries.items c.requires.blocks (item_at _ _ _ c.loop-block-test.true c.block-item.is) (did_at _ _ _ _ _ _ c.loop-block.invariant.number c.in-Ok.ensures) (c.loop-block.invariant.stands c.requires.begins.0 c.requires.begins.1)

pub overflow_add-number : goal.overflow_add-number
overflow_add-number g c =
    let most = numbers_fit c.args.blocks.now c.loop-block.block-index c.block-item.result c.requires.blocks (item_at _ _ _ c.loop-block-test.true c.block-item.is) in
    omega (arith, most, c.loop-block.invariant.number, c.kexecs-number.ensures)

pub loop-block-preserved : goal.loop-block-preserved
loop-block-preserved g c =
    let before = c.loop-block.invariant in
    let next = next_number c.args.blocks.now c.loop-block.block-index c.block-item.result (item_at _ _ _ c.loop-block-test.true c.block-item.is) in
    record {
      stands = λ start begins. stands_more start c.args.blocks.now c.loop-block.block-index c.block-item.result c.loop-block.kernel c.in-Ok.done.next (option_map (λ file. file.now) c.args.images) (seen (g.H.Host.out c.args.host.now) (g.H.Host.made c.args.host.now) (g.H.Host.asked c.args.host.now)) (seen (g.H.Host.out c.loop-block.host) (g.H.Host.made c.loop-block.host) (g.H.Host.asked c.loop-block.host)) c.in-Ok.done.entries.items c.requires.blocks (item_at _ _ _ c.loop-block-test.true c.block-item.is) (did_at _ _ _ _ _ _ c.loop-block.invariant.number c.in-Ok.ensures) (c.loop-block.invariant.stands start begins)
          c.in-Ok.done c.in-Ok-go_on.next _ refl refl c.in-Ok-go_on.ensures (c.in-All.ensures.all refl);
      number = omega (arith, next, before.number, c.kexecs-number.ensures);
      counts = omega (arith, before.counts, c.in-All.ensures.counts);
      sinks = c.in-All.ensures.sinks_kept ∙ before.sinks;
    }

pub returns-in-Err-go_on-clause-memory : goal.returns-in-Err-go_on-clause-memory
returns-in-Err-go_on-clause-memory g c = λ _ start begins. written_short start c.args.blocks.now c.loop-block.block-index c.block-item.result c.loop-block.kernel c.in-Ok.done.next (option_map (λ file. file.now) c.args.images) (seen (g.H.Host.out c.args.host.now) (g.H.Host.made c.args.host.now) (g.H.Host.asked c.args.host.now)) (seen (g.H.Host.out c.loop-block.host) (g.H.Host.made c.loop-block.host) (g.H.Host.asked c.loop-block.host)) c.in-Ok.done.entries.items c.requires.blocks (item_at _ _ _ c.loop-block-test.true c.block-item.is) (did_at _ _ _ _ _ _ c.loop-block.invariant.number c.in-Ok.ensures) (c.loop-block.invariant.stands start begins) c.in-Ok.done _ refl refl (c.in-All.ensures.all refl)

pub returns-in-Err-go_on-clause-asked : goal.returns-in-Err-go_on-clause-asked
returns-in-Err-go_on-clause-asked g c = short_asks _ _ _ _ _ (written_short c.requires.begins.0 c.args.blocks.now c.loop-block.block-index c.block-item.result c.loop-block.kernel c.in-Ok.done.next (option_map (λ file. file.now) c.args.images) (seen (g.H.Host.out c.args.host.now) (g.H.Host.made c.args.host.now) (g.H.Host.asked c.args.host.now)) (seen (g.H.Host.out c.loop-block.host) (g.H.Host.made c.loop-block.host) (g.H.Host.asked c.loop-block.host)) c.in-Ok.done.entries.items c.requires.blocks (item_at _ _ _ c.loop-block-test.true c.block-item.is) (did_at _ _ _ _ _ _ c.loop-block.invariant.number c.in-Ok.ensures) (c.loop-block.invariant.stands c.requires.begins.0 c.requires.begins.1) c.in-Ok.done (seen (g.H.Host.out c.write_done-written.new.host) (g.H.Host.made c.write_done-written.new.host) (g.H.Host.asked c.write_done-written.new.host)) refl refl (c.in-All.ensures.all refl))

pub returns-in-Memory-clause-memory : goal.returns-in-Memory-clause-memory
returns-in-Memory-clause-memory g c = λ _ start begins. unwritten_short start c.args.blocks.now c.loop-block.block-index c.block-item.result c.loop-block.kernel c.in-Ok.done.next (option_map (λ file. file.now) c.args.images) (seen (g.H.Host.out c.args.host.now) (g.H.Host.made c.args.host.now) (g.H.Host.asked c.args.host.now)) (seen (g.H.Host.out c.loop-block.host) (g.H.Host.made c.loop-block.host) (g.H.Host.asked c.loop-block.host)) c.in-Ok.done.entries.items c.requires.blocks (item_at _ _ _ c.loop-block-test.true c.block-item.is) (did_at _ _ _ _ _ _ c.loop-block.invariant.number c.in-Ok.ensures) (c.loop-block.invariant.stands start begins) c.in-Ok.done _ refl (c.in-Memory.ensures.short refl)

pub returns-in-Memory-clause-asked : goal.returns-in-Memory-clause-asked
returns-in-Memory-clause-asked g c = short_asks _ _ _ _ _ (unwritten_short c.requires.begins.0 c.args.blocks.now c.loop-block.block-index c.block-item.result c.loop-block.kernel c.in-Ok.done.next (option_map (λ file. file.now) c.args.images) (seen (g.H.Host.out c.args.host.now) (g.H.Host.made c.args.host.now) (g.H.Host.asked c.args.host.now)) (seen (g.H.Host.out c.loop-block.host) (g.H.Host.made c.loop-block.host) (g.H.Host.asked c.loop-block.host)) c.in-Ok.done.entries.items c.requires.blocks (item_at _ _ _ c.loop-block-test.true c.block-item.is) (did_at _ _ _ _ _ _ c.loop-block.invariant.number c.in-Ok.ensures) (c.loop-block.invariant.stands c.requires.begins.0 c.requires.begins.1) c.in-Ok.done (seen (g.H.Host.out c.write_done-written.new.host) (g.H.Host.made c.write_done-written.new.host) (g.H.Host.asked c.write_done-written.new.host)) refl (c.in-Memory.ensures.short refl))

pub returns-in-Fault-clause-part : goal.returns-in-Fault-clause-part
returns-in-Fault-clause-part g c = λ _ start begins.
    stands_part start c.args.blocks.now c.loop-block.block-index c.block-item.result c.loop-block.kernel c.in-Ok.done.next (option_map (λ file. file.now) c.args.images) (seen (g.H.Host.out c.args.host.now) (g.H.Host.made c.args.host.now) (g.H.Host.asked c.args.host.now)) (seen (g.H.Host.out c.loop-block.host) (g.H.Host.made c.loop-block.host) (g.H.Host.asked c.loop-block.host)) _ c.in-Ok.done.entries.items c.in-Ok.done
    c.requires.blocks (item_at _ _ _ c.loop-block-test.true c.block-item.is) (did_at _ _ _ _ _ _ c.loop-block.invariant.number c.in-Ok.ensures) (c.loop-block.invariant.stands start begins) refl refl (c.in-Fault.ensures.part refl)

pub returns-in-Fault-clause-asked : goal.returns-in-Fault-clause-asked
returns-in-Fault-clause-asked g c =
    part_asks _ _ _ _ _
    (stands_part c.requires.begins.0 c.args.blocks.now c.loop-block.block-index c.block-item.result c.loop-block.kernel c.in-Ok.done.next (option_map (λ file. file.now) c.args.images) (seen (g.H.Host.out c.args.host.now) (g.H.Host.made c.args.host.now) (g.H.Host.asked c.args.host.now)) (seen (g.H.Host.out c.loop-block.host) (g.H.Host.made c.loop-block.host) (g.H.Host.asked c.loop-block.host)) (seen (g.H.Host.out c.write_done-written.new.host) (g.H.Host.made c.write_done-written.new.host) (g.H.Host.asked c.write_done-written.new.host)) c.in-Ok.done.entries.items c.in-Ok.done
    c.requires.blocks (item_at _ _ _ c.loop-block-test.true c.block-item.is) (did_at _ _ _ _ _ _ c.loop-block.invariant.number c.in-Ok.ensures) (c.loop-block.invariant.stands c.requires.begins.0 c.requires.begins.1) refl refl (c.in-Fault.ensures.part refl))

pub returns-in-Err-clause-memory : goal.returns-in-Err-clause-memory
returns-in-Err-clause-memory g c = λ _ start begins. stands_memory _ _ c.loop-block.block-index c.loop-block.kernel _ _ _ (c.loop-block.invariant.stands start begins)

pub returns-in-Err-clause-asked : goal.returns-in-Err-clause-asked
returns-in-Err-clause-asked g c = short_asks _ _ _ _ _ (stands_memory _ _ c.loop-block.block-index c.loop-block.kernel _ _ _ (c.loop-block.invariant.stands c.requires.begins.0 c.requires.begins.1))

pub returns-clause-legal : goal.returns-clause-legal
returns-clause-legal g c = λ _ start begins. stands_all _ _ c.loop-block.block-index c.loop-block.kernel _ _ _ (omega (arith, c.loop-block-test.false, c.loop-block.auto.block-index-end)) (c.loop-block.invariant.stands start begins)

pub returns-clause-asked : goal.returns-clause-asked
returns-clause-asked g c = all_asks _ _ _ _ _ (stands_all _ _ c.loop-block.block-index c.loop-block.kernel _ _ _ (omega (arith, c.loop-block-test.false, c.loop-block.auto.block-index-end)) (c.loop-block.invariant.stands c.requires.begins.0 c.requires.begins.1))

pub run_block-requires-clause-sound : goal.run_block-requires-clause-sound
run_block-requires-clause-sound g c = stands_sound _ _ c.loop-block.block-index c.loop-block.kernel _ _ _ (c.loop-block.invariant.stands c.requires.begins.0 c.requires.begins.1)

pub run_block-requires-clause-block : goal.run_block-requires-clause-block
run_block-requires-clause-block g c = c.requires.blocks.each c.loop-block.block-index c.block-item.result (item_at _ _ _ c.loop-block-test.true c.block-item.is)

pub end_sound-requires : goal.end_sound-requires
end_sound-requires g c = stands_sound _ _ c.loop-block.block-index c.loop-block.kernel _ _ _ (c.loop-block.invariant.stands c.requires.begins.0 c.requires.begins.1)
