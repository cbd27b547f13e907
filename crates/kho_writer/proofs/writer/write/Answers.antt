use Rattle.std.proofs.Common.{◌≡◌, ◌∙◌, ℕ, ◌<◌, List, take, sym, ap, subst, arith, rules}
use Rattle.std.specs.List.{All}
use Rattle.ho_base.specs.declared.numbers.Pfn.{Pfn}
use Rattle.phys_frames.specs.Memory.{first_frames}
use Rattle.kho_writer.specs.Folios.{front_count, fronts}
use Rattle.kho_writer.proofs.Parts.{some_chunks, machine_some, fronts_below, are_written, all_same}
use Rattle.kho_writer.proofs.writer.write.Goals as goal

pub first_number-chunk-requires : goal.first_number-chunk-requires
first_number-chunk-requires c =
    let c' = c.args.carried.now in
    let room = c.requires.room in
    let mid : c.len.result ≡ front_count c' = search rules in
    omega (arith, mid, room.count, c.split_at_mut-fronts.ensures.back_len, some_chunks c'.shape.frames (machine_some c' c.args.folios.now room))

pub write_chain-requires-clause-extra : goal.write_chain-requires-clause-extra
write_chain-requires-clause-extra c =
    let c' = c.args.carried.now in
    let mid : c.len.result ≡ front_count c' = search rules in
    let same : c.deref.result.now ≡ first_frames (fronts c' c.args.folios.now) =
    c.deref.ensures.value ∙ c.note_frames.ensures ∙ ap first_frames (c.split_at_mut-fronts.ensures.front ∙ ap (λ (k : ℕ). take k c.args.folios.now) mid) in
    subst (λ (l : List Pfn). All (λ (p : Pfn). p.0 < c.args.tracker.now.frames) l) (sym same) (fronts_below c' c.args.folios.now c.requires.room c.args.tracker.now.frames c.requires.marks.frames)

pub returns : goal.returns
returns c =
    let c' = c.args.carried.now in
    let marks = c.args.tracker.now in
    let old = c.args.folios.now in
    let fs = c.split_at_mut-fronts.result.0.now in
    let cs = c.split_at_mut-fronts.result.1.now in
    let mid : c.len.result ≡ front_count c' = search rules in
    let noted : c.deref.result.now ≡ first_frames fs = c.deref.ensures.value ∙ c.note_frames.ensures in
    record {
      same = all_same c' marks old fs cs c.write_fronts.new.folios c.write_chain.new.folios c.deref.result.now c.len.result c.first_number-chunk.result.0 c.requires.room c.requires.marks
          c.split_at_mut-fronts.ensures.front c.split_at_mut-fronts.ensures.back mid noted c.first_number-chunk.ensures c.write_fronts.ensures.pages c.write_chain.ensures.members
          c.write_chain.ensures.same c.write_chain.auto.folios c.write_fronts.ensures.fits c.have_bytes.ensures c.write_chain.ensures.written;
      carries = c.law_of_written_folios.ensures c' marks old c.write_fronts.new.folios c.write_chain.new.folios c.requires.room c.requires.marks
          (are_written c' marks old fs cs c.write_fronts.new.folios c.write_chain.new.folios c.deref.result.now c.len.result c.first_number-chunk.result.0 c.requires.room c.requires.marks
          c.split_at_mut-fronts.ensures.front c.split_at_mut-fronts.ensures.back mid noted c.first_number-chunk.ensures c.write_fronts.ensures.pages c.write_chain.ensures.members
          c.write_chain.ensures.same c.write_chain.auto.folios c.write_fronts.ensures.fits c.have_bytes.ensures c.write_chain.ensures.written);
    }
