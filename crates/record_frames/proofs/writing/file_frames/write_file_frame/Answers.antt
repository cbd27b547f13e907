use Rattle.std.proofs.Common.{ℕ, length, get_or, take, drop, refl, ap, ◌∙◌, arith}
use Rattle.std.proofs.lemmas.List.{take_all, length-take-le, length-map}
use Rattle.phys_frames.specs.Memory.{FolioValue}
use Rattle.record_frames.specs.Writing.{frames_of, lists_of_files}
use Rattle.record_frames.proofs.WrittenFiles.{file_begins, file_size, file_more, file_done, lists_more}
use Rattle.record_frames.proofs.writing.file_frames.write_file_frame.Goals as goal

pub loop-i-init : goal.loop-i-init
loop-i-init c = record {
  front = file_begins c.args.folio.now c.begin_frame.new.folio (length c.args.files.now) (frames_of c.args.lists.now) c.begin_frame.ensures;
  lists = refl;
}

pub put_file_slot-requires-clause-size : goal.put_file_slot-requires-clause-size
put_file_slot-requires-clause-size c =
    file_size c.args.folio.now c.loop-i.folio (length c.args.files.now) (frames_of c.args.lists.now) (take c.loop-i.i c.args.files.now)
    (omega (arith, length-take-le c.loop-i.i c.args.files.now (omega (arith, c.loop-i-test.true)), c.loop-i-test.true, c.requires.few)) c.loop-i.invariant.front

pub loop-i-preserved : goal.loop-i-preserved
loop-i-preserved c =
    let many = length-map c.args.lists.now (λ (f : FolioValue). f.first.0) in
    record {
      front = file_more c.args.folio.now c.loop-i.folio c.put_file_slot.new.folio (length c.args.files.now) (frames_of c.args.lists.now) c.args.files.now c.loop-i.i c.first_number-first.result
          c.loop-i.list c.index-files-i.result c.loop-i-test.true c.index-files-i.is c.requires.few (omega (arith, many, c.requires.lists)) c.loop-i.invariant.lists
          (c.first_number-first.ensures ∙ ap (λ (k : ℕ). get_or (take k (drop c.loop-i.list (frames_of c.args.lists.now))) 0 0) c.list_frames-count.ensures.value) c.loop-i.invariant.front c.put_file_slot.ensures;
      lists = omega (arith, lists_more c.args.files.now c.loop-i.i c.index-files-i.result c.loop-i-test.true c.index-files-i.is, c.loop-i.invariant.lists, c.list_frames-count.ensures.value);
    }

pub returns-clause-page : goal.returns-clause-page
returns-clause-page c =
    file_done c.args.folio.now c.loop-i.folio (length c.args.files.now) (frames_of c.args.lists.now) c.args.files.now c.loop-i.i refl (omega (arith, c.loop-i-test.false)) c.loop-i.invariant.front

pub returns-clause-count : goal.returns-clause-count
returns-clause-count c = c.loop-i.invariant.lists ∙ ap lists_of_files (take_all c.loop-i.i c.args.files.now (omega (arith, c.loop-i-test.false)))
