use Rattle.std.proofs.Common.{◌≡◌, ◌+◌, ◌-◌, ◌≤◌, ℕ, List, length, take, drop, refl, sym, ap, ◌∙◌, arith}
use Rattle.std.proofs.lemmas.List.{take_all, length-take-le, length-drop}
use Rattle.std.specs.List.{flat_map}
use Rattle.record_frames.specs.Sheets.{list_pages}
use Rattle.record_frames.specs.Writing.{frames_of, file_records, lists_of_files, with_pages}
use Rattle.record_frames.specs.declared.carried.CarriedFile.{CarriedFile}
use Rattle.record_frames.proofs.WrittenPages.{no_pages, orders_of_part}
use Rattle.record_frames.proofs.WrittenFiles.{lists_more, lists_within}
use Rattle.record_frames.proofs.WrittenLists.{files_step}
use Rattle.record_frames.proofs.writing.list_frames.write_lists_of_files.Goals as goal

pub loop-i-init : goal.loop-i-init
loop-i-init c = record { pages = sym (no_pages c.args.folios.now); lists = refl }

pub write_lists-requires-clause-count : goal.write_lists-requires-clause-count
write_lists-requires-clause-count c =
    let wide : c.loop-i.list + c.list_frames-count.result - c.loop-i.list ≡ c.list_frames-count.result = omega arith in
    let within : c.list_frames-count.result ≤ length (drop c.loop-i.list c.loop-i.folios) =
    omega (
      arith,
      length-drop c.loop-i.list c.loop-i.folios,
      c.loop-i.auto.folios,
      c.loop-i.invariant.lists,
      c.list_frames-count.ensures.value,
      lists_more c.args.files.now c.loop-i.i c.index-files-i.result c.loop-i-test.true c.index-files-i.is,
      lists_within c.args.files.now (c.loop-i.i + 1),
      c.requires.enough,
    ) in
    ap (λ (k : ℕ). length (take k (drop c.loop-i.list c.loop-i.folios))) wide
    ∙ length-take-le c.list_frames-count.result (drop c.loop-i.list c.loop-i.folios) within ∙ c.list_frames-count.ensures.value

pub write_lists-requires-clause-orders : goal.write_lists-requires-clause-orders
write_lists-requires-clause-orders c =
    orders_of_part c.args.folios.now c.loop-i.folios (flat_map list_pages (file_records (frames_of c.args.folios.now) (take c.loop-i.i c.args.files.now)))
    c.loop-i.list (c.loop-i.list + c.list_frames-count.result - c.loop-i.list) c.loop-i.invariant.pages c.requires.orders

pub loop-i-preserved : goal.loop-i-preserved
loop-i-preserved c = record {
  pages = files_step c.args.folios.now c.loop-i.folios c.write_lists.new.folios c.args.files.now c.loop-i.i c.loop-i.list c.list_frames-count.result c.index-files-i.result c.loop-i-test.true
      c.index-files-i.is c.requires.enough c.loop-i.invariant.pages c.loop-i.invariant.lists c.list_frames-count.ensures.value c.write_lists.ensures;
  lists = omega (arith, lists_more c.args.files.now c.loop-i.i c.index-files-i.result c.loop-i-test.true c.index-files-i.is, c.loop-i.invariant.lists, c.list_frames-count.ensures.value);
}

pub returns-clause-pages : goal.returns-clause-pages
returns-clause-pages c =
    c.loop-i.invariant.pages
    ∙ ap (λ (files : List CarriedFile). with_pages c.args.folios.now (flat_map list_pages (file_records (frames_of c.args.folios.now) files)))
    (take_all c.loop-i.i c.args.files.now (omega (arith, c.loop-i-test.false)))

pub returns-clause-count : goal.returns-clause-count
returns-clause-count c = c.loop-i.invariant.lists ∙ ap lists_of_files (take_all c.loop-i.i c.args.files.now (omega (arith, c.loop-i-test.false)))
