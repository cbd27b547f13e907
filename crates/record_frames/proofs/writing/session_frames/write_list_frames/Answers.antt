use Rattle.std.proofs.Common.{◌+◌, ◌-◌, ◌≤◌, List, length, take, drop, refl, sym, ap, ◌∙◌, arith, rules}
use Rattle.std.proofs.lemmas.List.{take_all, length-drop}
use Rattle.std.specs.List.{flat_map}
use Rattle.record_frames.specs.Sheets.{list_pages}
use Rattle.record_frames.specs.Writing.{frames_of, file_records, files_in, lists_of_files, with_pages}
use Rattle.record_frames.specs.declared.carried.CarriedSession.{CarriedSession}
use Rattle.record_frames.proofs.WrittenPages.{no_pages, orders_of_part}
use Rattle.record_frames.proofs.WrittenInTurn.{session_lists_step, lists_in_more, lists_in_within}
use Rattle.record_frames.proofs.writing.session_frames.write_list_frames.Goals as goal

pub loop-i-init : goal.loop-i-init
loop-i-init c = record { pages = sym (no_pages c.args.lists.now); lists = refl; end = refl; within = omega arith }

pub write_lists_of_files-list-requires-clause-enough : goal.write_lists_of_files-list-requires-clause-enough
write_lists_of_files-list-requires-clause-enough c =
    let more = lists_in_more c.args.sessions.now c.loop-i.i c.index-sessions-i.result c.loop-i-test.true c.index-sessions-i.is in
    let own = ap lists_of_files c.as_slice-files.ensures in
    let wide : length (drop c.loop-i.list c.loop-i.lists) ≤ length c.args.lists.now - c.loop-i.list =
    omega (arith, length-drop c.loop-i.list c.loop-i.lists, c.loop-i.auto.lists) in
    omega (
      arith,
      ap length (take_all (length c.args.lists.now - c.loop-i.list) (drop c.loop-i.list c.loop-i.lists) wide),
      length-drop c.loop-i.list c.loop-i.lists,
      c.loop-i.auto.lists,
      c.loop-i.invariant.lists,
      more,
      own,
      lists_in_within c.args.sessions.now (c.loop-i.i + 1),
      c.requires.enough,
    )

pub write_lists_of_files-list-requires-clause-orders : goal.write_lists_of_files-list-requires-clause-orders
write_lists_of_files-list-requires-clause-orders c =
    orders_of_part c.args.lists.now c.loop-i.lists (flat_map list_pages (file_records (frames_of c.args.lists.now) (files_in (take c.loop-i.i c.args.sessions.now))))
    c.loop-i.list (length c.args.lists.now - c.loop-i.list) c.loop-i.invariant.pages c.requires.orders

pub overflow_add-list : goal.overflow_add-list
overflow_add-list c =
    let more = lists_in_more c.args.sessions.now c.loop-i.i c.index-sessions-i.result c.loop-i-test.true c.index-sessions-i.is in
    let own = ap lists_of_files c.as_slice-files.ensures in
    let within : c.loop-i.list + c.write_lists_of_files-list.result ≤ length c.args.lists.now =
    omega (arith, more, own, c.loop-i.invariant.lists, c.write_lists_of_files-list.ensures.count, lists_in_within c.args.sessions.now (c.loop-i.i + 1), c.requires.enough) in
    search rules

pub loop-i-preserved : goal.loop-i-preserved
loop-i-preserved c =
    let more = lists_in_more c.args.sessions.now c.loop-i.i c.index-sessions-i.result c.loop-i-test.true c.index-sessions-i.is in
    let own = ap lists_of_files c.as_slice-files.ensures in
    record {
      pages = session_lists_step c.args.lists.now c.loop-i.lists c.write_lists_of_files-list.new.folios c.args.sessions.now c.loop-i.i c.loop-i.list (length c.args.lists.now - c.loop-i.list)
          c.index-sessions-i.result c.as_slice-files.result.now c.loop-i-test.true c.index-sessions-i.is c.as_slice-files.ensures c.requires.enough c.loop-i.invariant.pages
          c.loop-i.invariant.lists (omega (arith, c.loop-i.auto.lists)) c.loop-i.auto.lists c.write_lists_of_files-list.ensures.pages;
      lists = omega (arith, more, own, c.loop-i.invariant.lists, c.write_lists_of_files-list.ensures.count);
      end = refl;
      within = omega (arith, more, own, c.loop-i.invariant.lists, c.write_lists_of_files-list.ensures.count, lists_in_within c.args.sessions.now (c.loop-i.i + 1), c.requires.enough);
    }

pub returns : goal.returns
returns c =
    c.loop-i.invariant.pages
    ∙ ap (λ (ss : List CarriedSession). with_pages c.args.lists.now (flat_map list_pages (file_records (frames_of c.args.lists.now) (files_in ss))))
    (take_all c.loop-i.i c.args.sessions.now (omega (arith, c.loop-i-test.false)))
