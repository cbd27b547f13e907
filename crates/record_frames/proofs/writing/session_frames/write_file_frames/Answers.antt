use Rattle.std.proofs.Common.{◌≡◌, ◌+◌, ◌<◌, ℕ, Bool, true, false, List, [], length, take, set, refl, sym, ap, subst, ◌∙◌, arith}
use Rattle.std.proofs.lemmas.List.{take_all, take_rest, length-drop, length-set, nil_from_length}
use Rattle.std.proofs.lemmas.Bool.Decides.{nat_tests}
use Rattle.std.specs.Prelude.{◌==◌}
use Rattle.std.specs.List.{All}
use Rattle.phys_frames.specs.Memory.{FolioValue}
use Rattle.record_frames.specs.Writing.{frames_of, file_pages, session_records, with_pages, lists_of_files}
use Rattle.record_frames.specs.declared.carried.CarriedSession.{CarriedSession}
use Rattle.record_frames.proofs.WrittenPages.{no_pages, same_orders}
use Rattle.record_frames.proofs.WrittenSessions.{files_more}
use Rattle.record_frames.proofs.WrittenInTurn.{no_frame_more, one_frame_more, lists_of_more, lists_of_within, files_of_within, with_no_files, with_files}
use Rattle.record_frames.proofs.writing.session_frames.write_file_frames.Goals as goal

pub loop-i-init : goal.loop-i-init
loop-i-init c = record { pages = sym (no_pages c.args.files.now); frames = refl; listed = refl; few = omega arith; within = omega arith }

is_none : (n : ℕ) (b : Bool) → b ≡ true → b ≡ n == 0 → n ≡ 0
is_none n b holds e = let h : (n == 0) ≡ true = sym e ∙ holds in grind (arith, nat_tests)

is_some : (n : ℕ) (b : Bool) → b ≡ false → b ≡ n == 0 → 0 < n
is_some n b fails e = let h : (n == 0) ≡ false = sym e ∙ fails in grind (arith, nat_tests)

pub loop-i-preserved-then-is_empty : goal.loop-i-preserved-then-is_empty
loop-i-preserved-then-is_empty c =
    let none : c.index-sessions-i.result.files ≡ [] =
    sym c.as_slice-own.ensures ∙ nil_from_length c.as_slice-own.result.now (is_none (length c.as_slice-own.result.now) c.is_empty.result c.if-is_empty.true c.is_empty.ensures) in
    let zero = with_no_files c.index-sessions-i.result none in
    record {
      pages = c.loop-i.invariant.pages ∙ ap (with_pages c.args.files.now)
          (sym (no_frame_more (frames_of c.args.files.now) (frames_of c.args.lists.now) c.args.sessions.now c.loop-i.i c.index-sessions-i.result c.loop-i-test.true c.index-sessions-i.is none));
      frames = omega (arith, files_more c.args.sessions.now c.loop-i.i c.index-sessions-i.result c.loop-i-test.true c.index-sessions-i.is, c.loop-i.invariant.frames, zero.0);
      listed = omega (arith, lists_of_more c.args.sessions.now c.loop-i.i c.index-sessions-i.result c.loop-i-test.true c.index-sessions-i.is, c.loop-i.invariant.listed, zero.1);
      few = c.loop-i.invariant.few;
      within = c.loop-i.invariant.within;
    }

pub write_file_frame-list-requires-clause-lists : goal.write_file_frame-list-requires-clause-lists
write_file_frame-list-requires-clause-lists c =
    let more = lists_of_more c.args.sessions.now c.loop-i.i c.index-sessions-i.result c.loop-i-test.true c.index-sessions-i.is in
    let own = ap lists_of_files c.as_slice-own.ensures in
    omega (
      arith,
      ap length (take_rest c.args.lists.now c.loop-i.list),
      length-drop c.loop-i.list c.args.lists.now,
      more,
      own,
      c.loop-i.invariant.listed,
      lists_of_within c.args.sessions.now (c.loop-i.i + 1),
      c.requires.lists,
    )

pub write_file_frame-list-requires-clause-order : goal.write_file_frame-list-requires-clause-order
write_file_frame-list-requires-clause-order c =
    let orders : All (λ f. f.order.0 ≡ 0) c.loop-i.files =
    subst (λ (fs : List FolioValue). All (λ f. f.order.0 ≡ 0) fs) (sym c.loop-i.invariant.pages)
    (same_orders c.args.files.now (file_pages (session_records (frames_of c.args.files.now) (frames_of c.args.lists.now) (take c.loop-i.i c.args.sessions.now))) c.requires.orders) in
    let some = is_some (length c.as_slice-own.result.now) c.is_empty.result c.if-is_empty.false c.is_empty.ensures in
    let one = with_files c.index-sessions-i.result (omega (arith, some, ap length c.as_slice-own.ensures)) in
    orders c.loop-i.at c.index-files-at.result
    (omega (
      arith,
      c.loop-i.auto.files,
      files_more c.args.sessions.now c.loop-i.i c.index-sessions-i.result c.loop-i-test.true c.index-sessions-i.is,
      one,
      c.loop-i.invariant.frames,
      files_of_within c.args.sessions.now (c.loop-i.i + 1),
      c.requires.enough,
    ))

pub loop-i-preserved : goal.loop-i-preserved
loop-i-preserved c =
    let some = is_some (length c.as_slice-own.result.now) c.is_empty.result c.if-is_empty.false c.is_empty.ensures in
    let one = with_files c.index-sessions-i.result (omega (arith, some, ap length c.as_slice-own.ensures)) in
    let frames = files_more c.args.sessions.now c.loop-i.i c.index-sessions-i.result c.loop-i-test.true c.index-sessions-i.is in
    let listed = lists_of_more c.args.sessions.now c.loop-i.i c.index-sessions-i.result c.loop-i-test.true c.index-sessions-i.is in
    let own = ap lists_of_files c.as_slice-own.ensures in
    let room : c.loop-i.at < length c.args.files.now =
    omega (arith, frames, one, c.loop-i.invariant.frames, files_of_within c.args.sessions.now (c.loop-i.i + 1), c.requires.enough) in
    let pages = one_frame_more c.args.files.now c.loop-i.files (set c.loop-i.files c.loop-i.at c.write_file_frame-list.new.folio) c.args.lists.now c.args.sessions.now c.loop-i.i c.loop-i.at
    c.loop-i.list c.index-sessions-i.result c.as_slice-own.result.now c.write_file_frame-list.new.folio c.index-files-at.result c.loop-i-test.true c.index-sessions-i.is
    c.as_slice-own.ensures some c.loop-i.invariant.frames room c.loop-i.invariant.listed c.loop-i.invariant.pages refl c.write_file_frame-list.ensures.page in
    record {
      pages = pages;
      frames = omega (arith, frames, one, c.loop-i.invariant.frames);
      listed = omega (arith, listed, own, c.loop-i.invariant.listed, c.write_file_frame-list.ensures.count);
      few = omega (arith, room, length-set c.loop-i.files c.loop-i.at c.write_file_frame-list.new.folio, c.loop-i.auto.files);
      within = omega (arith, listed, own, c.loop-i.invariant.listed, c.write_file_frame-list.ensures.count, lists_of_within c.args.sessions.now (c.loop-i.i + 1), c.requires.lists);
    }

pub returns : goal.returns
returns c =
    c.loop-i.invariant.pages
    ∙ ap (λ (ss : List CarriedSession). with_pages c.args.files.now (file_pages (session_records (frames_of c.args.files.now) (frames_of c.args.lists.now) ss)))
    (take_all c.loop-i.i c.args.sessions.now (omega (arith, c.loop-i-test.false)))
