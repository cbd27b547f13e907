use Rattle.std.proofs.Common.{sym, ◌∙◌}
use Rattle.record_frames.specs.Rules.{version_1}
use Rattle.record_frames.specs.Sheeted.{ram_of, page_of as page_rule}
use Rattle.record_frames.proofs.EntrySteps.{root_breaks, luo_breaks, told_place, told_tree, told_none, told_root}
use Rattle.record_frames.proofs.entry.read_handover.Goals as goal

pub returns-in-Err : goal.returns-in-Err
returns-in-Err c = (
  sym c.is_frame_number.ensures.exact ∙ c.if-not-is_frame_number.false,
  told_place c.page_of.result.now (page_rule c.args.frames.now c.args.entry) c.in_ok-reader.field-0 c.in-Err.place c.page_of.ensures.value c.in-Err.is c.in_ok-reader.ensures,
)

pub read_root-requires : goal.read_root-requires
read_root-requires c =
    let tree = told_tree c.page_of.result.now (page_rule c.args.frames.now c.args.entry) c.in_ok-reader.field-0 c.in-Ok.reader c.page_of.ensures.value c.in-Ok.is c.in_ok-reader.ensures in
    record { tree = tree.0; placed = c.root.ensures tree.0 tree.2 }

pub returns-in_default : goal.returns-in_default
returns-in_default c =
    let ram = ram_of c.args.frames.now in
    let within = sym c.is_frame_number.ensures.exact ∙ c.if-not-is_frame_number.false in
    let tree = told_tree c.page_of.result.now (page_rule c.args.frames.now c.args.entry) c.in_ok-reader.field-0 c.in-Ok.reader c.page_of.ensures.value c.in-Ok.is c.in_ok-reader.ensures in
    root_breaks ram c.args.entry tree.0 within tree.1
    (told_none c.in-Ok.reader c.count.result ram.count tree.0 c.in_ok-root.field-0 c.count.ensures.value c.in_default.is (c.in_ok-root.ensures.read tree.0 (c.root.ensures tree.0 tree.2)))

pub returns-in_default-read_luo : goal.returns-in_default-read_luo
returns-in_default-read_luo c =
    let ram = ram_of c.args.frames.now in
    let within = sym c.is_frame_number.ensures.exact ∙ c.if-not-is_frame_number.false in
    let tree = told_tree c.page_of.result.now (page_rule c.args.frames.now c.args.entry) c.in_ok-reader.field-0 c.in-Ok.reader c.page_of.ensures.value c.in-Ok.is c.in_ok-reader.ensures in
    let at = c.root.ensures tree.0 tree.2 in
    let root = told_root c.in-Ok.reader c.count.result ram.count tree.0 c.in_ok-root.field-0 c.in-Some.root c.count.ensures.value c.in-Some.is (c.in_ok-root.ensures.read tree.0 at) in
    luo_breaks ram c.args.entry tree.0 (record { version = version_1; shape = c.in-Some.root.shape; chunk = c.in-Some.root.chunk; luo = root.0 }) within tree.1 root.2
    (c.in_default-read_luo.ensures root.0 root.1)

pub returns : goal.returns
returns c =
    let ram = ram_of c.args.frames.now in
    let within = sym c.is_frame_number.ensures.exact ∙ c.if-not-is_frame_number.false in
    let tree = told_tree c.page_of.result.now (page_rule c.args.frames.now c.args.entry) c.in_ok-reader.field-0 c.in-Ok.reader c.page_of.ensures.value c.in-Ok.is c.in_ok-reader.ensures in
    let at = c.root.ensures tree.0 tree.2 in
    let root = told_root c.in-Ok.reader c.count.result ram.count tree.0 c.in_ok-root.field-0 c.in-Some.root c.count.ensures.value c.in-Some.is (c.in_ok-root.ensures.read tree.0 at) in
    record {
      tree = tree.0;
      luo = root.0;
      within = within;
      spelled = tree.1;
      root = root.2;
      child = c.in-Some-read_luo.ensures root.0 root.1;
    }
