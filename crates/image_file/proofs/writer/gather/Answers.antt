use Rattle.std.proofs.Common.{◌≡◌, ◌<◌, ◌≤◌, ◌+◌, ◌*◌, ◌-◌, ℕ, List, length, drop, get_or, None, Some, ap, ◌∙◌, arith}
use Rattle.std.proofs.lemmas.List.{length-drop, get_or-drop}
use borrow.Rule.Slice.PartMut.{put_mid}
use Rattle.ho_base.specs.declared.limits.TheConstants.{PAGE_BYTES}
use Rattle.image_file.proofs.Pages.{gathered_more, gathered_all}
use Rattle.image_file.proofs.writer.gather.Goals as goal

pub loop-i-preserved : goal.loop-i-preserved
loop-i-preserved c =
    let i = c.loop-i.i in
    let pages = drop c.args.first c.args.frames.now.pages in
    let lt : i < length pages = omega (arith, length-drop c.args.first c.args.frames.now.pages, c.requires.within, c.loop-i-test.true) in
    let there : get_or pages i None ≡ Some c.page-page.result.now = get_or-drop c.args.first c.args.frames.now.pages i None ∙ c.page-page.ensures.value in
    let room : i * PAGE_BYTES ≤ length c.loop-i.block = omega (arith, c.requires.size, c.loop-i.auto.block, c.loop-i-test.true) in
    let width = i * PAGE_BYTES + PAGE_BYTES - i * PAGE_BYTES in
    gathered_more PAGE_BYTES i width pages c.page-page.result.now c.loop-i.block _ lt there c.page-page.ensures.len room c.loop-i.invariant
    (ap (λ (l : List ℕ). put_mid (i * PAGE_BYTES) width c.loop-i.block l) c.copy_from_slice.ensures.after)
