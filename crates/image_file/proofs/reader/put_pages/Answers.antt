-- A frame that is next is blank, since it is as it was; and it is filled after those before it.
use Rattle.std.proofs.Common.{◌≡◌, ◌+◌, ◌-◌, ◌*◌, ◌<◌, ◌≤◌, length, take, drop, ℕ, None, refl, ap, ◌∙◌, arith}
use Rattle.ho_base.specs.declared.limits.TheConstants.{PAGE_BYTES}
use Rattle.ho_base.specs.declared.numbers.Pfn.{Pfn}
use Rattle.phys_frames.specs.Memory.{Memory, with_page}
use Rattle.image_file.proofs.Pages.{kept_page, filled_none, filled_more}
use Rattle.image_file.proofs.reader.put_pages.Goals as goal

pub loop-i-init : goal.loop-i-init
loop-i-init c = filled_none PAGE_BYTES c.args.first c.args.bytes.now c.args.frames.now.pages

pub put_page-requires-clause-blank : goal.put_page-requires-clause-blank
put_page-requires-clause-blank c =
    let at = c.args.first + c.loop-i.i in
    let within : at ≤ length c.args.frames.now.pages = omega (arith, c.requires.within, c.loop-i-test.true) in
    kept_page PAGE_BYTES c.args.first c.loop-i.i at c.args.bytes.now c.args.frames.now.pages c.loop-i.frames.pages None within (omega arith) c.loop-i.invariant
    ∙ c.requires.blank at None (omega arith) (omega (arith, c.loop-i-test.true))

pub loop-i-preserved : goal.loop-i-preserved
loop-i-preserved c =
    let at = c.args.first + c.loop-i.i in
    let lt : at < length c.args.frames.now.pages = omega (arith, c.requires.within, c.loop-i-test.true) in
    let from : ℕ = c.loop-i.i * PAGE_BYTES in
    let p : Pfn = record { 0 = at } in
    let width : from + PAGE_BYTES - from ≡ PAGE_BYTES = omega arith in
    let page = take PAGE_BYTES (drop (c.loop-i.i * PAGE_BYTES) c.args.bytes.now) in
    let filled : c.put_page.new.frames ≡ with_page c.loop-i.frames p page =
    c.put_page.ensures ∙ ap (λ (k : ℕ). with_page c.loop-i.frames p (take k (drop (c.loop-i.i * PAGE_BYTES) c.args.bytes.now))) width in
    filled_more PAGE_BYTES c.args.first c.loop-i.i c.args.bytes.now page c.args.frames.now.pages c.loop-i.frames.pages c.put_page.new.frames.pages
    lt c.loop-i.invariant refl (ap (λ (m : Memory). m.pages) filled)
