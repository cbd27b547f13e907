use Rattle.std.proofs.Common.{◌≡◌, ◌+◌, ◌-◌, ◌*◌, ◌^◌, ◌<◌, refl, sym, ap, subst, ◌∙◌, arith, rules, ℕ, length, take, drop}
use Rattle.std.proofs.lemmas.List.{length-take-le, length-drop}
use Rattle.folio_bitmaps.specs.Bitmaps.{runs_of}
use Rattle.folio_bitmaps.specs.Chunks.{Element}
use Rattle.folio_bitmaps.specs.Written.{IsBitmap}
use Rattle.folio_bitmaps.proofs.Keys.{few_count}
use Rattle.folio_bitmaps.proofs.Pages.{whole_bitmap, element_written, written_behind}
use Rattle.folio_bitmaps.proofs.chunks.write_element.Goals as goal

-- the bytes that were copied
copied : (c : goal.After-slice_known-4-1) → c.copy_from_slice.new.self ≡ take 512 (drop (512 * c.args.t) c.args.bytes.now)
copied c =
    let wide : 512 * c.args.t + 512 - 512 * c.args.t ≡ 512 = omega arith in
    c.copy_from_slice.ensures.after ∙ ap (λ (w : ℕ). take w (drop (512 * c.args.t) c.args.bytes.now)) wide

count : (c : goal.After-slice_known-4-1) → length c.copy_from_slice.new.self ≡ 512
count c = ap length (copied c) ∙ length-take-le 512 (drop (512 * c.args.t) c.args.bytes.now) (omega (arith, c.requires.bitmaps.size, c.requires.number, length-drop (512 * c.args.t) c.args.bytes.now))

pub overflow_cast-t : goal.overflow_cast-t
overflow_cast-t c = let lt : c.args.t < 2 ^ 32 = omega (arith, few_count c.args.frames (search rules), c.requires.number) in search rules

pub returns-clause-element : goal.returns-clause-element
returns-clause-element c =
    let e = element_written c.args.k c.key_of-key.result.base c.key_of-key.result.order (32 + 528 * c.args.k + 16) (32 + 528 * c.args.k + 528 - (32 + 528 * c.args.k + 16)) c.args.page.now c.put_u64.new.bytes c.put_u64-2.new.bytes c.copy_from_slice.new.self
    c.requires.size c.requires.element c.put_u64.ensures.replaced c.put_u64.ensures.spelled c.put_u64-2.ensures.replaced c.put_u64-2.ensures.spelled refl (omega arith) (count c) in
    let element : Element = record { base = c.key_of-key.result.base; order = c.key_of-key.result.order; bits = c.copy_from_slice.new.self } in
    subst (IsBitmap c.args.frames (runs_of c.args.frames c.args.bytes.now) c.args.t) (sym e)
    (whole_bitmap c.args.frames c.args.bytes.now c.args.t element c.requires.bitmaps c.requires.number c.key_of-key.ensures.small c.key_of-key.ensures.aligned c.key_of-key.ensures.below c.key_of-key.ensures.number (copied c))

pub returns-clause-after : goal.returns-clause-after
returns-clause-after c =
    written_behind c.args.k c.key_of-key.result.base c.key_of-key.result.order (32 + 528 * c.args.k + 16) (32 + 528 * c.args.k + 528 - (32 + 528 * c.args.k + 16)) c.args.page.now c.put_u64.new.bytes c.put_u64-2.new.bytes c.copy_from_slice.new.self
    c.requires.size c.requires.element c.put_u64.ensures.replaced c.put_u64.ensures.spelled c.put_u64-2.ensures.replaced c.put_u64-2.ensures.spelled refl (omega arith) (count c)
