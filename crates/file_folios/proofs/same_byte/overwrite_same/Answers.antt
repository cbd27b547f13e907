use Rattle.std.proofs.Common.{◌≡◌, ◌+◌, ◌-◌, ◌/◌, ◌++◌, max, length, replicate, vec_len, ap, sym, subst, ◌∙◌, arith}
use Rattle.std.specs.Prelude.{None}
use Rattle.std.proofs.lemmas.List.{length-replicate}
use Rattle.ho_events.specs.Lists.{pieces, firsts}
use Rattle.ho_events.specs.File.{filled, overwritten}
use Rattle.file_folios.specs.Slots.{places, holes_in, runs_in}
use Rattle.file_folios.specs.Sized.{places_of, bytes_of, HoldsBytes}
use Rattle.file_folios.proofs.Sizes.{longer_holes, longer_runs, overwrite_bytes, overwrite_holds}
use Rattle.file_folios.proofs.same_byte.overwrite_same.Goals as goal

pub fill_holes-requires-clause-holes : goal.fill_holes-requires-clause-holes
fill_holes-requires-clause-holes c =
    c.requires.holes
    ∙ ap length (sym (longer_holes c.args.slots.now.items (c.pieces_of.result - vec_len c.args.slots.now) (places_of c.args.piece c.args.off c.args.len)))
    ∙ ap (λ s. length (holes_in s (places_of c.args.piece c.args.off c.args.len))) (sym c.grow.ensures.items)
    ∙ ap (λ n. length (holes_in c.grow.new.slots.items (places (c.args.off / c.args.piece) (n - c.args.off / c.args.piece)))) (sym c.pieces_of-2.ensures)

-- what is known of the slots at the end
pub returns-clause-holds : goal.returns-clause-holds
returns-clause-holds c =
    let was : length c.args.slots.now.items ≡ vec_len c.args.slots.now = omega (arith, c.args.slots.now.ok) in
    let same : length (replicate c.args.len c.args.byte) ≡ c.args.len = length-replicate c.args.len c.args.byte in
    let long : length c.set_range.new.slots.items ≡ length c.grow.new.slots.items = omega (arith, c.set_range.new.slots.ok, c.grow.new.slots.ok, c.set_range.ensures.count, c.fill_holes.ensures.count) in
    subst (λ n. HoldsBytes c.args.home.now.value c.args.order c.args.piece (max c.args.size (c.args.off + n)) c.set_range.new.slots.items) same
    (overwrite_holds c.args.home.now.value c.args.order c.args.piece c.requires.some c.args.size c.args.slots.now.items c.requires.holds
    c.args.off c.pieces_of.result (replicate c.args.len c.args.byte) c.grow.new.slots.items c.fill_holes.new.slots.items c.set_range.new.slots.items (c.pieces_of.result - vec_len c.args.slots.now)
    (ap (λ n. c.pieces_of.result - n) (sym was)) (c.pieces_of.ensures ∙ ap (λ n. pieces n c.args.piece) (c.max.ensures ∙ ap (λ n. max c.args.size (c.args.off + n)) (sym same))) c.grow.ensures.items c.fill_holes.ensures.bytes long
    c.set_range.ensures.slots c.set_range.ensures.bytes)

pub returns-clause-bytes : goal.returns-clause-bytes
returns-clause-bytes c =
    let was : length c.args.slots.now.items ≡ vec_len c.args.slots.now = omega (arith, c.args.slots.now.ok) in
    let same : length (replicate c.args.len c.args.byte) ≡ c.args.len = length-replicate c.args.len c.args.byte in
    let long : length c.set_range.new.slots.items ≡ length c.grow.new.slots.items = omega (arith, c.set_range.new.slots.ok, c.grow.new.slots.ok, c.set_range.ensures.count, c.fill_holes.ensures.count) in
    subst (λ n. bytes_of c.args.piece (max c.args.size (c.args.off + n)) c.set_range.new.slots.items ≡ overwritten c.args.off (replicate c.args.len c.args.byte) (bytes_of c.args.piece c.args.size c.args.slots.now.items)) same
    (overwrite_bytes c.args.home.now.value c.args.order c.args.piece c.requires.some c.args.size c.args.slots.now.items c.requires.holds
    c.args.off c.pieces_of.result (replicate c.args.len c.args.byte) c.grow.new.slots.items c.fill_holes.new.slots.items c.set_range.new.slots.items (c.pieces_of.result - vec_len c.args.slots.now)
    (ap (λ n. c.pieces_of.result - n) (sym was)) (c.pieces_of.ensures ∙ ap (λ n. pieces n c.args.piece) (c.max.ensures ∙ ap (λ n. max c.args.size (c.args.off + n)) (sym same))) c.grow.ensures.items c.fill_holes.ensures.bytes long
    c.set_range.ensures.slots c.set_range.ensures.bytes)

pub returns-clause-runs : goal.returns-clause-runs
returns-clause-runs c =
    c.set_range.ensures.runs ∙ c.fill_holes.ensures.runs
    ∙ ap (λ n. filled (holes_in c.grow.new.slots.items (places (c.args.off / c.args.piece) (n - c.args.off / c.args.piece))) (firsts c.fill_holes.new.runs.items) (runs_in c.grow.new.slots.items)) c.pieces_of-2.ensures
    ∙ ap (λ s. filled (holes_in s (places_of c.args.piece c.args.off c.args.len)) (firsts c.fill_holes.new.runs.items) (runs_in s)) c.grow.ensures.items
    ∙ ap (λ hs. filled hs (firsts c.fill_holes.new.runs.items) (runs_in (c.args.slots.now.items ++ replicate (c.pieces_of.result - vec_len c.args.slots.now) None)))
    (longer_holes c.args.slots.now.items (c.pieces_of.result - vec_len c.args.slots.now) (places_of c.args.piece c.args.off c.args.len))
    ∙ ap (filled (holes_in c.args.slots.now.items (places_of c.args.piece c.args.off c.args.len)) (firsts c.fill_holes.new.runs.items))
    (longer_runs c.args.slots.now.items (c.pieces_of.result - vec_len c.args.slots.now))
