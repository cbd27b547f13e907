use Rattle.std.proofs.Common.{◌≡◌, ◌+◌, ◌≤◌, None, Some, length, inr, sym, ap, subst, ◌∙◌, arith}
use Rattle.std.proofs.lemmas.List.{length-replicate}
use Rattle.std.proofs.lemmas.Result.{IfOk-at_ok}
use Rattle.std.specs.List.{AllWithin}
use Rattle.std.specs.Option.{IsSome}
use denote.Param.Send.{sendable}
use Rattle.ho_base.specs.declared.numbers.Pfn.{Pfn}
use Rattle.ho_base.specs.declared.numbers.Order.{Order}
use Rattle.phys_frames.specs.Memory.{Memory, FolioValue, IsHome, frames_in, zero_page}
use Rattle.phys_frames.proofs.Sent.{folio_send}
use Rattle.phys_frames.proofs.Homes.{fresh, taken_count, taken_beside, given_beside, given_home}
use Rattle.frame_tests.proofs.frames.two_runs_at_once.Goals as goal

pub take-low-requires-clause-home : goal.take-low-requires-clause-home
take-low-requires-clause-home g c =
    let start = IfOk-at_ok _ c.expect-frames.ensures c.zeroed.ensures.pages in
    let many : length c.expect-frames.result.pages ≡ 1024 = ap length start ∙ length-replicate 1024 (Some zero_page) in
    (omega (arith, many), fresh c.expect-frames.result.pages 1024 zero_page 0 512 start (omega arith))

pub take-high-requires-clause-home : goal.take-high-requires-clause-home
take-high-requires-clause-home g c =
    let start = IfOk-at_ok _ c.expect-frames.ensures c.zeroed.ensures.pages in
    let many : length c.expect-frames.result.pages ≡ 1024 = ap length start ∙ length-replicate 1024 (Some zero_page) in
    let m : Memory = c.expect-frames.result in
    let low : Pfn = record { 0 = 0 } in let nine : Order = record { 0 = 9 } in
    let within : 0 + 512 ≤ length m.pages = omega (arith, many) in
    let home = taken_beside m low nine within 512 1024 (inr (omega arith)) (fresh m.pages 1024 zero_page 512 1024 start (omega arith)) in
    let all = ap (λ (x : Memory). x.pages) c.take-low.ensures.out in
    (omega (arith, ap length all, taken_count m low nine within, many), subst (λ (x : Memory). AllWithin IsSome x.pages 512 1024) (sym c.take-low.ensures.out) home)

pub moves-requires-send-T : goal.moves-requires-send-T
moves-requires-send-T g c = search (sendable, folio_send)

pub moves-requires-2-send-T : goal.moves-requires-2-send-T
moves-requires-2-send-T g c = search (sendable, folio_send)

pub page-requires : goal.page-requires
page-requires g c =
    let f : FolioValue = c.moves-2.result in let m : Memory = c.give.new.self in
    let first : f.first.0 ≡ 0 = ap (λ (r : FolioValue). r.first.0) c.moves-2.ensures ∙ ap (λ (p : Pfn). p.0) c.take-low.ensures.first in
    let frames : frames_in f.order ≡ 512 = ap (λ (r : FolioValue). frames_in r.order) c.moves-2.ensures ∙ ap frames_in c.take-low.ensures.order in
    let home = given_home m f c.give-2.ensures.were_out.0 511 512 (omega (arith, first)) (omega (arith, first, frames)) in
    subst (λ (x : Memory). IsHome x (record { 0 = 511 })) (sym c.give-2.ensures.home) (home 511 None (omega arith) (omega arith))

pub page-requires-3 : goal.page-requires-3
page-requires-3 g c =
    let f : FolioValue = c.moves-2.result in let m : Memory = c.give.new.self in let f' : FolioValue = c.moves.result in
    let first : f.first.0 ≡ 0 = ap (λ (r : FolioValue). r.first.0) c.moves-2.ensures ∙ ap (λ (p : Pfn). p.0) c.take-low.ensures.first in
    let frames : frames_in f.order ≡ 512 = ap (λ (r : FolioValue). frames_in r.order) c.moves-2.ensures ∙ ap frames_in c.take-low.ensures.order in
    let first' : f'.first.0 ≡ 512 = ap (λ (r : FolioValue). r.first.0) c.moves.ensures ∙ ap (λ (p : Pfn). p.0) c.take-high.ensures.first in
    let frames' : frames_in f'.order ≡ 512 = ap (λ (r : FolioValue). frames_in r.order) c.moves.ensures ∙ ap frames_in c.take-high.ensures.order in
    let high = given_home c.take-high.new.self f' c.give.ensures.were_out.0 512 513 (omega (arith, first')) (omega (arith, first', frames')) in
    let home = given_beside m f c.give-2.ensures.were_out.0 512 513 (inr (omega (arith, first, frames))) (subst (λ (x : Memory). AllWithin IsSome x.pages 512 513) (sym c.give.ensures.home) high) in
    subst (λ (x : Memory). IsHome x (record { 0 = 512 })) (sym c.give-2.ensures.home) (home 512 None (omega arith) (omega arith))
