use Rattle.std.proofs.Common.{◌≡◌, ◌+◌, ◌^◌, ◌≤◌, None, Option, List, ℕ, length, take, drop, sym, ap, subst, ◌∙◌, arith}
use Rattle.phys_frames.specs.Homes.{HomeId}
use Rattle.phys_frames.specs.Memory.{Memory, FolioValue, with_folio, RunOut}
use Rattle.phys_frames.specs.Pages.{pages_of}
use Rattle.phys_frames.proofs.Chunks.{length-pages}
use Rattle.phys_frames.proofs.Runs.{given-length, given-pages, were-out, given-count}
use Rattle.phys_frames.proofs.Homes.{all-within, none-all}
use Rattle.phys_frames.proofs.frames.Frames.give.Goals as goal

pub overflow_sub-self : goal.overflow_sub-self
overflow_sub-self c =
    let i = c.self.inside in let inv = c.self.invariant in let f = c.folio.inside in let of_folio = c.folio.invariant in
    let same : f.home ≡ record { mark = i.base.ptr; frames = i.count; key = i.deed.key } = ap (λ (r : FolioValue). r.home) c.folio.view_is ∙ c.requires ∙ ap (λ (m : Memory). m.home) (sym c.self.view_is) in
    let within : f.first.0 + 2 ^ f.order.0 ≤ i.count = subst (λ (n : ℕ). f.first.0 + 2 ^ f.order.0 ≤ n) (ap (λ (x : HomeId). x.frames) same) of_folio.5 in
    let k : ℕ = 2 ^ f.order.0 in let m : ℕ = c.bytes_of.result in let es = c.join.new.self.slots in
    let counts = given-count 4096 i.count i.cells.slots inv.4 f.first.0 k m within c.bytes_of.ensures (omega arith) f.cells.slots of_folio.2 (of_folio.3 ∙ sym c.bytes_of.ensures) c.join.ensures.were_away es c.join.ensures.slots.1 in
    omega (arith, counts, inv.7, c.frames_of.ensures.value)

pub invariant_of-self : goal.invariant_of-self
invariant_of-self c =
    let i = c.self.inside in let inv = c.self.invariant in let f = c.folio.inside in let of_folio = c.folio.invariant in
    let same : f.home ≡ record { mark = i.base.ptr; frames = i.count; key = i.deed.key } = ap (λ (r : FolioValue). r.home) c.folio.view_is ∙ c.requires ∙ ap (λ (m : Memory). m.home) (sym c.self.view_is) in
    let within : f.first.0 + 2 ^ f.order.0 ≤ i.count = subst (λ (n : ℕ). f.first.0 + 2 ^ f.order.0 ≤ n) (ap (λ (x : HomeId). x.frames) same) of_folio.5 in
    let k : ℕ = 2 ^ f.order.0 in let m : ℕ = c.bytes_of.result in let es = c.join.new.self.slots in
    let counts = given-count 4096 i.count i.cells.slots inv.4 f.first.0 k m within c.bytes_of.ensures (omega arith) f.cells.slots of_folio.2 (of_folio.3 ∙ sym c.bytes_of.ensures) c.join.ensures.were_away es c.join.ensures.slots.1 in (
      c.join.ensures.slots.0 ∙ inv.0,
      inv.1,
      inv.2,
      inv.3,
      given-length 4096 i.count i.cells.slots inv.4 f.first.0 k m within c.bytes_of.ensures (omega arith) f.cells.slots of_folio.2 (of_folio.3 ∙ sym c.bytes_of.ensures) c.join.ensures.were_away es c.join.ensures.slots.1,
      inv.5,
      inv.6,
      omega (arith, counts, inv.7, c.frames_of.ensures.value),
    )

pub returns-clause-home : goal.returns-clause-home
returns-clause-home c =
    let i = c.self.inside in let inv = c.self.invariant in let f = c.folio.inside in let of_folio = c.folio.invariant in
    let same : f.home ≡ record { mark = i.base.ptr; frames = i.count; key = i.deed.key } = ap (λ (r : FolioValue). r.home) c.folio.view_is ∙ c.requires ∙ ap (λ (m : Memory). m.home) (sym c.self.view_is) in
    let within : f.first.0 + 2 ^ f.order.0 ≤ i.count = subst (λ (n : ℕ). f.first.0 + 2 ^ f.order.0 ≤ n) (ap (λ (x : HomeId). x.frames) same) of_folio.5 in
    let k : ℕ = 2 ^ f.order.0 in let m : ℕ = c.bytes_of.result in let es = c.join.new.self.slots in
    ap (λ (ps : List (Option (List ℕ))). record { pages = ps; home = record { mark = i.base.ptr; frames = i.count; key = i.deed.key } })
    (given-pages 4096 i.count i.cells.slots inv.4 f.first.0 k m within c.bytes_of.ensures (omega arith) f.cells.slots of_folio.2 (of_folio.3 ∙ sym c.bytes_of.ensures) c.join.ensures.were_away es c.join.ensures.slots.1)
    ∙ (λ j. with_folio (c.self.view_is j) (c.folio.view_is j))

pub returns-clause-were_out : goal.returns-clause-were_out
returns-clause-were_out c =
    let i = c.self.inside in let inv = c.self.invariant in let f = c.folio.inside in let of_folio = c.folio.invariant in
    let same : f.home ≡ record { mark = i.base.ptr; frames = i.count; key = i.deed.key } = ap (λ (r : FolioValue). r.home) c.folio.view_is ∙ c.requires ∙ ap (λ (m : Memory). m.home) (sym c.self.view_is) in
    let within : f.first.0 + 2 ^ f.order.0 ≤ i.count = subst (λ (n : ℕ). f.first.0 + 2 ^ f.order.0 ≤ n) (ap (λ (x : HomeId). x.frames) same) of_folio.5 in
    let k : ℕ = 2 ^ f.order.0 in let m : ℕ = c.bytes_of.result in let es = c.join.new.self.slots in
    let out = were-out 4096 i.count i.cells.slots inv.4 f.first.0 k m within c.bytes_of.ensures (omega arith) f.cells.slots of_folio.2 (of_folio.3 ∙ sym c.bytes_of.ensures) c.join.ensures.were_away es c.join.ensures.slots.1 in
    let ps = pages_of 4096 i.count i.cells.slots in
    let le : f.first.0 + k ≤ length ps = omega (arith, within, length-pages 4096 i.count i.cells.slots) in
    subst (λ (x : Memory × FolioValue). RunOut x.0 x.1.first x.1.order) (λ j. (c.self.view_is j, c.folio.view_is j)) (le, all-within (λ page. page ≡ None) ps f.first.0 k le (none-all (take k (drop f.first.0 ps)) k out))
