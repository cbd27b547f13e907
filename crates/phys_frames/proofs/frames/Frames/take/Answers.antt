use Rattle.std.proofs.Common.{◌≡◌, ◌+◌, ◌*◌, ◌^◌, ◌<◌, ◌≤◌, Option, List, ℕ, length, take, drop, sym, ap, subst, ◌∙◌, arith}
use Rattle.std.specs.Option.{IsSome}
use Rattle.std.specs.List.{All}
use Rattle.ho_base.specs.declared.numbers.Pfn.{Pfn}
use Rattle.ho_base.specs.declared.numbers.Order.{Order}
use Rattle.phys_frames.specs.Homes.{HomeId, byte_at}
use Rattle.phys_frames.specs.Memory.{Memory, RunHome, without_run, run_at}
use Rattle.phys_frames.specs.Pages.{pages_of}
use Rattle.phys_frames.proofs.Chunks.{length-pages}
use Rattle.phys_frames.proofs.Runs.{length-heres, run-here, run-is-here, run-length, run-bytes, taken-length, taken-pages, taken-count, count-le}
use Rattle.phys_frames.proofs.Homes.{within-all}
use Rattle.phys_frames.proofs.frames.Frames.take.Goals as goal

-- the run is home in the fields too
run_asked : (m n : Memory) (p : Pfn) (o : Order) → m ≡ n → RunHome n p o → (p.0 + 2 ^ o.0 ≤ length m.pages) × All IsSome (take (2 ^ o.0) (drop p.0 m.pages))
run_asked m n p o e asked = let home = subst (λ (x : Memory). RunHome x p o) (sym e) asked in (home.0, within-all IsSome m.pages p.0 (2 ^ o.0) home.1)

pub split-cells-requires : goal.split-cells-requires
split-cells-requires c =
    let i = c.self.inside in let inv = c.self.invariant in
    let asked = run_asked _ c.args.self.now c.args.first c.args.order c.self.view_is c.requires.home in
    let within : c.args.first.0 + 2 ^ c.args.order.0 ≤ i.count = omega (arith, asked.0, length-pages 4096 i.count i.cells.slots) in
    (sym inv.0, run-here 4096 i.count i.cells.slots inv.4 c.args.first.0 (2 ^ c.args.order.0) c.bytes_of.result within c.bytes_of.ensures asked.1)

pub overflow_add-self : goal.overflow_add-self
overflow_add-self c =
    let i = c.self.inside in let inv = c.self.invariant in
    let few : i.out ≤ 16384 = omega (arith, inv.6, inv.7, count-le (pages_of 4096 i.count i.cells.slots), length-pages 4096 i.count i.cells.slots) in
    let room : i.out + c.frames_of.result < 4294967296 = omega (arith, few, c.frames_of.ensures.few) in
    record { fits = room }

pub invariant_of-self : goal.invariant_of-self
invariant_of-self c =
    let i = c.self.inside in let inv = c.self.invariant in
    let asked = run_asked _ c.args.self.now c.args.first c.args.order c.self.view_is c.requires.home in
    let within : c.args.first.0 + 2 ^ c.args.order.0 ≤ i.count = omega (arith, asked.0, length-pages 4096 i.count i.cells.slots) in
    let es = c.split-cells.new.self.slots in let left = c.split-cells.ensures.left in
    let k : ℕ = 2 ^ c.args.order.0 in let m : ℕ = c.bytes_of.result in (
      left.0 ∙ inv.0,
      inv.1,
      inv.2,
      inv.3,
      taken-length 4096 i.count i.cells.slots inv.4 c.args.first.0 k m within c.bytes_of.ensures asked.1 (omega arith) es left.1,
      inv.5,
      inv.6,
      (λ j. inv.7 j + c.frames_of.ensures.value j) ∙ taken-count 4096 i.count i.cells.slots inv.4 c.args.first.0 k m within c.bytes_of.ensures asked.1 (omega arith) es left.1,
    )

pub invariant_of-result : goal.invariant_of-result
invariant_of-result c =
    let i = c.self.inside in let inv = c.self.invariant in
    let asked = run_asked _ c.args.self.now c.args.first c.args.order c.self.view_is c.requires.home in
    let within : c.args.first.0 + 2 ^ c.args.order.0 ≤ i.count = omega (arith, asked.0, length-pages 4096 i.count i.cells.slots) in
    let k : ℕ = 2 ^ c.args.order.0 in let m : ℕ = c.bytes_of.result in
    let part = c.split-cells.ensures.part in let run = c.split-cells.result.1.slots in
    let from : ℕ = c.args.first.0 * 4096 in
    let mark = ap (λ (x : HomeId). x.mark) (c.home-home.ensures ∙ ap (λ (x : Memory). x.home) (sym c.self.view_is)) in
    let frames = ap (λ (x : HomeId). x.frames) (c.home-home.ensures ∙ ap (λ (x : Memory). x.home) (sym c.self.view_is)) in (
      part.1,
      part.0 ∙ ap (byte_at from) (sym mark),
      run-is-here 4096 i.count i.cells.slots inv.4 c.args.first.0 k m within c.bytes_of.ensures asked.1 run part.2,
      run-length 4096 i.count i.cells.slots inv.4 c.args.first.0 k m within c.bytes_of.ensures asked.1 run part.2 ∙ c.bytes_of.ensures,
      c.requires.order,
      omega (arith, within, frames),
      c.requires.aligned,
    )

pub returns-clause-bytes : goal.returns-clause-bytes
returns-clause-bytes c =
    let i = c.self.inside in let inv = c.self.invariant in
    let asked = run_asked _ c.args.self.now c.args.first c.args.order c.self.view_is c.requires.home in
    let within : c.args.first.0 + 2 ^ c.args.order.0 ≤ i.count = omega (arith, asked.0, length-pages 4096 i.count i.cells.slots) in
    let k : ℕ = 2 ^ c.args.order.0 in let m : ℕ = c.bytes_of.result in
    ap (λ (x : Memory). run_at x c.args.first c.args.order) (sym c.self.view_is)
    ∙ run-bytes 4096 i.count i.cells.slots inv.4 c.args.first.0 k m within c.bytes_of.ensures asked.1 c.split-cells.result.1.slots c.split-cells.ensures.part.2

pub returns-clause-out : goal.returns-clause-out
returns-clause-out c =
    let i = c.self.inside in let inv = c.self.invariant in
    let asked = run_asked _ c.args.self.now c.args.first c.args.order c.self.view_is c.requires.home in
    let within : c.args.first.0 + 2 ^ c.args.order.0 ≤ i.count = omega (arith, asked.0, length-pages 4096 i.count i.cells.slots) in
    let k : ℕ = 2 ^ c.args.order.0 in let m : ℕ = c.bytes_of.result in
    ap (λ (ps : List (Option (List ℕ))). record { pages = ps; home = record { mark = i.base.ptr; frames = i.count; key = i.deed.key } })
    (taken-pages 4096 i.count i.cells.slots inv.4 c.args.first.0 k m within c.bytes_of.ensures asked.1 (omega arith) c.split-cells.new.self.slots c.split-cells.ensures.left.1)
    ∙ ap (λ (x : Memory). without_run x c.args.first c.args.order) c.self.view_is

pub returns-clause-len : goal.returns-clause-len
returns-clause-len c =
    let i = c.self.inside in let inv = c.self.invariant in
    let asked = run_asked _ c.args.self.now c.args.first c.args.order c.self.view_is c.requires.home in
    let within : c.args.first.0 + 2 ^ c.args.order.0 ≤ i.count = omega (arith, asked.0, length-pages 4096 i.count i.cells.slots) in
    let k : ℕ = 2 ^ c.args.order.0 in let m : ℕ = c.bytes_of.result in let run = c.split-cells.result.1.slots in
    length-heres run (run-is-here 4096 i.count i.cells.slots inv.4 c.args.first.0 k m within c.bytes_of.ensures asked.1 run c.split-cells.ensures.part.2)
    ∙ run-length 4096 i.count i.cells.slots inv.4 c.args.first.0 k m within c.bytes_of.ensures asked.1 run c.split-cells.ensures.part.2 ∙ c.bytes_of.ensures
