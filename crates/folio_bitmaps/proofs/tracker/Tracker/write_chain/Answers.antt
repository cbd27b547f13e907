use Rattle.std.proofs.Common.{◌≡◌, ℕ, ◌+◌, ◌/◌, ◌<◌, List, length, take, get_or, set, true, refl, sym, ap, subst, ◌∙◌, arith, rules}
use Rattle.std.proofs.lemmas.List.{get_or_default, take_more}
use Rattle.ho_base.specs.declared.numbers.Pfn.{Pfn}
use Rattle.phys_frames.specs.Memory.{FolioValue as Folio}
use Rattle.ho_base.specs.BitmapCount.{bitmap_count}
use Rattle.folio_bitmaps.specs.Bitmaps.{runs_of}
use Rattle.folio_bitmaps.specs.Written.{IsWritten, next_first, with_frames}
use Rattle.std.specs.FinSet as sets
use Rattle.folio_bitmaps.specs.Runs.{Marks, Run, IsRun}
use Rattle.std.specs.List.{All}
use Rattle.folio_bitmaps.proofs.Marked.{member_run}
use Rattle.folio_bitmaps.proofs.Extra.{one, frame_number}
use Rattle.folio_bitmaps.proofs.Chains.{AreWritten, written_more, written_marked, with_frames_push, with_frames_none, with_frames_members, first_same, next_none}
use Rattle.folio_bitmaps.proofs.tracker.Tracker.write_chain.Goals as goal
use Rattle.folio_bitmaps.proofs.tracker.Tracker.write_chain.Goals.{then-i-count, else-i-count}

pub loop-i-preserved : goal.loop-i-preserved
loop-i-preserved c =
    let n = c.self.inside.frames in
    let runs = runs_of c.self.inside.frames c.self.inside.bytes.items in
    let next : c.if-i-count.next ≡ next_first c.args.folios.now c.loop-i.i =
    elim c.if-i-count.branch [
      | then-i-count w ↦ w.next-is ∙ ap (λ (p : Pfn). p.0) w.first.ensures.value ∙ first_same n runs c.args.folios.now c.loop-i.i c.loop-i.folios (c.loop-i.i + 1) w.index-folios-i.result c.loop-i.invariant (search rules)
      | else-i-count w ↦ w.next-is ∙ next_none c.args.folios.now c.loop-i.i w.if-i-count.false
    ] in
    let bytes : c.deref.result.now ≡ c.self.inside.bytes.items = search rules in
    written_more n runs c.args.folios.now c.loop-i.folios c.loop-i.i (get_or c.loop-i.folios c.loop-i.i c.index-folios-i-in-loop-i.result) c.write_chunk.new.folio (omega (arith, c.loop-i.invariant.size))
    (get_or_default c.loop-i.folios c.loop-i.i _ _ (search rules)) c.write_chunk.ensures.same c.loop-i.invariant
    (subst (λ (m : ℕ). IsWritten n runs c.loop-i.i m c.write_chunk.new.folio.bytes) next
    (subst (λ (l : List ℕ). IsWritten n (runs_of n l) c.loop-i.i c.if-i-count.next c.write_chunk.new.folio.bytes) bytes c.write_chunk.ensures.written))

pub loop-p-init : goal.loop-p-init
loop-p-init c =
    let all : c.loop-i.i ≡ length c.args.folios.now = omega (arith, c.loop-i.invariant.size) in
    let none = with_frames_none (runs_of c.self.inside.frames c.self.inside.bytes.items) in
    subst (λ runs. AreWritten c.self.inside.frames runs c.args.folios.now (length c.args.folios.now) c.loop-i.folios) (sym none)
    (subst (λ (k : ℕ). AreWritten c.self.inside.frames (runs_of c.self.inside.frames c.self.inside.bytes.items) c.args.folios.now k c.loop-i.folios) all c.loop-i.invariant)

-- the frame is one of the machine, and its chunk frame is there
frame_in : (c : goal.After-row_known-1) → (get_or c.args.extra.now c.loop-p.p-index (record { 0 = 0 })).0 < c.self.inside.frames
frame_in c = omega (arith, c.requires.extra c.loop-p.p-index (record { 0 = 0 }) c.loop-p-test.true, ap (λ (m : Marks). m.frames) c.self.view_is)

pub bounds-folios-p : goal.bounds-folios-p
bounds-folios-p c =
    let p : ℕ = (get_or c.args.extra.now c.loop-p.p-index (record { 0 = 0 })).0 in
    let there : p / 4096 < bitmap_count c.self.inside.frames = frame_number c.self.inside.frames p (frame_in c) in
    let count : length c.args.folios.now ≡ (bitmap_count c.self.inside.frames + 6) / 7 = c.requires.count ∙ ap (λ (m : Marks). (bitmap_count m.frames + 6) / 7) (sym c.self.view_is) in
    omega (arith, c.loop-p.invariant.size)

pub mark_chunk-requires-clause-order : goal.mark_chunk-requires-clause-order
mark_chunk-requires-clause-order c =
    let i : ℕ = (get_or c.args.extra.now c.loop-p.p-index (record { 0 = 0 })).0 / 4096 / 7 in
    let lt : i < length c.args.folios.now = omega (arith, bounds-folios-p c.before, c.loop-p.invariant.size) in
    ap (λ (f : Folio). f.order.0) (c.loop-p.invariant.same i c.index-folios-p.result lt) ∙ c.requires.orders i c.index-folios-p.result lt

pub loop-p-preserved : goal.loop-p-preserved
loop-p-preserved c =
    let n = c.self.inside.frames in
    let all = runs_of c.self.inside.frames c.self.inside.bytes.items in
    let p : Pfn = get_or c.args.extra.now c.loop-p.p-index (record { 0 = 0 }) in
    let i : ℕ = p.0 / 4096 / 7 in
    let lt : i < length c.args.folios.now = omega (arith, bounds-folios-p c.before.before, c.loop-p.invariant.size) in
    let runs = with_frames all (take c.loop-p.p-index c.args.extra.now) in
    let more : with_frames all (take (c.loop-p.p-index + 1) c.args.extra.now) ≡ sets.insert runs (one p.0) =
    ap (with_frames all) (take_more c.args.extra.now c.loop-p.p-index (record { 0 = 0 }) c.loop-p-test.true) ∙ with_frames_push all (take c.loop-p.p-index c.args.extra.now) p in
    subst (λ s. AreWritten n s c.args.folios.now (length c.args.folios.now) (set c.loop-p.folios i c.mark_chunk.new.folio)) (sym more)
    (written_marked n runs c.args.folios.now c.loop-p.folios i (get_or c.loop-p.folios i c.index-folios-p.result) c.mark_chunk.new.folio lt
    (get_or_default c.loop-p.folios i _ _ (omega (arith, c.loop-p.invariant.size))) c.mark_chunk.ensures.same p.0 refl c.loop-p.invariant
    (c.mark_chunk.ensures.marked runs (next_first c.args.folios.now i) (c.loop-p.invariant.done i c.index-folios-p.result lt)))

pub returns-clause-members : goal.returns-clause-members
returns-clause-members c =
    let n = c.self.inside.frames in
    let bytes : List ℕ = c.self.inside.bytes.items in
    let Says : Marks → Type 0 = λ m. All (λ (p : Pfn). p.0 < m.frames) c.args.extra.now → (r : Run) → sets.contains (with_frames m.runs c.args.extra.now) r ≡ true → IsRun m.frames r in
    subst Says c.self.view_is (with_frames_members n (runs_of n bytes) c.args.extra.now (λ q m. member_run n bytes q m)) c.requires.extra
