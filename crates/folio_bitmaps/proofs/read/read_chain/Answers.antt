use Rattle.std.proofs.Common.{◌≡◌, ℕ, ◌-◌, ◌*◌, ◌<◌, ◌≤◌, List, [], ◌∷◌, ◌++◌, length, map, take, drop, replicate, refl, sym, ap, subst, ◌∙◌, arith, rules}
use Rattle.ho_base.specs.declared.numbers.Pfn.{Pfn}
use Rattle.ho_base.specs.BitmapCount.{bitmap_count}
use Rattle.std.specs.Prelude.{unwrap_or, Option}
use Rattle.std.proofs.lemmas.List.{length-map, length-replicate, map_push, length_push, with_items_is}
use Rattle.folio_bitmaps.specs.Bitmaps.{runs_of, AreBitmaps}
use Rattle.folio_bitmaps.specs.Chunks.{next_of, elements_of}
use Rattle.folio_bitmaps.specs.Chain.{page_of, HasMarks}
use Rattle.folio_bitmaps.specs.Reading.{GoesOn, puts}
use Rattle.folio_bitmaps.proofs.Walked as walked
use Rattle.folio_bitmaps.proofs.Walked.{IsRead}
use Rattle.folio_bitmaps.proofs.read.read_chain.Goals as goal
use Rattle.folio_bitmaps.proofs.read.read_chain.Goals.{then-number-eq0-via-then-number-eq0, then-number-eq0-via-else-number-eq0+then-number-count}

-- the numbers of frames
abbrev numbers : List Pfn → List ℕ
numbers chunks = map (λ (p : Pfn). p.0) chunks

abbrev blank : ℕ → List ℕ
blank n = replicate {A = ℕ} (512 * bitmap_count n) 0

pub loop-number-init : goal.loop-number-init
unfolding bitmap_count
loop-number-init c =
    let n = c.count-count.result in
    let filled : c.in-Ok.bytes.items ≡ replicate (512 * c.below_order.result) 0 = search rules in
    let zeros : c.in-Ok.bytes.items ≡ blank n = filled ∙ ap (λ (x : ℕ). replicate {A = ℕ} (512 * x) 0) c.below_order.ensures.value in
    let none : numbers c.new-chunks.result.items ≡ [] = ap numbers c.new-chunks.ensures.items in
    record {
      read = subst (λ (l : List ℕ). IsRead c.args.frames.now n c.args.first l c.args.first 0 (blank n) c.in-Ok.bytes.items) (sym none) (walked.read_begins c.args.frames.now n c.args.first (blank n) c.in-Ok.bytes.items zeros);
      goes_on = λ lt. absurd (omega (arith, ap length c.new-chunks.ensures.items));
      size = ap length zeros ∙ length-replicate {A = ℕ} (512 * bitmap_count n) 0;
    }

pub returns-then-number-eq0-clause-refused : goal.returns-then-number-eq0-clause-refused
returns-then-number-eq0-clause-refused c =
    let n = c.count-count.result in
    let number = c.loop-number.number in
    let inv = c.loop-number.invariant in
    walked.read_breaks c.args.frames.now n c.args.first (numbers c.loop-number.chunks.items) number c.loop-number.least (blank n) c.loop-number.bytes.items c.count-count.ensures.value inv.read
    (λ lt. inv.goes_on (omega (arith, length-map c.loop-number.chunks.items (λ (p : Pfn). p.0))))
    (λ h. elim c.then-number-eq0.branch [
      | then-number-eq0-via-then-number-eq0 w ↦ omega (arith, h.0, w.if-number-eq0.true)
      | then-number-eq0-via-else-number-eq0+then-number-count w ↦ omega (arith, h.1, w.if-number-count.true)
    ])

pub returns-in_default-read_chunk-clause-refused : goal.returns-in_default-read_chunk-clause-refused
returns-in_default-read_chunk-clause-refused c =
    let n = c.count-count.result in
    let number = c.loop-number.number in
    let inv = c.loop-number.invariant in
    let page : page_of c.args.frames.now number ≡ c.page-page.result.now = ap (λ (o : Option (List ℕ)). unwrap_or o []) c.page-page.ensures.value in
    walked.read_breaks c.args.frames.now n c.args.first (numbers c.loop-number.chunks.items) number c.loop-number.least (blank n) c.loop-number.bytes.items c.count-count.ensures.value inv.read
    (λ lt. inv.goes_on (omega (arith, length-map c.loop-number.chunks.items (λ (p : Pfn). p.0))))
    (λ h. c.in_default-read_chunk.ensures (subst (GoesOn n c.loop-number.least) page h.2))

-- the bytes after the borrow
module _ (c : goal.Then-number-eq0-2) where
  ended_bytes : take c.loop-number.bytes.len (c.read_chunk.new.bytes ++ drop (length c.read_chunk.new.bytes) c.loop-number.bytes.items) ≡ c.read_chunk.new.bytes
  ended_bytes = with_items_is c.loop-number.bytes c.read_chunk.new.bytes (c.read_chunk.auto.bytes ∙ c.deref_mut.ensures.len)

  ended_puts : c.read_chunk.new.bytes ≡ puts c.count-count.result c.loop-number.bytes.items (elements_of c.page-page.result.now)
  ended_puts = c.in-Some.ensures.2 ∙ ap (λ (l : List ℕ). puts c.count-count.result l (elements_of c.page-page.result.now)) c.deref_mut.ensures.value

  ended : IsRead c.args.frames.now c.count-count.result c.args.first (numbers c.loop-number.chunks.items ++ c.loop-number.number ∷ []) (next_of c.page-page.result.now) c.in-Some.after (blank c.count-count.result) c.read_chunk.new.bytes
  ended = walked.read_step c.args.frames.now c.count-count.result c.args.first (numbers c.loop-number.chunks.items) c.loop-number.number c.loop-number.least (blank c.count-count.result) c.loop-number.bytes.items c.in-Some.after c.read_chunk.new.bytes c.page-page.result.now
      c.count-count.ensures.value c.loop-number.invariant.read c.if-number-eq0.false c.if-number-count.false (ap (λ (o : Option (List ℕ)). unwrap_or o []) c.page-page.ensures.value) c.page-page.ensures.len c.in-Some.ensures.0 c.in-Some.ensures.1 ended_puts

  ended_chunks : numbers c.push.new.self.items ≡ numbers c.loop-number.chunks.items ++ c.loop-number.number ∷ []
  ended_chunks =
      let pushed : c.push.new.self.items ≡ c.loop-number.chunks.items ++ record { 0 = c.loop-number.number } ∷ [] = search rules in
      ap numbers pushed ∙ map_push (λ (p : Pfn). p.0) c.loop-number.chunks.items (record { 0 = c.loop-number.number })

-- the chain is at its end
module _ (c : goal.Then-number-eq0-2) where
  whole : IsRead c.args.frames.now c.count-count.result c.args.first (numbers c.push.new.self.items) 0 c.in-Some.after (blank c.count-count.result) c.read_chunk.new.bytes
  whole =
      let last : next_of c.page-page.result.now ≡ 0 = sym c.get_u64-number.ensures ∙ c.if-number-eq0-2.true in
      subst (λ (l : List ℕ). IsRead c.args.frames.now c.count-count.result c.args.first l 0 c.in-Some.after (blank c.count-count.result) c.read_chunk.new.bytes) (sym (ended_chunks c))
      (subst (λ (x : ℕ). IsRead c.args.frames.now c.count-count.result c.args.first (numbers c.loop-number.chunks.items ++ c.loop-number.number ∷ []) x c.in-Some.after (blank c.count-count.result) c.read_chunk.new.bytes) last (ended c))

pub invariant_of-result : goal.invariant_of-result
invariant_of-result c =
    let n = c.count-count.result in
    subst (AreBitmaps n) (sym (ended_bytes c))
    (walked.read_whole c.args.frames.now n c.args.first (numbers c.push.new.self.items) 0 c.in-Some.after (blank n) c.read_chunk.new.bytes (512 * bitmap_count n) refl (length-replicate {A = ℕ} (512 * bitmap_count n) 0) (whole c))

pub returns-then-number-eq0-2-clause-marks : goal.returns-then-number-eq0-2-clause-marks
returns-then-number-eq0-2-clause-marks c =
    let n = c.count-count.result in
    let some : 0 < length (numbers c.push.new.self.items) = omega (arith, ap length (ended_chunks c), length_push (numbers c.loop-number.chunks.items) c.loop-number.number) in
    subst (λ (l : List ℕ). HasMarks c.args.frames.now c.args.first (numbers c.push.new.self.items) (runs_of n l)) (sym (ended_bytes c))
    (walked.read_ends c.args.frames.now n c.args.first (numbers c.push.new.self.items) c.in-Some.after (blank n) c.read_chunk.new.bytes (512 * bitmap_count n) c.count-count.ensures.value refl (length-replicate {A = ℕ} (512 * bitmap_count n) 0) some (whole c))

-- the same where the chain goes on
module _ (c : goal.Else-number-eq0-2) where
  went_bytes : take c.loop-number.bytes.len (c.read_chunk.new.bytes ++ drop (length c.read_chunk.new.bytes) c.loop-number.bytes.items) ≡ c.read_chunk.new.bytes
  went_bytes = with_items_is c.loop-number.bytes c.read_chunk.new.bytes (c.read_chunk.auto.bytes ∙ c.deref_mut.ensures.len)

  went_puts : c.read_chunk.new.bytes ≡ puts c.count-count.result c.loop-number.bytes.items (elements_of c.page-page.result.now)
  went_puts = c.in-Some.ensures.2 ∙ ap (λ (l : List ℕ). puts c.count-count.result l (elements_of c.page-page.result.now)) c.deref_mut.ensures.value

  went : IsRead c.args.frames.now c.count-count.result c.args.first (numbers c.loop-number.chunks.items ++ c.loop-number.number ∷ []) (next_of c.page-page.result.now) c.in-Some.after (blank c.count-count.result) c.read_chunk.new.bytes
  went = walked.read_step c.args.frames.now c.count-count.result c.args.first (numbers c.loop-number.chunks.items) c.loop-number.number c.loop-number.least (blank c.count-count.result) c.loop-number.bytes.items c.in-Some.after c.read_chunk.new.bytes c.page-page.result.now
      c.count-count.ensures.value c.loop-number.invariant.read c.if-number-eq0.false c.if-number-count.false (ap (λ (o : Option (List ℕ)). unwrap_or o []) c.page-page.ensures.value) c.page-page.ensures.len c.in-Some.ensures.0 c.in-Some.ensures.1 went_puts

  went_chunks : numbers c.push.new.self.items ≡ numbers c.loop-number.chunks.items ++ c.loop-number.number ∷ []
  went_chunks =
      let pushed : c.push.new.self.items ≡ c.loop-number.chunks.items ++ record { 0 = c.loop-number.number } ∷ [] = search rules in
      ap numbers pushed ∙ map_push (λ (p : Pfn). p.0) c.loop-number.chunks.items (record { 0 = c.loop-number.number })

pub loop-number-smaller : goal.loop-number-smaller
loop-number-smaller c =
    let n = c.count-count.result in
    let up : c.loop-number.least < c.in-Some.after = walked.read_rises n c.loop-number.least c.in-Some.after c.page-page.result.now c.in-Some.ensures.0 c.in-Some.ensures.1 in
    let within : c.in-Some.after ≤ bitmap_count n =
    walked.read_within c.args.frames.now n c.args.first (numbers c.loop-number.chunks.items) c.loop-number.number c.loop-number.least (blank n) c.loop-number.bytes.items c.in-Some.after c.page-page.result.now c.loop-number.invariant.read c.in-Some.ensures.0 c.in-Some.ensures.1 in
    falls (bitmap_count n) c.loop-number.least c.in-Some.after up within
  where
    falls : (b x y : ℕ) → x < y → y ≤ b → b - y < b - x
    falls b x y lt le = omega arith

pub loop-number-preserved : goal.loop-number-preserved
loop-number-preserved c =
    let n = c.count-count.result in
    record {
      read = subst (λ (l : List ℕ). IsRead c.args.frames.now n c.args.first (numbers c.push.new.self.items) c.get_u64-number.result c.in-Some.after (blank n) l) (sym (went_bytes c))
          (subst (λ (l : List ℕ). IsRead c.args.frames.now n c.args.first l c.get_u64-number.result c.in-Some.after (blank n) c.read_chunk.new.bytes) (sym (went_chunks c))
          (subst (λ (x : ℕ). IsRead c.args.frames.now n c.args.first (numbers c.loop-number.chunks.items ++ c.loop-number.number ∷ []) x c.in-Some.after (blank n) c.read_chunk.new.bytes) (sym c.get_u64-number.ensures) (went c)));
      goes_on = λ lt. c.if-number-eq0-2.false;
      size = ap length (went_bytes c) ∙ c.read_chunk.auto.bytes ∙ ap length c.deref_mut.ensures.value ∙ c.loop-number.invariant.size;
    }
