-- Frames after a program was loaded into scratch area 0.
use Rattle.std.proofs.Common.{◌≡◌, ℕ, ◌+◌, ◌-◌, ◌≤◌, ◌<◌, ◌⊎◌, Bool, true, false, cond, List, [], ◌∷◌, length, Option, Some, None, refl, sym, ap, subst, ◌∙◌, arith, inl, inr}
use Rattle.std.specs.Prelude.{◌||◌, nat_lt, nat_le}
use Rattle.std.specs.Option.{IsSome}
use Rattle.std.specs.List.{list_all, list_any}
use Rattle.std.proofs.lemmas.Bool.{and_parts, and_from, leb-true, le-leb, ltb-true, lt-ltb, cases_lt}
use Rattle.std.proofs.lemmas.List.{get_or_default}
use Rattle.ho_base.specs.ShapeRule.{Layout, area_end, holds, in_scratch, is_area, is_layout, all_apart, map_fits}
use Rattle.ho_base.specs.declared.numbers.Blob.{Blob}
use Rattle.ho_base.specs.declared.numbers.Pfn.{Pfn}
use Rattle.ho_base.specs.declared.shape.Area.{Area}
use Rattle.ho_world.specs.Frozen.{scratch_have}
use Rattle.phys_frames.specs.Memory.{Memory, AllHome, page_at}
use Rattle.record_frames.specs.Sheeted.{ram_of, page_of, page_bytes}
use Rattle.scratch_area.specs.BlobPages.{HoldsBlob, OthersStay, blob_page}
use Rattle.scratch_area.specs.EarlyFrames.{EarlyFrames, area_0, none_taken}
use Rattle.next_laws.specs.Scratch.{StayBeside}
use Rattle.kexec_boot.specs.Loaded.{blob_at, is_blob_frame, with_blob}

-- a frame of the program is one of scratch area 0, below the end of the frames
in_area_0 : (n p frames : ℕ) (areas : List Area) → list_all (is_area n) areas ≡ true → frames ≤ (area_0 areas).count → (area_0 areas).first.0 ≤ p → p < (area_0 areas).first.0 + frames
    → (p < n) × (in_scratch areas p ≡ true)
in_area_0 n p frames [] fit few lo hi = absurd (omega (arith, few, lo, hi))
in_area_0 n p frames (a ∷ areas) fit few lo hi =
    let fits = and_parts (is_area n a) (list_all (is_area n) areas) fit in
    let end = leb-true (area_end a) n (and_parts _ (nat_le (area_end a) n) fits.0).1 in
    let here : holds p a ≡ true = and_from (nat_le a.first.0 p) (nat_lt p (area_end a)) (le-leb a.first.0 p lo) (lt-ltb p (area_end a) (omega (arith, hi, few))) in
    (omega (arith, end, hi, few), ap (λ b. b || list_any (holds p) areas) here)

areas_fit : (n : ℕ) (areas : List Area) → is_layout n areas ≡ true → list_all (is_area n) areas ≡ true
areas_fit n areas h =
    let a = and_parts _ (map_fits n areas) h in
    let b = and_parts _ (all_apart areas) a.0 in
    (and_parts _ (list_all (is_area n) areas) b.0).1

have_is : (shape : Layout) → scratch_have shape ≡ (area_0 shape.scratch).count
have_is shape = by_list shape.scratch
  where
    by_list : (areas : List Area) → scratch_have (record { frames = shape.frames; scratch = areas }) ≡ (area_0 areas).count
    by_list [] = refl
    by_list (a ∷ areas) = refl

-- the early allocator begins at the first frame of scratch area 0
pub start_of : (shape : Layout) (early : EarlyFrames) (at : Pfn) → early ≡ none_taken shape → at.0 ≡ early.area.first.0 + early.taken → at.0 ≡ blob_at shape
start_of shape early at e first =
    let start = ap (λ (x : EarlyFrames). x.area.first.0) e in
    let none = ap (λ (x : EarlyFrames). x.taken) e in
    omega (arith, first, start, none)

-- where the program was loaded into the frames from one on, and the others stay
module _ (shape : Layout) (blob : Blob) (old new : Memory) (at : Pfn) (first : at.0 ≡ blob_at shape) (loaded : HoldsBlob new at blob) (others : OthersStay old new at blob) where
  blob_there : (p : ℕ) → is_blob_frame shape blob p ≡ true → page_at new (record { 0 = p }) ≡ Some (blob_page blob.version (p - blob_at shape))
  blob_there p h =
      let hs = and_parts (nat_le (blob_at shape) p) (nat_lt p (blob_at shape + blob.frames)) h in
      let lo = leb-true (blob_at shape) p hs.0 in
      let hi = ltb-true p (blob_at shape + blob.frames) hs.1 in
      let same : at.0 + (p - blob_at shape) ≡ p = omega (arith, lo, first) in
      subst (λ (q : ℕ). page_at new (record { 0 = q }) ≡ Some (blob_page blob.version (p - blob_at shape))) same (loaded (p - blob_at shape) (omega (arith, lo, hi)))

  outside : (p : ℕ) → is_blob_frame shape blob p ≡ false → (p < at.0) ⊎ (at.0 + blob.frames ≤ p)
  outside p h =
      elim (cases_lt p (blob_at shape)) [
        | inl lt ↦ inl (omega (arith, lt, first))
        | inr ge ↦ elim (cases_lt p (blob_at shape + blob.frames)) [
          | inl lt ↦
              let yes : is_blob_frame shape blob p ≡ true = and_from (nat_le (blob_at shape) p) (nat_lt p (blob_at shape + blob.frames)) (le-leb (blob_at shape) p ge) (lt-ltb p (blob_at shape + blob.frames) lt) in
              absurd (let no : true ≡ false = sym yes ∙ h in cc)
          | inr le ↦ inr (omega (arith, le, first))
        ]
      ]

  page_same : (p : ℕ) → page_of new p ≡ (with_blob shape blob (ram_of old)).page p
  page_same p = at_test (is_blob_frame shape blob p) refl
    where
      at_test : (b : Bool) → is_blob_frame shape blob p ≡ b → page_of new p ≡ cond (is_blob_frame shape blob p) (blob_page blob.version (p - blob_at shape)) (page_of old p)
      at_test true e = ap page_bytes (blob_there p e) ∙ ap (λ b. cond b (blob_page blob.version (p - blob_at shape)) (page_of old p)) (sym e)
      at_test false e = ap page_bytes (others (record { 0 = p }) (outside p e)) ∙ ap (λ b. cond b (blob_page blob.version (p - blob_at shape)) (page_of old p)) (sym e)

  pub ram_is : length new.pages ≡ length old.pages → ram_of new ≡ with_blob shape blob (ram_of old)
  ram_is count = λ j. record { count = count j; page = λ p. page_same p j }

  pub still_home : length new.pages ≡ length old.pages → AllHome old → AllHome new
  still_home count home = λ k d lt. subst IsSome (get_or_default new.pages k None d lt) (at_test k d (omega (arith, lt, count)) (is_blob_frame shape blob k) refl)
    where
      at_test : (k : ℕ) (d : Option (List ℕ)) → k < length old.pages → (b : Bool) → is_blob_frame shape blob k ≡ b → IsSome (page_at new (record { 0 = k }))
      at_test k d lt true e = subst IsSome (sym (blob_there k e)) refl
      at_test k d lt false e = subst IsSome (sym (others (record { 0 = k }) (outside k e))) (home k None lt)

  pub beside : length new.pages ≡ length old.pages → shape.frames ≡ length old.pages → is_layout shape.frames shape.scratch ≡ true → blob.frames ≤ scratch_have shape
      → StayBeside shape (ram_of old) (ram_of new)
  beside count frames legal fits = record { count = count; pages = λ p off. page_same p ∙ at_test p off (is_blob_frame shape blob p) refl }
    where
      at_test : (p : ℕ) → (p < length old.pages → in_scratch shape.scratch p ≡ false) → (b : Bool) → is_blob_frame shape blob p ≡ b
          → cond (is_blob_frame shape blob p) (blob_page blob.version (p - blob_at shape)) (page_of old p) ≡ page_of old p
      at_test p off false e = ap (λ b. cond b (blob_page blob.version (p - blob_at shape)) (page_of old p)) e
      at_test p off true e =
          let hs = and_parts (nat_le (blob_at shape) p) (nat_lt p (blob_at shape + blob.frames)) e in
          let lo = leb-true (blob_at shape) p hs.0 in
          let hi = ltb-true p (blob_at shape + blob.frames) hs.1 in
          let both = in_area_0 shape.frames p blob.frames shape.scratch (areas_fit shape.frames shape.scratch legal) (omega (arith, fits, have_is shape)) lo hi in
          let lt = both.0 in
          absurd (let no : true ≡ false = sym both.1 ∙ off (omega (arith, lt, frames)) in cc)
