-- Folios that hold pages.
use Rattle.std.proofs.Common.{◌≡◌, ℕ, zero, suc, ◌+◌, ◌<◌, ◌≤◌, List, [], ◌∷◌, ◌++◌, length, take, drop, get_or, set, refl, sym, ap, ◌∙◌, arith}
use Rattle.std.proofs.lemmas.List.{take_at, take_more, take_more_set, take_all, get_or-map, length-map}
use Rattle.std.proofs.lemmas.List.Elements.{All-nil, All-cons, All-head, All-tail}
use Rattle.ho_base.specs.declared.numbers.Pfn.{Pfn}
use Rattle.phys_frames.specs.Memory.{FolioValue, first_frames}
use Rattle.record_frames.specs.Ram.{Ram, Page, Begins}
use Rattle.record_frames.specs.Writing.{framed, frames_of, holding, with_pages}
use Rattle.record_frames.specs.Written.{HoldPages}
use Rattle.kho_laws.specs.Marks.{numbered}
use Rattle.kho_writer.specs.Folios.{HoldFolios, OtherBytes}
use Rattle.kho_writer.proofs.PageNumbers.{numbers}

-- the pages that folios hold stand in their frames
pub pages_held : (ram : Ram) (fs : List FolioValue) (ps : List Page) → numbers ps ≡ frames_of fs → HoldFolios ram (with_pages fs ps) → HoldPages ram ps
pages_held ram [] [] e h = tt
pages_held ram [] (p ∷ ps) e h = absurd cc
pages_held ram (f ∷ fs) [] e h = tt
pages_held ram (f ∷ fs) (p ∷ ps) e h =
    let at : p.at ≡ f.first.0 = ap (λ (l : List ℕ). get_or l 0 0) e in (
      ap ram.page at ∙ All-head (λ (g : FolioValue). ram.page g.first.0 ≡ g.bytes) (holding f p.bytes) (with_pages fs ps) h,
      pages_held ram fs ps (ap (drop 1) e) (All-tail (λ (g : FolioValue). ram.page g.first.0 ≡ g.bytes) (holding f p.bytes) (with_pages fs ps) h),
    )

-- a frame that holds bytes begins with them
pub begins_framed : (bytes front : List ℕ) → bytes ≡ framed front → Begins bytes front
unfolding framed
begins_framed bytes front e = ap (take (length front)) e ∙ take_at front _ (length front) refl

-- folios that pages are put into keep all but their bytes
pub other_bytes : (fs : List FolioValue) (ps : List Page) → OtherBytes fs (with_pages fs ps)
other_bytes [] ps i lt d = absurd (omega (arith, lt))
other_bytes (f ∷ fs) [] i lt d = refl
other_bytes (f ∷ fs) (p ∷ ps) zero lt d = refl
other_bytes (f ∷ fs) (p ∷ ps) (suc i) lt d = other_bytes fs ps i (omega (arith, lt)) d

-- the folios of two parts
pub held_front : (ram : Ram) (fs gs : List FolioValue) → HoldFolios ram (fs ++ gs) → HoldFolios ram fs
held_front ram [] gs h = All-nil (λ (g : FolioValue). ram.page g.first.0 ≡ g.bytes)
held_front ram (f ∷ fs) gs h =
    All-cons (λ (g : FolioValue). ram.page g.first.0 ≡ g.bytes) f fs (All-head (λ (g : FolioValue). ram.page g.first.0 ≡ g.bytes) f (fs ++ gs) h)
    (held_front ram fs gs (All-tail (λ (g : FolioValue). ram.page g.first.0 ≡ g.bytes) f (fs ++ gs) h))

pub held_back : (ram : Ram) (fs gs : List FolioValue) → HoldFolios ram (fs ++ gs) → HoldFolios ram gs
held_back ram [] gs h = h
held_back ram (f ∷ fs) gs h = held_back ram fs gs (All-tail (λ (g : FolioValue). ram.page g.first.0 ≡ g.bytes) f (fs ++ gs) h)

pub numbered_frames : (fs : List FolioValue) → numbered (frames_of fs) ≡ first_frames fs
numbered_frames [] = refl
numbered_frames (f ∷ fs) = ap (λ (l : List Pfn). f.first ∷ l) (numbered_frames fs)

-- one of the folios, where there is one
pub some_of : (fs : List FolioValue) → 0 < length fs → FolioValue
some_of [] lt = absurd (omega (arith, lt))
some_of (f ∷ fs) lt = f

-- the frames of folios, noted one after another
pub noted_more : (folios : List FolioValue) (noted : List Pfn) (i : ℕ) (f : FolioValue) (p : Pfn) → i < length folios → length noted ≡ length folios → f ≡ get_or folios i f → p ≡ f.first
    → take i noted ≡ take i (first_frames folios) → take (i + 1) (set noted i p) ≡ take (i + 1) (first_frames folios)
noted_more folios noted i f p lt long f_is p_is so_far =
    let here : p ≡ get_or (first_frames folios) i p = p_is ∙ ap (λ (g : FolioValue). g.first) f_is ∙ sym (get_or-map (λ (g : FolioValue). g.first) folios i f p lt) in
    take_more_set noted i p (omega (arith, lt, long)) ∙ (λ j. so_far j ++ here j ∷ [])
    ∙ sym (take_more (first_frames folios) i p (omega (arith, lt, length-map folios (λ (g : FolioValue). g.first))))

pub noted_all : (folios : List FolioValue) (noted : List Pfn) (i : ℕ) → length folios ≤ i → length noted ≡ length folios → take i noted ≡ take i (first_frames folios) → noted ≡ first_frames folios
noted_all folios noted i le long so_far =
    sym (take_all i noted (omega (arith, le, long))) ∙ so_far ∙ take_all i (first_frames folios) (omega (arith, le, length-map folios (λ (g : FolioValue). g.first)))
