-- Which frames are home and which are out, after a run was taken and after one came back.
use Rattle.std.proofs.Common.{◌≡◌, ℕ, zero, suc, ◌+◌, ◌-◌, ◌<◌, ◌≤◌, ◌⊎◌, inl, inr, List, [], ◌∷◌, ◌++◌, length, map, take, drop, replicate, get_or, set, ◌^◌, Option, Some, None, refl, sym, ap, subst, ◌∙◌, arith, Bool, true, false, ltb, ltb-true, ltb-false}
use Rattle.std.proofs.lemmas.List.{length-take, length-drop, length-replicate, length-append, length-map, get_or-take, get_or-drop, get_or-replicate, get_or-append-add}
use Rattle.std.proofs.lemmas.List.{take-append-drop, set_split, take_all, get_or_default}
use Rattle.std.proofs.Math.Seq.{drop-cons}
use Rattle.phys_frames.proofs.Chunks.{some_below}
use Rattle.std.proofs.Math.Seq.{drop-drop, take-append_seam, drop-append_seam}
use Rattle.std.specs.List.{All, AllWithin}
use Rattle.std.specs.Option.{IsSome}
use Rattle.ho_base.specs.declared.numbers.Pfn.{Pfn}
use Rattle.ho_base.specs.declared.numbers.Order.{Order}
use Rattle.phys_frames.specs.Memory.{Memory, FolioValue, frames_in, pages_in, run_at, IsHome, InRun, RunHome, with_page, without_page, with_folio, without_run}
use Rattle.phys_frames.specs.Pages.{chunks, with_run}

abbrev Pages : Type 0
Pages = List (Option (List ℕ))

-- reading a list with a run in place of others: before the run, within it, and after it
module _ {X : Type 0} where
  before_run : (ps : List X) (i : ℕ) (rest : List X) (j : ℕ) (d : X) → i ≤ length ps → j < i → get_or (take i ps ++ rest) j d ≡ get_or ps j d
  before_run ps zero rest j d le lt = absurd (omega arith)
  before_run [] (suc i) rest j d le lt = absurd (omega arith)
  before_run (p ∷ ps) (suc i) rest zero d le lt = refl
  before_run (p ∷ ps) (suc i) rest (suc j) d le lt = before_run ps i rest j d (omega arith) (omega arith)

  inside : (xs ys : List X) (j : ℕ) (d : X) → j < length xs → get_or (xs ++ ys) j d ≡ get_or xs j d
  inside [] ys j d lt = absurd (omega arith)
  inside (x ∷ xs) ys zero d lt = refl
  inside (x ∷ xs) ys (suc j) d lt = inside xs ys j d (omega arith)

  module _ (ps : List X) (i k : ℕ) (qs : List X) (count : length qs ≡ k) (within : i + k ≤ length ps) (j : ℕ) (d : X) where
    skip : (m : ℕ) → j ≡ i + m → get_or (with_run ps i k qs) j d ≡ get_or (qs ++ drop (i + k) ps) m d
    skip m e =
        let first : length (take i ps) + m ≡ j = omega (arith, length-take i ps) in
        ap (λ (n : ℕ). get_or (with_run ps i k qs) n d) (sym first) ∙ get_or-append-add (take i ps) (qs ++ drop (i + k) ps) m d

    pub run_before : j < i → get_or (with_run ps i k qs) j d ≡ get_or ps j d
    run_before lt = before_run ps i (qs ++ drop (i + k) ps) j d (omega arith) lt

    pub run_within : i ≤ j → j < i + k → get_or (with_run ps i k qs) j d ≡ get_or qs (j - i) d
    run_within le lt = skip (j - i) (omega arith) ∙ inside qs (drop (i + k) ps) (j - i) d (omega arith)

    pub run_after : i + k ≤ j → get_or (with_run ps i k qs) j d ≡ get_or ps j d
    run_after le =
        let first : length qs + (j - (i + k)) ≡ j - i = omega arith in let last : i + k + (j - (i + k)) ≡ j = omega arith in
        skip (j - i) (omega arith) ∙ ap (λ (n : ℕ). get_or (qs ++ drop (i + k) ps) n d) (sym first) ∙ get_or-append-add qs (drop (i + k) ps) (j - (i + k)) d
        ∙ get_or-drop (i + k) ps (j - (i + k)) d ∙ ap (λ (n : ℕ). get_or ps n d) last

    pub length_run : length (with_run ps i k qs) ≡ length ps
    length_run = omega (arith, length-append (take i ps) (qs ++ drop (i + k) ps), length-append qs (drop (i + k) ps), length-take i ps, length-drop (i + k) ps)

pub within-all : (P : Option (List ℕ) → Type 0) (ps : Pages) (i k : ℕ) → AllWithin P ps i (i + k) → All P (take k (drop i ps))
within-all P ps i k h j d lt =
    let small : j < k = omega (arith, length-take k (drop i ps)) in
    subst P (sym (get_or-take k (drop i ps) j d small ∙ get_or-drop i ps j d)) (h (i + j) d (omega arith) (omega arith))

pub all-within : (P : Option (List ℕ) → Type 0) (ps : Pages) (i k : ℕ) → i + k ≤ length ps → All P (take k (drop i ps)) → AllWithin P ps i (i + k)
all-within P ps i k le h j d low high =
    let at : i + (j - i) ≡ j = omega arith in
    subst P (get_or-take k (drop i ps) (j - i) d (omega arith) ∙ get_or-drop i ps (j - i) d ∙ ap (λ (n : ℕ). get_or ps n d) at)
    (h (j - i) d (omega (arith, length-take k (drop i ps), length-drop i ps)))

pub none-all : (ps : Pages) (k : ℕ) → ps ≡ replicate k None → All (λ page. page ≡ None) ps
none-all ps k e j d lt = ap (λ (l : Pages). get_or l j d) e ∙ get_or-replicate k j None d (omega (arith, ap length e, length-replicate {A = Option (List ℕ)} k None))

pub fresh : (ps : Pages) (n : ℕ) (page : List ℕ) (low high : ℕ) → ps ≡ replicate n (Some page) → high ≤ n → AllWithin IsSome ps low high
fresh ps n page low high e le j d above below = subst IsSome (sym (ap (λ (l : Pages). get_or l j d) e ∙ get_or-replicate n j (Some page) d (omega arith))) refl

-- frames beside a run are as they were
pub beside : (P : Option (List ℕ) → Type 0) (ps : Pages) (i k : ℕ) (qs : Pages) (low high : ℕ) → length qs ≡ k → i + k ≤ length ps → (high ≤ i) ⊎ (i + k ≤ low) → AllWithin P ps low high → AllWithin P (with_run ps i k qs) low high
beside P ps i k qs low high count le (inl under) h j d above below = subst P (sym (run_before ps i k qs count le j d (omega arith))) (h j d above below)
beside P ps i k qs low high count le (inr over) h j d above below = subst P (sym (run_after ps i k qs count le j d (omega arith))) (h j d above below)

some_there : (pages : List (List ℕ)) (j : ℕ) (d : Option (List ℕ)) → j < length pages → IsSome (get_or (map Some pages) j d)
some_there [] j d lt = absurd (omega arith)
some_there (page ∷ pages) zero d lt = refl
some_there (page ∷ pages) (suc j) d lt = some_there pages j d (omega arith)

-- frames of a run that came home are home
pub came_home : (ps : Pages) (i k : ℕ) (pages : List (List ℕ)) (low high : ℕ) → length pages ≡ k → i + k ≤ length ps → i ≤ low → high ≤ i + k → AllWithin IsSome (with_run ps i k (map Some pages)) low high
came_home ps i k pages low high count le from to j d above below =
    subst IsSome (sym (run_within ps i k (map Some pages) (length-map pages Some ∙ count) le j d (omega arith) (omega arith))) (some_there pages (j - i) d (omega arith))

pub within-one : (ps : Pages) (low high j : ℕ) (d : Option (List ℕ)) → AllWithin IsSome ps low high → low ≤ j → j < high → IsSome (get_or ps j d)
within-one ps low high j d h above below = h j d above below

-- the same at frames as contracts see them
length-chunks : (p n : ℕ) (bytes : List ℕ) → length (chunks p n bytes) ≡ n
length-chunks p zero bytes = refl
length-chunks p (suc n) bytes = ap suc (length-chunks p n (drop p bytes))

module _ (m : Memory) (p : Pfn) (o : Order) (within : p.0 + frames_in o ≤ length m.pages) where
  pub taken_count : length (without_run m p o).pages ≡ length m.pages
  taken_count = length_run m.pages p.0 (frames_in o) (replicate (frames_in o) None) (length-replicate (frames_in o) None) within 0 None

  pub taken_beside : (low high : ℕ) → (high ≤ p.0) ⊎ (p.0 + frames_in o ≤ low) → AllWithin IsSome m.pages low high → AllWithin IsSome (without_run m p o).pages low high
  taken_beside low high apart home = beside IsSome m.pages p.0 (frames_in o) (replicate (frames_in o) None) low high (length-replicate (frames_in o) None) within apart home

module _ (m : Memory) (f : FolioValue) (within : f.first.0 + frames_in f.order ≤ length m.pages) where
  count : length (map Some (pages_in f.order f.bytes)) ≡ frames_in f.order
  count = length-map (pages_in f.order f.bytes) Some ∙ length-chunks 4096 (frames_in f.order) f.bytes

  pub given_count : length (with_folio m f).pages ≡ length m.pages
  given_count = length_run m.pages f.first.0 (frames_in f.order) (map Some (pages_in f.order f.bytes)) count within 0 None

  pub given_beside : (low high : ℕ) → (high ≤ f.first.0) ⊎ (f.first.0 + frames_in f.order ≤ low) → AllWithin IsSome m.pages low high → AllWithin IsSome (with_folio m f).pages low high
  given_beside low high apart home = beside IsSome m.pages f.first.0 (frames_in f.order) (map Some (pages_in f.order f.bytes)) low high count within apart home

  pub given_home : (low high : ℕ) → f.first.0 ≤ low → high ≤ f.first.0 + frames_in f.order → AllWithin IsSome (with_folio m f).pages low high
  given_home low high from to = came_home m.pages f.first.0 (frames_in f.order) (pages_in f.order f.bytes) low high (length-chunks 4096 (frames_in f.order) f.bytes) within from to

-- a run in place of a run
module _ {X : Type 0} (ps : List X) (i k : ℕ) (within : i + k ≤ length ps) where
  pub run_same : with_run ps i k (take k (drop i ps)) ≡ ps
  run_same = ap (λ (l : List X). take i ps ++ l) (ap (λ (l : List X). take k (drop i ps) ++ l) (sym (drop-drop k i ps)) ∙ take-append-drop k (drop i ps)) ∙ take-append-drop i ps

  module _ (qs : List X) (count : length qs ≡ k) where
    before_is : take i (with_run ps i k qs) ≡ take i ps
    before_is =
        let size : length (take i ps) ≡ i = omega (arith, length-take i ps) in
        ap (λ (j : ℕ). take j (with_run ps i k qs)) (sym size) ∙ take-append_seam (take i ps) (qs ++ drop (i + k) ps)

    after_is : drop i (with_run ps i k qs) ≡ qs ++ drop (i + k) ps
    after_is =
        let size : length (take i ps) ≡ i = omega (arith, length-take i ps) in
        ap (λ (j : ℕ). drop j (with_run ps i k qs)) (sym size) ∙ drop-append_seam (take i ps) (qs ++ drop (i + k) ps)

    pub run_is : take k (drop i (with_run ps i k qs)) ≡ qs
    run_is = ap (take k) after_is ∙ ap (λ (j : ℕ). take j (qs ++ drop (i + k) ps)) (sym count) ∙ take-append_seam qs (drop (i + k) ps)

    rest_is : drop (i + k) (with_run ps i k qs) ≡ drop (i + k) ps
    rest_is = sym (drop-drop k i (with_run ps i k qs)) ∙ ap (drop k) after_is ∙ ap (λ (j : ℕ). drop j (qs ++ drop (i + k) ps)) (sym count) ∙ drop-append_seam qs (drop (i + k) ps)

    pub run_again : (rs : List X) → with_run (with_run ps i k qs) i k rs ≡ with_run ps i k rs
    run_again rs = λ j. before_is j ++ (rs ++ rest_is j)

pub out_all : (ps : Pages) (i k : ℕ) → i + k ≤ length ps → AllWithin (λ page. page ≡ None) (with_run ps i k (replicate k None)) i (i + k)
out_all ps i k le j d above below =
    run_within ps i k (replicate k None) (length-replicate k None) le j d above below ∙ get_or-replicate k (j - i) None d (omega arith)

none_is : (o : Option (List ℕ)) → o ≡ None → IsSome o → ⊥
none_is None e h = absurd cc h
none_is (Some x) e h = absurd cc e

pub home_apart : (m : Memory) (p q : Pfn) (o : Order) → RunHome m p o → IsHome (without_run m p o) q → ¬ (InRun p o q)
home_apart m p q o run home inside = none_is _ (out_all m.pages p.0 (frames_in o) run.0 q.0 None inside.0 inside.1) home

by_test : {X : Type 0} (t : Bool) → (t ≡ true → X) → (t ≡ false → X) → X
by_test true y n = y refl
by_test false y n = n refl

pub others_are : (ps : Pages) (i k : ℕ) (qs : Pages) (j : ℕ) → length qs ≡ k → i + k ≤ length ps → ((i ≤ j) × (j < i + k) → ⊥) → get_or (with_run ps i k qs) j None ≡ get_or ps j None
others_are ps i k qs j count le other =
    by_test (ltb j i) (λ t. run_before ps i k qs count le j None (ltb-true j i t))
    (λ t. let above = ltb-false j i t in by_test (ltb j (i + k)) (λ u. absurd (other (above, ltb-true j (i + k) u))) (λ u. run_after ps i k qs count le j None (ltb-false j (i + k) u)))

pub given_run : (m : Memory) (f : FolioValue) → f.first.0 + frames_in f.order ≤ length m.pages → run_at (with_folio m f) f.first f.order ≡ map Some (pages_in f.order f.bytes)
given_run m f le = run_is m.pages f.first.0 (frames_in f.order) le (map Some (pages_in f.order f.bytes)) (count m f le)

pub given_others : (m : Memory) (f : FolioValue) (q : Pfn) → f.first.0 + frames_in f.order ≤ length m.pages → ¬ (InRun f.first f.order q) → get_or (with_folio m f).pages q.0 None ≡ get_or m.pages q.0 None
given_others m f q le other = others_are m.pages f.first.0 (frames_in f.order) (map Some (pages_in f.order f.bytes)) q.0 (count m f le) le other

pub given_back : (m : Memory) (f : FolioValue) → f.first.0 + frames_in f.order ≤ length m.pages → run_at m f.first f.order ≡ map Some (pages_in f.order f.bytes) → with_folio (without_run m f.first f.order) f ≡ m
given_back m f le e =
    ap (λ (ps : Pages). record m { pages = ps }) (run_again m.pages f.first.0 (frames_in f.order) le (replicate (frames_in f.order) None) (length-replicate (frames_in f.order) None) (map Some (pages_in f.order f.bytes))
    ∙ ap (λ (qs : Pages). with_run m.pages f.first.0 (frames_in f.order) qs) (sym e) ∙ run_same m.pages f.first.0 (frames_in f.order) le)

-- a run of one frame
run_one : (ps : Pages) (i : ℕ) (page : Option (List ℕ)) → i < length ps → with_run ps i 1 (page ∷ []) ≡ set ps i page
run_one ps i page lt = let next : i + 1 ≡ suc i = omega arith in ap (λ (j : ℕ). take i ps ++ (page ∷ drop j ps)) next ∙ sym (set_split ps i page lt)

module _ (m : Memory) (p : Pfn) (home : IsHome m p) where
  below : p.0 < length m.pages
  below = some_below m.pages p.0 home

  pub one_home : RunHome m p (record { 0 = 0 })
  one_home = (
    omega (arith, below),
    λ j d above under. let same : p.0 ≡ j = omega arith in let other = get_or_default m.pages j None d (omega (arith, below)) in
        subst IsSome (ap (λ (k : ℕ). get_or m.pages k None) same ∙ other) home,
  )

  pub one_taken : without_run m p (record { 0 = 0 }) ≡ without_page m p
  one_taken = ap (λ (ps : Pages). record m { pages = ps }) (run_one m.pages p.0 None below)

  pub one_bytes : (bytes : List ℕ) → length bytes ≡ 4096 → run_at m p (record { 0 = 0 }) ≡ map Some (pages_in (record { 0 = 0 }) bytes) → get_or m.pages p.0 None ≡ Some bytes
  one_bytes bytes size e =
      let first : take 1 (drop p.0 m.pages) ≡ get_or m.pages p.0 None ∷ [] = ap (λ (l : Pages). take 1 l) (drop-cons m.pages p.0 None below) in
      ap (λ (l : Pages). get_or l 0 None) (sym first ∙ e) ∙ ap (λ (l : List ℕ). Some l) (take_all 4096 bytes (omega (arith, size)))

pub one_given : (m : Memory) (f : FolioValue) → f.order.0 ≡ 0 → f.first.0 < length m.pages → length f.bytes ≡ 4096 → with_folio m f ≡ with_page m f.first f.bytes
one_given m f none lt size =
    ap (λ (ps : Pages). record m { pages = ps })
    (ap (λ (o : ℕ). with_run m.pages f.first.0 (2 ^ o) (map Some (chunks 4096 (2 ^ o) f.bytes))) none
    ∙ ap (λ (l : List ℕ). with_run m.pages f.first.0 1 (Some l ∷ [])) (take_all 4096 f.bytes (omega (arith, size)))
    ∙ run_one m.pages f.first.0 (Some f.bytes) lt)
