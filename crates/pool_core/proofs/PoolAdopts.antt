-- Runs that are owned from the start.
use Rattle.std.proofs.Common.{◌≡◌, ℕ, ◌+◌, ◌*◌, ◌^◌, ◌<◌, ◌≤◌, ◌⊎◌, not, Bool, true, false, List, [], ◌∷◌, ◌++◌, length, map, get_or, set, take, drop, replicate, refl, ap, sym, ◌∙◌, arith, subst, zero, suc, inl, inr, ⊎_elim, append_assoc}
use Rattle.std.specs.Prelude.{Option, None, Some}
use Rattle.std.specs.List.{All, AllPairs, flat_map}
use Rattle.std.specs.FinSet as finset
use Rattle.std.proofs.lemmas.Bool.{and_from, false≢true}
use Rattle.std.proofs.lemmas.Nat.{pow_pos}
use Rattle.std.proofs.lemmas.List.{length-replicate, length-take, length-drop, ext_get_or, get_or-take, get_or-drop, take-append-drop}
use Rattle.ho_base.specs.declared.numbers.Pfn.{Pfn}
use Rattle.ho_base.specs.declared.numbers.Order.{Order}
use Rattle.ho_base.specs.declared.limits.TheConstants.{PAGE_BYTES}
use Rattle.ho_base.specs.ShapeRule.{Layout}
use Rattle.ho_events.specs.Pool.{PoolState, is_free, is_free_run}
use Rattle.phys_frames.specs.Homes.{HomeId}
use Rattle.phys_frames.specs.Memory.{Memory, FolioValue, AllHome, RunHome, frames_in, pages_in, run_at, without_run}
use Rattle.phys_frames.specs.Pages.{chunks}
use Rattle.phys_frames.proofs.Homes.{others_are, length_run}
use Rattle.buddy_pages.specs.FreeFrames as buddy
use Rattle.folio_bitmaps.specs.Runs.{Marks}
use Rattle.pool_core.specs.PoolTags.{TableValue, KeepsHome, CanLend, with_tag, owned_of}
use Rattle.pool_core.specs.PoolFramesValues.{state_of, KeepsPoolFrames, AreUsable}
use Rattle.pool_core.specs.PoolAdopting.{ApartRuns, CanAdopt, CanGoOut, EachBegins, EachCanGoOut, EachIsFree, EachReserves, adopted_pool, adopted_run, adopted_tags, bytes_at, each_adopted, owned_at, without_adopted, without_all}
use Rattle.pool_core.proofs.PoolOwned.{owned_set}
use Rattle.pool_core.proofs.PoolHeld.{none_false, held_only}
use Rattle.pool_core.proofs.PoolHome.{can_lend_home, lent_keeps}
use Rattle.pool_core.proofs.PoolFree.{free_is, free_usable, free_not_held, run_frames, run_aligned, run_from, run_alike}
use Rattle.pool_core.proofs.PoolSteps.{can_lend, keeps_more}
use Rattle.pool_core.proofs.PoolTaken.{pool_of}
use Rattle.pool_core.proofs.PoolCold.{cold_table, cold_keeps, cold_state}

-- a run's bytes are those of its pages
whole_bytes : (n : ℕ) (bytes : List ℕ) → length bytes ≡ n * PAGE_BYTES → flat_map bytes_at (map Some (chunks PAGE_BYTES n bytes)) ≡ bytes
whole_bytes zero [] h = refl
whole_bytes zero (b ∷ bytes) h = absurd (omega arith)
whole_bytes (suc n) bytes h =
    let e : suc n * 4096 ≡ n * 4096 + 4096 = omega arith in
    ap (λ l. take PAGE_BYTES bytes ++ l) (whole_bytes n (drop PAGE_BYTES bytes) (omega (arith, length-drop 4096 bytes, h, e)))
    ∙ take-append-drop PAGE_BYTES bytes

abbrev folio_by : Pfn → Order → List ℕ → HomeId → FolioValue
folio_by first order bytes home = record { first = first; order = order; bytes = bytes; home = home }

pub adopted_is : (m : Memory) (p : Pfn) (o : Order) (f : FolioValue) → f.first ≡ p → f.order ≡ o → f.home ≡ m.home → run_at m p o ≡ map Some (pages_in o f.bytes) → length f.bytes ≡ frames_in o * PAGE_BYTES → f ≡ adopted_run m (p, o)
adopted_is m p o f first order home pages len =
    ap (λ a. folio_by a f.order f.bytes f.home) first
    ∙ ap (λ x. folio_by p x f.bytes f.home) order
    ∙ ap (λ b. folio_by p o b f.home) (sym (ap (flat_map bytes_at) pages ∙ whole_bytes (frames_in o) f.bytes len))
    ∙ ap (folio_by p o (flat_map bytes_at (run_at m p o))) home

-- the loops
module _ (r : Pfn × Order) (rest left : List (Pfn × Order)) (so : left ≡ r ∷ rest) where
  pub out_first : (m : Memory) → EachCanGoOut left m → CanGoOut m r.0 r.1
  unfolding EachCanGoOut
  out_first m h = (subst (λ l. EachCanGoOut l m) so h).0

  pub out_rest : (m n : Memory) → n ≡ without_run m r.0 r.1 → EachCanGoOut left m → EachCanGoOut rest n
  unfolding EachCanGoOut
  out_rest m n e h = subst (EachCanGoOut rest) (sym e) (subst (λ l. EachCanGoOut l m) so h).1

  pub frames_step : (m n : Memory) → n ≡ without_run m r.0 r.1 → without_all rest n ≡ without_all left m
  unfolding without_all
  frames_step m n e = ap (without_all rest) e ∙ ap (λ l. without_all l m) (sym so)

  pub folios_step : (m n : Memory) (out more : List FolioValue) (f : FolioValue) → n ≡ without_run m r.0 r.1 → f ≡ adopted_run m (r.0, r.1) → more ≡ out ++ f ∷ [] → more ++ each_adopted n rest ≡ out ++ each_adopted m left
  unfolding each_adopted
  folios_step m n out more f e folio pushed =
      ap (λ x. more ++ each_adopted x rest) e
      ∙ ap (λ l. l ++ each_adopted (without_run m r.0 r.1) rest) pushed
      ∙ append_assoc out (f ∷ []) (each_adopted (without_run m r.0 r.1) rest)
      ∙ ap (λ g. out ++ g ∷ each_adopted (without_run m r.0 r.1) rest) folio
      ∙ ap (λ l. out ++ each_adopted m l) (sym so)

  pub reserve_first : (free : List Bool) → EachReserves left free → (r.1.0 ≤ 9) × (buddy.is_free_run free r.1.0 r.0.0 ≡ true)
  unfolding EachReserves
  reserve_first free h = (subst (λ l. EachReserves l free) so h).0

  pub reserve_rest : (free given : List Bool) → given ≡ buddy.with_frames free r.0.0 (2 ^ r.1.0) false → EachReserves left free → EachReserves rest given
  unfolding EachReserves
  reserve_rest free given e h = subst (EachReserves rest) (sym e) (subst (λ l. EachReserves l free) so h).1

  pub set_step : (free given : List Bool) → given ≡ buddy.with_frames free r.0.0 (2 ^ r.1.0) false → without_adopted rest given ≡ without_adopted left free
  unfolding without_adopted
  set_step free given e = ap (without_adopted rest) e ∙ ap (λ l. without_adopted l free) (sym so)

  pub begins_first : (n : ℕ) → EachBegins n left → (r.0.0 < n) × (r.1.0 ≤ 9)
  unfolding EachBegins
  begins_first n h = (subst (EachBegins n) so h).0

  pub begins_rest : (n m : ℕ) → m ≡ n → EachBegins n left → EachBegins m rest
  unfolding EachBegins
  begins_rest n m e h = subst (λ x. EachBegins x rest) (sym e) (subst (EachBegins n) so h).1

  pub tags_step : (tags given : List ℕ) → given ≡ set tags r.0.0 (r.1.0 + 1) → adopted_tags rest given ≡ adopted_tags left tags
  unfolding adopted_tags
  tags_step tags given e = ap (adopted_tags rest) e ∙ ap (λ l. adopted_tags l tags) (sym so)

none_left : (runs : List (Pfn × Order)) → length runs ≡ 0 → runs ≡ []
none_left [] h = refl
none_left (r ∷ runs) h = absurd (omega arith)

pub frames_end : (runs : List (Pfn × Order)) (m : Memory) → length runs ≡ 0 → m ≡ without_all runs m
unfolding without_all
frames_end runs m h = ap (λ l. without_all l m) (sym (none_left runs h))

pub folios_end : (runs : List (Pfn × Order)) (m : Memory) → length runs ≡ 0 → each_adopted m runs ≡ []
unfolding each_adopted
folios_end runs m h = ap (each_adopted m) (none_left runs h)

pub set_end : (runs : List (Pfn × Order)) (free : List Bool) → length runs ≡ 0 → free ≡ without_adopted runs free
unfolding without_adopted
set_end runs free h = ap (λ l. without_adopted l free) (sym (none_left runs h))

pub tags_end : (runs : List (Pfn × Order)) (tags : List ℕ) → length runs ≡ 0 → tags ≡ adopted_tags runs tags
unfolding adopted_tags
tags_end runs tags h = ap (λ l. adopted_tags l tags) (sym (none_left runs h))

-- what the parts keep while runs become owned
pub record Adopts (t : TableValue) (free : List Bool) (m : Marks) (mem : Memory) (runs : List (Pfn × Order)) : Type 0 where
  pub keeps : KeepsPoolFrames (record t { tags = adopted_tags runs t.tags }) (without_adopted runs free) m
  pub home : KeepsHome t.shape (without_all runs mem) (adopted_tags runs t.tags)
  pub out : EachCanGoOut runs mem
  pub reserves : EachReserves runs free
  pub begins : EachBegins t.shape.frames runs
  pub owned : owned_of (adopted_tags runs t.tags) ≡ owned_at runs (owned_of t.tags)

pub adopts : (t : TableValue) (free : List Bool) (m : Marks) (mem : Memory) (runs : List (Pfn × Order)) → KeepsPoolFrames t free m → KeepsHome t.shape mem t.tags → EachIsFree m.runs runs t → Adopts t free m mem runs
unfolding EachIsFree adopted_tags without_adopted without_all EachCanGoOut EachReserves EachBegins owned_at
adopts t free m mem [] k home h = record { keeps = k; home = home; out = tt; reserves = tt; begins = tt; owned = refl }
adopts t free m mem (r ∷ runs) k home h =
    let small : r.1.0 ≤ 9 = h.0.0 in
    let run : is_free_run (state_of t m.runs) r.1.0 r.0.0 ≡ true = h.0.1 in
    let can : CanLend t r.1.0 r.0.0 = can_lend t m.runs r.1.0 r.0.0 small k.runs run in
    let there : RunHome mem r.0 r.1 = can_lend_home t.shape mem t.home t.tags r.0 r.1 home can in
    let rest = adopts (with_tag t r.0.0 (r.1.0 + 1)) (buddy.with_frames free r.0.0 (2 ^ r.1.0) false) m (without_run mem r.0 r.1) runs
    (keeps_more t free m r.1.0 r.0.0 small k run)
    (lent_keeps t.shape mem (without_run mem r.0 r.1) t.home t.tags r.0 r.1 small home can refl
    (λ q other. others_are mem.pages r.0.0 (frames_in r.1) (replicate (frames_in r.1) None) q.0 (length-replicate (frames_in r.1) None) there.0 other))
    h.1 in
    record {
      keeps = rest.keeps;
      home = rest.home;
      out = (record { small = small; aligned = can.aligned; home = there }, rest.out);
      reserves = ((small, run_alike (state_of t m.runs) free k.free r.1.0 r.0.0 ∙ run), rest.reserves);
      begins = ((omega (arith, can.within, pow_pos r.1.0), small), rest.begins);
      owned = rest.owned ∙ ap (owned_at runs) (owned_set t.tags r.0.0 r.1.0 (omega (arith, can.within, k.runs.len, pow_pos r.1.0)));
    }

-- a run that is apart from one that becomes owned stays wholly free
still_run : (t : TableValue) (free : List Bool) (m : Marks) (o p r q : ℕ) → o ≤ 9 → KeepsPoolFrames t free m → is_free_run (state_of t m.runs) o p ≡ true → (p + 2 ^ o ≤ q) ⊎ (q + 2 ^ r ≤ p) → is_free_run (state_of t m.runs) r q ≡ true → is_free_run (state_of (with_tag t p (o + 1)) m.runs) r q ≡ true
still_run t free m o p r q small k run apart h =
    run_from (state_of (with_tag t p (o + 1)) m.runs) r q (run_aligned (state_of t m.runs) r q h)
    (λ x from to.
    let was : is_free (state_of t m.runs) x ≡ true = run_frames (state_of t m.runs) r q h x from to in
    let out : (x < p) ⊎ (p + 2 ^ o ≤ x) = ⊎_elim (λ (l : p + 2 ^ o ≤ q). inr (omega (arith, l, from))) (λ (l : q + 2 ^ r ≤ p). inl (omega (arith, l, to))) apart in
    free_is (with_tag t p (o + 1)) m.runs x
    ∙ and_from _ _ (free_usable t m.runs x was) (ap not (none_false _ (λ held. false≢true (sym (free_not_held t m.runs x was) ∙ held_only t.tags p o within blank x out held)))))
  where
    can : CanLend t o p
    can = can_lend t m.runs o p small k.runs run

    within : p < length t.tags
    within = omega (arith, can.within, k.runs.len, pow_pos o)

    blank : get_or t.tags p 0 ≡ 0
    blank = can.blank

each_is_free : (t : TableValue) (free : List Bool) (m : Marks) (runs : List (Pfn × Order)) → KeepsPoolFrames t free m → All (λ r. r.1.0 ≤ 9) runs → All (λ r. is_free_run (state_of t m.runs) r.1.0 r.0.0 ≡ true) runs → AllPairs ApartRuns runs → EachIsFree m.runs runs t
unfolding EachIsFree
each_is_free t free m [] k small each apart = tt
each_is_free t free m (r ∷ runs) k small each apart =
    let first : is_free_run (state_of t m.runs) r.1.0 r.0.0 ≡ true = each 0 r (omega arith) in
    let low : r.1.0 ≤ 9 = small 0 r (omega arith) in (
      (low, first),
      each_is_free (with_tag t r.0.0 (r.1.0 + 1)) (buddy.with_frames free r.0.0 (2 ^ r.1.0) false) m runs
          (keeps_more t free m r.1.0 r.0.0 low k first)
          (λ i d l. small (suc i) d (omega arith))
          (λ i d l. still_run t free m r.1.0 r.0.0 (get_or runs i d).1.0 (get_or runs i d).0.0 low k first (apart 0 (suc i) d (omega arith) (omega arith)) (each (suc i) d (omega arith)))
          (λ i j d a b. apart (suc i) (suc j) d (omega arith) (omega arith)),
    )

-- runs that are apart don't touch each other's bytes
other_pages : (m : Memory) (r s : Pfn × Order) → r.0.0 + 2 ^ r.1.0 ≤ length m.pages → ApartRuns r s → run_at (without_run m r.0 r.1) s.0 s.1 ≡ run_at m s.0 s.1
other_pages m r s within apart =
    let k : ℕ = 2 ^ s.1.0 in
    let q : ℕ = s.0.0 in
    let gone : List (Option (List ℕ)) = (without_run m r.0 r.1).pages in
    let same : length gone ≡ length m.pages = length_run m.pages r.0.0 (2 ^ r.1.0) (replicate (2 ^ r.1.0) None) (length-replicate (2 ^ r.1.0) None) within 0 None in
    ext_get_or None (take (2 ^ s.1.0) (drop s.0.0 gone)) (take (2 ^ s.1.0) (drop s.0.0 m.pages))
    (omega (arith, length-take (2 ^ s.1.0) (drop s.0.0 gone), length-take (2 ^ s.1.0) (drop s.0.0 m.pages), length-drop s.0.0 gone, length-drop s.0.0 m.pages, same))
    (λ j below.
    let few : j < 2 ^ s.1.0 = omega (arith, below, length-take (2 ^ s.1.0) (drop s.0.0 gone)) in
    get_or-take (2 ^ s.1.0) (drop s.0.0 gone) j None few ∙ get_or-drop s.0.0 gone j None
    ∙ others_are m.pages r.0.0 (2 ^ r.1.0) (replicate (2 ^ r.1.0) None) (s.0.0 + j) (length-replicate (2 ^ r.1.0) None) within (outside j few)
    ∙ sym (get_or-take (2 ^ s.1.0) (drop s.0.0 m.pages) j None few ∙ get_or-drop s.0.0 m.pages j None))
  where
    outside : (j : ℕ) → j < 2 ^ s.1.0 → (r.0.0 ≤ s.0.0 + j) × (s.0.0 + j < r.0.0 + 2 ^ r.1.0) → ⊥
    outside j few h = ⊎_elim (λ (l : r.0.0 + 2 ^ r.1.0 ≤ s.0.0). let f : ⊥ = omega (arith, h.1) in f) (λ (l : s.0.0 + 2 ^ s.1.0 ≤ r.0.0). let f : ⊥ = omega (arith, h.0) in f) apart

map_others : (m : Memory) (r : Pfn × Order) (runs : List (Pfn × Order)) → r.0.0 + 2 ^ r.1.0 ≤ length m.pages → ((i : ℕ) (d : Pfn × Order) → i < length runs → ApartRuns r (get_or runs i d)) → map (adopted_run (without_run m r.0 r.1)) runs ≡ map (adopted_run m) runs
map_others m r [] within apart = refl
map_others m r (s ∷ runs) within apart =
    ap (λ ps. folio_by s.0 s.1 (flat_map bytes_at ps) m.home ∷ map (adopted_run (without_run m r.0 r.1)) runs) (other_pages m r s within (apart 0 s (omega arith)))
    ∙ ap (λ fs. adopted_run m s ∷ fs) (map_others m r runs within (λ i d l. apart (suc i) d (omega arith)))

pub adopted_each : (m : Memory) (runs : List (Pfn × Order)) → EachCanGoOut runs m → AllPairs ApartRuns runs → each_adopted m runs ≡ map (adopted_run m) runs
unfolding each_adopted EachCanGoOut
adopted_each m [] out apart = refl
adopted_each m (r ∷ runs) out apart =
    ap (λ fs. adopted_run m r ∷ fs)
    (adopted_each (without_run m r.0 r.1) runs out.1 (λ i j d a b. apart (suc i) (suc j) d (omega arith) (omega arith))
    ∙ map_others m r runs out.0.home.0 (λ i d l. apart 0 (suc i) d (omega arith) (omega arith)))

pub left_home : (runs : List (Pfn × Order)) (m : Memory) → (without_all runs m).home ≡ m.home
unfolding without_all
left_home [] m = refl
left_home (r ∷ runs) m = left_home runs (without_run m r.0 r.1)

cold_home : (shape : Layout) (m : Memory) → AllHome m → shape.frames ≡ length m.pages → m.home.frames ≡ shape.frames → KeepsHome shape m (replicate shape.frames 0)
cold_home shape m home count places = record {
  pages = sym count;
  places = places;
  len = length-replicate {A = ℕ} shape.frames 0;
  home = λ p below free. home p None (omega (arith, below, count));
}

adopts_at : (shape : Layout) (m : Memory) (set : List Bool) (n : ℕ) (runs : List (Pfn × Order)) → AllHome m → shape.frames ≡ length m.pages → n ≡ length m.pages → n ≡ m.home.frames → AreUsable shape set → CanAdopt shape runs → Adopts (cold_table shape m.home) set (record { frames = n; runs = finset.empty }) m runs
adopts_at shape m set n runs home count pages places usable can =
    let k : KeepsPoolFrames (cold_table shape m.home) set (record { frames = n; runs = finset.empty }) =
    cold_keeps shape m.home (cold_table shape m.home) set (record { frames = n; runs = finset.empty }) n refl refl (pages ∙ sym count) usable in
    adopts (cold_table shape m.home) set (record { frames = n; runs = finset.empty }) m runs k
    (cold_home shape m home count (sym places ∙ pages ∙ sym count))
    (each_is_free (cold_table shape m.home) set (record { frames = n; runs = finset.empty }) runs k can.orders
    (λ i d l. ap (λ s. is_free_run s (get_or runs i d).1.0 (get_or runs i d).0.0) (cold_state shape m.home) ∙ can.free i d l)
    can.apart)

abbrev table_by : Layout → HomeId → List ℕ → TableValue
table_by shape home tags = record { shape = shape; home = home; tags = tags }

module _ (shape : Layout) (m : Memory) (set : List Bool) (marks : Marks) (n : ℕ) (tags : List ℕ) (runs : List (Pfn × Order)) (home : AllHome m) (count : shape.frames ≡ length m.pages) (pages : n ≡ length m.pages) (places : n ≡ m.home.frames) (empty : marks ≡ record { frames = n; runs = finset.empty }) (zeros : tags ≡ replicate n 0) (usable : AreUsable shape set) (can : CanAdopt shape runs) where
  all_adopt : Adopts (cold_table shape m.home) set marks m runs
  all_adopt = subst (λ (x : Marks). Adopts (cold_table shape m.home) set x m runs) (sym empty) (adopts_at shape m set n runs home count pages places usable can)

  tags_are : tags ≡ replicate shape.frames 0
  tags_are = zeros ∙ ap (λ k. replicate k 0) (pages ∙ sym count)

  pub all_out : EachCanGoOut runs m
  all_out = all_adopt.out

  pub all_reserve : EachReserves runs set
  all_reserve = all_adopt.reserves

  pub all_begin : EachBegins (length tags) runs
  all_begin = subst (λ k. EachBegins k runs) (sym (ap length tags_are ∙ length-replicate {A = ℕ} shape.frames 0)) all_adopt.begins

  module _ (rest : Memory) (given : List Bool) (now : List ℕ) (gone : rest ≡ without_all runs m) (less : given ≡ without_adopted runs set) (set_ : now ≡ adopted_tags runs tags) where
    now_is : now ≡ adopted_tags runs (replicate shape.frames 0)
    now_is = set_ ∙ ap (adopted_tags runs) tags_are

    pub adopt_home : KeepsHome shape rest now
    adopt_home = subst (λ x. KeepsHome shape x now) (sym gone) (subst (KeepsHome shape (without_all runs m)) (sym now_is) all_adopt.home)

    same_table : table_by shape rest.home now ≡ (record { shape = shape; home = m.home; tags = adopted_tags runs (replicate shape.frames 0) })
    same_table = λ i. record { shape = shape; home = (ap (λ (x : Memory). x.home) gone ∙ left_home runs m) i; tags = now_is i }

    pub adopt_keeps : KeepsPoolFrames (record { shape = shape; home = rest.home; tags = now }) given marks
    adopt_keeps =
        subst (λ (x : TableValue). KeepsPoolFrames x given marks) (sym same_table)
        (subst (λ (x : List Bool). KeepsPoolFrames (record { shape = shape; home = m.home; tags = adopted_tags runs (replicate shape.frames 0) }) x marks) (sym less) all_adopt.keeps)

    pub adopt_value : pool_of (record { shape = shape; home = rest.home; tags = now }) marks.runs ≡ record { state = adopted_pool shape runs; home = m.home; marks = finset.empty }
    adopt_value =
        ap (λ (x : TableValue). pool_of x marks.runs) same_table
        ∙ ap (λ (x : Marks). pool_of (record { shape = shape; home = m.home; tags = adopted_tags runs (replicate shape.frames 0) }) x.runs) empty
        ∙ (λ i. record { state = record { shape = shape; owned = (all_adopt.owned ∙ ap (owned_at runs) (ap (λ (s : PoolState). s.owned) (cold_state shape m.home))) i; pinned = ap (λ (s : PoolState). s.pinned) (cold_state shape m.home) i }; home = m.home; marks = finset.empty })
