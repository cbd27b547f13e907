-- Frames that hold the runs of all files of a sound world.
use Rattle.std.proofs.Common.{◌≡◌, ℕ, ◌+◌, ◌-◌, ◌*◌, ◌%◌, ◌^◌, ◌<◌, ◌≤◌, zero, suc, Bool, true, false, List, [], ◌∷◌, ◌++◌, length, take, drop, refl, ap, sym, ◌∙◌, arith}
use Rattle.std.specs.Prelude.{Option, None, Some, ◌||◌, option_map, flat_map}
use Rattle.std.specs.FinMap as finmap
use Rattle.std.specs.List.{list_any, range_with_len}
use Rattle.std.proofs.lemmas.Bool.{eq-eqb, eqb-true}
use Rattle.std.proofs.lemmas.List.{take-append-drop, take-take, drop-take, drop-drop, take_all, length-take}
use Rattle.std.proofs.lemmas.Nat.{pow_pos}
use Rattle.ho_base.specs.declared.limits.TheConstants.{PAGE_BYTES}
use Rattle.ho_events.specs.File.{FileState, index_bytes}
use Rattle.ho_events.specs.Lists.{is_just, upto}
use Rattle.ho_events.specs.Pool.{PoolState, is_owned, run_start}
use Rattle.ho_world.specs.Sequences.{Labels}
use Rattle.ho_world.specs.World.{World, file_at, pool_at}
use Rattle.record_frames.specs.Ram.{Ram, run_bytes}
use Rattle.balance_laws.specs.OneEach.{Place}
use Rattle.balance_laws.specs.Sound.{Sound, RunFits, owns, run_in}
use Rattle.balance_laws.proofs.Base.{clash, same_value}
use Rattle.balance_laws.proofs.Giving.{is_owned_at}
use Rattle.balance_laws.proofs.Numbers.{any_upto, start_of}
use Rattle.machine_core.specs.Gathered.{piece_of}

-- ---- pages of bytes, one after the other

take_more : (m n : ℕ) (xs : List ℕ) → take m xs ++ take n (drop m xs) ≡ take (m + n) xs
take_more m n xs =
    (λ i. sym (take-take m (m + n) xs (omega arith)) i ++ sym (drop-take m n xs) i) ∙ take-append-drop m (take (m + n) xs)

pages : (page : ℕ → List ℕ) (size n p : ℕ) (xs : List ℕ) → ((j : ℕ) → j < n → page (p + j) ≡ take size (drop (j * size) xs)) → flat_map page (range_with_len p n) ≡ take (n * size) xs
pages page size zero p xs h = ap (λ k. take k xs) none
  where
    none : 0 ≡ 0 * size
    none = omega arith
pages page size (suc n) p xs h =
    let at : p + 0 ≡ p = omega arith in
    let none : 0 * size ≡ 0 = omega arith in
    let first : page p ≡ take size xs = ap page (sym at) ∙ h 0 (omega arith) ∙ ap (λ k. take size (drop k xs)) none in
    let total : size + n * size ≡ suc n * size = omega arith in
    (λ i. first i ++ pages page size n (p + 1) (drop size xs) (later h) i) ∙ take_more size (n * size) xs ∙ ap (λ k. take k xs) total
  where
    later : ((j : ℕ) → j < suc n → page (p + j) ≡ take size (drop (j * size) xs)) → (j : ℕ) → j < n → page (p + 1 + j) ≡ take size (drop (j * size) (drop size xs))
    later h j lt =
        let at : p + 1 + j ≡ p + suc j = omega arith in
        let from : suc j * size ≡ size + j * size = omega arith in
        ap page at ∙ h (suc j) (omega (arith, lt)) ∙ ap (λ k. take size (drop k xs)) from ∙ ap (take size) (sym (drop-drop (j * size) size xs))

-- ---- the owned run that holds a frame

pub record Owner (s : PoolState) (q : ℕ) : Type 0 where
  pub order : ℕ
  pub is : finmap.get s.owned (run_start order q) ≡ Some order

just : (o : ℕ) (x : Option ℕ) → is_just o x ≡ true → x ≡ Some o
just o None h = absurd cc
just o (Some n) h = ap Some (eqb-true n o h)

among : (s : PoolState) (q : ℕ) (os : List ℕ) → list_any (λ o. is_just o (finmap.get s.owned (run_start o q))) os ≡ true → Owner s q
among s q [] h = absurd cc
among s q (o ∷ os) h = go (is_just o (finmap.get s.owned (run_start o q))) refl h (among s q os)
  where
    go : (b : Bool) → is_just o (finmap.get s.owned (run_start o q)) ≡ b → (b || list_any (λ o. is_just o (finmap.get s.owned (run_start o q))) os) ≡ true
        → (list_any (λ o. is_just o (finmap.get s.owned (run_start o q))) os ≡ true → Owner s q) → Owner s q
    go true e k more = record { order = o; is = just o (finmap.get s.owned (run_start o q)) e }
    go false e k more = more k

pub owner_of : (s : PoolState) (q : ℕ) → is_owned s q ≡ true → Owner s q
owner_of s q h = among s q (upto 10) h

-- a frame of an owned run is owned
run_owned : (s : PoolState) (p o j : ℕ) → RunFits s.shape p o → finmap.get s.owned p ≡ Some o → j < 2 ^ o → is_owned s (p + j) ≡ true
run_owned s p o j fits is lt =
    any_upto (λ o. is_just o (finmap.get s.owned (run_start o (p + j)))) 10 o (omega (arith, fits.order))
    (ap (λ q. is_just o (finmap.get s.owned q)) (start_of (2 ^ o) p j fits.aligned lt) ∙ ap (is_just o) is ∙ eq-eqb o o refl)

-- ---- the frames

-- frames that hold the runs of all files of a world
pub record HoldAll (w : World) (count : ℕ) : Type 0 where
  pub ram : Ram
  pub is : ram.count ≡ count
  pub holds : (f i p : ℕ) (g : FileState) → file_at w f ≡ Some g → finmap.get g.runs i ≡ Some p → run_bytes ram g.order p ≡ piece_of g i

-- a page of the bytes of an index
abbrev page_in : Option FileState → ℕ → ℕ → List ℕ
page_in None i j = []
page_in (Some g) i j = take PAGE_BYTES (drop (j * PAGE_BYTES) (piece_of g i))

module _ (labels : ℕ → Labels) (w : World) (sound : Sound w labels) where
  abbrev s : PoolState
  s = pool_at w

  pub place_of : (q : ℕ) → (owner : Owner (pool_at w) q) → Place (λ f i. run_in (file_at w f) i) (run_start owner.order q, owner.order)
  place_of q owner = sound.parts.owned.found (run_start owner.order q, owner.order) (is_owned_at s (run_start owner.order q, owner.order) owner.is)

  abbrev page_by : (q : ℕ) → Owner s q → List ℕ
  page_by q owner = page_in (file_at w (place_of q owner).row) (place_of q owner).column (q - run_start owner.order q)

  abbrev page_at : (q : ℕ) (b : Bool) → is_owned s q ≡ b → List ℕ
  page_at q true e = page_by q (owner_of s q e)
  page_at q false e = []

  abbrev page : ℕ → List ℕ
  page q = page_at q (is_owned s q) refl

  module _ (f i p : ℕ) (g : FileState) (is : file_at w f ≡ Some g) (run : finmap.get g.runs i ≡ Some p) where
    here : run_in (file_at w f) i ≡ Some (p, g.order)
    here = ap (λ x. run_in x i) is ∙ ap (option_map (λ p. (p, g.order))) run

    owned : finmap.get s.owned p ≡ Some g.order
    owned = just g.order (finmap.get s.owned p) (sound.parts.owned.there f i (p, g.order) here)

    fits : RunFits s.shape p g.order
    fits = sound.parts.runs.each p g.order owned

    -- whoever owns a frame of the run, it is this run
    by_owner : (j : ℕ) → j < 2 ^ g.order → (owner : Owner s (p + j)) → page_by (p + j) owner ≡ page_in (Some g) i j
    by_owner j lt owner =
        let q : ℕ = run_start owner.order (p + j) in
        let inside : (p + j) % 2 ^ owner.order < 2 ^ owner.order = below (p + j) (2 ^ owner.order) (pow_pos owner.order) in
        let same : p + j ≡ q + (p + j) % 2 ^ owner.order = back (p + j) (2 ^ owner.order) (pow_pos owner.order) in
        let start : p ≡ q = sound.parts.runs.apart p g.order q owner.order j ((p + j) % 2 ^ owner.order) owned owner.is lt inside same in
        let order : owner.order ≡ g.order = same_value owner.order g.order (sym owner.is ∙ ap (finmap.get s.owned) (sym start) ∙ owned) in
        let place = place_of (p + j) owner in
        let at : run_in (file_at w place.row) place.column ≡ Some (p, g.order) = place.is ∙ (λ k. Some (sym start k, order k)) in
        let one = sound.parts.owned.once place.row f place.column i (p, g.order) at here in
        let offset : p + j - q ≡ j = rest p q j start in
        (λ k. page_in (file_at w (one.0 k)) (one.1 k) (offset k)) ∙ ap (λ x. page_in x i j) is
      where
        below : (n m : ℕ) → 0 < m → n % m < m
        below n m some = omega (arith, some)

        back : (n m : ℕ) → 0 < m → n ≡ n - n % m + n % m
        back n m some = omega (arith, some)

        rest : (p q j : ℕ) → p ≡ q → p + j - q ≡ j
        rest p q j e = omega (arith, e)

    paged : (j : ℕ) → j < 2 ^ g.order → page (p + j) ≡ page_in (Some g) i j
    paged j lt = go (is_owned s (p + j)) refl
      where
        go : (b : Bool) (e : is_owned s (p + j) ≡ b) → page_at (p + j) b e ≡ page_in (Some g) i j
        go true e = by_owner j lt (owner_of s (p + j) e)
        go false e = absurd (clash (sym (run_owned s p g.order j fits owned lt) ∙ e))

    held : flat_map page (range_with_len p (2 ^ g.order)) ≡ piece_of g i
    held = pages page PAGE_BYTES (2 ^ g.order) p (piece_of g i) paged ∙ take_all (2 ^ g.order * PAGE_BYTES) (piece_of g i) (short (index_bytes g) _ (mul_same (2 ^ g.order)))
      where
        mul_same : (n : ℕ) → PAGE_BYTES * n ≡ n * PAGE_BYTES
        mul_same n = omega arith

        short : (n : ℕ) (xs : List ℕ) → n ≡ 2 ^ g.order * PAGE_BYTES → length (take n xs) ≤ 2 ^ g.order * PAGE_BYTES
        short n xs same = omega (arith, length-take n xs, same)

  -- there are frames that hold all files
  pub hold_all : (count : ℕ) → HoldAll w count
  hold_all count = record { ram = record { count = count; page = page }; is = refl; holds = held }
