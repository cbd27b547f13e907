-- A file whose holes are filled: which indexes have a run then, and its size after a write.
use Rattle.std.proofs.Common.{◌≡◌, ◌⊎◌, inl, inr, ℕ, ◌+◌, ◌-◌, ◌*◌, ◌/◌, ◌^◌, ◌<◌, ◌≤◌, min, Bool, true, false, not, ◌&&◌, ◌||◌, cond, List, [], ◌∷◌, ◌++◌, length, take, drop, replicate, refl, sym, ap, subst, ◌∙◌, arith, div-mul-le_self}
use Rattle.std.specs.Prelude.{Option, None, Some, is_some, nat_lt, ◌==◌, if◌then◌else◌}
use Rattle.std.specs.Ordering.{nat_cmp}
use Rattle.std.specs.FinMap as finmap
use Rattle.std.specs.List.{AllByRecursion}
use Rattle.std.proofs.lemmas.Bool.{cases_eq, ltb-false}
use Rattle.std.proofs.lemmas.List.{length-take, length-drop, length-append, length-replicate}
use Rattle.std.proofs.lemmas.Nat.{le-div, pow_pos}
use Rattle.ho_base.specs.declared.limits.TheConstants.{FILE_BYTES}
use Rattle.ho_events.specs.File.{FileState, filled, holes, touched, touched_holes, index_bytes, overwritten, extended, is_too_big, grows_frozen, is_frozen, is_device}
use Rattle.ho_events.specs.Lists.{pieces}
use Rattle.balance_laws.specs.Sound.{FileFits, index_count}
use Rattle.balance_laws.proofs.Base.{clash}
use Rattle.balance_laws.proofs.Maps.{put_at, put_off}
use Rattle.balance_laws.proofs.Numbers.{Distinct, all_filtered, all_passed, all_weaker, between_below, between_distinct, distinct_filtered}
use Rattle.balance_laws.proofs.Runs.{Holes}

abbrev Runs : Type 0
Runs = finmap.FinMap nat_cmp ℕ

-- what is known of the indexes that have runs, and of the places, is known of all that have runs then
pub filled_all : (B : ℕ → Type 0) (places ps : List ℕ) (runs : Runs) → ((i p : ℕ) → finmap.get runs i ≡ Some p → B i) → AllByRecursion B places
    → (i p : ℕ) → finmap.get (filled places ps runs) i ≡ Some p → B i
filled_all B [] ps runs old new i p e = old i p e
filled_all B (k ∷ places) [] runs old new i p e = old i p e
filled_all B (k ∷ places) (q ∷ ps) runs old new i p e =
    filled_all B places ps (finmap.insert runs k q) (λ j r h. by_case j r (cases_eq j k) h) new.1 i p e
  where
    by_case : (j r : ℕ) → (j ≡ k) ⊎ (j ≡ k → ⊥) → finmap.get (finmap.insert runs k q) j ≡ Some r → B j
    by_case j r (inl same) h = subst B (sym same) new.0
    by_case j r (inr ne) h = old j r (sym (put_off runs k q j ne) ∙ h)

-- an index that has a run has one then
put_keeps : (runs : Runs) (k q i : ℕ) → finmap.contains_key runs i ≡ true → finmap.contains_key (finmap.insert runs k q) i ≡ true
put_keeps runs k q i h = by_case (cases_eq i k)
  where
    by_case : (i ≡ k) ⊎ (i ≡ k → ⊥) → finmap.contains_key (finmap.insert runs k q) i ≡ true
    by_case (inl same) = ap is_some (put_at runs k q i same)
    by_case (inr ne) = ap is_some (put_off runs k q i ne) ∙ h

pub filled_keeps : (places ps : List ℕ) (runs : Runs) (i : ℕ) → finmap.contains_key runs i ≡ true → finmap.contains_key (filled places ps runs) i ≡ true
filled_keeps [] ps runs i h = h
filled_keeps (k ∷ places) [] runs i h = h
filled_keeps (k ∷ places) (q ∷ ps) runs i h = filled_keeps places ps (finmap.insert runs k q) i (put_keeps runs k q i h)

-- each of the places has a run then
pub filled_has : (places ps : List ℕ) (runs : Runs) → length ps ≡ length places → AllByRecursion (λ i. finmap.contains_key (filled places ps runs) i ≡ true) places
filled_has [] ps runs same = tt
filled_has (k ∷ places) [] runs same = absurd (omega (arith, same))
filled_has (k ∷ places) (q ∷ ps) runs same =
    (filled_keeps places ps (finmap.insert runs k q) k (ap is_some (put_at runs k q k refl)), filled_has places ps (finmap.insert runs k q) (omega (arith, same)))

-- ---- holes

no_run : (o : Option ℕ) → not (is_some o) ≡ true → o ≡ None
no_run None h = refl
no_run (Some p) h = absurd (clash (sym h))

pub holes_are : (f : FileState) (places : List ℕ) → Holes f.runs (holes f places)
holes_are f places =
    all_weaker (λ i. not (finmap.contains_key f.runs i) ≡ true) (λ i. finmap.get f.runs i ≡ None) (λ i h. no_run (finmap.get f.runs i) h) (holes f places)
    (all_passed (λ i. not (finmap.contains_key f.runs i)) places)

pub holes_distinct : (f : FileState) (places : List ℕ) → Distinct places → Distinct (holes f places)
holes_distinct f places d = distinct_filtered (λ i. not (finmap.contains_key f.runs i)) places d

-- a whole file has none
pub no_holes : (f : FileState) (places : List ℕ) → AllByRecursion (λ i. finmap.contains_key f.runs i ≡ true) places → holes f places ≡ []
no_holes f [] h = refl
no_holes f (i ∷ places) h = ap (λ b. cond (not b) (i ∷ holes f places) (holes f places)) h.0 ∙ no_holes f places h.1

pub pieces_rise : (m n s : ℕ) → 0 < s → m ≤ n → pieces m s ≤ pieces n s
pieces_rise m n s pos le =
    let low : (m + (s - 1)) / s * s ≤ m + (s - 1) = div-mul-le_self (m + (s - 1)) s in
    le-div (pieces m s) (n + (s - 1)) s pos (omega (arith, low, le))

pub index_positive : (f : FileState) → 0 < index_bytes f
index_positive f = let pos : 0 < 2 ^ f.order = pow_pos f.order in omega (arith, pos)

-- ---- a write

pub written_length : (off : ℕ) (new bytes : List ℕ) → length (overwritten off new bytes) ≡ off + length new + (length bytes - (off + length new))
written_length off new bytes =
    let whole : length (extended off bytes) ≡ length bytes + (off - length bytes) = length-append bytes (replicate (off - length bytes) 0) ∙ ap (λ n. length bytes + n) (length-replicate (off - length bytes) 0) in
    let front : length (take off (extended off bytes)) ≡ min off (length (extended off bytes)) = length-take off (extended off bytes) in
    let rest : length (drop (off + length new) bytes) ≡ length bytes - (off + length new) = length-drop (off + length new) bytes in
    let both : length (take off (extended off bytes) ++ new) ≡ length (take off (extended off bytes)) + length new = length-append (take off (extended off bytes)) new in
    let all : length (overwritten off new bytes) ≡ length (take off (extended off bytes) ++ new) + length (drop (off + length new) bytes) = length-append (take off (extended off bytes) ++ new) (drop (off + length new) bytes) in
    omega (arith, whole, front, rest, both, all)

module _ (f : FileState) (fits : FileFits f) (off : ℕ) (new fills : List ℕ) (small : is_too_big (off + length new) ≡ false) (free : grows_frozen f (off + length new) ≡ false) where
  abbrev places : List ℕ
  places = touched_holes f off (length new)

  abbrev pub wrote : FileState
  wrote = record f { bytes = overwritten off new f.bytes; runs = filled places fills f.runs }

  low_end : off + length new ≤ FILE_BYTES
  low_end = ltb-false FILE_BYTES (off + length new) small

  pub places_distinct : Distinct places
  places_distinct = by_test (length new == 0)
    where
      by_test : (b : Bool) → Distinct (if b then [] else holes f (touched f off (length new)))
      by_test true = tt
      by_test false = holes_distinct f (touched f off (length new)) (between_distinct (off / index_bytes f) (pieces (off + length new) (index_bytes f)))

  pub places_holes : Holes f.runs places
  places_holes = by_test (length new == 0)
    where
      by_test : (b : Bool) → Holes f.runs (if b then [] else holes f (touched f off (length new)))
      by_test true = tt
      by_test false = holes_are f (touched f off (length new))

  places_below : AllByRecursion (λ i. i < pieces (off + length new) (index_bytes f)) places
  places_below = by_test (length new == 0)
    where
      by_test : (b : Bool) → AllByRecursion (λ i. i < pieces (off + length new) (index_bytes f)) (if b then [] else holes f (touched f off (length new)))
      by_test true = tt
      by_test false =
          all_filtered (λ i. i < pieces (off + length new) (index_bytes f)) (λ i. not (finmap.contains_key f.runs i)) (touched f off (length new))
          (between_below (off / index_bytes f) (pieces (off + length new) (index_bytes f)))

  -- a file that a session has doesn't grow
  keeps_size : (f.pin || f.hold) ≡ true → off + length new ≤ length f.bytes
  keeps_size h = by_test (nat_lt (length f.bytes) (off + length new)) refl
    where
      frozen : (p q d : Bool) → (p || q) ≡ true → (p || q || d) ≡ true
      frozen true q d h = refl
      frozen false true d h = refl
      frozen false false d h = absurd (clash (sym h))

      by_test : (b : Bool) → nat_lt (length f.bytes) (off + length new) ≡ b → off + length new ≤ length f.bytes
      by_test true e = absurd (clash (sym (ap (λ c. c && is_frozen f) e ∙ frozen f.pin f.hold (is_device f.kind) h) ∙ free))
      by_test false e = ltb-false (length f.bytes) (off + length new) e

  -- and has no hole
  pub whole_places : (f.pin || f.hold) ≡ true → places ≡ []
  whole_places h = by_test (length new == 0)
    where
      by_test : (b : Bool) → (if b then [] else holes f (touched f off (length new))) ≡ []
      by_test true = refl
      by_test false =
          no_holes f (touched f off (length new))
          (all_weaker (λ i. i < pieces (off + length new) (index_bytes f)) (λ i. finmap.contains_key f.runs i ≡ true)
          (λ i less. (let up : pieces (off + length new) (index_bytes f) ≤ index_count f = pieces_rise (off + length new) (length f.bytes) (index_bytes f) (index_positive f) (keeps_size h) in fits.whole h i (omega (arith, up, less))))
          (touched f off (length new)) (between_below (off / index_bytes f) (pieces (off + length new) (index_bytes f))))

  size_is : length wrote.bytes ≡ off + length new + (length f.bytes - (off + length new))
  size_is = written_length off new f.bytes

  pub wrote_fits : FileFits wrote
  wrote_fits = record {
    kind = fits.kind;
    order = fits.order;
    size = omega (arith, size_is, low_end, fits.size);
    position = omega (arith, size_is, fits.position);
    below = filled_all (λ i. i < index_count wrote) places fills f.runs
        (λ i p e. (let less : i < index_count f = fits.below i p e in let up : index_count f ≤ index_count wrote = grows (omega (arith, size_is)) in omega (arith, less, up)))
        (all_weaker (λ i. i < pieces (off + length new) (index_bytes f)) (λ i. i < index_count wrote)
        (λ i less. (let up : pieces (off + length new) (index_bytes f) ≤ index_count wrote = grows' (omega (arith, size_is)) in omega (arith, less, up))) places places_below);
    whole = λ h i less. filled_keeps places fills f.runs i (fits.whole h i (shrinks (same_size (keeps_size h)) i less));
    kept = fits.kept;
  }
    where
      grows : length f.bytes ≤ length wrote.bytes → index_count f ≤ index_count wrote
      grows le = pieces_rise (length f.bytes) (length wrote.bytes) (index_bytes f) (index_positive f) le

      grows' : off + length new ≤ length wrote.bytes → pieces (off + length new) (index_bytes f) ≤ index_count wrote
      grows' le = pieces_rise (off + length new) (length wrote.bytes) (index_bytes f) (index_positive f) le

      same_size : off + length new ≤ length f.bytes → length wrote.bytes ≡ length f.bytes
      same_size le = omega (arith, size_is, le)

      shrinks : length wrote.bytes ≡ length f.bytes → (i : ℕ) → i < index_count wrote → i < index_count f
      shrinks same i less = subst (λ n. i < pieces n (index_bytes f)) same less
