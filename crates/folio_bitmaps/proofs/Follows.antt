-- Elements with rising numbers keep the rules of a chain, and the other way round.
use Rattle.std.proofs.Common.{◌≡◌, ℕ, zero, suc, ◌+◌, ◌<◌, ◌≤◌, List, [], ◌∷◌, ◌++◌, length, map, take, get_or, refl, subst, arith}
use Rattle.std.specs.List.{All, AllPairs, range_with_len}
use Rattle.std.proofs.lemmas.List.Elements.{All-nil, All-cons, All-head, All-tail, All-weaker}
use Rattle.std.proofs.lemmas.List.FromFn.{length-map-range_with_len, take-map-range_with_len, get_or-map-range_with_len, map-range_with_len_more}
use Rattle.ho_base.specs.BitmapCount.{bitmap_count}
use Rattle.folio_bitmaps.specs.Chunks.{Element, IsElement, Rises, element_at, elements_of, count_of, number_of}
use Rattle.folio_bitmaps.specs.Reading.{Follows, Follow, GoesOn, least_after, put, puts}
use Rattle.folio_bitmaps.proofs.Keys.{number_rises, rises_number, number_count}

module _ (n : ℕ) where
  pub follow_append : (least : ℕ) (xs ys : List Element) → Follow n least xs → Follow n (least_after n least xs) ys → Follow n least (xs ++ ys)
  follow_append least [] ys h k = k
  follow_append least (x ∷ xs) ys h k = (h.0, follow_append (number_of n x + 1) xs ys h.1 k)

  pub follow_parts : (least : ℕ) (xs ys : List Element) → Follow n least (xs ++ ys) → Follow n least xs × Follow n (least_after n least xs) ys
  follow_parts least [] ys h = (tt, h)
  follow_parts least (x ∷ xs) ys h = let both = follow_parts (number_of n x + 1) xs ys h.1 in ((h.0, both.0), both.1)

  pub after_append : (least : ℕ) (xs ys : List Element) → least_after n least (xs ++ ys) ≡ least_after n (least_after n least xs) ys
  after_append least [] ys = refl
  after_append least (x ∷ xs) ys = after_append (number_of n x + 1) xs ys

  pub puts_append : (bytes : List ℕ) (xs ys : List Element) → puts n bytes (xs ++ ys) ≡ puts n (puts n bytes xs) ys
  puts_append bytes [] ys = refl
  puts_append bytes (x ∷ xs) ys = puts_append (put n bytes x) xs ys

  -- one more element
  pub follow_push : (least : ℕ) (xs : List Element) (e : Element) → Follow n least xs → Follows n (least_after n least xs) e → Follow n least (xs ++ e ∷ [])
  follow_push least xs e h k = follow_append least xs (e ∷ []) h (k, tt)

  -- the element at a place follows those before it
  pub follow_at : (least : ℕ) (es : List Element) (i : ℕ) (d : Element) → Follow n least es → i < length es → Follows n (least_after n least (take i es)) (get_or es i d)
  follow_at least [] i d h lt = absurd (omega arith)
  follow_at least (e ∷ es) zero d h lt = h.0
  follow_at least (e ∷ es) (suc i) d h lt = follow_at (number_of n e + 1) es i d h.1 (omega arith)

  pub after_least : (least : ℕ) (es : List Element) → Follow n least es → least ≤ least_after n least es
  after_least least [] h = omega arith
  after_least least (e ∷ es) h = let later : least ≤ number_of n e = h.0.later in omega (arith, after_least (number_of n e + 1) es h.1)

  pub after_count : (least : ℕ) (es : List Element) → Follow n least es → least ≤ bitmap_count n → least_after n least es ≤ bitmap_count n
  after_count least [] h le = le
  after_count least (e ∷ es) h le = after_count (number_of n e + 1) es h.1 (omega (arith, number_count n e h.0.is.small h.0.is.below))

  pub follow_elements : (least : ℕ) (es : List Element) → Follow n least es → All (IsElement n) es
  follow_elements least [] h = All-nil (IsElement n)
  follow_elements least (e ∷ es) h = All-cons (IsElement n) e es h.0.is (follow_elements (number_of n e + 1) es h.1)

  pub follow_later : (least : ℕ) (es : List Element) → Follow n least es → All (λ e. least ≤ number_of n e) es
  follow_later least [] h = All-nil (λ e. least ≤ number_of n e)
  follow_later least (e ∷ es) h =
      let first : least ≤ number_of n e = h.0.later in
      All-cons (λ f. least ≤ number_of n f) e es first (All-weaker (λ f. number_of n e + 1 ≤ number_of n f) (λ f. least ≤ number_of n f) (λ f le. omega arith) es (follow_later (number_of n e + 1) es h.1))

  pub follow_below : (least : ℕ) (es : List Element) → Follow n least es → All (λ e. number_of n e < least_after n least es) es
  follow_below least [] h = All-nil (λ e. number_of n e < least)
  follow_below least (e ∷ es) h =
      All-cons (λ f. number_of n f < least_after n (number_of n e + 1) es) e es (omega (arith, after_least (number_of n e + 1) es h.1)) (follow_below (number_of n e + 1) es h.1)

  pairs_cons : (e : Element) (es : List Element) → All (Rises e) es → AllPairs Rises es → AllPairs Rises (e ∷ es)
  pairs_cons e es all pairs zero zero d lt len = absurd (omega arith)
  pairs_cons e es all pairs zero (suc j) d lt len = all j d (omega arith)
  pairs_cons e es all pairs (suc i) zero d lt len = absurd (omega arith)
  pairs_cons e es all pairs (suc i) (suc j) d lt len = pairs i j d (omega arith) (omega arith)

  pub follow_rising : (least : ℕ) (es : List Element) → Follow n least es → AllPairs Rises es
  follow_rising least [] h = λ i j d lt len. absurd (omega arith)
  follow_rising least (e ∷ es) h =
      pairs_cons e es (λ k d lt. number_rises n e (get_or es k d) (follow_elements (number_of n e + 1) es h.1 k d lt).below (omega (arith, follow_later (number_of n e + 1) es h.1 k d lt)))
      (follow_rising (number_of n e + 1) es h.1)

  pub rules_follow : (least : ℕ) (es : List Element) → All (IsElement n) es → AllPairs Rises es → All (λ e. least ≤ number_of n e) es → Follow n least es
  rules_follow least [] all pairs later = tt
  rules_follow least (e ∷ es) all pairs later =
      let tail : All (IsElement n) es = All-tail (IsElement n) e es all in
      let first : IsElement n e = All-head (IsElement n) e es all in (
        record { is = first; later = All-head (λ f. least ≤ number_of n f) e es later },
        rules_follow (number_of n e + 1) es tail (λ i j d lt len. pairs (suc i) (suc j) d (omega arith) (omega arith))
            (λ k d lt. let rises : Rises e (get_or es k d) = pairs 0 (suc k) d (omega arith) (omega arith) in
            let less : number_of n e < number_of n (get_or es k d) = rises_number n e (get_or es k d) first.below first.aligned (tail k d lt).aligned rises in omega arith),
      )

-- the first k elements of a chunk frame
abbrev pub upto : List ℕ → ℕ → List Element
upto page k = map (element_at page) (range_with_len 0 k)

pub upto_more : (page : List ℕ) (k : ℕ) → upto page (k + 1) ≡ upto page k ++ element_at page k ∷ []
upto_more page k = map-range_with_len_more (element_at page) 0 k k (omega arith)

pub all_upto : (page : List ℕ) → elements_of page ≡ upto page (count_of page)
unfolding elements_of
all_upto page = refl

-- element k of a chunk frame that goes on follows those before it
pub goes_at : (n least : ℕ) (page : List ℕ) (k : ℕ) → GoesOn n least page → k < count_of page → Follows n (least_after n least (upto page k)) (element_at page k)
goes_at n least page k h lt =
    let all : Follow n least (upto page (count_of page)) = subst (Follow n least) (all_upto page) h.follow in
    let here : get_or (upto page (count_of page)) k (element_at page k) ≡ element_at page k = get_or-map-range_with_len (element_at page) 0 (count_of page) k k (element_at page k) lt (omega arith) in
    let front : take k (upto page (count_of page)) ≡ upto page k = take-map-range_with_len (element_at page) 0 (count_of page) k (omega arith) in
    let long : length (upto page (count_of page)) ≡ count_of page = length-map-range_with_len (element_at page) 0 (count_of page) in
    subst (λ (es : List Element). Follows n (least_after n least es) (element_at page k)) front
    (subst (λ (e : Element). Follows n (least_after n least (take k (upto page (count_of page)))) e) here (follow_at n least (upto page (count_of page)) k (element_at page k) all (omega arith)))
