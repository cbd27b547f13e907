-- A chain that is read.
use Rattle.std.proofs.Common.{◌≡◌, ◌≢◌, ℕ, zero, suc, ◌+◌, ◌*◌, ◌<◌, ◌≤◌, List, [], ◌∷◌, ◌++◌, length, drop, get_or, replicate, refl, sym, ap, subst, ◌∙◌, arith}
use Rattle.std.specs.List.{All, Contains, flat_map}
use Rattle.std.proofs.lemmas.List.Elements.{All-push, All-append, All-contains, Contains-append_left, Contains-append_right}
use Rattle.std.proofs.lemmas.List.Quantifiers.{all_pairs_push}
use Rattle.std.proofs.lemmas.List.FromFn.{length-map-range_with_len, get_or-map-range_with_len}
use Rattle.std.proofs.lemmas.List.{append-nil, length-take-le, length-drop, get_or_push, length_push}
use Rattle.std.proofs.lemmas.Grind.{flat_map-append}
use Rattle.phys_frames.specs.Memory.{Memory}
use Rattle.ho_base.specs.BitmapCount.{bitmap_count}
use Rattle.folio_bitmaps.specs.Bitmaps.{AreBitmaps, runs_of}
use Rattle.folio_bitmaps.specs.Chunks.{Element, element_at, elements_of, count_of, next_of, start_of, number_of, IsChunk, IsElement}
use Rattle.folio_bitmaps.specs.Reading.{Follow, GoesOn, least_after, puts}
use Rattle.folio_bitmaps.specs.Chain.{page_of, Leads, all_elements, AreChunks, HasMarks, BreaksAt}
use Rattle.folio_bitmaps.proofs.Follows.{follow_append, follow_parts, after_append, puts_append, follow_elements, follow_rising, follow_below, rules_follow, after_count, upto, all_upto, goes_at}
use Rattle.folio_bitmaps.proofs.Puts.{Sized, read_bitmaps, read_marked, marked_read}

-- the chunk frames that were read, up to a number
pub record IsRead (m : Memory) (n first : ℕ) (chunks : List ℕ) (number least : ℕ) (zeros bytes : List ℕ) : Type 0 where
  pub leads : Leads m first chunks number
  pub rules : AreChunks m chunks
  pub follow : Follow n 0 (all_elements m chunks)
  pub least_is : least ≡ least_after n 0 (all_elements m chunks)
  pub sized : Sized (all_elements m chunks)
  pub bytes_are : bytes ≡ puts n zeros (all_elements m chunks)

pub read_begins : (m : Memory) (n first : ℕ) (zeros bytes : List ℕ) → bytes ≡ zeros → IsRead m n first [] first 0 zeros bytes
read_begins m n first zeros bytes e = record {
  leads = refl;
  rules = record {
    numbers = λ k d lt. absurd (omega arith);
    once = λ i j d lt len. absurd (omega arith);
    shaped = λ k d lt. absurd (omega arith);
    elements = λ k d lt. absurd (omega arith);
    rising = λ i j d lt len. absurd (omega arith);
  };
  follow = tt;
  least_is = refl;
  sized = λ k d lt. absurd (omega arith);
  bytes_are = e;
}

leads_push : (m : Memory) (first : ℕ) (chunks : List ℕ) (p : ℕ) → Leads m first chunks p → Leads m first (chunks ++ p ∷ []) (next_of (page_of m p))
leads_push m first [] p h = (h, refl)
leads_push m first (q ∷ chunks) p h = (h.0, leads_push m (next_of (page_of m q)) chunks p h.1)

all_push : (m : Memory) (chunks : List ℕ) (p : ℕ) → all_elements m (chunks ++ p ∷ []) ≡ all_elements m chunks ++ elements_of (page_of m p)
all_push m chunks p = flat_map-append (λ (q : ℕ). elements_of (page_of m q)) chunks (p ∷ []) ∙ ap (λ (l : List Element). all_elements m chunks ++ l) (append-nil (elements_of (page_of m p)))

pub contains_flat : (f : ℕ → List Element) (xs : List ℕ) (k d : ℕ) (y : Element) → k < length xs → Contains (f (get_or xs k d)) y → Contains (flat_map f xs) y
contains_flat f [] k d y lt h = absurd (omega arith)
contains_flat f (x ∷ xs) zero d y lt h = Contains-append_left (f x) (flat_map f xs) y h
contains_flat f (x ∷ xs) (suc k) d y lt h = Contains-append_right (f x) (flat_map f xs) y (contains_flat f xs k d y (omega arith) h)

first_there : (page : List ℕ) → 1 ≤ count_of page → Contains (elements_of page) (element_at page 0)
first_there page some =
    subst (λ (es : List Element). Contains es (element_at page 0)) (sym (all_upto page)) (there (count_of page) some)
  where
    there : (count : ℕ) → 1 ≤ count → Contains (upto page count) (element_at page 0)
    there count le =
        let long : length (upto page count) ≡ count = length-map-range_with_len (element_at page) 0 count in
        (0, omega arith, get_or-map-range_with_len (element_at page) 0 count 0 0 (element_at page 0) (omega arith) (omega arith))

page_sized : (page : List ℕ) → length page ≡ 4096 → count_of page ≤ 7 → Sized (elements_of page)
page_sized page size few = subst Sized (sym (all_upto page)) (all (count_of page) few)
  where
    all : (count : ℕ) → count ≤ 7 → Sized (upto page count)
    all count le k d lt =
        let long : length (upto page count) ≡ count = length-map-range_with_len (element_at page) 0 count in
        let at : get_or (upto page count) k d ≡ element_at page k = get_or-map-range_with_len (element_at page) 0 count k k d (omega arith) (omega arith) in
        ap (λ (e : Element). length e.bits) at ∙ length-take-le 512 (drop (start_of k + 16) page) (omega (arith, length-drop (start_of k + 16) page))

-- a number whose frame has been read is not read again
not_again : (m : Memory) (n first : ℕ) (chunks : List ℕ) (number least : ℕ) (zeros bytes : List ℕ) → IsRead m n first chunks number least zeros bytes → GoesOn n least (page_of m number)
    → (k d : ℕ) → k < length chunks → get_or chunks k d ≢ number
not_again m n first chunks number least zeros bytes h g k d lt same =
    let page : List ℕ = page_of m number in
    let there : Contains (all_elements m chunks) (element_at page 0) = contains_flat (λ (q : ℕ). elements_of (page_of m q)) chunks k d (element_at page 0) lt
    (subst (λ (q : ℕ). Contains (elements_of (page_of m q)) (element_at page 0)) (sym same) (first_there page g.shaped.some)) in
    let below : number_of n (element_at page 0) < least_after n 0 (all_elements m chunks) =
    All-contains (λ (e : Element). number_of n e < least_after n 0 (all_elements m chunks)) (all_elements m chunks) (element_at page 0) (follow_below n 0 (all_elements m chunks) h.follow) there in
    let above : least ≤ number_of n (element_at page 0) = (goes_at n least page 0 g g.shaped.some).later in
    crossed (number_of n (element_at page 0)) least (least_after n 0 (all_elements m chunks)) below above h.least_is
  where
    crossed : (a b d : ℕ) → a < d → b ≤ a → b ≡ d → ⊥
    crossed a b d lt le e = omega arith

pub read_more : (m : Memory) (n first : ℕ) (chunks : List ℕ) (number least : ℕ) (zeros bytes : List ℕ) (after : ℕ) (next_bytes : List ℕ) → n ≡ length m.pages → IsRead m n first chunks number least zeros bytes
    → 1 ≤ number → number < n → GoesOn n least (page_of m number) → length (page_of m number) ≡ 4096 → after ≡ least_after n least (elements_of (page_of m number)) → next_bytes ≡ puts n bytes (elements_of (page_of m number))
    → IsRead m n first (chunks ++ number ∷ []) (next_of (page_of m number)) after zeros next_bytes
read_more m n first chunks number least zeros bytes after next_bytes all h low high g size ae be =
    let page : List ℕ = page_of m number in
    let es : List Element = all_elements m chunks in
    let more : all_elements m (chunks ++ number ∷ []) ≡ es ++ elements_of page = all_push m chunks number in
    let joined : Follow n 0 (es ++ elements_of page) = follow_append n 0 es (elements_of page) h.follow (subst (λ (x : ℕ). Follow n x (elements_of page)) h.least_is g.follow) in
    let follow : Follow n 0 (all_elements m (chunks ++ number ∷ [])) = subst (Follow n 0) (sym more) joined in
    record {
      leads = leads_push m first chunks number h.leads;
      rules = record {
        numbers = All-push (λ (p : ℕ). (1 ≤ p) × (p < length m.pages)) chunks number h.rules.numbers (low, subst (λ (x : ℕ). number < x) all high);
        once = all_pairs_push (λ (p q : ℕ). p ≢ q) chunks number h.rules.once (λ k d lt. not_again m n first chunks number least zeros bytes h g k d lt);
        shaped = All-push (λ (p : ℕ). IsChunk (page_of m p)) chunks number h.rules.shaped g.shaped;
        elements = subst (λ (x : ℕ). All (IsElement x) (all_elements m (chunks ++ number ∷ []))) all (follow_elements n 0 (all_elements m (chunks ++ number ∷ [])) follow);
        rising = follow_rising n 0 (all_elements m (chunks ++ number ∷ [])) follow;
      };
      follow = follow;
      least_is = ae ∙ ap (λ (x : ℕ). least_after n x (elements_of page)) h.least_is ∙ sym (ap (least_after n 0) more ∙ after_append n 0 es (elements_of page));
      sized = subst Sized (sym more) (All-append (λ (e : Element). length e.bits ≡ 512) es (elements_of page) h.sized (page_sized page size g.shaped.few));
      bytes_are = be ∙ ap (λ (l : List ℕ). puts n l (elements_of page)) h.bytes_are ∙ sym (ap (puts n zeros) more ∙ puts_append n zeros es (elements_of page));
    }

-- a frame that cannot be read breaks a rule
pub read_breaks : (m : Memory) (n first : ℕ) (chunks : List ℕ) (number least : ℕ) (zeros bytes : List ℕ) → n ≡ length m.pages → IsRead m n first chunks number least zeros bytes
    → (0 < length chunks → number ≢ 0) → ((1 ≤ number) × (number < n) × GoesOn n least (page_of m number) → ⊥) → BreaksAt m first number
read_breaks m n first chunks number least zeros bytes all h goes not = record {
  before = chunks;
  leads = h.leads;
  goes_on = goes;
  rules = h.rules;
  broken = λ r.
      let last : (k d : ℕ) → k ≡ length chunks → get_or (chunks ++ number ∷ []) k d ≡ number = λ k d e. get_or_push chunks number d k (sym e) in
      let inside : length chunks < length (chunks ++ number ∷ []) = omega (arith, length_push chunks number) in
      let range : (1 ≤ number) × (number < length m.pages) = subst (λ (p : ℕ). (1 ≤ p) × (p < length m.pages)) (last (length chunks) 0 refl) (r.numbers (length chunks) 0 inside) in
      let shaped : IsChunk (page_of m number) = subst (λ (p : ℕ). IsChunk (page_of m p)) (last (length chunks) 0 refl) (r.shaped (length chunks) 0 inside) in
      let whole : List Element = all_elements m (chunks ++ number ∷ []) in
      let follow : Follow n 0 whole = rules_follow n 0 whole (subst (λ (x : ℕ). All (IsElement x) whole) (sym all) r.elements) r.rising (λ k d lt. omega arith) in
      let parts = follow_parts n 0 (all_elements m chunks) (elements_of (page_of m number)) (subst (Follow n 0) (all_push m chunks number) follow) in
      not (range.0, subst (λ (x : ℕ). number < x) (sym all) range.1, record { shaped = shaped; follow = subst (λ (x : ℕ). Follow n x (elements_of (page_of m number))) (sym h.least_is) parts.1 });
}

-- a chain that was read to its end
pub read_ends : (m : Memory) (n first : ℕ) (chunks : List ℕ) (least : ℕ) (zeros bytes : List ℕ) (len : ℕ) → n ≡ length m.pages → zeros ≡ replicate len 0 → length zeros ≡ 512 * bitmap_count n → 0 < length chunks
    → IsRead m n first chunks 0 least zeros bytes → HasMarks m first chunks (runs_of n bytes)
read_ends m n first chunks least zeros bytes len all blank size some h = record {
  chain = record { some = some; leads = h.leads; rules = h.rules };
  marks = λ r. (read_marked n zeros bytes (all_elements m chunks) len blank size h.follow h.sized h.bytes_are r, marked_read n zeros bytes (all_elements m chunks) len blank size h.follow h.sized h.bytes_are r);
}

pub read_whole : (m : Memory) (n first : ℕ) (chunks : List ℕ) (number least : ℕ) (zeros bytes : List ℕ) (len : ℕ) → zeros ≡ replicate len 0 → length zeros ≡ 512 * bitmap_count n
    → IsRead m n first chunks number least zeros bytes → AreBitmaps n bytes
read_whole m n first chunks number least zeros bytes len blank size h = read_bitmaps n zeros bytes (all_elements m chunks) len blank size h.follow h.sized h.bytes_are

-- a step of the loop, with the bytes that were borrowed
pub read_step : (m : Memory) (n first : ℕ) (chunks : List ℕ) (number least : ℕ) (zeros bytes : List ℕ) (after : ℕ) (next_bytes page : List ℕ) → n ≡ length m.pages → IsRead m n first chunks number least zeros bytes
    → number ≢ 0 → number < n → page_of m number ≡ page → length page ≡ 4096 → GoesOn n least page → after ≡ least_after n least (elements_of page) → next_bytes ≡ puts n bytes (elements_of page)
    → IsRead m n first (chunks ++ number ∷ []) (next_of page) after zeros next_bytes
read_step m n first chunks number least zeros bytes after next_bytes page all h ne high e size g ae be =
    subst (λ (l : List ℕ). IsRead m n first (chunks ++ number ∷ []) (next_of l) after zeros next_bytes) e
    (read_more m n first chunks number least zeros bytes after next_bytes all h (positive number ne) high (subst (GoesOn n least) (sym e) g) (ap length e ∙ size)
    (ae ∙ ap (λ (l : List ℕ). least_after n least (elements_of l)) (sym e)) (be ∙ ap (λ (l : List ℕ). puts n bytes (elements_of l)) (sym e)))
  where
    positive : (k : ℕ) → (k ≡ 0 → ⊥) → 1 ≤ k
    positive zero ne = absurd (ne refl)
    positive (suc k) ne = omega arith

-- the numbers rise, and stay within the bitmaps
pub read_rises : (n least after : ℕ) (page : List ℕ) → GoesOn n least page → after ≡ least_after n least (elements_of page) → least < after
read_rises n least after page g e =
    let below : number_of n (element_at page 0) < least_after n least (elements_of page) =
    All-contains (λ (x : Element). number_of n x < least_after n least (elements_of page)) (elements_of page) (element_at page 0) (follow_below n least (elements_of page) g.follow) (first_there page g.shaped.some) in
    let above : least ≤ number_of n (element_at page 0) = (goes_at n least page 0 g g.shaped.some).later in
    joined (number_of n (element_at page 0)) least (least_after n least (elements_of page)) after below above e
  where
    joined : (a b d x : ℕ) → a < d → b ≤ a → x ≡ d → b < x
    joined a b d x lt le e = omega arith

pub read_within : (m : Memory) (n first : ℕ) (chunks : List ℕ) (number least : ℕ) (zeros bytes : List ℕ) (after : ℕ) (page : List ℕ) → IsRead m n first chunks number least zeros bytes → GoesOn n least page → after ≡ least_after n least (elements_of page) → after ≤ bitmap_count n
read_within m n first chunks number least zeros bytes after page h g e =
    let started : least ≤ bitmap_count n = subst (λ (x : ℕ). x ≤ bitmap_count n) (sym h.least_is) (after_count n 0 (all_elements m chunks) h.follow (omega arith)) in
    subst (λ (x : ℕ). x ≤ bitmap_count n) (sym e) (after_count n least (elements_of page) g.follow started)
