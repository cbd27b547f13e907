-- Bytes cut into pages, and pages joined to bytes.
use Rattle.std.proofs.Common.{◌≡◌, ℕ, zero, suc, ◌+◌, ◌*◌, ◌-◌, ◌<◌, ◌≤◌, List, [], ◌∷◌, ◌++◌, length, map, take, drop, get_or, set, Option, Some, None, refl, sym, ap, ◌∙◌, arith, append_assoc}
use native.Mathlib.Nat.{zero-mul, suc-mul}
use Rattle.std.proofs.lemmas.List.{append-nil, length-drop, length-append, length-map, take-append-drop, take_at, drop_at, drop-drop, drop_all, set_at, drop_more, take_more, take_all, set-append_right, length-take-le, map-append}
use Rattle.std.proofs.lemmas.Grind.{flat_map-append}
use Rattle.std.proofs.lemmas.Slice.{take-put_mid}
use borrow.Rule.Slice.PartMut.{put_mid}
use Rattle.std.specs.List.{All, flat_map}
use Rattle.std.specs.Option.{IsSome}
use Rattle.std.proofs.lemmas.List.Elements.{All-nil, All-cons, All-head, All-tail}
use Rattle.phys_frames.specs.Pages.{chunks, with_run}
use Rattle.phys_frames.proofs.Homes.{run_after}
use Rattle.image_file.specs.Image.{Pages, page_bytes, IsPage}

module _ (size : ℕ) where
  pub length_chunks : (n : ℕ) (bytes : List ℕ) → length (chunks size n bytes) ≡ n
  length_chunks zero bytes = refl
  length_chunks (suc n) bytes = ap suc (length_chunks n (drop size bytes))

  -- pages cut from bytes are those bytes again
  pub joined : (n : ℕ) (bytes : List ℕ) → length bytes ≡ n * size → flat_map page_bytes (map Some (chunks size n bytes)) ≡ bytes
  joined zero [] e = refl
  joined zero (b ∷ bytes) e = absurd (omega (arith, zero-mul size))
  joined (suc n) bytes e =
      let rest : length (drop size bytes) ≡ n * size = omega (arith, suc-mul n size, length-drop size bytes) in
      ap (λ (l : List ℕ). take size bytes ++ l) (joined n (drop size bytes) rest) ∙ take-append-drop size bytes

  -- pages that are joined are cut into those pages again
  pub cut : (pages : Pages) → All (IsPage size) pages → map Some (chunks size (length pages) (flat_map page_bytes pages)) ≡ pages
  cut [] all = refl
  cut (None ∷ pages) all = absurd (All-head (IsPage size) None pages all)
  cut (Some page ∷ pages) all =
      let wide : length page ≡ size = All-head (IsPage size) (Some page) pages all in
      let rest = flat_map page_bytes pages in
      let first : take size (page ++ rest) ≡ page = take_at page rest size wide in
      let back : drop size (page ++ rest) ≡ rest = drop_at page rest size wide in
      ap (λ (l : List ℕ). Some l ∷ map Some (chunks size (length pages) (drop size (page ++ rest)))) first
      ∙ ap (λ (l : List ℕ). Some page ∷ map Some (chunks size (length pages) l)) back
      ∙ ap (λ (l : Pages). Some page ∷ l) (cut pages (All-tail (IsPage size) (Some page) pages all))

  pub joined_length : (pages : Pages) → All (IsPage size) pages → length (flat_map page_bytes pages) ≡ length pages * size
  joined_length [] all = sym (zero-mul size)
  joined_length (None ∷ pages) all = absurd (All-head (IsPage size) None pages all)
  joined_length (Some page ∷ pages) all =
      let wide : length page ≡ size = All-head (IsPage size) (Some page) pages all in
      omega (arith, wide, length-append page (flat_map page_bytes pages), joined_length pages (All-tail (IsPage size) (Some page) pages all), suc-mul (length pages) size)

  -- one more page
  pub chunks_more : (n : ℕ) (bytes : List ℕ) → chunks size (n + 1) bytes ≡ chunks size n bytes ++ take size (drop (n * size) bytes) ∷ []
  chunks_more zero bytes = ap (λ (k : ℕ). take size (drop k bytes) ∷ []) (sym (zero-mul size))
  chunks_more (suc n) bytes =
      let more : suc n + 1 ≡ suc (n + 1) = omega arith in
      let at : size + n * size ≡ suc n * size = omega (arith, suc-mul n size) in
      ap (λ (k : ℕ). chunks size k bytes) more
      ∙ ap (λ (l : List (List ℕ)). take size bytes ∷ l) (chunks_more n (drop size bytes))
      ∙ ap (λ (l : List ℕ). take size bytes ∷ (chunks size n (drop size bytes) ++ take size l ∷ [])) (drop-drop (n * size) size bytes ∙ ap (λ (k : ℕ). drop k bytes) at)

-- one more frame among the bytes that are joined
pub joined_more : (pages : Pages) (i : ℕ) (page : List ℕ) → i < length pages → get_or pages i None ≡ Some page
    → flat_map page_bytes (take (i + 1) pages) ≡ flat_map page_bytes (take i pages) ++ page
joined_more pages i page lt e =
    ap (flat_map page_bytes) (take_more pages i None lt)
    ∙ flat_map-append page_bytes (take i pages) (get_or pages i None ∷ [])
    ∙ ap (λ (o : Option (List ℕ)). flat_map page_bytes (take i pages) ++ (page_bytes o ++ [])) e
    ∙ ap (λ (l : List ℕ). flat_map page_bytes (take i pages) ++ l) (append-nil page)

-- one more frame was put behind those before it
pub gathered_more : (size i width : ℕ) (pages : Pages) (page block next : List ℕ) → i < length pages → get_or pages i None ≡ Some page → length page ≡ size → i * size ≤ length block
    → take (i * size) block ≡ flat_map page_bytes (take i pages) → next ≡ put_mid (i * size) width block page → take ((i + 1) * size) next ≡ flat_map page_bytes (take (i + 1) pages)
gathered_more size i width pages page block next lt e wide le h is =
    let more : i + 1 ≡ suc i = omega arith in
    let end : (i + 1) * size ≡ i * size + length page = ap (λ (k : ℕ). k * size) more ∙ omega (arith, suc-mul i size, wide) in
    ap (take ((i + 1) * size)) is ∙ take-put_mid (i * size) width block page ((i + 1) * size) end le ∙ ap (λ (l : List ℕ). l ++ page) h ∙ sym (joined_more pages i page lt e)

-- all frames were put
pub gathered_all : (size n : ℕ) (pages : Pages) (block : List ℕ) → length block ≡ n * size → take (n * size) block ≡ flat_map page_bytes (take n pages) → block ≡ flat_map page_bytes (take n pages)
gathered_all size n pages block wide h = sym (take_all (n * size) block (omega (arith, wide))) ∙ h

-- as many frames as pages were cut
pub cut_count : (size n : ℕ) (bytes : List ℕ) → length (map Some (chunks size n bytes)) ≡ n
cut_count size n bytes = length-map (chunks size n bytes) Some ∙ length_chunks size n bytes

-- all of them have a page
pub cut_wide : (size n : ℕ) (bytes : List ℕ) → length bytes ≡ n * size → All (IsPage size) (map Some (chunks size n bytes))
cut_wide size zero bytes e = All-nil (IsPage size)
cut_wide size (suc n) bytes e =
    let all : length bytes ≡ size + n * size = omega (arith, e, suc-mul n size) in
    All-cons (IsPage size) (Some (take size bytes)) (map Some (chunks size n (drop size bytes))) (length-take-le size bytes (omega (arith, all)))
    (cut_wide size n (drop size bytes) (omega (arith, all, length-drop size bytes)))

-- a frame that was not filled yet is as it was
pub kept_page : (size first i k : ℕ) (bytes : List ℕ) (old now : Pages) (d : Option (List ℕ)) → first + i ≤ length old → first + i ≤ k → now ≡ with_run old first i (map Some (chunks size i bytes)) → get_or now k d ≡ get_or old k d
kept_page size first i k bytes old now d within past e =
    ap (λ (l : Pages). get_or l k d) e ∙ run_after old first i (map Some (chunks size i bytes)) (cut_count size i bytes) within k d past

-- no frame was filled yet
pub filled_none : (size first : ℕ) (bytes : List ℕ) (old : Pages) → old ≡ with_run old first 0 (map Some (chunks size 0 bytes))
filled_none size first bytes old =
    let same : first + 0 ≡ first = omega arith in
    sym (ap (λ (k : ℕ). take first old ++ drop k old) same ∙ take-append-drop first old)

-- one more frame was filled
pub filled_more : (size first i : ℕ) (bytes page : List ℕ) (old now next : Pages) → first + i < length old → now ≡ with_run old first i (map Some (chunks size i bytes))
    → page ≡ take size (drop (i * size) bytes) → next ≡ set now (first + i) (Some page) → next ≡ with_run old first (i + 1) (map Some (chunks size (i + 1) bytes))
filled_more size first i bytes page old now next lt e f h =
    let front = take first old in
    let pages = map Some (chunks size i bytes) in
    let there = get_or old (first + i) None in
    let rest = drop (first + i + 1) old in
    let more : map Some (chunks size (i + 1) bytes) ≡ pages ++ Some page ∷ [] =
    ap (map Some) (chunks_more size i bytes ∙ ap (λ (l : List ℕ). chunks size i bytes ++ l ∷ []) (sym f)) ∙ map-append Some (chunks size i bytes) (page ∷ []) in
    let last : first + i + 1 ≡ first + (i + 1) = omega arith in
    let at : first + i - first ≡ i = omega arith in
    h ∙ ap (λ (l : Pages). set l (first + i) (Some page)) (e ∙ ap (λ (l : Pages). front ++ (pages ++ l)) (drop_more old (first + i) None lt))
    ∙ set-append_right front (pages ++ there ∷ rest) first (first + i) (Some page) (length-take-le first old (omega (arith, lt))) (omega arith)
    ∙ ap (λ (k : ℕ). front ++ set (pages ++ there ∷ rest) k (Some page)) at
    ∙ ap (λ (l : Pages). front ++ l) (set_at pages there rest (Some page) i (cut_count size i bytes) ∙ sym (append_assoc pages (Some page ∷ []) rest) ∙ ap (λ (l : Pages). l ++ rest) (sym more))
    ∙ ap (λ (k : ℕ). front ++ (map Some (chunks size (i + 1) bytes) ++ drop k old)) last

-- all frames were filled
pub filled_all : (size n : ℕ) (bytes : List ℕ) (old now : Pages) → length old ≡ n → now ≡ with_run old 0 n (map Some (chunks size n bytes)) → now ≡ map Some (chunks size n bytes)
filled_all size n bytes old now e h =
    h ∙ ap (λ (l : Pages). map Some (chunks size n bytes) ++ l) (drop_all (0 + n) old (omega (arith, e))) ∙ append-nil (map Some (chunks size n bytes))

-- a list of pages of bytes has no frame that is out
pub all_home : (pages : List (List ℕ)) → All IsSome (map Some pages)
all_home [] = All-nil IsSome
all_home (page ∷ pages) = All-cons IsSome (Some page) (map Some pages) refl (all_home pages)

-- the frames that were filled are those of the bytes behind the header
pub frames_read : (size count n : ℕ) (bytes part : List ℕ) (old now : Pages) → n ≡ count → length old ≡ n → part ≡ drop 32 bytes → now ≡ with_run old 0 n (map Some (chunks size n part))
    → now ≡ map Some (chunks size count (drop 32 bytes))
frames_read size count n bytes part old now e all f g = filled_all size n part old now all g ∙ (λ i. map Some (chunks size (e i) (f i)))
