-- What is read of a source block by block, and what all bytes that were left are then.
use Rattle.std.proofs.Common.{◌≡◌, ℕ, ◌+◌, ◌-◌, ◌*◌, ◌<◌, ◌≤◌, true, List, [], ◌∷◌, ◌++◌, length, map, take, drop, get_or, set, replicate, Option, Some, None, refl, sym, ap, subst, ◌∙◌, arith}
use borrow.Rule.Slice.PartMut.{put_mid}
use Rattle.std.specs.Prelude.{◌==◌}
use Rattle.std.specs.List.{All, AllWithin, flat_map, list_all}
use Rattle.std.specs.Option.{IsSome}
use Rattle.std.proofs.lemmas.Bool.{and_parts, eqb-true}
use Rattle.std.proofs.Math.Seq.{take-append-add}
use Rattle.std.proofs.lemmas.Grind.{flat_map-append}
use Rattle.std.proofs.lemmas.List.{length-append, length-take-le, length-replicate, length-take, length-drop, take-append-le, take_at, take_all, set-get_or, get_or-replicate}
use Rattle.std.proofs.lemmas.Slice.{take-put_mid_below}
use Rattle.std.proofs.lemmas.List.Elements.{All-append, All-take, All-drop, All-replicate, All-head, All-tail, All-nil, All-cons}
use Rattle.ho_base.specs.declared.limits.TheConstants.{PAGE_BYTES}
use Rattle.ho_io.specs.Told.{Tells, in_front}
use Rattle.ho_io.proofs.Bytes.{in_front_none, in_front_more, in_front_all}
use Rattle.phys_frames.specs.Memory.{zero_page}
use Rattle.phys_frames.specs.Pages.{chunks, with_run}
use Rattle.phys_frames.proofs.Homes.{length_run}
use Rattle.image_file.specs.Image.{Pages, page_bytes, IsPage}
use Rattle.image_file.specs.Loaded.{IsLess, IsMore, IsCut, IsOver, IsMiscount, zero_byte}
use Rattle.image_file.specs.declared.loader.LoadError.{LoadError}
use Rattle.image_file.specs.declared.loader.LoadError.TheVariants.{Fault, Image as NoImage}
use Rattle.image_file.specs.declared.reader.ImageError.TheVariants.{BadHeader, Short, Extra, Memory}
use Rattle.image_file.proofs.Pages.{joined, joined_length, cut_count, cut_wide, kept_page}

-- bytes that are all 0 are zeros
pub all_zero : (bytes : List ℕ) → list_all zero_byte bytes ≡ true → bytes ≡ replicate (length bytes) 0
all_zero [] h = refl
all_zero (b ∷ bytes) h =
    let parts = and_parts (b == 0) (list_all zero_byte bytes) h in
    (λ i. eqb-true b 0 parts.0 i ∷ all_zero bytes parts.1 i)

zeros_of : (size : ℕ) → size ≡ PAGE_BYTES → replicate size 0 ≡ zero_page
unfolding zero_page
zeros_of size e = ap (λ (n : ℕ). replicate n 0) e

-- a page whose bytes are all 0 is a page of zeros
pub is_zero_page : (bytes : List ℕ) → length bytes ≡ PAGE_BYTES → list_all zero_byte bytes ≡ true → bytes ≡ zero_page
is_zero_page bytes size h = all_zero bytes h ∙ zeros_of (length bytes) size

zero_page_size : length zero_page ≡ PAGE_BYTES
unfolding zero_page
zero_page_size = let zero : ℕ = 0 in length-replicate PAGE_BYTES zero

-- a frame that has a page already is as with this page in its place
pub kept_as : (pages : Pages) (i : ℕ) (page bytes : List ℕ) → get_or pages i None ≡ Some page → bytes ≡ page → pages ≡ set pages i (Some bytes)
kept_as pages i page bytes there same = sym (set-get_or pages i None) ∙ ap (λ (o : Option (List ℕ)). set pages i o) (there ∙ ap Some (sym same))

-- pages are home
pub home_of : (size : ℕ) (pages : Pages) → All (IsPage size) pages → All IsSome pages
home_of size [] all = All-nil IsSome
home_of size (None ∷ pages) all = absurd (All-head (IsPage size) None pages all)
home_of size (Some page ∷ pages) all = All-cons IsSome (Some page) pages refl (home_of size pages (All-tail (IsPage size) (Some page) pages all))

-- so many of the frames were read, and the others are of zeros
pub record IsLoadedTo (count i : ℕ) (first now : Option (List ℕ)) (pages : Pages) : Type 0 where
  pub taken : first ≡ in_front (flat_map page_bytes (take i pages)) now
  pub size : length pages ≡ count
  pub wide : All (IsPage PAGE_BYTES) pages
  pub blank : AllWithin (λ page. page ≡ Some zero_page) pages i count

-- no frame was read yet
pub loaded_none : (count : ℕ) (first : Option (List ℕ)) (pages : Pages) → pages ≡ replicate count (Some zero_page) → IsLoadedTo count 0 first first pages
loaded_none count first pages e = record {
  taken = in_front_none first;
  size = ap length e ∙ length-replicate count (Some zero_page);
  wide = subst (λ (l : Pages). All (IsPage PAGE_BYTES) l) (sym e) (All-replicate (IsPage PAGE_BYTES) count (Some zero_page) zero_page_size);
  blank = λ k d low high. ap (λ (l : Pages). get_or l k d) e ∙ get_or-replicate count k (Some zero_page) d high;
}

-- a block of frames more was read
module _ (count i n : ℕ) (old pages : Pages) (block : List ℕ) (size : length old ≡ count) (within : i + n ≤ count) (wide : length block ≡ n * PAGE_BYTES) (e : pages ≡ with_run old i n (map Some (chunks PAGE_BYTES n block))) where
  front_more : flat_map page_bytes (take (i + n) pages) ≡ flat_map page_bytes (take i old) ++ block
  front_more =
      let new = map Some (chunks PAGE_BYTES n block) in
      let rest = drop (i + n) old in
      let front : length (take i old) ≡ i = length-take-le i old (omega (arith, size, within)) in
      ap (λ (l : Pages). flat_map page_bytes (take (i + n) l)) e
      ∙ ap (λ (k : ℕ). flat_map page_bytes (take (k + n) (take i old ++ (new ++ rest)))) (sym front)
      ∙ ap (flat_map page_bytes) (take-append-add (take i old) (new ++ rest) n ∙ ap (λ (l : Pages). take i old ++ l) (take_at new rest n (cut_count PAGE_BYTES n block)))
      ∙ flat_map-append page_bytes (take i old) new
      ∙ ap (λ (l : List ℕ). flat_map page_bytes (take i old) ++ l) (joined PAGE_BYTES n block wide)

  wide_more : All (IsPage PAGE_BYTES) old → All (IsPage PAGE_BYTES) pages
  wide_more all =
      let new = map Some (chunks PAGE_BYTES n block) in
      let back : All (IsPage PAGE_BYTES) (new ++ drop (i + n) old) =
      All-append (IsPage PAGE_BYTES) new (drop (i + n) old) (cut_wide PAGE_BYTES n block wide) (All-drop (IsPage PAGE_BYTES) (i + n) old all) in
      subst (λ (l : Pages). All (IsPage PAGE_BYTES) l) (sym e) (All-append (IsPage PAGE_BYTES) (take i old) (new ++ drop (i + n) old) (All-take (IsPage PAGE_BYTES) i old all) back)

pub loaded_more : (count i n : ℕ) (first before now : Option (List ℕ)) (old pages : Pages) (block : List ℕ) → IsLoadedTo count i first before old → i + n ≤ count
    → length block ≡ n * PAGE_BYTES → before ≡ in_front block now → pages ≡ with_run old i n (map Some (chunks PAGE_BYTES n block)) → IsLoadedTo count (i + n) first now pages
loaded_more count i n first before now old pages block h within wide took e =
    let room : i + n ≤ length old = omega (arith, h.size, within) in
    record {
      taken = in_front_more first before now (flat_map page_bytes (take i old)) block h.taken took ∙ ap (λ (l : List ℕ). in_front l now) (sym (front_more count i n old pages block h.size within wide e));
      size = ap length e ∙ length_run old i n (map Some (chunks PAGE_BYTES n block)) (cut_count PAGE_BYTES n block) room 0 None ∙ h.size;
      wide = wide_more count i n old pages block h.size within wide e h.wide;
      blank = λ k d low high. kept_page PAGE_BYTES i n k block old pages d room low e ∙ h.blank k d (omega (arith, low)) high;
    }

-- all frames were read, and nothing is left
pub loaded_all : (count i : ℕ) (first now : Option (List ℕ)) (pages : Pages) → IsLoadedTo count i first now pages → count ≤ i → Tells now [] → Tells first (flat_map page_bytes pages)
loaded_all count i first now pages h past end =
    in_front_all first now (flat_map page_bytes pages) (h.taken ∙ ap (λ (l : Pages). in_front (flat_map page_bytes l) now) (take_all i pages (omega (arith, h.size)))) end

-- how many bytes were taken so far
taken_size : (i : ℕ) (pages : Pages) → All (IsPage PAGE_BYTES) pages → i ≤ length pages → length (flat_map page_bytes (take i pages)) ≡ i * PAGE_BYTES
taken_size i pages all le =
    joined_length PAGE_BYTES (take i pages) (All-take (IsPage PAGE_BYTES) i pages all) ∙ ap (λ (n : ℕ). n * PAGE_BYTES) (length-take-le i pages le)

some_same : (x y : List ℕ) → Some x ≡ Some y → x ≡ y
some_same x y e = cc

-- a bound on what is left now is one on what was left first
less_first : (first now : Option (List ℕ)) (front : List ℕ) (part size : ℕ) → first ≡ in_front front now → length front + part ≤ size → IsLess now part → IsLess first size
unfolding in_front
less_first None now front part size e le h = tt
less_first (Some f) None front part size e le h = absurd cc
less_first (Some f) (Some b) front part size e le h = omega (arith, ap length (some_same f (front ++ b) e), length-append front b, h)

more_first : (first now : Option (List ℕ)) (front : List ℕ) (part size : ℕ) → first ≡ in_front front now → size ≤ length front + part → IsMore now part → IsMore first size
unfolding in_front
more_first None now front part size e le h = tt
more_first (Some f) None front part size e le h = absurd cc
more_first (Some f) (Some b) front part size e le h = omega (arith, ap length (some_same f (front ++ b) e), length-append front b, h)

-- a block that isn't all there, of the bytes that were left first
pub cut_first : (count i n : ℕ) (first now : Option (List ℕ)) (pages : Pages) (e : LoadError) → IsLoadedTo count i first now pages → i + n ≤ count → IsCut now (n * PAGE_BYTES) e → IsMiscount first (count * PAGE_BYTES) e
cut_first count i n first now pages Fault h within c = tt
cut_first count i n first now pages (NoImage Short) h within c =
    less_first first now (flat_map page_bytes (take i pages)) (n * PAGE_BYTES) (count * PAGE_BYTES) h.taken (omega (arith, h.size, within, taken_size i pages h.wide (omega (arith, h.size, within)))) c
cut_first count i n first now pages (NoImage BadHeader) h within c = absurd c
cut_first count i n first now pages (NoImage Extra) h within c = absurd c
cut_first count i n first now pages (NoImage Memory) h within c = absurd c

-- something behind all pages, of the bytes that were left first
pub over_first : (count i : ℕ) (first now : Option (List ℕ)) (pages : Pages) (e : LoadError) → IsLoadedTo count i first now pages → i ≡ count → IsOver now e → IsMiscount first (count * PAGE_BYTES) e
over_first count i first now pages Fault h same c = tt
over_first count i first now pages (NoImage Extra) h same c =
    more_first first now (flat_map page_bytes (take i pages)) 0 (count * PAGE_BYTES) h.taken (omega (arith, h.size, same, taken_size i pages h.wide (omega (arith, h.size)))) c
over_first count i first now pages (NoImage BadHeader) h same c = absurd c
over_first count i first now pages (NoImage Short) h same c = absurd c
over_first count i first now pages (NoImage Memory) h same c = absurd c

-- bytes were put into the rest of a buffer from a place on: as many as fit there
module _ (a : ℕ) (xs ys : List ℕ) (within : a ≤ length xs) (fits : length ys ≡ length (take (length xs - a) (drop a xs))) where
  pub rest_size : a + length ys ≡ length xs
  rest_size = omega (arith, fits, length-take (length xs - a) (drop a xs), length-drop a xs)

  pub put_size : length (put_mid a (length xs - a) xs ys) ≡ length xs
  put_size =
      let rest = drop (length xs - a) (drop a xs) in
      let none : length rest ≡ 0 = omega (arith, length-drop (length xs - a) (drop a xs), length-drop a xs) in
      length-append (take a xs) (ys ++ rest) ∙ ap (λ (n : ℕ). n + length (ys ++ rest)) (length-take-le a xs within) ∙ ap (λ (n : ℕ). a + n) (length-append ys rest ∙ ap (λ (n : ℕ). length ys + n) none) ∙ omega (arith, rest_size)

  -- those before the place stay
  pub put_front : (first now : Option (List ℕ)) → first ≡ in_front (take a xs) now → first ≡ in_front (take a (put_mid a (length xs - a) xs ys)) now
  put_front first now e = e ∙ ap (λ (l : List ℕ). in_front l now) (sym (take-put_mid_below a (length xs - a) xs ys a (omega arith) within))

  -- and the new ones follow
  pub put_more : (n : ℕ) (first before now : Option (List ℕ)) → n ≤ length ys → first ≡ in_front (take a xs) before → before ≡ in_front (take n ys) now → first ≡ in_front (take (a + n) (put_mid a (length xs - a) xs ys)) now
  put_more n first before now le e took =
      let rest = drop (length xs - a) (drop a xs) in
      let both : take (a + n) (put_mid a (length xs - a) xs ys) ≡ take a xs ++ take n ys =
      ap (λ (m : ℕ). take (m + n) (take a xs ++ (ys ++ rest))) (sym (length-take-le a xs within)) ∙ take-append-add (take a xs) (ys ++ rest) n ∙ ap (λ (l : List ℕ). take a xs ++ l) (take-append-le n ys rest le) in
      in_front_more first before now (take a xs) (take n ys) e took ∙ ap (λ (l : List ℕ). in_front l now) (sym both)

-- fewer bytes were read than asked for, and nothing is left: so fewer were left
pub less_left : (left now : Option (List ℕ)) (buf : List ℕ) (n size : ℕ) → n < size → left ≡ in_front (take n buf) now → Tells now [] → IsLess left size
unfolding in_front
less_left None now buf n size lt e end = tt
less_left (Some l) None buf n size lt e end = absurd cc
less_left (Some l) (Some m) buf n size lt e end =
    omega (arith, ap length (some_same l (take n buf ++ m) e), length-append (take n buf) m, ap length end, length-take n buf)

-- some bytes were read: so some were left
pub more_left : (left now : Option (List ℕ)) (buf : List ℕ) (n : ℕ) → 0 < n → n ≤ length buf → left ≡ in_front (take n buf) now → IsMore left 0
unfolding in_front
more_left None now buf n some le e = tt
more_left (Some l) None buf n some le e = absurd cc
more_left (Some l) (Some m) buf n some le e =
    omega (arith, ap length (some_same l (take n buf ++ m) e), length-append (take n buf) m, length-take n buf)
