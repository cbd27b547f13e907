-- Files that are held one after the other.
use Rattle.std.proofs.Common.{◌≡◌, ℕ, suc, ◌+◌, ◌*◌, ◌^◌, ◌<◌, List, [], ◌∷◌, ◌++◌, map, length, take, drop, refl, sym, ap, ◌∙◌, subst, arith, append_assoc, length-append, inl, inr, get_or}
use Rattle.std.specs.Prelude.{min, reverse, Option, Some, true, false, slice_index_or}
use Rattle.std.specs.List.{flat_map, All}
use Rattle.std.specs.FinMap as finmap
use Rattle.std.proofs.lemmas.Bool.{cases_lt}
use Rattle.std.proofs.lemmas.List.{map-append, append-nil, take_all, take_at, drop_at, take-append-drop, drop_all, length-take, reverse-append, reverse-reverse}
use Rattle.ho_base.specs.Objects.{file_no}
use Rattle.ho_base.specs.declared.limits.TheConstants.{PAGE_BYTES}
use Rattle.ho_base.specs.declared.numbers.Kind.TheVariants.{Memfd}
use Rattle.ho_base.specs.declared.numbers.Order.{Order}
use Rattle.ho_events.specs.File.{FileState, filled}
use Rattle.ho_events.specs.Lists.{firsts, upto}
use Rattle.file_folios.specs.HeldFiles.{held_file}
use Rattle.machine_core.specs.Kernels.{AreHeld}
use Rattle.memfd_file.specs.FileValues.{FileValue}
use Rattle.phys_frames.specs.Homes.{HomeId}
use Rattle.phys_frames.specs.Memory.{AreOf, FolioValue, first_frames}
use Rattle.kexec_boot.specs.Files.{FitAll, FitsFolios, bytes_with, state_with, states_with}
use Rattle.kexec_boot.specs.declared.files.PlainFile.{PlainFile}
use Rattle.kho_records.proofs.Adding.{drop_at as first_left}

abbrev pub begun : List FileValue → List (Option FileState)
begun xs = map (λ f. f.start) xs

-- ---- one more file

held_more : (home : HomeId) (n : ℕ) (xs : List FileValue) (f : FileValue) → AreHeld home n xs → f.number ≡ file_no (n + length xs) → f.home ≡ home → f.history ≡ [] → AreHeld home n (xs ++ f ∷ [])
held_more home n [] f h number at none = (number ∙ ap file_no (let e : n + 0 ≡ n = omega arith in e), at, none, tt)
held_more home n (x ∷ xs) f h number at none =
    (h.0, h.1, h.2, held_more home (n + 1) xs f h.3 (number ∙ ap file_no (let e : n + suc (length xs) ≡ n + 1 + length xs = omega arith in e)) at none)

pub held_push : (home : HomeId) (old new : List FileValue) (f : FileValue) → AreHeld home 0 old → f.number ≡ file_no (length old) → f.home ≡ home → f.history ≡ [] → new ≡ old ++ f ∷ [] → AreHeld home 0 new
held_push home old new f h number at none push =
    subst (AreHeld home 0) (sym push) (held_more home 0 old f h (number ∙ ap file_no (let e : length old ≡ 0 + length old = omega arith in e)) at none)

pub begun_push : (old new : List FileValue) (f : FileValue) (s : Option FileState) → new ≡ old ++ f ∷ [] → f.start ≡ s → begun new ≡ begun old ++ s ∷ []
begun_push old new f s push start = ap begun push ∙ map-append (λ (x : FileValue). x.start) old (f ∷ []) ∙ ap (λ x. begun old ++ x ∷ []) start

-- ---- homes

module _ (home : HomeId) where
  pub of_both : (xs ys : List FolioValue) → AreOf home xs → AreOf home ys → AreOf home (xs ++ ys)
  of_both [] ys hx hy = hy
  of_both (x ∷ xs) ys hx hy = (hx.0, of_both xs ys hx.1 hy)

  of_rest : (xs ys : List FolioValue) → AreOf home (xs ++ ys) → AreOf home ys
  of_rest [] ys h = h
  of_rest (x ∷ xs) ys h = of_rest xs ys h.1

  of_round : (xs : List FolioValue) → AreOf home xs → AreOf home (reverse xs)
  of_round [] h = subst (AreOf home) (sym none) tt
    where
      none : reverse {A = FolioValue} [] ≡ []
      none = refl
  of_round (x ∷ xs) h = subst (AreOf home) (sym (reverse-append (x ∷ []) xs)) (of_both (reverse xs) (x ∷ []) (of_round xs h.1) (h.0, tt))

  pub of_left : (n : ℕ) (old new : List FolioValue) → AreOf home old → reverse new ≡ drop n (reverse old) → AreOf home new
  of_left n old new h e =
      subst (AreOf home) (reverse-reverse new)
      (of_round (reverse new) (subst (AreOf home) (sym e) (of_rest (take n (reverse old)) (drop n (reverse old)) (subst (AreOf home) (sym (take-append-drop n (reverse old))) (of_round old h)))))

  pub of_all : (ps : List PlainFile) (folios : List FolioValue) → FitAll home ps folios → AreOf home folios
  unfolding FitAll
  of_all [] folios h = subst (AreOf home) (sym h) tt
  of_all (p ∷ ps) folios h = subst (AreOf home) (take-append-drop p.count folios) (of_both (take p.count folios) (drop p.count folios) h.0.of_home (of_all ps (drop p.count folios) h.1))

  pub of_turned : (old new : List FolioValue) → AreOf home old → new ≡ reverse old → AreOf home new
  of_turned old new h e = subst (AreOf home) (sym e) (of_round old h)

-- ---- folios that are moved

-- what was moved so far, and what is left turned round, are all
pub record Moving (old list rest : List FolioValue) : Type 0 where
  pub same : list ++ reverse rest ≡ reverse old
  pub long : All (λ (f : FolioValue). length f.bytes ≡ PAGE_BYTES * 2 ^ f.order.0) list

pub moving_begins : (old list rest : List FolioValue) → list ≡ [] → rest ≡ old → Moving old list rest
moving_begins old list rest none same = record { same = ap (λ l. l ++ reverse rest) none ∙ ap reverse same; long = subst (All (λ (f : FolioValue). length f.bytes ≡ PAGE_BYTES * 2 ^ f.order.0)) (sym none) (λ k d lt. absurd (omega (arith, lt))) }

pub moved_front : (old list rest : List FolioValue) (n : ℕ) → Moving old list rest → length list ≡ n → list ≡ take n (reverse old)
moved_front old list rest n h e = sym (take_at list (reverse rest) n e) ∙ ap (take n) h.same

pub moved_rest : (old list rest : List FolioValue) (n : ℕ) → Moving old list rest → length list ≡ n → reverse rest ≡ drop n (reverse old)
moved_rest old list rest n h e = sym (drop_at list (reverse rest) n e) ∙ ap (drop n) h.same

-- the last folio of a list is the first one of the list turned round
pub moved_one : (old new list next : List FolioValue) (f : FolioValue) → old ≡ new ++ f ∷ [] → next ≡ list ++ f ∷ [] → next ++ reverse new ≡ list ++ reverse old
moved_one old new list next f out push =
    ap (λ l. l ++ reverse new) push ∙ append_assoc list (f ∷ []) (reverse new) ∙ ap (λ l. list ++ l) (sym (reverse-append new (f ∷ []))) ∙ ap (λ l. list ++ reverse l) (sym out)

-- folios that were moved, moved back: the list has all of them
pub moved_back : (home : HomeId) (n : ℕ) (old rest list new : List FolioValue) → AreOf home old → reverse rest ≡ drop n (reverse old) → AreOf home list → new ≡ rest ++ list → AreOf home new
moved_back home n old rest list new h left of_list e = subst (AreOf home) (sym e) (of_both home rest list (of_left home n old rest h left) of_list)

-- ---- sizes

-- so many folios of this many bytes
bytes_count : (piece : ℕ) (folios : List FolioValue) → ((k : ℕ) (d : FolioValue) → k < length folios → length (slice_index_or folios k d).bytes ≡ piece) → length (flat_map (λ (f : FolioValue). f.bytes) folios) ≡ length folios * piece
bytes_count piece [] long = let e : 0 ≡ 0 * piece = omega arith in e
bytes_count piece (f ∷ folios) long =
    let first : length f.bytes ≡ piece = long 0 f (omega arith) in
    let rest : length (flat_map (λ (f : FolioValue). f.bytes) folios) ≡ length folios * piece = bytes_count piece folios (λ k d lt. long (suc k) d (omega (arith, lt))) in
    length-append f.bytes (flat_map (λ (f : FolioValue). f.bytes) folios) ∙ omega (arith, first, rest)

module _ (home : HomeId) (p : PlainFile) (folios : List FolioValue) (fits : FitsFolios home p folios) (long : All (λ (f : FolioValue). length f.bytes ≡ PAGE_BYTES * 2 ^ f.order.0) folios) where
  abbrev piece : ℕ
  piece = PAGE_BYTES * 2 ^ p.order.0

  all_bytes : length (flat_map (λ (f : FolioValue). f.bytes) folios) ≡ p.count * piece
  all_bytes =
      bytes_count piece folios (λ k d lt. long k d lt ∙ ap (λ (o : Order). PAGE_BYTES * 2 ^ o.0) (fits.of_order k d lt))
      ∙ ap (λ n. n * piece) fits.number

  -- the size that is asked for is cut at what the folios have
  pub size_is : (size : ℕ) → size ≡ min p.size (p.count * piece) → size ≡ length (bytes_with p folios)
  size_is size e = e ∙ ap (min p.size) (sym all_bytes) ∙ sym (length-take p.size (flat_map (λ (f : FolioValue). f.bytes) folios))

  same_front : (bytes : List ℕ) (n size room : ℕ) → length bytes ≡ room → size ≡ min n room → take size bytes ≡ take n bytes
  same_front bytes n size room count e =
      elim (cases_lt room n) [
        | inl lt ↦ (let less : size ≡ room = e ∙ omega (arith, lt) in ap (λ n. take n bytes) less ∙ take_all room bytes (omega (arith, count)) ∙ sym (take_all n bytes (omega (arith, count, lt))))
        | inr ge ↦ (let less : size ≡ n = e ∙ omega (arith, ge) in ap (λ n. take n bytes) less)
      ]

  pub cut_same : (size : ℕ) → size ≡ min p.size (p.count * piece) → take size (flat_map (λ (f : FolioValue). f.bytes) folios) ≡ bytes_with p folios
  cut_same size e = same_front (flat_map (λ (f : FolioValue). f.bytes) folios) p.size size (p.count * piece) all_bytes e

  -- such a file, by the size that is cut
  pub held_with : (size : ℕ) → size ≡ min p.size (p.count * piece) → Some (held_file Memfd p.order.0 size p.position folios) ≡ state_with p folios
  held_with size e = ap (λ (bytes : List ℕ). state_of bytes) (cut_same size e)
    where
      state_of : List ℕ → Option FileState
      state_of bytes =
          Some (record {
            kind = Memfd;
            order = p.order.0;
            bytes = bytes;
            position = p.position;
            runs = filled (upto (length folios)) (firsts (first_frames folios)) finmap.empty;
            opened = false;
            pin = false;
            hold = true;
          })

-- ---- all files

-- the files before one on are held, and the others have what is left of the folios
pub record Holding (home : HomeId) (files : List PlainFile) (folios : List FolioValue) (i : ℕ) (held : List FileValue) (rest : List FolioValue) : Type 0 where
  pub fits : FitAll home (drop i files) (reverse rest)
  pub are : AreHeld home 0 held
  pub count : length held ≡ i
  pub starts : begun held ++ states_with (drop i files) (reverse rest) ≡ states_with files folios

module _ (home : HomeId) (files : List PlainFile) (folios : List FolioValue) where
  pub holding_begins : (held : List FileValue) (rest : List FolioValue) → FitAll home files folios → held ≡ [] → rest ≡ reverse folios → Holding home files folios 0 held rest
  holding_begins held rest fits none e =
      let back : reverse rest ≡ folios = ap reverse e ∙ reverse-reverse folios in
      record {
        fits = subst (FitAll home files) (sym back) fits;
        are = subst (AreHeld home 0) (sym none) tt;
        count = ap length none;
        starts = ap (λ (l : List FileValue). begun l ++ states_with files (reverse rest)) none ∙ ap (states_with files) back;
      }

  pub of_left_over : (i : ℕ) (held : List FileValue) (rest : List FolioValue) → Holding home files folios i held rest → AreOf home rest
  of_left_over i held rest h = of_turned home (reverse rest) rest (of_all home (drop i files) (reverse rest) h.fits) (sym (reverse-reverse rest))

  fit_first : (i : ℕ) (p : PlainFile) (rest : List FolioValue) → drop i files ≡ p ∷ drop (i + 1) files → FitAll home (drop i files) rest → FitsFolios home p (take p.count rest) × FitAll home (drop (i + 1) files) (drop p.count rest)
  unfolding FitAll
  fit_first i p rest e h = subst (λ (l : List PlainFile). FitAll home l rest) e h

  states_first : (i : ℕ) (p : PlainFile) (rest : List FolioValue) → drop i files ≡ p ∷ drop (i + 1) files → states_with (drop i files) rest ≡ state_with p (take p.count rest) ∷ states_with (drop (i + 1) files) (drop p.count rest)
  unfolding states_with
  states_first i p rest e = ap (λ (l : List PlainFile). states_with l rest) e

  module _ (i : ℕ) (p d : PlainFile) (held : List FileValue) (rest : List FolioValue) (h : Holding home files folios i held rest) (lt : i < length files) (at : p ≡ get_or files i d) where
    first_is : drop i files ≡ p ∷ drop (i + 1) files
    first_is = first_left files i d lt ∙ ap (λ (x : PlainFile). x ∷ drop (i + 1) files) (sym at)

    pub fits_next : FitsFolios home p (take p.count (reverse rest))
    fits_next = (fit_first i p (reverse rest) first_is h.fits).0

    pub holding_more : (new : List FileValue) (left : List FolioValue) → AreHeld home 0 new → length new ≡ length held + 1 → begun new ≡ begun held ++ state_with p (take p.count (reverse rest)) ∷ []
        → reverse left ≡ drop p.count (reverse rest) → Holding home files folios (i + 1) new left
    holding_more new left waits long start e = record {
      fits = subst (FitAll home (drop (i + 1) files)) (sym e) (fit_first i p (reverse rest) first_is h.fits).1;
      are = waits;
      count = let c = h.count in omega (arith, long, c);
      starts =
          ap (λ (l : List (Option FileState)). l ++ states_with (drop (i + 1) files) (reverse left)) start
          ∙ append_assoc (begun held) (state_with p (take p.count (reverse rest)) ∷ []) (states_with (drop (i + 1) files) (reverse left))
          ∙ ap (λ (l : List FolioValue). begun held ++ (state_with p (take p.count (reverse rest)) ∷ states_with (drop (i + 1) files) l)) e
          ∙ ap (λ (l : List (Option FileState)). begun held ++ l) (sym (states_first i p (reverse rest) first_is))
          ∙ h.starts;
    }

  module _ (i : ℕ) (held : List FileValue) (rest : List FolioValue) (h : Holding home files folios i held rest) (e : i ≡ length files) where
    none_left : drop i files ≡ []
    none_left = drop_all i files (omega (arith, e))

    fit_none : (l : List PlainFile) → l ≡ [] → (rest : List FolioValue) → FitAll home l rest → rest ≡ []
    unfolding FitAll
    fit_none l none rest h = subst (λ (l : List PlainFile). FitAll home l rest) none h

    states_none : (l : List PlainFile) (rest : List FolioValue) → l ≡ [] → states_with l rest ≡ []
    unfolding states_with
    states_none l rest none = ap (λ (l : List PlainFile). states_with l rest) none

    pub none_rest : rest ≡ []
    none_rest = sym (reverse-reverse rest) ∙ ap reverse (fit_none (drop i files) none_left (reverse rest) h.fits)

    pub all_held : begun held ≡ states_with files folios
    all_held = sym (append-nil (begun held)) ∙ ap (λ (l : List (Option FileState)). begun held ++ l) (sym (states_none (drop i files) (reverse rest) none_left)) ∙ h.starts
