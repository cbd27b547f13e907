-- Frames of a chain that are written, item by item and frame by frame.
use Rattle.std.proofs.Common.{◌≡◌, ℕ, zero, suc, ◌+◌, ◌-◌, ◌*◌, ◌≤◌, ◌<◌, List, [], ◌∷◌, ◌++◌, length, take, drop, get_or, set, min, refl, sym, ap, ◌∙◌, arith}
use Rattle.std.proofs.lemmas.List.{append_assoc, length-append, length-map, length-drop, length-take-le, take_all, take_min, take_more, take-map, drop-map, drop-drop}
use Rattle.std.specs.List.{flat_map}
use Rattle.ho_base.specs.declared.numbers.Pfn.{Pfn}
use Rattle.ho_events.specs.Lists.{firsts, pieces}
use Rattle.phys_frames.specs.Memory.{FolioValue, with_bytes, written}
use Rattle.record_frames.specs.Ram.{Page}
use Rattle.record_frames.specs.Sheets.{number, sheet_bytes, chain_pages, first_of}
use Rattle.record_frames.specs.Writing.{holding, parts_from, parts, sheets_in, with_pages, frames_of}
use Rattle.record_frames.proofs.WrittenBytes.{holds_more, holds_page, one_more, few_numbers}
use Rattle.record_frames.proofs.WrittenPages.{one_page_more, at_behind_pages, frames_with_pages}

-- a list frame with its first numbers
abbrev pub list_front : ℕ → ℕ → List ℕ → ℕ → List ℕ
list_front next n rs i = (number next ++ number n) ++ flat_map number (take i rs)

long_front : (next n : ℕ) (rs : List ℕ) (i : ℕ) → i ≤ length rs → length (list_front next n rs i) ≡ 16 + 8 * i
long_front next n rs i le =
    let head : length (number next ++ number n) ≡ 16 = refl in
    omega (arith, length-append (number next ++ number n) (flat_map number (take i rs)), few_numbers rs i le, head)

pub list_size : (f g : FolioValue) (next n : ℕ) (rs : List ℕ) (i : ℕ) → i ≤ length rs → length rs ≤ 510 → g ≡ holding f (list_front next n rs i) → length g.bytes ≡ 4096
list_size f g next n rs i le few e = holds_page f g (list_front next n rs i) (omega (arith, long_front next n rs i le, few)) e

pub list_more : (f g h : FolioValue) (next n : ℕ) (rs : List ℕ) (i r : ℕ) → i < length rs → length rs ≤ 510 → r ≡ get_or rs i 0
    → g ≡ holding f (list_front next n rs i) → h ≡ with_bytes g (written g.bytes (16 + 8 * i) (flat_map number (r ∷ []))) → h ≡ holding f (list_front next n rs (i + 1))
list_more f g h next n rs i r lt few e first second =
    let long = long_front next n rs i (omega (arith, lt)) in
    let one : length (flat_map number (r ∷ [])) ≡ 8 = refl in
    holds_more f g h (list_front next n rs i) (flat_map number (r ∷ [])) (list_front next n rs (i + 1)) (16 + 8 * i) (omega (arith, long)) (omega (arith, lt, few, one)) first second
    (append_assoc (number next ++ number n) (flat_map number (take i rs)) (number r)
    ∙ ap (λ (x : List ℕ). (number next ++ number n) ++ x) (ap (λ (x : ℕ). flat_map number (take i rs) ++ number x) e ∙ sym (one_more number rs i 0 lt)))

pub list_done : (f g : FolioValue) (next n : ℕ) (rs : List ℕ) (i : ℕ) → n ≡ length rs → length rs ≤ i → g ≡ holding f (list_front next n rs i)
    → g ≡ holding f (sheet_bytes 16 number next rs)
list_done f g next n rs i len all e =
    e ∙ (λ j. holding f ((number next ++ number (len j)) ++ flat_map number (take_all i rs all j)))

-- the page of a frame of a chain
module _ {E : Type 0} (head size : ℕ) (enc : E → List ℕ) where
  pub next_is : (n : ℕ) (ats : List ℕ) (xs : List E) → length ats ≡ n → first_of (sheets_in ats (parts_from size n xs)) ≡ get_or ats 0 0
  next_is zero [] xs e = refl
  next_is zero (a ∷ ats) xs e = absurd (omega (arith, e))
  next_is (suc n) [] xs e = refl
  next_is (suc n) (a ∷ ats) xs e = refl

  pub chain_at : (n : ℕ) (ats : List ℕ) (xs : List E) (i : ℕ) (d : Page) → length ats ≡ n → i < n
      → (get_or (chain_pages head enc (sheets_in ats (parts_from size n xs))) i d).bytes
      ≡ sheet_bytes head enc (get_or ats (suc i) 0) (take size (drop (size * i) xs))
  chain_at zero ats xs i d e lt = absurd (omega (arith, lt))
  chain_at (suc n) [] xs i d e lt = absurd (omega (arith, e))
  chain_at (suc n) (a ∷ ats) xs zero d e lt =
      let none : 0 ≡ size * 0 = omega arith in
      ap (λ (p : ℕ). sheet_bytes head enc p (take size xs)) (next_is n ats (drop size xs) (omega (arith, e)))
      ∙ ap (λ (k : ℕ). sheet_bytes head enc (get_or ats 0 0) (take size (drop k xs))) none
  chain_at (suc n) (a ∷ ats) xs (suc i) d e lt =
      chain_at n ats (drop size xs) i d (omega (arith, e)) (omega (arith, lt))
      ∙ ap (λ (l : List E). sheet_bytes head enc (get_or ats (suc i) 0) (take size l))
      (drop-drop (size * i) size xs ∙ (let e : size + size * i ≡ size * suc i = omega arith in ap (λ (k : ℕ). drop k xs) e))

  pub chain_long : (n : ℕ) (ats : List ℕ) (xs : List E) → length ats ≡ n → length (chain_pages head enc (sheets_in ats (parts_from size n xs))) ≡ n
  chain_long zero [] xs e = refl
  chain_long zero (a ∷ ats) xs e = absurd (omega (arith, e))
  chain_long (suc n) [] xs e = absurd (omega (arith, e))
  chain_long (suc n) (a ∷ ats) xs e = ap suc (chain_long n ats (drop size xs) (omega (arith, e)))

-- one more folio of a list of pages
pub next_page : (fs gs hs : List FolioValue) (ps : List Page) (i : ℕ) (f h : FolioValue) (d : Page) (dd : FolioValue) → i < length ps → i < length fs
    → gs ≡ with_pages fs (take i ps) → hs ≡ set gs i h → f ≡ get_or fs i dd → h ≡ holding f (get_or ps i d).bytes → hs ≡ with_pages fs (take (i + 1) ps)
next_page fs gs hs ps i f h d dd lt room before set_is f_is h_is =
    let few : length (take i ps) ≡ i = length-take-le i ps (omega (arith, lt)) in
    let lt' : length (take i ps) < length fs = omega (arith, few, room) in
    let step : with_pages fs (take i ps ++ get_or ps i d ∷ []) ≡ set (with_pages fs (take i ps)) i (holding (get_or fs i dd) (get_or ps i d).bytes) =
    one_page_more fs (take i ps) (get_or ps i d) dd lt' ∙ ap (λ (k : ℕ). set (with_pages fs (take i ps)) k (holding (get_or fs k dd) (get_or ps i d).bytes)) few in
    set_is ∙ (λ j. set (before j) i ((h_is ∙ ap (λ (x : FolioValue). holding x (get_or ps i d).bytes) f_is) j)) ∙ sym step ∙ ap (with_pages fs) (sym (take_more ps i d lt))

-- the numbers of a part of runs
pub part_of : (runs : List Pfn) (a end : ℕ) → end ≡ min (length runs) (a + 510) → a ≤ length runs
    → firsts (take (end - a) (drop a runs)) ≡ take 510 (drop a (firsts runs))
part_of runs a end e le =
    let n : end - a ≡ min 510 (length (drop a runs)) = omega (arith, e, length-drop a runs, le) in
    ap firsts (ap (λ (k : ℕ). take k (drop a runs)) n ∙ take_min 510 (drop a runs))
    ∙ sym (take-map (λ (p : Pfn). p.0) 510 (drop a runs)) ∙ ap (take 510) (sym (drop-map (λ (p : Pfn). p.0) a runs))

-- the list frames of a file
module _ (fs : List FolioValue) (runs : List Pfn) (count : length fs ≡ pieces (length runs) 510) where
  abbrev pub list_chain : List Page
  list_chain = chain_pages 16 number (sheets_in (frames_of fs) (parts 510 (firsts runs)))

  same : length (firsts runs) ≡ length runs
  same = length-map runs (λ (p : Pfn). p.0)

  ats_long : length (frames_of fs) ≡ pieces (length (firsts runs)) 510
  ats_long = length-map fs (λ (f : FolioValue). f.first.0) ∙ count ∙ ap (λ (k : ℕ). pieces k 510) (sym same)

  pub list_count : length list_chain ≡ length fs
  list_count =
      chain_long 16 510 number (pieces (length (firsts runs)) 510) (frames_of fs) (firsts runs) ats_long
      ∙ sym ats_long ∙ length-map fs (λ (f : FolioValue). f.first.0)

  pub lists_step : (gs hs : List FolioValue) (i : ℕ) (h x : FolioValue) (next end : ℕ) (rs : List Pfn) → i < length fs
      → gs ≡ with_pages fs (take i list_chain) → hs ≡ set gs i h → next ≡ get_or (frames_of gs) (i + 1) 0 → rs ≡ runs → end ≡ min (length rs) (510 * i + 510)
      → h ≡ holding (get_or gs i x) (sheet_bytes 16 number next (firsts (take (end - 510 * i) (drop (510 * i) rs))))
      → hs ≡ with_pages fs (take (i + 1) list_chain)
  lists_step gs hs i h x next end rs lt before set_is next_eq rs_is end_is h_is =
      let few : length (take i list_chain) ≡ i = length-take-le i list_chain (omega (arith, list_count, lt)) in
      let nums : frames_of gs ≡ frames_of fs = ap frames_of before ∙ frames_with_pages fs (take i list_chain) in
      let next' : next ≡ get_or (frames_of fs) (suc i) 0 =
      next_eq ∙ ap (λ (l : List ℕ). get_or l (i + 1) 0) nums ∙ (let e : i + 1 ≡ suc i = omega arith in ap (λ (k : ℕ). get_or (frames_of fs) k 0) e) in
      let le : 510 * i ≤ length rs = omega (arith, ap length rs_is, count, lt) in
      let part : firsts (take (end - 510 * i) (drop (510 * i) rs)) ≡ take 510 (drop (510 * i) (firsts runs)) =
      part_of rs (510 * i) end end_is le ∙ ap (λ (l : List Pfn). take 510 (drop (510 * i) (firsts l))) rs_is in
      let page = chain_at 16 510 number (pieces (length (firsts runs)) 510) (frames_of fs) (firsts runs) i (record { at = 0; bytes = [] }) ats_long (omega (arith, lt, count, same)) in
      next_page fs gs hs list_chain i (get_or gs i x) h (record { at = 0; bytes = [] }) x (omega (arith, list_count, lt)) lt before set_is
      (ap (λ (l : List FolioValue). get_or l i x) before ∙ at_behind_pages fs (take i list_chain) i x (omega (arith, few)))
      (h_is ∙ (λ j. holding (get_or gs i x) (sheet_bytes 16 number (next' j) (part j))) ∙ ap (holding (get_or gs i x)) (sym page))
