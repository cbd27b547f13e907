-- Bytes that are written one after another.
use Rattle.std.proofs.Common.{◌≡◌, ℕ, ◌+◌, ◌-◌, ◌*◌, ◌≤◌, ◌<◌, ◌^◌, List, [], ◌∷◌, ◌++◌, length, take, drop, replicate, get_or, refl, sym, ap, ◌∙◌, arith}
use Rattle.std.proofs.lemmas.List.{append_assoc, length-append, length-take-le, length-replicate, length-drop, take-append-drop, take-replicate, take_at, drop_at, drop-drop, drop-replicate, replicate-append-replicate, take_more, flat_map_more}
use Rattle.std.specs.List.{flat_map}
use Rattle.phys_frames.specs.Memory.{FolioValue, with_bytes, written}
use Rattle.record_frames.specs.Sheets.{number, FileSlot, file_slot_bytes, kind_number, SessionSlot, session_slot_bytes}
use Rattle.record_frames.specs.Writing.{framed, holding}

-- bytes behind bytes that were written
module _ (p a b : List ℕ) (at next : ℕ) (fits : at + length a + length b ≤ length p) (e : next ≡ at + length a) where
  rest : List ℕ
  rest = drop (at + length a) p

  long : length (take at p ++ a) ≡ next
  long = omega (arith, length-append (take at p) a, length-take-le at p (omega arith))

  whole : written p at a ≡ (take at p ++ a) ++ drop (at + length a) p
  whole = sym (append_assoc (take at p) a (drop (at + length a) p))

  before : take next (written p at a) ≡ take at p ++ a
  before = ap (take next) whole ∙ take_at (take at p ++ a) (drop (at + length a) p) next long

  after : drop (next + length b) (written p at a) ≡ drop (at + length (a ++ b)) p
  after =
      sym (drop-drop (length b) next (written p at a))
      ∙ ap (drop (length b)) (ap (drop next) whole ∙ drop_at (take at p ++ a) (drop (at + length a) p) next long)
      ∙ drop-drop (length b) (at + length a) p
      ∙ ap (λ (n : ℕ). drop n p) (omega (arith, length-append a b))

  pub behind : written (written p at a) next b ≡ written p at (a ++ b)
  behind =
      (λ i. before i ++ (b ++ after i))
      ∙ append_assoc (take at p) a (b ++ drop (at + length (a ++ b)) p)
      ∙ ap (λ (r : List ℕ). take at p ++ r) (sym (append_assoc a b (drop (at + length (a ++ b)) p)))

pub length_written : (p a : List ℕ) (at : ℕ) → at + length a ≤ length p → length (written p at a) ≡ length p
length_written p a at fits =
    omega (arith, length-append (take at p) (a ++ drop (at + length a) p), length-append a (drop (at + length a) p), length-take-le at p (omega arith), length-drop (at + length a) p)

-- a frame's bytes
pub framed_none : (n : ℕ) → n ≡ 4096 → replicate n 0 ≡ framed []
unfolding framed
framed_none n e = ap (λ (m : ℕ). replicate {A = ℕ} m 0) e

pub length_framed : (front : List ℕ) → length front ≤ 4096 → length (framed front) ≡ 4096
unfolding framed
length_framed front fits = omega (arith, length-append front (replicate (4096 - length front) 0), length-replicate {A = ℕ} (4096 - length front) 0)

pub framed_more : (front bytes : List ℕ) (at : ℕ) → at ≡ length front → at + length bytes ≤ 4096 → written (framed front) at bytes ≡ framed (front ++ bytes)
unfolding framed
framed_more front bytes at e fits =
    let zeros = replicate {A = ℕ} (4096 - length front) 0 in
    let t : take at (front ++ zeros) ≡ front = take_at front zeros at (sym e) in
    let d : drop (at + length bytes) (front ++ zeros) ≡ replicate (4096 - length (front ++ bytes)) 0 =
    sym (drop-drop (length bytes) at (front ++ zeros))
    ∙ ap (drop (length bytes)) (drop_at front zeros at (sym e))
    ∙ drop-replicate (length bytes) (4096 - length front) 0
    ∙ ap (λ (m : ℕ). replicate {A = ℕ} m 0) (omega (arith, length-append front bytes)) in
    (λ i. t i ++ (bytes ++ d i)) ∙ sym (append_assoc front bytes (replicate (4096 - length (front ++ bytes)) 0))

-- zeros at the end say nothing
pub framed_zeros : (front : List ℕ) (n : ℕ) → length front + n ≤ 4096 → framed (front ++ replicate n 0) ≡ framed front
unfolding framed
framed_zeros front n fits =
    let left : length (front ++ replicate {A = ℕ} n 0) ≡ length front + n = omega (arith, length-append front (replicate {A = ℕ} n 0), length-replicate {A = ℕ} n 0) in
    append_assoc front (replicate n 0) (replicate (4096 - length (front ++ replicate {A = ℕ} n 0)) 0)
    ∙ ap (λ (r : List ℕ). front ++ r)
    (replicate-append-replicate n (4096 - length (front ++ replicate {A = ℕ} n 0)) 0 ∙ ap (λ (m : ℕ). replicate {A = ℕ} m 0) (omega (arith, left)))

pub written_none : (p : List ℕ) (at : ℕ) → written p at [] ≡ p
written_none p at = ap (λ (n : ℕ). take at p ++ drop n p) (omega arith) ∙ take-append-drop at p

pub zeros_taken : (n m : ℕ) → n ≤ m → take n (replicate {A = ℕ} m 0) ≡ replicate {A = ℕ} n 0
zeros_taken n m le = take-replicate {X = ℕ} n m 0 le

-- numbers one after another
pub length_numbers : (ns : List ℕ) → length (flat_map number ns) ≡ 8 * length ns
length_numbers [] = refl
length_numbers (n ∷ ns) = length-append (number n) (flat_map number ns) ∙ let e = length_numbers ns in omega arith

pub one_more : {A : Type 0} (f : A → List ℕ) (xs : List A) (i : ℕ) (d : A) → i < length xs
    → flat_map f (take (i + 1) xs) ≡ flat_map f (take i xs) ++ f (get_or xs i d)
one_more f xs i d lt = ap (flat_map f) (take_more xs i d lt) ∙ sym (flat_map_more f [] (take i xs) (get_or xs i d))

pub few_numbers : (ns : List ℕ) (i : ℕ) → i ≤ length ns → length (flat_map number (take i ns)) ≡ 8 * i
few_numbers ns i le = length_numbers (take i ns) ∙ ap (λ (k : ℕ). 8 * k) (length-take-le i ns le)

pub number_more : (p : List ℕ) (at : ℕ) (ns : List ℕ) (i : ℕ) → i < length ns → at + 8 * length ns ≤ length p
    → written (written p at (flat_map number (take i ns))) (at + 8 * i) (number (get_or ns i 0)) ≡ written p at (flat_map number (take (i + 1) ns))
number_more p at ns i lt fits =
    let few = few_numbers ns i (omega (arith, lt)) in
    behind p (flat_map number (take i ns)) (number (get_or ns i 0)) at (at + 8 * i) (omega (arith, few, fits, lt)) (omega (arith, few))
    ∙ ap (written p at) (sym (one_more number ns i 0 lt))

pub length_so_far : (p : List ℕ) (at : ℕ) (ns : List ℕ) (i : ℕ) → i ≤ length ns → at + 8 * length ns ≤ length p
    → length (written p at (flat_map number (take i ns))) ≡ length p
length_so_far p at ns i le fits =
    let few = few_numbers ns i le in
    length_written p (flat_map number (take i ns)) at (omega (arith, few, fits, le))

-- a folio that is written in two steps
pub folio_behind : (f g h : FolioValue) (a b c : List ℕ) (at next : ℕ) → length f.bytes ≡ 4096 → at + length a + length b ≤ 4096 → next ≡ at + length a
    → g ≡ with_bytes f (written f.bytes at a) → h ≡ with_bytes g (written g.bytes next b) → a ++ b ≡ c → h ≡ with_bytes f (written f.bytes at c)
folio_behind f g h a b c at next size fits e first second both =
    second
    ∙ ap (λ (x : FolioValue). with_bytes x (written x.bytes next b)) first
    ∙ ap (with_bytes f) (behind f.bytes a b at next (omega (arith, size, fits)) e ∙ ap (written f.bytes at) both)

pub folio_size : (f g : FolioValue) (a : List ℕ) (at : ℕ) → length f.bytes ≡ 4096 → at + length a ≤ 4096 → g ≡ with_bytes f (written f.bytes at a) → length g.bytes ≡ 4096
folio_size f g a at size fits e = ap (λ (x : FolioValue). length x.bytes) e ∙ length_written f.bytes a at (omega (arith, size, fits)) ∙ size

-- a folio that holds bytes, with more behind them
pub holds_more : (f g h : FolioValue) (front bytes all : List ℕ) (at : ℕ) → at ≡ length front → at + length bytes ≤ 4096
    → g ≡ holding f front → h ≡ with_bytes g (written g.bytes at bytes) → front ++ bytes ≡ all → h ≡ holding f all
holds_more f g h front bytes all at e fits first second both =
    second
    ∙ ap (λ (x : FolioValue). with_bytes x (written x.bytes at bytes)) first
    ∙ ap (with_bytes f) (framed_more front bytes at e fits ∙ ap framed both)

pub holds_page : (f g : FolioValue) (front : List ℕ) → length front ≤ 4096 → g ≡ holding f front → length g.bytes ≡ 4096
holds_page f g front fits e = ap (λ (x : FolioValue). length x.bytes) e ∙ length_framed front fits

-- the numbers of a file's slot
pub slot_numbers : (f : FileSlot)
    → flat_map number (f.token ∷ kind_number f.kind ∷ f.order ∷ f.size ∷ f.position ∷ f.handle ∷ f.first ∷ f.folios ∷ []) ++ replicate 64 0 ≡ file_slot_bytes f
slot_numbers f = refl

-- a frame that begins
pub begun_size : (f g : FolioValue) (page : List ℕ) → page ≡ f.bytes → length page ≡ 2 ^ f.order.0 * 4096 → f.order.0 ≡ 0
    → g ≡ with_bytes f (replicate (length f.bytes) 0) → g ≡ holding f []
begun_size f g page same long single e =
    let size : length f.bytes ≡ 4096 = ap length (sym same) ∙ long ∙ ap (λ (n : ℕ). 2 ^ n * 4096) single in
    e ∙ ap (with_bytes f) (framed_none (length f.bytes) size)

pub begun : (f g h : FolioValue) (next count : ℕ) → g ≡ holding f [] → h ≡ with_bytes g (written g.bytes 0 (flat_map number (next ∷ count ∷ [])))
    → h ≡ holding f (number next ++ number count)
begun f g h next count first second =
    let long : length (flat_map number (next ∷ count ∷ [])) ≡ 16 = refl in
    holds_more f g h [] (flat_map number (next ∷ count ∷ [])) (number next ++ number count) 0 refl (omega (arith, long)) first second refl

-- the slot of a session
module _ (f a b : FolioValue) (name : List ℕ) (at n : ℕ) (size : length f.bytes ≡ 4096) (room : at + 128 ≤ 4096) (few : length name ≤ 63) (len : n ≡ length name)
    (named : a ≡ with_bytes f (written f.bytes at name)) (filled : b ≡ with_bytes a (written a.bytes (at + n) (replicate (64 - n) 0))) where
  abbrev zs : List ℕ
  zs = replicate (64 - n) 0

  zs_long : length zs ≡ 64 - n
  zs_long = length-replicate {A = ℕ} (64 - n) 0

  text_long : length (name ++ zs) ≡ 64
  text_long = omega (arith, length-append name zs, zs_long, few, len)

  text : b ≡ with_bytes f (written f.bytes at (name ++ zs))
  text = folio_behind f a b name zs (name ++ zs) at (at + n) size (omega (arith, zs_long, room, few, len)) (omega (arith, len)) named filled refl

  pub session_text : length b.bytes ≡ 4096
  session_text = folio_size f b (name ++ zs) at size (omega (arith, text_long, room)) text

  module _ (g : FolioValue) (files first : ℕ) (counted : g ≡ with_bytes b (written b.bytes (at + 64) (flat_map number (files ∷ first ∷ [])))) where
    pairs_long : length (number files ++ number first) ≡ 16
    pairs_long = refl

    all_long : length ((name ++ zs) ++ (number files ++ number first)) ≡ 80
    all_long = omega (arith, length-append (name ++ zs) (number files ++ number first), text_long, pairs_long)

    pairs : g ≡ with_bytes f (written f.bytes at ((name ++ zs) ++ (number files ++ number first)))
    pairs = folio_behind f b g (name ++ zs) (number files ++ number first) ((name ++ zs) ++ (number files ++ number first)) at (at + 64) size (omega (arith, text_long, pairs_long, room)) (omega (arith, text_long)) text counted refl

    pub session_pairs : length g.bytes ≡ 4096
    session_pairs = folio_size f g ((name ++ zs) ++ (number files ++ number first)) at size (omega (arith, all_long, room)) pairs

    pub session_slot_written : (h : FolioValue) → h ≡ with_bytes g (written g.bytes (at + 80) (replicate 48 0))
        → h ≡ with_bytes f (written f.bytes at (session_slot_bytes (record { name = name; files = files; first = first })))
    session_slot_written h last =
        let rest : length (replicate {A = ℕ} 48 0) ≡ 48 = refl in
        folio_behind f g h ((name ++ zs) ++ (number files ++ number first)) (replicate 48 0) (session_slot_bytes (record { name = name; files = files; first = first })) at (at + 80) size
        (omega (arith, all_long, rest, room)) (omega (arith, all_long)) pairs last
        (ap (λ (r : List ℕ). r ++ replicate 48 0)
        (sym (append_assoc (name ++ zs) (number files) (number first)) ∙ ap (λ (m : ℕ). ((name ++ replicate (64 - m) 0) ++ number files) ++ number first) len))

pub slot_long : (s : SessionSlot) → length s.name ≤ 63 → length (session_slot_bytes s) ≡ 128
slot_long s few =
    let text = length-append s.name (replicate (64 - length s.name) 0) in
    let zs = length-replicate {A = ℕ} (64 - length s.name) 0 in
    let a = length-append (s.name ++ replicate (64 - length s.name) 0) (number s.files) in
    let b = length-append ((s.name ++ replicate (64 - length s.name) 0) ++ number s.files) (number s.first) in
    let all = length-append (((s.name ++ replicate (64 - length s.name) 0) ++ number s.files) ++ number s.first) (replicate 48 0) in
    let x : length (number s.files) ≡ 8 = refl in
    let y : length (number s.first) ≡ 8 = refl in
    let z : length (replicate {A = ℕ} 48 0) ≡ 48 = refl in
    omega (arith, few, text, zs, a, b, all, x, y, z)
