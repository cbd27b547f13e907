-- A carried file has the bytes, the position and the runs that its slot says.
use Rattle.std.proofs.Common.{◌≡◌, ℕ, zero, suc, ◌+◌, ◌-◌, ◌*◌, ◌^◌, ◌≤◌, ◌<◌, true, eqb, List, [], ◌∷◌, length, refl, sym, ap, subst, ◌∙◌, arith}
use Rattle.std.specs.Prelude.{nat_le, map}
use Rattle.std.specs.List.{AllByRecursion, list_all, flat_map, range_with_len}
use Rattle.std.proofs.lemmas.Bool.{and_parts, leb-true, eqb-true}
use Rattle.std.proofs.lemmas.Nat.{pow_pos}
use Rattle.std.proofs.lemmas.List.{length-append, length-take-le}
use Rattle.std.proofs.Math.Nat.{lt-div-mul-add}
use Rattle.ho_base.specs.declared.limits.TheConstants.{PAGE_BYTES, MAX_ORDER, FILE_BYTES}
use Rattle.ho_events.specs.Lists.{pieces}
use Rattle.record_frames.specs.Ram.{Ram, run_bytes}
use Rattle.record_frames.specs.Sheets.{FileRecord, file_slot}
use Rattle.record_frames.specs.Rules.{is_run, is_of_kind, has_first}
use Rattle.record_frames.specs.Kept.{runs_of, is_file, carried_file}
use Rattle.record_frames.specs.Laws.{Holds}
use Rattle.next_laws.specs.Follows.{FitsFile}
use Rattle.next_laws.proofs.KeptRules.{has_slot, runs_fit}

-- what the slot of a file says of its order, size, position and runs
pub record SlotFacts (f : FileRecord) : Type 0 where
  pub order : f.order ≤ MAX_ORDER
  pub size : f.size ≤ FILE_BYTES
  pub position : f.position ≤ f.size
  pub folios : length (runs_of f) ≡ pieces f.size (PAGE_BYTES * 2 ^ f.order)

pub slot_facts : (f : FileRecord) → has_slot f ≡ true → SlotFacts f
slot_facts f h =
    let s = file_slot f in
    let a = and_parts _ (has_first s.folios s.first) h in
    let b = and_parts _ (is_of_kind s s.kind) a.0 in
    let c = and_parts _ (eqb s.folios (pieces s.size (PAGE_BYTES * 2 ^ s.order))) b.0 in
    let d = and_parts _ (nat_le s.position s.size) c.0 in
    let e = and_parts (nat_le s.order MAX_ORDER) (nat_le s.size FILE_BYTES) d.0 in
    record {
      order = leb-true f.order MAX_ORDER e.0;
      size = leb-true f.size FILE_BYTES e.1;
      position = leb-true f.position f.size d.1;
      folios = eqb-true (length (runs_of f)) (pieces f.size (PAGE_BYTES * 2 ^ f.order)) c.1;
    }

-- as many pieces as hold n bytes have room for them
enough : (n p : ℕ) → 0 < p → n ≤ pieces n p * p
enough n p h = omega (arith, lt-div-mul-add {a = n + (p - 1)} {b = p} h)

-- so many frames have so many pages of bytes
pages_length : (ram : Ram) → Holds ram → (first len : ℕ) → first + len ≤ ram.count → length (flat_map ram.page (range_with_len first len)) ≡ PAGE_BYTES * len
pages_length ram holds first zero le = refl
pages_length ram holds first (suc len) le =
    let one : length (ram.page first) ≡ PAGE_BYTES = holds.size first (omega (arith, le)) in
    let rest : length (flat_map ram.page (range_with_len (first + 1) len)) ≡ PAGE_BYTES * len = pages_length ram holds (first + 1) len (omega (arith, le)) in
    let both = length-append (ram.page first) (flat_map ram.page (range_with_len (first + 1) len)) in
    omega (arith, one, rest, both)

runs_length : (ram : Ram) → Holds ram → (order : ℕ) (ps : List ℕ) → list_all (is_run ram.count order) ps ≡ true → length (flat_map (run_bytes ram order) ps) ≡ length ps * (PAGE_BYTES * 2 ^ order)
runs_length ram holds order [] h = none (PAGE_BYTES * 2 ^ order)
  where
    none : (piece : ℕ) → 0 ≡ 0 * piece
    none piece = omega arith
runs_length ram holds order (p ∷ ps) h =
    let hs = and_parts (is_run ram.count order p) (list_all (is_run ram.count order) ps) h in
    let a = and_parts _ (nat_le (p + 2 ^ order) ram.count) hs.0 in
    length-append (run_bytes ram order p) (flat_map (run_bytes ram order) ps)
    ∙ more (PAGE_BYTES * 2 ^ order) (length ps) (length (run_bytes ram order p)) (length (flat_map (run_bytes ram order) ps))
    (pages_length ram holds p (2 ^ order) (leb-true (p + 2 ^ order) ram.count a.1)) (runs_length ram holds order ps hs.1)
  where
    more : (piece k a b : ℕ) → a ≡ piece → b ≡ k * piece → a + b ≡ suc k * piece
    more piece k a b one rest = omega (arith, one, rest)

-- a file has as many bytes as its size says
size_is : (ram : Ram) → Holds ram → (f : FileRecord) → is_file ram.count f ≡ true → SlotFacts f → length (carried_file ram f).bytes ≡ f.size
size_is ram holds f h slot =
    let piece = PAGE_BYTES * 2 ^ f.order in
    let pos : 0 < 2 ^ f.order = pow_pos f.order in
    let room : f.size ≤ length (runs_of f) * piece =
    subst (λ n. f.size ≤ n * piece) (sym slot.folios) (enough f.size piece (omega (arith, pos))) in
    length-take-le f.size (flat_map (run_bytes ram f.order) (runs_of f))
    (subst (λ n. f.size ≤ n) (sym (runs_length ram holds f.order (runs_of f) (runs_fit ram.count f h))) room)

fits_one : (ram : Ram) → Holds ram → (f : FileRecord) → is_file ram.count f ≡ true → has_slot f ≡ true → FitsFile (carried_file ram f)
fits_one ram holds f h has =
    let slot = slot_facts f has in
    let size = size_is ram holds f h slot in
    record {
      small = slot.order;
      within = subst (λ n. n ≤ FILE_BYTES) (sym size) slot.size;
      position = subst (λ n. f.position ≤ n) (sym size) slot.position;
      count = slot.folios ∙ ap (λ n. pieces n (PAGE_BYTES * 2 ^ f.order)) (sym size);
    }

pub fits_all : (ram : Ram) → Holds ram → (fs : List FileRecord) → list_all (is_file ram.count) fs ≡ true → list_all has_slot fs ≡ true → AllByRecursion FitsFile (map (carried_file ram) fs)
fits_all ram holds [] h has = tt
fits_all ram holds (f ∷ fs) h has =
    let hs = and_parts (is_file ram.count f) (list_all (is_file ram.count) fs) h in
    let ss = and_parts (has_slot f) (list_all has_slot fs) has in
    (fits_one ram holds f hs.0 ss.0, fits_all ram holds fs hs.1 ss.1)
