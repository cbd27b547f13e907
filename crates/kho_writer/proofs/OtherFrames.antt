-- A chain says nothing of the other frames.
use Rattle.std.proofs.Common.{◌≡◌, ℕ, zero, suc, ◌+◌, ◌<◌, Bool, true, false, cond, List, [], ◌∷◌, length, get_or, replicate, refl, sym, ap, subst, ◌∙◌, inl, inr, arith}
use Rattle.std.specs.Prelude.{nat_eq, ◌||◌}
use Rattle.std.specs.List.{list_all, list_any}
use Rattle.std.proofs.lemmas.Bool.{cases_lt, eqb-true, eq-eqb, and_parts, and_from, or_left, or_right}
use Rattle.std.proofs.lemmas.List.{length-replicate, get_or-replicate, get_or_past}
use Rattle.ho_base.specs.declared.limits.TheConstants.{PAGE_BYTES}
use Rattle.folio_bitmaps.specs.Runs.{Runs}
use Rattle.folio_bitmaps.specs.Chunks.{Element}
use Rattle.folio_bitmaps.specs.Written.{IsWritten}
use Rattle.phys_frames.specs.Memory.{zero_page}
use Rattle.record_frames.specs.Ram.{Ram, Begins}
use Rattle.record_frames.specs.Sheets.{Sheet, first_of, numbers_of, sheet_bytes, element_bytes, chunk_pages}
use Rattle.record_frames.specs.Carries.{HavePages}
use Rattle.record_frames.specs.Laws.{Holds, ReadIsChain}
use Rattle.kho_writer.specs.Written.{HoldBytes, HoldWritten, IsChainOf, WrittenIsChain}
use Rattle.kho_writer.proofs.ChainRead.{held_is_chain}

zero_size : length zero_page ≡ PAGE_BYTES
unfolding zero_page
zero_size = length-replicate {A = ℕ} PAGE_BYTES 0

zero_small : (i : ℕ) → get_or zero_page i 0 < 256
unfolding zero_page
zero_small i =
    elim (cases_lt i PAGE_BYTES) [
      | inl lt ↦ let e : get_or (replicate {A = ℕ} PAGE_BYTES 0) i 0 ≡ 0 = get_or-replicate PAGE_BYTES i 0 0 lt in omega (arith, e)
      | inr le ↦ let e : get_or (replicate {A = ℕ} PAGE_BYTES 0) i 0 ≡ 0 = get_or_past (replicate {A = ℕ} PAGE_BYTES 0) i 0 (omega (arith, length-replicate {A = ℕ} PAGE_BYTES 0)) in omega (arith, e)
    ]

-- a number among others stands at some place
at_place : (p : ℕ) (xs : List ℕ) → list_any (nat_eq p) xs ≡ true → (i : ℕ) × (i < length xs) × (get_or xs i 0 ≡ p)
at_place p [] h = absurd cc
at_place p (x ∷ xs) h = at_test (nat_eq p x) refl (λ more. at_place p xs more) h
  where
    at_test : (b : Bool) → nat_eq p x ≡ b → (list_any (nat_eq p) xs ≡ true → (i : ℕ) × (i < length xs) × (get_or xs i 0 ≡ p)) → (b || list_any (nat_eq p) xs) ≡ true
        → (i : ℕ) × (i < length (x ∷ xs)) × (get_or (x ∷ xs) i 0 ≡ p)
    at_test true e more t = (0, omega arith, sym (eqb-true p x e))
    at_test false e more t = let m = more t in (suc m.0, omega (arith, m.1), m.2)

place_among : (xs : List ℕ) (i d : ℕ) → i < length xs → list_any (nat_eq (get_or xs i d)) xs ≡ true
place_among [] i d lt = absurd (omega (arith, lt))
place_among (x ∷ xs) zero d lt = or_left (nat_eq x x) (list_any (nat_eq x) xs) (eq-eqb x x refl)
place_among (x ∷ xs) (suc i) d lt = or_right (nat_eq (get_or xs i d) x) (list_any (nat_eq (get_or xs i d)) xs) (place_among xs i d (omega (arith, lt)))

-- each of these is among those
all_among : (xs ys : List ℕ) → ((p : ℕ) → list_any (nat_eq p) xs ≡ true → list_any (nat_eq p) ys ≡ true) → list_all (λ p. list_any (nat_eq p) ys) xs ≡ true
all_among [] ys tell = refl
all_among (x ∷ xs) ys tell =
    and_from (list_any (nat_eq x) ys) (list_all (λ p. list_any (nat_eq p) ys) xs) (tell x (or_left (nat_eq x x) (list_any (nat_eq x) xs) (eq-eqb x x refl)))
    (all_among xs ys (λ p h. tell p (or_right (nat_eq p x) (list_any (nat_eq p) xs) h)))

module _ (ram : Ram) (chunks : List ℕ) where
  -- the same frames with zeros in all others
  alone : Ram
  alone = record { count = ram.count; page = λ p. cond (list_any (nat_eq p) chunks) (ram.page p) zero_page }

  same_page : (p : ℕ) → list_any (nat_eq p) chunks ≡ true → alone.page p ≡ ram.page p
  unfolding alone
  same_page p h = ap (λ (b : Bool). cond b (ram.page p) zero_page) h

  count_same : alone.count ≡ ram.count
  unfolding alone
  count_same = refl

  alone_page : (p : ℕ) → alone.page p ≡ cond (list_any (nat_eq p) chunks) (ram.page p) zero_page
  unfolding alone
  alone_page p = refl

  pages_of_all : (sheets : List (Sheet Element)) → list_all (λ p. list_any (nat_eq p) chunks) (numbers_of sheets) ≡ true → HavePages alone (chunk_pages sheets) → HavePages ram (chunk_pages sheets)
  pages_of_all [] among h = tt
  pages_of_all (s ∷ sheets) among h =
      let hs = and_parts (list_any (nat_eq s.at) chunks) (list_all (λ p. list_any (nat_eq p) chunks) (numbers_of sheets)) among in (
        subst (λ (page : List ℕ). Begins page (sheet_bytes 32 element_bytes (first_of sheets) s.items)) (same_page s.at hs.0) h.0,
        pages_of_all sheets hs.1 h.1,
      )

  module _ (runs : Runs) (bytes : HoldBytes ram chunks) (written : HoldWritten ram runs chunks) where
    page_small : (p : ℕ) → (b : Bool) → list_any (nat_eq p) chunks ≡ b → (j : ℕ) → get_or (cond b (ram.page p) zero_page) j 0 < 256
    page_small p true e j = let at = at_place p chunks e in subst (λ (q : ℕ). get_or (ram.page q) j 0 < 256) at.2 (bytes at.0 0 at.1 j)
    page_small p false e j = zero_small j

    page_size : (p : ℕ) → (b : Bool) → list_any (nat_eq p) chunks ≡ b → length (cond b (ram.page p) zero_page) ≡ PAGE_BYTES
    page_size p true e = let at = at_place p chunks e in subst (λ (q : ℕ). length (ram.page q) ≡ PAGE_BYTES) at.2 (written.pages at.0 0 at.1).size
    page_size p false e = zero_size

    alone_holds : Holds alone
    unfolding alone
    alone_holds = record {
      bytes = λ p lt j. page_small p (list_any (nat_eq p) chunks) refl j;
      size = λ p lt. page_size p (list_any (nat_eq p) chunks) refl;
    }

    alone_written : HoldWritten alone runs chunks
    unfolding alone
    alone_written = record {
      count = written.count;
      frames = written.frames;
      once = written.once;
      pages = λ i d lt. subst (λ (page : List ℕ). IsWritten ram.count runs i (get_or chunks (i + 1) 0) page) (sym (same_page (get_or chunks i d) (place_among chunks i d lt))) (written.pages i d lt);
      members = written.members;
    }

    from_alone : IsChainOf alone runs chunks → IsChainOf ram runs chunks
    unfolding alone
    from_alone h = record {
      chain = h.chain;
      numbers = h.numbers;
      spelled = record {
        begins = h.spelled.begins;
        rules = h.spelled.rules;
        pages = pages_of_all h.chain (ap (list_all (λ p. list_any (nat_eq p) chunks)) h.numbers ∙ all_among chunks chunks (λ p t. t)) h.spelled.pages;
      };
      marks = h.marks;
    }

pub written_is_chain : ReadIsChain → WrittenIsChain
unfolding alone
written_is_chain law ram runs chunks some bytes written =
    from_alone ram chunks runs bytes written (held_is_chain law (alone ram chunks) runs chunks some (alone_holds ram chunks runs bytes written) (alone_written ram chunks runs bytes written))
