-- In version 1 a session frame is the only one of its chain, and is as the program reads it.
use Rattle.std.proofs.Common.{◌≡◌, ℕ, zero, suc, ◌+◌, Bool, true, false, cond, List, [], ◌∷◌, length, take, drop, Option, Some, None, refl, sym, ap, ◌∙◌, arith}
use Rattle.std.specs.Prelude.{◌&&◌, ◌||◌, ◌==◌, nat_le}
use Rattle.std.specs.List.{list_all}
use Rattle.std.proofs.lemmas.Bool.{leb-true, le-leb, eqb-true}
use Rattle.std.proofs.lemmas.Bool.Decides.{nat_tests}
use Rattle.ho_base.specs.Bytes.{u64_at}
use Rattle.ho_base.specs.declared.limits.TheConstants.{OUT_SLOTS}
use Rattle.record_frames.specs.Ram.{Ram, is_frame}
use Rattle.record_frames.specs.Sheets.{Sheet, SessionSlot}
use Rattle.record_frames.specs.Rules.{version_1, SLOTS, is_session_slot, is_session_sheet}
use Rattle.record_frames.specs.Reading.{Front, Layout, also, are_zero, front_at, items_at, go_on, chain_from, chain_at, sheet_at, session_slot_at, session_layout}
use Rattle.record_frames.specs.Slots.{kept_if, session_kept}
use Rattle.record_frames.specs.Fronts.{has_head, names_rise, session_front_at, one_sheet}

-- a frame that is alone in its chain
abbrev pub alone : {E : Type 0} → Option (List E) → Option (Front E)
alone None = None
alone (Some items) = Some (record { next = 0; items = items })

module _ {E : Type 0} where
  whole : (ram : Ram) (l : Layout E) (test : List (Sheet E) → List E → ℕ → Bool) (seen : List ℕ) (at : ℕ)
      → chain_at ram l test seen at ≡ chain_from (sheet_at ram l test seen) ram.count [] at
  unfolding chain_at
  whole ram l test seen at = refl

  -- a chain whose first frame has no next one
  pub alone_chain : (ram : Ram) (l : Layout E) (test : List (Sheet E) → List E → ℕ → Bool) (seen : List ℕ) (at : ℕ) (o : Option (List E)) → sheet_at ram l test seen [] at ≡ alone o
      → (ram.count ≡ 0 → o ≡ None) → chain_at ram l test seen at ≡ one_sheet at o
  alone_chain ram l test seen at o e none = whole ram l test seen at ∙ at_count ram.count none
    where
      of_option : (n : ℕ) (p : Option (List E)) → go_on [] at (chain_from (sheet_at ram l test seen) n) (alone p) ≡ one_sheet at p
      of_option n None = refl
      of_option n (Some items) = refl

      at_count : (n : ℕ) → (n ≡ 0 → o ≡ None) → chain_from (sheet_at ram l test seen) n [] at ≡ one_sheet at o
      at_count zero h = sym (ap (λ (p : Option (List E)). one_sheet at p) (h refl))
      at_count (suc n) h = ap (λ (p : Option (Front E)). go_on [] at (chain_from (sheet_at ram l test seen) n) p) e ∙ of_option n o

  -- items that keep a test are the items that are kept
  pub kept_items : (size : ℕ) (item : List ℕ → Option E) (test : E → Bool) (k : ℕ) (bytes : List ℕ)
      → items_at size (λ b. kept_if test (item b)) k bytes ≡ kept_if (list_all test) (items_at size item k bytes)
  kept_items size item test zero bytes = refl
  kept_items size item test (suc k) bytes =
      ap (λ (o : Option (List E)). also (kept_if test (item (take size bytes))) (λ x. also o (λ xs. Some (x ∷ xs)))) (kept_items size item test k (drop size bytes))
      ∙ first (item (take size bytes)) (items_at size item k (drop size bytes))
    where
      both : (x : E) (xs : List E) (b c : Bool)
          → also (cond b (Some x) None) (λ y. also (cond c (Some xs) None) (λ ys. Some (y ∷ ys))) ≡ cond (b && c) (Some (x ∷ xs)) None
      both x xs true true = refl
      both x xs true false = refl
      both x xs false c = refl

      first : (o : Option E) (p : Option (List E))
          → also (kept_if test o) (λ x. also (kept_if (list_all test) p) (λ xs. Some (x ∷ xs))) ≡ kept_if (list_all test) (also o (λ x. also p (λ xs. Some (x ∷ xs))))
      first None p = refl
      first (Some x) None = at_test (test x)
        where
          at_test : (b : Bool) → also (cond b (Some x) None) (λ y. also None (λ ys. Some (y ∷ ys))) ≡ None
          at_test true = refl
          at_test false = refl
      first (Some x) (Some xs) = both x xs (test x) (list_all test xs)

  pub items_long : (size : ℕ) (item : List ℕ → Option E) (k : ℕ) (bytes : List ℕ) (xs : List E) → items_at size item k bytes ≡ Some xs → length xs ≡ k
  items_long size item zero bytes [] e = refl
  items_long size item zero bytes (x ∷ xs) e = absurd cc
  items_long size item (suc k) bytes xs e = at_first (item (take size bytes)) (items_long size item k (drop size bytes)) e
    where
      at_rest : (x : E) (o : Option (List E)) → ((ys : List E) → o ≡ Some ys → length ys ≡ k) → also o (λ ys. Some (x ∷ ys)) ≡ Some xs → length xs ≡ suc k
      at_rest x None h e = absurd cc
      at_rest x (Some ys) h e = let s : x ∷ ys ≡ xs = cc in ap length (sym s) ∙ ap suc (h ys refl)

      at_first : (o : Option E) → ((ys : List E) → items_at size item k (drop size bytes) ≡ Some ys → length ys ≡ k)
          → also o (λ x. also (items_at size item k (drop size bytes)) (λ ys. Some (x ∷ ys))) ≡ Some xs → length xs ≡ suc k
      at_first None h e = absurd cc
      at_first (Some x) h e = at_rest x (items_at size item k (drop size bytes)) h e

-- ---- the session frame

pub and_true : (b : Bool) → (b && true) ≡ b
and_true true = refl
and_true false = refl

few : (k : ℕ) → nat_le k OUT_SLOTS ≡ true → nat_le k SLOTS ≡ true
few k h = le-leb k SLOTS (omega (arith, leb-true k OUT_SLOTS h))

abbrev session_test : ℕ → ℕ → List SessionSlot → ℕ → Bool
session_test long sum slots next =
    (nat_le long SLOTS && (next == 0 || (false && long == SLOTS))) && list_all (is_session_slot version_1) slots && nat_le sum OUT_SLOTS && names_rise slots

-- the tests of the frame, of its head, of how many slots there are, of each slot, and of their order
session_tests : (frame zeros few_31 few_16 each rise last : Bool) (f : Option (Front SessionSlot)) (slots : List SessionSlot) → (few_16 ≡ true → few_31 ≡ true)
    → (last ≡ true → f ≡ Some (record { next = 0; items = slots }))
    → cond frame (cond (few_31 && zeros) (cond ((few_31 && (last || false)) && each && few_16 && rise) f None) None) None
    ≡ alone (cond (frame && (last && zeros) && few_16) (kept_if (λ x. rise) (cond each (Some slots) None)) None)
session_tests false zeros few_31 few_16 each rise last f slots h e = refl
session_tests true zeros few_31 few_16 each rise true f slots h e = at_zeros zeros few_31 few_16 each rise h
  where
    no : false ≡ true → ⊥
    no x = cc

    at_zeros : (zeros few_31 few_16 each rise : Bool) → (few_16 ≡ true → few_31 ≡ true)
        → cond (few_31 && zeros) (cond ((few_31 && true) && each && few_16 && rise) f None) None ≡ alone (cond (zeros && few_16) (kept_if (λ x. rise) (cond each (Some slots) None)) None)
    at_zeros false true few_16 each rise h = refl
    at_zeros false false few_16 each rise h = refl
    at_zeros true true false true rise h = refl
    at_zeros true true false false rise h = refl
    at_zeros true true true true true h = e refl
    at_zeros true true true true false h = refl
    at_zeros true true true false rise h = refl
    at_zeros true false true each rise h = absurd (no (h refl))
    at_zeros true false false each rise h = refl
session_tests true zeros few_31 few_16 each rise false f slots h e = at_tests zeros few_31
  where
    at_tests : (zeros few_31 : Bool) → cond (few_31 && zeros) (cond ((few_31 && false) && each && few_16 && rise) f None) None ≡ None
    at_tests zeros false = refl
    at_tests true true = refl
    at_tests false true = refl

pub cond_none : {A : Type 0} (b : Bool) → cond {A = Option A} b None None ≡ None
cond_none true = refl
cond_none false = refl

pub zero_plus : (n : ℕ) → 0 + n ≡ n
zero_plus n = omega arith

session_steps : (ram : Ram) (at : ℕ) → sheet_at ram session_layout (is_session_sheet version_1) [] [] at
    ≡ cond (is_frame ram.count at && true)
    (also (cond (nat_le (u64_at (ram.page at) 8) SLOTS && are_zero (take 112 (drop 16 (ram.page at))))
    (also (items_at 128 session_slot_at (u64_at (ram.page at) 8) (drop 128 (ram.page at))) (λ items. Some (record { next = u64_at (ram.page at) 0; items = items }))) None)
    (λ f. cond (session_test (length f.items) (0 + length f.items) f.items f.next) (Some f) None)) None
unfolding sheet_at front_at
session_steps ram at = refl

session_reads : (ram : Ram) (at : ℕ) → session_front_at ram at
    ≡ cond (is_frame ram.count at && has_head (ram.page at) && nat_le (u64_at (ram.page at) 8) OUT_SLOTS)
    (kept_if names_rise (items_at 128 (λ b. kept_if (is_session_slot version_1) (session_slot_at b)) (u64_at (ram.page at) 8) (drop 128 (ram.page at)))) None
unfolding session_front_at session_kept
session_reads ram at = refl

pub also_cond : {E : Type 0} (b : Bool) (f : Front E) (g : Front E → Option (Front E)) → also (cond b (Some f) None) g ≡ cond b (g f) None
also_cond true f g = refl
also_cond false f g = refl

module _ (ram : Ram) (at : ℕ) where
  abbrev k : ℕ
  k = u64_at (ram.page at) 8

  abbrev next : ℕ
  next = u64_at (ram.page at) 0

  abbrev slots : Option (List SessionSlot)
  slots = items_at 128 session_slot_at k (drop 128 (ram.page at))

  abbrev frame : Bool
  frame = is_frame ram.count at

  abbrev zeros : Bool
  zeros = are_zero (take 112 (drop 16 (ram.page at)))

  abbrev few_31 : Bool
  few_31 = nat_le k SLOTS

  abbrev few_16 : Bool
  few_16 = nat_le k OUT_SLOTS

  abbrev whole_head : Bool
  whole_head = frame && has_head (ram.page at) && few_16

  abbrev each : List SessionSlot → Bool
  each xs = list_all (is_session_slot version_1) xs

  abbrev tested : Front SessionSlot → Option (Front SessionSlot)
  tested f = cond (session_test (length f.items) (0 + length f.items) f.items f.next) (Some f) None

  abbrev inside : Option (List SessionSlot) → Option (Front SessionSlot)
  inside o = cond (frame && true) (also (cond (few_31 && zeros) (also o (λ xs. Some (record { next = next; items = xs }))) None) tested) None

  abbrev kept : Option (List SessionSlot) → Option (List SessionSlot)
  kept o = cond whole_head (kept_if names_rise (kept_if each o)) None

  right : session_front_at ram at ≡ kept slots
  right = session_reads ram at ∙ ap (λ (o : Option (List SessionSlot)). cond whole_head (kept_if names_rise o) None) (kept_items 128 session_slot_at (is_session_slot version_1) k (drop 128 (ram.page at)))

  kept_twice : (xs : List SessionSlot) (b : Bool) → kept_if names_rise (cond b (Some xs) None) ≡ kept_if (λ x. names_rise xs) (cond b (Some xs) None)
  kept_twice xs true = refl
  kept_twice xs false = refl

  at_slots : (o : Option (List SessionSlot)) → slots ≡ o → inside o ≡ alone (kept o)
  at_slots None e =
      ap (λ (p : Option (Front SessionSlot)). cond (frame && true) (also p tested) None) (cond_none (few_31 && zeros))
      ∙ cond_none (frame && true) ∙ sym (ap (λ (p : Option (List SessionSlot)). alone p) (cond_none whole_head))
  at_slots (Some xs) e =
      let f : Front SessionSlot = record { next = next; items = xs } in
      let rise : Bool = names_rise xs in
      ap (λ (b : Bool). cond b (also (cond (few_31 && zeros) (Some f) None) tested) None) (and_true frame)
      ∙ ap (λ (p : Option (Front SessionSlot)). cond frame p None) (also_cond (few_31 && zeros) f tested)
      ∙ ap (λ (n : ℕ). cond frame (cond (few_31 && zeros) (cond (session_test n (0 + n) xs next) (Some f) None) None) None) (items_long 128 session_slot_at k (drop 128 (ram.page at)) xs e)
      ∙ ap (λ (n : ℕ). cond frame (cond (few_31 && zeros) (cond (session_test k n xs next) (Some f) None) None) None) (zero_plus k)
      ∙ session_tests frame zeros few_31 few_16 (each xs) rise (next == 0) (Some f) xs (few k) (λ h. ap (λ (n : ℕ). Some (record { next = n; items = xs })) (eqb-true next 0 h))
      ∙ sym (ap (λ (p : Option (List SessionSlot)). alone (cond whole_head p None)) (kept_twice xs (each xs)))

  pub session_sheet_is : sheet_at ram session_layout (is_session_sheet version_1) [] [] at ≡ alone (session_front_at ram at)
  session_sheet_is = session_steps ram at ∙ ap inside refl ∙ at_slots slots refl ∙ sym (ap (λ (p : Option (List SessionSlot)). alone p) right)

  no_frame : ram.count ≡ 0 → session_front_at ram at ≡ None
  no_frame h =
      let out : frame ≡ false = grind (arith, nat_tests) in
      session_reads ram at ∙ ap (λ (b : Bool). cond (b && has_head (ram.page at) && few_16) (kept_if names_rise (items_at 128 (λ b. kept_if (is_session_slot version_1) (session_slot_at b)) k (drop 128 (ram.page at)))) None) out

  -- the session frame alone is the whole chain
  pub session_chain : chain_at ram session_layout (is_session_sheet version_1) [] at ≡ one_sheet at (session_front_at ram at)
  session_chain = alone_chain ram session_layout (is_session_sheet version_1) [] at (session_front_at ram at) session_sheet_is no_frame
