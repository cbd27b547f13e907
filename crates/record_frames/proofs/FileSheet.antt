-- In version 1 a file frame is the only one of its chain, and is as the program reads it.
use Rattle.std.proofs.Common.{◌≡◌, ℕ, ◌+◌, eqb, Bool, true, false, cond, List, [], ◌++◌, length, take, drop, Option, Some, None, refl, sym, ap, ◌∙◌, arith, append-nil}
use Rattle.std.specs.Prelude.{not, ◌&&◌, ◌||◌, ◌==◌, nat_lt, nat_le, nat_eq}
use Rattle.std.specs.List.{list_all, list_any}
use Rattle.std.proofs.lemmas.Bool.{eqb-true}
use Rattle.std.proofs.lemmas.Bool.Decides.{nat_tests}
use Rattle.ho_base.specs.Bytes.{u64_at}
use Rattle.ho_base.specs.declared.limits.TheConstants.{SESSION_FILES, FILES}
use Rattle.record_frames.specs.Ram.{Ram, is_frame}
use Rattle.record_frames.specs.Sheets.{FileSlot}
use Rattle.record_frames.specs.Rules.{version_1, SLOTS, is_file_slot, is_file_sheet}
use Rattle.record_frames.specs.Reading.{Front, also, are_zero, front_at, items_at, chain_at, sheet_at, file_slot_at, file_layout}
use Rattle.record_frames.specs.Slots.{kept_if, file_kept}
use Rattle.record_frames.specs.Fronts.{has_head, tokens_rise, file_front_at, one_sheet}
use Rattle.record_frames.proofs.OneSheet.{alone, alone_chain, kept_items, items_long, zero_plus, cond_none, also_cond}

-- the tests of a frame with so many slots
abbrev file_test : ℕ → ℕ → ℕ → ℕ → List FileSlot → ℕ → Bool
file_test before files long sum slots next =
    (nat_le long SLOTS && (next == 0 || (false && long == SLOTS))) && list_all is_file_slot slots && nat_le sum SESSION_FILES
    && nat_le (before + sum) FILES && tokens_rise slots && (nat_lt 0 next || sum == files)

-- the tests of the frame, of its head, of how many slots there are, of each slot, and of their order
file_tests : (fresh zeros few all each rise count last more : Bool) (f : Option (Front FileSlot)) (slots : List FileSlot) → (last ≡ true → more ≡ false)
    → (last ≡ true → f ≡ Some (record { next = 0; items = slots }))
    → cond fresh (cond (few && zeros) (cond ((few && (last || false)) && each && few && all && rise && (more || count)) f None) None) None
    ≡ alone (cond (fresh && (last && zeros) && (count && few && all)) (kept_if (λ x. rise) (cond each (Some slots) None)) None)
file_tests false zeros few all each rise count last more f slots m e = refl
file_tests true zeros few all each rise count false more f slots m e = at_tests zeros few
  where
    at_tests : (zeros few : Bool) → cond (few && zeros) (cond ((few && false) && each && few && all && rise && (more || count)) f None) None ≡ None
    at_tests zeros false = refl
    at_tests true true = refl
    at_tests false true = refl
file_tests true zeros few all each rise count true more f slots m e =
    ap (λ (b : Bool). cond (few && zeros) (cond ((few && true) && each && few && all && rise && (b || count)) f None) None) (m refl) ∙ at_tests zeros few all each rise count
  where
    at_tests : (zeros few all each rise count : Bool) → cond (few && zeros) (cond ((few && true) && each && few && all && rise && (false || count)) f None) None
        ≡ alone (cond (zeros && (count && few && all)) (kept_if (λ x. rise) (cond each (Some slots) None)) None)
    at_tests false false all each rise count = refl
    at_tests false true all each rise count = refl
    at_tests true false all each rise false = refl
    at_tests true false all each rise true = refl
    at_tests true true all false rise false = refl
    at_tests true true false false rise true = refl
    at_tests true true true false rise true = refl
    at_tests true true false true rise false = refl
    at_tests true true false true rise true = refl
    at_tests true true true true false false = refl
    at_tests true true true true false true = refl
    at_tests true true true true true false = refl
    at_tests true true true true true true = e refl

module _ (ram : Ram) (before files : ℕ) (seen : List ℕ) (at : ℕ) where
  abbrev k : ℕ
  k = u64_at (ram.page at) 8

  abbrev next : ℕ
  next = u64_at (ram.page at) 0

  abbrev rest : List ℕ
  rest = drop 128 (ram.page at)

  abbrev slots : Option (List FileSlot)
  slots = items_at 128 file_slot_at k rest

  abbrev fresh : Bool
  fresh = is_frame ram.count at && not (list_any (nat_eq at) seen)

  abbrev zeros : Bool
  zeros = are_zero (take 112 (drop 16 (ram.page at)))

  abbrev few : ℕ → Bool
  few m = nat_le m SESSION_FILES

  abbrev all : ℕ → Bool
  all m = nat_le (before + m) FILES

  abbrev tested : Front FileSlot → Option (Front FileSlot)
  tested f = cond (file_test before files (length f.items) (0 + length f.items) f.items f.next) (Some f) None

  abbrev inside : List ℕ → Option (List FileSlot) → Option (Front FileSlot)
  inside numbers o =
      cond (is_frame ram.count at && not (list_any (nat_eq at) numbers))
      (also (cond (few k && zeros) (also o (λ xs. Some (record { next = next; items = xs }))) None) tested) None

  file_steps : sheet_at ram file_layout (is_file_sheet version_1 before files) seen [] at ≡ inside (seen ++ []) slots
  unfolding sheet_at front_at
  file_steps = refl

  abbrev kept : Option (List FileSlot) → Option (List FileSlot)
  kept o = kept_if tokens_rise (kept_if (list_all is_file_slot) o)

  abbrev head : Bool
  head = fresh && has_head (ram.page at)

  file_reads : file_front_at ram before files seen at
      ≡ cond (head && (k == files && few files && all files)) (kept_if tokens_rise (items_at 128 (λ b. kept_if is_file_slot (file_slot_at b)) files rest)) None
  unfolding file_front_at file_kept
  file_reads = refl

  gone : (b c d : Bool) (o : Option (List FileSlot)) → cond (b && (false && c && d)) o None ≡ None
  gone true c d o = refl
  gone false c d o = refl

  swap : (count : Bool) → eqb k files ≡ count
      → cond (head && (count && few k && all k)) (kept slots) None ≡ cond (head && (count && few files && all files)) (kept (items_at 128 file_slot_at files rest)) None
  swap true e = ap (λ (m : ℕ). cond (head && (true && few m && all m)) (kept (items_at 128 file_slot_at m rest)) None) (eqb-true k files e)
  swap false e = gone head (few k) (all k) (kept slots) ∙ sym (gone head (few files) (all files) (kept (items_at 128 file_slot_at files rest)))

  kept_twice : (xs : List FileSlot) (b : Bool) → kept_if (λ x. tokens_rise xs) (cond b (Some xs) None) ≡ kept_if tokens_rise (cond b (Some xs) None)
  kept_twice xs true = refl
  kept_twice xs false = refl

  at_slots : (o : Option (List FileSlot)) → slots ≡ o → inside seen o ≡ alone (cond (head && (k == files && few k && all k)) (kept o) None)
  at_slots None e =
      ap (λ (p : Option (Front FileSlot)). cond fresh (also p tested) None) (cond_none (few k && zeros))
      ∙ cond_none fresh ∙ sym (ap (λ (p : Option (List FileSlot)). alone p) (cond_none (head && (k == files && few k && all k))))
  at_slots (Some xs) e =
      let f : Front FileSlot = record { next = next; items = xs } in
      ap (λ (p : Option (Front FileSlot)). cond fresh p None) (also_cond (few k && zeros) f tested)
      ∙ ap (λ (n : ℕ). cond fresh (cond (few k && zeros) (cond (file_test before files n (0 + n) xs next) (Some f) None) None) None) (items_long 128 file_slot_at k rest xs e)
      ∙ ap (λ (n : ℕ). cond fresh (cond (few k && zeros) (cond (file_test before files k n xs next) (Some f) None) None) None) (zero_plus k)
      ∙ file_tests fresh zeros (few k) (all k) (list_all is_file_slot xs) (tokens_rise xs) (k == files) (next == 0) (nat_lt 0 next) (Some f) xs (λ h. ap (nat_lt 0) (eqb-true next 0 h))
      (λ h. ap (λ (n : ℕ). Some (record { next = n; items = xs })) (eqb-true next 0 h))
      ∙ ap (λ (p : Option (List FileSlot)). alone (cond (head && (k == files && few k && all k)) p None)) (kept_twice xs (list_all is_file_slot xs))

  file_sheet_is : sheet_at ram file_layout (is_file_sheet version_1 before files) seen [] at ≡ alone (file_front_at ram before files seen at)
  file_sheet_is =
      file_steps ∙ ap (λ (l : List ℕ). inside l slots) (append-nil seen) ∙ at_slots slots refl
      ∙ ap (λ (p : Option (List FileSlot)). alone p) (swap (k == files) refl
      ∙ ap (λ (p : Option (List FileSlot)). cond (head && (k == files && few files && all files)) (kept_if tokens_rise p) None) (sym (kept_items 128 file_slot_at is_file_slot files rest))
      ∙ sym file_reads)

  no_frame : ram.count ≡ 0 → file_front_at ram before files seen at ≡ None
  no_frame h =
      let out : is_frame ram.count at ≡ false = grind (arith, nat_tests) in
      file_reads ∙ ap (λ (b : Bool). cond (b && not (list_any (nat_eq at) seen) && has_head (ram.page at) && (k == files && few files && all files))
      (kept_if tokens_rise (items_at 128 (λ b. kept_if is_file_slot (file_slot_at b)) files rest)) None) out

  -- the file frame alone is the whole chain
  pub file_chain : chain_at ram file_layout (is_file_sheet version_1 before files) seen at ≡ one_sheet at (file_front_at ram before files seen at)
  file_chain = alone_chain ram file_layout (is_file_sheet version_1 before files) seen at (file_front_at ram before files seen at) file_sheet_is no_frame
