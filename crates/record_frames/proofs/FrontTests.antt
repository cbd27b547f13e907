-- The tests of a session frame one after another.
use Rattle.std.proofs.Common.{◌≡◌, ℕ, ◌<◌, arith, Bool, true, false, cond, List, [], ◌∷◌, length, drop, Option, Some, None, refl, sym, ap, ◌∙◌}
use Rattle.std.specs.Prelude.{◌&&◌, nat_le}
use Rattle.std.proofs.lemmas.Bool.Decides.{nat_tests}
use Rattle.ho_base.specs.Bytes.{u64_at}
use Rattle.ho_base.specs.declared.limits.TheConstants.{OUT_SLOTS}
use Rattle.record_frames.specs.Ram.{Ram, is_frame}
use Rattle.record_frames.specs.Sheets.{SessionSlot}
use Rattle.record_frames.specs.Rules.{bytes_before}
use Rattle.record_frames.specs.Reading.{items_at}
use Rattle.record_frames.specs.Slots.{kept_if, session_kept}
use Rattle.record_frames.specs.Fronts.{has_head, names_rise, session_front_at}

module _ (ram : Ram) (at : ℕ) where
  abbrev pub slots_at : Option (List SessionSlot)
  slots_at = kept_if names_rise (items_at 128 session_kept (u64_at (ram.page at) 8) (drop 128 (ram.page at)))

  steps : session_front_at ram at ≡ cond (is_frame ram.count at && has_head (ram.page at) && nat_le (u64_at (ram.page at) 8) OUT_SLOTS) slots_at None
  unfolding session_front_at
  steps = refl

  pub no_frame : is_frame ram.count at ≡ false → session_front_at ram at ≡ None
  no_frame h = steps ∙ ap (λ (b : Bool). cond (b && has_head (ram.page at) && nat_le (u64_at (ram.page at) 8) OUT_SLOTS) slots_at None) h

  pub no_head : is_frame ram.count at ≡ true → has_head (ram.page at) ≡ false → session_front_at ram at ≡ None
  no_head h z =
      steps ∙ ap (λ (b : Bool). cond (b && has_head (ram.page at) && nat_le (u64_at (ram.page at) 8) OUT_SLOTS) slots_at None) h
      ∙ ap (λ (b : Bool). cond (true && b && nat_le (u64_at (ram.page at) 8) OUT_SLOTS) slots_at None) z

  pub with_count : is_frame ram.count at ≡ true → has_head (ram.page at) ≡ true
      → session_front_at ram at ≡ cond (nat_le (u64_at (ram.page at) 8) OUT_SLOTS) slots_at None
  with_count h z =
      steps ∙ ap (λ (b : Bool). cond (b && has_head (ram.page at) && nat_le (u64_at (ram.page at) 8) OUT_SLOTS) slots_at None) h
      ∙ ap (λ (b : Bool). cond (true && b && nat_le (u64_at (ram.page at) 8) OUT_SLOTS) slots_at None) z

-- nothing stands before no bytes
pub before_none : (a b : List ℕ) → length b ≡ 0 → bytes_before a b ≡ false
before_none [] [] e = refl
before_none (x ∷ a) [] e = refl
before_none a (x ∷ b) e = absurd (omega (arith, e))

-- what is read of a session frame that keeps the tests of its head
pub front_read : (ram : Ram) (at k : ℕ) (page rest : List ℕ) (b : Bool) (o : Option (List SessionSlot)) → page ≡ ram.page at → k ≡ u64_at page 8 → rest ≡ drop 128 page → is_frame ram.count at ≡ true
    → has_head page ≡ true → nat_le k OUT_SLOTS ≡ b → items_at 128 session_kept k rest ≡ o → session_front_at ram at ≡ cond b (kept_if names_rise o) None
front_read ram at k page rest b o is_page is_k is_rest frame head few items =
    let k_at : k ≡ u64_at (ram.page at) 8 = is_k ∙ ap (λ (l : List ℕ). u64_at l 8) is_page in
    let rest_at : rest ≡ drop 128 (ram.page at) = is_rest ∙ ap (λ (l : List ℕ). drop 128 l) is_page in
    with_count ram at frame (ap has_head (sym is_page) ∙ head)
    ∙ ap (λ (n : ℕ). cond (nat_le n OUT_SLOTS) (kept_if names_rise (items_at 128 session_kept n (drop 128 (ram.page at)))) None) (sym k_at)
    ∙ ap (λ (l : List ℕ). cond (nat_le k OUT_SLOTS) (kept_if names_rise (items_at 128 session_kept k l)) None) (sym rest_at)
    ∙ ap (λ (t : Bool). cond t (kept_if names_rise (items_at 128 session_kept k rest)) None) few
    ∙ ap (λ (p : Option (List SessionSlot)). cond b (kept_if names_rise p) None) items

pub many : (k : ℕ) → OUT_SLOTS < k → nat_le k OUT_SLOTS ≡ false
many k h = grind (arith, nat_tests)

pub names_kept : (xs : List SessionSlot) (b : Bool) → names_rise xs ≡ b → kept_if names_rise (Some xs) ≡ cond b (Some xs) None
names_kept xs b h = ap (λ (t : Bool). cond t (Some xs) None) h
