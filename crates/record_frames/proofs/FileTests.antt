-- The tests of a file frame one after another.
use Rattle.std.proofs.Common.{◌≡◌, ℕ, Bool, true, false, cond, List, drop, Option, None, refl, sym, ap, subst, ◌∙◌}
use Rattle.std.specs.Prelude.{not, ◌&&◌, nat_eq, Result, IfOk}
use Rattle.std.specs.List.{list_any}
use Rattle.ho_base.specs.Bytes.{u64_at}
use Rattle.record_frames.specs.Ram.{Ram, is_frame}
use Rattle.record_frames.specs.Sheets.{FileSlot}
use Rattle.record_frames.specs.Reading.{items_at}
use Rattle.record_frames.specs.Slots.{Gives, kept_if, file_kept}
use Rattle.record_frames.specs.Fronts.{has_head, has_slots, tokens_rise, file_front_at}

module _ (ram : Ram) (before files : ℕ) (seen : List ℕ) (at : ℕ) where
  abbrev slots_at : Option (List FileSlot)
  slots_at = kept_if tokens_rise (items_at 128 file_kept files (drop 128 (ram.page at)))

  abbrev tested : Bool → Bool → Bool → Bool → Option (List FileSlot)
  tested frame read head slots = cond (frame && not read && head && slots) slots_at None

  abbrev slots_test : Bool
  slots_test = has_slots (u64_at (ram.page at) 8) before files

  steps : file_front_at ram before files seen at ≡ tested (is_frame ram.count at) (list_any (nat_eq at) seen) (has_head (ram.page at)) slots_test
  unfolding file_front_at
  steps = refl

  pub no_frame : is_frame ram.count at ≡ false → file_front_at ram before files seen at ≡ None
  no_frame h = steps ∙ ap (λ (b : Bool). tested b (list_any (nat_eq at) seen) (has_head (ram.page at)) slots_test) h

  fresh : is_frame ram.count at ≡ true → (r : Bool) → list_any (nat_eq at) seen ≡ r → file_front_at ram before files seen at ≡ tested true r (has_head (ram.page at)) slots_test
  fresh h r e =
      steps ∙ ap (λ (b : Bool). tested b (list_any (nat_eq at) seen) (has_head (ram.page at)) slots_test) h
      ∙ ap (λ (b : Bool). tested true b (has_head (ram.page at)) slots_test) e

  pub was_read : is_frame ram.count at ≡ true → list_any (nat_eq at) seen ≡ true → file_front_at ram before files seen at ≡ None
  was_read h e = fresh h true e

  headed : is_frame ram.count at ≡ true → list_any (nat_eq at) seen ≡ false → (z : Bool) → has_head (ram.page at) ≡ z → file_front_at ram before files seen at ≡ tested true false z slots_test
  headed h r z e = fresh h false r ∙ ap (λ (b : Bool). tested true false b slots_test) e

  pub no_head : is_frame ram.count at ≡ true → list_any (nat_eq at) seen ≡ false → has_head (ram.page at) ≡ false → file_front_at ram before files seen at ≡ None
  no_head h r e = headed h r false e

  counted : is_frame ram.count at ≡ true → list_any (nat_eq at) seen ≡ false → has_head (ram.page at) ≡ true → (s : Bool) → slots_test ≡ s → file_front_at ram before files seen at ≡ tested true false true s
  counted h r z s e = headed h r true z ∙ ap (λ (b : Bool). tested true false true b) e

  pub no_slots : is_frame ram.count at ≡ true → list_any (nat_eq at) seen ≡ false → has_head (ram.page at) ≡ true → slots_test ≡ false → file_front_at ram before files seen at ≡ None
  no_slots h r z e = counted h r z false e

  -- what is read of a file frame that keeps its tests
  pub with_slots : (page rest : List ℕ) → page ≡ ram.page at → rest ≡ drop 128 page → is_frame ram.count at ≡ true → list_any (nat_eq at) seen ≡ false → has_head page ≡ true
      → has_slots (u64_at page 8) before files ≡ true → file_front_at ram before files seen at ≡ kept_if tokens_rise (items_at 128 file_kept files rest)
  with_slots page rest is_page is_rest h r z s =
      let rest_at : drop 128 (ram.page at) ≡ rest = ap (λ (l : List ℕ). drop 128 l) (sym is_page) ∙ sym is_rest in
      counted h r (ap has_head (sym is_page) ∙ z) true (ap (λ (l : List ℕ). has_slots (u64_at l 8) before files) (sym is_page) ∙ s)
      ∙ ap (λ (l : List ℕ). kept_if tokens_rise (items_at 128 file_kept files l)) rest_at

-- what is given of one thing is given of what is equal to it
pub given_in : {X Y E : Type 0} (view : X → Y) (r : Result (Option X) E) (p read : Option Y) → read ≡ p → IfOk r (λ o. Gives view o p) → IfOk r (λ o. Gives view o read)
given_in {X = X} {Y = Y} view r p read e h = let P : Option Y → Type 0 = λ x. IfOk r (λ o. Gives view o x) in subst P (sym e) h
