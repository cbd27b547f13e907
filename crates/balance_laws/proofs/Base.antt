-- Facts on options and tests, and the parts of a world that is as the parts say.
use Rattle.std.proofs.Common.{◌≡◌, ℕ, ◌-◌, ◌<◌, ◌≤◌, Bool, true, false, nat_lt, refl, sym, ap, subst, ◌∙◌, arith}
use Rattle.std.specs.Prelude.{Option, None, Some, unwrap_or}
use Rattle.std.proofs.lemmas.Bool.Decides.{nat_tests}
use Rattle.ho_base.specs.Objects.{pool_no, registry_no, session_no, file_no}
use Rattle.ho_base.specs.declared.limits.TheConstants.{FILES}
use Rattle.ho_events.specs.Session.{Free}
use Rattle.ho_world.specs.Balance.{SLOTS}
use Rattle.ho_world.specs.Sequences.{Labels}
use Rattle.ho_world.specs.World.{Nothing, SessionIn, FileIn, World, pool_in, registry_in, session_in, file_in}
use Rattle.balance_laws.specs.Parts.{Parts, parts_of, state_at}
use Rattle.balance_laws.specs.Sound.{AreSound, Sound}

pub same_value : {T : Type 0} (x y : T) → Some x ≡ Some y → x ≡ y
same_value x y e = ap (λ o. unwrap_or o x) e

pub not_some : {T : Type 0} (t : T) → ◌≡◌ {A = Option T} None (Some t) → ⊥
not_some t e = cc

pub clash : true ≡ false → ⊥
clash e = cc

module _ (x : Parts) where
  pub at_session : (n : ℕ) → session_no 0 ≤ n → n < file_no 0 → state_at x n ≡ SessionIn (x.sessions (n - session_no 0))
  at_session n above below = grind (arith, nat_tests)

  pub at_file : (n : ℕ) → file_no 0 ≤ n → n < file_no FILES → state_at x n ≡ FileIn (x.files (n - file_no 0))
  at_file n above below = grind (arith, nat_tests)

  pub at_past : (n : ℕ) → file_no FILES ≤ n → state_at x n ≡ Nothing
  at_past n above = grind (arith, nat_tests)

  -- what each slot and each file has, by their numbers
  pub slot_view : (s : ℕ) → ((s : ℕ) → SLOTS ≤ s → x.sessions s ≡ Free) → session_in (state_at x (session_no s)) ≡ x.sessions s
  slot_view s last = by_order (nat_lt s SLOTS) refl
    where
      by_order : (b : Bool) → nat_lt s SLOTS ≡ b → session_in (state_at x (session_no s)) ≡ x.sessions s
      by_order true e =
          let less : s < SLOTS = grind (arith, nat_tests, e) in
          let same : session_no s - session_no 0 ≡ s = omega arith in
          ap session_in (at_session (session_no s) (omega arith) (omega (arith, less))) ∙ ap x.sessions same
      by_order false e =
          let more : SLOTS ≤ s = grind (arith, nat_tests, e) in
          past (nat_lt (session_no s) (file_no FILES)) refl more ∙ sym (last s more)
        where
          past : (b : Bool) → nat_lt (session_no s) (file_no FILES) ≡ b → SLOTS ≤ s → session_in (state_at x (session_no s)) ≡ Free
          past true e more =
              let less : session_no s < file_no FILES = grind (arith, nat_tests, e) in
              ap session_in (at_file (session_no s) (omega (arith, more)) less)
          past false e more =
              let above : file_no FILES ≤ session_no s = grind (arith, nat_tests, e) in
              ap session_in (at_past (session_no s) above)

  pub file_view : (f : ℕ) → ((f : ℕ) → FILES ≤ f → x.files f ≡ None) → file_in (state_at x (file_no f)) ≡ x.files f
  file_view f last = by_order (nat_lt f FILES) refl
    where
      by_order : (b : Bool) → nat_lt f FILES ≡ b → file_in (state_at x (file_no f)) ≡ x.files f
      by_order true e =
          let less : f < FILES = grind (arith, nat_tests, e) in
          let same : file_no f - file_no 0 ≡ f = omega arith in
          ap file_in (at_file (file_no f) (omega arith) (omega (arith, less))) ∙ ap x.files same
      by_order false e =
          let more : FILES ≤ f = grind (arith, nat_tests, e) in
          ap file_in (at_past (file_no f) (omega (arith, more))) ∙ sym (last f more)

-- a world whose objects are in the states of sound parts is sound
pub sound_as : (w : World) (x : Parts) (labels : ℕ → Labels) → ((o : ℕ) → w.at o ≡ state_at x o) → AreSound x labels → Sound w labels
sound_as w x labels states sound = record {
  sorts = λ o. states o ∙ ap (λ y. state_at y o) (sym same);
  parts = subst (λ y. AreSound y labels) (sym same) sound;
}
  where
    same : parts_of w ≡ x
    same = λ j. record {
      pool = pool_same j;
      registry = registry_same j;
      sessions = λ s. (ap session_in (states (session_no s)) ∙ slot_view x s sound.last_slot) j;
      files = λ f. (ap file_in (states (file_no f)) ∙ file_view x f sound.last_file) j;
    }
      where
        pool_same : (parts_of w).pool ≡ x.pool
        pool_same = ap pool_in (states pool_no)

        registry_same : (parts_of w).registry ≡ x.registry
        registry_same = ap registry_in (states registry_no)
