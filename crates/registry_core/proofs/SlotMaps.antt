-- The slots of ready names, as maps.
use Rattle.std.proofs.Common.{◌≡◌, ℕ, ◌||◌, Bool, true, false, cond, List, [], ◌∷◌, refl, ap, sym, ◌∙◌, is_some, subst, Ordering}
use Rattle.std.specs.Prelude.{Option, None, Some, option_map}
use Rattle.std.specs.List.{list_any, AllByRecursion, IsDistinct}
use Rattle.std.specs.Map.{keys_of, lookup}
use Rattle.std.specs.Option.{unwrap_or, IfSome}
use Rattle.std.specs.Ordering.{nat_cmp, eq_by_cmp}
use Rattle.std.specs.Cmp.Lexicographic.{slice_cmp, nat_list_cmp_total, nat_list_eq_equiv, texts_ties, same_text}
use Rattle.std.specs.FinMap as finmap
use Rattle.std.specs.FinSet as finset
use Rattle.std.specs.FinMap.{find}
use Rattle.std.proofs.lemmas.Map.Keys.{IsDistinct-head, IsDistinct-tail}
use Rattle.ho_base.specs.declared.numbers.SlotNo.{SlotNo}
use Rattle.ho_events.specs.Lists.{same_bytes}
use Rattle.registry_core.specs.declared.parts.Slots.{Slots}
use Rattle.registry_core.specs.NameSlots.{no_slots, slots_at}
use Rattle.registry_core.specs.Registries.{IsInSlot}
use Rattle.registry_core.specs.RegistryShown.{with_slot, numbered, slots_of, names_of, AreIncoming}

abbrev Names : Type 0
Names = List (List ℕ × Slots)

abbrev number : SlotNo → ℕ
number s = s.0

abbrev cmp : List ℕ → List ℕ → Ordering
cmp = slice_cmp nat_cmp

-- bytes that are the same
tied : (q n : List ℕ) → eq_by_cmp cmp q n ≡ same_bytes q n
tied q n = sym (texts_ties q n)

turned : (a b : List ℕ) → same_bytes a b ≡ same_bytes b a
turned a b = nat_list_eq_equiv.symm a b

pub same_name : (a b : List ℕ) → same_bytes a b ≡ true → a ≡ b
same_name a b h = same_text a b (sym h)

-- what is found under a name: where it comes first, and where another does
with_hit : (q name : List ℕ) (o : Option SlotNo) (rest : List (List ℕ × ℕ)) → eq_by_cmp cmp q name ≡ true → find cmp q rest ≡ None → find cmp q (with_slot name o rest) ≡ option_map number o
with_hit q name None rest h none = none
with_hit q name (Some x) rest h none = ap (λ b. cond b (Some x.0) (find cmp q rest)) h

with_miss : (q name : List ℕ) (o : Option SlotNo) (rest : List (List ℕ × ℕ)) → eq_by_cmp cmp q name ≡ false → find cmp q (with_slot name o rest) ≡ find cmp q rest
with_miss q name None rest h = refl
with_miss q name (Some x) rest h = ap (λ b. cond b (Some x.0) (find cmp q rest)) h

pub no_lookup : {V : Type 0} (test : List ℕ → Bool) (es : List (List ℕ × V)) → AllByRecursion (λ y. test y ≡ false) (keys_of es) → lookup test es ≡ None
no_lookup test [] h = refl
no_lookup test (e ∷ es) h = ap (λ b. cond b (Some e.1) (lookup test es)) h.0 ∙ no_lookup test es h.1

-- the slot of one kind under a name
module _ (kind : Slots → Option SlotNo) (nothing : kind no_slots ≡ None) where
  find_numbered : (names : Names) → IsDistinct same_bytes (keys_of names) → (q : List ℕ) → find cmp q (numbered kind names) ≡ option_map number (kind (slots_at names q))
  find_numbered [] apart q = sym (ap (option_map number) nothing)
  find_numbered (e ∷ names) apart q =
      let rest = find_numbered names (IsDistinct-tail same_bytes e.0 (keys_of names) apart) q in
      elim (same_bytes q e.0) as (λ b. same_bytes q e.0 ≡ b → find cmp q (with_slot e.0 (kind e.1) (numbered kind names)) ≡ option_map number (kind (unwrap_or (cond b (Some e.1) (lookup (same_bytes q) names)) no_slots))) [
        | true ↦ λ t.
            let none : lookup (same_bytes q) names ≡ None = no_lookup (same_bytes q) names (subst (λ x. AllByRecursion (λ y. same_bytes x y ≡ false) (keys_of names)) (sym (same_name q e.0 t)) (IsDistinct-head same_bytes e.0 (keys_of names) apart)) in
            with_hit q e.0 (kind e.1) (numbered kind names) (tied q e.0 ∙ t) (rest ∙ ap (λ o. option_map number (kind (unwrap_or o no_slots))) none ∙ ap (option_map number) nothing)
        | false ↦ λ f. with_miss q e.0 (kind e.1) (numbered kind names) (tied q e.0 ∙ f) ∙ rest
      ] refl

  pub get_slots : (names : Names) → IsDistinct same_bytes (keys_of names) → (q : List ℕ) → finmap.get (slots_of kind names) q ≡ option_map number (kind (slots_at names q))
  unfolding slots_of
  get_slots names apart q = finmap.get-from_entries nat_list_cmp_total (numbered kind names) q ∙ find_numbered names apart q

-- a name's slots are written: under it stand these, and under every other name what stood there
abbrev pub IsWritten : Names → Names → List ℕ → Slots → Type 0
IsWritten old new name slots = (q : List ℕ) → lookup (same_bytes q) new ≡ cond (same_bytes name q) (Some slots) (lookup (same_bytes q) old)

written_slots : (b : Bool) (s : Slots) (o : Option Slots) → unwrap_or (cond b (Some s) o) no_slots ≡ cond b s (unwrap_or o no_slots)
written_slots true s o = refl
written_slots false s o = refl

-- the incoming slots of names once one is written
slots_after : (old new : Names) (name : List ℕ) (slots : Slots) → IsWritten old new name slots → (q : List ℕ) → slots_at new q ≡ cond (same_bytes name q) slots (slots_at old q)
slots_after old new name slots written q = ap (λ o. unwrap_or o no_slots) (written q) ∙ written_slots (same_bytes name q) slots (lookup (same_bytes q) old)

abbrev BothIn : Slots → Type 0
BothIn s = IfSome s.waiting IsInSlot × IfSome s.opened IsInSlot

both_in : (b : Bool) (s t : Slots) → BothIn s → BothIn t → BothIn (cond b s t)
both_in true s t h g = h
both_in false s t h g = g

pub incoming_written : (old new : Names) (name : List ℕ) (slots : Slots) → IsWritten old new name slots → AreIncoming old → IfSome slots.waiting IsInSlot × IfSome slots.opened IsInSlot → AreIncoming new
incoming_written old new name slots written are h q = subst BothIn (sym (slots_after old new name slots written q)) (both_in (same_bytes name q) slots (slots_at old q) h (are q))

of_either : (kind : Slots → Option SlotNo) (b : Bool) (s t : Slots) → option_map number (kind (cond b s t)) ≡ cond b (option_map number (kind s)) (option_map number (kind t))
of_either kind true s t = refl
of_either kind false s t = refl

module _ (kind : Slots → Option SlotNo) (nothing : kind no_slots ≡ None) (old new : Names) (name : List ℕ) (slots : Slots)
    (unique_old : IsDistinct same_bytes (keys_of old)) (unique_new : IsDistinct same_bytes (keys_of new)) (written : IsWritten old new name slots) where
  get_written : (q : List ℕ) → finmap.get (slots_of kind new) q ≡ cond (same_bytes name q) (option_map number (kind slots)) (finmap.get (slots_of kind old) q)
  get_written q =
      get_slots kind nothing new unique_new q
      ∙ ap (λ o. option_map number (kind (unwrap_or o no_slots))) (written q)
      ∙ ap (λ s. option_map number (kind s)) (written_slots (same_bytes name q) slots (lookup (same_bytes q) old))
      ∙ of_either kind (same_bytes name q) slots (slots_at old q)
      ∙ ap (cond (same_bytes name q) (option_map number (kind slots))) (sym (get_slots kind nothing old unique_old q))

  tied_name : (q : List ℕ) → same_bytes name q ≡ eq_by_cmp cmp q name
  tied_name q = turned name q ∙ sym (tied q name)

  pub slots_put : (slot : SlotNo) → kind slots ≡ Some slot → slots_of kind new ≡ finmap.insert (slots_of kind old) name slot.0
  slots_put slot h =
      finmap.same_map nat_list_cmp_total (finmap.slice_cmp-IsAntisymmetric finmap.nat_cmp-IsAntisymmetric) _ _
      (λ q. get_written q ∙ ap (λ o. cond (same_bytes name q) (option_map number o) (finmap.get (slots_of kind old) q)) h
      ∙ ap (λ b. cond b (Some slot.0) (finmap.get (slots_of kind old) q)) (tied_name q)
      ∙ sym (finmap.get-insert nat_list_cmp_total (slots_of kind old) name slot.0 q))

  pub slots_cleared : kind slots ≡ None → slots_of kind new ≡ finmap.remove (slots_of kind old) name
  slots_cleared h =
      finmap.same_map nat_list_cmp_total (finmap.slice_cmp-IsAntisymmetric finmap.nat_cmp-IsAntisymmetric) _ _
      (λ q. get_written q ∙ ap (λ o. cond (same_bytes name q) (option_map number o) (finmap.get (slots_of kind old) q)) h
      ∙ ap (λ b. cond b None (finmap.get (slots_of kind old) q)) (tied_name q)
      ∙ sym (finmap.get-remove nat_list_cmp_total (slots_of kind old) name q))

  pub slots_same : kind slots ≡ kind (slots_at old name) → slots_of kind new ≡ slots_of kind old
  slots_same h =
      finmap.same_map nat_list_cmp_total (finmap.slice_cmp-IsAntisymmetric finmap.nat_cmp-IsAntisymmetric) _ _
      (λ q. get_written q
      ∙ elim (same_bytes name q) as (λ b. same_bytes name q ≡ b → cond b (option_map number (kind slots)) (finmap.get (slots_of kind old) q) ≡ finmap.get (slots_of kind old) q) [
        | true ↦ λ t. ap (option_map number) h ∙ sym (get_slots kind nothing old unique_old name) ∙ ap (finmap.get (slots_of kind old)) (same_name name q t)
        | false ↦ λ f. refl
      ] refl)

-- the ready names
any_key : (q : List ℕ) (names : Names) → list_any (eq_by_cmp cmp q) (keys_of names) ≡ is_some (lookup (same_bytes q) names)
any_key q [] = refl
any_key q (e ∷ names) = ap (λ b. b || list_any (eq_by_cmp cmp q) (keys_of names)) (tied q e.0) ∙ ap (λ b. same_bytes q e.0 || b) (any_key q names) ∙ either (same_bytes q e.0)
  where
    either : (b : Bool) → (b || is_some (lookup (same_bytes q) names)) ≡ is_some (cond b (Some e.1) (lookup (same_bytes q) names))
    either true = refl
    either false = refl

pub has_name : (names : Names) (q : List ℕ) → finset.contains (names_of (keys_of names)) q ≡ is_some (lookup (same_bytes q) names)
unfolding names_of
has_name names q = finset.contains-from_list nat_list_cmp_total (keys_of names) q ∙ any_key q names

pub no_names : (names : Names) → names ≡ [] → names_of (keys_of names) ≡ finset.empty
no_names names h =
    finset.same_set nat_list_cmp_total (finset.slice_cmp-IsAntisymmetric finset.nat_cmp-IsAntisymmetric) _ _
    (λ q. has_name names q ∙ ap (λ es. is_some (lookup (same_bytes q) es)) h ∙ sym (finset.contains-empty cmp q))

pub names_written : (old new : Names) (name : List ℕ) (slots : Slots) → IsWritten old new name slots → names_of (keys_of new) ≡ finset.insert (names_of (keys_of old)) name
names_written old new name slots written =
    finset.same_set nat_list_cmp_total (finset.slice_cmp-IsAntisymmetric finset.nat_cmp-IsAntisymmetric) _ _
    (λ q. has_name new q ∙ ap is_some (written q) ∙ some_either (same_bytes name q) (lookup (same_bytes q) old)
    ∙ ap (λ b. b || is_some (lookup (same_bytes q) old)) (turned name q ∙ sym (tied q name)) ∙ ap (λ b. eq_by_cmp cmp q name || b) (sym (has_name old q))
    ∙ sym (finset.contains-insert nat_list_cmp_total (names_of (keys_of old)) name q))
  where
    some_either : (b : Bool) (o : Option Slots) → is_some (cond b (Some slots) o) ≡ (b || is_some o)
    some_either true o = refl
    some_either false o = refl
