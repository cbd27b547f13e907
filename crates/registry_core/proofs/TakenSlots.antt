-- Which slots have a name, once a name is put in or taken out.
use Rattle.std.proofs.Common.{◌≡◌, ℕ, ◌<◌, ◌&&◌, ◌||◌, ◌==◌, Bool, true, false, cond, not, List, [], ◌∷◌, map, length, slice_index_or, slice_set, refl, ap, sym, ◌∙◌, arith, IsTrue, T, Ordering, Less, Equal, Greater}
use Rattle.std.specs.Prelude.{Option, None, Some}
use Rattle.std.specs.List.{list_any}
use Rattle.std.specs.Ordering.{nat_cmp, eq_by_cmp, is_eq, is_lt}
use Rattle.std.specs.Cmp.Lexicographic.{slice_cmp, nat_list_cmp_total, nat_list_eq_equiv, texts_ties}
use Rattle.std.specs.FinMap as finmap
use Rattle.std.specs.FinMap.{find, put, is_sorted}
use Rattle.std.proofs.lemmas.Bool.Decides.{nat_tests}
use Rattle.ho_base.specs.declared.limits.TheConstants.{OUT_SLOTS}
use Rattle.ho_events.specs.Lists.{upto}
use Rattle.ho_events.specs.Registry.{is_used, least_free_slot, Slots as SlotMap}
use Rattle.registry_core.proofs.FirstOf.{first_passes}
use Rattle.registry_core.proofs.SlotMaps.{same_name}
use Rattle.registry_core.proofs.UsedFlags.{flag_at}
use Rattle.registry_core.specs.RegistryShown.{AreApart}

abbrev cmp : List ℕ → List ℕ → Ordering
cmp = slice_cmp nat_cmp

abbrev same : List ℕ → List ℕ → Bool
same = eq_by_cmp cmp

is_same : (a b : List ℕ) → same a b ≡ true → a ≡ b
is_same a b h = same_name a b (texts_ties a b ∙ h)

pub itself : (a : List ℕ) → same a a ≡ true
itself a = sym (texts_ties a a) ∙ nat_list_eq_equiv.refl a

pub not_some : {X : Type 0} (x : X) → ◌≡◌ {A = Option X} (Some x) None → ⊥
not_some x h = cc

some_is : (a b : ℕ) → Some a ≡ Some b → a ≡ b
some_is a b h = cc

-- one more name
or_swap : (a b c : Bool) → (a || (b || c)) ≡ (b || (a || c))
or_swap true true c = refl
or_swap true false c = refl
or_swap false b c = refl

any_put : (t : ℕ → Bool) (k : List ℕ) (v : ℕ) (es : List (List ℕ × ℕ)) → find cmp k es ≡ None → list_any t (map (λ e. e.1) (put cmp k v es)) ≡ (t v || list_any t (map (λ e. e.1) es))
any_put t k v [] none = refl
any_put t k v (e ∷ es) none =
    elim (cmp k e.0) as (λ r. cmp k e.0 ≡ r → list_any t (map (λ e. e.1) (put cmp k v (e ∷ es))) ≡ (t v || list_any t (map (λ e. e.1) (e ∷ es)))) [
      | Less ↦ λ h. rw h refl
      | Equal ↦ λ h. absurd (not_some e.1 (sym (ap (λ r. cond (is_eq r) (Some e.1) (find cmp k es)) h) ∙ none))
      | Greater ↦ λ h. rw h (ap (λ b. t e.1 || b) (any_put t k v es (sym (ap (λ r. cond (is_eq r) (Some e.1) (find cmp k es)) h) ∙ none)) ∙ or_swap (t e.1) (t v) _)
    ] refl

used_more : (m : SlotMap) (name : List ℕ) (slot k : ℕ) → finmap.get m name ≡ None → is_used (finmap.insert m name slot) k ≡ ((slot == k) || is_used m k)
used_more m name slot k none =
    ap (λ es. list_any (λ s. s == k) (map (λ e. e.1) es)) (finmap.entries-insert nat_list_cmp_total m name slot)
    ∙ any_put (λ s. s == k) name slot (finmap.entries m) (sym (finmap.get-entries m name) ∙ none)

-- a name that is taken out and put in again
restored : (m : SlotMap) (name : List ℕ) (slot : ℕ) → finmap.get m name ≡ Some slot → m ≡ finmap.insert (finmap.remove m name) name slot
restored m name slot here =
    finmap.same_map nat_list_cmp_total (finmap.slice_cmp-IsAntisymmetric finmap.nat_cmp-IsAntisymmetric) _ _
    (λ q. sym (finmap.get-insert nat_list_cmp_total (finmap.remove m name) name slot q ∙ ap (cond (same q name) (Some slot)) (finmap.get-remove nat_list_cmp_total m name q)
    ∙ elim (same q name) as (λ b. same q name ≡ b → cond b (Some slot) (cond b None (finmap.get m q)) ≡ finmap.get m q) [
      | true ↦ λ t. sym (ap (finmap.get m) (is_same q name t) ∙ here)
      | false ↦ λ f. refl
    ] refl))

used_apart : (m : SlotMap) (name : List ℕ) (slot k : ℕ) → finmap.get m name ≡ Some slot → is_used m k ≡ ((slot == k) || is_used (finmap.remove m name) k)
used_apart m name slot k here =
    ap (λ x. is_used x k) (restored m name slot here)
    ∙ used_more (finmap.remove m name) name slot k (finmap.get-remove nat_list_cmp_total m name name ∙ ap (λ b. cond b None (finmap.get m name)) (itself name))

pub eqb_same : (n : ℕ) → (n == n) ≡ true
eqb_same n = grind (arith, nat_tests)

pub used_at : (m : SlotMap) (name : List ℕ) (slot : ℕ) → finmap.get m name ≡ Some slot → is_used m slot ≡ true
used_at m name slot here = used_apart m name slot slot here ∙ ap (λ b. b || is_used (finmap.remove m name) slot) (eqb_same slot)

-- a slot that has a name has one
left_true : (a b : Bool) → IsTrue (a && b) → IsTrue a
left_true true b h = refl
left_true false b h = cc

pub right_true : (a b : Bool) → IsTrue (a && b) → IsTrue b
right_true true b h = h
right_true false b h = cc

abbrev pub Slotted : Type 0
Slotted = List (List ℕ × ℕ)

abbrev pub Finds : Slotted → ℕ → Type 0
Finds es k = (name : List ℕ) × (find cmp name es ≡ Some k)

both_true : (a b : Bool) → IsTrue a → IsTrue b → IsTrue (a && b)
both_true true b g h = h
both_true false b g h = cc

less_is : (r : Ordering) → IsTrue (is_lt r) → is_eq r ≡ false
less_is Less h = refl
less_is Equal h = cc
less_is Greater h = cc

pub head_once : (e : List ℕ × ℕ) (es : Slotted) → IsTrue (is_sorted cmp (e ∷ es)) → find cmp e.0 es ≡ None
head_once e [] h = refl
head_once e (f ∷ es) h =
    let least = left_true _ (is_sorted cmp (f ∷ es)) h in
    let less = left_true (is_lt (cmp e.0 f.0)) _ least in
    ap (λ b. cond b (Some f.1) (find cmp e.0 es)) (less_is (cmp e.0 f.0) less)
    ∙ head_once e es (both_true _ _ (right_true (is_lt (cmp e.0 f.0)) _ least) (right_true _ (is_sorted cmp es) (right_true _ (is_sorted cmp (f ∷ es)) h)))

pub found_later : (e : List ℕ × ℕ) (es : Slotted) (k : ℕ) (name : List ℕ) → find cmp e.0 es ≡ None → find cmp name es ≡ Some k → find cmp name (e ∷ es) ≡ Some k
found_later e es k name none here =
    elim (same name e.0) as (λ b. same name e.0 ≡ b → cond b (Some e.1) (find cmp name es) ≡ Some k) [
      | true ↦ λ t. absurd (not_some k (sym here ∙ ap (λ x. find cmp x es) (is_same name e.0 t) ∙ none))
      | false ↦ λ f. here
    ] refl

pub found : (es : Slotted) (k : ℕ) → IsTrue (is_sorted cmp es) → list_any (λ s. s == k) (map (λ e. e.1) es) ≡ true → Finds es k
found [] k sorted h = absurd cc
found (e ∷ es) k sorted h =
    elim (e.1 == k) as (λ b. (e.1 == k) ≡ b → (b || list_any (λ s. s == k) (map (λ e. e.1) es)) ≡ true → Finds (e ∷ es) k) [
      | true ↦ λ t g. (e.0, ap (λ b. cond b (Some e.1) (find cmp e.0 es)) (itself e.0) ∙ ap Some (is_number e.1 k t))
      | false ↦ λ f g.
          let rest = found es k (right_true _ (is_sorted cmp es) sorted) g in
          (rest.0, found_later e es k rest.0 (head_once e es sorted) rest.1)
    ] refl h
  where
    is_number : (a b : ℕ) → (a == b) ≡ true → a ≡ b
    is_number a b h = grind (arith, nat_tests)

pub tested : (b : Bool) → T b → IsTrue b
tested true h = refl
tested false h = absurd h

owner : (m : SlotMap) (k : ℕ) → is_used m k ≡ true → (name : List ℕ) × (finmap.get m name ≡ Some k)
owner m k h =
    let one = found (finmap.entries m) k (tested (is_sorted cmp (finmap.entries m)) (finmap.entries_sorted m)) h in
    (one.0, finmap.get-entries m one.0 ∙ one.1)

-- no two names have one slot
module _ (m : SlotMap) (name : List ℕ) (slot : ℕ) (apart : AreApart m) where
  removed_keeps : (q : List ℕ) (k : ℕ) → finmap.get (finmap.remove m name) q ≡ Some k → (same q name ≡ false) × (finmap.get m q ≡ Some k)
  removed_keeps q k h =
      elim (same q name) as (λ b. cond b None (finmap.get m q) ≡ Some k → (b ≡ false) × (finmap.get m q ≡ Some k)) [
        | true ↦ λ g. absurd (not_some k (sym g))
        | false ↦ λ g. (refl, g)
      ] (sym (finmap.get-remove nat_list_cmp_total m name q) ∙ h)

  pub apart_cleared : AreApart (finmap.remove m name)
  apart_cleared a b k ha hb = apart a b k (removed_keeps a k ha).1 (removed_keeps b k hb).1

  none_left : finmap.get m name ≡ Some slot → is_used (finmap.remove m name) slot ≡ false
  none_left here =
      elim (is_used (finmap.remove m name) slot) as (λ b. is_used (finmap.remove m name) slot ≡ b → b ≡ false) [
        | true ↦ λ t.
            let one = owner (finmap.remove m name) slot t in
            let other = removed_keeps one.0 slot one.1 in
            absurd (clash (same one.0 name) other.0 (ap (λ x. same x name) (apart one.0 name slot other.1 here) ∙ itself name))
        | false ↦ λ f. refl
      ] refl
    where
      clash : (b : Bool) → b ≡ false → b ≡ true → ⊥
      clash b f t = cc

  pub told_cleared : (taken : List Bool) → ((k : ℕ) → is_used m k ≡ slice_index_or taken k false) → finmap.get m name ≡ Some slot → slot < length taken → (k : ℕ) → is_used (finmap.remove m name) k ≡ slice_index_or (slice_set taken slot false) k false
  told_cleared taken told here within k =
      elim (slot == k) as (λ b. (slot == k) ≡ b → is_used (finmap.remove m name) k ≡ cond b false (slice_index_or taken k false)) [
        | true ↦ λ t. ap (is_used (finmap.remove m name)) (sym (is_number slot k t)) ∙ none_left here
        | false ↦ λ f. sym (used_apart m name slot k here ∙ ap (λ b. b || is_used (finmap.remove m name) k) f) ∙ told k
      ] refl ∙ sym (flag_at taken slot k false within)
    where
      is_number : (a b : ℕ) → (a == b) ≡ true → a ≡ b
      is_number a b h = grind (arith, nat_tests)

  pub told_put : (taken : List Bool) → ((k : ℕ) → is_used m k ≡ slice_index_or taken k false) → finmap.get m name ≡ None → slot < length taken → (k : ℕ) → is_used (finmap.insert m name slot) k ≡ slice_index_or (slice_set taken slot true) k false
  told_put taken told none within k = used_more m name slot k none ∙ ap (λ b. (slot == k) || b) (told k) ∙ or_cond (slot == k) _ ∙ sym (flag_at taken slot k true within)
    where
      or_cond : (b c : Bool) → (b || c) ≡ cond b true c
      or_cond true c = refl
      or_cond false c = refl

  -- a name in a slot that has none
  other_slot : is_used m slot ≡ false → (q : List ℕ) (k : ℕ) → slot ≡ k → finmap.get m q ≡ Some k → ⊥
  other_slot free q k is here = clash (is_used m slot) free (ap (is_used m) is ∙ used_at m q k here)
    where
      clash : (b : Bool) → b ≡ false → b ≡ true → ⊥
      clash b f t = cc

  pub apart_put : is_used m slot ≡ false → AreApart (finmap.insert m name slot)
  apart_put free a b k ha hb =
      elim (same a name) as (λ x. same a name ≡ x → cond x (Some slot) (finmap.get m a) ≡ Some k → a ≡ b) [
        | true ↦ λ t ga.
            elim (same b name) as (λ y. same b name ≡ y → cond y (Some slot) (finmap.get m b) ≡ Some k → a ≡ b) [
              | true ↦ λ u gb. is_same a name t ∙ sym (is_same b name u)
              | false ↦ λ f gb. absurd (other_slot free b k (some_is slot k ga) gb)
            ] refl (sym (finmap.get-insert nat_list_cmp_total m name slot b) ∙ hb)
        | false ↦ λ f ga.
            elim (same b name) as (λ y. same b name ≡ y → cond y (Some slot) (finmap.get m b) ≡ Some k → a ≡ b) [
              | true ↦ λ u gb. absurd (other_slot free a k (some_is slot k gb) ga)
              | false ↦ λ g gb. apart a b k ga gb
            ] refl (sym (finmap.get-insert nat_list_cmp_total m name slot b) ∙ hb)
      ] refl (sym (finmap.get-insert nat_list_cmp_total m name slot a) ∙ ha)

-- the least slot that has no name has none
pub free_unused : (m : SlotMap) (slot : ℕ) → least_free_slot m ≡ Some slot → is_used m slot ≡ false
free_unused m slot h = off (is_used m slot) (first_passes (λ k. not (is_used m k)) (upto OUT_SLOTS) slot h)
  where
    off : (b : Bool) → not b ≡ true → b ≡ false
    off true h = cc
    off false h = refl
