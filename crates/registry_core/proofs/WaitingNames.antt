-- Names that wait in one slot after the other.
use Rattle.std.proofs.Common.{◌≡◌, ℕ, ◌+◌, ◌≤◌, ◌<◌, Bool, true, false, cond, List, [], ◌∷◌, ◌++◌, length, replicate, slice_index_or, drop, refl, ap, sym, ◌∙◌, arith, IsTrue, is_some, subst, ◌↔◌, zero, suc, add-one}
use Rattle.std.specs.Prelude.{None, Some, option_map}
use Rattle.std.specs.List.{IsDistinct, AllByRecursion}
use Rattle.std.specs.Map.{keys_of, lookup}
use Rattle.std.specs.Ordering.{nat_cmp}
use Rattle.std.specs.Cmp.Lexicographic.{nat_list_eq_equiv}
use Rattle.std.specs.Option.{MatchOption, IfSome, unwrap_or}
use Rattle.std.specs.FinMap as finmap
use Rattle.std.specs.FinSet as finset
use Rattle.std.proofs.lemmas.Map.Keys.{IsDistinct-head, IsDistinct-tail}
use Rattle.ho_base.specs.declared.limits.TheConstants.{OUT_SLOTS, IN_SLOTS, FILES}
use Rattle.ho_events.specs.Lists.{same_bytes}
use Rattle.ho_events.specs.Registry.{RegistryState, is_used, Slots as SlotMap}
use Rattle.ho_events.specs.History.{run_from, registry_from}
use Rattle.ho_events.specs.declared.entry.Entry.{Entry}
use Rattle.registry_core.proofs.FileNumbers.{numbers_first, count_first}
use Rattle.registry_core.proofs.RegistryRuns.{out_is, told_at, none_used, none_slotted, unset, as_many}
use Rattle.registry_core.proofs.SlotMaps.{get_slots}
use Rattle.registry_core.specs.declared.parts.Slots.{Slots}
use Rattle.registry_core.specs.NameSlots.{no_slots, slots_at, waits_in, waiting_from}
use Rattle.registry_core.specs.Registries.{IsInSlot, IsOpened, slotted_from, waiting_registry}
use Rattle.registry_core.specs.RegistryShown.{Held, outgoing_slot, waiting_slot, opened_slot, numbered, slots_of, numbers_of, names_of, shown, AreApart, AreIncoming, KeepsRegistry}
use Rattle.registry_core.specs.UsedNumbers.{used_first}

abbrev Names : Type 0
Names = List (List ℕ × Slots)

abbrev state : SlotMap → SlotMap → SlotMap → finset.FinSet nat_cmp → RegistryState
state outgoing waiting opened files = record { outgoing = outgoing; waiting = waiting; opened = opened; files = files }

-- the names, and their slots of each kind
keys_from : (slot : ℕ) (names : List (List ℕ)) → keys_of (waiting_from slot names) ≡ names
keys_from slot [] = refl
keys_from slot (n ∷ names) = ap (λ ns. n ∷ ns) (keys_from (slot + 1) names)

none_out : (slot : ℕ) (names : List (List ℕ)) → numbered outgoing_slot (waiting_from slot names) ≡ []
none_out slot [] = refl
none_out slot (n ∷ names) = none_out (slot + 1) names

none_open : (slot : ℕ) (names : List (List ℕ)) → numbered opened_slot (waiting_from slot names) ≡ []
none_open slot [] = refl
none_open slot (n ∷ names) = none_open (slot + 1) names

all_wait : (slot : ℕ) (names : List (List ℕ)) → numbered waiting_slot (waiting_from slot names) ≡ slotted_from slot names
all_wait slot [] = refl
all_wait slot (n ∷ names) = ap (λ es. (n, slot) ∷ es) (all_wait (slot + 1) names)

-- a name of distinct ones isn't among those before it
not_before : (es : Names) (n : List ℕ) (rest : List (List ℕ)) → IsDistinct same_bytes (keys_of es ++ n ∷ rest) → lookup (same_bytes n) es ≡ None
not_before [] n rest apart = refl
not_before (e ∷ es) n rest apart =
    ap (λ b. cond b (Some e.1) (lookup (same_bytes n) es)) (nat_list_eq_equiv.symm n e.0 ∙ at_last (same_bytes e.0) (keys_of es) n rest (IsDistinct-head same_bytes e.0 (keys_of es ++ n ∷ rest) apart))
    ∙ not_before es n rest (IsDistinct-tail same_bytes e.0 (keys_of es ++ n ∷ rest) apart)
  where
    at_last : (test : List ℕ → Bool) (ks : List (List ℕ)) (n : List ℕ) (rest : List (List ℕ)) → AllByRecursion (λ y. test y ≡ false) (ks ++ n ∷ rest) → test n ≡ false
    at_last test [] n rest all = all.0
    at_last test (k ∷ ks) n rest all = at_last test ks n rest all.1

-- one more name
push_front : {X : Type 0} (xs : List X) (x : X) (ys : List X) → (xs ++ x ∷ []) ++ ys ≡ xs ++ x ∷ ys
push_front [] x ys = refl
push_front (z ∷ xs) x ys = ap (λ r. z ∷ r) (push_front xs x ys)

nothing_behind : {X : Type 0} (xs : List X) → xs ++ [] ≡ xs
nothing_behind [] = refl
nothing_behind (x ∷ xs) = ap (λ r. x ∷ r) (nothing_behind xs)

keys_both : (es fs : Names) → keys_of (es ++ fs) ≡ keys_of es ++ keys_of fs
keys_both [] fs = refl
keys_both (e ∷ es) fs = ap (λ r. e.0 ∷ r) (keys_both es fs)

next_of : (names : List (List ℕ)) (i : ℕ) (d : List ℕ) → i < length names → drop i names ≡ slice_index_or names i d ∷ drop (suc i) names
next_of [] i d h = absurd (omega (arith, h))
next_of (n ∷ names) zero d h = refl
next_of (n ∷ names) (suc i) d h = next_of names i d (omega (arith, h))

none_left : (names : List (List ℕ)) (i : ℕ) → length names ≤ i → drop i names ≡ []
none_left [] zero h = refl
none_left [] (suc i) h = refl
none_left (n ∷ names) zero h = absurd (omega (arith, h))
none_left (n ∷ names) (suc i) h = none_left names i (omega (arith, h))

-- the names so far have their slots, and behind them come the others
pub record AreSlotted (names : List (List ℕ)) (i slot room : ℕ) (es : Names) : Type 0 where
  pub place : slot ≡ OUT_SLOTS + i
  pub listed : es ++ waiting_from slot (drop i names) ≡ waiting_from OUT_SLOTS names
  pub unique : IsDistinct same_bytes (keys_of es)
  pub fits : length names ≤ i + room

pub slotted_none : (names : List (List ℕ)) (room : ℕ) (es : Names) → es ≡ [] → IsDistinct same_bytes (keys_of es) → length names ≤ room → AreSlotted names 0 OUT_SLOTS room es
slotted_none names room es none unique h = record {
  place = refl;
  listed = ap (λ x. x ++ waiting_from OUT_SLOTS names) none;
  unique = unique;
  fits = omega (arith, h);
}

module _ (names : List (List ℕ)) (i slot room : ℕ) (es : Names) (d : List ℕ) (s : AreSlotted names i slot room es) (apart : IsDistinct same_bytes names) (more : i < length names) where
  abbrev next : List ℕ
  next = slice_index_or names i d

  here : es ++ waiting_from slot (next ∷ drop (suc i) names) ≡ waiting_from OUT_SLOTS names
  here = ap (λ rest. es ++ waiting_from slot rest) (sym (next_of names i d more)) ∙ s.listed

  pub next_new : lookup (same_bytes next) es ≡ None
  next_new = not_before es next (drop (suc i) names)
      (subst (IsDistinct same_bytes)
      (sym (keys_from OUT_SLOTS names) ∙ ap keys_of (sym here) ∙ keys_both es (waiting_from slot (next ∷ drop (suc i) names)) ∙ ap (λ ks. keys_of es ++ ks) (keys_from slot (next ∷ drop (suc i) names)))
      apart)

  pub slotted_more : (es2 : Names) (room2 : ℕ) → es2 ≡ es ++ (next, waits_in slot) ∷ [] → IsDistinct same_bytes (keys_of es2) → room ≤ room2 + 1 → AreSlotted names (i + 1) (slot + 1) room2 es2
  slotted_more es2 room2 is unique left = record {
    place = ap (λ n. n + 1) s.place ∙ omega arith;
    listed = ap (λ x. x ++ waiting_from (slot + 1) (drop (i + 1) names)) is ∙ push_front es (next, waits_in slot) (waiting_from (slot + 1) (drop (i + 1) names)) ∙ ap (λ n. es ++ (next, waits_in slot) ∷ waiting_from (slot + 1) (drop n names)) (add-one i) ∙ here;
    unique = unique;
    fits = omega (arith, left, s.fits);
  }

pub slotted_all : (names : List (List ℕ)) (i slot room : ℕ) (es : Names) → AreSlotted names i slot room es → length names ≤ i → es ≡ waiting_from OUT_SLOTS names
slotted_all names i slot room es s h = sym (nothing_behind es) ∙ ap (λ rest. es ++ waiting_from slot rest) (sym (none_left names i h)) ∙ s.listed

-- they wait in incoming slots
all_incoming : (slot : ℕ) (names : List (List ℕ)) → OUT_SLOTS ≤ slot → slot + length names ≤ OUT_SLOTS + IN_SLOTS → AreIncoming (waiting_from slot names)
all_incoming slot [] low high q = (tt, tt)
all_incoming slot (n ∷ names) low high q = either (same_bytes q n) (all_incoming (slot + 1) names (omega (arith, low)) (omega (arith, high)) q)
  where
    either : (b : Bool) → IfSome (slots_at (waiting_from (slot + 1) names) q).waiting IsInSlot × IfSome (slots_at (waiting_from (slot + 1) names) q).opened IsInSlot
        → IfSome (unwrap_or (cond b (Some (waits_in slot)) (lookup (same_bytes q) (waiting_from (slot + 1) names))) no_slots).waiting IsInSlot × IfSome (unwrap_or (cond b (Some (waits_in slot)) (lookup (same_bytes q) (waiting_from (slot + 1) names))) no_slots).opened IsInSlot
    either true rest = ((low, omega (arith, high)), tt)
    either false rest = rest

-- a registry with these names, without entries
module _ (names : List (List ℕ)) (es : Names) (is : es ≡ waiting_from OUT_SLOTS names) where
  outgoing_none : slots_of outgoing_slot es ≡ slots_of outgoing_slot []
  unfolding slots_of
  outgoing_none = ap finmap.from_entries (ap (numbered outgoing_slot) is ∙ none_out OUT_SLOTS names)

  opened_none : slots_of opened_slot es ≡ finmap.empty
  unfolding slots_of
  opened_none = ap finmap.from_entries (ap (numbered opened_slot) is ∙ none_open OUT_SLOTS names)

  waiting_all : slots_of waiting_slot es ≡ finmap.from_entries (slotted_from OUT_SLOTS names)
  unfolding slots_of
  waiting_all = ap finmap.from_entries (ap (numbered waiting_slot) is ∙ all_wait OUT_SLOTS names)

  outgoing_empty : slots_of outgoing_slot es ≡ finmap.empty
  unfolding slots_of
  outgoing_empty = outgoing_none

  pub waiting_keys : names_of (keys_of es) ≡ finset.from_list names
  unfolding names_of
  waiting_keys = ap finset.from_list (ap keys_of is ∙ keys_from OUT_SLOTS names)

  pub waiting_shown : (taken files : List Bool) (n : ℕ) → files ≡ used_first n FILES → n ≤ FILES → shown (record { names = es; taken = taken; files = files }) ≡ waiting_registry names n
  waiting_shown taken files n f within =
      ap (λ m. state m (slots_of waiting_slot es) (slots_of opened_slot es) (numbers_of files)) outgoing_empty
      ∙ ap (λ m. state finmap.empty m (slots_of opened_slot es) (numbers_of files)) waiting_all
      ∙ ap (λ m. state finmap.empty (finmap.from_entries (slotted_from OUT_SLOTS names)) m (numbers_of files)) opened_none
      ∙ ap (state finmap.empty (finmap.from_entries (slotted_from OUT_SLOTS names)) finmap.empty) (numbers_first files n f within)

  pub waiting_keeps : (taken files : List Bool) (n : ℕ) → IsDistinct same_bytes (keys_of es) → taken ≡ replicate OUT_SLOTS false → files ≡ used_first n FILES → n ≤ FILES → OUT_SLOTS + length names ≤ OUT_SLOTS + IN_SLOTS → KeepsRegistry (shown (record { names = es; taken = taken; files = files })) [] (record { names = es; taken = taken; files = files })
  unfolding run_from
  waiting_keeps taken files n unique t f within few = record {
    replayed = refl;
    unique = unique;
    slot_count = ap length t ∙ as_many OUT_SLOTS;
    file_count = ap length f ∙ count_first n FILES within;
    told = λ k. ap (λ m. is_used m k) outgoing_none ∙ none_used k ∙ sym (ap (λ l. slice_index_or l k false) t ∙ unset OUT_SLOTS k);
    apart = subst AreApart (sym outgoing_none) none_slotted;
    incoming = subst AreIncoming (sym is) (all_incoming OUT_SLOTS names (omega arith) few);
  }

-- the slot in which a name was opened
pub opened_told : (start : RegistryState) (h : List Entry) (p : Held) (name : List ℕ) (slots : Slots) → KeepsRegistry start h p → slots ≡ slots_at p.names name → MatchOption (registry_from start h) ⊥ (λ s. IsTrue (is_some slots.opened) ↔ IsOpened name s)
opened_told start h p name slots k is =
    told_at (λ s. IsTrue (is_some slots.opened) ↔ IsOpened name s) start h p k
    (out_is slots.opened _ (get_slots opened_slot refl p.names k.unique name ∙ ap (λ s. option_map (λ x. x.0) s.opened) (sym is)))
