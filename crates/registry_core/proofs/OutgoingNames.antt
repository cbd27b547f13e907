-- The outgoing names in rising order.
use Rattle.std.proofs.Common.{◌≡◌, ℕ, ◌+◌, ◌<◌, ◌≤◌, ◌==◌, ◌||◌, Bool, true, false, cond, List, [], ◌∷◌, map, length, drop, refl, ap, sym, ◌∙◌, arith, IsTrue, subst, zero, suc, add-one, slice_index_or, Ordering, Less, Equal, Greater, if◌then◌else◌, IfOk, Result, Ok, Err}
use Rattle.std.specs.Prelude.{Option, None, Some, option_map, slice_get}
use Rattle.std.specs.List.{insert, list_any, IsDistinct, AllByRecursion}
use Rattle.std.specs.Map.{keys_of}
use Rattle.std.specs.Option.{unwrap_or}
use Rattle.std.specs.Ordering.{nat_cmp, is_eq, is_gt}
use Rattle.std.specs.Cmp.Lexicographic.{slice_cmp, nat_list_cmp_total}
use Rattle.std.specs.FinMap as finmap
use Rattle.std.specs.FinMap.{find, put, is_sorted}
use Rattle.std.proofs.lemmas.List.{length-map}
use Rattle.std.proofs.lemmas.Map.Steps.{length-le_from_distinct_below}
use Rattle.std.proofs.lemmas.Bool.Decides.{nat_tests}
use Rattle.std.proofs.lemmas.Map.Keys.{IsDistinct-head, IsDistinct-tail}
use Rattle.ho_base.specs.declared.numbers.SlotNo.{SlotNo}
use Rattle.ho_base.specs.declared.limits.TheConstants.{OUT_SLOTS}
use Rattle.ho_events.specs.Lists.{same_bytes}
use Rattle.ho_events.specs.Registry.{RegistryState, is_used, Slots as SlotMap}
use Rattle.ho_events.specs.declared.entry.Entry.{Entry}
use Rattle.registry_core.proofs.RegistryRuns.{set_within}
use Rattle.registry_core.proofs.SlotMaps.{get_slots, no_lookup}
use Rattle.registry_core.proofs.TakenSlots.{itself, right_true, head_once, found_later, found, tested, Slotted}
use Rattle.registry_core.specs.declared.parts.Slots.{Slots}
use Rattle.registry_core.specs.NameSlots.{no_slots}
use Rattle.registry_core.specs.Outgoing.{smaller_names, with_name, with_number}
use Rattle.registry_core.specs.RegistryShown.{Held, with_slot, numbered, outgoing_slot, slots_of, AreApart, KeepsRegistry}

abbrev cmp : List ℕ → List ℕ → Ordering
cmp = slice_cmp nat_cmp

abbrev Listed : Type 0
Listed = List (List ℕ × SlotNo)

abbrev Names : Type 0
Names = List (List ℕ × Slots)

-- the front of smaller names, step by step
smaller_none : (name : List ℕ) → smaller_names name [] ≡ 0
unfolding smaller_names
smaller_none name = refl

smaller_less : (name : List ℕ) → (e : List ℕ × SlotNo) → (es : Listed) → is_gt (cmp name e.0) ≡ true → smaller_names name (e ∷ es) ≡ suc (smaller_names name es)
unfolding smaller_names
smaller_less name e es h = ap (λ b. if b then suc (smaller_names name es) else 0) h

smaller_not : (name : List ℕ) → (e : List ℕ × SlotNo) → (es : Listed) → is_gt (cmp name e.0) ≡ false → smaller_names name (e ∷ es) ≡ 0
unfolding smaller_names
smaller_not name e es h = ap (λ b. if b then suc (smaller_names name es) else 0) h

step_suc : (name : List ℕ) → (i : ℕ) → (es : Listed) → (d : List ℕ × SlotNo) → i < length es → is_gt (cmp name (slice_index_or es i d).0) ≡ true → smaller_names name (drop i es) ≡ suc (smaller_names name (drop (suc i) es))
step_suc name i [] d within h = absurd (omega arith)
step_suc name zero (e ∷ es) d within h = smaller_less name e es h
step_suc name (suc i) (e ∷ es) d within h = step_suc name i es d (omega arith) h

pub smaller_step : (name : List ℕ) → (i : ℕ) → (es : Listed) → (d : List ℕ × SlotNo) → i < length es → is_gt (cmp name (slice_index_or es i d).0) ≡ true → smaller_names name (drop i es) ≡ smaller_names name (drop (i + 1) es) + 1
smaller_step name i es d within h = rw (add-one, add-one) (step_suc name i es d within h)

pub smaller_stop : (name : List ℕ) → (i : ℕ) → (es : Listed) → (d : List ℕ × SlotNo) → i < length es → is_gt (cmp name (slice_index_or es i d).0) ≡ false → smaller_names name (drop i es) ≡ 0
smaller_stop name i [] d within h = absurd (omega arith)
smaller_stop name zero (e ∷ es) d within h = smaller_not name e es h
smaller_stop name (suc i) (e ∷ es) d within h = smaller_stop name i es d (omega arith) h

pub smaller_end : (name : List ℕ) → (i : ℕ) → (es : Listed) → length es ≤ i → smaller_names name (drop i es) ≡ 0
smaller_end name zero [] within = smaller_none name
smaller_end name (suc i) [] within = smaller_none name
smaller_end name zero (e ∷ es) within = absurd (omega arith)
smaller_end name (suc i) (e ∷ es) within = smaller_end name i es (omega arith)

-- a new name goes after the smaller ones
no_some : {X : Type 0} (x : X) → ◌≡◌ {A = Option X} (Some x) None → ⊥
no_some x h = cc

pub put_there : (name : List ℕ) → (slot : SlotNo) → (es : Listed) → find cmp name (map with_number es) ≡ None → put cmp name slot.0 (map with_number es) ≡ map with_number (insert es (smaller_names name es) (name, slot))
put_there name slot [] h = ap (λ n. map with_number (insert [] n (name, slot))) (sym (smaller_none name))
put_there name slot (e ∷ es) h =
    elim (cmp name e.0) as (λ r. cmp name e.0 ≡ r → put cmp name slot.0 (map with_number (e ∷ es)) ≡ map with_number (insert (e ∷ es) (smaller_names name (e ∷ es)) (name, slot))) [
      | Less ↦ λ r. rw r (ap (λ n. map with_number (insert (e ∷ es) n (name, slot))) (sym (smaller_not name e es (ap is_gt r))))
      | Equal ↦ λ r. absurd (no_some e.1.0 (sym (ap (λ x. cond (is_eq x) (Some e.1.0) (find cmp name (map with_number es))) r) ∙ h))
      | Greater ↦ λ r.
          rw r
          (ap (λ rest. with_number e ∷ rest) (put_there name slot es (sym (ap (λ x. cond (is_eq x) (Some e.1.0) (find cmp name (map with_number es))) r) ∙ h))
          ∙ ap (λ n. map with_number (insert (e ∷ es) n (name, slot))) (sym (smaller_less name e es (ap is_gt r))))
    ] refl

-- the map of the outgoing names, from the last on
entries_cons : (e : List ℕ × Slots) → (names : Names) → finmap.entries (slots_of outgoing_slot (e ∷ names)) ≡ with_name e.0 e.1.outgoing (finmap.entries (slots_of outgoing_slot names))
unfolding slots_of
entries_cons e names =
    elim e.1.outgoing as (λ o. finmap.entries (finmap.from_entries {R = cmp} (with_slot e.0 o (numbered outgoing_slot names))) ≡ with_name e.0 o (finmap.entries (finmap.from_entries {R = cmp} (numbered outgoing_slot names)))) [
      | None ↦ refl
      | Some x ↦ finmap.entries-insert nat_list_cmp_total (finmap.from_entries (numbered outgoing_slot names)) e.0 x.0
    ]

drop_at : (names : Names) → (i : ℕ) → (e : List ℕ × Slots) → slice_get names i ≡ Some e → drop i names ≡ e ∷ drop (suc i) names
drop_at [] i e h = cc
drop_at (n ∷ names) zero e h = ap (λ x. x ∷ names) (same h)
  where
    same : {X : Type 0} {x y : X} → Some x ≡ Some y → x ≡ y
    same h = cc
drop_at (n ∷ names) (suc i) e h = drop_at names i e h

distinct_drop : (names : Names) → (i : ℕ) → IsDistinct same_bytes (keys_of names) → IsDistinct same_bytes (keys_of (drop i names))
distinct_drop [] zero h = h
distinct_drop [] (suc i) h = h
distinct_drop (e ∷ names) zero h = h
distinct_drop (e ∷ names) (suc i) h = distinct_drop names i (IsDistinct-tail same_bytes e.0 (keys_of names) h)

none_before : (e : List ℕ × Slots) → (names : Names) → IsDistinct same_bytes (keys_of (e ∷ names)) → find cmp e.0 (finmap.entries (slots_of outgoing_slot names)) ≡ None
none_before e names h =
    sym (finmap.get-entries (slots_of outgoing_slot names) e.0)
    ∙ get_slots outgoing_slot refl names (IsDistinct-tail same_bytes e.0 (keys_of names) h) e.0
    ∙ ap (λ o. option_map (λ x. x.0) (unwrap_or o no_slots).outgoing) (no_lookup (same_bytes e.0) names (IsDistinct-head same_bytes e.0 (keys_of names) h))

-- nothing is listed at first
no_entries : {X : Type 0} → (es : List X) → length es ≡ 0 → [] ≡ es
no_entries [] h = refl
no_entries (e ∷ es) h = absurd (omega (arith, h))

drop_all : (names : Names) → drop (length names) names ≡ []
drop_all [] = refl
drop_all (e ∷ names) = drop_all names

no_slots_listed : [] ≡ finmap.entries (slots_of outgoing_slot [])
unfolding slots_of
no_slots_listed = no_entries (finmap.entries (finmap.empty {X = ℕ} {R = cmp})) (sym (finmap.len-entries finmap.empty) ∙ finmap.len-empty cmp ℕ)

pub none_listed : (names : Names) → (i : ℕ) → (es : Listed) → i ≡ length names → es ≡ [] → map with_number es ≡ finmap.entries (slots_of outgoing_slot (drop i names))
none_listed names i es is none =
    ap (map with_number) none ∙ no_slots_listed ∙ ap (λ ns. finmap.entries (slots_of outgoing_slot ns)) (sym (ap (λ n. drop n names) is ∙ drop_all names))

-- one name more
module _ (names : Names) (i j : ℕ) (next : j ≡ suc i) (e : List ℕ × Slots) (here : slice_get names i ≡ Some e) (es : Listed) (front : map with_number es ≡ finmap.entries (slots_of outgoing_slot (drop j names))) where
  so_far : map with_number es ≡ finmap.entries (slots_of outgoing_slot (drop (suc i) names))
  so_far = front ∙ ap (λ n. finmap.entries (slots_of outgoing_slot (drop n names))) next

  pub listed_new : IsDistinct same_bytes (keys_of names) → find cmp e.0 (map with_number es) ≡ None
  listed_new unique =
      ap (find cmp e.0) so_far
      ∙ none_before e (drop (suc i) names) (subst (λ ns. IsDistinct same_bytes (keys_of ns)) (drop_at names i e here) (distinct_drop names i unique))

  pub listed_more : (es2 : Listed) → map with_number es2 ≡ with_name e.0 e.1.outgoing (map with_number es) → map with_number es2 ≡ finmap.entries (slots_of outgoing_slot (drop i names))
  listed_more es2 h =
      h ∙ ap (with_name e.0 e.1.outgoing) so_far ∙ sym (entries_cons e (drop (suc i) names)) ∙ ap (λ ns. finmap.entries (slots_of outgoing_slot ns)) (sym (drop_at names i e here))

-- no two names have one slot, so there are at most as many as slots
left_false : (a b : Bool) → (a || b) ≡ false → a ≡ false
left_false true b h = h
left_false false b h = refl

right_false : (a b : Bool) → (a || b) ≡ false → b ≡ false
right_false true b h = cc
right_false false b h = h

turned : (a b : ℕ) → (a == b) ≡ false → (b == a) ≡ false
turned a b h = grind (arith, nat_tests, h)

either_way : (a b : ℕ) → (a == b) ≡ (b == a)
either_way a b = grind (arith, nat_tests)

all_other : (x : ℕ) → (xs : List ℕ) → list_any (λ s. s == x) xs ≡ false → AllByRecursion (λ y. (x == y) ≡ false) xs
all_other x [] h = tt
all_other x (y ∷ xs) h = (turned y x (left_false _ _ h), all_other x xs (right_false _ _ h))

any_turned : (x : ℕ) → (xs : List ℕ) → list_any (λ s. x == s) xs ≡ list_any (λ s. s == x) xs
any_turned x [] = refl
any_turned x (y ∷ xs) = ap (λ b. b || list_any (λ s. x == s) xs) (either_way x y) ∙ ap (λ b. (y == x) || b) (any_turned x xs)

abbrev Apart : Slotted → Type 0
Apart es = (a b : List ℕ) (k : ℕ) → find cmp a es ≡ Some k → find cmp b es ≡ Some k → a ≡ b

none_later : (e : List ℕ × ℕ) → (es : Slotted) → IsTrue (is_sorted cmp (e ∷ es)) → Apart (e ∷ es) → list_any (λ s. s == e.1) (map (λ x. x.1) es) ≡ false
none_later e es sorted apart =
    elim (list_any (λ s. s == e.1) (map (λ x. x.1) es)) as (λ b. list_any (λ s. s == e.1) (map (λ x. x.1) es) ≡ b → b ≡ false) [
      | true ↦ λ t.
          let one = found es e.1 (right_true _ (is_sorted cmp es) sorted) t in
          absurd (no_some e.1 (sym one.1 ∙ ap (λ x. find cmp x es) (apart one.0 e.0 e.1 (found_later e es e.1 one.0 (head_once e es sorted) one.1) (ap (λ b. cond b (Some e.1) (find cmp e.0 es)) (itself e.0))) ∙ head_once e es sorted))
      | false ↦ λ f. refl
    ] refl

distinct_numbers : (es : Slotted) → IsTrue (is_sorted cmp es) → Apart es → IsDistinct ◌==◌ (map (λ x. x.1) es)
unfolding IsDistinct
distinct_numbers [] sorted apart = tt
distinct_numbers (e ∷ es) sorted apart = (
  all_other e.1 (map (λ x. x.1) es) (none_later e es sorted apart),
  distinct_numbers es (right_true _ (is_sorted cmp es) sorted) (λ a b k ha hb. apart a b k (found_later e es k a (head_once e es sorted) ha) (found_later e es k b (head_once e es sorted) hb)),
)

count_within : (m : SlotMap) → AreApart m → ((k : ℕ) → is_used m k ≡ true → k < OUT_SLOTS) → length (finmap.entries m) ≤ OUT_SLOTS
count_within m apart below =
    subst (λ n. n ≤ OUT_SLOTS) (length-map (finmap.entries m) (λ e. e.1))
    (length-le_from_distinct_below (map (λ e. e.1) (finmap.entries m)) OUT_SLOTS
    (distinct_numbers (finmap.entries m) (tested (is_sorted cmp (finmap.entries m)) (finmap.entries_sorted m)) (λ a b k ha hb. apart a b k (finmap.get-entries m a ∙ ha) (finmap.get-entries m b ∙ hb)))
    (λ q h. below q (sym (any_turned q (map (λ e. e.1) (finmap.entries m))) ∙ h)))

pub few_listed : (start : RegistryState) → (h : List Entry) → (p : Held) → (es : Listed) → KeepsRegistry start h p → map with_number es ≡ finmap.entries (slots_of outgoing_slot p.names) → length es ≤ OUT_SLOTS
few_listed start h p es k is =
    subst (λ n. n ≤ OUT_SLOTS) (ap length (sym is) ∙ length-map es with_number)
    (count_within (slots_of outgoing_slot p.names) k.apart (λ q used. set_within p.taken OUT_SLOTS q k.slot_count (sym (k.told q) ∙ used)))

pub ok_so : {V E : Type 0} → (P Q : V → Type 0) → (r : Result V E) → ((v : V) → P v → Q v) → IfOk r P → IfOk r Q
ok_so P Q (Ok v) so h = so v h
ok_so P Q (Err e) so h = tt
