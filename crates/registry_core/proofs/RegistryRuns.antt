-- How the registry's parts show the state that its history leads to.
use Rattle.std.proofs.Common.{◌≡◌, ℕ, ◌<◌, ◌≤◌, ◌==◌, Bool, true, false, not, nat_lt, List, [], ◌∷◌, ◌++◌, map, length, replicate, slice_index_or, refl, ap, sym, ◌∙◌, arith, IsTrue, is_some, subst, ◌↔◌}
use Rattle.std.specs.Prelude.{Option, None, Some, option_map}
use Rattle.std.specs.List.{find, list_any, IsDistinct}
use Rattle.std.specs.Ordering.{nat_cmp}
use Rattle.std.specs.Cmp.Lexicographic.{slice_cmp}
use Rattle.std.specs.Map.{keys_of, lookup}
use Rattle.std.specs.Option.{MatchOption, IfSome, IsSome, unwrap_or}
use Rattle.std.specs.FinMap as finmap
use Rattle.std.specs.FinSet as finset
use Rattle.std.proofs.lemmas.Grind.{common_steps}
use Rattle.std.proofs.lemmas.Bool.Decides.{nat_tests}
use Rattle.ho_base.specs.declared.limits.TheConstants.{OUT_SLOTS, FILES}
use Rattle.ho_base.specs.declared.numbers.SlotNo.{SlotNo}
use Rattle.ho_events.specs.Lists.{same_bytes, upto}
use Rattle.ho_events.specs.Registry.{RegistryState, cold_registry, is_used, least_free_slot, least_free_file, registry_step}
use Rattle.ho_events.specs.History.{run_from, then_entry, registry_from}
use Rattle.ho_events.specs.declared.entry.Entry.{Entry}
use Rattle.ho_events.specs.declared.event.Event.{Event}
use Rattle.ho_events.specs.declared.reply.Reply.{Reply}
use Rattle.ho_events.proofs.Runs.{run_push}
use Rattle.registry_core.proofs.FileNumbers.{numbers_at, numbers_none}
use Rattle.registry_core.proofs.FirstOf.{found_alike}
use Rattle.registry_core.proofs.SlotMaps.{get_slots, has_name}
use Rattle.registry_core.proofs.TakenSlots.{used_at}
use Rattle.registry_core.specs.declared.parts.Slots.{Slots}
use Rattle.registry_core.specs.NameSlots.{no_slots, slots_at}
use Rattle.registry_core.specs.Registries.{IsOutgoing, IsInUse}
use Rattle.registry_core.specs.RegistryShown.{Held, outgoing_slot, slots_of, numbers_of, names_of, shown, AreApart, KeepsRegistry}
use Rattle.registry_core.specs.UsedNumbers.{least_free}

-- a registry that begins cold, without entries
abbrev cold_parts : List Bool → List Bool → Held
cold_parts taken files = record { names = []; taken = taken; files = files }

no_entries : {X : Type 0} (es : List X) → length es ≡ 0 → es ≡ []
no_entries [] h = refl
no_entries (e ∷ es) h = absurd (omega (arith, h))

pub none_used : (k : ℕ) → is_used (slots_of outgoing_slot []) k ≡ false
unfolding slots_of
none_used k =
    ap (λ es. list_any (λ s. s == k) (map (λ e. e.1) es))
    (no_entries (finmap.entries finmap.empty) (sym (finmap.len-entries finmap.empty) ∙ finmap.len-empty (slice_cmp nat_cmp) ℕ))

pub none_slotted : AreApart (slots_of outgoing_slot [])
unfolding slots_of
none_slotted a b k h = absurd (no_some k (sym h ∙ finmap.get-empty (slice_cmp nat_cmp) a))
  where
    no_some : (k : ℕ) → ◌≡◌ {A = Option ℕ} (Some k) None → ⊥
    no_some k h = cc

pub unset : (n f : ℕ) → slice_index_or (replicate n false) f false ≡ false
unset n f = grind (arith, common_steps)

pub as_many : (n : ℕ) → length (replicate n false) ≡ n
as_many n = grind (arith, common_steps)

cold_keeps : (taken files : List Bool) → taken ≡ replicate OUT_SLOTS false → files ≡ replicate FILES false → KeepsRegistry (shown (cold_parts taken files)) [] (cold_parts taken files)
unfolding run_from IsDistinct
cold_keeps taken files t f = record {
  replayed = refl;
  unique = tt;
  slot_count = ap length t ∙ as_many OUT_SLOTS;
  file_count = ap length f ∙ as_many FILES;
  told = λ k. none_used k ∙ sym (ap (λ l. slice_index_or l k false) t ∙ unset OUT_SLOTS k);
  apart = none_slotted;
  incoming = λ q. (tt, tt);
}

pub empty_keeps : (names : List (List ℕ × Slots)) (taken files : List Bool) → names ≡ [] → taken ≡ replicate OUT_SLOTS false → files ≡ replicate FILES false → KeepsRegistry (shown (record { names = names; taken = taken; files = files })) [] (record { names = names; taken = taken; files = files })
empty_keeps names taken files n t f = subst (λ x. KeepsRegistry (shown (record { names = x; taken = taken; files = files })) [] (record { names = x; taken = taken; files = files })) (sym n) (cold_keeps taken files t f)

pub cold_shown : (names : List (List ℕ × Slots)) (taken files : List Bool) → names ≡ [] → files ≡ replicate FILES false → shown (record { names = names; taken = taken; files = files }) ≡ cold_registry
unfolding slots_of
cold_shown names taken files n f =
    ap (λ x. shown (record { names = x; taken = taken; files = files })) n
    ∙ ap (λ numbers. record cold_registry { files = numbers }) (numbers_none files f)

pub keeps_run : (start : RegistryState) (h : List Entry) (p : Held) → KeepsRegistry start h p → IsTrue (is_some (registry_from start h))
keeps_run start h p k = ap is_some k.replayed

-- a fact of the state that is shown, of the state that the history leads to, and the other way round
pub told_at : (Q : RegistryState → Type 0) (start : RegistryState) (h : List Entry) (p : Held) → KeepsRegistry start h p → Q (shown p) → MatchOption (registry_from start h) ⊥ Q
told_at Q start h p k q = subst (λ o. MatchOption o ⊥ Q) (sym k.replayed) q

pub shown_at : (R : RegistryState → Type 0) (start : RegistryState) (h : List Entry) (p : Held) → KeepsRegistry start h p → MatchOption (registry_from start h) ⊥ R → R (shown p)
shown_at R start h p k r = subst (λ o. MatchOption o ⊥ R) k.replayed r

-- what follows from a fact of the state
pub told : {S : Type 0} → {P : S → Type 0} → (Q : S → Type 0) → (o : Option S) → ((s : S) → P s → Q s) → MatchOption o ⊥ P → MatchOption o ⊥ Q
told Q None so h = h
told Q (Some s) so h = so s h

-- a turn, by the step that it takes
pub turn_shows : (start : RegistryState) (h : List Entry) (e : Entry) (p q : Held) → KeepsRegistry start h p → registry_step (shown p) e.event e.reply ≡ Some (shown q) → registry_from start (h ++ e ∷ []) ≡ Some (shown q)
turn_shows start h e p q k step = run_push registry_step (Some start) h e ∙ ap (λ o. then_entry registry_step o e) k.replayed ∙ step

pub stay_keeps : (start : RegistryState) (h : List Entry) (e : Entry) (p : Held) (event : Event) (reply : Reply) → KeepsRegistry start h p → MatchOption (registry_from start h) ⊥ (λ s. registry_step s event reply ≡ Some s) → e.event ≡ event → e.reply ≡ reply → KeepsRegistry start (h ++ e ∷ []) p
stay_keeps start h e p event reply k stays ee er = record {
  replayed = turn_shows start h e p p k
      (ap (λ x. registry_step (shown p) x e.reply) ee ∙ ap (registry_step (shown p) event) er ∙ shown_at (λ s. registry_step s event reply ≡ Some s) start h p k stays);
  unique = k.unique;
  slot_count = k.slot_count;
  file_count = k.file_count;
  told = k.told;
  apart = k.apart;
  incoming = k.incoming;
}

-- the slot of a name
name_told : (start : RegistryState) (h : List Entry) (p : Held) (name : List ℕ) → KeepsRegistry start h p → finmap.get (slots_of outgoing_slot p.names) name ≡ option_map (λ x. x.0) (slots_at p.names name).outgoing
name_told start h p name k = get_slots outgoing_slot refl p.names k.unique name

pub slot_told : (start : RegistryState) (h : List Entry) (p : Held) (name : List ℕ) (slots : Slots) → KeepsRegistry start h p → slots ≡ slots_at p.names name → MatchOption (registry_from start h) ⊥ (λ s. finmap.get s.outgoing name ≡ option_map (λ x. x.0) slots.outgoing)
slot_told start h p name slots k is =
    told_at (λ s. finmap.get s.outgoing name ≡ option_map (λ x. x.0) slots.outgoing) start h p k (name_told start h p name k ∙ ap (λ s. option_map (λ x. x.0) s.outgoing) (sym is))

pub set_within : (used : List Bool) (n k : ℕ) → length used ≡ n → slice_index_or used k false ≡ true → k < n
set_within used n k count set = elim (nat_lt k n) as (λ b. nat_lt k n ≡ b → k < n) [ true ↦ λ t. less k n t | false ↦ λ f. absurd (clash (slice_index_or used k false) (past used n k count f) set) ] refl
  where
    less : (a b : ℕ) → nat_lt a b ≡ true → a < b
    less a b h = grind (arith, nat_tests)

    past : (used : List Bool) (n k : ℕ) → length used ≡ n → nat_lt k n ≡ false → slice_index_or used k false ≡ false
    past used n k count f = behind used k (more n k f count)
      where
        behind : (used : List Bool) (k : ℕ) → length used ≤ k → slice_index_or used k false ≡ false
        behind used k h = grind (arith, common_steps)

        more : (n k : ℕ) → nat_lt k n ≡ false → length used ≡ n → length used ≤ k
        more n k f count = grind (arith, nat_tests)

    clash : (b : Bool) → b ≡ false → b ≡ true → ⊥
    clash b f t = cc

pub slot_within : (start : RegistryState) (h : List Entry) (p : Held) (name : List ℕ) (slot : ℕ) → KeepsRegistry start h p → finmap.get (slots_of outgoing_slot p.names) name ≡ Some slot → slot < OUT_SLOTS
slot_within start h p name slot k is = set_within p.taken OUT_SLOTS slot k.slot_count (sym (k.told slot) ∙ used_at (slots_of outgoing_slot p.names) name slot is)

pub slot_fits : (start : RegistryState) (h : List Entry) (p : Held) (name : List ℕ) (slots : Slots) → KeepsRegistry start h p → slots ≡ slots_at p.names name → IfSome slots.outgoing (λ x. x.0 < OUT_SLOTS)
slot_fits start h p name slots k is = fits slots.outgoing (λ slot here. slot_within start h p name slot.0 k (name_told start h p name k ∙ ap (λ s. option_map (λ x. x.0) s.outgoing) (sym is) ∙ ap (option_map (λ x. x.0)) here))
  where
    fits : (o : Option SlotNo) → ((slot : SlotNo) → o ≡ Some slot → slot.0 < OUT_SLOTS) → IfSome o (λ x. x.0 < OUT_SLOTS)
    fits None h = tt
    fits (Some slot) h = h slot refl

-- a name that has a slot is ready
pub slotted : (start : RegistryState) (h : List Entry) (p : Held) (name : List ℕ) (found : Option SlotNo) (slot : SlotNo) → KeepsRegistry start h p → MatchOption (registry_from start h) ⊥ (λ s. finmap.get s.outgoing name ≡ option_map (λ x. x.0) found) → found ≡ Some slot → finmap.get (slots_of outgoing_slot p.names) name ≡ Some slot.0
slotted start h p name found slot k told is = shown_at (λ s. finmap.get s.outgoing name ≡ option_map (λ x. x.0) found) start h p k told ∙ ap (option_map (λ x. x.0)) is

has_slots : (o : Option Slots) (slot : ℕ) → option_map (λ x. x.0) (unwrap_or o no_slots).outgoing ≡ Some slot → IsSome o
has_slots None slot h = cc
has_slots (Some s) slot h = refl

pub slotted_ready : (start : RegistryState) (h : List Entry) (p : Held) (name : List ℕ) (slot : ℕ) → KeepsRegistry start h p → finmap.get (slots_of outgoing_slot p.names) name ≡ Some slot → IsSome (lookup (same_bytes name) p.names)
slotted_ready start h p name slot k here = has_slots (lookup (same_bytes name) p.names) slot (sym (name_told start h p name k) ∙ here)

pub slot_ready : (start : RegistryState) (h : List Entry) (p : Held) (name : List ℕ) (slots : Slots) → KeepsRegistry start h p → slots ≡ slots_at p.names name → IfSome slots.outgoing (λ x. IsTrue (finset.contains (names_of (keys_of p.names)) name))
slot_ready start h p name slots k is =
    ready slots.outgoing
    (λ slot here. has_name p.names name ∙ some (lookup (same_bytes name) p.names) (has_slots (lookup (same_bytes name) p.names) slot.0 (ap (λ s. option_map (λ x. x.0) s.outgoing) (sym is) ∙ ap (option_map (λ x. x.0)) here)))
  where
    ready : {P : Type 0} (o : Option SlotNo) → ((slot : SlotNo) → o ≡ Some slot → P) → IfSome o (λ x. P)
    ready None h = tt
    ready (Some slot) h = h slot refl

    some : (o : Option Slots) → IsSome o → is_some o ≡ true
    some o h = h

pub out_is : (found : Option SlotNo) (slot : Option ℕ) → slot ≡ option_map (λ x. x.0) found → IsTrue (is_some found) ↔ IsTrue (is_some slot)
out_is None slot h = subst (λ o. IsTrue false ↔ IsTrue (is_some o)) (sym h) (λ x. x, λ x. x)
out_is (Some x) slot h = subst (λ o. IsTrue true ↔ IsTrue (is_some o)) (sym h) (λ x. x, λ x. x)

pub out_told : (o : Option RegistryState) (name : List ℕ) (found : Option SlotNo) → MatchOption o ⊥ (λ s. finmap.get s.outgoing name ≡ option_map (λ x. x.0) found) → MatchOption o ⊥ (λ s. IsTrue (is_some found) ↔ IsOutgoing name s)
out_told o name found h = told (λ s. IsTrue (is_some found) ↔ IsOutgoing name s) o (λ s is. out_is found _ is) h

-- the flags
same_test : (a b : Bool) → b ≡ a → IsTrue a ↔ IsTrue b
same_test a b h = subst (λ x. IsTrue a ↔ IsTrue x) (sym h) (λ x. x, λ x. x)

pub use_told : (start : RegistryState) (h : List Entry) (p : Held) (f : ℕ) (b : Bool) → KeepsRegistry start h p → b ≡ slice_index_or p.files f false → MatchOption (registry_from start h) ⊥ (λ s. IsTrue b ↔ IsInUse f s)
use_told start h p f b k is = told_at (λ s. IsTrue b ↔ IsInUse f s) start h p k (same_test _ _ (numbers_at p.files f k.file_count ∙ sym is))

pub least_slot_told : (start : RegistryState) (h : List Entry) (p : Held) (found : Option ℕ) → KeepsRegistry start h p → found ≡ least_free p.taken → MatchOption (registry_from start h) ⊥ (λ s. least_free_slot s.outgoing ≡ found)
least_slot_told start h p found k is =
    told_at (λ s. least_free_slot s.outgoing ≡ found) start h p k
    (found_alike (λ j. not (is_used (slots_of outgoing_slot p.names) j)) (λ j. not (slice_index_or p.taken j false)) (λ j. ap not (k.told j)) (upto OUT_SLOTS)
    ∙ ap (λ n. find (λ j. not (slice_index_or p.taken j false)) (upto n)) (sym k.slot_count) ∙ sym is)

pub least_file_told : (start : RegistryState) (h : List Entry) (p : Held) (found : Option ℕ) → KeepsRegistry start h p → found ≡ least_free p.files → MatchOption (registry_from start h) ⊥ (λ s. least_free_file s.files ≡ found)
least_file_told start h p found k is =
    told_at (λ s. least_free_file s.files ≡ found) start h p k
    (found_alike (λ j. not (finset.contains (numbers_of p.files) j)) (λ j. not (slice_index_or p.files j false)) (λ j. ap not (numbers_at p.files j k.file_count)) (upto FILES)
    ∙ ap (λ n. find (λ j. not (slice_index_or p.files j false)) (upto n)) (sym k.file_count) ∙ sym is)
