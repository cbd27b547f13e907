-- How the registry's parts change with its state.
use Rattle.std.proofs.Common.{◌≡◌, ℕ, ◌<◌, ◌&&◌, true, false, not, List, [], ◌∷◌, ◌++◌, length, slice_set, subst, refl, ap, sym, ◌∙◌, arith, is_some}
use Rattle.std.specs.Prelude.{None, Some}
use Rattle.std.specs.List.{IsDistinct}
use Rattle.std.specs.Map.{keys_of}
use Rattle.std.specs.Ordering.{nat_cmp}
use Rattle.std.specs.Option.{MatchOption}
use Rattle.std.specs.FinMap as finmap
use Rattle.std.specs.FinSet as finset
use Rattle.ho_base.specs.declared.limits.TheConstants.{OUT_SLOTS, FILES}
use Rattle.ho_base.specs.declared.numbers.SlotNo.{SlotNo}
use Rattle.ho_base.specs.declared.numbers.FileNo.{FileNo}
use Rattle.ho_events.specs.Lists.{same_bytes, only, is_just}
use Rattle.ho_events.specs.Registry.{RegistryState, is_used, least_free_slot, least_free_file, registry_step, Slots as SlotMap}
use Rattle.ho_events.specs.History.{registry_from}
use Rattle.ho_events.specs.declared.entry.Entry.{Entry}
use Rattle.ho_events.specs.declared.event.Event.{Event}
use Rattle.ho_events.specs.declared.event.Event.TheVariants.{RegCreate, RegDropName, RegNewFile, RegFreeFile}
use Rattle.ho_events.specs.declared.reply.Reply.{Reply}
use Rattle.ho_events.specs.declared.reply.Reply.TheVariants.{Ok, OkSlot, OkFile}
use Rattle.registry_core.proofs.FileNumbers.{length_set, numbers_set, numbers_clear}
use Rattle.registry_core.proofs.RegistryRuns.{shown_at, slot_within, turn_shows}
use Rattle.registry_core.proofs.SlotMaps.{IsWritten, slots_put, slots_cleared, slots_same, incoming_written}
use Rattle.registry_core.proofs.TakenSlots.{eqb_same, apart_put, apart_cleared, told_put, told_cleared, free_unused}
use Rattle.registry_core.specs.declared.parts.Slots.{Slots}
use Rattle.registry_core.specs.NameSlots.{slots_at, with_outgoing}
use Rattle.registry_core.specs.Registries.{IsInUse}
use Rattle.registry_core.specs.RegistryShown.{Held, outgoing_slot, waiting_slot, opened_slot, slots_of, numbers_of, shown, AreApart, KeepsRegistry}

-- a step, by the event and the reply of its entry
pub step_at : (s t : RegistryState) (e : Entry) (event : Event) (reply : Reply) → e.event ≡ event → e.reply ≡ reply → registry_step s event reply ≡ Some t → registry_step s e.event e.reply ≡ Some t
step_at s t e event reply ee er h = ap (λ x. registry_step s x e.reply) ee ∙ ap (registry_step s event) er ∙ h

-- states with the same names in the same slots
abbrev state : SlotMap → SlotMap → SlotMap → finset.FinSet nat_cmp → RegistryState
state outgoing waiting opened files = record { outgoing = outgoing; waiting = waiting; opened = opened; files = files }

pub same_state : (a b c d e f : SlotMap) → a ≡ b → c ≡ d → e ≡ f → (files : finset.FinSet nat_cmp) → Some (state a c e files) ≡ Some (state b d f files)
same_state a b c d e f g h i files = λ t. Some (state (g t) (h t) (i t) files)

-- one more name
name_step : (s : RegistryState) (name : List ℕ) (slot : SlotNo) → finmap.get s.outgoing name ≡ None → least_free_slot s.outgoing ≡ Some slot.0 → registry_step s (RegCreate name) (OkSlot slot) ≡ Some (record s { outgoing = finmap.insert s.outgoing name slot.0 })
name_step s name slot new least =
    ap (λ b. only b (record s { outgoing = finmap.insert s.outgoing name slot.0 }))
    (ap (λ x. not (is_some x) && is_just slot.0 (least_free_slot s.outgoing)) new ∙ ap (is_just slot.0) least ∙ eqb_same slot.0)

module _ (start : RegistryState) (h : List Entry) (e : Entry) (p : Held) (k : KeepsRegistry start h p) (name : List ℕ) (slot : SlotNo) (names : List (List ℕ × Slots)) (unique : IsDistinct same_bytes (keys_of names)) where
  abbrev put : Held
  put = record { names = names; taken = slice_set p.taken slot.0 true; files = p.files }

  abbrev outgoing : SlotMap
  outgoing = slots_of outgoing_slot p.names

  pub name_keeps : IsWritten p.names names name (with_outgoing (Some slot) (slots_at p.names name)) → MatchOption (registry_from start h) ⊥ (λ s. finmap.get s.outgoing name ≡ None) → MatchOption (registry_from start h) ⊥ (λ s. least_free_slot s.outgoing ≡ Some slot.0) → slot.0 < OUT_SLOTS → e.event ≡ RegCreate name → e.reply ≡ OkSlot slot → KeepsRegistry start (h ++ e ∷ []) put
  name_keeps written new least below event reply =
      let is_new : finmap.get outgoing name ≡ None = shown_at (λ s. finmap.get s.outgoing name ≡ None) start h p k new in
      let free : least_free_slot outgoing ≡ Some slot.0 = shown_at (λ s. least_free_slot s.outgoing ≡ Some slot.0) start h p k least in
      let inside : slot.0 < length p.taken = omega (arith, below, k.slot_count) in
      let unused : is_used outgoing slot.0 ≡ false = free_unused outgoing slot.0 free in
      let there : slots_of outgoing_slot names ≡ finmap.insert outgoing name slot.0 = slots_put outgoing_slot refl p.names names name _ k.unique unique written slot refl in
      record {
        replayed = turn_shows start h e p put k
            (step_at (shown p) (shown put) e (RegCreate name) (OkSlot slot) event reply
            (name_step (shown p) name slot is_new free
            ∙ same_state _ _ _ _ _ _ (sym there) (sym (slots_same waiting_slot refl p.names names name _ k.unique unique written refl)) (sym (slots_same opened_slot refl p.names names name _ k.unique unique written refl)) (numbers_of p.files)));
        unique = unique;
        slot_count = length_set p.taken slot.0 true OUT_SLOTS k.slot_count;
        file_count = k.file_count;
        told = λ j. ap (λ m. is_used m j) there ∙ told_put outgoing name slot.0 k.apart p.taken k.told is_new inside j;
        apart = subst AreApart (sym there) (apart_put outgoing name slot.0 k.apart unused);
        incoming = incoming_written p.names names name _ written k.incoming (k.incoming name);
      }

  -- a name less
  abbrev cleared : Held
  cleared = record { names = names; taken = slice_set p.taken slot.0 false; files = p.files }

  pub drop_keeps : IsWritten p.names names name (with_outgoing None (slots_at p.names name)) → finmap.get outgoing name ≡ Some slot.0 → e.event ≡ RegDropName name → e.reply ≡ Ok → KeepsRegistry start (h ++ e ∷ []) cleared
  drop_keeps written here event reply =
      let inside : slot.0 < length p.taken = omega (arith, slot_within start h p name slot.0 k here, k.slot_count) in
      let gone : slots_of outgoing_slot names ≡ finmap.remove outgoing name = slots_cleared outgoing_slot refl p.names names name _ k.unique unique written refl in
      record {
        replayed = turn_shows start h e p cleared k
            (step_at (shown p) (shown cleared) e (RegDropName name) Ok event reply
            (ap (λ o. only (is_some o) (record (shown p) { outgoing = finmap.remove outgoing name })) here
            ∙ same_state _ _ _ _ _ _ (sym gone) (sym (slots_same waiting_slot refl p.names names name _ k.unique unique written refl)) (sym (slots_same opened_slot refl p.names names name _ k.unique unique written refl)) (numbers_of p.files)));
        unique = unique;
        slot_count = length_set p.taken slot.0 false OUT_SLOTS k.slot_count;
        file_count = k.file_count;
        told = λ j. ap (λ m. is_used m j) gone ∙ told_cleared outgoing name slot.0 k.apart p.taken k.told here inside j;
        apart = subst AreApart (sym gone) (apart_cleared outgoing name slot.0 k.apart);
        incoming = incoming_written p.names names name _ written k.incoming (k.incoming name);
      }

-- a number taken;  given back
pub file_keeps : (start : RegistryState) (h : List Entry) (e : Entry) (p : Held) (f : FileNo) → KeepsRegistry start h p → MatchOption (registry_from start h) ⊥ (λ s. least_free_file s.files ≡ Some f.0) → f.0 < FILES → e.event ≡ RegNewFile → e.reply ≡ OkFile f → KeepsRegistry start (h ++ e ∷ []) (record p { files = slice_set p.files f.0 true })
file_keeps start h e p f k least below event reply =
    let free : least_free_file (numbers_of p.files) ≡ Some f.0 = shown_at (λ s. least_free_file s.files ≡ Some f.0) start h p k least in
    record {
      replayed = turn_shows start h e p (record p { files = slice_set p.files f.0 true }) k
          (step_at (shown p) (shown (record p { files = slice_set p.files f.0 true })) e RegNewFile (OkFile f) event reply
          (ap (λ b. only b (record (shown p) { files = finset.insert (numbers_of p.files) f.0 })) (ap (is_just f.0) free ∙ eqb_same f.0)
          ∙ ap (λ files. Some (record (shown p) { files = files })) (numbers_set p.files f.0 k.file_count below)));
      unique = k.unique;
      slot_count = k.slot_count;
      file_count = length_set p.files f.0 true FILES k.file_count;
      told = k.told;
      apart = k.apart;
      incoming = k.incoming;
    }

pub free_keeps : (start : RegistryState) (h : List Entry) (e : Entry) (p : Held) (f : FileNo) → KeepsRegistry start h p → MatchOption (registry_from start h) ⊥ (IsInUse f.0) → f.0 < FILES → e.event ≡ RegFreeFile f → e.reply ≡ Ok → KeepsRegistry start (h ++ e ∷ []) (record p { files = slice_set p.files f.0 false })
free_keeps start h e p f k in_use below event reply = record {
  replayed = turn_shows start h e p (record p { files = slice_set p.files f.0 false }) k
      (step_at (shown p) (shown (record p { files = slice_set p.files f.0 false })) e (RegFreeFile f) Ok event reply
      (ap (λ b. only b (record (shown p) { files = finset.remove (numbers_of p.files) f.0 })) (shown_at (IsInUse f.0) start h p k in_use)
      ∙ ap (λ files. Some (record (shown p) { files = files })) (numbers_clear p.files f.0 k.file_count below)));
  unique = k.unique;
  slot_count = k.slot_count;
  file_count = length_set p.files f.0 false FILES k.file_count;
  told = k.told;
  apart = k.apart;
  incoming = k.incoming;
}
