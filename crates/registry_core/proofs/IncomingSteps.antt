-- How the registry's parts change with names that wait and are opened.
use Rattle.std.proofs.Common.{◌≡◌, ℕ, ◌&&◌, not, List, [], ◌∷◌, ◌++◌, subst, refl, ap, sym, ◌∙◌, is_some, IsTrue}
use Rattle.std.specs.Prelude.{Option, None, Some, option_map}
use Rattle.std.specs.List.{IsDistinct}
use Rattle.std.specs.Map.{keys_of, lookup}
use Rattle.std.specs.Option.{MatchOption, IfSome, IsSome, unwrap_or}
use Rattle.std.specs.FinMap as finmap
use Rattle.std.specs.FinSet as finset
use Rattle.ho_base.specs.declared.numbers.SlotNo.{SlotNo}
use Rattle.ho_events.specs.Lists.{same_bytes, only, is_just}
use Rattle.ho_events.specs.Registry.{RegistryState, is_used, registry_step}
use Rattle.ho_events.specs.History.{registry_from}
use Rattle.ho_events.specs.declared.entry.Entry.{Entry}
use Rattle.ho_events.specs.declared.event.Event.TheVariants.{RegOpen, RegDropIn}
use Rattle.ho_events.specs.declared.reply.Reply.TheVariants.{Ok, OkSlot}
use Rattle.registry_core.proofs.RegistryRuns.{shown_at, told_at, turn_shows}
use Rattle.registry_core.proofs.RegistrySteps.{step_at, same_state}
use Rattle.registry_core.proofs.SlotMaps.{IsWritten, get_slots, has_name, slots_put, slots_cleared, slots_same, incoming_written}
use Rattle.registry_core.proofs.TakenSlots.{eqb_same}
use Rattle.registry_core.specs.declared.parts.Slots.{Slots}
use Rattle.registry_core.specs.NameSlots.{no_slots, slots_at, opened_in, without_opened}
use Rattle.registry_core.specs.Registries.{IsInSlot, IsOpened}
use Rattle.registry_core.specs.RegistryShown.{Held, outgoing_slot, waiting_slot, opened_slot, slots_of, numbers_of, names_of, shown, AreApart, KeepsRegistry}

-- the slots of a name, by the parts
module _ (start : RegistryState) (h : List Entry) (p : Held) (name : List ℕ) where
  pub opened_told : (slots : Slots) → KeepsRegistry start h p → slots ≡ slots_at p.names name → MatchOption (registry_from start h) ⊥ (λ s. finmap.get s.opened name ≡ option_map (λ x. x.0) slots.opened)
  opened_told slots k is =
      told_at (λ s. finmap.get s.opened name ≡ option_map (λ x. x.0) slots.opened) start h p k
      (get_slots opened_slot refl p.names k.unique name ∙ ap (λ s. option_map (λ x. x.0) s.opened) (sym is))

  pub waiting_told : (slots : Slots) → KeepsRegistry start h p → slots ≡ slots_at p.names name → MatchOption (registry_from start h) ⊥ (λ s. finmap.get s.waiting name ≡ option_map (λ x. x.0) slots.waiting)
  waiting_told slots k is =
      told_at (λ s. finmap.get s.waiting name ≡ option_map (λ x. x.0) slots.waiting) start h p k
      (get_slots waiting_slot refl p.names k.unique name ∙ ap (λ s. option_map (λ x. x.0) s.waiting) (sym is))

  pub opened_within : (slots : Slots) → KeepsRegistry start h p → slots ≡ slots_at p.names name → IfSome slots.opened IsInSlot
  opened_within slots k is = subst (λ s. IfSome s.opened IsInSlot) (sym is) (k.incoming name).1

  pub waiting_within : (slots : Slots) → KeepsRegistry start h p → slots ≡ slots_at p.names name → IfSome slots.waiting IsInSlot
  waiting_within slots k is = subst (λ s. IfSome s.waiting IsInSlot) (sym is) (k.incoming name).0

-- a name that has a slot is ready
has_opened : (o : Option Slots) → IsTrue (is_some (option_map (λ x. x.0) (unwrap_or o no_slots).opened)) → IsSome o
has_opened None h = cc
has_opened (Some s) h = refl

has_waiting : (o : Option Slots) (slot : ℕ) → option_map (λ x. x.0) (unwrap_or o no_slots).waiting ≡ Some slot → IsSome o
has_waiting None slot h = cc
has_waiting (Some s) slot h = refl

pub opened_ready : (start : RegistryState) (h : List Entry) (p : Held) (name : List ℕ) → KeepsRegistry start h p → MatchOption (registry_from start h) ⊥ (IsOpened name) → IsSome (lookup (same_bytes name) p.names)
opened_ready start h p name k is =
    has_opened (lookup (same_bytes name) p.names) (ap is_some (sym (get_slots opened_slot refl p.names k.unique name)) ∙ shown_at (IsOpened name) start h p k is)

pub waiting_ready : (start : RegistryState) (h : List Entry) (p : Held) (name : List ℕ) (slot : ℕ) → KeepsRegistry start h p → MatchOption (registry_from start h) ⊥ (λ s. finmap.get s.waiting name ≡ Some slot) → IsSome (lookup (same_bytes name) p.names)
waiting_ready start h p name slot k is =
    has_waiting (lookup (same_bytes name) p.names) slot (sym (get_slots waiting_slot refl p.names k.unique name) ∙ shown_at (λ s. finmap.get s.waiting name ≡ Some slot) start h p k is)

pub slot_in_ready : (names : List (List ℕ × Slots)) (name : List ℕ) (slots : Slots) → slots ≡ slots_at names name → IfSome slots.opened (λ x. IsTrue (finset.contains (names_of (keys_of names)) name))
slot_in_ready names name slots is = ready slots.opened (λ slot here. has_name names name ∙ has_opened (lookup (same_bytes name) names) (ap (λ s. is_some (option_map (λ x. x.0) s.opened)) (sym is) ∙ ap (λ o. is_some (option_map (λ x. x.0) o)) here))
  where
    ready : {P : Type 0} (o : Option SlotNo) → ((slot : SlotNo) → o ≡ Some slot → P) → IfSome o (λ x. P)
    ready None h = tt
    ready (Some slot) h = h slot refl

-- a name is opened
open_step : (s : RegistryState) (name : List ℕ) (slot : SlotNo) → finmap.get s.opened name ≡ None → finmap.get s.waiting name ≡ Some slot.0 → registry_step s (RegOpen name) (OkSlot slot) ≡ Some (record s { waiting = finmap.remove s.waiting name; opened = finmap.insert s.opened name slot.0 })
open_step s name slot closed waits =
    ap (λ b. only b (record s { waiting = finmap.remove s.waiting name; opened = finmap.insert s.opened name slot.0 }))
    (ap (λ x. not (is_some x) && is_just slot.0 (finmap.get s.waiting name)) closed ∙ ap (is_just slot.0) waits ∙ eqb_same slot.0)

module _ (start : RegistryState) (h : List Entry) (e : Entry) (p : Held) (k : KeepsRegistry start h p) (name : List ℕ) (names : List (List ℕ × Slots)) (unique : IsDistinct same_bytes (keys_of names)) where
  abbrev after : Held
  after = record { names = names; taken = p.taken; files = p.files }

  pub open_keeps : (slot : SlotNo) → IsWritten p.names names name (opened_in slot (slots_at p.names name)) → MatchOption (registry_from start h) ⊥ (λ s. finmap.get s.opened name ≡ None) → MatchOption (registry_from start h) ⊥ (λ s. finmap.get s.waiting name ≡ Some slot.0) → IsInSlot slot → e.event ≡ RegOpen name → e.reply ≡ OkSlot slot → KeepsRegistry start (h ++ e ∷ []) after
  open_keeps slot written closed waits within event reply =
      let same : slots_of outgoing_slot names ≡ slots_of outgoing_slot p.names = slots_same outgoing_slot refl p.names names name _ k.unique unique written refl in
      record {
        replayed = turn_shows start h e p after k
            (step_at (shown p) (shown after) e (RegOpen name) (OkSlot slot) event reply
            (open_step (shown p) name slot (shown_at (λ s. finmap.get s.opened name ≡ None) start h p k closed) (shown_at (λ s. finmap.get s.waiting name ≡ Some slot.0) start h p k waits)
            ∙ same_state _ _ _ _ _ _ (sym same) (sym (slots_cleared waiting_slot refl p.names names name _ k.unique unique written refl)) (sym (slots_put opened_slot refl p.names names name _ k.unique unique written slot refl)) (numbers_of p.files)));
        unique = unique;
        slot_count = k.slot_count;
        file_count = k.file_count;
        told = λ j. ap (λ m. is_used m j) same ∙ k.told j;
        apart = subst AreApart (sym same) k.apart;
        incoming = incoming_written p.names names name _ written k.incoming (tt, within);
      }

  -- an opened name ends
  pub drop_in_keeps : IsWritten p.names names name (without_opened (slots_at p.names name)) → MatchOption (registry_from start h) ⊥ (IsOpened name) → e.event ≡ RegDropIn name → e.reply ≡ Ok → KeepsRegistry start (h ++ e ∷ []) after
  drop_in_keeps written here event reply =
      let same : slots_of outgoing_slot names ≡ slots_of outgoing_slot p.names = slots_same outgoing_slot refl p.names names name _ k.unique unique written refl in
      record {
        replayed = turn_shows start h e p after k
            (step_at (shown p) (shown after) e (RegDropIn name) Ok event reply
            (ap (λ b. only b (record (shown p) { opened = finmap.remove (slots_of opened_slot p.names) name })) (shown_at (IsOpened name) start h p k here)
            ∙ same_state _ _ _ _ _ _ (sym same) (sym (slots_same waiting_slot refl p.names names name _ k.unique unique written refl)) (sym (slots_cleared opened_slot refl p.names names name _ k.unique unique written refl)) (numbers_of p.files)));
        unique = unique;
        slot_count = k.slot_count;
        file_count = k.file_count;
        told = λ j. ap (λ m. is_used m j) same ∙ k.told j;
        apart = subst AreApart (sym same) k.apart;
        incoming = incoming_written p.names names name _ written k.incoming ((k.incoming name).0, tt);
      }
