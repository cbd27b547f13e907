-- What the registry answers about names that wait and are opened.
use Rattle.std.proofs.Common.{◌≡◌, ℕ, ◌&&◌, true, false, List, ap, sym, ◌∙◌, is_some, not}
use Rattle.std.specs.Prelude.{Option, None, Some, option_map}
use Rattle.std.specs.Option.{MatchOption}
use Rattle.std.specs.FinMap as finmap
use Rattle.ho_base.specs.declared.numbers.SlotNo.{SlotNo}
use Rattle.ho_events.specs.Lists.{only}
use Rattle.ho_events.specs.Registry.{RegistryState, find_step, registry_step}
use Rattle.ho_events.specs.declared.event.Event.TheVariants.{RegFindIn, RegOpen}
use Rattle.ho_events.specs.declared.reply.Reply.TheVariants.{OkSlot, NoSession, AlreadyOpen}
use Rattle.registry_core.proofs.RegistryAnswers.{both}
use Rattle.registry_core.proofs.RegistryRuns.{told}
use Rattle.registry_core.proofs.TakenSlots.{eqb_same}
use Rattle.registry_core.specs.Registries.{find_answer, open_answer}

-- an opened name's slot
pub find_found : (o : Option RegistryState) → (name : List ℕ) → (found : Option SlotNo) → (slot : SlotNo) → MatchOption o ⊥ (λ s. finmap.get s.opened name ≡ option_map (λ x. x.0) found) → found ≡ Some slot → MatchOption o ⊥ (λ s. registry_step s (RegFindIn name) (OkSlot slot) ≡ Some s)
find_found o name found slot is h =
    told (λ s. registry_step s (RegFindIn name) (OkSlot slot) ≡ Some s) o (λ s p. ap (λ y. find_step s y (OkSlot slot)) (p ∙ ap (option_map (λ x. x.0)) h) ∙ ap (λ b. only b s) (eqb_same slot.0)) is

pub find_found_told : (o : Option RegistryState) → (name : List ℕ) → (found : Option SlotNo) → (slot : SlotNo) → MatchOption o ⊥ (λ s. finmap.get s.opened name ≡ option_map (λ x. x.0) found) → found ≡ Some slot → MatchOption o ⊥ (λ s. OkSlot slot ≡ find_answer (finmap.get s.opened name))
find_found_told o name found slot is h = told (λ s. OkSlot slot ≡ find_answer (finmap.get s.opened name)) o (λ s p. sym (ap find_answer (p ∙ ap (option_map (λ x. x.0)) h))) is

pub find_none : (o : Option RegistryState) → (name : List ℕ) → (found : Option SlotNo) → MatchOption o ⊥ (λ s. finmap.get s.opened name ≡ option_map (λ x. x.0) found) → found ≡ None → MatchOption o ⊥ (λ s. registry_step s (RegFindIn name) NoSession ≡ Some s)
find_none o name found is h = told (λ s. registry_step s (RegFindIn name) NoSession ≡ Some s) o (λ s p. ap (λ y. find_step s y NoSession) (p ∙ ap (option_map (λ x. x.0)) h)) is

pub find_none_told : (o : Option RegistryState) → (name : List ℕ) → (found : Option SlotNo) → MatchOption o ⊥ (λ s. finmap.get s.opened name ≡ option_map (λ x. x.0) found) → found ≡ None → MatchOption o ⊥ (λ s. NoSession ≡ find_answer (finmap.get s.opened name))
find_none_told o name found is h = told (λ s. NoSession ≡ find_answer (finmap.get s.opened name)) o (λ s p. sym (ap find_answer (p ∙ ap (option_map (λ x. x.0)) h))) is

-- a name that is opened already
pub open_again : (o : Option RegistryState) → (name : List ℕ) → (found : Option SlotNo) → MatchOption o ⊥ (λ s. finmap.get s.opened name ≡ option_map (λ x. x.0) found) → is_some found ≡ true → MatchOption o ⊥ (λ s. registry_step s (RegOpen name) AlreadyOpen ≡ Some s)
open_again o name None is h = cc
open_again o name (Some x) is h = told (λ s. registry_step s (RegOpen name) AlreadyOpen ≡ Some s) o (λ s p. ap (λ y. only (is_some y) s) p) is

pub open_again_told : (o : Option RegistryState) → (name : List ℕ) → (found : Option SlotNo) → MatchOption o ⊥ (λ s. finmap.get s.opened name ≡ option_map (λ x. x.0) found) → is_some found ≡ true → MatchOption o ⊥ (λ s. AlreadyOpen ≡ open_answer (finmap.get s.opened name) (finmap.get s.waiting name))
open_again_told o name None is h = cc
open_again_told o name (Some x) is h =
    told (λ s. AlreadyOpen ≡ open_answer (finmap.get s.opened name) (finmap.get s.waiting name)) o (λ s p. sym (ap (λ y. open_answer y (finmap.get s.waiting name)) p)) is

-- one that doesn't wait either
pub open_none : (o : Option RegistryState) → (name : List ℕ) → (found waits : Option SlotNo) → MatchOption o ⊥ (λ s. finmap.get s.opened name ≡ option_map (λ x. x.0) found) → MatchOption o ⊥ (λ s. finmap.get s.waiting name ≡ option_map (λ x. x.0) waits) → is_some found ≡ false → waits ≡ None → MatchOption o ⊥ (λ s. registry_step s (RegOpen name) NoSession ≡ Some s)
open_none o name (Some x) waits is waiting h none = cc
open_none o name None (Some x) is waiting h none = cc
open_none o name None None is waiting h none =
    both (λ s. registry_step s (RegOpen name) NoSession ≡ Some s) o (λ s p r. ap (λ y. only (not (is_some y) && not (is_some (finmap.get s.opened name))) s) r ∙ ap (λ y. only (not (is_some y)) s) p) is waiting

pub open_none_told : (o : Option RegistryState) → (name : List ℕ) → (found waits : Option SlotNo) → MatchOption o ⊥ (λ s. finmap.get s.opened name ≡ option_map (λ x. x.0) found) → MatchOption o ⊥ (λ s. finmap.get s.waiting name ≡ option_map (λ x. x.0) waits) → is_some found ≡ false → waits ≡ None → MatchOption o ⊥ (λ s. NoSession ≡ open_answer (finmap.get s.opened name) (finmap.get s.waiting name))
open_none_told o name (Some x) waits is waiting h none = cc
open_none_told o name None (Some x) is waiting h none = cc
open_none_told o name None None is waiting h none =
    both (λ s. NoSession ≡ open_answer (finmap.get s.opened name) (finmap.get s.waiting name)) o (λ s p r. sym (ap (λ y. open_answer y (finmap.get s.waiting name)) p ∙ ap (open_answer None) r)) is waiting

-- one that waits
pub open_closed : (o : Option RegistryState) → (name : List ℕ) → (found : Option SlotNo) → MatchOption o ⊥ (λ s. finmap.get s.opened name ≡ option_map (λ x. x.0) found) → is_some found ≡ false → MatchOption o ⊥ (λ s. finmap.get s.opened name ≡ None)
open_closed o name (Some x) is h = cc
open_closed o name None is h = is

pub open_waits : (o : Option RegistryState) → (name : List ℕ) → (waits : Option SlotNo) → (slot : SlotNo) → MatchOption o ⊥ (λ s. finmap.get s.waiting name ≡ option_map (λ x. x.0) waits) → waits ≡ Some slot → MatchOption o ⊥ (λ s. finmap.get s.waiting name ≡ Some slot.0)
open_waits o name waits slot is h = told (λ s. finmap.get s.waiting name ≡ Some slot.0) o (λ s p. p ∙ ap (option_map (λ x. x.0)) h) is

pub open_told : (o : Option RegistryState) → (name : List ℕ) → (found waits : Option SlotNo) → (slot : SlotNo) → MatchOption o ⊥ (λ s. finmap.get s.opened name ≡ option_map (λ x. x.0) found) → MatchOption o ⊥ (λ s. finmap.get s.waiting name ≡ option_map (λ x. x.0) waits) → is_some found ≡ false → waits ≡ Some slot → MatchOption o ⊥ (λ s. OkSlot slot ≡ open_answer (finmap.get s.opened name) (finmap.get s.waiting name))
open_told o name (Some x) waits slot is waiting h some = cc
open_told o name None waits slot is waiting h some =
    both (λ s. OkSlot slot ≡ open_answer (finmap.get s.opened name) (finmap.get s.waiting name)) o
    (λ s p r. sym (ap (λ y. open_answer y (finmap.get s.waiting name)) p ∙ ap (open_answer None) (r ∙ ap (option_map (λ x. x.0)) some))) is waiting
