-- What the registry answers, by what stands against it.
use Rattle.std.proofs.Common.{◌≡◌, ℕ, ◌&&◌, true, false, List, ap, sym, ◌∙◌, is_some, is_none, not}
use Rattle.std.specs.Prelude.{Option, None, Some, option_map}
use Rattle.std.specs.Option.{MatchOption}
use Rattle.std.specs.FinMap as finmap
use Rattle.ho_base.specs.declared.numbers.SlotNo.{SlotNo}
use Rattle.ho_base.specs.declared.numbers.FileNo.{FileNo}
use Rattle.ho_events.specs.Lists.{only}
use Rattle.ho_events.specs.Registry.{RegistryState, least_free_slot, least_free_file, find_step, registry_step}
use Rattle.ho_events.specs.declared.event.Event.TheVariants.{RegCreate, RegFindOut, RegNewFile}
use Rattle.ho_events.specs.declared.reply.Reply.TheVariants.{OkSlot, OkFile, FilesFull, NameTaken, SessionsFull, NoSession}
use Rattle.registry_core.proofs.RegistryRuns.{told}
use Rattle.registry_core.proofs.TakenSlots.{eqb_same}
use Rattle.registry_core.specs.Registries.{create_answer, find_answer, file_answer}

-- two facts of one state
pub both : {P R : RegistryState → Type 0} → (Q : RegistryState → Type 0) → (o : Option RegistryState) → ((s : RegistryState) → P s → R s → Q s) → MatchOption o ⊥ P → MatchOption o ⊥ R → MatchOption o ⊥ Q
both Q None so p r = p
both Q (Some s) so p r = so s p r

-- a new name: taken
pub create_taken : (o : Option RegistryState) → (name : List ℕ) → (found : Option SlotNo) → MatchOption o ⊥ (λ s. finmap.get s.outgoing name ≡ option_map (λ x. x.0) found) → is_some found ≡ true → MatchOption o ⊥ (λ s. registry_step s (RegCreate name) NameTaken ≡ Some s)
create_taken o name None is h = cc
create_taken o name (Some x) is h = told (λ s. registry_step s (RegCreate name) NameTaken ≡ Some s) o (λ s p. ap (λ y. only (is_some y) s) p) is

pub create_taken_told : (o : Option RegistryState) → (name : List ℕ) → (found : Option SlotNo) → MatchOption o ⊥ (λ s. finmap.get s.outgoing name ≡ option_map (λ x. x.0) found) → is_some found ≡ true → MatchOption o ⊥ (λ s. NameTaken ≡ create_answer (finmap.get s.outgoing name) (least_free_slot s.outgoing))
create_taken_told o name None is h = cc
create_taken_told o name (Some x) is h =
    told (λ s. NameTaken ≡ create_answer (finmap.get s.outgoing name) (least_free_slot s.outgoing)) o (λ s p. sym (ap (λ y. create_answer y (least_free_slot s.outgoing)) p)) is

-- no slot is left
pub create_full : (o : Option RegistryState) → (name : List ℕ) → (found least : Option SlotNo) → MatchOption o ⊥ (λ s. finmap.get s.outgoing name ≡ option_map (λ x. x.0) found) → MatchOption o ⊥ (λ s. least_free_slot s.outgoing ≡ option_map (λ x. x.0) least) → is_some found ≡ false → least ≡ None → MatchOption o ⊥ (λ s. registry_step s (RegCreate name) SessionsFull ≡ Some s)
create_full o name (Some x) least is free h none = cc
create_full o name None (Some x) is free h none = cc
create_full o name None None is free h none =
    both (λ s. registry_step s (RegCreate name) SessionsFull ≡ Some s) o (λ s p r. ap (λ y. only (not (is_some y) && is_none (least_free_slot s.outgoing)) s) p ∙ ap (λ y. only (is_none y) s) r) is free

pub create_full_told : (o : Option RegistryState) → (name : List ℕ) → (found least : Option SlotNo) → MatchOption o ⊥ (λ s. finmap.get s.outgoing name ≡ option_map (λ x. x.0) found) → MatchOption o ⊥ (λ s. least_free_slot s.outgoing ≡ option_map (λ x. x.0) least) → is_some found ≡ false → least ≡ None → MatchOption o ⊥ (λ s. SessionsFull ≡ create_answer (finmap.get s.outgoing name) (least_free_slot s.outgoing))
create_full_told o name (Some x) least is free h none = cc
create_full_told o name None (Some x) is free h none = cc
create_full_told o name None None is free h none =
    both (λ s. SessionsFull ≡ create_answer (finmap.get s.outgoing name) (least_free_slot s.outgoing)) o (λ s p r. sym (ap (λ y. create_answer y (least_free_slot s.outgoing)) p ∙ ap (create_answer None) r)) is free

-- a slot is free
pub create_new : (o : Option RegistryState) → (name : List ℕ) → (found : Option SlotNo) → MatchOption o ⊥ (λ s. finmap.get s.outgoing name ≡ option_map (λ x. x.0) found) → is_some found ≡ false → MatchOption o ⊥ (λ s. finmap.get s.outgoing name ≡ None)
create_new o name (Some x) is h = cc
create_new o name None is h = is

pub create_least : (o : Option RegistryState) → (least : Option SlotNo) → (slot : SlotNo) → MatchOption o ⊥ (λ s. least_free_slot s.outgoing ≡ option_map (λ x. x.0) least) → least ≡ Some slot → MatchOption o ⊥ (λ s. least_free_slot s.outgoing ≡ Some slot.0)
create_least o least slot is h = told (λ s. least_free_slot s.outgoing ≡ Some slot.0) o (λ s p. p ∙ ap (option_map (λ x. x.0)) h) is

pub create_free_told : (o : Option RegistryState) → (name : List ℕ) → (found least : Option SlotNo) → (slot : SlotNo) → MatchOption o ⊥ (λ s. finmap.get s.outgoing name ≡ option_map (λ x. x.0) found) → MatchOption o ⊥ (λ s. least_free_slot s.outgoing ≡ option_map (λ x. x.0) least) → is_some found ≡ false → least ≡ Some slot → MatchOption o ⊥ (λ s. OkSlot slot ≡ create_answer (finmap.get s.outgoing name) (least_free_slot s.outgoing))
create_free_told o name (Some x) least slot is free h some = cc
create_free_told o name None least slot is free h some =
    both (λ s. OkSlot slot ≡ create_answer (finmap.get s.outgoing name) (least_free_slot s.outgoing)) o
    (λ s p r. sym (ap (λ y. create_answer y (least_free_slot s.outgoing)) p ∙ ap (create_answer None) (r ∙ ap (option_map (λ x. x.0)) some))) is free

-- a name's slot
pub find_found : (o : Option RegistryState) → (name : List ℕ) → (found : Option SlotNo) → (slot : SlotNo) → MatchOption o ⊥ (λ s. finmap.get s.outgoing name ≡ option_map (λ x. x.0) found) → found ≡ Some slot → MatchOption o ⊥ (λ s. registry_step s (RegFindOut name) (OkSlot slot) ≡ Some s)
find_found o name found slot is h =
    told (λ s. registry_step s (RegFindOut name) (OkSlot slot) ≡ Some s) o (λ s p. ap (λ y. find_step s y (OkSlot slot)) (p ∙ ap (option_map (λ x. x.0)) h) ∙ ap (λ b. only b s) (eqb_same slot.0)) is

pub find_found_told : (o : Option RegistryState) → (name : List ℕ) → (found : Option SlotNo) → (slot : SlotNo) → MatchOption o ⊥ (λ s. finmap.get s.outgoing name ≡ option_map (λ x. x.0) found) → found ≡ Some slot → MatchOption o ⊥ (λ s. OkSlot slot ≡ find_answer (finmap.get s.outgoing name))
find_found_told o name found slot is h = told (λ s. OkSlot slot ≡ find_answer (finmap.get s.outgoing name)) o (λ s p. sym (ap find_answer (p ∙ ap (option_map (λ x. x.0)) h))) is

pub find_none : (o : Option RegistryState) → (name : List ℕ) → (found : Option SlotNo) → MatchOption o ⊥ (λ s. finmap.get s.outgoing name ≡ option_map (λ x. x.0) found) → found ≡ None → MatchOption o ⊥ (λ s. registry_step s (RegFindOut name) NoSession ≡ Some s)
find_none o name found is h = told (λ s. registry_step s (RegFindOut name) NoSession ≡ Some s) o (λ s p. ap (λ y. find_step s y NoSession) (p ∙ ap (option_map (λ x. x.0)) h)) is

pub find_none_told : (o : Option RegistryState) → (name : List ℕ) → (found : Option SlotNo) → MatchOption o ⊥ (λ s. finmap.get s.outgoing name ≡ option_map (λ x. x.0) found) → found ≡ None → MatchOption o ⊥ (λ s. NoSession ≡ find_answer (finmap.get s.outgoing name))
find_none_told o name found is h = told (λ s. NoSession ≡ find_answer (finmap.get s.outgoing name)) o (λ s p. sym (ap find_answer (p ∙ ap (option_map (λ x. x.0)) h))) is

-- a file number
pub files_full : (o : Option RegistryState) → (least : Option FileNo) → MatchOption o ⊥ (λ s. least_free_file s.files ≡ option_map (λ x. x.0) least) → least ≡ None → MatchOption o ⊥ (λ s. registry_step s RegNewFile FilesFull ≡ Some s)
files_full o least is h = told (λ s. registry_step s RegNewFile FilesFull ≡ Some s) o (λ s p. ap (λ y. only (is_none y) s) (p ∙ ap (option_map (λ x. x.0)) h)) is

pub files_full_told : (o : Option RegistryState) → (least : Option FileNo) → MatchOption o ⊥ (λ s. least_free_file s.files ≡ option_map (λ x. x.0) least) → least ≡ None → MatchOption o ⊥ (λ s. FilesFull ≡ file_answer (least_free_file s.files))
files_full_told o least is h = told (λ s. FilesFull ≡ file_answer (least_free_file s.files)) o (λ s p. sym (ap file_answer (p ∙ ap (option_map (λ x. x.0)) h))) is

pub file_free : (o : Option RegistryState) → (least : Option FileNo) → (f : FileNo) → MatchOption o ⊥ (λ s. least_free_file s.files ≡ option_map (λ x. x.0) least) → least ≡ Some f → MatchOption o ⊥ (λ s. least_free_file s.files ≡ Some f.0)
file_free o least f is h = told (λ s. least_free_file s.files ≡ Some f.0) o (λ s p. p ∙ ap (option_map (λ x. x.0)) h) is

pub file_free_told : (o : Option RegistryState) → (least : Option FileNo) → (f : FileNo) → MatchOption o ⊥ (λ s. least_free_file s.files ≡ option_map (λ x. x.0) least) → least ≡ Some f → MatchOption o ⊥ (λ s. OkFile f ≡ file_answer (least_free_file s.files))
file_free_told o least f is h = told (λ s. OkFile f ≡ file_answer (least_free_file s.files)) o (λ s p. sym (ap file_answer (p ∙ ap (option_map (λ x. x.0)) h))) is
