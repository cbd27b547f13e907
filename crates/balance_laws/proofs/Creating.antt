-- `create` keeps a world sound.
use Rattle.std.proofs.Common.{◌≡◌, ◌⊎◌, inl, inr, ℕ, ◌<◌, ◌≤◌, Bool, true, not, List, [], ◌∷◌, refl, sym, ap, subst, ◌∙◌, arith}
use Rattle.std.specs.Prelude.{Option, None, Some, is_some}
use Rattle.std.specs.Ordering.{nat_cmp}
use Rattle.std.specs.FinMap as finmap
use Rattle.std.proofs.lemmas.Bool.{and_parts, cases_eq}
use Rattle.ho_base.specs.declared.limits.TheConstants.{OUT_SLOTS, SESSION_FILES}
use Rattle.ho_base.specs.declared.numbers.SlotNo.{SlotNo}
use Rattle.ho_events.specs.File.{FileState, file_step}
use Rattle.ho_events.specs.Registry.{RegistryState, create_step, least_free_slot, is_used}
use Rattle.ho_events.specs.Session.{SessionState, Listed, Free, Out, In, session_step, files_of}
use Rattle.ho_events.specs.declared.event.Event.TheVariants.{RegCreate, SessionBegin}
use Rattle.ho_events.specs.declared.reply.Reply.{Reply}
use Rattle.ho_events.specs.declared.reply.Reply.TheVariants.{Ok, OkSlot, NameTaken, SessionsFull}
use Rattle.ho_world.specs.Acts.{Sequence, ending, registry, session}
use Rattle.ho_world.specs.Entries.{is_ok}
use Rattle.ho_world.specs.Sequences.{Labels, CreateCame}
use Rattle.ho_world.specs.Sequences.Sessions.{CreateRefused, Created, is_create_refusal}
use Rattle.ho_world.specs.World.{State, World}
use Rattle.balance_laws.specs.Acted.{Acted}
use Rattle.balance_laws.specs.Keeps.{CreateKeeps}
use Rattle.balance_laws.specs.Parts.{Parts, parts_of}
use Rattle.balance_laws.specs.Sound.{AreSound, Sound, SlotsFit, listed_out, listed_in, number_of, name_out, name_waiting, name_opened}
use Rattle.balance_laws.proofs.Acts.{set_at, set_same, set_other, seen_same}
use Rattle.balance_laws.proofs.Base.{same_value, not_some, clash}
use Rattle.balance_laws.proofs.Each.{each_same}
use Rattle.balance_laws.proofs.Names.{names_same, names_more}
use Rattle.balance_laws.proofs.Stands.{Stands, RegistryCame, SessionCame, registry_came, session_came, stands_end}
use Rattle.balance_laws.proofs.Steps.{only_is, chosen, just_is, found_below, relabel_kept}

-- a free slot alone begins
begun_free : (s v : SessionState) (name : List ℕ) → session_step s (SessionBegin name) Ok ≡ Some v → (s ≡ Free) × (v ≡ Out name finmap.empty)
begun_free Free v name e = (refl, sym (same_value _ v e))
begun_free (Out own files) v name e = absurd (not_some v e)
begun_free (In own opened files) v name e = absurd (not_some v e)

no_key : {X : Type 0} (o : Option X) → not (is_some o) ≡ true → o ≡ None
no_key None h = refl
no_key (Some x) h = absurd (clash (sym h))

module _ (x : Parts) (labels : ℕ → Labels) (sound : AreSound x labels) (name : List ℕ) (slot : ℕ) (new : finmap.get x.registry.outgoing name ≡ None) (free : x.sessions slot ≡ Free) (out : slot < OUT_SLOTS) where
  abbrev fresh : SessionState
  fresh = Out name finmap.empty

  abbrev sessions : ℕ → SessionState
  sessions = set_at slot fresh x.sessions

  abbrev after : Parts
  after = record x { registry = record x.registry { outgoing = finmap.insert x.registry.outgoing name slot }; sessions = sessions }

  slots : SlotsFit sessions
  slots = record {
    outgoing = λ s n e. outgoing s n (cases_eq s slot) e;
    incoming = λ s n opened files e. incoming s n opened files (cases_eq s slot) e;
    few = λ s. few s (cases_eq s slot);
  }
    where
      outgoing : (s : ℕ) (n : List ℕ) → (s ≡ slot) ⊎ (s ≡ slot → ⊥) → name_out (sessions s) ≡ Some n → s < OUT_SLOTS
      outgoing s n (inl p) e = omega (arith, p, out)
      outgoing s n (inr p) e = sound.slots.outgoing s n (ap name_out (sym (set_other slot fresh x.sessions s p)) ∙ e)

      incoming : (s : ℕ) (n : List ℕ) (opened : Bool) (files : finmap.FinMap nat_cmp Listed) → (s ≡ slot) ⊎ (s ≡ slot → ⊥) → sessions s ≡ In n opened files → OUT_SLOTS ≤ s
      incoming s n opened files (inl p) e = absurd (let no : fresh ≡ In n opened files = sym (set_same slot fresh x.sessions s p) ∙ e in cc)
      incoming s n opened files (inr p) e = sound.slots.incoming s n opened files (sym (set_other slot fresh x.sessions s p) ∙ e)

      few : (s : ℕ) → (s ≡ slot) ⊎ (s ≡ slot → ⊥) → finmap.len (files_of (sessions s)) ≤ SESSION_FILES
      few s (inl p) =
          let none : finmap.len (files_of (sessions s)) ≡ 0 = ap (λ v. finmap.len (files_of v)) (set_same slot fresh x.sessions s p) ∙ finmap.len-empty nat_cmp Listed in
          omega (arith, none)
      few s (inr p) = subst (λ v. finmap.len (files_of v) ≤ SESSION_FILES) (sym (set_other slot fresh x.sessions s p)) (sound.slots.few s)

  created : AreSound after labels
  created = record {
    runs = sound.runs;
    owned = sound.owned;
    pins = sound.pins;
    fit = sound.fit;
    listed = each_same _ _ _ _ sound.listed (λ s t. seen_same (λ v. number_of (listed_out v t)) slot fresh x.sessions (ap number_of (finmap.get-empty nat_cmp t) ∙ ap (λ v. number_of (listed_out v t)) (sym free)) s) (λ f. refl);
    held = each_same _ _ _ _ sound.held (λ s t. seen_same (λ v. number_of (listed_in v t)) slot fresh x.sessions (ap (λ v. number_of (listed_in v t)) (sym free)) s) (λ f. refl);
    untaken = λ s t l e. sound.untaken s t l (sym (seen_same (λ v. listed_in v t) slot fresh x.sessions (ap (λ v. listed_in v t) (sym free)) s) ∙ e);
    slots = slots;
    outgoing = names_more x.registry.outgoing _ _ sound.outgoing name slot (λ s ne. ap name_out (set_other slot fresh x.sessions s ne)) (ap name_out free) new (ap name_out (set_same slot fresh x.sessions slot refl));
    waiting = names_same x.registry.waiting _ _ sound.waiting (seen_same name_waiting slot fresh x.sessions (ap name_waiting (sym free)));
    opened = names_same x.registry.opened _ _ sound.opened (seen_same name_opened slot fresh x.sessions (ap name_opened (sym free)));
    used = sound.used;
    labeled = sound.labeled;
    last_slot = λ s more. set_other slot fresh x.sessions s (λ same. omega (arith, same, more, out)) ∙ sound.last_slot s more;
    last_file = sound.last_file;
  }

-- a refused create changes nothing
refused_same : (g h : RegistryState) (name : List ℕ) (r : Reply) → is_create_refusal r ≡ true → create_step g name r ≡ Some h → h ≡ g
refused_same g h name NameTaken t e = (only_is _ g h e).1
refused_same g h name SessionsFull t e = (only_is _ g h e).1
refused_same g h name r t e = absurd (clash (sym t))

module _ (begun : ℕ → State) (w v : World) (labels : ℕ → Labels) (sound : Sound w labels) (name : List ℕ) where
  abbrev x : Parts
  x = parts_of w

  refused_sound : (r : Reply) → is_create_refusal r ≡ true → Stands begun x (registry (RegCreate name) r ∷ []) v → Sound v labels
  refused_sound r t s =
      let c : RegistryCame begun x (RegCreate name) r [] v = registry_came begun x v (RegCreate name) r [] s in
      stands_end begun (record x { registry = c.now }) v labels c.then
      (subst (λ h. AreSound (record x { registry = h }) labels) (sym (refused_same x.registry c.now name r t c.stepped)) sound.parts)

  created_sound : (slot : SlotNo) → Stands begun x (registry (RegCreate name) (OkSlot slot) ∷ session slot [] (SessionBegin name) Ok ∷ []) v → Sound v labels
  created_sound slot s =
      let c : RegistryCame begun x (RegCreate name) (OkSlot slot) (session slot [] (SessionBegin name) Ok ∷ []) v = registry_came begun x v (RegCreate name) (OkSlot slot) _ s in
      let d : SessionCame begun (record x { registry = c.now }) slot.0 [] (SessionBegin name) Ok [] v = session_came begun (record x { registry = c.now }) v slot [] (SessionBegin name) Ok [] no_file c.then in
      let put = only_is _ (record x.registry { outgoing = finmap.insert x.registry.outgoing name slot.0 }) c.now c.stepped in
      let tests = and_parts (not (finmap.contains_key x.registry.outgoing name)) _ put.0 in
      let began = begun_free (x.sessions slot.0) d.now name d.stepped in
      stands_end begun (record x { registry = c.now; sessions = set_at slot.0 d.now x.sessions }) v labels d.then
      (subst (λ h. AreSound (record x { registry = h; sessions = set_at slot.0 d.now x.sessions }) labels) (sym put.1)
      (subst (λ u. AreSound (record x { registry = record x.registry { outgoing = finmap.insert x.registry.outgoing name slot.0 }; sessions = set_at slot.0 u x.sessions }) labels) (sym began.1)
      (created x labels sound.parts name slot.0 (no_key (finmap.get x.registry.outgoing name) tests.0) began.0
      (found_below (λ k. not (is_used x.registry.outgoing k)) OUT_SLOTS slot.0 (just_is slot.0 (least_free_slot x.registry.outgoing) tests.1)))))
    where
      no_file : (f : Option FileState) → file_step f (SessionBegin name) Ok ≡ None
      no_file None = refl
      no_file (Some f) = refl

pub create_keeps : CreateKeeps
create_keeps labels a name begun w v (CreateCame (CreateRefused r)) s sound is acted =
    let c : (is_create_refusal r ≡ true) × (ending (registry (RegCreate name) r ∷ []) r ≡ Some s) = chosen (is_create_refusal r) _ s is in
    relabel_kept v labels a (is_ok s.reply)
    (refused_sound begun w v labels sound name r c.0 (record { world = w; is = sound.sorts; rest = subst (λ (q : Sequence). Acted begun w q.acts v) (sym (same_value _ s c.1)) acted }))
create_keeps labels a name begun w v (CreateCame (Created slot)) s sound is acted =
    relabel_kept v labels a (is_ok s.reply)
    (created_sound begun w v labels sound name slot (record { world = w; is = sound.sorts; rest = subst (λ (q : Sequence). Acted begun w q.acts v) (sym (same_value _ s is)) acted }))
create_keeps labels a name begun w v outcome s sound is acted = absurd (not_some s is)
