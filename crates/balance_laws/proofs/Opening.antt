-- `open` keeps a world sound.
use Rattle.std.proofs.Common.{◌≡◌, ℕ, ◌<◌, ◌≤◌, true, false, not, ◌&&◌, List, [], ◌∷◌, refl, sym, ap, subst, ◌∙◌, arith}
use Rattle.std.specs.Prelude.{Option, None, Some, is_some}
use Rattle.std.specs.Ordering.{nat_cmp}
use Rattle.std.specs.FinMap as finmap
use Rattle.std.proofs.lemmas.Bool.{and_parts}
use Rattle.ho_base.specs.declared.limits.TheConstants.{SESSION_FILES}
use Rattle.ho_base.specs.declared.numbers.SlotNo.{SlotNo}
use Rattle.ho_events.specs.File.{FileState, file_step}
use Rattle.ho_events.specs.Lists.{is_just, same_bytes}
use Rattle.ho_events.specs.Registry.{RegistryState, open_step}
use Rattle.ho_events.specs.Session.{SessionState, Listed, Free, Out, In, session_step, files_of}
use Rattle.ho_events.specs.declared.event.Event.TheVariants.{RegOpen, SessionOpen}
use Rattle.ho_events.specs.declared.reply.Reply.{Reply}
use Rattle.ho_events.specs.declared.reply.Reply.TheVariants.{Ok, OkSlot, NoSession, AlreadyOpen}
use Rattle.ho_world.specs.Acts.{Sequence, registry, session}
use Rattle.ho_world.specs.Balance.{SLOTS}
use Rattle.ho_world.specs.Entries.{is_ok}
use Rattle.ho_world.specs.Sequences.{Labels, OpenCame}
use Rattle.ho_world.specs.Sequences.Sessions.{OpenRefused, OpenedIn, is_open_refusal}
use Rattle.ho_world.specs.World.{State, World}
use Rattle.balance_laws.specs.Keeps.{OpenKeeps}
use Rattle.balance_laws.specs.Parts.{Parts, parts_of}
use Rattle.balance_laws.specs.Sound.{AreSound, Sound, listed_out, listed_in, number_of, name_out, name_waiting, name_opened}
use Rattle.balance_laws.proofs.Acts.{set_at, set_same, set_other, seen_same}
use Rattle.balance_laws.proofs.Base.{same_value, not_some, clash}
use Rattle.balance_laws.proofs.Each.{each_same}
use Rattle.balance_laws.proofs.Members.{same_list}
use Rattle.balance_laws.proofs.Names.{names_same, names_more, names_less}
use Rattle.balance_laws.proofs.Slots.{slots_set}
use Rattle.balance_laws.proofs.Stands.{Stands, RegistryCame, SessionCame, registry_came, session_came, stands_end}
use Rattle.balance_laws.proofs.Steps.{only_is, chosen, relabel_kept}

-- an open that went
record IsOpened (s now : SessionState) (name : List ℕ) : Type 0 where
  files : finmap.FinMap nat_cmp Listed
  was : s ≡ In name false files
  is : now ≡ In name true files

opened_is : (s now : SessionState) (name : List ℕ) → session_step s (SessionOpen name) Ok ≡ Some now → IsOpened s now name
opened_is Free now name e = absurd (not_some now e)
opened_is (Out own files) now name e = absurd (not_some now e)
opened_is (In own true files) now name e = absurd (not_some now e)
opened_is (In own false files) now name e =
    let put = only_is (same_bytes own name) (In own true files) now e in
    let same : own ≡ name = same_list own name put.0 in
    record { files = files; was = ap (λ n. In n false files) same; is = put.1 ∙ ap (λ n. In n true files) same }

no_key : {X : Type 0} (o : Option X) → not (is_some o) ≡ true → o ≡ None
no_key None h = refl
no_key (Some x) h = absurd (clash (sym h))

module _ (x : Parts) (labels : ℕ → Labels) (sound : AreSound x labels) (name : List ℕ) (slot : ℕ) (files : finmap.FinMap nat_cmp Listed) (was : x.sessions slot ≡ In name false files) (below : slot < SLOTS)
    (fresh : finmap.get x.registry.opened name ≡ None) where
  abbrev opened : SessionState
  opened = In name true files

  abbrev sessions : ℕ → SessionState
  sessions = set_at slot opened x.sessions

  seen : {X : Type 0} (see : SessionState → X) → see opened ≡ see (In name false files) → (s : ℕ) → see (sessions s) ≡ see (x.sessions s)
  seen see same = seen_same see slot opened x.sessions (same ∙ ap see (sym was))

  opened_sound : AreSound (record x { registry = record x.registry { waiting = finmap.remove x.registry.waiting name; opened = finmap.insert x.registry.opened name slot }; sessions = sessions }) labels
  opened_sound = record {
    runs = sound.runs;
    owned = sound.owned;
    pins = sound.pins;
    fit = sound.fit;
    listed = each_same _ _ _ _ sound.listed (λ s t. seen (λ v. number_of (listed_out v t)) refl s) (λ f. refl);
    held = each_same _ _ _ _ sound.held (λ s t. seen (λ v. number_of (listed_in v t)) refl s) (λ f. refl);
    untaken = λ s t l e. sound.untaken s t l (sym (seen (λ v. listed_in v t) refl s) ∙ e);
    slots = slots_set x.sessions slot opened sound.slots (λ n e. absurd (not_some n e)) (λ n o fs e. sound.slots.incoming slot name false files was) (subst (λ v. finmap.len (files_of v) ≤ SESSION_FILES) was (sound.slots.few slot));
    outgoing = names_same x.registry.outgoing _ _ sound.outgoing (seen name_out refl);
    waiting = names_less x.registry.waiting _ (λ s. name_waiting (sessions s)) sound.waiting name slot (λ s ne. ap name_waiting (set_other slot opened x.sessions s ne)) (ap name_waiting was) (ap name_waiting (set_same slot opened x.sessions slot refl));
    opened = names_more x.registry.opened _ (λ s. name_opened (sessions s)) sound.opened name slot (λ s ne. ap name_opened (set_other slot opened x.sessions s ne)) (ap name_opened was) fresh (ap name_opened (set_same slot opened x.sessions slot refl));
    used = sound.used;
    labeled = sound.labeled;
    last_slot = λ s beyond. set_other slot opened x.sessions s (λ same. omega (arith, same, beyond, below)) ∙ sound.last_slot s beyond;
    last_file = sound.last_file;
  }

refused_same : (g h : RegistryState) (name : List ℕ) (r : Reply) → is_open_refusal r ≡ true → open_step g name r ≡ Some h → h ≡ g
refused_same g h name NoSession t e = (only_is _ g h e).1
refused_same g h name AlreadyOpen t e = (only_is _ g h e).1
refused_same g h name r t e = absurd (clash (sym t))

no_file : (name : List ℕ) (f : Option FileState) → file_step f (SessionOpen name) Ok ≡ None
no_file name None = refl
no_file name (Some f) = refl

module _ (begun : ℕ → State) (x : Parts) (v : World) (labels : ℕ → Labels) (sound : AreSound x labels) (name : List ℕ) where
  refused_sound : (r : Reply) → is_open_refusal r ≡ true → Stands begun x (registry (RegOpen name) r ∷ []) v → Sound v labels
  refused_sound r t s =
      let c : RegistryCame begun x (RegOpen name) r [] v = registry_came begun x v (RegOpen name) r [] s in
      stands_end begun (record x { registry = c.now }) v labels c.then
      (subst (λ h. AreSound (record x { registry = h }) labels) (sym (refused_same x.registry c.now name r t c.stepped)) sound)

  went_sound : (n : SlotNo) → Stands begun x (registry (RegOpen name) (OkSlot n) ∷ session n [] (SessionOpen name) Ok ∷ []) v → Sound v labels
  went_sound n s =
      let c : RegistryCame begun x (RegOpen name) (OkSlot n) (session n [] (SessionOpen name) Ok ∷ []) v = registry_came begun x v (RegOpen name) (OkSlot n) _ s in
      let d : SessionCame begun (record x { registry = c.now }) n.0 [] (SessionOpen name) Ok [] v = session_came begun (record x { registry = c.now }) v n [] (SessionOpen name) Ok [] (no_file name) c.then in
      let put = only_is (not (finmap.contains_key x.registry.opened name) && is_just n.0 (finmap.get x.registry.waiting name)) (record x.registry { waiting = finmap.remove x.registry.waiting name; opened = finmap.insert x.registry.opened name n.0 }) c.now c.stepped in
      let tests = and_parts (not (finmap.contains_key x.registry.opened name)) (is_just n.0 (finmap.get x.registry.waiting name)) put.0 in
      let o : IsOpened (x.sessions n.0) d.now name = opened_is (x.sessions n.0) d.now name d.stepped in
      stands_end begun (record x { registry = c.now; sessions = set_at n.0 d.now x.sessions }) v labels d.then
      (subst (λ h. AreSound (record x { registry = h; sessions = set_at n.0 d.now x.sessions }) labels) (sym put.1)
      (subst (λ u. AreSound (record x { registry = record x.registry { waiting = finmap.remove x.registry.waiting name; opened = finmap.insert x.registry.opened name n.0 }; sessions = set_at n.0 u x.sessions }) labels) (sym o.is)
      (opened_sound x labels sound name n.0 o.files o.was d.below (no_key (finmap.get x.registry.opened name) tests.0))))

pub open_keeps : OpenKeeps
open_keeps labels a name begun w v (OpenCame (OpenRefused r)) s sound is acted =
    let c = chosen (is_open_refusal r) _ s is in
    relabel_kept v labels a (is_ok s.reply)
    (refused_sound begun (parts_of w) v labels sound.parts name r c.0 (subst (λ (q : Sequence). Stands begun (parts_of w) q.acts v) (sym (same_value _ s c.1)) (record { world = w; is = sound.sorts; rest = acted })))
open_keeps labels a name begun w v (OpenCame (OpenedIn n)) s sound is acted =
    relabel_kept v labels a (is_ok s.reply)
    (went_sound begun (parts_of w) v labels sound.parts name n (subst (λ (q : Sequence). Stands begun (parts_of w) q.acts v) (sym (same_value _ s is)) (record { world = w; is = sound.sorts; rest = acted })))
open_keeps labels a name begun w v outcome s sound is acted = absurd (not_some s is)
