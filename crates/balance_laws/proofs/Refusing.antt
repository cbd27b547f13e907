-- A kexec that is refused keeps a world sound: no handler is asked, since there are no device files.
use Rattle.std.proofs.Common.{◌≡◌, ℕ, Bool, true, false, List, [], ◌∷◌, ◌++◌, take, refl, sym, ap, subst, ◌∙◌}
use Rattle.std.specs.Prelude.{Option, None, Some, if◌then◌else◌, flat_map, slice_get, nat_lt}
use Rattle.std.specs.FinMap as finmap
use Rattle.ho_base.specs.declared.limits.TheConstants.{OUT_SLOTS}
use Rattle.ho_events.specs.File.{FileState, is_device}
use Rattle.ho_events.specs.Lists.{upto}
use Rattle.ho_events.specs.Session.{SessionState, Listed, Free, Out, In}
use Rattle.ho_events.specs.declared.event.Event.TheVariants.{PoolTake}
use Rattle.ho_events.specs.declared.reply.Reply.TheVariants.{NoFrames}
use Rattle.ho_world.specs.Acts.{Sequence, single}
use Rattle.ho_world.specs.Entries.{is_ok}
use Rattle.ho_world.specs.Frozen.{Preserved, preserved_as, preserved_in, preserved_devices, frozen, need, scratch_need, scratch_have}
use Rattle.ho_world.specs.Sequences.{Labels}
use Rattle.ho_world.specs.Sequences.Kexecs.{KexecOutcome, TooSmall, NoRoom, NotFrozen, KernelEnds, fitting_acts, not_frozen_acts}
use Rattle.ho_world.specs.World.{State, World, pool_at, session_at, file_at}
use Rattle.balance_laws.specs.Acted.{Acted}
use Rattle.balance_laws.specs.Carrying.{RefusedKexecKeeps, NoDevices}
use Rattle.balance_laws.specs.Parts.{parts_of}
use Rattle.balance_laws.specs.Sound.{AreSound, Sound}
use Rattle.balance_laws.proofs.Base.{same_value, not_some, clash}
use Rattle.balance_laws.proofs.Stands.{Stands, PoolCame, pool_came, stands_end}
use Rattle.balance_laws.proofs.Steps.{only_is, chosen}

none_of_all : {A B : Type 0} (f : A → List B) (xs : List A) → ((x : A) → f x ≡ []) → flat_map f xs ≡ []
none_of_all f [] none = refl
none_of_all f (x ∷ xs) none = ap (λ ys. ys ++ flat_map f xs) (none x) ∙ none_of_all f xs none

module _ (labels : ℕ → Labels) (w : World) (sound : Sound w labels) where
  not_preserved : (name : List ℕ) (e : ℕ × Listed) → preserved_as name e (file_at w e.1.file) ≡ []
  not_preserved name e = at_file (file_at w e.1.file) refl
    where
      at_file : (o : Option FileState) → file_at w e.1.file ≡ o → preserved_as name e o ≡ []
      at_file None is = refl
      at_file (Some f) is = ap (λ b. if b then (record { name = name; token = e.0; kind = f.kind; file = e.1.file; handle = e.1.handle }) ∷ [] else []) (ap is_device (sound.parts.fit e.1.file f is).kind)

  none_in : (s : SessionState) → preserved_in w s ≡ []
  none_in Free = refl
  none_in (Out name files) = none_of_all (λ e. preserved_as name e (file_at w e.1.file)) (finmap.entries files) (not_preserved name)
  none_in (In name opened files) = refl

  pub no_devices_in : preserved_devices w ≡ []
  no_devices_in = none_of_all (λ s. preserved_in w (session_at w s)) (upto OUT_SLOTS) (λ s. none_in (session_at w s))

  refused_fitting : (begun : ℕ → State) (v : World) (outcome : KexecOutcome) (s : Sequence) → fitting_acts (need (frozen w)) (preserved_devices w) outcome ≡ Some s → is_ok s.reply ≡ false → Acted begun w s.acts v → Sound v labels
  refused_fitting begun v TooSmall s e refused acted = absurd (not_some s e)
  refused_fitting begun v NoRoom s e refused acted =
      let c : PoolCame begun (parts_of w) [] (PoolTake single (need (frozen w))) NoFrames [] v =
      pool_came begun (parts_of w) v [] (PoolTake single (need (frozen w))) NoFrames [] (subst (λ (q : Sequence). Stands begun (parts_of w) q.acts v) (sym (same_value _ s e)) (record { world = w; is = sound.sorts; rest = acted })) in
      stands_end begun (record (parts_of w) { pool = c.now }) v labels c.then
      (subst (λ p. AreSound (record (parts_of w) { pool = p }) labels) (sym (only_is _ (pool_at w) c.now c.stepped).1) sound.parts)
  refused_fitting begun v (NotFrozen runs n m) s e refused acted =
      absurd (not_some s (sym (ap (λ ds. not_frozen_acts (need (frozen w)) (take n ds) runs m (slice_get ds n)) no_devices_in ∙ none_there n) ∙ e))
    where
      none_there : (n : ℕ) → not_frozen_acts (need (frozen w)) (take n (let ds : List Preserved = [] in ds)) runs m (let ds : List Preserved = [] in slice_get ds n) ≡ None
      none_there n = refl
  refused_fitting begun v (KernelEnds runs) s e refused acted = absurd (clash (ap (λ (q : Sequence). is_ok q.reply) (same_value _ s e) ∙ refused))

pub no_devices : NoDevices
no_devices labels w sound = no_devices_in labels w sound

at_scratch : {T : Type 0} (b : Bool) (o : Option T) (s : T) → (if b then None else o) ≡ Some s → o ≡ Some s
at_scratch true o s e = absurd (not_some s e)
at_scratch false o s e = e

pub refused_kexec_keeps : RefusedKexecKeeps
refused_kexec_keeps labels begun w v blob TooSmall s sound e refused acted =
    let k = chosen (nat_lt (scratch_have (pool_at w).shape) (scratch_need (pool_at w).shape blob)) _ s e in
    stands_end begun (parts_of w) v labels (subst (λ (q : Sequence). Stands begun (parts_of w) q.acts v) (sym (same_value _ s k.1)) (record { world = w; is = sound.sorts; rest = acted })) sound.parts
refused_kexec_keeps labels begun w v blob NoRoom s sound e refused acted = refused_fitting labels w sound begun v NoRoom s (at_scratch _ _ s e) refused acted
refused_kexec_keeps labels begun w v blob (NotFrozen runs n m) s sound e refused acted = refused_fitting labels w sound begun v (NotFrozen runs n m) s (at_scratch _ _ s e) refused acted
refused_kexec_keeps labels begun w v blob (KernelEnds runs) s sound e refused acted = refused_fitting labels w sound begun v (KernelEnds runs) s (at_scratch _ _ s e) refused acted
