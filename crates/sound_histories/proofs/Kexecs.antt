-- A kexec of a sound world: after a refusal the world is sound as before, after an Ok the next one is.
use Rattle.std.proofs.Common.{◌≡◌, ℕ, ◌+◌, Bool, true, false, cond, List, [], ◌∷◌, map, min, refl, sym, ap, subst, ◌∙◌, arith}
use Rattle.std.specs.Prelude.{Option, None, Some, nat_lt, take, slice_get}
use Rattle.std.specs.FinMap as finmap
use Rattle.std.proofs.lemmas.Bool.{ne_eqb}
use Rattle.ho_base.specs.Objects.{pool_no, registry_no, handler_no, session_no, file_no}
use Rattle.ho_base.specs.declared.numbers.Order.{Order}
use Rattle.ho_base.specs.declared.numbers.Pfn.{Pfn}
use Rattle.ho_events.specs.File.{FileState}
use Rattle.ho_events.specs.Lists.{upto}
use Rattle.ho_events.specs.Handler.{HandlerState, BoundState}
use Rattle.ho_events.specs.Pool.{PoolState, pool_step}
use Rattle.ho_events.specs.Registry.{RegistryState}
use Rattle.ho_events.specs.Session.{SessionState, Listed, files_of}
use Rattle.ho_events.specs.declared.entry.Entry.{Entry}
use Rattle.ho_events.specs.declared.event.Event.TheVariants.{PoolTake}
use Rattle.ho_events.specs.declared.reply.Reply.TheVariants.{Ok, Got}
use Rattle.ho_events.specs.declared.slip.At.{At}
use Rattle.ho_world.specs.Acts.{Sequence, pool, ending, single}
use Rattle.ho_world.specs.Entries.{is_ok}
use Rattle.ho_world.specs.Frozen.{CarriedSession, Preserved, MOST_UPDATES, file_carried, bound_of, frozen, need, next, scratch_need, scratch_have, preserved_devices}
use Rattle.ho_world.specs.Logs.{AreDone, began, deeds_of, grown, paired_on}
use Rattle.ho_world.specs.Sequences.{Labels}
use Rattle.ho_world.specs.Sequences.Kexecs.{KexecOutcome, TooSmall, NoRoom, NotFrozen, KernelEnds, freeze_act, fitting_acts, not_frozen_acts}
use Rattle.ho_world.specs.World.{State, PoolIn, World, step, pool_in, registry_in, handler_in, session_in, file_in, pool_at, registry_at, handler_at, session_at, file_at}
use Rattle.balance_laws.specs.Acted.{Acted}
use Rattle.balance_laws.specs.Keeps.{no_labels}
use Rattle.balance_laws.specs.Sound.{Sound}
use Rattle.balance_laws.proofs.Acts.{came}
use Rattle.balance_laws.proofs.Base.{same_value, not_some, clash}
use Rattle.balance_laws.proofs.NextWhole.{next_is_sound}
use Rattle.balance_laws.proofs.Refusing.{no_devices_in, refused_kexec_keeps}
use Rattle.balance_laws.proofs.Steps.{only_is, chosen}
use Rattle.sound_histories.specs.Kept.{TakenFreezesSame, KexecKeeps, KexecBeginsSound}
use Rattle.sound_histories.specs.Worlds.{world_on, BeganIn, AreRuns}
use Rattle.sound_histories.proofs.Chains.{entries_are_acts}
use Rattle.sound_histories.proofs.Works.{grown_none}

-- what is carried, by the parts that it is read from
abbrev sessions_of : RegistryState → (ℕ → SessionState) → (ℕ → Option FileState) → List CarriedSession
sessions_of g sessions files =
    map
    (λ (e : List ℕ × ℕ). record { name = e.0; files = map (λ (x : ℕ × Listed). file_carried x.0 x.1.handle (files x.1.file)) (finmap.entries (files_of (sessions e.1))) })
    (finmap.entries g.outgoing)

abbrev bounds_of : (ℕ → HandlerState) → List (Option BoundState)
bounds_of handlers = map (λ k. bound_of (handlers k).outgoing) (upto 4)

-- worlds that differ in the pool alone, and not in its shape, freeze the same
frozen_same : (w v : World) → v.number ≡ w.number → (pool_at v).shape ≡ (pool_at w).shape → ((o : ℕ) → (o ≡ pool_no → ⊥) → v.at o ≡ w.at o) → frozen v ≡ frozen w
frozen_same w v number shape others = λ i. record {
  shape = shape i;
  number = min (number i + 1) MOST_UPDATES;
  sessions = sessions_of (registry_same i) (sessions_same i) (files_same i);
  bounds = bounds_of (handlers_same i);
}
  where
    registry_same : registry_at v ≡ registry_at w
    registry_same = ap registry_in (others registry_no (λ h. omega (arith, h)))

    handlers_same : handler_at v ≡ handler_at w
    handlers_same = λ i k. ap handler_in (others (handler_no k) (λ h. omega (arith, h))) i

    sessions_same : session_at v ≡ session_at w
    sessions_same = λ i s. ap session_in (others (session_no s) (λ h. omega (arith, h))) i

    files_same : file_at v ≡ file_at w
    files_same = λ i g. ap file_in (others (file_no g) (λ h. omega (arith, h))) i

-- a take of frames keeps the shape
shape_stays : (s : State) (p : PoolState) (o : Order) (count : ℕ) (runs : List Pfn) (t : State) → s ≡ PoolIn p → step s (PoolTake o count) (Got runs) ≡ Some t → (pool_in t).shape ≡ p.shape
shape_stays s p o count runs t is e =
    let c : (q : PoolState) × (pool_step p (PoolTake o count) (Got runs) ≡ Some q) × (t ≡ PoolIn q) = came PoolIn _ t (ap (λ x. step x (PoolTake o count) (Got runs)) (sym is) ∙ e) in
    ap (λ x. (pool_in x).shape) c.2 ∙ ap (λ (q : PoolState). q.shape) (only_is _ _ c.0 c.1).1

at_scratch : {T : Type 0} (b : Bool) (o : Option T) (s : T) → cond b None o ≡ Some s → o ≡ Some s
at_scratch true o s e = absurd (not_some s e)
at_scratch false o s e = e

module _ (labels : ℕ → Labels) (begun : ℕ → State) (w v : World) (sound : Sound w labels) (number : v.number ≡ w.number) where
  one_take : (runs : List Pfn) → Acted begun w (pool [] (PoolTake single (need (frozen w))) (Got runs) ∷ []) v → frozen v ≡ frozen w
  unfolding Acted
  one_take runs acted =
      frozen_same w v number
      (ap (λ x. (pool_in x).shape) (acted.3 pool_no) ∙ shape_stays (w.at pool_no) (pool_at w) single (need (frozen w)) runs acted.0 (sound.sorts pool_no) acted.1)
      (λ o other. acted.3 o ∙ ap (λ b. cond b acted.0 (w.at o)) (ne_eqb o pool_no other))

  taken : (outcome : KexecOutcome) (s : Sequence) → fitting_acts (need (frozen w)) (preserved_devices w) outcome ≡ Some s → is_ok s.reply ≡ true → Acted begun w s.acts v → frozen v ≡ frozen w
  taken TooSmall s e ok acted = absurd (not_some s e)
  taken NoRoom s e ok acted = absurd (clash (sym ok ∙ ap (λ (q : Sequence). is_ok q.reply) (sym (same_value _ s e))))
  taken (NotFrozen runs n m) s e ok acted =
      absurd (not_some s (sym (ap (λ ds. not_frozen_acts (need (frozen w)) (take n ds) runs m (slice_get ds n)) (no_devices_in labels w sound) ∙ none_there n) ∙ e))
    where
      none_there : (n : ℕ) → not_frozen_acts (need (frozen w)) (take n (let ds : List Preserved = [] in ds)) runs m (let ds : List Preserved = [] in slice_get ds n) ≡ None
      none_there n = refl
  taken (KernelEnds runs) s e ok acted =
      let one : ending (pool [] (PoolTake single (need (frozen w))) (Got runs) ∷ []) Ok ≡ Some s =
      ap (λ ds. ending (pool [] (PoolTake single (need (frozen w))) (Got runs) ∷ map (freeze_act Ok) ds) Ok) (sym (no_devices_in labels w sound)) ∙ e in
      one_take runs (subst (λ (q : Sequence). Acted begun w q.acts v) (sym (same_value _ s one)) acted)

pub taken_freezes_same : TakenFreezesSame
taken_freezes_same labels begun w v blob TooSmall s sound e ok number acted =
    let k = chosen (nat_lt (scratch_have (pool_at w).shape) (scratch_need (pool_at w).shape blob)) _ s e in
    absurd (clash (sym ok ∙ ap (λ (q : Sequence). is_ok q.reply) (sym (same_value _ s k.1))))
taken_freezes_same labels begun w v blob NoRoom s sound e ok number acted = taken labels begun w v sound number NoRoom s (at_scratch _ _ s e) ok acted
taken_freezes_same labels begun w v blob (NotFrozen runs n m) s sound e ok number acted = taken labels begun w v sound number (NotFrozen runs n m) s (at_scratch _ _ s e) ok acted
taken_freezes_same labels begun w v blob (KernelEnds runs) s sound e ok number acted = taken labels begun w v sound number (KernelEnds runs) s (at_scratch _ _ s e) ok acted

-- the entries of a sequence are its acts
acted_on : (w : World) (begun : ℕ → Option State) (f : ℕ → List Entry) (at : At) (last last' : ℕ) (s : Sequence) (new : List Entry) → BeganIn w begun → AreRuns w (grown f new)
    → AreDone begun at last (deeds_of s) (paired_on begun f [] new) last' → Acted (began begun) (world_on w f) s.acts (world_on w (grown f new))
acted_on w begun f at last last' s new began_in runs done =
    subst (λ g. Acted (began begun) (world_on w g) s.acts (world_on w (grown f new))) (grown_none f) (entries_are_acts w begun f at last last' s [] new began_in runs done)

pub kexec_keeps : KexecKeeps
kexec_keeps w begun f labels at last last' blob outcome s new began_in runs sound one done refused =
    refused_kexec_keeps labels (began begun) (world_on w f) (world_on w (grown f new)) blob outcome s sound one refused (acted_on w begun f at last last' s new began_in runs done)

pub kexec_begins_sound : KexecBeginsSound
kexec_begins_sound w begun f labels at last last' blob outcome s new began_in runs sound one done ok =
    subst (λ z. Sound (next z) no_labels)
    (sym (taken_freezes_same labels (began begun) (world_on w f) (world_on w (grown f new)) blob outcome s sound one ok refl (acted_on w begun f at last last' s new began_in runs done)))
    (next_is_sound labels (world_on w f) sound)
