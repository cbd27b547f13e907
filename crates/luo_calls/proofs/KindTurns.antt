-- Turns on objects of each kind: with its entry the object may end its turn, and the turn was one deed.
use Rattle.std.proofs.Common.{◌≡◌, ℕ, ◌+◌, max, List, [], ◌∷◌, ◌++◌, refl, sym, ap, subst, ◌∙◌, is_some, IsTrue}
use Rattle.std.specs.Prelude.{Option, None, Some, option_map}
use Rattle.ho_base.specs.Objects.{pool_no, registry_no}
use Rattle.ho_events.specs.declared.entry.Entry.{Entry}
use Rattle.ho_events.specs.declared.event.Event.{Event}
use Rattle.ho_events.specs.declared.reply.Reply.{Reply}
use Rattle.ho_events.specs.declared.slip.At.{At}
use Rattle.ho_events.specs.History.{last_stamp, pool_from, registry_from, session_from, file_from}
use Rattle.ho_events.specs.Places.{object_at}
use Rattle.ho_events.specs.Slips.{entry_at}
use Rattle.ho_world.specs.Acts.{Claim}
use Rattle.ho_world.specs.Logs.{Deed, deed_at, entry_of, AreClaimed}
use Rattle.ho_world.specs.World.{State, PoolIn, RegistryIn, SessionIn, FileIn, run}
use Rattle.ho_world.proofs.Grow.{pool_run, registry_run, session_run, file_run}
use Rattle.pool_core.specs.PoolValues.{PoolValue}
use Rattle.registry_core.specs.RegistryValues.{RegistryValue}
use Rattle.session_core.specs.SessionValues.{SessionValue}
use Rattle.memfd_file.specs.FileValues.{FileValue}
use Rattle.phys_frames.specs.Homes.{HomeId}
use Rattle.machine_core.specs.declared.object.Object.TheVariants.{Pool, Registry, Session, File}
use Rattle.machine_core.specs.Objects.{Start, start_of, IsRunOf}
use Rattle.machine_core.specs.Agents.{Agent, CanEnd, HasEnded, begun}
use Rattle.machine_core.specs.Turns.{IsReady, Goes}
use Rattle.luo_calls.specs.Opened.{Opens}
use Rattle.luo_calls.proofs.Steps.{can_end, turned}

-- ---- runs

still_some : {A : Type 0} {B : Type 0} → (f : A → B) (x : Option A) → IsTrue (is_some x) → IsTrue (is_some (option_map f x))
still_some f None h = absurd cc
still_some f (Some a) h = refl

pub pool_is_run : (p : PoolValue) → IsTrue (is_some (pool_from p.start p.history)) → IsRunOf (Pool p)
pool_is_run p h = subst (λ x. IsTrue (is_some x)) (sym (pool_run p.start p.history)) (still_some PoolIn _ h)

pub registry_is_run : (r : RegistryValue) → IsTrue (is_some (registry_from r.start r.history)) → IsRunOf (Registry r)
registry_is_run r h = subst (λ x. IsTrue (is_some x)) (sym (registry_run r.start r.history)) (still_some RegistryIn _ h)

pub session_is_run : (s : SessionValue) → IsTrue (is_some (session_from s.start s.history)) → IsRunOf (Session s)
session_is_run s h = subst (λ x. IsTrue (is_some x)) (sym (session_run s.start s.history)) (still_some SessionIn _ h)

pub file_is_run : (f : FileValue) → IsTrue (is_some (file_from f.start f.history)) → IsRunOf (File f)
file_is_run f h = subst (λ x. IsTrue (is_some x)) (sym (file_run f.start f.history)) (still_some FileIn _ h)

-- ---- entries

told_at : (slip : At) (h m n : ℕ) (claims : List Claim) (event : Event) (reply : Reply) (e : Entry) → m ≡ n → e ≡ entry_at slip h (object_at m) event reply → e ≡ entry_of slip (deed_at n claims event reply) (1 + max slip.last h)
told_at slip h m n claims event reply e is told = told ∙ ap (λ k. entry_at slip h (object_at k) event reply) is

-- ---- the registry

module _ (at : At) (a a1 : Agent) (old new : RegistryValue) (event : Event) (reply : Reply) (e : Entry) (opens : Opens at registry_no a a1 (Registry old)) (free : a.hands registry_no ≡ None) (slip : At) (slip_is : slip ≡ at) (told : e ≡ entry_at slip (last_stamp old.history) (object_at registry_no) event reply) where
  pub registry_can : IsReady at a → new.history ≡ old.history ++ e ∷ [] → new.start ≡ old.start → IsTrue (is_some (registry_from new.start new.history)) → CanEnd a1 registry_no (Registry new) (Some e) (a1.hands registry_no)
  registry_can ready kept start run =
      can_end at registry_no a a1 (Registry old) (deed_at registry_no [] event reply) e opens free slip slip_is
      (told_at slip (last_stamp old.history) registry_no registry_no [] event reply e refl told) refl
      (Registry new) ready (λ i. record { number = registry_no; state = RegistryIn (start i); home = None }) kept tt (registry_is_run new run)

  pub registry_turned : (a2 : Agent) → HasEnded a1 registry_no (Some e) (a1.hands registry_no) a2 → Goes (deed_at registry_no [] event reply ∷ []) at (record at { last = e.stamp }) a a2
  registry_turned a2 gave =
      turned at registry_no a a1 (Registry old) (deed_at registry_no [] event reply) e opens free slip slip_is
      (told_at slip (last_stamp old.history) registry_no registry_no [] event reply e refl told) refl a2 tt gave

-- ---- the pool

module _ (at : At) (a a1 : Agent) (old new : PoolValue) (claims : List Claim) (event : Event) (reply : Reply) (e : Entry) (opens : Opens at pool_no a a1 (Pool old)) (free : a.hands pool_no ≡ None) (slip : At) (slip_is : slip ≡ at) (told : e ≡ entry_at slip (last_stamp old.history) (object_at pool_no) event reply) where
  pub pool_can : IsReady at a → new.history ≡ old.history ++ e ∷ [] → new.start ≡ old.start → new.home ≡ old.home → new.shape ≡ old.shape → IsTrue (is_some (pool_from new.start new.history)) → CanEnd a1 pool_no (Pool new) (Some e) (a1.hands pool_no)
  pool_can ready kept start home shape run =
      can_end at pool_no a a1 (Pool old) (deed_at pool_no claims event reply) e opens free slip slip_is
      (told_at slip (last_stamp old.history) pool_no pool_no claims event reply e refl told) refl
      (Pool new) ready (λ i. record { number = pool_no; state = PoolIn (start i); home = Some (home i) }) kept (shape ∙ opens.found.machine.0, home ∙ opens.found.machine.1) (pool_is_run new run)

  pub pool_turned : (a2 : Agent) → AreClaimed (begun a) a1.hands claims → HasEnded a1 pool_no (Some e) (a1.hands pool_no) a2 → Goes (deed_at pool_no claims event reply ∷ []) at (record at { last = e.stamp }) a a2
  pool_turned a2 claimed gave =
      turned at pool_no a a1 (Pool old) (deed_at pool_no claims event reply) e opens free slip slip_is
      (told_at slip (last_stamp old.history) pool_no pool_no claims event reply e refl told) refl a2 claimed gave

-- ---- a session slot

module _ (at : At) (n : ℕ) (a a1 : Agent) (old new : SessionValue) (claims : List Claim) (event : Event) (reply : Reply) (e : Entry) (opens : Opens at n a a1 (Session old)) (free : a.hands n ≡ None) (slip : At) (slip_is : slip ≡ at) (told : e ≡ entry_at slip (last_stamp old.history) (object_at old.number) event reply) where
  pub session_can : IsReady at a → new.history ≡ old.history ++ e ∷ [] → new.number ≡ old.number → new.start ≡ old.start → IsTrue (is_some (session_from new.start new.history)) → CanEnd a1 n (Session new) (Some e) (a1.hands n)
  session_can ready kept number start run =
      can_end at n a a1 (Session old) (deed_at n claims event reply) e opens free slip slip_is
      (told_at slip (last_stamp old.history) old.number n claims event reply e opens.found.number told) refl
      (Session new) ready (λ i. record { number = number i; state = SessionIn (start i); home = None }) kept tt (session_is_run new run)

  pub session_turned : (a2 : Agent) → AreClaimed (begun a) a1.hands claims → HasEnded a1 n (Some e) (a1.hands n) a2 → Goes (deed_at n claims event reply ∷ []) at (record at { last = e.stamp }) a a2
  session_turned a2 claimed gave =
      turned at n a a1 (Session old) (deed_at n claims event reply) e opens free slip slip_is
      (told_at slip (last_stamp old.history) old.number n claims event reply e opens.found.number told) refl a2 claimed gave

  -- the same by a number that stands for the slot's
  pub session_can_at : (m : ℕ) → m ≡ n → IsReady at a → new.history ≡ old.history ++ e ∷ [] → new.number ≡ old.number → new.start ≡ old.start → IsTrue (is_some (session_from new.start new.history)) → CanEnd a1 m (Session new) (Some e) (a1.hands m)
  session_can_at m is ready kept number start run = subst (λ k. CanEnd a1 k (Session new) (Some e) (a1.hands k)) (sym is) (session_can ready kept number start run)

  pub session_turned_at : (m : ℕ) → m ≡ n → (a2 : Agent) → AreClaimed (begun a) a1.hands claims → HasEnded a1 m (Some e) (a1.hands m) a2 → Goes (deed_at n claims event reply ∷ []) at (record at { last = e.stamp }) a a2
  session_turned_at m is a2 claimed gave = session_turned a2 claimed (subst (λ k. HasEnded a1 k (Some e) (a1.hands k) a2) is gave)

-- ---- a file

module _ (at : At) (n : ℕ) (a a1 : Agent) (old new : FileValue) (claims : List Claim) (event : Event) (reply : Reply) (e : Entry) (opens : Opens at n a a1 (File old)) (free : a.hands n ≡ None) (slip : At) (slip_is : slip ≡ at) (told : e ≡ entry_at slip (last_stamp old.history) (object_at old.number) event reply) where
  pub file_can : IsReady at a → new.history ≡ old.history ++ e ∷ [] → new.number ≡ old.number → new.start ≡ old.start → new.home ≡ old.home → IsTrue (is_some (file_from new.start new.history)) → CanEnd a1 n (File new) (Some e) (a1.hands n)
  file_can ready kept number start home run =
      can_end at n a a1 (File old) (deed_at n claims event reply) e opens free slip slip_is
      (told_at slip (last_stamp old.history) old.number n claims event reply e opens.found.number told) refl
      (File new) ready (λ i. record { number = number i; state = FileIn (start i); home = Some (home i) }) kept (home ∙ opens.found.machine) (file_is_run new run)

  pub file_turned : (a2 : Agent) → AreClaimed (begun a) a1.hands claims → HasEnded a1 n (Some e) (a1.hands n) a2 → Goes (deed_at n claims event reply ∷ []) at (record at { last = e.stamp }) a a2
  file_turned a2 claimed gave =
      turned at n a a1 (File old) (deed_at n claims event reply) e opens free slip slip_is
      (told_at slip (last_stamp old.history) old.number n claims event reply e opens.found.number told) refl a2 claimed gave

  -- the same by a number that stands for the file's
  pub file_can_at : (m : ℕ) → m ≡ n → IsReady at a → new.history ≡ old.history ++ e ∷ [] → new.number ≡ old.number → new.start ≡ old.start → new.home ≡ old.home → IsTrue (is_some (file_from new.start new.history)) → CanEnd a1 m (File new) (Some e) (a1.hands m)
  file_can_at m is ready kept number start home run = subst (λ k. CanEnd a1 k (File new) (Some e) (a1.hands k)) (sym is) (file_can ready kept number start home run)

  pub file_turned_at : (m : ℕ) → m ≡ n → (a2 : Agent) → AreClaimed (begun a) a1.hands claims → HasEnded a1 m (Some e) (a1.hands m) a2 → Goes (deed_at n claims event reply ∷ []) at (record at { last = e.stamp }) a a2
  file_turned_at m is a2 claimed gave = file_turned a2 claimed (subst (λ k. HasEnded a1 k (Some e) (a1.hands k) a2) is gave)
