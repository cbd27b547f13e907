-- The turns of a kexec.
use Rattle.std.proofs.Common.{◌≡◌, ℕ, ◌+◌, ◌<◌, ◌^◌, List, [], ◌∷◌, map, refl, sym, ap, subst, ◌∙◌}
use Rattle.std.specs.Prelude.{Option, None, Some}
use Rattle.std.specs.declared.snapshot.Snapshot.{Snapshot}
use Rattle.ho_base.specs.Objects.{pool_no}
use Rattle.ho_base.specs.declared.items.Items.{Items}
use Rattle.ho_base.specs.declared.numbers.Pfn.{Pfn}
use Rattle.ho_events.specs.declared.entry.Entry.{Entry}
use Rattle.ho_events.specs.declared.slip.At.{At}
use Rattle.ho_events.specs.declared.event.Event.TheVariants.{PoolTake}
use Rattle.ho_events.specs.declared.reply.Reply.{Reply}
use Rattle.ho_events.specs.declared.reply.Reply.TheVariants.{Ok, Got, NoFrames, NoFramesOf}
use Rattle.ho_events.specs.History.{last_stamp}
use Rattle.ho_world.specs.Acts.{single}
use Rattle.ho_world.specs.Logs.{deed_at, end_with}
use Rattle.phys_frames.specs.Homes.{HomeId}
use Rattle.phys_frames.specs.Memory.{zeroed, zero_page}
use Rattle.pool_core.specs.PoolLending.{zeroed_run, zero_pages}
use Rattle.machine_core.specs.Agents.{Agent, Found, IsTold, with_at, took, HasEnded, GaveBack}
use Rattle.machine_core.specs.Objects.{history_of, known_of}
use Rattle.machine_core.specs.declared.object.Object.{Object}
use Rattle.machine_core.specs.Turns.{IsReady, Goes}
use Rattle.luo_calls.specs.Takes.{TookRuns}
use Rattle.luo_calls.proofs.Chains.{then_goes, ready_after}
use Rattle.luo_calls.proofs.Steps.{at_same, put_back, goes_none}
use Rattle.freeze_path.specs.Ready.{IsToldEarly, TookFrames, reply_for, took_by}

-- the log got more room
pub only_room : (at : At) (a a0 : Agent) → a0 ≡ record a { room = a0.room } → Goes [] at at a a0
only_room at a a0 room =
    goes_none at a a0 (ap (λ (x : Agent). x.log) room) (ap (λ (x : Agent). x.number) room) (ap (λ (x : Agent). x.anchor) room) (ap (λ (x : Agent). x.starts) room)
    (ap (λ (x : Agent). x.earlier) room) (ap (λ (x : Agent). x.hands) room) (ap (λ (x : Agent). x.told) room)

-- an object was taken, and given back as it was
module _ (at : At) (n : ℕ) (a a0 a1 b : Agent) (o : Object) (room : a0 ≡ record a { room = a0.room }) (took_it : a1 ≡ took n (known_of o) a0) (free : a.hands n ≡ None) where
  in_it : a1.hands n ≡ Some (known_of o)
  in_it = ap (λ (x : Agent). x.hands n) took_it ∙ at_same n (Some (known_of o)) a0.hands

  pub given_back : HasEnded a1 n None (a1.hands n) b → Goes [] at at a b
  given_back h = goes_none at a b
      (ap (λ (x : Agent). x.log) g.shows.same ∙ ap (λ (x : Agent). x.log) took_it ∙ ap (λ (x : Agent). x.log) room)
      (ap (λ (x : Agent). x.number) g.shows.same ∙ ap (λ (x : Agent). x.number) took_it ∙ ap (λ (x : Agent). x.number) room)
      (ap (λ (x : Agent). x.anchor) g.shows.same ∙ ap (λ (x : Agent). x.anchor) took_it ∙ ap (λ (x : Agent). x.anchor) room)
      (ap (λ (x : Agent). x.starts) g.shows.same ∙ ap (λ (x : Agent). x.starts) took_it ∙ ap (λ (x : Agent). x.starts) room)
      (ap (λ (x : Agent). x.earlier) g.shows.same ∙ ap (λ (x : Agent). x.earlier) took_it ∙ ap (λ (x : Agent). x.earlier) room)
      (ap (λ (x : Agent). x.hands) g.shows.same ∙ ap (λ (x : Agent). with_at n None x.hands) took_it
      ∙ put_back n (known_of o) a0.hands (ap (λ (x : Agent). x.hands n) room ∙ free) ∙ ap (λ (x : Agent). x.hands) room)
      (ap (λ (x : Agent). x.told) g.shows.same ∙ ap (λ (x : Agent). x.told) took_it ∙ ap (λ (x : Agent). x.told) room)
    where
      g : GaveBack a1 n (known_of o) b
      g = subst (λ x. HasEnded a1 n None x b) in_it h

-- the take and the end of the command
pub both : (count : ℕ) (at at1 at2 : At) (a a1 a2 : Agent) (got : Option (Snapshot (Items Pfn))) → TookRuns single count at at1 a a1 got → Goes (end_with (reply_for count got) ∷ []) at1 at2 a1 a2 → TookFrames count at a a2 (took_by got)
both count at at1 at2 a a1 a2 None h k = (at2, then_goes (deed_at pool_no [] (PoolTake single count) NoFrames ∷ []) (end_with (NoFramesOf count) ∷ []) at at1 at2 a a1 a2 (h [] tt) k)
both count at at1 at2 a a1 a2 (Some runs) h k = (at2, then_goes (deed_at pool_no [] (PoolTake single count) (Got runs.value) ∷ []) (end_with Ok ∷ []) at at1 at2 a a1 a2 (h [] tt) k)

pub ready_taken : (count : ℕ) (at at1 : At) (a a1 : Agent) (got : Option (Snapshot (Items Pfn))) → IsReady at a → TookRuns single count at at1 a a1 got → IsReady at1 a1
ready_taken count at at1 a a1 None r h = ready_after (deed_at pool_no [] (PoolTake single count) NoFrames ∷ []) at at1 a a1 r (h [] tt)
ready_taken count at at1 a a1 (Some runs) r h = ready_after (deed_at pool_no [] (PoolTake single count) (Got runs.value) ∷ []) at at1 a a1 r (h [] tt)

-- after the pool's last stamp there may be two more, where the told one says so
pub pool_early : (a a0 : Agent) (o : Object) → a0 ≡ record a { room = a0.room } → Found a0 pool_no o → IsToldEarly a.told → last_stamp (history_of o) + 1 < 2 ^ 63
pool_early a a0 o room found told = go a0.told (subst IsToldEarly (sym (ap (λ (x : Agent). x.told) room)) told) found.told
  where
    go : (t : Option (ℕ → List Entry)) → IsToldEarly t → IsTold t pool_no (history_of o) → last_stamp (history_of o) + 1 < 2 ^ 63
    go None h k = absurd h
    go (Some f) h k = subst (λ (es : List Entry). last_stamp es + 1 < 2 ^ 63) (sym k) h

-- with other room first
pub after_room : (reply : Reply) (at at2 : At) (a a0 a2 : Agent) → a0 ≡ record a { room = a0.room } → Goes (end_with reply ∷ []) at at2 a0 a2 → Goes (end_with reply ∷ []) at at2 a a2
after_room reply at at2 a a0 a2 room h = then_goes [] (end_with reply ∷ []) at at at2 a a0 a2 (only_room at a a0 room) h

-- ---- runs of one frame

-- a run of one frame that holds zeros
one_zeroed : (home : HomeId) (p : Pfn) → zeroed_run home (record { 0 = 0 }) p ≡ zeroed home p
unfolding zeroed_run zero_pages zero_page
one_zeroed home p = refl

pub zeroed_ones : (home : HomeId) (runs : List Pfn) → map (zeroed_run home (record { 0 = 0 })) runs ≡ map (zeroed home) runs
zeroed_ones home [] = refl
zeroed_ones home (r ∷ runs) = λ i. one_zeroed home r i ∷ zeroed_ones home runs i
