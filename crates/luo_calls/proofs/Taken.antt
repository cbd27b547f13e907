-- How a take of runs came out.
use Rattle.std.proofs.Common.{◌≡◌, ◌≢◌, ℕ, Bool, true, false, List, refl, sym, ap, subst, ◌∙◌}
use Rattle.std.specs.Prelude.{Option, None, Some, MatchOption, MatchBool}
use Rattle.std.specs.declared.snapshot.Snapshot.{Snapshot}
use Rattle.ho_base.specs.declared.items.Items.{Items}
use Rattle.ho_base.specs.declared.numbers.Order.{Order}
use Rattle.ho_base.specs.declared.numbers.Pfn.{Pfn}
use Rattle.ho_events.specs.declared.reply.Reply.{Reply}
use Rattle.ho_events.specs.declared.reply.Reply.TheVariants.{Got, NoFrames}
use Rattle.ho_events.specs.declared.slip.At.{At}
use Rattle.ho_events.specs.Slips.{reply_runs}
use Rattle.machine_core.specs.Agents.{Agent}
use Rattle.luo_calls.specs.Takes.{TookWith, TookRuns}

pub took_some : (order : Order) (count : ℕ) (at at' : At) (a a' : Agent) (got : Option (Snapshot (Items Pfn))) (s : Snapshot (Items Pfn)) (runs : List Pfn) (reply : Reply) → got ≡ Some s → s.value ≡ runs → reply ≡ Got runs → TookWith order count at at' a a' reply → TookRuns order count at at' a a' got
took_some order count at at' a a' got s runs reply is value replied h =
    subst (λ x. TookRuns order count at at' a a' x) (sym is)
    (subst (λ r. TookWith order count at at' a a' (Got r)) (sym value) (subst (λ x. TookWith order count at at' a a' x) replied h))

pub took_none : (order : Order) (count : ℕ) (at at' : At) (a a' : Agent) (got : Option (Snapshot (Items Pfn))) (reply : Reply) → got ≡ None → reply ≡ NoFrames → TookWith order count at at' a a' reply → TookRuns order count at at' a a' got
took_none order count at at' a a' got reply is replied h =
    subst (λ x. TookRuns order count at at' a a' x) (sym is) (subst (λ x. TookWith order count at at' a a' x) replied h)

pub no_frames : (value : Bool) (reply : Reply) → MatchBool value (reply ≡ Got (reply_runs reply)) (reply ≡ NoFrames) → ((runs : _) → reply ≢ Got runs) → reply ≡ NoFrames
no_frames true reply h other = absurd (other _ h)
no_frames false reply h other = h

-- what was taken, by how it came out
pub none_taken : (order : Order) (count : ℕ) (at at' : At) (a a' : Agent) (got : Option (Snapshot (Items Pfn))) → got ≡ None → TookRuns order count at at' a a' got → TookWith order count at at' a a' NoFrames
none_taken order count at at' a a' got is h = subst (λ x. TookRuns order count at at' a a' x) is h

pub some_taken : (order : Order) (count : ℕ) (at at' : At) (a a' : Agent) (got : Option (Snapshot (Items Pfn))) (runs : Snapshot (Items Pfn)) → got ≡ Some runs → TookRuns order count at at' a a' got → TookWith order count at at' a a' (Got runs.value)
some_taken order count at at' a a' got runs is h = subst (λ x. TookRuns order count at at' a a' x) is h

pub some_of : {A : Type 0} (P : A → Type 0) (Q : Type 0) (got : Option A) (x : A) → got ≡ Some x → MatchOption got Q P → P x
some_of P Q got x is h = subst (λ y. MatchOption y Q P) is h
