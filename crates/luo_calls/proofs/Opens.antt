-- An object that was taken, and got more room.
use Rattle.std.proofs.Common.{◌≡◌, ℕ, ◌<◌, ◌≤◌, ◌^◌, List, [], refl, sym, ap, subst, ◌∙◌, arith, is_some, IsTrue}
use Rattle.std.specs.Prelude.{Option, None, Some}
use Rattle.ho_events.specs.declared.entry.Entry.{Entry}
use Rattle.ho_events.specs.declared.slip.At.{At}
use Rattle.ho_events.specs.History.{last_stamp}
use Rattle.ho_world.specs.Logs.{Known}
use Rattle.ho_world.specs.World.{State, run}
use Rattle.machine_core.specs.declared.object.Object.{Object}
use Rattle.machine_core.specs.Objects.{Start, start_of, history_of, room_of, known_of, number_of, spot_of, IsRunOf, IsOfMachine}
use Rattle.machine_core.specs.Agents.{Agent, with_at, took, Found, CanEnd}
use Rattle.luo_calls.specs.Opened.{IsThere, Opens}
use Rattle.luo_calls.proofs.Steps.{at_same}

-- an object that differs from another one in its room alone
pub record SameButRoom (o o' : Object) : Type 0 where
  pub start : start_of o' ≡ start_of o
  pub history : history_of o' ≡ history_of o
  pub kind : spot_of o' ≡ spot_of o
  pub number : number_of o' ≡ number_of o
  pub machine : (shape : _) (home : _) → IsOfMachine shape home o → IsOfMachine shape home o'

pub unchanged : (o : Object) → SameButRoom o o
unchanged o = record { start = refl; history = refl; kind = refl; number = refl; machine = λ shape home h. h }

pub known_same : (o o' : Object) → SameButRoom o o' → known_of o' ≡ known_of o
known_same o o' s = λ i. record { start = (s.start i).state; history = s.history i }

run_same : (o o' : Object) → SameButRoom o o' → IsRunOf o → IsRunOf o'
run_same o o' s h = subst (λ (k : Known). IsTrue (is_some (run k.start k.history))) (sym (known_same o o' s)) h

-- what was found of an agent whose log has other room
pub there_room : (a a0 : Agent) (n : ℕ) (o : Object) → a0 ≡ record a { room = a0.room } → Found a0 n o → IsThere a n o
there_room a a0 n o room f = record {
  number = f.number;
  kind = f.kind;
  machine = subst (λ (x : Agent). IsOfMachine x.anchor.shape x.anchor.home o) room f.machine;
  start = sym (ap (λ (x : Agent). x.starts n) room) ∙ f.start;
  run = f.run;
}

pub there_same : (a : Agent) (n : ℕ) (o o' : Object) → SameButRoom o o' → IsThere a n o → IsThere a n o'
there_same a n o o' s f = record {
  number = s.number ∙ f.number;
  kind = s.kind ∙ f.kind;
  machine = s.machine a.anchor.shape a.anchor.home f.machine;
  start = f.start ∙ ap Some (sym s.start);
  run = run_same o o' s f.run;
}

module _ (at : At) (n : ℕ) (a a0 a1 : Agent) (o o' : Object) (room : a0 ≡ record a { room = a0.room }) (took_it : a1 ≡ took n (known_of o) a0) (found : Found a0 n o) (same : SameButRoom o o') where
  -- the object may be given back
  pub can_give_more : CanEnd a1 n o' None (a1.hands n)
  can_give_more = subst (λ x. CanEnd a1 n o' None x) (sym (ap (λ (x : Agent). x.hands n) took_it ∙ at_same n (Some (known_of o)) a0.hands))
      (record {
        start = ap (λ (x : Agent). x.starts n) took_it ∙ found.start ∙ ap Some (sym same.start);
        history = same.history;
        machine = subst (λ (x : Agent). IsOfMachine x.anchor.shape x.anchor.home o') (sym took_it) (same.machine _ _ found.machine);
      })

  -- the turn is open
  pub opened : at.last < 2 ^ 63 → last_stamp (history_of o) < 2 ^ 63 → 1 ≤ room_of o' → 1 ≤ a0.room → Opens at n a a1 o'
  opened early last more log_room = record {
    found = there_same a n o o' same (there_room a a0 n o room found);
    early = early;
    last = subst (λ h. last_stamp h < 2 ^ 63) (sym same.history) last;
    room = more;
    log_room = subst (λ (r : ℕ). 1 ≤ r) (sym (ap (λ (x : Agent). x.room) took_it)) log_room;
    same =
        took_it ∙ (λ i. record (room i) { hands = with_at n (Some (sym (known_same o o' same) i)) (room i).hands; room = (ap (λ (x : Agent). x.room) (sym took_it)) i; back = (ap (λ (x : Agent). x.back) (sym took_it)) i });
  }
