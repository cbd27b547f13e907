-- Turns that end while an object stays in hand, and the end of that object's turn.
use Rattle.std.proofs.Common.{◌≡◌, ◌≢◌, ℕ, ◌+◌, ◌<◌, ◌≤◌, ◌^◌, Bool, true, false, ◌==◌, List, [], ◌∷◌, ◌++◌, refl, sym, ap, subst, ◌∙◌, arith, cond, if◌then◌else◌, append_assoc}
use Rattle.std.specs.Prelude.{Option, None, Some}
use Rattle.std.proofs.lemmas.Bool.Decides.{nat_tests}
use Rattle.ho_base.specs.declared.numbers.ObjectNo.{ObjectNo}
use Rattle.ho_events.specs.declared.slip.At.{At}
use Rattle.ho_events.specs.History.{last_stamp}
use Rattle.ho_world.specs.Logs.{Known, Deed, AreDone}
use Rattle.machine_core.specs.declared.halt.Halt.{Halt}
use Rattle.machine_core.specs.declared.object.Object.{Object}
use Rattle.machine_core.specs.declared.object.Object.TheVariants.{Session, File}
use Rattle.ho_world.specs.World.{SessionIn, FileIn}
use Rattle.session_core.specs.SessionValues.{SessionValue}
use Rattle.memfd_file.specs.FileValues.{FileValue}
use Rattle.machine_core.specs.Objects.{start_of, history_of, known_of, room_of, IsOfMachine}
use Rattle.machine_core.specs.Agents.{Agent, with_at, took, gave_back, CanEnd, HasEnded, IsButForRoom, begun, state_in}
use Rattle.machine_core.specs.Turns.{IsReady, TellsMore, Goes}
use Rattle.luo_calls.specs.declared.stuck.Stuck.{Stuck}
use Rattle.luo_calls.specs.Opened.{IsThere, Opens, Holds, without}
use Rattle.luo_calls.specs.Stuck.{IsAgentCause, IsObjectCause, SticksBefore, SticksAt, SticksWith, Sticks, Turn, turn_of}
use Rattle.luo_calls.specs.Doing.{SticksAfter}
use Rattle.luo_calls.proofs.Chains.{then_goes}
use Rattle.luo_calls.proofs.Sticking.{sticks_any, sticks_more}
use Rattle.luo_calls.proofs.Opens.{SameButRoom, known_same, there_same}
use Rattle.luo_calls.proofs.Steps.{at_same, put_back, has, ended_none, goes_none}

-- ---- one number after another

same_number : (k n : ℕ) → (k == n) ≡ true → k ≡ n
same_number k n is = grind (arith, nat_tests)

-- what is in hand is as if it were put there
pub taken_again : (n : ℕ) (k : Known) (f : ℕ → Option Known) → f n ≡ Some k → with_at n (Some k) (with_at n None f) ≡ f
taken_again n k f e = λ i m. point m (m == n) refl i
  where
    point : (m : ℕ) (b : Bool) → (m == n) ≡ b → with_at n (Some k) (with_at n None f) m ≡ f m
    point m true is = ap (λ b. cond b (Some k) (cond b None (f m))) is ∙ sym (ap f (same_number m n is) ∙ e)
    point m false is = ap (λ b. cond b (Some k) (cond b None (f m))) is

-- two numbers are changed in either order
commute : (m n : ℕ) (x y : Option Known) (f : ℕ → Option Known) → m ≢ n → with_at m x (with_at n y f) ≡ with_at n y (with_at m x f)
commute m n x y f other = λ i q. point q (q == m) (q == n) refl refl i
  where
    point : (q : ℕ) (b c : Bool) → (q == m) ≡ b → (q == n) ≡ c → with_at m x (with_at n y f) q ≡ with_at n y (with_at m x f) q
    point q true true bs cs = absurd (other (sym (same_number q m bs) ∙ same_number q n cs))
    point q true false bs cs = (λ i. cond (bs i) x (cond (cs i) y (f q))) ∙ sym (λ i. cond (cs i) y (cond (bs i) x (f q)))
    point q false true bs cs = (λ i. cond (bs i) x (cond (cs i) y (f q))) ∙ sym (λ i. cond (cs i) y (cond (bs i) x (f q)))
    point q false false bs cs = (λ i. cond (bs i) x (cond (cs i) y (f q))) ∙ sym (λ i. cond (cs i) y (cond (bs i) x (f q)))

-- ---- what is in hand

there_of : (a b : Agent) (n : ℕ) (o : Object) → b.starts ≡ a.starts → b.anchor ≡ a.anchor → IsThere a n o → IsThere b n o
there_of a b n o starts anchor t = record {
  number = t.number;
  kind = t.kind;
  machine = subst (λ x. IsOfMachine x.shape x.home o) (sym anchor) t.machine;
  start = ap (λ f. f n) starts ∙ t.start;
  run = t.run;
}

pub holds_open : (at : At) (n : ℕ) (a a1 : Agent) (o : Object) → Opens at n a a1 o → Holds n a1 o
holds_open at n a a1 o opens = record {
  found = there_of a a1 n o (ap (λ (x : Agent). x.starts) opens.same) (ap (λ (x : Agent). x.anchor) opens.same) opens.found;
  last = opens.last;
  held = has at n a a1 o opens;
}

pub holds_goes : (ds : List Deed) (at at1 : At) (n : ℕ) (a1 a2 : Agent) (o : Object) → Holds n a1 o → Goes ds at at1 a1 a2 → Holds n a2 o
holds_goes ds at at1 n a1 a2 o h g = record { found = there_of a1 a2 n o g.starts g.anchor h.found; last = h.last; held = ap (λ f. f n) g.hands ∙ h.held }

-- more room changes nothing
pub holds_same : (n : ℕ) (a : Agent) (o o' : Object) → SameButRoom o o' → Holds n a o → Holds n a o'
holds_same n a o o' s h = record {
  found = there_same a n o o' s h.found;
  last = subst (λ x. last_stamp x < 2 ^ 63) (sym s.history) h.last;
  held = h.held ∙ ap Some (sym (known_same o o' s));
}

pub holds_room : (n : ℕ) (a a1 : Agent) (o : Object) → a1 ≡ record a { room = a1.room } → Holds n a o → Holds n a1 o
holds_room n a a1 o room h = record {
  found = there_of a a1 n o (ap (λ (x : Agent). x.starts) room) (ap (λ (x : Agent). x.anchor) room) h.found;
  last = h.last;
  held = ap (λ (x : Agent). x.hands n) room ∙ h.held;
}

pub free_without : (n : ℕ) (a : Agent) → (without n a).hands n ≡ None
free_without n a = at_same n None a.hands

pub ready_without : (n : ℕ) (at : At) (a : Agent) → IsReady at a → IsReady at (without n a)
ready_without n at a r = record { agent = r.agent; kernel = r.kernel; last = r.last }

-- the object goes back as it was
pub can_let_go : (n : ℕ) (a : Agent) (o : Object) → Holds n a o → CanEnd a n o None (a.hands n)
can_let_go n a o h = subst (λ x. CanEnd a n o None x) (sym h.held) (record { start = h.found.start; history = refl; machine = h.found.machine })

-- the turn on it goes on, with an entry
pub reopens : (at : At) (n : ℕ) (a a1 : Agent) (o : Object) → Holds n a o → a1 ≡ record a { room = a1.room } → at.last < 2 ^ 63 → 1 ≤ room_of o → 1 ≤ a1.room → Opens at n (without n a) a1 o
reopens at n a a1 o h room early more log_room = record {
  found = there_of a (without n a) n o refl refl h.found;
  early = early;
  last = h.last;
  room = more;
  log_room = log_room;
  same = room ∙ (λ i. record a { hands = sym (taken_again n (known_of o) a.hands h.held) i; room = a1.room; back = (sym (ap (λ (x : Agent). x.back) room)) i });
}

-- the turn on it doesn't go on
pub sticks_held : {due : Option Turn} → (at : At) (halt : Halt) (number : ObjectNo) (n : ℕ) (a a1 : Agent) (o : Object) → number.0 ≡ n → Holds n a o → a1 ≡ record a { room = a1.room } → IsObjectCause halt due at number o → SticksAt at due halt number o (without n a) a1
sticks_held {due} at halt number n a a1 o is h room cause = subst (λ k. SticksAt at due halt number o (without k a) a1) is (held_at (subst (λ k. Holds k a o) (sym is) h))
  where
    held_at : Holds number.0 a o → SticksAt at due halt number o (without number.0 a) a1
    held_at h = record {
      found = there_of a (without number.0 a) number.0 o refl refl h.found;
      free = free_without number.0 a;
      same = room ∙ (λ i. record a { hands = sym (taken_again number.0 (known_of o) a.hands h.held) i; room = a1.room; back = (sym (ap (λ (x : Agent). x.back) room)) i });
      cause = cause;
    }

-- ---- deeds while it is in hand

pub inner_goes : (ds : List Deed) (at at1 : At) (n : ℕ) (a a1 a2 : Agent) (o : Object) → Opens at n a a1 o → a.hands n ≡ None → Goes ds at at1 a1 a2 → Goes ds at at1 a (without n a2)
inner_goes ds at at1 n a a1 a2 o opens free g = record {
  made = g.made;
  log = g.log ∙ ap (λ (x : Agent). x.log ++ g.made) opens.same;
  done = subst (λ s. AreDone (λ o. state_in (s o)) at at.last ds g.made at1.last) (ap (λ (x : Agent). x.starts) opens.same) g.done;
  at_is = g.at_is;
  number = g.number ∙ ap (λ (x : Agent). x.number) opens.same;
  anchor = g.anchor ∙ ap (λ (x : Agent). x.anchor) opens.same;
  starts = g.starts ∙ ap (λ (x : Agent). x.starts) opens.same;
  earlier = g.earlier ∙ ap (λ (x : Agent). x.earlier) opens.same;
  hands = ap (with_at n None) (g.hands ∙ ap (λ (x : Agent). x.hands) opens.same) ∙ put_back n (known_of o) a.hands free;
  told = subst (λ t. TellsMore g.made t a2.told) (ap (λ (x : Agent). x.told) opens.same) g.told;
}

-- deeds, and then deeds from there but for the object
pub then_without : (ds ds' : List Deed) (at at1 at2 : At) (n : ℕ) (a a1 a2 a3 : Agent) (o : Object) → Opens at n a a1 o → a.hands n ≡ None → Goes ds at at1 a1 a2 → Goes ds' at1 at2 (without n a2) a3 → Goes (ds ++ ds') at at2 a a3
then_without ds ds' at at1 at2 n a a1 a2 a3 o opens free g k =
    then_goes ds ds' at at1 at2 a (without n a2) a3 (inner_goes ds at at1 n a a1 a2 o opens free g) k

-- nothing was done between the opening and the end
pub goes_nowhere : (at : At) (a : Agent) → Goes [] at at a a
goes_nowhere at a = goes_none at a a refl refl refl refl refl refl refl

-- ---- a turn that can't be taken while it is in hand

holds_stuck : (at : At) (due : Option Turn) (halt : Halt) (held : Option (ObjectNo × Object)) (n : ℕ) (a a1 : Agent) (o : Object) → SticksWith at due halt held a a1 → Holds n a o → Holds n a1 o
holds_stuck at due halt None n a a1 o s h = record {
  found = there_of a a1 n o (ap (λ (x : Agent). x.starts) s.same) (ap (λ (x : Agent). x.anchor) s.same) h.found;
  last = h.last;
  held = ap (λ (x : Agent). x.hands n) s.same ∙ h.held;
}
holds_stuck at due halt (Some x) n a a1 o s h = record {
  found = there_of a a1 n o (ap (λ (x : Agent). x.starts) s.same) (ap (λ (x : Agent). x.anchor) s.same) h.found;
  last = h.last;
  held = ap (λ (y : Agent). y.hands n) s.same ∙ stays (n == x.0.0) refl;
}
  where
    stays : (b : Bool) → (n == x.0.0) ≡ b → with_at x.0.0 (Some (known_of x.1)) a.hands n ≡ Some (known_of o)
    stays true is = absurd (clash (sym h.held ∙ ap a.hands (same_number n x.0.0 is) ∙ s.free))
      where
        clash : Some (known_of o) ≡ None → ⊥
        clash e = absurd cc
    stays false is = ap (λ b. cond b (Some (known_of x.1)) (a.hands n)) is ∙ h.held

pub can_let_go_stuck : (due : Option Turn) (at : At) (stuck : Stuck) (n : ℕ) (a a1 : Agent) (o : Object) → Sticks at due stuck a a1 → Holds n a o → CanEnd a1 n o None (a1.hands n)
can_let_go_stuck due at stuck n a a1 o s h = can_let_go n a1 o (holds_stuck at due stuck.halt stuck.held n a a1 o s h)

under_with : (at : At) (due : Option Turn) (halt : Halt) (held : Option (ObjectNo × Object)) (n : ℕ) (a a1 a2 : Agent) (o : Object) → SticksWith at due halt held a a1 → Holds n a o → IsButForRoom (gave_back n (history_of o) a1) a2 → SticksWith at due halt held (without n a) a2
under_with at due halt None n a a1 a2 o s h gave = record {
  same = gave.same ∙ (λ i. record (s.same i) { hands = with_at n None (s.same i).hands; room = a2.room; back = (sym (ap (λ (x : Agent). x.back) gave.same)) i });
  cause = s.cause;
}
under_with at due halt (Some x) n a a1 a2 o s h gave = record {
  found = there_of a (without n a) x.0.0 x.1 refl refl s.found;
  free = free_of (x.0.0 == n) refl;
  same =
      gave.same
      ∙ (λ i. record (s.same i) { hands = with_at n None (s.same i).hands; room = a2.room; back = (sym (ap (λ (y : Agent). y.back) gave.same)) i })
      ∙ (λ i. record a { hands = commute n x.0.0 None (Some (known_of x.1)) a.hands other i; room = a2.room; back = a2.back });
  cause = s.cause;
}
  where
    other : n ≢ x.0.0
    other e = clash (sym h.held ∙ ap a.hands e ∙ s.free)
      where
        clash : Some (known_of o) ≡ None → ⊥
        clash e = absurd cc

    free_of : (b : Bool) → (x.0.0 == n) ≡ b → with_at n None a.hands x.0.0 ≡ None
    free_of true is = ap (λ b. cond b None (a.hands x.0.0)) is
    free_of false is = ap (λ b. cond b None (a.hands x.0.0)) is ∙ s.free

-- the object in hand goes back first
pub sticks_under : (due : Option Turn) (at : At) (stuck : Stuck) (n : ℕ) (a a1 a2 : Agent) (o : Object) → Sticks at due stuck a a1 → Holds n a o → HasEnded a1 n None (a1.hands n) a2 → Sticks at due stuck (without n a) a2
sticks_under due at stuck n a a1 a2 o s h gave_it =
    under_with at due stuck.halt stuck.held n a a1 a2 o s h (ended_none a1 n (known_of o) (a1.hands n) a2 (holds_stuck at due stuck.halt stuck.held n a a1 o s h).held gave_it).shows

-- ---- a command that sticks

-- after some deeds the turn of the next one can't be taken
pub sticks_next : {W : List Deed → Type 0} → (ds due : List Deed) → W (ds ++ due) → (at at1 at2 : At) (stuck : Stuck) (a a1 a2 : Agent) → Goes ds at at1 a a1 → at2 ≡ at1 → Sticks at1 (turn_of due) stuck a1 a2 → SticksAfter W stuck at at2 a a2
sticks_next {W} ds due front at at1 at2 stuck a a1 a2 g same s =
    subst (λ t. SticksAfter W stuck at t a a2) (sym same) (record { deeds = ds; due = due; front = front; middle = a1; goes = g; sticks = s })

-- that of the first one
pub sticks_first : {W : List Deed → Type 0} → (due : List Deed) → W due → (at at' : At) (stuck : Stuck) (a a' : Agent) → at' ≡ at → Sticks at (turn_of due) stuck a a' → SticksAfter W stuck at at' a a'
sticks_first due front at at' stuck a a' same s = sticks_next [] due front at at at' stuck a a a' (goes_nowhere at a) same s

-- after some deeds it goes on, and sticks;  more deeds come after those that may come
pub sticks_later : {V W : List Deed → Type 0} → (ds : List Deed) → ((rest : List Deed) → V rest → W (ds ++ rest)) → (at at1 at2 : At) (stuck : Stuck) (a a1 a2 : Agent) → Goes ds at at1 a a1 → SticksAfter V stuck at1 at2 a1 a2 → SticksAfter W stuck at at2 a a2
sticks_later {V} {W} ds on at at1 at2 stuck a a1 a2 g s = record {
  deeds = ds ++ s.deeds;
  due = s.due;
  front = subst W (sym (append_assoc ds s.deeds s.due)) (on _ s.front);
  middle = s.middle;
  goes = then_goes ds s.deeds at at1 at2 a a1 s.middle g s.goes;
  sticks = s.sticks;
}

pub sticks_before : {V W : List Deed → Type 0} → (more : List Deed) → ((ds : List Deed) → V ds → W (ds ++ more)) → (at at' : At) (stuck : Stuck) (a a' : Agent) → SticksAfter V stuck at at' a a' → SticksAfter W stuck at at' a a'
sticks_before {V} {W} more on at at' stuck a a' s = record {
  deeds = s.deeds;
  due = s.due ++ more;
  front = subst W (append_assoc s.deeds s.due more) (on _ s.front);
  middle = s.middle;
  goes = s.goes;
  sticks = sticks_more at' s.due more stuck s.middle a' s.sticks;
}

-- deeds come after those that may come, by how they came out
pub sticks_front : {V W : List Deed → Type 0} → ((ds : List Deed) → V ds → (more : List Deed) × W (ds ++ more)) → (at at' : At) (stuck : Stuck) (a a' : Agent) → SticksAfter V stuck at at' a a' → SticksAfter W stuck at at' a a'
sticks_front {V} {W} on at at' stuck a a' s = record {
  deeds = s.deeds;
  due = s.due ++ (on _ s.front).0;
  front = subst W (append_assoc s.deeds s.due (on _ s.front).0) (on _ s.front).1;
  middle = s.middle;
  goes = s.goes;
  sticks = sticks_more at' s.due (on _ s.front).0 stuck s.middle a' s.sticks;
}

-- ---- sessions and files that get more room

pub session_more : (s t : SessionValue) → t.number ≡ s.number → t.start ≡ s.start → t.history ≡ s.history → SameButRoom (Session s) (Session t)
session_more s t number start history = record {
  start = λ i. record { number = number i; state = SessionIn (start i); home = None };
  history = history;
  kind = refl;
  number = number;
  machine = λ shape home h. h;
}

pub file_more : (s t : FileValue) → t.number ≡ s.number → t.start ≡ s.start → t.history ≡ s.history → t.home ≡ s.home → SameButRoom (File s) (File t)
file_more s t number start history home = record {
  start = λ i. record { number = number i; state = FileIn (start i); home = Some (home i) };
  history = history;
  kind = refl;
  number = number;
  machine = λ shape at h. home ∙ h;
}

-- ---- by a number that stands for the object's

pub let_go_at : (m n : ℕ) (a a1 : Agent) (o : Object) → m ≡ n → a1 ≡ record a { room = a1.room } → Holds n a o → CanEnd a1 m o None (a1.hands m)
let_go_at m n a a1 o is room h = subst (λ k. CanEnd a1 k o None (a1.hands k)) (sym is) (can_let_go n a1 o (holds_room n a a1 o room h))

pub under_at : (due : Option Turn) (at : At) (stuck : Stuck) (m n : ℕ) (a a1 a2 : Agent) (o : Object) → m ≡ n → Sticks at due stuck a a1 → Holds n a o → HasEnded a1 m None (a1.hands m) a2 → Sticks at due stuck (without n a) a2
under_at due at stuck m n a a1 a2 o is s h gave = sticks_under due at stuck n a a1 a2 o s h (subst (λ k. HasEnded a1 k None (a1.hands k) a2) is gave)

pub let_go_stuck_at : (due : Option Turn) (at : At) (stuck : Stuck) (m n : ℕ) (a a1 : Agent) (o : Object) → m ≡ n → Sticks at due stuck a a1 → Holds n a o → CanEnd a1 m o None (a1.hands m)
let_go_stuck_at due at stuck m n a a1 o is s h = subst (λ k. CanEnd a1 k o None (a1.hands k)) (sym is) (can_let_go_stuck due at stuck n a a1 o s h)

-- ---- deeds, seen but for an object that is in hand meanwhile

pub within_goes : (ds : List Deed) (at at1 : At) (n : ℕ) (a a1 : Agent) → Goes ds at at1 a a1 → Goes ds at at1 (without n a) (without n a1)
within_goes ds at at1 n a a1 g = record {
  made = g.made;
  log = g.log;
  done = g.done;
  at_is = g.at_is;
  number = g.number;
  anchor = g.anchor;
  starts = g.starts;
  earlier = g.earlier;
  hands = ap (with_at n None) g.hands;
  told = g.told;
}

pub outer_goes : (ds : List Deed) (at at1 : At) (n : ℕ) (a a1 a2 : Agent) (o : Object) → Opens at n a a1 o → a.hands n ≡ None → Goes ds at at1 (without n a1) a2 → Goes ds at at1 a a2
outer_goes ds at at1 n a a1 a2 o opens free g = record {
  made = g.made;
  log = g.log ∙ ap (λ (x : Agent). x.log ++ g.made) opens.same;
  done = subst (λ s. AreDone (λ o. state_in (s o)) at at.last ds g.made at1.last) (ap (λ (x : Agent). x.starts) opens.same) g.done;
  at_is = g.at_is;
  number = g.number ∙ ap (λ (x : Agent). x.number) opens.same;
  anchor = g.anchor ∙ ap (λ (x : Agent). x.anchor) opens.same;
  starts = g.starts ∙ ap (λ (x : Agent). x.starts) opens.same;
  earlier = g.earlier ∙ ap (λ (x : Agent). x.earlier) opens.same;
  hands = g.hands ∙ ap (λ (x : Agent). with_at n None x.hands) opens.same ∙ put_back n (known_of o) a.hands free;
  told = subst (λ t. TellsMore g.made t a2.told) (ap (λ (x : Agent). x.told) opens.same) g.told;
}

pub outer_sticks : {W : List Deed → Type 0} → (at at1 : At) (stuck : Stuck) (n : ℕ) (a a1 a2 : Agent) (o : Object) → Opens at n a a1 o → a.hands n ≡ None → SticksAfter W stuck at at1 (without n a1) a2 → SticksAfter W stuck at at1 a a2
outer_sticks at at1 stuck n a a1 a2 o opens free s = record {
  deeds = s.deeds;
  due = s.due;
  front = s.front;
  middle = s.middle;
  goes = outer_goes s.deeds at at1 n a a1 s.middle o opens free s.goes;
  sticks = s.sticks;
}

-- room for the log, made before the deeds
pub goes_from_room : (ds : List Deed) (at at1 : At) (n : ℕ) (a a1 b : Agent) → a1 ≡ record a { room = a1.room } → Goes ds at at1 (without n a1) b → Goes ds at at1 (without n a) b
goes_from_room ds at at1 n a a1 b room g = record {
  made = g.made;
  log = g.log ∙ ap (λ (x : Agent). x.log ++ g.made) room;
  done = subst (λ s. AreDone (λ o. state_in (s o)) at at.last ds g.made at1.last) (ap (λ (x : Agent). x.starts) room) g.done;
  at_is = g.at_is;
  number = g.number ∙ ap (λ (x : Agent). x.number) room;
  anchor = g.anchor ∙ ap (λ (x : Agent). x.anchor) room;
  starts = g.starts ∙ ap (λ (x : Agent). x.starts) room;
  earlier = g.earlier ∙ ap (λ (x : Agent). x.earlier) room;
  hands = g.hands ∙ ap (λ (x : Agent). with_at n None x.hands) room;
  told = subst (λ t. TellsMore g.made t b.told) (ap (λ (x : Agent). x.told) room) g.told;
}

-- ---- an open turn, with more room in the agent's log

pub opens_room : (at : At) (n : ℕ) (a a1 a2 : Agent) (o : Object) → Opens at n a a1 o → a2 ≡ record a1 { room = a2.room } → 1 ≤ a2.room → Opens at n a a2 o
opens_room at n a a1 a2 o opens room log_room = record {
  found = opens.found;
  early = opens.early;
  last = opens.last;
  room = opens.room;
  log_room = log_room;
  same = room ∙ (λ i. record (opens.same i) { room = a2.room; back = (sym (ap (λ (x : Agent). x.back) room)) i });
}

-- the agent but for the object that it took is as before
without_is : (at : At) (n : ℕ) (a a1 : Agent) (o : Object) → Opens at n a a1 o → a.hands n ≡ None → without n a1 ≡ record a { room = a1.room; back = a1.back }
without_is at n a a1 o opens free =
    λ i. record (opens.same i) { hands = (ap (λ (x : Agent). with_at n None x.hands) opens.same ∙ put_back n (known_of o) a.hands free) i; room = a1.room; back = a1.back }

sticks_room : (at : At) (due : Option Turn) (halt : Halt) (held : Option (ObjectNo × Object)) (a b a2 : Agent) → SticksWith at due halt held (record a { room = b.room; back = b.back }) a2 → SticksWith at due halt held a a2
sticks_room at due halt None a b a2 s = record { same = s.same; cause = s.cause }
sticks_room at due halt (Some x) a b a2 s = record {
  found = there_of (record a { room = b.room; back = b.back }) a x.0.0 x.1 refl refl s.found;
  free = s.free;
  same = s.same;
  cause = s.cause;
}

-- a turn that can't be taken, seen from before the object was taken
pub outer_stuck : (due : Option Turn) (at : At) (stuck : Stuck) (n : ℕ) (a a1 a2 : Agent) (o : Object) → Opens at n a a1 o → a.hands n ≡ None → Sticks at due stuck (without n a1) a2 → Sticks at due stuck a a2
outer_stuck due at stuck n a a1 a2 o opens free s =
    sticks_room at due stuck.halt stuck.held a a1 a2 (subst (λ (x : Agent). Sticks at due stuck x a2) (without_is at n a a1 o opens free) s)

-- a turn on an object that was taken and went back, since the turn can't be taken
pub stuck_back : (due : Option Turn) (at : At) (stuck got : Stuck) (m n : ℕ) (a a1 a2 a3 : Agent) (o : Object) → m ≡ n → got ≡ stuck → Opens at n a a1 o → a.hands n ≡ None → Sticks at None stuck a1 a2 → HasEnded a2 m None (a2.hands m) a3 → Sticks at due got a a3
stuck_back due at stuck got m n a a1 a2 a3 o is same opens free s ended =
    sticks_any at due got a a3
    (subst (λ (x : Stuck). Sticks at None x a a3) (sym same)
    (outer_stuck None at stuck n a a1 a3 o opens free (under_at None at stuck m n a1 a2 a3 o is s (holds_open at n a a1 o opens) ended)))
