-- What a file can't do.
use Rattle.std.proofs.Common.{inl, inr, ◌∷◌, ◌||◌, ◌==◌, not, nat_le, ◌≤◌, ◌<◌, ◌^◌, ◌≡◌, ℕ, Bool, true, false, List, [], refl, sym, ap, subst, ◌∙◌, IsTrue, if◌then◌else◌}
use Rattle.std.specs.Prelude.{Option, None, Some, IsSome, MatchOption, is_some, option_map, unwrap_or}
use Rattle.ho_base.specs.declared.limits.TheConstants.{MAX_ORDER}
use Rattle.ho_base.specs.declared.numbers.Kind.{Kind}
use Rattle.ho_base.specs.declared.numbers.ObjectNo.{ObjectNo}
use Rattle.ho_base.specs.declared.numbers.Order.{Order}
use Rattle.ho_base.specs.declared.numbers.Pfn.{Pfn}
use Rattle.ho_events.specs.declared.event.Event.{Event}
use Rattle.ho_events.specs.declared.event.Event.TheVariants.{FileInit, FileUnpin}
use Rattle.ho_events.specs.declared.reply.Reply.{Reply}
use Rattle.ho_events.specs.declared.reply.Reply.TheVariants.{Gone}
use Rattle.ho_events.specs.declared.slip.At.{At}
use Rattle.ho_base.specs.Objects.{file_no}
use Rattle.ho_base.specs.declared.numbers.FileNo.{FileNo}
use Rattle.ho_base.specs.declared.numbers.Kind.TheVariants.{Memfd}
use Rattle.ho_events.specs.File.{FileState, file_step, is_device}
use Rattle.ho_events.specs.History.{file_from, last_stamp}
use Rattle.ho_world.specs.Acts.{IsFile, sort_of, Sort}
use Rattle.ho_world.specs.Logs.{Known, AreClaimed, HoldsOf}
use Rattle.ho_world.specs.World.{State, FileIn, run}
use Rattle.ho_world.proofs.Grow.{file_run}
use Rattle.memfd_file.specs.FileValues.{FileValue}
use Rattle.file_folios.specs.FileAnswers.{facts_of}
use Rattle.memfd_file.specs.Files.{is_opened, is_pinned}
use Rattle.file_folios.specs.declared.facts.Facts.{Facts}
use Rattle.machine_core.specs.declared.halt.Halt.TheVariants.{Broken}
use Rattle.machine_core.specs.declared.object.Object.TheVariants.{File}
use Rattle.machine_core.specs.Objects.{start_of, known_of}
use Rattle.machine_core.specs.Agents.{Agent, begun, took}
use Rattle.machine_core.specs.Turns.{CannotCome, IsShut, IsOther, IsUnfit, file_then}
use Rattle.luo_calls.specs.ClosingFds.{read_of}
use Rattle.luo_calls.specs.Opened.{Opens}
use Rattle.luo_calls.specs.declared.stuck.Stuck.{Stuck}
use Rattle.luo_calls.specs.Memfds.{IsMemfd, IsOtherFile}
use Rattle.luo_calls.specs.Stuck.{Sticks, SticksWith, turn}
use Rattle.luo_calls.proofs.Nested.{file_more}
use Rattle.luo_calls.proofs.Opens.{SameButRoom, known_same, there_same}
use Rattle.luo_calls.proofs.Sticking.{sticks_number}

no_init : (s : Option FileState) (kind : Kind) (o : Order) (size : ℕ) (runs : List Pfn) → is_some s ≡ true → (reply : Reply) → file_step s (FileInit kind o size runs) reply ≡ None
no_init None kind o size runs h reply = absurd cc
no_init (Some f) kind o size runs h reply = refl

-- a file that is there isn't made again
pub cannot_init : (x : Option (Option FileState)) (kind : Kind) (o : Order) (size : ℕ) (runs : List Pfn) (b : Bool) → b ≡ true → MatchOption x ⊥ (λ s. b ≡ is_some s) → MatchOption x (Unit {0}) (λ s. (reply : Reply) → file_step s (FileInit kind o size runs) reply ≡ None)
cannot_init None kind o size runs b e h = tt
cannot_init (Some s) kind o size runs b e h = no_init s kind o size runs (sym h ∙ e)

-- a file that isn't pinned isn't unpinned
no_unpin : (s : Option FileState) → is_pinned s ≡ false → (reply : Reply) → file_step s FileUnpin reply ≡ None
no_unpin None h reply = refl
no_unpin (Some f) h reply = rw h refl

pub cannot_unpin : (x : Option (Option FileState)) (b : Bool) → b ≡ false → MatchOption x ⊥ (λ s. b ≡ is_pinned s) → MatchOption x (Unit {0}) (λ s. (reply : Reply) → file_step s FileUnpin reply ≡ None)
cannot_unpin None b e h = tt
cannot_unpin (Some s) b e h = no_unpin s (sym h ∙ e)

-- the state to which a file's history leads
state_of : (v : FileValue) (P : Option FileState → Type 0) → MatchOption (file_from v.start v.history) ⊥ P → P (file_then (start_of (File v)) v.history)
state_of v P h = go (file_from v.start v.history) refl h
  where
    go : (x : Option (Option FileState)) → file_from v.start v.history ≡ x → MatchOption x ⊥ P → P (file_then (start_of (File v)) v.history)
    go None e h = absurd h
    go (Some s) e h = subst P (sym (leads s e)) h
      where
        leads : (s : Option FileState) → file_from v.start v.history ≡ Some s → file_then (start_of (File v)) v.history ≡ s
        leads s e = rw (file_run v.start v.history, e) refl

shut_at : (s : Option FileState) → is_opened s ≡ false → MatchOption s (Unit {0}) (λ f. f.opened ≡ false)
shut_at None h = tt
shut_at (Some f) h = h

-- a file that isn't open
pub is_shut : (v : FileValue) (b : Bool) → b ≡ false → MatchOption (file_from v.start v.history) ⊥ (λ s. b ≡ is_opened s) → IsShut (Some (start_of (File v))) v.history
is_shut v b e h = shut_at _ (sym (state_of v (λ s. b ≡ is_opened s) h) ∙ e)

other_at : (s : Option FileState) (facts : Option Facts) → facts ≡ option_map facts_of s → IsOtherFile facts → MatchOption s (Unit {0}) (λ f. (is_device f.kind || not (nat_le f.order MAX_ORDER)) ≡ true)
other_at None facts e h = tt
other_at (Some f) facts e h = subst IsOtherFile e h

-- a file that is no memfd of an order that runs may have
pub is_other : (v : FileValue) (facts : Option Facts) → IsOtherFile facts → MatchOption (file_from v.start v.history) ⊥ (λ s. facts ≡ option_map facts_of s) → IsOther (Some (start_of (File v))) v.history
is_other v facts other h = other_at _ facts (state_of v (λ s. facts ≡ option_map facts_of s) h) other

sort_at : (s : Option FileState) (facts : Option Facts) (o : Order) → facts ≡ option_map facts_of s → IsMemfd facts o → sort_of s ≡ Some (record { kind = Memfd; order = o.0 })
sort_at None facts o e h = absurd (subst (λ x. IsMemfd x o) e h)
sort_at (Some f) facts o e h =
    let m : IsMemfd (Some (facts_of f)) o = subst (λ x. IsMemfd x o) e h in
    λ i. Some (record { kind = m.0 i; order = (m.1 i).0 })

-- what is told of a file in hand is known of it
pub file_claimed : (a : Agent) (hands : ℕ → Option Known) (file : FileNo) (v : FileValue) (facts : Option Facts) (o : Order) → hands (file_no file.0) ≡ Some (known_of (File v)) → IsMemfd facts o → MatchOption (file_from v.start v.history) ⊥ (λ s. facts ≡ option_map facts_of s) → AreClaimed (begun a) hands (IsFile file Memfd o ∷ [])
file_claimed a hands file v facts o held memfd h =
    (subst (λ k. HoldsOf k (IsFile file Memfd o)) (sym held) (sort_at _ facts o (state_of v (λ s. facts ≡ option_map facts_of s) h) memfd), tt)

-- where the end of a label's hold reads it
pub read_claimed : (a : Agent) (hands : ℕ → Option Known) (file : FileNo) (o : Order) (reply : Reply) → AreClaimed (begun a) hands (IsFile file Memfd o ∷ []) → AreClaimed (begun a) hands (read_of file o reply)
read_claimed a hands file o (Gone runs) h = h
read_claimed a hands file o reply h = tt

-- the same by the file's state alone
pub memfd_claimed : (a : Agent) (hands : ℕ → Option Known) (file : FileNo) (v : FileValue) (o : Order) → hands (file_no file.0) ≡ Some (known_of (File v)) → MatchOption (file_from v.start v.history) ⊥ (λ s. IsMemfd (option_map facts_of s) o) → AreClaimed (begun a) hands (IsFile file Memfd o ∷ [])
memfd_claimed a hands file v o held h =
    (subst (λ k. HoldsOf k (IsFile file Memfd o)) (sym held) (sort_at _ _ o refl (state_of v (λ s. IsMemfd (option_map facts_of s) o) h)), tt)

-- a file, in hand for an open turn, can't be used as the command has to
pub broken_file_sticks : (at : At) (number : ObjectNo) (n : ℕ) (a a1 : Agent) (f : FileValue) (event : Event) (stuck : Stuck) → number.0 ≡ n → a.hands n ≡ None → Opens at n a a1 (File f) → IsUnfit event (Some (start_of (File f))) f.history at number.0 → stuck.halt ≡ Broken number → stuck.held ≡ Some (number, File f) → Sticks at (turn n event) stuck a a1
broken_file_sticks at number n a a1 f event stuck is free opens unfit halt held =
    subst (λ h. SticksWith at (turn n event) h stuck.held a a1) (sym halt)
    (subst (λ x. SticksWith at (turn n event) (Broken number) x a a1) (sym held)
    (sticks_number at (turn n event) (Broken number) number n a a1 (File f) is free opens (refl, (sym is, unfit))))

-- a memfd is there, and of an order that runs may have
pub memfd_present : (x : Option (Option FileState)) (o : Order) → MatchOption x ⊥ (λ s. IsMemfd (option_map facts_of s) o) → MatchOption x ⊥ IsSome
memfd_present None o m = absurd m
memfd_present (Some None) o m = absurd m
memfd_present (Some (Some f)) o m = refl

pub memfd_small : (x : Option (Option FileState)) (o : Order) → MatchOption x ⊥ (λ s. IsMemfd (option_map facts_of s) o) → o.0 ≤ MAX_ORDER
memfd_small None o m = absurd m
memfd_small (Some None) o m = absurd m
memfd_small (Some (Some f)) o m = m.2

-- so is a file that is open there
pub open_present : (x : Option (Option FileState)) (b : Bool) → b ≡ true → MatchOption x ⊥ (λ s. b ≡ is_opened s) → MatchOption x ⊥ IsSome
open_present None b e h = absurd h
open_present (Some None) b e h = absurd (clash b e h)
  where
    clash : (b : Bool) → b ≡ true → b ≡ false → ⊥
    clash true e h = absurd cc
    clash false e h = absurd cc
open_present (Some (Some f)) b e h = refl

-- ---- a file, in hand for an open turn, whose memory was asked for

module _ (at : At) (n : ℕ) (a a1 : Agent) (f g : FileValue) (opens : Opens at n a a1 (File f)) (number : g.number ≡ f.number) (start : g.start ≡ f.start) (history : g.history ≡ f.history) (home : g.home ≡ f.home) where
  more : SameButRoom (File f) (File g)
  more = file_more f g number start history home

  took_same : a1 ≡ record (took n (known_of (File g)) a) { room = a1.room; back = a1.back }
  took_same = subst (λ k. a1 ≡ record (took n k a) { room = a1.room; back = a1.back }) (sym (known_same (File f) (File g) more)) opens.same

  -- it got memory
  pub opens_more : 1 ≤ g.room → Opens at n a a1 (File g)
  opens_more room = record {
    found = there_same a n (File f) (File g) more opens.found;
    early = opens.early;
    last = subst (λ h. last_stamp h < 2 ^ 63) (sym history) opens.last;
    room = room;
    log_room = opens.log_room;
    same = took_same;
  }

-- a file in hand that is a memfd is there
pub is_there : (x : Option (Option FileState)) (o : Order) → MatchOption x ⊥ (λ s. IsMemfd (option_map facts_of s) o) → MatchOption x ⊥ IsSome
is_there None o h = absurd h
is_there (Some None) o h = absurd h
is_there (Some (Some f)) o h = refl
