-- What a file that an incoming session has can do, what it answers, and which folios it gives up.
use Rattle.std.proofs.Common.{◌≡◌, ℕ, ◌≤◌, Bool, true, false, not, ◌&&◌, List, [], ◌∷◌, ◌++◌, refl, sym, ap, subst, ◌∙◌}
use Rattle.std.specs.Prelude as result
use Rattle.std.specs.Prelude.{Option, None, Some, MatchOption, option_map, unwrap_or, Result, IfOk, IfErr}
use Rattle.std.specs.FinMap as finmap
use Rattle.ho_base.specs.declared.limits.TheConstants.{MAX_ORDER}
use Rattle.ho_base.specs.Objects.{file_no}
use Rattle.ho_base.specs.declared.numbers.FileNo.{FileNo}
use Rattle.ho_base.specs.declared.numbers.Kind.TheVariants.{Memfd}
use Rattle.ho_base.specs.declared.numbers.Order.{Order}
use Rattle.ho_events.specs.declared.event.Event.TheVariants.{FileOpenHeld, FileFinish}
use Rattle.ho_events.specs.declared.reply.Reply.{Reply}
use Rattle.ho_events.specs.declared.reply.Reply.TheVariants.{Ok, Kept, Gone}
use Rattle.ho_events.specs.declared.slip.At.{At}
use Rattle.ho_events.specs.File.{FileState, file_step}
use Rattle.ho_world.specs.Acts.{IsFile}
use Rattle.ho_world.specs.Logs.{Deed, deed_at}
use Rattle.phys_frames.specs.Homes.{HomeId}
use Rattle.phys_frames.specs.Memory.{FolioValue}
use Rattle.file_folios.specs.FileAnswers.{facts_of}
use Rattle.file_folios.specs.declared.facts.Facts.{Facts}
use Rattle.memfd_file.specs.Files.{IsFinishAnswer, IsMemfdFile, given_up}
use Rattle.machine_core.specs.declared.object.Object.{Object}
use Rattle.machine_core.specs.Agents.{Agent}
use Rattle.machine_core.specs.Turns.{Goes}
use Rattle.luo_calls.specs.Memfds.{IsMemfd}
use Rattle.luo_calls.specs.Replies.{IsGivenUp}
use Rattle.luo_calls.specs.Opened.{Opens, without}
use Rattle.luo_calls.specs.Stuck.{Sticks, Turn}
use Rattle.luo_calls.specs.declared.stuck.Stuck.{Stuck}
use Rattle.luo_calls.proofs.Nested.{outer_goes, outer_stuck}
use Rattle.luo_calls.proofs.Folios.{at_runs_begin, at_runs_home, at_runs_order}
use Rattle.luo_incoming.specs.Incoming.{is_held, waits_for_label}
use Rattle.luo_incoming.specs.Replies.{IsFinishReply}

-- ---- what every file is

order_at : (s : Option FileState) (told : Facts) → Some told ≡ option_map facts_of s → MatchOption s (Unit {0}) IsMemfdFile → IsMemfd (option_map facts_of s) told.order
order_at None told e m = absurd cc
order_at (Some f) told e m = let is : told.order.0 ≡ f.order = ap (λ (x : Option Facts). unwrap_or (option_map (λ t. t.order.0) x) 0) e in
    (m.kind, (λ i. record { 0 = sym is i }), subst (λ n. n ≤ MAX_ORDER) (sym is) m.order)

-- one that is there is a memfd, by what is told of it
pub order_told : (x : Option (Option FileState)) (facts : Option Facts) (told : Facts) → facts ≡ Some told → MatchOption x ⊥ (λ s. facts ≡ option_map facts_of s) → MatchOption x ⊥ (λ s. MatchOption s (Unit {0}) IsMemfdFile) → MatchOption x ⊥ (λ s. IsMemfd (option_map facts_of s) told.order)
order_told None facts told e h m = absurd h
order_told (Some s) facts told e h m = order_at s told (sym e ∙ h) m

-- ---- what it can't do

no_open_held : (s : Option FileState) (facts : Option Facts) → facts ≡ option_map facts_of s → waits_for_label facts ≡ false → (reply : Reply) → file_step s FileOpenHeld reply ≡ None
no_open_held None facts e h reply = refl
no_open_held (Some f) facts e h Ok = let w : (f.hold && not f.opened) ≡ false = sym (ap waits_for_label e) ∙ h in rw w refl
no_open_held (Some f) facts e h reply = refl

-- a file that no incoming session has, or that is open, isn't opened so
pub cannot_open_held : (x : Option (Option FileState)) (facts : Option Facts) (b : Bool) → b ≡ false → b ≡ waits_for_label facts → MatchOption x ⊥ (λ s. facts ≡ option_map facts_of s) → MatchOption x (Unit {0}) (λ s. (reply : Reply) → file_step s FileOpenHeld reply ≡ None)
cannot_open_held None facts b f e h = tt
cannot_open_held (Some s) facts b f e h = no_open_held s facts h (sym e ∙ f)

no_finish : (s : Option FileState) (facts : Option Facts) → facts ≡ option_map facts_of s → is_held facts ≡ false → (reply : Reply) → file_step s FileFinish reply ≡ None
no_finish None facts e h reply = refl
no_finish (Some f) facts e h reply = let w : f.hold ≡ false = sym (ap is_held e) ∙ h in rw w refl

-- a hold that isn't there doesn't end
pub cannot_finish : (x : Option (Option FileState)) (facts : Option Facts) (b : Bool) → b ≡ false → b ≡ is_held facts → MatchOption x ⊥ (λ s. facts ≡ option_map facts_of s) → MatchOption x (Unit {0}) (λ s. (reply : Reply) → file_step s FileFinish reply ≡ None)
cannot_finish None facts b f e h = tt
cannot_finish (Some s) facts b f e h = no_finish s facts h (sym e ∙ f)

-- ---- what it can do

both : (a b : Bool) → (a && not b) ≡ true → (a ≡ true) × (b ≡ false)
both true true h = absurd cc
both true false h = (refl, refl)
both false b h = absurd cc

waits_at : (s : Option FileState) → waits_for_label (option_map facts_of s) ≡ true → MatchOption s ⊥ (λ f. (f.hold ≡ true) × (f.opened ≡ false))
waits_at None h = absurd cc
waits_at (Some f) h = both f.hold f.opened h

pub waits : (x : Option (Option FileState)) (facts : Option Facts) (b : Bool) → b ≡ true → b ≡ waits_for_label facts → MatchOption x ⊥ (λ s. facts ≡ option_map facts_of s) → MatchOption x ⊥ (λ s. MatchOption s ⊥ (λ f. (f.hold ≡ true) × (f.opened ≡ false)))
waits None facts b t e h = absurd h
waits (Some s) facts b t e h = waits_at s (sym (ap waits_for_label h) ∙ sym e ∙ t)

held_at : (s : Option FileState) → is_held (option_map facts_of s) ≡ true → MatchOption s ⊥ (λ f. f.hold ≡ true)
held_at None h = absurd cc
held_at (Some f) h = h

pub holds : (x : Option (Option FileState)) (facts : Option Facts) (b : Bool) → b ≡ true → b ≡ is_held facts → MatchOption x ⊥ (λ s. facts ≡ option_map facts_of s) → MatchOption x ⊥ (λ s. MatchOption s ⊥ (λ f. f.hold ≡ true))
holds None facts b t e h = absurd h
holds (Some s) facts b t e h = held_at s (sym (ap is_held h) ∙ sym e ∙ t)

-- ---- what it answers, and gives up

finish_is : (f : FileState) → (v : Reply) → IsFinishAnswer f v → IsFinishReply v
finish_is f Kept h = tt
finish_is f (Gone runs) h = tt
finish_is f v h = absurd h

pub finish_replied : (s : Option (Option FileState)) → (v : Reply) → MatchOption s ⊥ (λ t. MatchOption t ⊥ (λ f. IsFinishAnswer f v)) → IsFinishReply v
finish_replied None v h = absurd h
finish_replied (Some None) v h = absurd h
finish_replied (Some (Some f)) v h = finish_is f v h

given_is : (home : HomeId) → (f : FileState) → (o : Order) → (v : Reply) → f.order ≡ o.0 → IsFinishAnswer f v → IsGivenUp home o v (given_up home f v)
given_is home f o Kept is h = refl
given_is home f o (Gone runs) is h = let es = finmap.entries f.runs in
    (at_runs_begin f home es runs h.1, at_runs_home f home es, at_runs_order f home o es is)
given_is home f o v is h = absurd h

pub finished_says : (s : Option (Option FileState)) → (home own : HomeId) → (o : Order) → (v : Reply) → (old new : List FolioValue) → own ≡ home → old ≡ [] → MatchOption s ⊥ (λ t. IsMemfd (option_map facts_of t) o) → MatchOption s ⊥ (λ t. MatchOption t ⊥ (λ f. IsFinishAnswer f v)) → MatchOption s ⊥ (λ t. MatchOption t ⊥ (λ f. new ≡ old ++ given_up own f v)) → IsGivenUp home o v new
finished_says None home own o v old new same empty m h g = absurd h
finished_says (Some None) home own o v old new same empty m h g = absurd h
finished_says (Some (Some f)) home own o v old new same empty m h g =
    subst (λ (place : HomeId). IsGivenUp place o v new) same
    (subst (IsGivenUp own o v) (sym (g ∙ ap (λ front. front ++ given_up own f v) empty)) (given_is own f o v (ap (λ (x : Order). x.0) m.1) h))

-- ---- the end of a hold on the file in hand, seen from before it was taken

abbrev finished_as : FileNo → Order × Reply → List Deed
finished_as file r = deed_at (file_no file.0) (IsFile file Memfd r.0 ∷ []) FileFinish r.1 ∷ []

module _ (file : FileNo) (at at1 : At) (a a1 a2 : Agent) (o : Object) (opens : Opens at (file_no file.0) a a1 o) (free : a.hands (file_no file.0) ≡ None) where
  pub outer_goes_if : (r : Result (Order × Reply) Stuck) → IfOk r (λ x. Goes (finished_as file x) at at1 (without (file_no file.0) a1) a2) → IfOk r (λ x. Goes (finished_as file x) at at1 a a2)
  outer_goes_if (result.Ok x) g = outer_goes (finished_as file x) at at1 (file_no file.0) a a1 a2 o opens free g
  outer_goes_if (result.Err stuck) g = tt

module _ (at : At) (n : ℕ) (a a1 a2 : Agent) (o : Object) (opens : Opens at n a a1 o) (free : a.hands n ≡ None) (due : Option Turn) where
  pub outer_sticks_if : (r : Result (Order × Reply) Stuck) → IfErr r (λ stuck. Sticks at due stuck (without n a1) a2) → IfErr r (λ stuck. Sticks at due stuck a a2)
  outer_sticks_if (result.Ok x) s = tt
  outer_sticks_if (result.Err stuck) s = outer_stuck due at stuck n a a1 a2 o opens free s
