-- The turns of a file.
use Rattle.std.proofs.Common.{◌≡◌, ℕ, ◌+◌, ◌≤◌, Bool, true, false, List, [], ◌∷◌, ◌++◌, length, refl, ap, sym, ◌∙◌, subst, IsTrue, is_some}
use Rattle.std.specs.Prelude.{Option, None, Some}
use Rattle.std.specs.Option.{MatchOption}
use Rattle.std.proofs.lemmas.Option.{same_Some}
use Rattle.ho_base.specs.declared.limits.TheConstants.{MAX_ORDER}
use Rattle.ho_base.specs.declared.numbers.Pfn.{Pfn}
use Rattle.ho_base.specs.declared.numbers.Order.{Order}
use Rattle.ho_base.specs.declared.numbers.Kind.{Kind}
use Rattle.ho_base.specs.declared.numbers.Kind.TheVariants.{Memfd}
use Rattle.phys_frames.specs.Homes.{HomeId}
use Rattle.ho_events.specs.Lists.{only, firsts}
use Rattle.ho_events.specs.File.{FileState, file_step, write_step, truncate_step, seek_step, pin_step, overwritten, touched_holes, filled, new_file}
use Rattle.ho_events.specs.History.{run_from, then_entry, file_from}
use Rattle.ho_events.specs.Slips.{entry_at}
use Rattle.ho_events.specs.declared.slip.At.{At}
use Rattle.ho_events.specs.declared.entry.Place.{Place}
use Rattle.ho_events.specs.declared.entry.Entry.{Entry}
use Rattle.ho_events.specs.declared.event.Event.{Event}
use Rattle.ho_events.specs.declared.event.Event.TheVariants.{FileInit, FileWrite, FileOpenHeld}
use Rattle.ho_events.specs.declared.reply.Reply.{Reply}
use Rattle.ho_events.specs.declared.reply.Reply.TheVariants.{Ok, OkRuns, NoFramesOf, TooBig, SizeFrozen, PastEnd, NotFinished, AlreadyPinned, HandlerFailed}
use Rattle.ho_events.proofs.Runs.{run_push}
use Rattle.file_folios.specs.FileFoliosValues.{FileFoliosValue}
use Rattle.memfd_file.specs.Files.{IsMemfdFile}
use Rattle.memfd_file.specs.FileShown.{shown, IsKept, KeepsFile}

-- a file without entries is absent
pub absent_keeps : (home : HomeId) → KeepsFile None [] home None
unfolding run_from
absent_keeps home = record { replayed = refl; kept = tt }

pub absent_is : MatchOption (file_from None []) ⊥ (λ s. s ≡ None)
unfolding run_from
absent_is = refl

-- a file without entries is as it began
pub begun_keeps : (home : HomeId) (file : Option FileFoliosValue) → IsKept home file → KeepsFile (shown file) [] home file
unfolding run_from
begun_keeps home file kept = record { replayed = refl; kept = kept }

pub begun_is : (s : Option FileState) → MatchOption (file_from s []) ⊥ (λ t. t ≡ s)
unfolding run_from
begun_is s = refl

-- the history is a run
pub keeps_run : (start : Option FileState) (h : List Entry) (home : HomeId) (file : Option FileFoliosValue) → KeepsFile start h home file → IsTrue (is_some (file_from start h))
keeps_run start h home file k = rw k.replayed refl

-- one more entry, by the step that it takes
pub turn_ran : (start : Option FileState) (h h2 : List Entry) (e : Entry) (home : HomeId) (file : Option FileFoliosValue) (event : Event) (reply : Reply) (at : At) (last : ℕ) (object : Place) (s : Option FileState) →
    KeepsFile start h home file → h2 ≡ h ++ e ∷ [] → e ≡ entry_at at last object event reply → file_step (shown file) event reply ≡ Some s → file_from start h2 ≡ Some s
turn_ran start h h2 e home file event reply at last object s k kept told step =
    ap (file_from start) kept ∙ run_push file_step (Some start) h e ∙ ap (λ o. then_entry file_step o e) k.replayed
    ∙ ap (λ d. file_step (shown file) d.event d.reply) told ∙ step

pub turn_noted : (start : Option FileState) (h h2 : List Entry) (e : Entry) (home : HomeId) (file now : Option FileFoliosValue) (event : Event) (reply : Reply) (at : At) (last : ℕ) (object : Place) →
    KeepsFile start h home file → h2 ≡ h ++ e ∷ [] → e ≡ entry_at at last object event reply → file_step (shown file) event reply ≡ Some (shown now) → IsKept home now → KeepsFile start h2 home now
turn_noted start h h2 e home file now event reply at last object k kept told step is = record {
  replayed = turn_ran start h h2 e home file event reply at last object (shown now) k kept told step;
  kept = is;
}

-- the same for a file that is there and stays, by what its event is
pub stays_noted : (start : Option FileState) (h h2 : List Entry) (e : Entry) (home : HomeId) (file : Option FileFoliosValue) (v w : FileFoliosValue) (event same : Event) (reply : Reply) (at : At) (last : ℕ) (object : Place) →
    KeepsFile start h home file → file ≡ Some v → h2 ≡ h ++ e ∷ [] → e ≡ entry_at at last object event reply → event ≡ same → file_step (Some v.state) same reply ≡ Some (Some w.state) → w.home ≡ v.home →
    (IsMemfdFile v.state → IsMemfdFile w.state) → KeepsFile start h2 home (Some w)
stays_noted start h h2 e home file v w event same reply at last object k there kept told is step home_same memfd =
    let was : IsKept home (Some v) = subst (IsKept home) there k.kept in
    turn_noted start h h2 e home file (Some w) event reply at last object k kept told
    (ap (λ o. file_step (shown o) event reply) there ∙ ap (λ x. file_step (Some v.state) x reply) is ∙ step)
    (home_same ∙ was.0, memfd was.1)

-- the folios of a file that is there are of its home
pub home_of : (start : Option FileState) (h : List Entry) (home : HomeId) (file : Option FileFoliosValue) (v : FileFoliosValue) → KeepsFile start h home file → file ≡ Some v → v.home ≡ home
home_of start h home file v k there = let was : IsKept home (Some v) = subst (IsKept home) there k.kept in was.0

-- a step keeps the kind and the order
only_some : {T : Type 0} → (b : Bool) (x y : T) → only b x ≡ Some y → x ≡ y
only_some true x y h = same_Some x y h
only_some false x y h = absurd cc

unchanged : (b : Bool) (f g : FileState) → only b (Some f) ≡ Some (Some g) → f ≡ g
unchanged b f g h = same_Some f g (only_some b (Some f) (Some g) h)

same_kind : (f g : FileState) → f ≡ g → IsMemfdFile f → IsMemfdFile g
same_kind f g e m = subst IsMemfdFile e m

pub memfd_as : (f g : FileState) → f.kind ≡ g.kind → f.order ≡ g.order → IsMemfdFile f → IsMemfdFile g
memfd_as f g kind order m = record { kind = sym kind ∙ m.kind; order = subst (λ n. n ≤ MAX_ORDER) order m.order }

-- the step may change all but the kind and the order
becomes : (b : Bool) (f n g : FileState) → f.kind ≡ n.kind → f.order ≡ n.order → only b (Some n) ≡ Some (Some g) → IsMemfdFile f → IsMemfdFile g
becomes b f n g kind order h m = same_kind n g (unchanged b n g h) (memfd_as f n kind order m)

pub write_keeps : (f g : FileState) (off : ℕ) (new : List ℕ) (fills : List Pfn) (reply : Reply) → write_step f off new fills reply ≡ Some (Some g) → IsMemfdFile f → IsMemfdFile g
write_keeps f g off new fills TooBig h m = becomes _ f f g refl refl h m
write_keeps f g off new fills SizeFrozen h m = becomes _ f f g refl refl h m
write_keeps f g off new fills (NoFramesOf n) h m = becomes _ f f g refl refl h m
write_keeps f g off new fills Ok h m = becomes _ f _ g refl refl h m
write_keeps f g off new fills reply h m = absurd cc

pub truncate_keeps : (f g : FileState) (size : ℕ) (reply : Reply) → truncate_step f size reply ≡ Some (Some g) → IsMemfdFile f → IsMemfdFile g
truncate_keeps f g size TooBig h m = becomes _ f f g refl refl h m
truncate_keeps f g size SizeFrozen h m = becomes _ f f g refl refl h m
truncate_keeps f g size (OkRuns given) h m = becomes _ f _ g refl refl h m
truncate_keeps f g size reply h m = absurd cc

pub seek_keeps : (f g : FileState) (to : ℕ) (reply : Reply) → seek_step f to reply ≡ Some (Some g) → IsMemfdFile f → IsMemfdFile g
seek_keeps f g to Ok h m = becomes _ f _ g refl refl h m
seek_keeps f g to PastEnd h m = becomes _ f f g refl refl h m
seek_keeps f g to reply h m = absurd cc

pub pin_keeps : (f g : FileState) (fills : List Pfn) (reply : Reply) → pin_step f fills reply ≡ Some (Some g) → IsMemfdFile f → IsMemfdFile g
pin_keeps f g fills NotFinished h m = becomes _ f f g refl refl h m
pin_keeps f g fills AlreadyPinned h m = becomes _ f f g refl refl h m
pin_keeps f g fills (NoFramesOf n) h m = becomes _ f f g refl refl h m
pin_keeps f g fills HandlerFailed h m = becomes _ f f g refl refl h m
pin_keeps f g fills (OkRuns runs) h m = becomes _ f _ g refl refl h m
pin_keeps f g fills reply h m = absurd cc

-- a label gets a held file too
pub open_held_step_is : (f : FileState) → f.hold ≡ true → f.opened ≡ false → file_step (Some f) FileOpenHeld Ok ≡ Some (Some (record f { opened = true }))
open_held_step_is f hold opened = rw (hold, opened) refl

-- what holds of the states before and after a turn
pub both_have : (start : Option FileState) (h h2 : List Entry) (home : HomeId) (file : Option FileFoliosValue) (v w : FileFoliosValue) (P : FileState → FileState → Type 0) → KeepsFile start h home file → file ≡ Some v → KeepsFile start h2 home (Some w) →
    P v.state w.state → MatchOption (file_from start h) ⊥ (λ s. MatchOption s ⊥ (λ f. MatchOption (file_from start h2) ⊥ (λ t. MatchOption t ⊥ (λ g. P f g))))
both_have start h h2 home file v w P k there now is = rw (k.replayed, there, now.replayed) is

-- an absent file becomes one
none_of : (file : Option FileFoliosValue) → shown file ≡ None → file ≡ None
none_of None h = refl
none_of (Some v) h = absurd cc

pub absent_shown : (start : Option FileState) (h : List Entry) (home : HomeId) (file : Option FileFoliosValue) → KeepsFile start h home file → MatchOption (file_from start h) ⊥ (λ s. s ≡ None) → file ≡ None
absent_shown start h home file k absent = none_of file (subst (λ o. MatchOption o ⊥ (λ s. s ≡ None)) k.replayed absent)

new_step : (order : Order) → file_step None (FileInit Memfd order 0 []) Ok ≡ Some (Some (new_file Memfd order.0 0 []))
new_step order = refl

pub init_noted : (start : Option FileState) (h h2 : List Entry) (e : Entry) (home : HomeId) (file now : Option FileFoliosValue) (v : FileFoliosValue) (kind : Kind) (order : Order) (size : ℕ) (runs : List Pfn) (at : At) (last : ℕ) (object : Place) →
    KeepsFile start h home file → file ≡ None → now ≡ Some v → kind ≡ Memfd → size ≡ 0 → runs ≡ [] → order.0 ≤ MAX_ORDER → v.state ≡ new_file Memfd order.0 0 [] → v.home ≡ home →
    h2 ≡ h ++ e ∷ [] → e ≡ entry_at at last object (FileInit kind order size runs) Ok → KeepsFile start h2 home now
init_noted start h h2 e home file now v kind order size runs at last object k absent there is none empty small state at_home kept told =
    subst (λ o. KeepsFile start h2 home o) (sym there)
    (turn_noted start h h2 e home file (Some v) (FileInit kind order size runs) Ok at last object k kept told
    (ap (λ o. file_step (shown o) (FileInit kind order size runs) Ok) absent
    ∙ ap (λ m. file_step None (FileInit m order size runs) Ok) is
    ∙ ap (λ n. file_step None (FileInit Memfd order n runs) Ok) none
    ∙ ap (λ r. file_step None (FileInit Memfd order 0 r) Ok) empty
    ∙ new_step order ∙ ap (λ s. Some (Some s)) (sym state))
    (at_home, subst IsMemfdFile (sym state) (record { kind = refl; order = small })))

-- the bytes after a write
pub bytes_after : (f g : FileState) (off : ℕ) (new : List ℕ) (fills : List Pfn) → file_step (Some f) (FileWrite off new fills) Ok ≡ Some (Some g) → g.bytes ≡ overwritten off new f.bytes
bytes_after f g off new fills h =
    sym (ap (λ s. s.bytes) (unchanged _ (record f { bytes = overwritten off new f.bytes; runs = filled (touched_holes f off (length new)) (firsts fills) f.runs }) g h))
