-- `read`, `seek` and `tell` keep a world sound.
use Rattle.std.proofs.Common.{◌≡◌, ℕ, ◌<◌, ◌≤◌, [], length, refl, sym, ap, subst, ◌∙◌}
use Rattle.std.specs.Prelude.{Option, None, Some, nat_le}
use Rattle.std.specs.FinMap as finmap
use Rattle.std.proofs.lemmas.Bool.{leb-true}
use Rattle.ho_base.specs.declared.limits.TheConstants.{FILES}
use Rattle.ho_base.specs.declared.numbers.FileNo.{FileNo}
use Rattle.ho_events.specs.File.{FileState, file_step, read_step, seek_step, tell_step}
use Rattle.ho_events.specs.declared.event.Event.{Event}
use Rattle.ho_events.specs.declared.event.Event.TheVariants.{FileRead, FileSeek, FileTell}
use Rattle.ho_events.specs.declared.reply.Reply.{Reply}
use Rattle.ho_events.specs.declared.reply.Reply.TheVariants.{Ok, OkBytes, OkAt, PastEnd}
use Rattle.ho_world.specs.Acts.{Sequence}
use Rattle.ho_world.specs.Entries.{is_ok}
use Rattle.ho_world.specs.Sequences.{Labels, Outcome, ReadCame, answered}
use Rattle.ho_world.specs.World.{State, World}
use Rattle.balance_laws.specs.Keeps.{ReadKeeps, SeekKeeps, TellKeeps}
use Rattle.balance_laws.specs.Parts.{Parts, parts_of}
use Rattle.balance_laws.specs.Sound.{AreSound, Sound, FileFits, run_in, pinned_run}
use Rattle.balance_laws.proofs.Acts.{set_at, seen_same}
use Rattle.balance_laws.proofs.Base.{same_value, not_some}
use Rattle.balance_laws.proofs.Each.{each_same, pins_same}
use Rattle.balance_laws.proofs.Flags.{file_stays, flags_same}
use Rattle.balance_laws.proofs.Stands.{Stands, FileCame, file_came, stands_end}
use Rattle.balance_laws.proofs.Steps.{only_is, relabel_kept}
use Rattle.balance_laws.proofs.Writing.{on_label_sound}

-- an event with this reply keeps the files of sound parts sound
abbrev KeepsFile : Event → Reply → Type 0
KeepsFile e r = (x : Parts) (labels : ℕ → Labels) → AreSound x labels → (f : ℕ) → f < FILES → (now : Option FileState) → file_step (x.files f) e r ≡ Some now → AreSound (record x { files = set_at f now x.files }) labels

-- one that leaves a file as it was
stays : (e : Event) (r : Reply) → ((s now : Option FileState) → file_step s e r ≡ Some now → now ≡ s) → KeepsFile e r
stays e r same x labels sound f within now h = file_stays x labels sound f within now (same (x.files f) now h)

read_same : (off len : ℕ) (r : Reply) (s now : Option FileState) → file_step s (FileRead off len) r ≡ Some now → now ≡ s
read_same off len r None now e = absurd (not_some now e)
read_same off len r (Some g) now e = at_reply r e
  where
    at_reply : (r : Reply) → read_step g off len r ≡ Some now → now ≡ Some g
    at_reply (OkBytes bytes) e = (only_is _ (Some g) now e).1
    at_reply PastEnd e = (only_is _ (Some g) now e).1
    at_reply r e = absurd (not_some now e)

tell_same : (r : Reply) (s now : Option FileState) → file_step s FileTell r ≡ Some now → now ≡ s
tell_same r None now e = absurd (not_some now e)
tell_same r (Some g) now e = at_reply r e
  where
    at_reply : (r : Reply) → tell_step g r ≡ Some now → now ≡ Some g
    at_reply (OkAt at) e = (only_is _ (Some g) now e).1
    at_reply r e = absurd (not_some now e)

-- another position, within the size
seek_keeps_file : (to : ℕ) (r : Reply) → KeepsFile (FileSeek to) r
seek_keeps_file to r x labels sound f within now h = at_state (x.files f) refl h
  where
    moved_sound : (g : FileState) → x.files f ≡ Some g → to ≤ length g.bytes → AreSound (record x { files = set_at f (Some (record g { position = to })) x.files }) labels
    moved_sound g is le =
        flags_same x labels sound f within g (record g { position = to }) is refl refl refl
        (let fits : FileFits g = sound.fit f g is in record { kind = fits.kind; order = fits.order; size = fits.size; position = le; below = fits.below; whole = fits.whole; kept = fits.kept })
        x.pool sound.runs
        (each_same _ _ _ _ sound.owned (λ k l. seen_same (λ v. run_in v l) f (Some (record g { position = to })) x.files (ap (λ v. run_in v l) (sym is)) k) (λ v. refl))
        (pins_same x.pool _ _ (λ k i. seen_same (λ v. pinned_run v i) f (Some (record g { position = to })) x.files (ap (λ v. pinned_run v i) (sym is)) k) sound.pins)

    at_state : (s : Option FileState) → x.files f ≡ s → file_step s (FileSeek to) r ≡ Some now → AreSound (record x { files = set_at f now x.files }) labels
    at_state None is e = absurd (not_some now e)
    at_state (Some g) is e = at_reply r e
      where
        at_reply : (r : Reply) → seek_step g to r ≡ Some now → AreSound (record x { files = set_at f now x.files }) labels
        at_reply Ok e =
            let put = only_is (nat_le to (length g.bytes)) _ now e in
            subst (λ u. AreSound (record x { files = set_at f u x.files }) labels) (sym put.1) (moved_sound g is (leb-true to (length g.bytes) put.0))
        at_reply PastEnd e = file_stays x labels sound f within now ((only_is _ (Some g) now e).1 ∙ sym is)
        at_reply r e = absurd (not_some now e)

-- an event whose reply is that of its command
answered_sound : (begun : ℕ → State) (x : Parts) (v : World) (labels : ℕ → Labels) (e : Event) (f : FileNo) (outcome : Outcome) (s : Sequence) → ((r : Reply) → KeepsFile e r) → AreSound x labels
    → answered e f outcome ≡ Some s → Stands begun x s.acts v → Sound v labels
answered_sound begun x v labels e f (ReadCame r) s keeps sound h stands =
    let c : FileCame begun x f.0 [] e r [] v = file_came begun x v f [] e r [] (subst (λ (q : Sequence). Stands begun x q.acts v) (sym (same_value _ s h)) stands) in
    stands_end begun (record x { files = set_at f.0 c.now x.files }) v labels c.then (keeps r x labels sound f.0 c.below c.now c.stepped)
answered_sound begun x v labels e f outcome s keeps sound h stands = absurd (not_some s h)

pub read_keeps : ReadKeeps
read_keeps labels a label off len begun w v outcome s sound is acted =
    relabel_kept v labels a (is_ok s.reply)
    (on_label_sound begun (parts_of w) v labels (finmap.get (labels a) label) outcome _ s sound.parts
    (λ f e h stands. answered_sound begun (parts_of w) v labels (FileRead off len) f outcome s (λ r. stays (FileRead off len) r (read_same off len r)) sound.parts h stands)
    is (record { world = w; is = sound.sorts; rest = acted }))

pub seek_keeps : SeekKeeps
seek_keeps labels a label to begun w v outcome s sound is acted =
    relabel_kept v labels a (is_ok s.reply)
    (on_label_sound begun (parts_of w) v labels (finmap.get (labels a) label) outcome _ s sound.parts
    (λ f e h stands. answered_sound begun (parts_of w) v labels (FileSeek to) f outcome s (seek_keeps_file to) sound.parts h stands)
    is (record { world = w; is = sound.sorts; rest = acted }))

pub tell_keeps : TellKeeps
tell_keeps labels a label begun w v outcome s sound is acted =
    relabel_kept v labels a (is_ok s.reply)
    (on_label_sound begun (parts_of w) v labels (finmap.get (labels a) label) outcome _ s sound.parts
    (λ f e h stands. answered_sound begun (parts_of w) v labels FileTell f outcome s (λ r. stays FileTell r (tell_same r)) sound.parts h stands)
    is (record { world = w; is = sound.sorts; rest = acted }))
