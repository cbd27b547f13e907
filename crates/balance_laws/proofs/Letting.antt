-- `closefd` keeps a world sound.
use Rattle.std.proofs.Common.{◌≡◌, ℕ, ◌<◌, Bool, true, false, ◌||◌, List, [], ◌∷◌, ◌++◌, refl, sym, ap, subst, ◌∙◌}
use Rattle.std.specs.Prelude.{Option, None, Some, is_some, if◌then◌else◌}
use Rattle.std.specs.FinMap as finmap
use Rattle.std.specs.FinSet as finset
use Rattle.std.proofs.lemmas.Bool.{or_parts}
use Rattle.ho_base.specs.declared.limits.TheConstants.{FILES}
use Rattle.ho_base.specs.declared.numbers.FileNo.{FileNo}
use Rattle.ho_base.specs.declared.numbers.Kind.{Kind}
use Rattle.ho_base.specs.declared.numbers.Order.{Order}
use Rattle.ho_base.specs.declared.numbers.Pfn.{Pfn}
use Rattle.ho_events.specs.File.{FileState, file_step, let_go, runs_of}
use Rattle.ho_events.specs.Lists.{firsts}
use Rattle.ho_events.specs.declared.command.Command.TheVariants as command
use Rattle.ho_events.specs.declared.event.Event.TheVariants.{FileCloseFd, PoolGive, RegFreeFile}
use Rattle.ho_events.specs.declared.reply.Reply.{Reply}
use Rattle.ho_events.specs.declared.reply.Reply.TheVariants.{Ok, Kept, Gone}
use Rattle.ho_world.specs.Acts.{Act, IsFile, Sequence, pool, registry, file, unless_empty}
use Rattle.ho_world.specs.Balance.{is_pinned, is_held, is_open}
use Rattle.ho_world.specs.Logs.{labels_after}
use Rattle.ho_world.specs.Sequences.{Labels, Outcome, NoFile, CloseFdCame, on_label, closed_fd}
use Rattle.ho_world.specs.Sequences.Files.{LabelKept, LabelGone}
use Rattle.ho_world.specs.World.{State, World}
use Rattle.balance_laws.specs.Keeps.{CloseFdKeeps, relabeled}
use Rattle.balance_laws.specs.OneEach.{OneEach}
use Rattle.balance_laws.specs.Parts.{Parts, parts_of}
use Rattle.balance_laws.specs.Sound.{SoundBut, AreSound, Sound, FileFits, run_in, file_under}
use Rattle.balance_laws.proofs.Acts.{set_at, set_same, set_other}
use Rattle.balance_laws.proofs.Base.{same_value, not_some, clash}
use Rattle.balance_laws.proofs.Each.{each_same}
use Rattle.balance_laws.proofs.Giving.{give_all, given_fit, given_each}
use Rattle.balance_laws.proofs.Leaving.{let_kept, let_gone, gone_gives, label_less, replaced, seen_now, number_freed, pins_stay}
use Rattle.balance_laws.proofs.Stands.{Stands, RegistryCame, FileCame, registry_came, file_came, stands_end}
use Rattle.balance_laws.proofs.Steps.{only_is, chosen, relabel_refused}
use Rattle.balance_laws.proofs.Truncating.{gives_back}

-- where sessions list what files they have, the parts are sound
pub but_sound : (x : Parts) (labels : ℕ → Labels) (pinned holding : ℕ → Bool) → SoundBut x labels pinned holding → ((n : ℕ) → pinned n ≡ is_pinned (x.files n)) → ((n : ℕ) → holding n ≡ is_held (x.files n)) → AreSound x labels
but_sound x labels pinned holding sound pins holds =
    let p : pinned ≡ (λ n. is_pinned (x.files n)) = λ j n. pins n j in
    let h : holding ≡ (λ n. is_held (x.files n)) = λ j n. holds n j in
    subst (λ q. SoundBut x labels q (λ n. is_held (x.files n))) p (subst (λ q. SoundBut x labels pinned q) h sound)

closes : (s now : Option FileState) (r : Reply) → file_step s FileCloseFd r ≡ Some now → (g : FileState) × (s ≡ Some g) × (g.opened ≡ true) × (let_go (record g { opened = false }) r ≡ Some now)
closes None now r e = absurd (not_some now e)
closes (Some g) now r e = let c = chosen g.opened (let_go (record g { opened = false }) r) now e in (g, refl, c.0, c.1)

pub freed_is : (begun : ℕ → State) (y : Parts) (v : World) (f : FileNo) (acts : List Act) → Stands begun y (registry (RegFreeFile f) Ok ∷ acts) v → Stands begun (record y { registry = record y.registry { files = finset.remove y.registry.files f.0 } }) acts v
freed_is begun y v f acts s =
    let c : RegistryCame begun y (RegFreeFile f) Ok acts v = registry_came begun y v (RegFreeFile f) Ok acts s in
    subst (λ g. Stands begun (record y { registry = g }) acts v) (only_is _ _ c.now c.stepped).1 c.then

module _ (begun : ℕ → State) (x : Parts) (v : World) (labels : ℕ → Labels) (sound : AreSound x labels) (a : ℕ) (label : List ℕ) (f : FileNo) (had : finmap.get (labels a) label ≡ Some f) where
  abbrev less : ℕ → Labels
  less = relabeled labels a (finmap.remove (labels a) label)

  labeled_now : (now : Option FileState) → is_open now ≡ false → OneEach (file_under less) (λ n. is_open (set_at f.0 now x.files n))
  labeled_now now closed =
      label_less labels a label f (λ n. is_open (x.files n)) (λ n. is_open (set_at f.0 now x.files n)) had (ap is_open (set_same f.0 now x.files f.0 refl) ∙ closed) (λ n ne. ap is_open (set_other f.0 now x.files n ne)) sound.labeled

  kept_sound : Stands begun x (file f [] FileCloseFd Kept ∷ []) v → Sound v less
  kept_sound s =
      let c : FileCame begun x f.0 [] FileCloseFd Kept [] v = file_came begun x v f [] FileCloseFd Kept [] s in
      let w = closes (x.files f.0) c.now Kept c.stepped in
      let k = let_kept (record w.0 { opened = false }) c.now w.3 in
      stands_end begun (record x { files = set_at f.0 c.now x.files }) v less c.then
      (subst (λ u. AreSound (record x { files = set_at f.0 u x.files }) less) (sym k.1) (stays w.0 w.1 c.below k.0))
    where
      stays : (g : FileState) → x.files f.0 ≡ Some g → f.0 < FILES → (false || g.pin || g.hold) ≡ true → AreSound (record x { files = set_at f.0 (Some (record g { opened = false })) x.files }) less
      stays g is within kept =
          but_sound (record x { files = set_at f.0 (Some (record g { opened = false })) x.files }) less _ _
          (replaced x labels _ _ sound f.0 within g is (Some (record g { opened = false })) x.pool x.registry.files less sound.runs
          (each_same _ _ _ _ sound.owned (λ n i. seen_now x labels _ _ sound f.0 within g is (Some (record g { opened = false })) (λ u. run_in u i) refl n) (λ u. refl))
          (pins_stay x labels _ _ sound f.0 within g is (Some (record g { opened = false })) (λ i. refl))
          (λ h e. subst FileFits (same_value (record g { opened = false }) h e)
          (let fits : FileFits g = sound.fit f.0 g is in record { kind = fits.kind; order = fits.order; size = fits.size; position = fits.position; below = fits.below; whole = fits.whole; kept = kept }))
          (λ h. absurd (clash (sym h)))
          (λ n. sound.used n ∙ sym (seen_now x labels _ _ sound f.0 within g is (Some (record g { opened = false })) is_some refl n))
          (labeled_now (Some (record g { opened = false })) refl))
          (λ n. sym (seen_now x labels _ _ sound f.0 within g is (Some (record g { opened = false })) is_pinned refl n))
          (λ n. sym (seen_now x labels _ _ sound f.0 within g is (Some (record g { opened = false })) is_held refl n))

  gone_sound : (k : Kind) (o : Order) (runs : List Pfn) → Stands begun x (file f (IsFile f k o ∷ []) FileCloseFd (Gone runs) ∷ (unless_empty runs (pool [] (PoolGive o runs) Ok) ++ registry (RegFreeFile f) Ok ∷ [])) v → Sound v less
  gone_sound k o runs s =
      let c : FileCame begun x f.0 (IsFile f k o ∷ []) FileCloseFd (Gone runs) (unless_empty runs (pool [] (PoolGive o runs) Ok) ++ registry (RegFreeFile f) Ok ∷ []) v = file_came begun x v f (IsFile f k o ∷ []) FileCloseFd (Gone runs) _ s in
      let w = closes (x.files f.0) c.now (Gone runs) c.stepped in
      let g : FileState = w.0 in
      let m = let_gone (record g { opened = false }) runs c.now w.3 in
      let given = gives_back begun (record x { files = set_at f.0 c.now x.files }) v o runs (registry (RegFreeFile f) Ok ∷ []) c.then in
      let last = freed_is begun (record x { pool = give_all x.pool (firsts runs); files = set_at f.0 c.now x.files }) v f [] given in
      stands_end begun (record x { pool = give_all x.pool (firsts runs); registry = record x.registry { files = finset.remove x.registry.files f.0 }; files = set_at f.0 c.now x.files }) v less last
      (subst (λ u. AreSound (record x { pool = give_all x.pool (firsts runs); registry = record x.registry { files = finset.remove x.registry.files f.0 }; files = set_at f.0 u x.files }) less) (sym m.2)
      (subst (λ u. AreSound (record x { pool = give_all x.pool u; registry = record x.registry { files = finset.remove x.registry.files f.0 }; files = set_at f.0 None x.files }) less) (sym m.1)
      (goes g w.1 c.below (or_parts g.pin g.hold m.0).0 (or_parts g.pin g.hold m.0).1)))
    where
      goes : (g : FileState) → x.files f.0 ≡ Some g → f.0 < FILES → g.pin ≡ false → g.hold ≡ false
          → AreSound (record x { pool = give_all x.pool (runs_of g); registry = record x.registry { files = finset.remove x.registry.files f.0 }; files = set_at f.0 None x.files }) less
      goes g is within pin hold =
          but_sound (record x { pool = give_all x.pool (runs_of g); registry = record x.registry { files = finset.remove x.registry.files f.0 }; files = set_at f.0 None x.files }) less _ _
          (replaced x labels _ _ sound f.0 within g is None (give_all x.pool (runs_of g)) (finset.remove x.registry.files f.0) less (given_fit x.pool (runs_of g) sound.runs)
          (given_each x.pool x.files f.0 g is None (runs_of g) (gone_gives g) sound.owned)
          (let p = pins_stay x labels _ _ sound f.0 within g is None (λ i. sym (ap (λ b. if b then run_in (Some g) i else None) pin)) in record { pinned = p.pinned; covered = p.covered })
          (λ h e. absurd (not_some h e))
          (λ h. absurd (clash (sym h)))
          (number_freed x labels _ _ sound f.0 within g is None refl)
          (labeled_now None refl))
          (λ n. sym (seen_now x labels _ _ sound f.0 within g is None is_pinned (sym pin) n))
          (λ n. sym (seen_now x labels _ _ sound f.0 within g is None is_held (sym hold) n))

pub close_fd_keeps : CloseFdKeeps
close_fd_keeps labels a label begun w v outcome s sound is acted = by_label (finmap.get (labels a) label) refl outcome is
  where
    by_label : (o : Option FileNo) → finmap.get (labels a) label ≡ o → (outcome : Outcome) → on_label o closed_fd outcome ≡ Some s → Sound v (relabeled labels a (labels_after (labels a) (command.CloseFd label) s))
    by_label None had NoFile e =
        subst (λ q. Sound v (relabeled labels a (labels_after (labels a) (command.CloseFd label) q))) (same_value _ s e)
        (relabel_refused v labels a false (labels a) refl (stands_end begun (parts_of w) v labels (subst (λ (q : Sequence). Stands begun (parts_of w) q.acts v) (sym (same_value _ s e)) (record { world = w; is = sound.sorts; rest = acted })) sound.parts))
    by_label None had outcome e = absurd (not_some s e)
    by_label (Some f) had (CloseFdCame LabelKept) e =
        subst (λ q. Sound v (relabeled labels a (labels_after (labels a) (command.CloseFd label) q))) (same_value _ s e)
        (kept_sound begun (parts_of w) v labels sound.parts a label f had (subst (λ (q : Sequence). Stands begun (parts_of w) q.acts v) (sym (same_value _ s e)) (record { world = w; is = sound.sorts; rest = acted })))
    by_label (Some f) had (CloseFdCame (LabelGone k o runs)) e =
        subst (λ q. Sound v (relabeled labels a (labels_after (labels a) (command.CloseFd label) q))) (same_value _ s e)
        (gone_sound begun (parts_of w) v labels sound.parts a label f had k o runs (subst (λ (q : Sequence). Stands begun (parts_of w) q.acts v) (sym (same_value _ s e)) (record { world = w; is = sound.sorts; rest = acted })))
    by_label (Some f) had outcome e = absurd (not_some s e)
