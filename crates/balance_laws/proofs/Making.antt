-- `memfd` keeps a world sound.
use Rattle.std.proofs.Common.{◌≡◌, ◌⊎◌, inl, inr, ℕ, ◌<◌, ◌≤◌, Bool, true, false, List, [], ◌∷◌, refl, sym, ap, subst, ◌∙◌, arith}
use Rattle.std.specs.Prelude.{Option, None, Some, is_some, option_map}
use Rattle.std.specs.Ordering.{nat_cmp}
use Rattle.std.specs.FinMap as finmap
use Rattle.std.specs.FinSet as finset
use Rattle.std.proofs.lemmas.Bool.{cases_eq}
use Rattle.ho_base.specs.declared.limits.TheConstants.{FILES, MAX_ORDER}
use Rattle.ho_base.specs.declared.numbers.FileNo.{FileNo}
use Rattle.ho_base.specs.declared.numbers.Kind.TheVariants.{Memfd}
use Rattle.ho_base.specs.declared.numbers.Order.{Order}
use Rattle.ho_events.specs.File.{FileState, file_step, new_file}
use Rattle.ho_events.specs.Lists.{upto, is_just}
use Rattle.ho_events.specs.Registry.{RegistryState, new_file_step, least_free_file}
use Rattle.ho_events.specs.Session.{Listed}
use Rattle.ho_events.specs.declared.command.Command.TheVariants as command
use Rattle.ho_events.specs.declared.event.Event.TheVariants.{RegNewFile, FileInit}
use Rattle.ho_events.specs.declared.reply.Reply.TheVariants.{Ok, OkFile, FilesFull}
use Rattle.ho_world.specs.Acts.{Sequence, file}
use Rattle.ho_world.specs.Balance.{is_pinned, is_held, is_open}
use Rattle.ho_world.specs.Logs.{labels_after}
use Rattle.ho_world.specs.Sequences.{Labels, MemfdCame}
use Rattle.ho_world.specs.Sequences.Files.{NoNumber, Made}
use Rattle.balance_laws.specs.Acted.{Acted}
use Rattle.balance_laws.specs.Keeps.{MemfdKeeps, relabeled}
use Rattle.balance_laws.specs.OneEach.{OneEach}
use Rattle.balance_laws.specs.Parts.{Parts, parts_of}
use Rattle.balance_laws.specs.Sound.{AreSound, Sound, FileFits, run_in, pinned_run, file_under, listed_in}
use Rattle.balance_laws.proofs.Acts.{set_at, set_same, set_other, seen_same}
use Rattle.balance_laws.proofs.Base.{same_value, not_some, clash}
use Rattle.balance_laws.proofs.Each.{each_same, each_more, pins_same}
use Rattle.balance_laws.proofs.Maps.{name_at, name_off, names_either, set_put, set_kept}
use Rattle.balance_laws.proofs.Stands.{RegistryCame, FileCame, registry_came, file_came, stands_end}
use Rattle.balance_laws.proofs.Steps.{only_is, relabel_kept}

-- the labels of all agents, with one more
pub label_more : (labels : ℕ → Labels) (a : ℕ) (label : List ℕ) (f : FileNo) (was now : ℕ → Bool) → finmap.get (labels a) label ≡ None → now f.0 ≡ true → was f.0 ≡ false → ((n : ℕ) → (n ≡ f.0) ⊎ (now n ≡ was n))
    → OneEach (file_under labels) was → OneEach (file_under (relabeled labels a (finmap.insert (labels a) label f))) now
label_more labels a label f was now fresh is before others each =
    each_more (file_under labels) (file_under more) was now each a label f.0 (ap number fresh)
    (ap (λ m. number (finmap.get m label)) (set_same a own labels a refl) ∙ ap number (name_at (labels a) label f label refl))
    (λ k l. place k l (cases_eq k a) (names_either l label)) is before others
  where
    number : Option FileNo → Option ℕ
    number o = option_map (λ (g : FileNo). g.0) o

    own : Labels
    own = finmap.insert (labels a) label f

    more : ℕ → Labels
    more = relabeled labels a own

    place : (k : ℕ) (l : List ℕ) → (k ≡ a) ⊎ (k ≡ a → ⊥) → (l ≡ label) ⊎ (l ≡ label → ⊥) → ((k ≡ a) × (l ≡ label)) ⊎ (file_under more k l ≡ file_under labels k l)
    place k l (inl p) (inl q) = inl (p, q)
    place k l (inl p) (inr q) =
        inr (ap (λ m. number (finmap.get m l)) (set_same a own labels k p) ∙ ap number (name_off (labels a) label f l q) ∙ ap (λ b. number (finmap.get (labels b) l)) (sym p))
    place k l (inr p) q = inr (ap (λ m. number (finmap.get m l)) (set_other a own labels k p))

no_runs_yet : (order i : ℕ) → finmap.get (new_file Memfd order 0 []).runs i ≡ None
unfolding upto
no_runs_yet order i = finmap.get-empty nat_cmp i

new_fits : (order : ℕ) → order ≤ MAX_ORDER → FileFits (new_file Memfd order 0 [])
new_fits order le = record {
  kind = refl;
  order = le;
  size = omega arith;
  position = omega arith;
  below = λ i p e. absurd (not_some p (sym (no_runs_yet order i) ∙ e));
  whole = λ h. absurd (clash (sym h));
  kept = refl;
}

-- an absent file alone begins
init_absent : (s now : Option FileState) (o : Order) → file_step s (FileInit Memfd o 0 []) Ok ≡ Some now → (s ≡ None) × (now ≡ Some (new_file Memfd o.0 0 []))
init_absent None now o e = (refl, sym (same_value _ now e))
init_absent (Some f) now o e = absurd (not_some now e)

module _ (x : Parts) (labels : ℕ → Labels) (sound : AreSound x labels) (a : ℕ) (label : List ℕ) (f : FileNo) (order : ℕ) (fresh : finmap.get (labels a) label ≡ None)
    (absent : x.files f.0 ≡ None) (within : f.0 < FILES) (le : order ≤ MAX_ORDER) where
  abbrev made : FileState
  made = new_file Memfd order 0 []

  abbrev files : ℕ → Option FileState
  files = set_at f.0 (Some made) x.files

  abbrev after : Parts
  after = record x { registry = record x.registry { files = finset.insert x.registry.files f.0 }; files = files }

  -- what is seen alike of an absent file and of the new one
  seen : {X : Type 0} (g : Option FileState → X) → g (Some made) ≡ g None → (n : ℕ) → g (files n) ≡ g (x.files n)
  seen g same = seen_same g f.0 (Some made) x.files (same ∙ ap g (sym absent))

  run_none : (i : ℕ) → run_in (Some made) i ≡ None
  run_none i = ap (option_map (λ p. (p, order))) (no_runs_yet order i)

  fit : (n : ℕ) (g : FileState) → (n ≡ f.0) ⊎ (n ≡ f.0 → ⊥) → files n ≡ Some g → FileFits g
  fit n g (inl p) e = subst FileFits (same_value made g (sym (set_same f.0 (Some made) x.files n p) ∙ e)) (new_fits order le)
  fit n g (inr p) e = sound.fit n g (sym (set_other f.0 (Some made) x.files n p) ∙ e)

  untaken : (s t : ℕ) (l : Listed) → (l.file ≡ f.0) ⊎ (l.file ≡ f.0 → ⊥) → listed_in (x.sessions s) t ≡ Some l → l.taken ≡ false → is_open (files l.file) ≡ false
  untaken s t l (inl p) e h =
      let held : is_held (x.files l.file) ≡ true = sound.held.there s t l.file (ap (option_map (λ (y : Listed). y.file)) e) in
      absurd (clash (sym held ∙ ap (λ n. is_held (x.files n)) p ∙ ap is_held absent))
  untaken s t l (inr p) e h = ap is_open (set_other f.0 (Some made) x.files l.file p) ∙ sound.untaken s t l e h

  used : (n : ℕ) → (n ≡ f.0) ⊎ (n ≡ f.0 → ⊥) → finset.contains (finset.insert x.registry.files f.0) n ≡ is_some (files n)
  used n (inl p) = set_put x.registry.files f.0 n p ∙ ap is_some (sym (set_same f.0 (Some made) x.files n p))
  used n (inr p) = set_kept x.registry.files f.0 n p ∙ sound.used n ∙ ap is_some (sym (set_other f.0 (Some made) x.files n p))

  open_now : (n : ℕ) → (n ≡ f.0) ⊎ (n ≡ f.0 → ⊥) → (n ≡ f.0) ⊎ (is_open (files n) ≡ is_open (x.files n))
  open_now n (inl p) = inl p
  open_now n (inr p) = inr (ap is_open (set_other f.0 (Some made) x.files n p))

  made_sound : AreSound after (relabeled labels a (finmap.insert (labels a) label f))
  made_sound = record {
    runs = sound.runs;
    owned = each_same _ _ _ _ sound.owned (λ n i. seen (λ s. run_in s i) (run_none i) n) (λ v. refl);
    pins = pins_same x.pool _ _ (λ n i. seen (λ s. pinned_run s i) refl n) sound.pins;
    fit = λ n g e. fit n g (cases_eq n f.0) e;
    listed = each_same _ _ _ _ sound.listed (λ s t. refl) (λ n. seen is_pinned refl n);
    held = each_same _ _ _ _ sound.held (λ s t. refl) (λ n. seen is_held refl n);
    untaken = λ s t l e h. untaken s t l (cases_eq l.file f.0) e h;
    slots = sound.slots;
    outgoing = sound.outgoing;
    waiting = sound.waiting;
    opened = sound.opened;
    used = λ n. used n (cases_eq n f.0);
    labeled = label_more labels a label f _ _ fresh (ap is_open (set_same f.0 (Some made) x.files f.0 refl)) (ap is_open absent) (λ n. open_now n (cases_eq n f.0)) sound.labeled;
    last_slot = sound.last_slot;
    last_file = λ n more. set_other f.0 (Some made) x.files n (λ same. omega (arith, same, more, within)) ∙ sound.last_file n more;
  }

full_same : (g h : RegistryState) → new_file_step g FilesFull ≡ Some h → h ≡ g
full_same g h e = (only_is _ g h e).1

pub memfd_keeps : MemfdKeeps
memfd_keeps labels a label o fresh le begun w v (MemfdCame NoNumber) s sound is acted =
    subst (λ q. Sound v (relabeled labels a (labels_after (labels a) (command.Memfd label o) q))) (same_value _ s is)
    (relabel_kept v labels a false
    (stands_end begun (record (parts_of w) { registry = c.now }) v labels c.then
    (subst (λ h. AreSound (record (parts_of w) { registry = h }) labels) (sym (full_same (parts_of w).registry c.now c.stepped)) sound.parts)))
  where
    c : RegistryCame begun (parts_of w) RegNewFile FilesFull [] v
    c = registry_came begun (parts_of w) v RegNewFile FilesFull []
        (record { world = w; is = sound.sorts; rest = subst (λ (q : Sequence). Acted begun w q.acts v) (sym (same_value _ s is)) acted })
memfd_keeps labels a label o fresh le begun w v (MemfdCame (Made f)) s sound is acted =
    subst (λ q. Sound v (relabeled labels a (labels_after (labels a) (command.Memfd label o) q))) (same_value _ s is)
    (stands_end begun (record (parts_of w) { registry = c.now; files = set_at f.0 d.now (parts_of w).files }) v (relabeled labels a (finmap.insert (labels a) label f)) d.then
    (subst (λ h. AreSound (record (parts_of w) { registry = h; files = set_at f.0 d.now (parts_of w).files }) (relabeled labels a (finmap.insert (labels a) label f))) (sym put.1)
    (subst (λ u. AreSound (record (parts_of w) { registry = record (parts_of w).registry { files = finset.insert (parts_of w).registry.files f.0 }; files = set_at f.0 u (parts_of w).files }) (relabeled labels a (finmap.insert (labels a) label f))) (sym began.1)
    (made_sound (parts_of w) labels sound.parts a label f o.0 fresh began.0 d.below le))))
  where
    c : RegistryCame begun (parts_of w) RegNewFile (OkFile f) (file f [] (FileInit Memfd o 0 []) Ok ∷ []) v
    c = registry_came begun (parts_of w) v RegNewFile (OkFile f) _
        (record { world = w; is = sound.sorts; rest = subst (λ (q : Sequence). Acted begun w q.acts v) (sym (same_value _ s is)) acted })

    d : FileCame begun (record (parts_of w) { registry = c.now }) f.0 [] (FileInit Memfd o 0 []) Ok [] v
    d = file_came begun (record (parts_of w) { registry = c.now }) v f [] (FileInit Memfd o 0 []) Ok [] c.then

    put : (is_just f.0 (least_free_file (parts_of w).registry.files) ≡ true) × (c.now ≡ record (parts_of w).registry { files = finset.insert (parts_of w).registry.files f.0 })
    put = only_is _ _ c.now c.stepped

    began : ((parts_of w).files f.0 ≡ None) × (d.now ≡ Some (new_file Memfd o.0 0 []))
    began = init_absent ((parts_of w).files f.0) d.now o d.stepped
memfd_keeps labels a label o fresh le begun w v outcome s sound is acted = absurd (not_some s is)
