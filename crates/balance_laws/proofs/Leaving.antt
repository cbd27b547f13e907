-- A file that a label or a session lets go: it stays without that, or is gone with its runs.
use Rattle.std.proofs.Common.{◌≡◌, ◌⊎◌, inl, inr, ℕ, ◌+◌, ◌^◌, ◌<◌, Bool, true, false, not, ◌&&◌, ◌||◌, List, refl, sym, ap, subst, ◌∙◌, arith}
use Rattle.std.specs.Prelude.{Option, None, Some, is_some, option_map, if◌then◌else◌}
use Rattle.std.specs.FinMap as finmap
use Rattle.std.specs.FinSet as finset
use Rattle.std.specs.Ordering.{nat_cmp}
use Rattle.std.proofs.lemmas.Bool.{and_parts, cases_eq, not-true}
use Rattle.ho_base.specs.declared.limits.TheConstants.{FILES}
use Rattle.ho_base.specs.declared.numbers.FileNo.{FileNo}
use Rattle.ho_base.specs.declared.numbers.Pfn.{Pfn}
use Rattle.ho_events.specs.File.{FileState, runs_of, let_go, unpin_step}
use Rattle.ho_events.specs.Lists.{firsts, same_bytes}
use Rattle.ho_events.specs.Pool.{PoolState, unpin_runs}
use Rattle.ho_events.specs.declared.reply.Reply.TheVariants.{Kept, KeptRuns, Gone}
use Rattle.ho_world.specs.Balance.{is_open}
use Rattle.ho_world.specs.Sequences.{Labels}
use Rattle.balance_laws.specs.Keeps.{relabeled}
use Rattle.balance_laws.specs.OneEach.{OneEach}
use Rattle.balance_laws.specs.Parts.{Parts}
use Rattle.balance_laws.specs.Sound.{SoundBut, FileFits, RunsFit, PinsMatch, IsCovered, owns, run_in, pinned_run, file_under}
use Rattle.balance_laws.proofs.Acts.{set_at, set_same, set_other}
use Rattle.balance_laws.proofs.Base.{same_value, not_some, clash}
use Rattle.balance_laws.proofs.Each.{each_less, pins_same}
use Rattle.balance_laws.proofs.Giving.{GivesUp, owned_at}
use Rattle.balance_laws.proofs.Maps.{name_cut, name_left, names_either, set_cut, set_left}
use Rattle.balance_laws.proofs.Members.{In, OneHolds, runs_left, runs_stay, value_at, value_in, same_list}
use Rattle.balance_laws.proofs.Steps.{only_is}

-- ---- the replies

pub let_kept : (g : FileState) (now : Option FileState) → let_go g Kept ≡ Some now → ((g.opened || g.pin || g.hold) ≡ true) × (now ≡ Some g)
let_kept g now e = only_is (g.opened || g.pin || g.hold) (Some g) now e

pub let_gone : (g : FileState) (runs : List Pfn) (now : Option FileState) → let_go g (Gone runs) ≡ Some now → ((g.opened || g.pin || g.hold) ≡ false) × (firsts runs ≡ runs_of g) × (now ≡ None)
let_gone g runs now e =
    let put = only_is (not (g.opened || g.pin || g.hold) && same_bytes (firsts runs) (runs_of g)) None now e in
    let a = and_parts (not (g.opened || g.pin || g.hold)) (same_bytes (firsts runs) (runs_of g)) put.0 in
    (not-true (g.opened || g.pin || g.hold) a.0, same_list (firsts runs) (runs_of g) a.1, put.1)

pub unpin_kept : (g : FileState) (runs : List Pfn) (now : Option FileState) → unpin_step g (KeptRuns runs) ≡ Some now → ((g.opened || g.hold) ≡ true) × (firsts runs ≡ runs_of g) × (now ≡ Some g)
unpin_kept g runs now e =
    let put = only_is ((g.opened || g.hold) && same_bytes (firsts runs) (runs_of g)) (Some g) now e in
    let a = and_parts (g.opened || g.hold) (same_bytes (firsts runs) (runs_of g)) put.0 in
    (a.0, same_list (firsts runs) (runs_of g) a.1, put.1)

pub unpin_gone : (g : FileState) (runs : List Pfn) (now : Option FileState) → unpin_step g (Gone runs) ≡ Some now → ((g.opened || g.hold) ≡ false) × (firsts runs ≡ runs_of g) × (now ≡ None)
unpin_gone g runs now e =
    let put = only_is (not (g.opened || g.hold) && same_bytes (firsts runs) (runs_of g)) None now e in
    let a = and_parts (not (g.opened || g.hold)) (same_bytes (firsts runs) (runs_of g)) put.0 in
    (not-true (g.opened || g.hold) a.0, same_list (firsts runs) (runs_of g) a.1, put.1)

-- a file that is gone gives up all its runs
pub gone_gives : (g : FileState) → GivesUp g None (runs_of g)
gone_gives g = record {
  gone = λ p m. (let k = value_at g.runs p m in (k.0, k.1, refl));
  old = λ i v e. absurd (not_some v e);
  stay = λ i v e out. absurd (stays i v e (finmap.get g.runs i) refl out);
}
  where
    stays : (i : ℕ) (v : ℕ × ℕ) → run_in (Some g) i ≡ Some v → (o : Option ℕ) → finmap.get g.runs i ≡ o → (In v.0 (runs_of g) → ⊥) → ⊥
    stays i v e None is out = not_some v (sym (ap (option_map (λ r. (r, g.order))) is) ∙ e)
    stays i v e (Some p) is out =
        let same : (p, g.order) ≡ v = same_value (p, g.order) v (sym (ap (option_map (λ r. (r, g.order))) is) ∙ e) in
        out (subst (λ (y : ℕ × ℕ). In y.0 (runs_of g)) same (value_in g.runs i p is))

-- ---- labels with one less

pub label_less : (labels : ℕ → Labels) (a : ℕ) (label : List ℕ) (f : FileNo) (was now : ℕ → Bool) → finmap.get (labels a) label ≡ Some f → now f.0 ≡ false → ((n : ℕ) → (n ≡ f.0 → ⊥) → now n ≡ was n)
    → OneEach (file_under labels) was → OneEach (file_under (relabeled labels a (finmap.remove (labels a) label))) now
label_less labels a label f was now had closed others each =
    each_less (file_under labels) (file_under less) was now each
    (λ k l v e. stayed k l v e (cases_eq k a) (names_either l label))
    (λ k l v e h. stays k l v e (not_it v h) (cases_eq k a) (names_either l label))
    (λ v h. sym (others v (not_it v h)) ∙ h)
  where
    number : Option FileNo → Option ℕ
    number o = option_map (λ (g : FileNo). g.0) o

    own : Labels
    own = finmap.remove (labels a) label

    less : ℕ → Labels
    less = relabeled labels a own

    not_it : (v : ℕ) → now v ≡ true → v ≡ f.0 → ⊥
    not_it v h e = clash (sym h ∙ ap now e ∙ closed)

    old_is : (k : ℕ) (l : List ℕ) (v : ℕ) → file_under labels k l ≡ Some v → ((k ≡ a) → (l ≡ label) → ⊥) → (file_under labels k l ≡ Some v) × (now v ≡ true)
    old_is k l v e apart =
        (e, others v (λ same. (let one : (k ≡ a) × (l ≡ label) = each.once k a l label f.0 (e ∙ ap Some same) (ap number had) in apart one.0 one.1)) ∙ each.there k l v e)

    stayed : (k : ℕ) (l : List ℕ) (v : ℕ) → file_under less k l ≡ Some v → (k ≡ a) ⊎ (k ≡ a → ⊥) → (l ≡ label) ⊎ (l ≡ label → ⊥) → (file_under labels k l ≡ Some v) × (now v ≡ true)
    stayed k l v e (inl p) (inl q) = absurd (not_some v (sym (ap (λ m. number (finmap.get m l)) (set_same a own labels k p) ∙ ap number (name_cut (labels a) label l q)) ∙ e))
    stayed k l v e (inl p) (inr q) =
        old_is k l v (ap (λ b. number (finmap.get (labels b) l)) p ∙ sym (ap (λ m. number (finmap.get m l)) (set_same a own labels k p) ∙ ap number (name_left (labels a) label l q)) ∙ e) (λ _ s. q s)
    stayed k l v e (inr p) q = old_is k l v (sym (ap (λ m. number (finmap.get m l)) (set_other a own labels k p)) ∙ e) (λ s _. p s)

    stays : (k : ℕ) (l : List ℕ) (v : ℕ) → file_under labels k l ≡ Some v → (v ≡ f.0 → ⊥) → (k ≡ a) ⊎ (k ≡ a → ⊥) → (l ≡ label) ⊎ (l ≡ label → ⊥) → file_under less k l ≡ Some v
    stays k l v e ne (inl p) (inl q) =
        absurd (ne (same_value v f.0 (sym e ∙ ap (λ b. number (finmap.get (labels b) l)) p ∙ ap (λ m. number (finmap.get (labels a) m)) q ∙ ap number had)))
    stays k l v e ne (inl p) (inr q) =
        ap (λ m. number (finmap.get m l)) (set_same a own labels k p) ∙ ap number (name_left (labels a) label l q) ∙ ap (λ b. number (finmap.get (labels b) l)) (sym p) ∙ e
    stays k l v e ne (inr p) q = ap (λ m. number (finmap.get m l)) (set_other a own labels k p) ∙ e

-- ---- a file in place of another, or none

module _ (x : Parts) (labels : ℕ → Labels) (pinned holding : ℕ → Bool) (sound : SoundBut x labels pinned holding) (f : ℕ) (within : f < FILES) (g : FileState) (is : x.files f ≡ Some g) (now : Option FileState) where
  abbrev files_now : ℕ → Option FileState
  files_now = set_at f now x.files

  pub replaced : (pool : PoolState) (used : finset.FinSet nat_cmp) (labels' : ℕ → Labels) → RunsFit pool → OneEach (λ k i. run_in (files_now k) i) (owns pool) → PinsMatch pool (λ k i. pinned_run (files_now k) i)
      → ((h : FileState) → now ≡ Some h → FileFits h) → (is_open now ≡ true → g.opened ≡ true) → ((n : ℕ) → finset.contains used n ≡ is_some (files_now n)) → OneEach (file_under labels') (λ n. is_open (files_now n))
      → SoundBut (record x { pool = pool; registry = record x.registry { files = used }; files = files_now }) labels' pinned holding
  replaced pool used labels' runs owned pins fits open_before are_used labeled = record {
    runs = runs;
    owned = owned;
    pins = pins;
    fit = λ n h e. fit n h (cases_eq n f) e;
    listed = sound.listed;
    held = sound.held;
    untaken = λ s t l e h. untaken l.file (cases_eq l.file f) (sound.untaken s t l e h);
    slots = sound.slots;
    outgoing = sound.outgoing;
    waiting = sound.waiting;
    opened = sound.opened;
    used = are_used;
    labeled = labeled;
    last_slot = sound.last_slot;
    last_file = λ n beyond. set_other f now x.files n (λ same. omega (arith, same, beyond, within)) ∙ sound.last_file n beyond;
  }
    where
      fit : (n : ℕ) (h : FileState) → (n ≡ f) ⊎ (n ≡ f → ⊥) → files_now n ≡ Some h → FileFits h
      fit n h (inl p) e = fits h (sym (set_same f now x.files n p) ∙ e)
      fit n h (inr p) e = sound.fit n h (sym (set_other f now x.files n p) ∙ e)

      untaken : (n : ℕ) → (n ≡ f) ⊎ (n ≡ f → ⊥) → is_open (x.files n) ≡ false → is_open (files_now n) ≡ false
      untaken n (inl p) h = ap is_open (set_same f now x.files n p) ∙ by_open (is_open now) refl
        where
          by_open : (b : Bool) → is_open now ≡ b → is_open now ≡ false
          by_open true e = absurd (clash (sym (open_before e) ∙ ap is_open (sym is) ∙ ap (λ k. is_open (x.files k)) (sym p) ∙ h))
          by_open false e = e
      untaken n (inr p) h = ap is_open (set_other f now x.files n p) ∙ h

  -- what is seen of all files, where it is the same of the new one
  pub seen_now : {X : Type 0} (see : Option FileState → X) → see now ≡ see (Some g) → (n : ℕ) → see (files_now n) ≡ see (x.files n)
  seen_now see same n = by_case (cases_eq n f)
    where
      by_case : (n ≡ f) ⊎ (n ≡ f → ⊥) → see (files_now n) ≡ see (x.files n)
      by_case (inl p) = ap see (set_same f now x.files n p) ∙ same ∙ ap see (sym is) ∙ ap (λ k. see (x.files k)) (sym p)
      by_case (inr p) = ap see (set_other f now x.files n p)

  -- the numbers in use, where the file is gone
  pub number_freed : now ≡ None → (n : ℕ) → finset.contains (finset.remove x.registry.files f) n ≡ is_some (files_now n)
  number_freed gone n = by_case (cases_eq n f)
    where
      by_case : (n ≡ f) ⊎ (n ≡ f → ⊥) → finset.contains (finset.remove x.registry.files f) n ≡ is_some (files_now n)
      by_case (inl p) = set_cut x.registry.files f n p ∙ ap is_some (sym (set_same f now x.files n p ∙ gone))
      by_case (inr p) = set_left x.registry.files f n p ∙ sound.used n ∙ ap is_some (sym (set_other f now x.files n p))

  -- a file that isn't pinned goes, or stays so
  pub pins_stay : ((i : ℕ) → pinned_run now i ≡ pinned_run (Some g) i) → PinsMatch x.pool (λ k i. pinned_run (files_now k) i)
  pins_stay same = pins_same x.pool _ _ (λ k i. seen_now (λ v. pinned_run v i) (same i) k) sound.pins

  -- a pinned file goes, or stays without that: its frames are unpinned
  pub pins_less : g.pin ≡ true → ((i : ℕ) → pinned_run now i ≡ None) → PinsMatch (record x.pool { pinned = unpin_runs g.order (runs_of g) x.pool.pinned }) (λ k i. pinned_run (files_now k) i)
  pins_less pin none = record {
    pinned = λ q h. (let m = runs_stay g.order (runs_of g) x.pool.pinned q h in let c : IsCovered (λ k i. pinned_run (x.files k) i) q = sound.pins.pinned q m.0 in still q c m.1 (cases_eq c.file f));
    covered = λ q c. (let o = old q c (cases_eq c.file f) in runs_left g.order (runs_of g) x.pool.pinned q (sound.pins.covered q o.0) (λ h. o.1 h));
  }
    where
      -- a pinned run is a run
      plain : (u : Option FileState) (i : ℕ) (r : ℕ × ℕ) → pinned_run u i ≡ Some r → run_in u i ≡ Some r
      plain None i r e = e
      plain (Some h) i r e = by_pin h.pin refl
        where
          by_pin : (b : Bool) → h.pin ≡ b → run_in (Some h) i ≡ Some r
          by_pin true p = ap (λ c. if c then run_in (Some h) i else None) (sym p) ∙ e
          by_pin false p = absurd (not_some r (ap (λ c. if c then run_in (Some h) i else None) (sym p) ∙ e))

      -- a run of the file holds the frame, where the file's pinned runs do
      holds : (q i : ℕ) (r : ℕ × ℕ) → run_in (Some g) i ≡ Some r → (j : ℕ) → j < 2 ^ r.1 → q ≡ r.0 + j → (o : Option ℕ) → finmap.get g.runs i ≡ o → OneHolds g.order (runs_of g) q
      holds q i r e j less frame None k = absurd (not_some r (sym (ap (option_map (λ p. (p, g.order))) k) ∙ e))
      holds q i r e j less frame (Some p) k =
          let same : (p, g.order) ≡ r = same_value (p, g.order) r (sym (ap (option_map (λ p. (p, g.order))) k) ∙ e) in
          record { run = p; is = value_in g.runs i p k; holds = record { offset = j; below = subst (λ (y : ℕ × ℕ). j < 2 ^ y.1) (sym same) less; frame = frame ∙ ap (λ (y : ℕ × ℕ). y.0 + j) (sym same) } }

      still : (q : ℕ) → (c : IsCovered (λ k i. pinned_run (x.files k) i) q) → (OneHolds g.order (runs_of g) q → ⊥) → (c.file ≡ f) ⊎ (c.file ≡ f → ⊥) → IsCovered (λ k i. pinned_run (files_now k) i) q
      still q c out (inl p) =
          absurd (out (holds q c.index c.run (plain (Some g) c.index c.run (ap (λ v. pinned_run v c.index) (sym is) ∙ ap (λ n. pinned_run (x.files n) c.index) (sym p) ∙ c.is)) c.offset c.below c.frame (finmap.get g.runs c.index) refl))
      still q c out (inr p) = record { file = c.file; index = c.index; run = c.run; is = ap (λ v. pinned_run v c.index) (set_other f now x.files c.file p) ∙ c.is; offset = c.offset; below = c.below; frame = c.frame }

      old : (q : ℕ) → (c : IsCovered (λ k i. pinned_run (files_now k) i) q) → (c.file ≡ f) ⊎ (c.file ≡ f → ⊥) → IsCovered (λ k i. pinned_run (x.files k) i) q × (OneHolds g.order (runs_of g) q → ⊥)
      old q c (inl p) = absurd (not_some c.run (sym (ap (λ v. pinned_run v c.index) (set_same f now x.files c.file p) ∙ none c.index) ∙ c.is))
      old q c (inr p) =
          (record { file = c.file; index = c.index; run = c.run; is = before; offset = c.offset; below = c.below; frame = c.frame }, apart)
        where
          before : pinned_run (x.files c.file) c.index ≡ Some c.run
          before = ap (λ v. pinned_run v c.index) (sym (set_other f now x.files c.file p)) ∙ c.is

          apart : OneHolds g.order (runs_of g) q → ⊥
          apart h =
              let at : (k : ℕ) × (finmap.get g.runs k ≡ Some h.run) = value_at g.runs h.run h.is in
              let mine : run_in (x.files f) at.0 ≡ Some (h.run, g.order) = ap (λ v. run_in v at.0) is ∙ ap (option_map (λ p. (p, g.order))) at.1 in
              let its : run_in (x.files c.file) c.index ≡ Some c.run = plain (x.files c.file) c.index c.run before in
              let own_mine : finmap.get x.pool.owned h.run ≡ Some g.order = owned_at x.pool (h.run, g.order) (sound.owned.there f at.0 (h.run, g.order) mine) in
              let own_its : finmap.get x.pool.owned c.run.0 ≡ Some c.run.1 = owned_at x.pool c.run (sound.owned.there c.file c.index c.run its) in
              let first : c.run.0 ≡ h.run = sound.runs.apart c.run.0 c.run.1 h.run g.order c.offset h.holds.offset own_its own_mine c.below h.holds.below (sym c.frame ∙ h.holds.frame) in
              let order : c.run.1 ≡ g.order = same_value c.run.1 g.order (sym own_its ∙ ap (finmap.get x.pool.owned) first ∙ own_mine) in
              let both : (c.file ≡ f) × (c.index ≡ at.0) = sound.owned.once c.file f c.index at.0 c.run its (mine ∙ ap Some (λ j. (sym first j, sym order j))) in
              p both.0
