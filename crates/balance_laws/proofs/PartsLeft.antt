-- The files of a session that leave it, part by part.
use Rattle.std.proofs.Common.{◌≡◌, ◌⊎◌, inl, inr, ℕ, ◌<◌, Bool, true, false, ◌||◌, List, [], ◌∷◌, ◌++◌, map, refl, sym, ap, subst, ◌∙◌, append_assoc}
use Rattle.std.specs.Prelude.{Option, None, Some, is_some, if◌then◌else◌, flat_map}
use Rattle.std.specs.Ordering.{nat_cmp}
use Rattle.std.specs.FinSet as finset
use Rattle.std.proofs.lemmas.Bool.{cases_eq, or_parts}
use Rattle.ho_base.specs.declared.limits.TheConstants.{FILES}
use Rattle.ho_base.specs.declared.numbers.FileNo.{FileNo}
use Rattle.ho_base.specs.declared.numbers.Kind.{Kind}
use Rattle.ho_base.specs.declared.numbers.Order.{Order}
use Rattle.ho_base.specs.declared.numbers.Pfn.{Pfn}
use Rattle.ho_events.specs.File.{FileState, file_step, let_go, unpin_step, runs_of, is_device}
use Rattle.ho_events.specs.Lists.{firsts}
use Rattle.ho_events.specs.Pool.{PoolState, unpin_runs}
use Rattle.ho_events.specs.declared.event.Event.TheVariants.{FileUnpin, FileFinish, PoolGive, PoolUnmark, RegFreeFile, HandlerUnpreserve, HandlerFinish}
use Rattle.ho_events.specs.declared.reply.Reply.{Reply}
use Rattle.ho_events.specs.declared.reply.Reply.TheVariants.{Ok, Kept, KeptRuns, Gone}
use Rattle.ho_world.specs.Acts.{Act, IsFile, pool, registry, file, handler, unless_empty, frame_list, sort_of, AllHold}
use Rattle.ho_world.specs.Balance.{is_pinned, is_held, is_open}
use Rattle.ho_world.specs.Sequences.{Labels}
use Rattle.ho_world.specs.Sequences.Parts.{Part, close_part, finish_part, kept_or_last}
use Rattle.ho_world.specs.World.{State, World}
use Rattle.balance_laws.specs.OneEach.{OneEach}
use Rattle.balance_laws.specs.Parts.{Parts, state_at}
use Rattle.balance_laws.specs.Sound.{SoundBut, FileFits, RunsFit, PinsMatch, run_in, pinned_run, owns}
use Rattle.balance_laws.proofs.Acts.{set_at, set_same, set_other}
use Rattle.balance_laws.proofs.Base.{same_value, not_some, clash, file_view}
use Rattle.balance_laws.proofs.Each.{each_same}
use Rattle.balance_laws.proofs.Giving.{give_all, given_fit, given_each}
use Rattle.balance_laws.proofs.Leaving.{let_kept, let_gone, unpin_kept, unpin_gone, gone_gives, replaced, seen_now, number_freed, pins_stay, pins_less}
use Rattle.balance_laws.proofs.Letting.{freed_is}
use Rattle.balance_laws.proofs.Members.{In}
use Rattle.balance_laws.proofs.Preserves.{IsClaimed, claimed_is}
use Rattle.balance_laws.proofs.Slots.{first_claims}
use Rattle.balance_laws.proofs.Stands.{Stands, PoolCame, FileCame, pool_came, file_came}
use Rattle.balance_laws.proofs.Steps.{only_is, chosen}
use Rattle.balance_laws.proofs.Truncating.{gives_back}

-- parts with another pool, other numbers in use and other files
abbrev pub with_files : Parts → PoolState → finset.FinSet nat_cmp → (ℕ → Option FileState) → Parts
with_files y pool used files = record y { pool = pool; registry = record y.registry { files = used }; files = files }

-- the file numbers of parts
abbrev pub numbers_of : List Part → List ℕ
numbers_of cs = map (λ c. c.number.0) cs

-- the frames are no longer pinned, where there are any
unmarks : (begun : ℕ → State) (y : Parts) (v : World) (o : Order) (runs : List Pfn) (acts : List Act) → Stands begun y (unless_empty runs (pool [] (PoolUnmark o runs) Ok) ++ acts) v
    → Stands begun (record y { pool = record y.pool { pinned = unpin_runs o.0 (firsts runs) y.pool.pinned } }) acts v
unmarks begun y v o [] acts s = s
unmarks begun y v o (r ∷ runs) acts s =
    let c : PoolCame begun y [] (PoolUnmark o (r ∷ runs)) Ok acts v = pool_came begun y v [] (PoolUnmark o (r ∷ runs)) Ok acts s in
    subst (λ q. Stands begun (record y { pool = q }) acts v) (only_is _ _ c.now c.stepped).1 c.then

module _ (begun : ℕ → State) (v : World) (labels : ℕ → Labels) (pinned holding : ℕ → Bool) where
  -- a claim on a file of parts, and none says that it is a device file
  claimed : (y : Parts) → SoundBut y labels pinned holding → (f : FileNo) (k : Kind) (o : Order) → AllHold begun (state_at y) (IsFile f k o ∷ []) → IsClaimed (y.files f.0) k o.0
  claimed y sound f k o h = claimed_is (y.files f.0) k o.0 (ap sort_of (sym (file_view y f.0 sound.last_file)) ∙ h.0)

  pub device_never : (y : Parts) → SoundBut y labels pinned holding → (f : FileNo) (k : Kind) (o : Order) → is_device k ≡ true → AllHold begun (state_at y) (IsFile f k o ∷ []) → ⊥
  device_never y sound f k o d h =
      let c : IsClaimed (y.files f.0) k o.0 = claimed y sound f k o h in
      clash (sym d ∙ ap is_device (sym c.kind ∙ (sound.fit f.0 c.file c.is).kind))

  -- A file left: `gone` isn't seen of it any more, `kept` is seen as before, and the other files are as they were.
  pub record PartLeft (gone kept : Option FileState → Bool) (y : Parts) (n : ℕ) (acts : List Act) : Type 0 where
    pub pool : PoolState
    pub used : finset.FinSet nat_cmp
    pub files : ℕ → Option FileState
    pub sound : SoundBut (with_files y pool used files) labels pinned holding
    pub next : Stands begun (with_files y pool used files) acts v
    pub others : (k : ℕ) → (k ≡ n → ⊥) → files k ≡ y.files k
    pub left : gone (files n) ≡ false
    pub same : kept (files n) ≡ kept (y.files n)

  -- Files left, one after another.
  pub record AllLeft (gone kept : Option FileState → Bool) (y : Parts) (numbers : List ℕ) (acts : List Act) : Type 0 where
    pub pool : PoolState
    pub used : finset.FinSet nat_cmp
    pub files : ℕ → Option FileState
    pub sound : SoundBut (with_files y pool used files) labels pinned holding
    pub next : Stands begun (with_files y pool used files) acts v
    pub still : (k : ℕ) → gone (files k) ≡ true → (gone (y.files k) ≡ true) × (In k numbers → ⊥)
    pub stay : (k : ℕ) → gone (y.files k) ≡ true → (In k numbers → ⊥) → gone (files k) ≡ true
    pub same : (k : ℕ) → kept (files k) ≡ kept (y.files k)

  module _ (gone kept : Option FileState → Bool) (part : Part → List Act) (step : (y : Parts) → SoundBut y labels pinned holding → (c : Part) (acts : List Act) → Stands begun y (part c ++ acts) v → PartLeft gone kept y c.number.0 acts) where
    pub all_left : (cs : List Part) (y : Parts) → SoundBut y labels pinned holding → (acts : List Act) → Stands begun y (flat_map part cs ++ acts) v → AllLeft gone kept y (numbers_of cs) acts
    all_left [] y sound acts s = record { pool = y.pool; used = y.registry.files; files = y.files; sound = sound; next = s; still = λ k h. (h, λ i. i); stay = λ k h out. h; same = λ k. refl }
    all_left (c ∷ cs) y sound acts s =
        let one : PartLeft gone kept y c.number.0 (flat_map part cs ++ acts) = step y sound c (flat_map part cs ++ acts) (subst (λ more. Stands begun y more v) (append_assoc (part c) (flat_map part cs) acts) s) in
        let rest : AllLeft gone kept (with_files y one.pool one.used one.files) (numbers_of cs) acts = all_left cs (with_files y one.pool one.used one.files) one.sound acts one.next in
        record {
          pool = rest.pool;
          used = rest.used;
          files = rest.files;
          sound = rest.sound;
          next = rest.next;
          still = λ k h. (let m = rest.still k h in still k one.files m.0 m.1 (one.files k) one.left (λ ne. one.others k ne) refl (cases_eq k c.number.0));
          stay = λ k h out. rest.stay k (ap gone (one.others k (λ e. out (inl e))) ∙ h) (λ i. out (inr i));
          same = λ k. rest.same k ∙ kept_same k one.files one.same (λ ne. one.others k ne) (cases_eq k c.number.0);
        }
      where
        still : (k : ℕ) (files : ℕ → Option FileState) → gone (files k) ≡ true → (In k (numbers_of cs) → ⊥) → (u : Option FileState) → gone (files c.number.0) ≡ false → ((k ≡ c.number.0 → ⊥) → files k ≡ y.files k) → files k ≡ u
            → (k ≡ c.number.0) ⊎ (k ≡ c.number.0 → ⊥) → (gone (y.files k) ≡ true) × (In k (numbers_of (c ∷ cs)) → ⊥)
        still k files h out u left others e (inl p) = absurd (clash (sym h ∙ ap (λ n. gone (files n)) p ∙ left))
        still k files h out u left others e (inr p) = (ap gone (sym (others p)) ∙ h, neither)
          where
            neither : In k (numbers_of (c ∷ cs)) → ⊥
            neither (inl i) = p i
            neither (inr i) = out i

        kept_same : (k : ℕ) (files : ℕ → Option FileState) → kept (files c.number.0) ≡ kept (y.files c.number.0) → ((k ≡ c.number.0 → ⊥) → files k ≡ y.files k) → (k ≡ c.number.0) ⊎ (k ≡ c.number.0 → ⊥) → kept (files k) ≡ kept (y.files k)
        kept_same k files same others (inl p) = ap (λ n. kept (files n)) p ∙ same ∙ ap (λ n. kept (y.files n)) (sym p)
        kept_same k files same others (inr p) = ap kept (others p)

  -- ---- a file that is let go

  module _ (y : Parts) (sound : SoundBut y labels pinned holding) (f : FileNo) (within : f.0 < FILES) (g : FileState) (is : y.files f.0 ≡ Some g) where
    -- the file stays, without what let it go
    stays_sound : (h : FileState) (pool : PoolState) → run_in (Some h) ≡ run_in (Some g) → FileFits h → h.opened ≡ g.opened → pool.owned ≡ y.pool.owned → pool.shape ≡ y.pool.shape
        → PinsMatch pool (λ k i. pinned_run (set_at f.0 (Some h) y.files k) i) → SoundBut (with_files y pool y.registry.files (set_at f.0 (Some h) y.files)) labels pinned holding
    stays_sound h pool runs fits opened owned shape pins =
        replaced y labels pinned holding sound f.0 within g is (Some h) pool y.registry.files labels
        (subst (λ s. RunsFit s) same (record { each = sound.runs.each; apart = sound.runs.apart }))
        (subst (λ s. OneEach (λ n i. run_in (set_at f.0 (Some h) y.files n) i) (owns s)) same
        (each_same _ _ _ _ sound.owned (λ n i. seen_now y labels pinned holding sound f.0 within g is (Some h) (λ u. run_in u i) (ap (λ r. r i) runs) n) (λ u. refl)))
        pins (λ k e. subst FileFits (same_value h k e) fits) (λ o. sym opened ∙ o)
        (λ n. sound.used n ∙ sym (seen_now y labels pinned holding sound f.0 within g is (Some h) is_some refl n))
        (each_same _ _ _ _ sound.labeled (λ a l. refl) (seen_now y labels pinned holding sound f.0 within g is (Some h) is_open opened))
      where
        same : record y.pool { pinned = pool.pinned } ≡ pool
        same = λ j. record { shape = sym shape j; owned = sym owned j; pinned = pool.pinned }

    -- the file is gone, and the pool has its runs
    gone_sound : (pool : PoolState) → g.opened ≡ false → pool.owned ≡ y.pool.owned → pool.shape ≡ y.pool.shape → PinsMatch pool (λ k i. pinned_run (set_at f.0 None y.files k) i)
        → SoundBut (with_files y (give_all pool (runs_of g)) (finset.remove y.registry.files f.0) (set_at f.0 None y.files)) labels pinned holding
    gone_sound pool closed owned shape pins =
        replaced y labels pinned holding sound f.0 within g is None (give_all pool (runs_of g)) (finset.remove y.registry.files f.0) labels
        (subst (λ s. RunsFit (give_all s (runs_of g))) same (given_fit (record y.pool { pinned = pool.pinned }) (runs_of g) (record { each = sound.runs.each; apart = sound.runs.apart })))
        (subst (λ s. OneEach (λ n i. run_in (set_at f.0 None y.files n) i) (owns (give_all s (runs_of g)))) same
        (given_each (record y.pool { pinned = pool.pinned }) y.files f.0 g is None (runs_of g) (gone_gives g) (each_same _ _ _ _ sound.owned (λ n i. refl) (λ u. refl))))
        (record { pinned = pins.pinned; covered = pins.covered })
        (λ k e. absurd (not_some k e)) (λ o. absurd (clash (sym o)))
        (number_freed y labels pinned holding sound f.0 within g is None refl)
        (each_same _ _ _ _ sound.labeled (λ a l. refl) (seen_now y labels pinned holding sound f.0 within g is None is_open (sym closed)))
      where
        same : record y.pool { pinned = pool.pinned } ≡ pool
        same = λ j. record { shape = sym shape j; owned = sym owned j; pinned = pool.pinned }

  -- ---- the part of `close`

  unpins : (s now : Option FileState) (r : Reply) → file_step s FileUnpin r ≡ Some now → (g : FileState) × (s ≡ Some g) × (g.pin ≡ true) × (unpin_step (record g { pin = false }) r ≡ Some now)
  unpins None now r e = absurd (not_some now e)
  unpins (Some g) now r e = let c = chosen g.pin (unpin_step (record g { pin = false }) r) now e in (g, refl, c.0, c.1)

  without_pin : (g : FileState) → FileFits g → (g.opened || g.hold) ≡ true → FileFits (record g { pin = false })
  without_pin g fits kept = record { kind = fits.kind; order = fits.order; size = fits.size; position = fits.position; below = fits.below; whole = λ h. fits.whole (held g.pin h); kept = regroup g.opened g.hold kept }
    where
      regroup : (p q : Bool) → (p || q) ≡ true → (p || false || q) ≡ true
      regroup true q h = refl
      regroup false q h = h

      held : (b : Bool) → g.hold ≡ true → (b || g.hold) ≡ true
      held true h = refl
      held false h = h

  -- with the tests of its kind and of what becomes of it put in
  abbrev closing : Bool → Bool → Part → List Act
  closing device gone c =
      (if device then handler c.kind (IsFile c.number c.kind c.order ∷ []) (HandlerUnpreserve c.number c.handle) (kept_or_last c.last) ∷ [] else [])
      ++ file c.number (IsFile c.number c.kind c.order ∷ []) FileUnpin (if gone then Gone c.runs else KeptRuns c.runs)
      ∷ (unless_empty ((if device then frame_list c.last else []) ++ c.runs) (pool [] (PoolUnmark c.order ((if device then frame_list c.last else []) ++ c.runs)) Ok)
      ++ (unless_empty ((if device then frame_list c.last else []) ++ (if gone then c.runs else [])) (pool [] (PoolGive c.order ((if device then frame_list c.last else []) ++ (if gone then c.runs else []))) Ok)
      ++ (if gone then registry (RegFreeFile c.number) Ok ∷ [] else [])))

  pub close_left : (y : Parts) → SoundBut y labels pinned holding → (c : Part) (acts : List Act) → Stands begun y (close_part c ++ acts) v → PartLeft is_pinned is_held y c.number.0 acts
  close_left y sound c acts s = by_device (is_device c.kind) refl (by_gone c.gone) s
    where
      kept_left : Stands begun y (closing false false c ++ acts) v → PartLeft is_pinned is_held y c.number.0 acts
      kept_left s =
          let d : FileCame begun y c.number.0 (IsFile c.number c.kind c.order ∷ []) FileUnpin (KeptRuns c.runs) (unless_empty c.runs (pool [] (PoolUnmark c.order c.runs) Ok) ++ ([] ++ []) ++ acts) v =
          file_came begun y v c.number (IsFile c.number c.kind c.order ∷ []) FileUnpin (KeptRuns c.runs) _ s in
          let w = unpins (y.files c.number.0) d.now (KeptRuns c.runs) d.stepped in
          let g : FileState = w.0 in
          let k = unpin_kept (record g { pin = false }) c.runs d.now w.3 in
          let m : IsClaimed (y.files c.number.0) c.kind c.order.0 = claimed y sound c.number c.kind c.order d.claimed in
          let order : c.order.0 ≡ g.order = sym (ap (λ (u : FileState). u.order) (same_value g m.file (sym w.1 ∙ m.is)) ∙ m.order) in
          let marks = unmarks begun (record y { files = set_at c.number.0 d.now y.files }) v c.order c.runs acts (subst (λ more. Stands begun (record y { files = set_at c.number.0 d.now y.files }) more v) (append_assoc _ [] acts) d.then) in
          let h : FileState = record g { pin = false } in
          let fits : FileFits h = without_pin g (sound.fit c.number.0 g w.1) k.0 in
          let p : PoolState = record y.pool { pinned = unpin_runs g.order (runs_of g) y.pool.pinned } in
          record {
            pool = p;
            used = y.registry.files;
            files = set_at c.number.0 (Some h) y.files;
            sound = stays_sound y sound c.number d.below g w.1 h p refl fits refl refl refl (pins_less y labels pinned holding sound c.number.0 d.below g w.1 (Some h) w.2 (λ i. refl));
            next =
                subst (λ u. Stands begun (record y { pool = p; files = set_at c.number.0 u y.files }) acts v) k.2
                (subst (λ u. Stands begun (record y { pool = record y.pool { pinned = unpin_runs g.order u y.pool.pinned }; files = set_at c.number.0 d.now y.files }) acts v) k.1
                (subst (λ u. Stands begun (record y { pool = record y.pool { pinned = unpin_runs u (firsts c.runs) y.pool.pinned }; files = set_at c.number.0 d.now y.files }) acts v) order marks));
            others = λ n ne. set_other c.number.0 (Some h) y.files n ne;
            left = ap is_pinned (set_same c.number.0 (Some h) y.files c.number.0 refl);
            same = ap is_held (set_same c.number.0 (Some h) y.files c.number.0 refl) ∙ ap is_held (sym w.1);
          }

      gone_left : Stands begun y (closing false true c ++ acts) v → PartLeft is_pinned is_held y c.number.0 acts
      gone_left s =
          let d : FileCame begun y c.number.0 (IsFile c.number c.kind c.order ∷ []) FileUnpin (Gone c.runs) ((unless_empty c.runs (pool [] (PoolUnmark c.order c.runs) Ok) ++ (unless_empty c.runs (pool [] (PoolGive c.order c.runs) Ok) ++ registry (RegFreeFile c.number) Ok ∷ [])) ++ acts) v =
          file_came begun y v c.number (IsFile c.number c.kind c.order ∷ []) FileUnpin (Gone c.runs) _ s in
          let w = unpins (y.files c.number.0) d.now (Gone c.runs) d.stepped in
          let g : FileState = w.0 in
          let k = unpin_gone (record g { pin = false }) c.runs d.now w.3 in
          let m : IsClaimed (y.files c.number.0) c.kind c.order.0 = claimed y sound c.number c.kind c.order d.claimed in
          let order : c.order.0 ≡ g.order = sym (ap (λ (u : FileState). u.order) (same_value g m.file (sym w.1 ∙ m.is)) ∙ m.order) in
          let z : Parts = record y { files = set_at c.number.0 d.now y.files } in
          let marks = unmarks begun z v c.order c.runs ((unless_empty c.runs (pool [] (PoolGive c.order c.runs) Ok) ++ registry (RegFreeFile c.number) Ok ∷ []) ++ acts) (subst (λ more. Stands begun z more v) (append_assoc (unless_empty c.runs (pool [] (PoolUnmark c.order c.runs) Ok)) _ acts) d.then) in
          let gives = gives_back begun (record z { pool = record y.pool { pinned = unpin_runs c.order.0 (firsts c.runs) y.pool.pinned } }) v c.order c.runs (registry (RegFreeFile c.number) Ok ∷ acts)
          (subst (λ more. Stands begun (record z { pool = record y.pool { pinned = unpin_runs c.order.0 (firsts c.runs) y.pool.pinned } }) more v) (append_assoc (unless_empty c.runs (pool [] (PoolGive c.order c.runs) Ok)) _ acts) marks) in
          let last = freed_is begun (record z { pool = give_all (record y.pool { pinned = unpin_runs c.order.0 (firsts c.runs) y.pool.pinned }) (firsts c.runs) }) v c.number acts gives in
          let p : PoolState = record y.pool { pinned = unpin_runs g.order (runs_of g) y.pool.pinned } in
          let flags = or_parts g.opened g.hold k.0 in
          record {
            pool = give_all p (runs_of g);
            used = finset.remove y.registry.files c.number.0;
            files = set_at c.number.0 None y.files;
            sound = gone_sound y sound c.number d.below g w.1 p flags.0 refl refl (pins_less y labels pinned holding sound c.number.0 d.below g w.1 None w.2 (λ i. refl));
            next =
                subst (λ u. Stands begun (with_files y (give_all p (runs_of g)) (finset.remove y.registry.files c.number.0) (set_at c.number.0 u y.files)) acts v) k.2
                (subst (λ u. Stands begun (with_files y (give_all (record y.pool { pinned = unpin_runs g.order u y.pool.pinned }) u) (finset.remove y.registry.files c.number.0) (set_at c.number.0 d.now y.files)) acts v) k.1
                (subst (λ u. Stands begun (with_files y (give_all (record y.pool { pinned = unpin_runs u (firsts c.runs) y.pool.pinned }) (firsts c.runs)) (finset.remove y.registry.files c.number.0) (set_at c.number.0 d.now y.files)) acts v) order last));
            others = λ n ne. set_other c.number.0 None y.files n ne;
            left = ap is_pinned (set_same c.number.0 None y.files c.number.0 refl);
            same = ap is_held (set_same c.number.0 None y.files c.number.0 refl) ∙ sym flags.1 ∙ ap is_held (sym w.1);
          }

      by_gone : (b : Bool) → Stands begun y (closing false b c ++ acts) v → PartLeft is_pinned is_held y c.number.0 acts
      by_gone true s = gone_left s
      by_gone false s = kept_left s

      by_device : (b : Bool) → is_device c.kind ≡ b → (Stands begun y (closing false c.gone c ++ acts) v → PartLeft is_pinned is_held y c.number.0 acts) → Stands begun y (closing (is_device c.kind) c.gone c ++ acts) v → PartLeft is_pinned is_held y c.number.0 acts
      by_device true e more s = absurd (device_never y sound c.number c.kind c.order e (first_claims begun y v _ _ (subst (λ b. Stands begun y (closing b c.gone c ++ acts) v) e s)))
      by_device false e more s = more (subst (λ b. Stands begun y (closing b c.gone c ++ acts) v) e s)

  -- ---- the part of `finish`

  finishes : (s now : Option FileState) (r : Reply) → file_step s FileFinish r ≡ Some now → (g : FileState) × (s ≡ Some g) × (g.hold ≡ true) × (let_go (record g { hold = false }) r ≡ Some now)
  finishes None now r e = absurd (not_some now e)
  finishes (Some g) now r e = let c = chosen g.hold (let_go (record g { hold = false }) r) now e in (g, refl, c.0, c.1)

  without_hold : (g : FileState) → FileFits g → (g.opened || g.pin || false) ≡ true → FileFits (record g { hold = false })
  without_hold g fits kept = record { kind = fits.kind; order = fits.order; size = fits.size; position = fits.position; below = fits.below; whole = λ h. fits.whole (held g.pin h); kept = kept }
    where
      held : (b : Bool) → (b || false) ≡ true → (b || g.hold) ≡ true
      held true h = refl
      held false h = absurd (clash (sym h))

  abbrev finishing : Bool → Bool → Part → List Act
  finishing device gone c =
      (if device then handler c.kind (IsFile c.number c.kind c.order ∷ []) (HandlerFinish c.number c.handle) (kept_or_last c.last) ∷ [] else [])
      ++ file c.number (IsFile c.number c.kind c.order ∷ []) FileFinish (if gone then Gone c.runs else Kept)
      ∷ (unless_empty ((if device then frame_list c.last else []) ++ (if gone then c.runs else [])) (pool [] (PoolGive c.order ((if device then frame_list c.last else []) ++ (if gone then c.runs else []))) Ok)
      ++ (if gone then registry (RegFreeFile c.number) Ok ∷ [] else []))

  pub finish_left : (y : Parts) → SoundBut y labels pinned holding → (c : Part) (acts : List Act) → Stands begun y (finish_part c ++ acts) v → PartLeft is_held is_pinned y c.number.0 acts
  finish_left y sound c acts s = by_device (is_device c.kind) refl (by_gone c.gone) s
    where
      kept_left : Stands begun y (finishing false false c ++ acts) v → PartLeft is_held is_pinned y c.number.0 acts
      kept_left s =
          let d : FileCame begun y c.number.0 (IsFile c.number c.kind c.order ∷ []) FileFinish Kept acts v = file_came begun y v c.number (IsFile c.number c.kind c.order ∷ []) FileFinish Kept acts s in
          let w = finishes (y.files c.number.0) d.now Kept d.stepped in
          let g : FileState = w.0 in
          let k = let_kept (record g { hold = false }) d.now w.3 in
          let h : FileState = record g { hold = false } in
          record {
            pool = y.pool;
            used = y.registry.files;
            files = set_at c.number.0 (Some h) y.files;
            sound = stays_sound y sound c.number d.below g w.1 h y.pool refl (without_hold g (sound.fit c.number.0 g w.1) k.0) refl refl refl (pins_stay y labels pinned holding sound c.number.0 d.below g w.1 (Some h) (λ i. refl));
            next = subst (λ u. Stands begun (record y { files = set_at c.number.0 u y.files }) acts v) k.1 d.then;
            others = λ n ne. set_other c.number.0 (Some h) y.files n ne;
            left = ap is_held (set_same c.number.0 (Some h) y.files c.number.0 refl);
            same = ap is_pinned (set_same c.number.0 (Some h) y.files c.number.0 refl) ∙ ap is_pinned (sym w.1);
          }

      gone_left : Stands begun y (finishing false true c ++ acts) v → PartLeft is_held is_pinned y c.number.0 acts
      gone_left s =
          let d : FileCame begun y c.number.0 (IsFile c.number c.kind c.order ∷ []) FileFinish (Gone c.runs) ((unless_empty c.runs (pool [] (PoolGive c.order c.runs) Ok) ++ registry (RegFreeFile c.number) Ok ∷ []) ++ acts) v =
          file_came begun y v c.number (IsFile c.number c.kind c.order ∷ []) FileFinish (Gone c.runs) _ s in
          let w = finishes (y.files c.number.0) d.now (Gone c.runs) d.stepped in
          let g : FileState = w.0 in
          let k = let_gone (record g { hold = false }) c.runs d.now w.3 in
          let z : Parts = record y { files = set_at c.number.0 d.now y.files } in
          let gives = gives_back begun z v c.order c.runs (registry (RegFreeFile c.number) Ok ∷ acts) (subst (λ more. Stands begun z more v) (append_assoc (unless_empty c.runs (pool [] (PoolGive c.order c.runs) Ok)) _ acts) d.then) in
          let last = freed_is begun (record z { pool = give_all y.pool (firsts c.runs) }) v c.number acts gives in
          let flags = or_parts (g.opened || g.pin) false (regroup g.opened g.pin k.0) in
          let both = or_parts g.opened g.pin flags.0 in
          record {
            pool = give_all y.pool (runs_of g);
            used = finset.remove y.registry.files c.number.0;
            files = set_at c.number.0 None y.files;
            sound = gone_sound y sound c.number d.below g w.1 y.pool both.0 refl refl (pins_stay y labels pinned holding sound c.number.0 d.below g w.1 None (λ i. sym (ap (λ b. if b then run_in (Some g) i else None) both.1)));
            next =
                subst (λ u. Stands begun (with_files y (give_all y.pool (runs_of g)) (finset.remove y.registry.files c.number.0) (set_at c.number.0 u y.files)) acts v) k.2
                (subst (λ u. Stands begun (with_files y (give_all y.pool u) (finset.remove y.registry.files c.number.0) (set_at c.number.0 d.now y.files)) acts v) k.1 last);
            others = λ n ne. set_other c.number.0 None y.files n ne;
            left = ap is_held (set_same c.number.0 None y.files c.number.0 refl);
            same = ap is_pinned (set_same c.number.0 None y.files c.number.0 refl) ∙ sym both.1 ∙ ap is_pinned (sym w.1);
          }
        where
          regroup : (p q : Bool) → (p || q || false) ≡ false → ((p || q) || false) ≡ false
          regroup true q h = h
          regroup false true h = h
          regroup false false h = h

      by_gone : (b : Bool) → Stands begun y (finishing false b c ++ acts) v → PartLeft is_held is_pinned y c.number.0 acts
      by_gone true s = gone_left s
      by_gone false s = kept_left s

      by_device : (b : Bool) → is_device c.kind ≡ b → (Stands begun y (finishing false c.gone c ++ acts) v → PartLeft is_held is_pinned y c.number.0 acts) → Stands begun y (finishing (is_device c.kind) c.gone c ++ acts) v → PartLeft is_held is_pinned y c.number.0 acts
      by_device true e more s = absurd (device_never y sound c.number c.kind c.order e (first_claims begun y v _ _ (subst (λ b. Stands begun y (finishing b c.gone c ++ acts) v) e s)))
      by_device false e more s = more (subst (λ b. Stands begun y (finishing b c.gone c ++ acts) v) e s)
