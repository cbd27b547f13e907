-- What is known of a kernel whose world is sound.
use Rattle.std.proofs.Common.{◌≡◌, ◌≢◌, ℕ, ◌+◌, ◌-◌, ◌%◌, ◌^◌, ◌<◌, Bool, true, false, T, List, [], ◌∷◌, ◌++◌, map, length, get_or, zero, suc, refl, ap, sym, ◌∙◌, subst, arith, inl, inr, cond, IsTrue}
use Rattle.std.specs.Prelude.{Option, None, Some, ◌||◌, nat_lt, is_some, option_map}
use Rattle.std.specs.Option.{IsSome}
use Rattle.std.specs.Cmp.Lexicographic.{slice_cmp, nat_list_cmp_total}
use Rattle.std.specs.Cmp.{nat_cmp_total}
use Rattle.std.specs.FinMap as finmap
use Rattle.std.specs.FinMap.{is_sorted}
use Rattle.std.specs.List.{All, AllByRecursion}
use Rattle.std.specs.Ordering.{nat_cmp}
use Rattle.std.proofs.lemmas.Bool.{lt-ltb}
use Rattle.std.proofs.lemmas.Bool.Decides.{nat_tests}
use Rattle.std.proofs.lemmas.Nat.{pow_pos}
use Rattle.ho_base.specs.NameRule.{is_name}
use Rattle.ho_base.specs.ShapeRule.{Layout, is_layout}
use Rattle.ho_base.specs.Objects.{pool_no, registry_no, session_no, file_no}
use Rattle.ho_base.specs.declared.limits.TheConstants.{FILES, IN_SLOTS, OUT_SLOTS}
use Rattle.ho_events.specs.Contents.{Reference, reference_of}
use Rattle.ho_events.specs.File.{FileState, index_bytes}
use Rattle.ho_events.specs.Lists.{pieces}
use Rattle.ho_events.specs.Pool.{is_owned, run_start}
use Rattle.ho_events.specs.Registry.{RegistryState}
use Rattle.ho_events.specs.Session.{Listed, SessionState, Free, In, Out, files_of}
use Rattle.ho_world.specs.Frozen.{CarriedFile as FileCarried, CarriedSession as SessionCarried, frozen, listed_carried, session_carried}
use Rattle.ho_world.specs.Sequences.{Labels}
use Rattle.ho_world.specs.World.{State, World, PoolIn, RegistryIn, HandlerIn, SessionIn, FileIn, Nothing, file_at, file_in, pool_at, pool_in, registry_at, registry_in, session_at, session_in}
use Rattle.machine_core.specs.Gathered.{IsFrameOfFile}
use Rattle.machine_core.specs.declared.object.Object as object
use Rattle.machine_core.specs.Kernels.{KernelValue, object_at}
use Rattle.machine_core.specs.Worlds.{state_of}
use Rattle.record_frames.specs.Ram.{Ram}
use Rattle.record_frames.specs.State.{file_in as file_held, session_in as session_held, state_in}
use Rattle.record_frames.specs.Writing.{files_in}
use Rattle.record_frames.specs.declared.carried.Carried.{Carried}
use Rattle.record_frames.specs.declared.carried.CarriedFile.{CarriedFile}
use Rattle.record_frames.specs.declared.carried.CarriedSession.{CarriedSession}
use Rattle.kho_laws.specs.Carrying.{can_be_carried}
use Rattle.balance_laws.specs.Parts.{Parts, parts_of, state_at}
use Rattle.balance_laws.specs.Sound.{FileFits, Sound, listed_out, name_out, run_in}
use Rattle.balance_laws.proofs.Base.{clash, not_some, same_value}
use Rattle.balance_laws.proofs.Carried.{Member, found_of, has_file}
use Rattle.balance_laws.proofs.Members.{sorted_true}
use Rattle.balance_laws.proofs.Numbers.{all_mapped, all_weaker}
use Rattle.kernel_carried.specs.Gathered.{Agrees, AreFilesOf, AreMemfds, AreSessionsOf, HasAllRuns, HaveSlots, HoldsFilesIn, IsGathered, ListsWhole, listed_in}
use Rattle.sound_carried.specs.Fitting.{CarriedIsFit}
use Rattle.freeze_path.specs.Ready.{HasPool, HaveSessions, IsSoundKernel, OwnsRuns}
use Rattle.freeze_path.proofs.Entries.{pool_state}
use Rattle.freeze_path.proofs.Holding.{HoldAll, Owner, hold_all, owner_of, place_of}
use Rattle.kernel_carried.proofs.Laws.{carried_is}

-- ---- files with all their runs

-- a pinned file has a run at each index of its bytes, and at no other
whole : (g : FileState) → FileFits g → g.pin ≡ true → HasAllRuns (Some g)
whole g fits pin i = by_place (nat_lt i (pieces (length g.bytes) (index_bytes g))) refl
  where
    none : (x : Option ℕ) → finmap.get g.runs i ≡ x → nat_lt i (pieces (length g.bytes) (index_bytes g)) ≡ false → is_some x ≡ false
    none None e past = refl
    none (Some p) e past = absurd (clash (sym (lt-ltb i (pieces (length g.bytes) (index_bytes g)) (fits.below i p e)) ∙ past))

    by_place : (b : Bool) → nat_lt i (pieces (length g.bytes) (index_bytes g)) ≡ b → finmap.contains_key g.runs i ≡ nat_lt i (pieces (length g.bytes) (index_bytes g))
    by_place true e = fits.whole (ap (λ b. b || g.hold) pin) i (grind (arith, nat_tests, e)) ∙ sym e
    by_place false e = none (finmap.get g.runs i) refl e ∙ sym e

sorted_names : (m : finmap.FinMap (slice_cmp nat_cmp) ℕ) → is_sorted (slice_cmp nat_cmp) (finmap.entries m) ≡ true
sorted_names m = truth _ (finmap.entries_sorted m)
  where
    truth : (b : Bool) → T b → b ≡ true
    truth true t = refl
    truth false t = absurd t

each_member : {A : Type 0} (P : A → Type 0) (xs : List A) → ((x : A) → Member x xs → P x) → AllByRecursion P xs
each_member P [] h = tt
each_member P (x ∷ xs) h = (h x (inl refl), each_member P xs (λ y i. h y (inr i)))

-- an outgoing session lists its files
out_listed : (s : SessionState) (name : List ℕ) (t : ℕ) (l : Listed) → name_out s ≡ Some name → finmap.get (files_of s) t ≡ Some l → listed_out s t ≡ Some l
out_listed Free name t l h k = absurd (not_some name h)
out_listed (In own opened files) name t l h k = absurd (not_some name h)
out_listed (Out own files) name t l h k = k

module _ (labels : ℕ → Labels) (w : World) (sound : Sound w labels) where
  abbrev names : List (List ℕ × ℕ)
  names = finmap.entries (registry_at w).outgoing

  -- an outgoing name has the session of its slot
  name_there : (e : List ℕ × ℕ) → Member e names → name_out (session_at w e.1) ≡ Some e.0
  name_there e i =
      sound.parts.outgoing.there e.0 e.1
      (finmap.get-entries (registry_at w).outgoing e.0
      ∙ found_of (slice_cmp nat_cmp) nat_list_cmp_total (finmap.slice_cmp-IsAntisymmetric finmap.nat_cmp-IsAntisymmetric) names e (sorted_names (registry_at w).outgoing) i)

  pub low_slot : (e : List ℕ × ℕ) → Member e names → e.1 < OUT_SLOTS
  low_slot e i = sound.parts.slots.outgoing e.1 e.0 (name_there e i)

  listed_there : (e : List ℕ × ℕ) → Member e names → (d : ℕ × Listed) → Member d (finmap.entries (files_of (session_at w e.1))) → listed_out (session_at w e.1) d.0 ≡ Some d.1
  listed_there e i d j =
      out_listed (session_at w e.1) e.0 d.0 d.1 (name_there e i)
      (finmap.get-entries (files_of (session_at w e.1)) d.0
      ∙ found_of nat_cmp nat_cmp_total finmap.nat_cmp-IsAntisymmetric (finmap.entries (files_of (session_at w e.1))) d (sorted_true (files_of (session_at w e.1))) j)

  file_whole : (e : List ℕ × ℕ) → Member e names → (d : ℕ × Listed) → Member d (finmap.entries (files_of (session_at w e.1))) → HasAllRuns (file_at w d.1.file)
  file_whole e i d j =
      let f = has_file labels w sound e.1 d.0 d.1 (listed_there e i d j) in subst HasAllRuns (sym f.1) (whole f.0 (sound.parts.fit d.1.file f.0 f.1) f.2)

  -- each file that an outgoing session of a sound world lists has all its runs
  sound_whole : ListsWhole w
  sound_whole =
      each_member (λ (e : List ℕ × ℕ). AllByRecursion (λ (r : Reference). HasAllRuns (file_at w r.file)) (listed_in w e.1)) names
      (λ e i. all_mapped (λ (d : ℕ × Listed). HasAllRuns (file_at w d.1.file)) (λ (r : Reference). HasAllRuns (file_at w r.file)) reference_of (λ d h. h) (finmap.entries (files_of (session_at w e.1)))
      (each_member (λ (d : ℕ × Listed). HasAllRuns (file_at w d.1.file)) (finmap.entries (files_of (session_at w e.1))) (file_whole e i)))

-- ---- another world of the same objects

same_at : (objects : List (Option object.Object)) (v w : World) (n : ℕ) → n ≢ pool_no → IsSome (object_at objects n) → Agrees v objects → Agrees w objects → v.at n ≡ w.at n
same_at objects v w n other some av aw = go (object_at objects n) refl some
  where
    go : (o : Option object.Object) → object_at objects n ≡ o → IsSome o → v.at n ≡ w.at n
    go None e h = absurd (clash (sym h))
    go (Some o) e h = av n (state_of o) other (ap (option_map state_of) e) ∙ sym (aw n (state_of o) other (ap (option_map state_of) e))

module _ (objects : List (Option object.Object)) (there : HaveSessions objects) (v w : World) (av : Agrees v objects) (aw : Agrees w objects) where
  same_registry : registry_at v ≡ registry_at w
  same_registry = ap registry_in (same_at objects v w registry_no (λ e. absurd (omega (arith, e))) there.registry av aw)

  same_session : (slot : ℕ) → slot < OUT_SLOTS → session_at v slot ≡ session_at w slot
  same_session slot low = ap session_in (same_at objects v w (session_no slot) (λ e. absurd (omega (arith, e))) (there.slots slot low) av aw)

  files_whole : (rs : List Reference) (fs : List CarriedFile) → AreFilesOf objects v rs fs → AllByRecursion (λ (r : Reference). HasAllRuns (file_at v r.file)) rs → AllByRecursion (λ (r : Reference). HasAllRuns (file_at w r.file)) rs
  unfolding AreFilesOf
  files_whole [] fs are h = tt
  files_whole (r ∷ rs) [] are h = absurd are
  files_whole (r ∷ rs) (f ∷ fs) are h =
      let same : file_at w r.file ≡ file_at v r.file = ap file_in (aw (file_no r.file) (FileIn (file_at v r.file)) (λ e. absurd (omega (arith, e))) are.0.there) in
      (subst HasAllRuns (sym same) h.0, files_whole rs fs are.1 h.1)

  sessions_whole : (es : List (List ℕ × ℕ)) (cs : List CarriedSession) → AreSessionsOf objects v es cs → AllByRecursion (λ (e : List ℕ × ℕ). e.1 < OUT_SLOTS) es → AllByRecursion (λ (e : List ℕ × ℕ). AllByRecursion (λ (r : Reference). HasAllRuns (file_at v r.file)) (listed_in v e.1)) es
      → AllByRecursion (λ (e : List ℕ × ℕ). AllByRecursion (λ (r : Reference). HasAllRuns (file_at w r.file)) (listed_in w e.1)) es
  unfolding AreSessionsOf
  sessions_whole [] cs are low h = tt
  sessions_whole (e ∷ es) [] are low h = absurd are
  sessions_whole (e ∷ es) (c ∷ cs) are low h = (
    subst (λ s. AllByRecursion (λ (r : Reference). HasAllRuns (file_at w r.file)) (map reference_of (finmap.entries (files_of s)))) (same_session e.1 low.0) (files_whole (listed_in v e.1) c.files are.0.files h.0),
    sessions_whole es cs are.1 low.1 h.1,
  )

-- ---- the objects of a sound world by their numbers

by_sort : (pool registry handler session file : Bool) (p : _) (r : _) (h : _) (s : _) (f : _) (x : Option FileState)
    → ◌≡◌ {A = State} (cond pool (PoolIn p) (cond registry (RegistryIn r) (cond handler (HandlerIn h) (cond session (SessionIn s) (cond file (FileIn f) Nothing))))) (FileIn x) → f ≡ x
by_sort true b c d e p r h s f x k = absurd cc
by_sort false true c d e p r h s f x k = absurd cc
by_sort false false true d e p r h s f x k = absurd cc
by_sort false false false true e p r h s f x k = absurd cc
by_sort false false false false true p r h s f x k = ap file_in k
by_sort false false false false false p r h s f x k = absurd cc

-- a state of a file is that of a file of the world
file_there : (x : Parts) (n : ℕ) (s : Option FileState) → state_at x n ≡ FileIn s → x.files (n - file_no 0) ≡ s
file_there x n s k = by_sort _ _ _ _ _ _ _ _ _ _ s k

-- ---- what was gathered of a sound world

cons_head : {A : Type 0} (x y : A) (xs ys : List A) → x ∷ xs ≡ y ∷ ys → x ≡ y
cons_head x y xs ys e = cc

cons_tail : {A : Type 0} (x y : A) (xs ys : List A) → x ∷ xs ≡ y ∷ ys → xs ≡ ys
cons_tail x y xs ys e = cc

all_both : {A : Type 0} (P : A → Type 0) (xs ys : List A) → AllByRecursion P xs → AllByRecursion P ys → AllByRecursion P (xs ++ ys)
all_both P [] ys a b = b
all_both P (x ∷ xs) ys a b = (a.0, all_both P xs ys a.1 b)

-- a file's token has 8 bytes, and it has as many bytes in the frames as it says
record IsOfRam (ram : Ram) (f : CarriedFile) : Type 0 where
  token : f.token.0 < 2 ^ 64
  size : length (file_held ram f).bytes ≡ f.size

module _ (objects : List (Option object.Object)) (w : World) (ram : Ram) where
  files_known : (ds : List (ℕ × Listed)) (fs : List CarriedFile) → AreFilesOf objects w (map reference_of ds) fs → map (file_held ram) fs ≡ map (listed_carried w) ds → AllByRecursion (IsOfRam ram) fs
  unfolding AreFilesOf
  files_known [] [] are same = tt
  files_known [] (f ∷ fs) are same = absurd are
  files_known (d ∷ ds) [] are same = tt
  files_known (d ∷ ds) (f ∷ fs) are same =
      let is : file_held ram f ≡ listed_carried w d = cons_head (file_held ram f) (listed_carried w d) (map (file_held ram) fs) (map (listed_carried w) ds) same in
      let rest = cons_tail (file_held ram f) (listed_carried w d) (map (file_held ram) fs) (map (listed_carried w) ds) same in
      (record { token = are.0.carried.fits; size = ap (λ (x : FileCarried). length x.bytes) is ∙ sym (are.0.carried.is d.1.handle).size }, files_known ds fs are.1 rest)

  sessions_known : (es : List (List ℕ × ℕ)) (cs : List CarriedSession) → AreSessionsOf objects w es cs → map (session_held ram) cs ≡ map (session_carried w) es → AllByRecursion (IsOfRam ram) (files_in cs)
  unfolding AreSessionsOf
  sessions_known [] [] are same = tt
  sessions_known [] (c ∷ cs) are same = absurd are
  sessions_known (e ∷ es) [] are same = tt
  sessions_known (e ∷ es) (c ∷ cs) are same =
      let is : session_held ram c ≡ session_carried w e = cons_head (session_held ram c) (session_carried w e) (map (session_held ram) cs) (map (session_carried w) es) same in
      let rest = cons_tail (session_held ram c) (session_carried w e) (map (session_held ram) cs) (map (session_carried w) es) same in
      all_both (IsOfRam ram) c.files (files_in cs) (files_known (finmap.entries (files_of (session_at w e.1))) c.files are.0.files (ap (λ (x : SessionCarried). x.files) is)) (sessions_known es cs are.1 rest)

  sessions_named : (es : List (List ℕ × ℕ)) (cs : List CarriedSession) → AreSessionsOf objects w es cs → AllByRecursion (λ (s : CarriedSession). IsTrue (is_name s.name)) cs
  unfolding AreSessionsOf
  sessions_named es [] are = tt
  sessions_named [] (c ∷ cs) are = absurd are
  sessions_named (e ∷ es) (c ∷ cs) are = (are.0.valid, sessions_named es cs are.1)

-- ---- of a kernel

member_at : {A : Type 0} (xs : List A) (k : ℕ) (d : A) → k < length xs → Member (get_or xs k d) xs
member_at [] k d lt = absurd (omega (arith, lt))
member_at (x ∷ xs) zero d lt = inl refl
member_at (x ∷ xs) (suc k) d lt = inr (member_at xs k d (omega (arith, lt)))

in_run : (o : Option FileState) (i q n : ℕ) → run_in o i ≡ Some (q, n) → (g : FileState) × (o ≡ Some g) × (finmap.get g.runs i ≡ Some q) × (g.order ≡ n)
in_run None i q n h = absurd (not_some (q, n) h)
in_run (Some g) i q n h = go (finmap.get g.runs i) refl h
  where
    go : (x : Option ℕ) → finmap.get g.runs i ≡ x → option_map {U = ℕ × ℕ} (λ p. (p, g.order)) x ≡ Some (q, n) → (h : FileState) × (Some g ≡ Some h) × (finmap.get h.runs i ≡ Some q) × (h.order ≡ n)
    go None e k = absurd (not_some (q, n) k)
    go (Some p) e k = let s = same_value (p, g.order) (q, n) k in (g, refl, e ∙ ap (λ (r : ℕ × ℕ). Some r.0) s, ap (λ (r : ℕ × ℕ). r.1) s)

module _ (kernel : KernelValue) (sound : IsSoundKernel kernel) where
  agrees : Agrees sound.world kernel.objects
  agrees = λ n s other is. sound.is_world.objects n s is

  -- each outgoing name has a slot
  pub have_slots : HaveSlots kernel.objects
  have_slots s is = λ k d lt.
      subst (λ (r : RegistryState). All (λ (e : List ℕ × ℕ). e.1 < OUT_SLOTS + IN_SLOTS) (finmap.entries r.outgoing)) (ap registry_in (sound.is_world.objects registry_no (RegistryIn s) is))
      (λ k d lt. widened (get_or (finmap.entries (registry_at sound.world).outgoing) k d) (low_slot sound.labels sound.world sound.sound (get_or (finmap.entries (registry_at sound.world).outgoing) k d) (member_at (finmap.entries (registry_at sound.world).outgoing) k d lt))) k d lt
    where
      widened : (e : List ℕ × ℕ) → e.1 < OUT_SLOTS → e.1 < OUT_SLOTS + IN_SLOTS
      widened e low = omega (arith, low)

  -- frames that hold the kernel's files
  pub held : HoldAll sound.world kernel.shape.frames
  held = hold_all sound.labels sound.world sound.sound kernel.shape.frames

  pub holds : HoldsFilesIn held.ram kernel.objects
  holds n None is = tt
  holds n (Some g) is = λ i p run. held.holds (n - file_no 0) i p g (file_there (parts_of sound.world) n (Some g) (sym (sound.sound.sorts n) ∙ sound.is_world.objects n (FileIn (Some g)) is)) run

  module _ (pool : HasPool kernel) where
    pub pool_is : pool_at sound.world ≡ pool.state
    pool_is = ap pool_in (sound.is_world.objects pool_no (PoolIn pool.state) (pool_state kernel pool))

    module _ (c : Carried) (g : IsGathered kernel c) where
      -- with these frames it is what a kexec of the world carries
      pub as_frozen : state_in held.ram c ≡ frozen sound.world
      as_frozen = carried_is kernel c sound.world held.ram g agrees sound.is_world.number (ap (λ s. s.shape) pool_is ∙ pool.shape) sound.is_world.handlers (sound_whole sound.labels sound.world sound.sound) holds

      pub has_layout : IsTrue (is_layout c.shape.frames c.shape.scratch)
      has_layout = subst (λ (h : Layout). IsTrue (is_layout h.frames h.scratch)) (sym g.shape) pool.layout

      known : AllByRecursion (IsOfRam held.ram) (files_in c.sessions)
      known =
          sessions_known kernel.objects sound.world held.ram (finmap.entries (registry_at sound.world).outgoing) c.sessions (g.sessions sound.world agrees) (ap (λ x. x.sessions) as_frozen)

      -- it can be carried
      pub can : CarriedIsFit → IsTrue (can_be_carried c)
      can law =
          law sound.labels sound.world held.ram c sound.sound as_frozen
          (record {
            shape = has_layout;
            names = sessions_named kernel.objects sound.world held.ram (finmap.entries (registry_at sound.world).outgoing) c.sessions (g.sessions sound.world agrees);
            tokens = all_weaker (IsOfRam held.ram) (λ (f : CarriedFile). f.token.0 < 2 ^ 64) (λ f h. h.token) (files_in c.sessions) known;
            sizes = all_weaker (IsOfRam held.ram) (λ (f : CarriedFile). length (file_held held.ram f).bytes ≡ f.size) (λ f h. h.size) (files_in c.sessions) known;
          })

  -- what a world of the same objects lists has all its runs
  pub lists_whole : (c : Carried) → IsGathered kernel c → HaveSessions kernel.objects → (w : World) → Agrees w kernel.objects → ListsWhole w
  lists_whole c g there w aw =
      subst (λ (r : RegistryState). AllByRecursion (λ (e : List ℕ × ℕ). AllByRecursion (λ (r : Reference). HasAllRuns (file_at w r.file)) (listed_in w e.1)) (finmap.entries r.outgoing)) (same_registry kernel.objects there sound.world w agrees aw)
      (sessions_whole kernel.objects there sound.world w agrees aw (names sound.labels sound.world sound.sound) c.sessions (g.sessions sound.world agrees)
      (each_member (λ (e : List ℕ × ℕ). e.1 < OUT_SLOTS) (names sound.labels sound.world sound.sound) (low_slot sound.labels sound.world sound.sound)) (sound_whole sound.labels sound.world sound.sound))

  -- ---- each owned frame stands in a run

  module _ (memfds : AreMemfds kernel.objects) where
    in_files : (f : ℕ) (g : FileState) → file_at sound.world f ≡ Some g → f < FILES
    in_files f g is = go (nat_lt f FILES) refl
      where
        go : (b : Bool) → nat_lt f FILES ≡ b → f < FILES
        go true e = grind (arith, nat_tests)
        go false e = absurd (not_some g (sym (sound.sound.parts.last_file f (grind (arith, nat_tests))) ∙ is))

    in_file : (p : ℕ) (owner : Owner (pool_at sound.world) p) → IsFrameOfFile kernel.objects p
    in_file p owner =
        let place = place_of sound.labels sound.world sound.sound p owner in
        let r = in_run (file_at sound.world place.row) place.column (run_start owner.order p) owner.order place.is in
        let m = memfds place.row (in_files place.row r.0 r.1) in
        record {
          number = file_no place.row;
          file = r.0;
          there = m.is ∙ ap (λ s. Some (FileIn s)) (sym (ap file_in (sound.is_world.objects (file_no place.row) (FileIn m.state) m.is)) ∙ r.1);
          index = place.column;
          first = run_start owner.order p;
          run = r.2;
          from = omega arith;
          to = subst (λ o. p < run_start owner.order p + 2 ^ o) (sym r.3) (inside p (2 ^ owner.order) (pow_pos owner.order));
        }
      where
        inside : (p n : ℕ) → 0 < n → p < p - p % n + n
        inside p n some = omega (arith, some)

    pub owns_runs : OwnsRuns kernel
    owns_runs s p is owned =
        let same : pool_at sound.world ≡ s = ap pool_in (sound.is_world.objects pool_no (PoolIn s) is) in
        in_file p (owner_of (pool_at sound.world) p (subst (λ x. is_owned x p ≡ true) (sym same) owned))
