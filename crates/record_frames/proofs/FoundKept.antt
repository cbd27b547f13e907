-- What is read of frames is kept there; and frames carry a state or break a rule.
use Rattle.std.proofs.Common.{◌≡◌, ℕ, suc, ◌+◌, Bool, true, false, cond, List, [], ◌∷◌, ◌++◌, length, take, drop, Option, Some, None, Result, Ok, Err, refl, sym, ap, subst, ◌∙◌, append_assoc, arith, inl, inr, ◌⊎◌}
use Rattle.std.specs.Prelude.{nat_le, ◌&&◌, ◌==◌}
use Rattle.std.specs.List.{list_all, flat_map, range_with_len}
use Rattle.std.proofs.lemmas.Bool.{leb-true, and_parts, and_from}
use Rattle.std.proofs.lemmas.List.{take-append-drop}
use Rattle.std.proofs.Math.Seq.{take-append_seam}
use Rattle.ho_base.specs.Bytes.{u64_at}
use Rattle.ho_base.specs.declared.limits.TheConstants.{BOUND_BYTES}
use Rattle.ho_base.specs.declared.numbers.Kind.{Kind}
use Rattle.fdt_blob.specs.declared.tree.FdtPlace.{FdtPlace}
use Rattle.fdt_blob.specs.Trees.{Property, Tree, properties_of, children_of, count_of, same_name, value_in}
use Rattle.fdt_blob.specs.Blob.{Spells, BreaksAt}
use Rattle.record_frames.specs.declared.place.ImagePlace.{ImagePlace}
use Rattle.record_frames.specs.declared.place.ImagePlace.TheVariants.{Entry, Tree as TreeAt, Root as RootAt, Luo as LuoAt, Chain, Record, Bound, Owner}
use Rattle.ho_events.specs.Handler.{BoundState}
use Rattle.ho_world.specs.Frozen.{Frozen}
use Rattle.record_frames.specs.Ram.{Ram, Begins, is_frame}
use Rattle.record_frames.specs.Sheets.{FileRecord, number, first_of, items_of}
use Rattle.record_frames.specs.Rules.{Version, versions}
use Rattle.ho_world.specs.Frozen.{MOST_UPDATES}
use Rattle.record_frames.specs.Handover.{Root, Luo, root_of, luo_of, bounds_of, BOUND_NAMES, COMPATIBLE, UPDATE_NUMBER, SESSION_HEADER, number_of, count_given, only_if}
use Rattle.record_frames.specs.Handover as handover
use Rattle.record_frames.specs.Kept.{Kept, are_bounds, is_bound_frame, has_kind, devices, bound_frames, bound_pages, files_of, carried}
use Rattle.record_frames.specs.Owners.{is_owned_well, first_ill}
use Rattle.record_frames.specs.Carries.{HavePages, Keep, Carries, SpellChain, SpellRecords}
use Rattle.record_frames.specs.Reading.{◌>>=◌, or_else, told_as, chunks_at, records_at, bound_at, bounds_at, owned_well, kept_at, BreakAt, BreaksBehind}
use Rattle.record_frames.specs.Laws.{Holds, ReadIsKept, StateOrPlace}
use Rattle.record_frames.proofs.Chains.{frame_below}
use Rattle.record_frames.proofs.Found.{length_drop, length_taken, number_found, then_some, some_is}
use Rattle.record_frames.proofs.Once.{put_together, last_step, from_records, from_chain, from_luo, from_root, steps}
use Rattle.record_frames.proofs.FoundTurns.{bind_ok}
use Rattle.record_frames.proofs.FoundChains.{chunks_found}
use Rattle.record_frames.proofs.FoundRecords.{records_found}

-- ---- bound records

pub record BoundFact (ram : Ram) (has : Bool) (p : Option ℕ) (b : Option BoundState) : Type 0 where
  pub frame : bound_frames (b ∷ []) ≡ p ∷ []
  pub is : is_bound_frame ram.count b has ≡ true
  pub pages : HavePages ram (bound_pages (b ∷ []))

bound_found : (ram : Ram) → Holds ram → (has : Bool) (p : Option ℕ) (b : Option BoundState) → bound_at ram has p ≡ Some b → BoundFact ram has p b
bound_found ram holds true None b e = absurd cc
bound_found ram holds false None b e =
    let P : Option BoundState → Type 0 = λ x. BoundFact ram false None x in
    subst P (some_is None b e) (record { frame = refl; is = refl; pages = tt })
bound_found ram holds has (Some p) b e =
    let page = ram.page p in
    let len = u64_at page 0 in
    let got : BoundState = record { bytes = take len (drop 8 page); frame = p } in
    let t = then_some (has && is_frame ram.count p && nat_le len BOUND_BYTES) (Some got) b e in
    let ts = and_parts (has && is_frame ram.count p) (nat_le len BOUND_BYTES) t.0 in
    let frame = and_parts has (is_frame ram.count p) ts.0 in
    let below = frame_below ram.count p frame.1 in
    let small = leb-true len BOUND_BYTES ts.1 in
    let size : length got.bytes ≡ len = length_taken len (drop 8 page) (omega (arith, small, length_drop 8 page, holds.size p below)) in
    let first : number (length got.bytes) ≡ take 8 page = ap number size ∙ number_found page 0 (holds.bytes p below) (omega (arith, holds.size p below)) in
    let rest = drop len (drop 8 page) in
    let whole : number (length got.bytes) ++ got.bytes ++ rest ≡ page =
    append_assoc (number (length got.bytes)) got.bytes rest ∙ ap (λ (x : List ℕ). number (length got.bytes) ++ x) (take-append-drop len (drop 8 page))
    ∙ ap (λ (x : List ℕ). x ++ drop 8 page) first ∙ take-append-drop 8 page in
    let begins : Begins page (number (length got.bytes) ++ got.bytes) =
    ap (λ (x : List ℕ). take (length (number (length got.bytes) ++ got.bytes)) x) (sym whole) ∙ take-append_seam (number (length got.bytes) ++ got.bytes) rest in
    let P : Option BoundState → Type 0 = λ x. BoundFact ram has (Some p) x in
    subst P t.1 (record {
      frame = refl;
      is = and_from (has && is_frame ram.count p) (nat_le (length got.bytes) BOUND_BYTES) ts.0 (ap (λ (x : ℕ). nat_le x BOUND_BYTES) size ∙ ts.1);
      pages = (begins, tt);
    })

or_ok : {A E : Type 0} (e : E) (o : Option A) (x : A) → or_else e o ≡ Ok x → o ≡ Some x
or_ok e None x h = absurd cc
or_ok e (Some y) x h = cc

told_ok : {A E F : Type 0} (name : E → F) (r : Result A E) (x : A) → told_as name r ≡ Ok x → r ≡ Ok x
told_ok name (Ok y) x h = cc
told_ok name (Err e) x h = absurd cc

pub record BoundsFact (ram : Ram) (files : List FileRecord) (kinds : List Kind) (frames : List (Option ℕ)) (bounds : List (Option BoundState)) : Type 0 where
  pub same : bound_frames bounds ≡ frames
  pub are : are_bounds ram.count files kinds bounds ≡ true
  pub pages : HavePages ram (bound_pages bounds)

abbrev bounds_answer : List (Option BoundState) → Result (List (Option BoundState)) Kind
bounds_answer b = Ok b

bounds_are : (a b : List (Option BoundState)) → bounds_answer a ≡ bounds_answer b → a ≡ b
bounds_are a b e = cc

pages_join : (ram : Ram) (b : Option BoundState) (bounds : List (Option BoundState)) → HavePages ram (bound_pages (b ∷ [])) → HavePages ram (bound_pages bounds) → HavePages ram (bound_pages (b ∷ bounds))
pages_join ram None bounds h g = g
pages_join ram (Some b) bounds h g = (h.0, g)

head_frame : (b : Option BoundState) (p : Option ℕ) (bounds : List (Option BoundState)) (frames : List (Option ℕ)) → bound_frames (b ∷ []) ≡ p ∷ [] → bound_frames bounds ≡ frames → bound_frames (b ∷ bounds) ≡ p ∷ frames
head_frame b p bounds frames h g = ap (λ (x : List (Option ℕ)). first_or p x ∷ bound_frames bounds) h ∙ ap (λ (x : List (Option ℕ)). p ∷ x) g
  where
    first_or : Option ℕ → List (Option ℕ) → Option ℕ
    first_or d [] = d
    first_or d (x ∷ xs) = x

bounds_found : (ram : Ram) → Holds ram → (files : List FileRecord) (kinds : List Kind) (frames : List (Option ℕ)) (bounds : List (Option BoundState)) → length frames ≡ length kinds
    → bounds_at ram files kinds frames ≡ Ok bounds → BoundsFact ram files kinds frames bounds
bounds_found ram holds files [] [] bounds len e =
    let P : List (Option BoundState) → Type 0 = λ x. BoundsFact ram files [] [] x in
    subst P (bounds_are [] bounds e) (record { same = refl; are = refl; pages = tt })
bounds_found ram holds files [] (p ∷ frames) bounds len e = absurd (omega (arith, len))
bounds_found ram holds files (kind ∷ kinds) [] bounds len e = absurd (omega (arith, len))
bounds_found ram holds files (kind ∷ kinds) (p ∷ frames) bounds len e =
    let a = bind_ok (or_else kind (bound_at ram (has_kind files kind) p)) (λ bound. bounds_at ram files kinds frames >>= λ more. bounds_answer (bound ∷ more)) bounds e in
    let b = bind_ok (bounds_at ram files kinds frames) (λ more. bounds_answer (a.0 ∷ more)) bounds a.2 in
    let one = bound_found ram holds (has_kind files kind) p a.0 (or_ok kind (bound_at ram (has_kind files kind) p) a.0 a.1) in
    let more = bounds_found ram holds files kinds frames b.0 (omega (arith, len)) b.1 in
    let P : List (Option BoundState) → Type 0 = λ x. BoundsFact ram files (kind ∷ kinds) (p ∷ frames) x in
    subst P (bounds_are (a.0 ∷ b.0) bounds b.2) (record {
      same = head_frame a.0 p b.0 frames one.frame more.same;
      are = and_from (is_bound_frame ram.count a.0 (has_kind files kind)) (are_bounds ram.count files kinds b.0) one.is more.are;
      pages = pages_join ram a.0 b.0 one.pages more.pages;
    })

-- ---- the child has a place for each kind

then_found : {A B : Type 0} (o : Option A) (f : A → Option B) (y : B) → handover.◌>>=◌ o f ≡ Some y → (x : A) × (o ≡ Some x) × (f x ≡ Some y)
then_found None f y e = absurd cc
then_found (Some x) f y e = (x, refl, e)

-- ---- owners

none_ill : (k : Kept) (ps : List ℕ) → first_ill k ps ≡ None → list_all (is_owned_well k) ps ≡ true
none_ill k [] h = refl
none_ill k (p ∷ ps) h = at_test (is_owned_well k p) (λ g. none_ill k ps g) h
  where
    at_test : (b : Bool) → (first_ill k ps ≡ None → list_all (is_owned_well k) ps ≡ true) → cond b (first_ill k ps) (Some p) ≡ None → (b && list_all (is_owned_well k) ps) ≡ true
    at_test true more h = more h
    at_test false more h = absurd cc

abbrev kept_answer : Kept → Result Kept ImagePlace
kept_answer k = Ok k

kept_is : (k l : Kept) → kept_answer k ≡ kept_answer l → k ≡ l
kept_is k l e = cc

owned_found : (k l : Kept) (o : Option ℕ) → owned_well k o ≡ kept_answer l → (o ≡ None) × (k ≡ l)
owned_found k l None e = (refl, kept_is k l e)
owned_found k l (Some p) e = absurd cc

-- the frames of the bound records are as many as their names
bounds_count : (names : List (List ℕ)) (ps : List Property) (frames : List (Option ℕ)) → bounds_of names ps ≡ Some frames → length frames ≡ length names
bounds_count [] ps frames e = ap length (sym (some_is [] frames e))
bounds_count (name ∷ names) ps frames e =
    let a = then_found (bounds_of names ps) (λ more. with_one (value_in name ps) more) frames e in
    with_count (value_in name ps) a.0 frames a.2 ∙ ap suc (bounds_count names ps a.0 a.1)
  where
    with_one : Option (List ℕ) → List (Option ℕ) → Option (List (Option ℕ))
    with_one None frames = Some (None ∷ frames)
    with_one (Some value) frames = handover.◌>>=◌ (number_of value) (λ p. Some (Some p ∷ frames))

    with_count : (v : Option (List ℕ)) (more frames : List (Option ℕ)) → with_one v more ≡ Some frames → length frames ≡ suc (length more)
    with_count None more frames e = ap length (sym (some_is (None ∷ more) frames e))
    with_count (Some value) more frames e =
        let a = then_found (number_of value) (λ p. Some (Some p ∷ more)) frames e in
        ap length (sym (some_is (Some a.0 ∷ more) frames a.2))

infixl 10 ◌|>=◌
abbrev ◌|>=◌ : {A B : Type 0} → Option A → (A → Option B) → Option B
o |>= f = handover.◌>>=◌ o f

-- the steps of the child, from each on
abbrev luo_end : Version → Tree → List ℕ → ℕ → ℕ → List (Option ℕ) → Option Luo
luo_end v t word number header bounds =
    only_if (same_name v.luo word && nat_le 1 number && nat_le number MOST_UPDATES && count_of (children_of t) == 0
    && length (properties_of t) == 3 + count_given bounds) (record { number = number; header = header; bounds = bounds })

abbrev luo_4 : Version → Tree → List ℕ → ℕ → ℕ → Option Luo
luo_4 v t word number header = bounds_of BOUND_NAMES (properties_of t) |>= λ bounds. luo_end v t word number header bounds

abbrev luo_3 : Version → Tree → List ℕ → ℕ → Option Luo
luo_3 v t word number = value_in SESSION_HEADER (properties_of t) |>= λ value. number_of value |>= λ header. luo_4 v t word number header

abbrev luo_2 : Version → Tree → List ℕ → Option Luo
luo_2 v t word = value_in UPDATE_NUMBER (properties_of t) |>= λ value. number_of value |>= λ number. luo_3 v t word number

luo_steps : (v : Version) (t : Tree) → luo_of v t ≡ (value_in COMPATIBLE (properties_of t) |>= λ word. luo_2 v t word)
unfolding luo_of
luo_steps v t = refl

luo_count : (v : Version) (t : Tree) (luo : Luo) → luo_of v t ≡ Some luo → length luo.bounds ≡ 4
luo_count v t luo e =
    let ps = properties_of t in
    let a = then_found (value_in COMPATIBLE ps) (λ word. luo_2 v t word) luo (sym (luo_steps v t) ∙ e) in
    let b = then_found (value_in UPDATE_NUMBER ps) (λ value. number_of value |>= λ number. luo_3 v t a.0 number) luo a.2 in
    let c = then_found (number_of b.0) (λ number. luo_3 v t a.0 number) luo b.2 in
    let d = then_found (value_in SESSION_HEADER ps) (λ value. number_of value |>= λ header. luo_4 v t a.0 c.0 header) luo c.2 in
    let f = then_found (number_of d.0) (λ header. luo_4 v t a.0 c.0 header) luo d.2 in
    let g = then_found (bounds_of BOUND_NAMES ps) (λ bounds. luo_end v t a.0 c.0 f.0 bounds) luo f.2 in
    let test = same_name v.luo a.0 && nat_le 1 c.0 && nat_le c.0 MOST_UPDATES && count_of (children_of t) == 0 && length ps == 3 + count_given g.0 in
    let h = then_some test (record { number = c.0; header = f.0; bounds = g.0 }) luo g.2 in
    ap (λ (x : Luo). length x.bounds) (sym h.1) ∙ bounds_count BOUND_NAMES ps g.0 g.1

-- ---- all parts

pub kept_found : ReadIsKept
kept_found ram entry t k holds within spelled e =
    let a = bind_ok (or_else RootAt (root_of versions ram.count t)) (λ root. from_root ram entry root) k (sym (steps ram entry t) ∙ e) in
    let root = a.0 in
    let b = bind_ok (or_else LuoAt (luo_of root.version root.luo)) (λ luo. from_luo ram entry root luo) k a.2 in
    let luo = b.0 in
    let c = bind_ok (told_as Chain (chunks_at ram root.chunk)) (λ chain. from_chain ram entry root luo chain) k b.2 in
    let chain = c.0 in
    let d = bind_ok (told_as Record (records_at root.version ram luo.header)) (λ records. from_records ram entry root luo chain records) k c.2 in
    let records = d.0 in
    let files = flat_map files_of (items_of records) in
    let f = bind_ok (told_as Bound (bounds_at ram files devices luo.bounds)) (λ bounds. last_step ram entry root luo chain records bounds) k d.2 in
    let bounds = f.0 in
    let l = put_together entry root luo chain records bounds in
    let own = owned_found l k (first_ill l (range_with_len 0 ram.count)) f.2 in
    let root_is = or_ok RootAt (root_of versions ram.count t) root a.1 in
    let luo_is = or_ok LuoAt (luo_of root.version root.luo) luo b.1 in
    let chain_is = chunks_found ram root.chunk chain holds (told_ok Chain (chunks_at ram root.chunk) chain c.1) in
    let records_is = records_found root.version ram luo.header records holds (told_ok Record (records_at root.version ram luo.header) records d.1) in
    let bounds_is = bounds_found ram holds files devices luo.bounds bounds (luo_count root.version root.luo luo luo_is) (told_ok Bound (bounds_at ram files devices luo.bounds) bounds f.1) in
    let P : Kept → Type 0 = λ x. Keep ram entry x in
    let C : ℕ → Type 0 = λ n. SpellChain ram n chain in
    let R : ℕ → Type 0 = λ n. SpellRecords root.version ram n records in
    subst P own.1 (record {
      tree = t;
      luo = root.luo;
      within = within;
      begins = refl;
      spelled = spelled;
      root = root_is ∙ ap (λ (n : ℕ). Some (record { version = root.version; shape = root.shape; chunk = n; luo = root.luo })) (sym chain_is.begins);
      child = luo_is ∙ ap (λ (n : ℕ). Some (record { number = luo.number; header = n; bounds = luo.bounds })) (sym records_is.begins)
          ∙ ap (λ (x : List (Option ℕ)). Some (record { number = luo.number; header = first_of records; bounds = x })) (sym bounds_is.same);
      chain = subst C (sym chain_is.begins) chain_is;
      records = subst R (sym records_is.begins) records_is;
      bounds = bounds_is.are;
      bound_bytes = bounds_is.pages;
      owners = none_ill l (range_with_len 0 ram.count) own.0;
    })

-- ---- a state or a place

-- a place after the tree
abbrev is_behind : ImagePlace → Bool
is_behind Entry = false
is_behind (TreeAt p) = false
is_behind RootAt = true
is_behind LuoAt = true
is_behind (Chain n) = true
is_behind (Record n) = true
is_behind (Bound k) = true
is_behind (Owner p) = true

-- every place that is reported is one after the tree
abbrev TellsBehind : {A : Type 0} → Result A ImagePlace → Type 0
TellsBehind r = (p : ImagePlace) → r ≡ Err p → is_behind p ≡ true

then_behind : {A B : Type 0} (r : Result A ImagePlace) (f : A → Result B ImagePlace) → TellsBehind r → ((x : A) → TellsBehind (f x)) → TellsBehind (r >>= f)
then_behind (Ok x) f h g p e = g x p e
then_behind (Err q) f h g p e = let s : q ≡ p = cc in ap is_behind (sym s) ∙ h q refl

or_behind : {A : Type 0} (q : ImagePlace) (o : Option A) → is_behind q ≡ true → TellsBehind (or_else q o)
or_behind q None h p e = let s : q ≡ p = cc in ap is_behind (sym s) ∙ h
or_behind q (Some x) h p e = absurd cc

told_behind : {A E : Type 0} (name : E → ImagePlace) (r : Result A E) → ((x : E) → is_behind (name x) ≡ true) → TellsBehind (told_as name r)
told_behind name (Ok x) h p e = absurd cc
told_behind name (Err x) h p e = let s : name x ≡ p = cc in ap is_behind (sym s) ∙ h x

owned_behind : (k : Kept) (o : Option ℕ) → TellsBehind (owned_well k o)
owned_behind k None p e = absurd cc
owned_behind k (Some n) p e = let s : Owner (record { 0 = n }) ≡ p = cc in ap is_behind (sym s)

kept_behind : (ram : Ram) (entry : ℕ) (t : Tree) → TellsBehind (kept_at ram entry t)
kept_behind ram entry t p e =
    then_behind (or_else RootAt (root_of versions ram.count t)) (λ root. from_root ram entry root) (or_behind RootAt (root_of versions ram.count t) refl)
    (λ root. then_behind (or_else LuoAt (luo_of root.version root.luo)) (λ luo. from_luo ram entry root luo) (or_behind LuoAt (luo_of root.version root.luo) refl)
    (λ luo. then_behind (told_as Chain (chunks_at ram root.chunk)) (λ chain. from_chain ram entry root luo chain) (told_behind Chain (chunks_at ram root.chunk) (λ x. refl))
    (λ chain. then_behind (told_as Record (records_at root.version ram luo.header)) (λ records. from_records ram entry root luo chain records)
    (told_behind Record (records_at root.version ram luo.header) (λ x. refl))
    (λ records. then_behind (told_as Bound (bounds_at ram (flat_map files_of (items_of records)) devices luo.bounds)) (λ bounds. last_step ram entry root luo chain records bounds)
    (told_behind Bound (bounds_at ram (flat_map files_of (items_of records)) devices luo.bounds) (λ x. refl))
    (λ bounds. owned_behind (put_together entry root luo chain records bounds) (first_ill (put_together entry root luo chain records bounds) (range_with_len 0 ram.count)))))))
    p (sym (steps ram entry t) ∙ e)

breaks_at : (ram : Ram) (entry : ℕ) (p : ImagePlace) → is_behind p ≡ true → BreaksBehind ram entry p → BreakAt ram entry p
breaks_at ram entry Entry h b = absurd cc
breaks_at ram entry (TreeAt p) h b = absurd cc
breaks_at ram entry RootAt h b = b
breaks_at ram entry LuoAt h b = b
breaks_at ram entry (Chain n) h b = b
breaks_at ram entry (Record n) h b = b
breaks_at ram entry (Bound k) h b = b
breaks_at ram entry (Owner p) h b = b

abbrev Either : Ram → ℕ → Type 0
Either ram entry = ((f : Frozen) × Carries ram entry f) ⊎ ((p : ImagePlace) × BreakAt ram entry p)

pub state_or_place : StateOrPlace
state_or_place ram entry holds trees = at_entry (is_frame ram.count entry) refl
  where
    at_kept : (t : Tree) (within : is_frame ram.count entry ≡ true) → Spells (ram.page entry) t → (r : Result Kept ImagePlace) → kept_at ram entry t ≡ r → Either ram entry
    at_kept t within spelled (Ok k) e = inl (carried ram k, record { kept = k; keep = kept_found ram entry t k holds within spelled e; is = refl })
    at_kept t within spelled (Err p) e = inr (p, breaks_at ram entry p (kept_behind ram entry t p e) (within, (t, spelled, e)))

    at_tree : is_frame ram.count entry ≡ true → ((t : Tree) × Spells (ram.page entry) t) ⊎ ((p : FdtPlace) × BreaksAt (ram.page entry) p) → Either ram entry
    at_tree within (inl x) = at_kept x.0 within x.1 (kept_at ram entry x.0) refl
    at_tree within (inr x) = inr (TreeAt x.0, (within, x.1))

    at_entry : (b : Bool) → is_frame ram.count entry ≡ b → Either ram entry
    at_entry true h = at_tree h trees
    at_entry false h = inr (Entry, λ g. both h g)
      where
        both : {b : Bool} → b ≡ false → b ≡ true → ⊥
        both h g = absurd cc
