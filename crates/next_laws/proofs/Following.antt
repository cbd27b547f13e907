-- A kernel can begin with what frames carry, where each file is a memfd.
use Rattle.std.proofs.Common.{◌≡◌, ℕ, suc, ◌≤◌, ◌<◌, Bool, true, false, eqb, List, [], ◌∷◌, ◌++◌, map, length, refl, sym, ap, subst, ◌∙◌, arith}
use Rattle.std.specs.Prelude.{◌||◌, nat_lt, nat_le, Option, None, Some}
use Rattle.std.specs.List.{AllByRecursion, IsDistinct, filter, list_all, list_any, flat_map}
use Rattle.std.proofs.lemmas.Bool.{and_parts, and_from, le-leb}
use Rattle.std.proofs.lemmas.List.{length-append, map-append}
use Rattle.std.proofs.lemmas.List.Elements.{filter-append}
use Rattle.std.proofs.lemmas.List.Folds.{list_all-append, list_any-append}
use Rattle.ho_base.specs.ShapeRule.{in_scratch}
use Rattle.ho_base.specs.declared.numbers.Kind.{Kind}
use Rattle.ho_base.specs.declared.numbers.Kind.TheVariants.{Memfd, Dev0, Dev1, Dev2, Dev3}
use Rattle.ho_events.specs.Handler.{BoundState}
use Rattle.ho_events.specs.Lists.{same_bytes}
use Rattle.ho_world.specs.Frozen.{CarriedFile, CarriedSession, Frozen, carried_files}
use Rattle.folio_bitmaps.specs.Runs.{Run}
use Rattle.pool_core.specs.PoolAdopting.{CanAdopt}
use Rattle.record_frames.specs.Ram.{Ram}
use Rattle.record_frames.specs.Sheets.{FileRecord, SessionRecord, record_numbers, kind_number}
use Rattle.record_frames.specs.Rules.{version_1, is_run}
use Rattle.record_frames.specs.Kept.{Kept, sessions_of, files_of, runs_of, all_files, is_file, devices, same_kind, has_kind, is_bound_frame, are_bounds, bound_frames, carried, carried_file, carried_session, are_records}
use Rattle.record_frames.specs.Owners.{single, given, file_runs, run_holds, is_owned_well}
use Rattle.record_frames.specs.Carries.{Keep}
use Rattle.record_frames.specs.Laws.{Holds}
use Rattle.session_core.specs.SessionShown.{TokensRise}
use Rattle.next_laws.proofs.OffScratch.{all_at, few, user_off}
use Rattle.next_laws.specs.Begins.{is_memfd, run_of, all_runs, NoBounds, names_of, numbered}
use Rattle.next_laws.specs.Follows.{CanBegin, CarriedCanBegin, FitsFile}
use Rattle.next_laws.proofs.Names.{rise_map, names_differ, tokens_sorted}
use Rattle.next_laws.proofs.KeptRules.{version_is, RecordFacts, SessionFacts, record_facts, runs_fit, has_slot}
use Rattle.next_laws.proofs.FileSizes.{slot_facts, fits_all}
use Rattle.next_laws.proofs.FreeRuns.{may_be, as_pair, can_adopt}

-- ---- what is carried, by the records

names_are : (ram : Ram) (ss : List SessionRecord) → names_of (map (carried_session ram) ss) ≡ map (λ s. s.name) ss
names_are ram [] = refl
names_are ram (s ∷ ss) = ap (λ l. s.name ∷ l) (names_are ram ss)

many : (ram : Ram) (ss : List SessionRecord) → length (map (carried_session ram) ss) ≡ length ss
many ram [] = refl
many ram (s ∷ ss) = ap suc (many ram ss)

pub many_files : (ram : Ram) (fs : List FileRecord) → length (map (carried_file ram) fs) ≡ length fs
many_files ram [] = refl
many_files ram (f ∷ fs) = ap suc (many_files ram fs)

pub files_are : (ram : Ram) (ss : List SessionRecord) → flat_map (λ (s : CarriedSession). s.files) (map (carried_session ram) ss) ≡ map (carried_file ram) (flat_map files_of ss)
files_are ram [] = refl
files_are ram (s ∷ ss) = ap (λ l. map (carried_file ram) (files_of s) ++ l) (files_are ram ss) ∙ sym (map-append (carried_file ram) (files_of s) (flat_map files_of ss))

tokens_all : (ram : Ram) (n : ℕ) (ss : List SessionRecord) → AllByRecursion (SessionFacts n) ss → AllByRecursion (λ (s : CarriedSession). (m : ℕ) → TokensRise (numbered m s.files)) (map (carried_session ram) ss)
tokens_all ram n [] h = tt
tokens_all ram n (s ∷ ss) h = (
  λ m. tokens_sorted m (map (carried_file ram) (files_of s))
      (sym (rise_map (carried_file ram) (λ (a b : FileRecord). nat_lt a.token b.token) (λ (a b : CarriedFile). nat_lt a.token b.token) (λ a b. refl) (files_of s)) ∙ h.0.rise),
  tokens_all ram n ss h.1,
)

-- ---- no bound record

no_kind : (kind d : Kind) → is_memfd kind ≡ true → eqb 0 (kind_number d) ≡ false → same_kind kind d ≡ false
no_kind Memfd d h e = e
no_kind Dev0 d h e = absurd cc
no_kind Dev1 d h e = absurd cc
no_kind Dev2 d h e = absurd cc
no_kind Dev3 d h e = absurd cc

none_has : (ram : Ram) (d : Kind) → eqb 0 (kind_number d) ≡ false → (fs : List FileRecord) → list_all (λ (c : CarriedFile). is_memfd c.kind) (map (carried_file ram) fs) ≡ true → has_kind fs d ≡ false
none_has ram d e [] h = refl
none_has ram d e (f ∷ fs) h =
    let hs = and_parts (is_memfd f.kind) (list_all (λ (c : CarriedFile). is_memfd c.kind) (map (carried_file ram) fs)) h in
    ap (λ b. b || has_kind fs d) (no_kind f.kind d hs.0 e) ∙ none_has ram d e fs hs.1

no_bound : (n : ℕ) (b : Option BoundState) (has : Bool) → has ≡ false → is_bound_frame n b has ≡ true → b ≡ None
no_bound n None has e h = refl
no_bound n (Some b) true e h = absurd cc
no_bound n (Some b) false e h = absurd cc

no_bounds : (n : ℕ) (fs : List FileRecord) (kinds : List Kind) (bounds : List (Option BoundState)) → AllByRecursion (λ d. has_kind fs d ≡ false) kinds
    → are_bounds n fs kinds bounds ≡ true → NoBounds bounds
no_bounds n fs [] [] none h = tt
no_bounds n fs [] (b ∷ bounds) none h = absurd cc
no_bounds n fs (d ∷ kinds) [] none h = absurd cc
no_bounds n fs (d ∷ kinds) (b ∷ bounds) none h =
    let hs = and_parts (is_bound_frame n b (has_kind fs d)) (are_bounds n fs kinds bounds) h in
    (no_bound n b (has_kind fs d) none.0 hs.0, no_bounds n fs kinds bounds none.1 hs.1)

-- ---- runs

abbrev runs_in : List FileRecord → List Run
runs_in fs = flat_map file_runs fs

pairs_of : (o : ℕ) (ps : List ℕ) → map (run_of o) ps ≡ map as_pair (map (λ p. record { first = p; order = o }) ps)
pairs_of o [] = refl
pairs_of o (p ∷ ps) = ap (λ l. run_of o p ∷ l) (pairs_of o ps)

runs_are : (ram : Ram) (fs : List FileRecord) → all_runs (map (carried_file ram) fs) ≡ map as_pair (runs_in fs)
runs_are ram [] = refl
runs_are ram (f ∷ fs) =
    (λ j. pairs_of f.order (runs_of f) j ++ runs_are ram fs j) ∙ sym (map-append as_pair (file_runs f) (runs_in fs))

-- each run is of a known order, and one of n frames
runs_may : (n o : ℕ) (ps : List ℕ) → nat_le o 9 ≡ true → list_all (is_run n o) ps ≡ true → list_all (may_be n) (map (λ p. record { first = p; order = o }) ps) ≡ true
runs_may n o [] small h = refl
runs_may n o (p ∷ ps) small h =
    let hs = and_parts (is_run n o p) (list_all (is_run n o) ps) h in
    and_from (may_be n (record { first = p; order = o })) (list_all (may_be n) (map (λ p. record { first = p; order = o }) ps))
    (and_from (nat_le o 9) (is_run n o p) small hs.0) (runs_may n o ps small hs.1)

files_may : (n : ℕ) (fs : List FileRecord) → list_all (is_file n) fs ≡ true → list_all has_slot fs ≡ true → list_all (may_be n) (runs_in fs) ≡ true
files_may n [] h has = refl
files_may n (f ∷ fs) h has =
    let hs = and_parts (is_file n f) (list_all (is_file n) fs) h in
    let ss = and_parts (has_slot f) (list_all has_slot fs) has in
    list_all-append (may_be n) (file_runs f) (runs_in fs)
    ∙ and_from (list_all (may_be n) (file_runs f)) (list_all (may_be n) (runs_in fs))
    (runs_may n f.order (runs_of f) (le-leb f.order 9 (slot_facts f ss.0).order) (runs_fit n f hs.0)) (files_may n fs hs.1 ss.1)

all_slots : (n : ℕ) (ss : List SessionRecord) → AllByRecursion (SessionFacts n) ss → list_all has_slot (flat_map files_of ss) ≡ true
all_slots n [] h = refl
all_slots n (s ∷ ss) h =
    list_all-append has_slot (files_of s) (flat_map files_of ss) ∙ and_from (list_all has_slot (files_of s)) (list_all has_slot (flat_map files_of ss)) h.0.slots (all_slots n ss h.1)

all_kept : (n : ℕ) (ss : List SessionRecord) → AllByRecursion (SessionFacts n) ss → list_all (is_file n) (flat_map files_of ss) ≡ true
all_kept n [] h = refl
all_kept n (s ∷ ss) h =
    list_all-append (is_file n) (files_of s) (flat_map files_of ss) ∙ and_from (list_all (is_file n) (files_of s)) (list_all (is_file n) (flat_map files_of ss)) h.0.files (all_kept n ss h.1)

-- ---- all of it

module _ (ram : Ram) (entry : ℕ) (k : Kept) (keep : Keep ram entry k) where
  version : k.version ≡ version_1
  version = version_is ram.count keep.tree (record { version = k.version; shape = k.shape; chunk = _; luo = keep.luo }) keep.root

  pub facts : RecordFacts ram.count k.records
  facts = record_facts ram.count k.records (subst (λ v. are_records v ram.count k.records ≡ true) version keep.records.rules)

  owned : (q : ℕ) → q < ram.count → is_owned_well k q ≡ true
  owned q lt = all_at (is_owned_well k) q 0 ram.count keep.owners (omega arith) (omega (arith, lt))

  abbrev alone : List Run
  alone = map single (k.entry ∷ (record_numbers k.records ++ given (bound_frames k.bounds)))

  once : (q : ℕ) → q < ram.count → length (filter (run_holds q) (runs_in (all_files k))) ≤ 1
  once q lt =
      let one = few k q (owned q lt) in
      let two = ap length (filter-append (run_holds q) alone (runs_in (all_files k))) in
      let sum = length-append (filter (run_holds q) alone) (filter (run_holds q) (runs_in (all_files k))) in
      omega (arith, one, two, sum)

  or_right : (a b : Bool) → b ≡ true → (a || b) ≡ true
  or_right true b g = refl
  or_right false b g = g

  off : (q : ℕ) → q < ram.count → list_any (run_holds q) (runs_in (all_files k)) ≡ true → in_scratch k.shape.scratch q ≡ false
  off q lt any =
      user_off k q (owned q lt)
      (list_any-append (run_holds q) alone (runs_in (all_files k)) ∙ or_right (list_any (run_holds q) alone) (list_any (run_holds q) (runs_in (all_files k))) any)

  kept_files : list_all (is_file ram.count) (all_files k) ≡ true
  kept_files = all_kept ram.count (sessions_of k) facts.each

  pub kept_slots : list_all has_slot (all_files k) ≡ true
  kept_slots = all_slots ram.count (sessions_of k) facts.each

  all_free : k.shape.frames ≡ ram.count → CanAdopt k.shape (map as_pair (runs_in (all_files k)))
  all_free frames =
      can_adopt k.shape (runs_in (all_files k))
      (subst (λ n. list_all (may_be n) (runs_in (all_files k)) ≡ true) (sym frames) (files_may ram.count (all_files k) kept_files kept_slots))
      (λ q lt. once q (omega (arith, lt, frames)))
      (λ q lt any. off q (omega (arith, lt, frames)) any)

  can_begin : k.shape.frames ≡ ram.count → Holds ram → list_all (λ (c : CarriedFile). is_memfd c.kind) (carried_files (carried ram k)) ≡ true → CanBegin (carried ram k)
  can_begin frames holds memfds =
      let files : carried_files (carried ram k) ≡ map (carried_file ram) (all_files k) = files_are ram (sessions_of k) in
      let memfds' : list_all (λ (c : CarriedFile). is_memfd c.kind) (map (carried_file ram) (all_files k)) ≡ true = ap (list_all (λ (c : CarriedFile). is_memfd c.kind)) (sym files) ∙ memfds in
      let few = facts.few in
      let total = facts.files in
      let runs : all_runs (carried_files (carried ram k)) ≡ map as_pair (runs_in (all_files k)) = ap all_runs files ∙ runs_are ram (all_files k) in
      record {
        distinct = subst (IsDistinct same_bytes) (sym (names_are ram (sessions_of k))) (names_differ (map (λ s. s.name) (sessions_of k)) facts.rise);
        few = omega (arith, few, many ram (sessions_of k));
        files = omega (arith, total, ap length files, many_files ram (all_files k));
        tokens = tokens_all ram ram.count (sessions_of k) facts.each;
        bounds = no_bounds ram.count (all_files k) devices k.bounds
            (none_has ram Dev0 refl (all_files k) memfds', (none_has ram Dev1 refl (all_files k) memfds', (none_has ram Dev2 refl (all_files k) memfds', (none_has ram Dev3 refl (all_files k) memfds', tt))))
            keep.bounds;
        free = subst (CanAdopt k.shape) (sym runs) (all_free frames);
        fits = subst (AllByRecursion FitsFile) (sym files) (fits_all ram holds (all_files k) kept_files kept_slots);
      }

pub carried_can_begin : CarriedCanBegin
carried_can_begin ram entry f frames holds memfds c =
    subst CanBegin c.is
    (can_begin ram entry c.kept c.keep (ap (λ (x : Frozen). x.shape.frames) c.is ∙ frames) holds (subst (λ x. list_all (λ (d : CarriedFile). is_memfd d.kind) (carried_files x) ≡ true) (sym c.is) memfds))
