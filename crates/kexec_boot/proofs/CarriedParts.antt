-- What is carried, by what the program keeps of it.
use Rattle.std.proofs.Common.{◌≡◌, ℕ, zero, suc, ◌+◌, ◌*◌, ◌^◌, ◌≤◌, ◌<◌, true, false, List, [], ◌∷◌, ◌++◌, map, length, take, drop, refl, sym, ap, ◌∙◌, subst, arith, inl, inr}
use Rattle.std.specs.Prelude.{Option, Some, None, slice_index_or}
use Rattle.std.specs.List.{flat_map, list_all, AllByRecursion, All, range_with_len}
use Rattle.std.specs.FinMap as finmap
use Rattle.std.proofs.lemmas.Bool.{and_parts, cases_lt}
use Rattle.std.proofs.lemmas.List.{map-append, length-append, length-map, take_at, drop_at, drop_more, drop_all, get_or_past}
use Rattle.std.proofs.lemmas.Grind.{flat_map-append}
use Rattle.ho_base.specs.declared.limits.TheConstants.{FILE_BYTES, PAGE_BYTES}
use Rattle.ho_base.specs.declared.numbers.Kind.{Kind}
use Rattle.ho_base.specs.declared.numbers.Kind.TheVariants.{Memfd, Dev0, Dev1, Dev2, Dev3}
use Rattle.ho_base.specs.declared.numbers.Order.{Order}
use Rattle.ho_base.specs.declared.numbers.Pfn.{Pfn}
use Rattle.ho_events.specs.File.{FileState, filled}
use Rattle.ho_events.specs.Lists.{upto, firsts, pieces}
use Rattle.ho_world.specs.Frozen.{CarriedFile as FileOf, CarriedSession as SessionOf, held}
use Rattle.phys_frames.specs.Memory.{AreOf, Memory, FolioValue, first_frames}
use Rattle.pool_core.specs.PoolAdopting.{adopted_run, bytes_at}
use Rattle.record_frames.specs.Ram.{Ram, run_bytes}
use Rattle.record_frames.specs.Sheeted.{ram_of, page_bytes}
use Rattle.record_frames.specs.State.{file_in, session_in, state_in}
use Rattle.record_frames.specs.declared.carried.Carried.{Carried}
use Rattle.record_frames.specs.declared.carried.CarriedFile.{CarriedFile}
use Rattle.record_frames.specs.declared.carried.CarriedSession.{CarriedSession}
use Rattle.session_core.specs.SessionShown.{TokensRise}
use Rattle.next_laws.specs.Begins.{is_memfd, run_of, runs_with, all_runs, names_of, numbered}
use Rattle.next_laws.specs.Follows.{CanBegin, FitsFile}
use Rattle.kexec_boot.specs.Files.{plain_of, plain_in, runs_of, runs_in, bytes_with, FitsFolios, FitAll, state_with, states_with, listed_from}
use Rattle.kexec_boot.specs.Waiting.{CanWait, TokensOfAll, files_of}
use Rattle.kexec_boot.specs.declared.files.PlainFile.{PlainFile}

abbrev sessions_in : Ram → List CarriedSession → List SessionOf
sessions_in ram ss = map (session_in ram) ss

abbrev files_in : List SessionOf → List FileOf
files_in ss = flat_map (λ (s : SessionOf). s.files) ss

-- ---- counts, names and tokens

pub names_same : (ram : Ram) (ss : List CarriedSession) → names_of (sessions_in ram ss) ≡ map (λ s. s.name) ss
names_same ram [] = refl
names_same ram (s ∷ ss) = ap (λ l. s.name ∷ l) (names_same ram ss)

pub listed_same : (ram : Ram) (n : ℕ) (fs : List CarriedFile) → listed_from n fs ≡ numbered n (map (file_in ram) fs)
listed_same ram n [] = refl
listed_same ram n (f ∷ fs) = ap (λ l. (f.token, record { 0 = n }, f.handle) ∷ l) (listed_same ram (n + 1) fs)

pub count_same : (ram : Ram) (ss : List CarriedSession) → length (files_in (sessions_in ram ss)) ≡ files_of ss
count_same ram [] = refl
count_same ram (s ∷ ss) =
    length-append (map (file_in ram) s.files) (files_in (sessions_in ram ss)) ∙ (λ j. length-map s.files (file_in ram) j + count_same ram ss j)

pub files_count : (ss : List CarriedSession) → length (plain_in ss) ≡ files_of ss
files_count [] = refl
files_count (s ∷ ss) = length-append (map plain_of s.files) (plain_in ss) ∙ (λ j. length-map s.files plain_of j + files_count ss j)

tokens_same : (ram : Ram) (ss : List CarriedSession) → AllByRecursion (λ (s : SessionOf). (n : ℕ) → TokensRise (numbered n s.files)) (sessions_in ram ss) → TokensOfAll ss
tokens_same ram [] h = tt
tokens_same ram (s ∷ ss) h = (λ n. subst TokensRise (sym (listed_same ram n s.files)) (h.0 n), tokens_same ram ss h.1)

pub can_wait : (ram : Ram) (c : Carried) → CanBegin (state_in ram c) → CanWait c.sessions
can_wait ram c can =
    let few = can.few in
    let files = can.files in
    record { few = omega (arith, few, length-map c.sessions (session_in ram)); files = omega (arith, files, count_same ram c.sessions); tokens = tokens_same ram c.sessions can.tokens }

-- ---- all files in one list

abbrev all_files : List CarriedSession → List CarriedFile
all_files ss = flat_map (λ (s : CarriedSession). s.files) ss

plain_all : (ss : List CarriedSession) → plain_in ss ≡ map plain_of (all_files ss)
plain_all [] = refl
plain_all (s ∷ ss) = ap (λ l. map plain_of s.files ++ l) (plain_all ss) ∙ sym (map-append plain_of s.files (all_files ss))

runs_all : (ss : List CarriedSession) → runs_in ss ≡ flat_map runs_of (all_files ss)
runs_all [] = refl
runs_all (s ∷ ss) = ap (λ l. flat_map runs_of s.files ++ l) (runs_all ss) ∙ sym (flat_map-append runs_of s.files (all_files ss))

carried_all : (ram : Ram) (ss : List CarriedSession) → files_in (sessions_in ram ss) ≡ map (file_in ram) (all_files ss)
carried_all ram [] = refl
carried_all ram (s ∷ ss) = ap (λ l. map (file_in ram) s.files ++ l) (carried_all ram ss) ∙ sym (map-append (file_in ram) s.files (all_files ss))

-- ---- runs

runs_one : (f : CarriedFile) (ram : Ram) → runs_of f ≡ runs_with (file_in ram f)
runs_one f ram = each f.runs
  where
    each : (ps : List Pfn) → map (λ (p : Pfn). (p, f.order)) ps ≡ map (run_of f.order.0) (firsts ps)
    each [] = refl
    each (p ∷ ps) = ap (λ l. (p, f.order) ∷ l) (each ps)

runs_each : (ram : Ram) (fs : List CarriedFile) → flat_map runs_of fs ≡ all_runs (map (file_in ram) fs)
runs_each ram [] = refl
runs_each ram (f ∷ fs) = λ j. runs_one f ram j ++ runs_each ram fs j

pub runs_same : (ram : Ram) (ss : List CarriedSession) → runs_in ss ≡ all_runs (files_in (sessions_in ram ss))
runs_same ram ss = runs_all ss ∙ runs_each ram (all_files ss) ∙ ap all_runs (sym (carried_all ram ss))

-- ---- bytes of runs

same_bytes_at : (o : Option (List ℕ)) → bytes_at o ≡ page_bytes o
same_bytes_at None = refl
same_bytes_at (Some bytes) = refl

-- the bytes of some frames at their home, where those past the last one have none
none_past : (pages : List (Option (List ℕ))) (first count : ℕ) → length pages ≤ first → flat_map (λ p. page_bytes (slice_index_or pages p None)) (range_with_len first count) ≡ []
none_past pages first zero ge = refl
none_past pages first (suc count) ge = (λ j. page_bytes (get_or_past pages first None ge j) ++ none_past pages (first + 1) count (omega (arith, ge)) j)

frames_from : (pages : List (Option (List ℕ))) (first count : ℕ) → flat_map bytes_at (take count (drop first pages)) ≡ flat_map (λ p. page_bytes (slice_index_or pages p None)) (range_with_len first count)
frames_from pages first zero = refl
frames_from pages first (suc count) =
    elim (cases_lt first (length pages)) [
      | inl lt ↦
          ap (λ l. flat_map bytes_at (take (suc count) l)) (drop_more pages first None lt)
          ∙ (λ j. same_bytes_at (slice_index_or pages first None) j ++ frames_from pages (first + 1) count j)
      | inr ge ↦
          ap (λ l. flat_map bytes_at (take (suc count) l)) (drop_all first pages ge)
          ∙ sym (none_past pages first (suc count) ge)
    ]

-- ---- folios

run_taken : (m : Memory) (f : CarriedFile) (p : Pfn) → (adopted_run m (p, f.order)).bytes ≡ run_bytes (ram_of m) f.order.0 p.0
run_taken m f p = frames_from m.pages p.0 (2 ^ f.order.0)

abbrev folios_of : Memory → CarriedFile → List FolioValue
folios_of m f = map (adopted_run m) (runs_of f)

taken_bytes : (m : Memory) (f : CarriedFile) → flat_map (λ (g : FolioValue). g.bytes) (folios_of m f) ≡ flat_map (run_bytes (ram_of m) f.order.0) (firsts f.runs)
taken_bytes m f = each f.runs
  where
    each : (ps : List Pfn) → flat_map (λ (g : FolioValue). g.bytes) (map (adopted_run m) (map (λ (p : Pfn). (p, f.order)) ps)) ≡ flat_map (run_bytes (ram_of m) f.order.0) (firsts ps)
    each [] = refl
    each (p ∷ ps) = λ j. run_taken m f p j ++ each ps j

taken_firsts : (m : Memory) (f : CarriedFile) → firsts (first_frames (folios_of m f)) ≡ firsts f.runs
taken_firsts m f = each f.runs
  where
    each : (ps : List Pfn) → firsts (first_frames (map (adopted_run m) (map (λ (p : Pfn). (p, f.order)) ps))) ≡ firsts ps
    each [] = refl
    each (p ∷ ps) = ap (λ l. p.0 ∷ l) (each ps)

taken_count : (m : Memory) (f : CarriedFile) → length (folios_of m f) ≡ length f.runs
taken_count m f = length-map (runs_of f) (adopted_run m) ∙ length-map f.runs (λ (p : Pfn). (p, f.order))

taken_home : (m : Memory) (f : CarriedFile) → AreOf m.home (folios_of m f)
taken_home m f = each f.runs
  where
    each : (ps : List Pfn) → AreOf m.home (map (adopted_run m) (map (λ (p : Pfn). (p, f.order)) ps))
    each [] = tt
    each (p ∷ ps) = (refl, each ps)

taken_order : (m : Memory) (f : CarriedFile) → All (λ (g : FolioValue). g.order ≡ f.order) (folios_of m f)
taken_order m f = each f.runs
  where
    each : (ps : List Pfn) → All (λ (g : FolioValue). g.order ≡ f.order) (map (adopted_run m) (map (λ (p : Pfn). (p, f.order)) ps))
    each [] = λ k d lt. absurd (omega (arith, lt))
    each (p ∷ ps) = λ k d lt. at k d lt (each ps)
      where
        at : (k : ℕ) (d : FolioValue) → k < length (map (adopted_run m) (map (λ (q : Pfn). (q, f.order)) (p ∷ ps))) → All (λ (g : FolioValue). g.order ≡ f.order) (map (adopted_run m) (map (λ (q : Pfn). (q, f.order)) ps))
            → (slice_index_or (map (adopted_run m) (map (λ (q : Pfn). (q, f.order)) (p ∷ ps))) k d).order ≡ f.order
        at zero d lt rest = refl
        at (suc k) d lt rest = rest k d (omega (arith, lt))

-- a file can be held with the folios of its runs
one_fits : (m : Memory) (f : CarriedFile) → FitsFile (file_in (ram_of m) f) → FitsFolios m.home (plain_of f) (folios_of m f)
one_fits m f fits =
    let same : length (bytes_with (plain_of f) (folios_of m f)) ≡ length (file_in (ram_of m) f).bytes = ap (λ bytes. length (take f.size bytes)) (taken_bytes m f) in
    let many : length (folios_of m f) ≡ length (firsts f.runs) = taken_count m f ∙ sym (length-map f.runs (λ (r : Pfn). r.0)) in
    record {
      small = fits.small;
      of_home = taken_home m f;
      of_order = taken_order m f;
      number = taken_count m f;
      count = many ∙ fits.count ∙ ap (λ n. pieces n (PAGE_BYTES * 2 ^ f.order.0)) (sym same);
      within = subst (λ n. n ≤ FILE_BYTES) (sym same) fits.within;
      position = subst (λ n. f.position ≤ n) (sym same) fits.position;
    }

-- the first file's folios, and those of the others
folios_first : (m : Memory) (f : CarriedFile) (fs : List CarriedFile) → map (adopted_run m) (flat_map runs_of (f ∷ fs)) ≡ folios_of m f ++ map (adopted_run m) (flat_map runs_of fs)
folios_first m f fs = map-append (adopted_run m) (runs_of f) (flat_map runs_of fs)

module _ (m : Memory) (f : CarriedFile) (rest : List FolioValue) where
  front_is : take (length f.runs) (folios_of m f ++ rest) ≡ folios_of m f
  front_is = take_at (folios_of m f) rest (length f.runs) (taken_count m f)

  back_is : drop (length f.runs) (folios_of m f ++ rest) ≡ rest
  back_is = drop_at (folios_of m f) rest (length f.runs) (taken_count m f)

fit_each : (m : Memory) (fs : List CarriedFile) → AllByRecursion FitsFile (map (file_in (ram_of m)) fs) → FitAll m.home (map plain_of fs) (map (adopted_run m) (flat_map runs_of fs))
unfolding FitAll
fit_each m [] h = refl
fit_each m (f ∷ fs) h =
    let rest : List FolioValue = map (adopted_run m) (flat_map runs_of fs) in
    subst (λ (l : List FolioValue). FitAll m.home (map plain_of (f ∷ fs)) l) (sym (folios_first m f fs))
    (subst (FitsFolios m.home (plain_of f)) (sym (front_is m f rest)) (one_fits m f h.0), subst (FitAll m.home (map plain_of fs)) (sym (back_is m f rest)) (fit_each m fs h.1))

pub all_fit : (m : Memory) (ss : List CarriedSession) → AllByRecursion FitsFile (files_in (sessions_in (ram_of m) ss)) → FitAll m.home (plain_in ss) (map (adopted_run m) (runs_in ss))
all_fit m ss h =
    subst (λ (l : List PlainFile). FitAll m.home l (map (adopted_run m) (runs_in ss))) (sym (plain_all ss))
    (subst (λ (l : List (Pfn × Order)). FitAll m.home (map plain_of (all_files ss)) (map (adopted_run m) l)) (sym (runs_all ss))
    (fit_each m (all_files ss) (subst (AllByRecursion FitsFile) (carried_all (ram_of m) ss) h)))

-- ---- states

memfd_is : (k : Kind) → is_memfd k ≡ true → Memfd ≡ k
memfd_is Memfd h = refl
memfd_is Dev0 h = absurd cc
memfd_is Dev1 h = absurd cc
memfd_is Dev2 h = absurd cc
memfd_is Dev3 h = absurd cc

abbrev state_by : Kind → ℕ → List ℕ → ℕ → ℕ → List ℕ → Option FileState
state_by kind order bytes position n runs =
    Some (record { kind = kind; order = order; bytes = bytes; position = position; runs = filled (upto n) runs finmap.empty; opened = false; pin = false; hold = true })

one_state : (m : Memory) (f : CarriedFile) → is_memfd f.kind ≡ true → state_with (plain_of f) (folios_of m f) ≡ Some (held (file_in (ram_of m) f))
one_state m f h =
    let many : length (folios_of m f) ≡ length (firsts f.runs) = taken_count m f ∙ sym (length-map f.runs (λ (r : Pfn). r.0)) in
    λ j. state_by (memfd_is f.kind h j) f.order.0 (take f.size (taken_bytes m f j)) f.position (many j) (taken_firsts m f j)

states_each : (m : Memory) (fs : List CarriedFile) → list_all (λ (c : FileOf). is_memfd c.kind) (map (file_in (ram_of m)) fs) ≡ true
    → states_with (map plain_of fs) (map (adopted_run m) (flat_map runs_of fs)) ≡ map (λ (c : FileOf). Some (held c)) (map (file_in (ram_of m)) fs)
unfolding states_with
states_each m [] h = refl
states_each m (f ∷ fs) h =
    let rest : List FolioValue = map (adopted_run m) (flat_map runs_of fs) in
    let hs = and_parts (is_memfd f.kind) (list_all (λ (c : FileOf). is_memfd c.kind) (map (file_in (ram_of m)) fs)) h in
    ap (states_with (map plain_of (f ∷ fs))) (folios_first m f fs)
    ∙ (λ j. state_with (plain_of f) (front_is m f rest j) ∷ states_with (map plain_of fs) (back_is m f rest j))
    ∙ (λ j. one_state m f hs.0 j ∷ states_each m fs hs.1 j)

pub states_same : (m : Memory) (ss : List CarriedSession) → list_all (λ (c : FileOf). is_memfd c.kind) (files_in (sessions_in (ram_of m) ss)) ≡ true
    → states_with (plain_in ss) (map (adopted_run m) (runs_in ss)) ≡ map (λ (c : FileOf). Some (held c)) (files_in (sessions_in (ram_of m) ss))
states_same m ss h =
    (λ j. states_with (plain_all ss j) (map (adopted_run m) (runs_all ss j)))
    ∙ states_each m (all_files ss) (ap (list_all (λ (c : FileOf). is_memfd c.kind)) (sym (carried_all (ram_of m) ss)) ∙ h)
    ∙ ap (map (λ (c : FileOf). Some (held c))) (sym (carried_all (ram_of m) ss))
