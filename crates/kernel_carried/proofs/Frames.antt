-- What the runs of files hold: from frames that came home to the bytes of whole files.
use Rattle.std.proofs.Common.{◌≡◌, ℕ, zero, suc, ◌+◌, ◌-◌, ◌*◌, ◌^◌, ◌<◌, ◌≤◌, Bool, true, false, cond, T, List, [], ◌∷◌, ◌++◌, length, map, take, drop, replicate, is_some, refl, ap, sym, ◌∙◌, subst, arith, take-add, take-take, drop-drop, inl, inr}
use Rattle.std.specs.Prelude.{Option, None, Some, nat_lt, ◌⊎◌}
use Rattle.std.specs.FinMap as finmap
use Rattle.std.specs.FinMap.{find, is_sorted}
use Rattle.std.specs.FinMap.Entries.{below_all}
use Rattle.std.specs.List.{AllByRecursion, flat_map, range_with_len}
use Rattle.std.specs.Ordering.{nat_cmp, eq_by_cmp, is_lt}
use Rattle.std.proofs.lemmas.Bool.{and_parts}
use Rattle.std.proofs.lemmas.Bool.Decides.{nat_tests}
use Rattle.std.proofs.lemmas.Nat.{pow_pos}
use Rattle.std.proofs.Math.Seq.{take-append_seam}
use native.Mathlib.Nat.{zero-mul, suc-mul}
use Rattle.ho_base.specs.declared.limits.TheConstants.{PAGE_BYTES}
use Rattle.ho_events.specs.File.{FileState, extended, index_bytes, runs_of}
use Rattle.ho_events.specs.Lists.{pieces}
use Rattle.file_folios.proofs.Extended.{pieces_enough}
use Rattle.phys_frames.specs.Memory.{Memory}
use Rattle.machine_core.specs.declared.object.Object as object
use Rattle.machine_core.specs.Gathered.{HoldsFiles, HoldsRun, piece_of}
use Rattle.record_frames.specs.Ram.{Ram, run_bytes}
use Rattle.record_frames.specs.Sheeted.{page_bytes, ram_of}
use Rattle.kernel_carried.specs.Gathered.{HasAllRuns, HoldsFilesIn, HoldsRuns}

-- ---- frames that came home

-- pages one after the other are the bytes that they were cut from
pages_join : (page : ℕ → List ℕ) (p n first : ℕ) (bytes : List ℕ) → ((j : ℕ) → j < n → page (first + j) ≡ take p (drop (j * p) bytes)) → flat_map page (range_with_len first n) ≡ take (n * p) bytes
pages_join page p zero first bytes h = ap (λ k. take k bytes) (sym (zero-mul p))
pages_join page p (suc n) first bytes h =
    let here : first + 0 ≡ first = omega arith in
    let head : page first ≡ take p bytes = ap page (sym here) ∙ h 0 (omega arith) ∙ ap (λ k. take p (drop k bytes)) (zero-mul p) in
    let next : (j : ℕ) → first + 1 + j ≡ first + suc j = λ j. omega arith in
    let later : (j : ℕ) → p + j * p ≡ suc j * p = λ j. omega (arith, suc-mul j p) in
    let whole : p + n * p ≡ suc n * p = omega (arith, suc-mul n p) in
    let rest : flat_map page (range_with_len (first + 1) n) ≡ take (n * p) (drop p bytes) =
    pages_join page p n (first + 1) (drop p bytes) (λ j lt. ap page (next j) ∙ h (suc j) (omega (arith, lt)) ∙ ap (take p) (ap (λ k. drop k bytes) (sym (later j)) ∙ sym (drop-drop (j * p) p bytes))) in
    (λ i. head i ++ rest i) ∙ sym (take-add p (n * p) bytes) ∙ ap (λ k. take k bytes) whole

run_held : (m : Memory) (order first : ℕ) (bytes : List ℕ) → HoldsRun m order first bytes → run_bytes (ram_of m) order first ≡ take (2 ^ order * PAGE_BYTES) bytes
run_held m order first bytes h = pages_join (ram_of m).page PAGE_BYTES (2 ^ order) first bytes (λ j lt. ap page_bytes (h j lt))

piece_whole : (f : FileState) (i : ℕ) → take (2 ^ f.order * PAGE_BYTES) (piece_of f i) ≡ piece_of f i
piece_whole f i =
    let turned : 2 ^ f.order * PAGE_BYTES ≡ index_bytes f = omega arith in
    ap (λ k. take k (piece_of f i)) turned ∙ take-take (index_bytes f) (index_bytes f) _ (omega arith)

-- where the runs of all files are home, the frames hold the files' bytes
pub holds_files : (m : Memory) (objects : List (Option object.Object)) → HoldsFiles m objects → HoldsFilesIn (ram_of m) objects
holds_files m objects h n None is = tt
holds_files m objects h n (Some f) is = λ i first at. run_held m f.order first (piece_of f i) (h n f i first is at) ∙ piece_whole f i

-- ---- the bytes of a whole file

no_fact : (b : Bool) → false ≡ b → b ≡ true → ⊥
no_fact b e h = cc

less_than : (a b : ℕ) → is_lt (nat_cmp a b) ≡ true → a < b
less_than a b h = grind (arith, nat_tests)

-- keys that rise
abbrev From : ℕ → List (ℕ × ℕ) → Type 0
From k es = AllByRecursion (λ (e : ℕ × ℕ). k ≤ e.0) es

from_next : (k : ℕ) (es : List (ℕ × ℕ)) → below_all nat_cmp k es ≡ true → From (k + 1) es
from_next k [] h = tt
from_next k (e ∷ es) h =
    let hs = and_parts (is_lt (nat_cmp k e.0)) (below_all nat_cmp k es) h in
    let less : k < e.0 = less_than k e.0 hs.0 in
    (omega (arith, less), from_next k es hs.1)

none_below : (k : ℕ) (es : List (ℕ × ℕ)) → From (k + 1) es → find nat_cmp k es ≡ None
none_below k [] h = refl
none_below k (e ∷ es) h = ap (λ b. cond b (Some e.1) (find nat_cmp k es)) (other k e.0 h.0) ∙ none_below k es h.1
  where
    other : (k n : ℕ) → k + 1 ≤ n → eq_by_cmp nat_cmp k n ≡ false
    other k n less = grind (arith, nat_tests)

itself : (k : ℕ) → eq_by_cmp nat_cmp k k ≡ true
itself k = grind (arith, nat_tests)

-- an entry further behind is found without the first
found_behind : (e : ℕ × ℕ) (es : List (ℕ × ℕ)) (i : ℕ) → e.0 + 1 ≤ i → find nat_cmp i (e ∷ es) ≡ find nat_cmp i es
found_behind e es i more = ap (λ b. cond b (Some e.1) (find nat_cmp i es)) (other i e.0 more)
  where
    other : (i n : ℕ) → n + 1 ≤ i → eq_by_cmp nat_cmp i n ≡ false
    other i n more = grind (arith, nat_tests)

module _ (ram : Ram) (order size n : ℕ) (all : List ℕ) where
  -- the entries have all keys from this one on, and their runs hold the pieces of the bytes
  record Whole (k : ℕ) (es : List (ℕ × ℕ)) : Type 0 where
    sorted : is_sorted nat_cmp es ≡ true
    from : From k es
    each : (i : ℕ) → k ≤ i → is_some (find nat_cmp i es) ≡ nat_lt i n
    held : (i first : ℕ) → k ≤ i → find nat_cmp i es ≡ Some first → run_bytes ram order first ≡ take size (drop (i * size) all)

  is_below : (i : ℕ) → nat_lt i n ≡ true → i < n
  is_below i h = grind (arith, nat_tests)

  -- the first key is the one from which the keys are
  first_key : (k : ℕ) (e : ℕ × ℕ) (es : List (ℕ × ℕ)) → Whole k (e ∷ es) → (e.0 ≡ k) × (k < n)
  first_key k e es w = (go (eq_by_cmp nat_cmp k e.0) refl, low)
    where
      there : is_some (find nat_cmp e.0 (e ∷ es)) ≡ true
      there = ap (λ b. is_some (cond b (Some e.1) (find nat_cmp e.0 es))) (itself e.0)

      low : k < n
      low = let last : e.0 < n = is_below e.0 (sym (w.each e.0 w.from.0) ∙ there) in omega (arith, last, w.from.0)

      same : eq_by_cmp nat_cmp k e.0 ≡ true → e.0 ≡ k
      same t = grind (arith, nat_tests)

      behind : e.0 ≡ k ⊎ (k + 1 ≤ e.0)
      behind = apart k e.0 w.from.0
        where
          apart : (k e : ℕ) → k ≤ e → (e ≡ k) ⊎ (k + 1 ≤ e)
          apart k e h = grind arith

      none : k + 1 ≤ e.0 → find nat_cmp k (e ∷ es) ≡ None
      none h = none_below k (e ∷ es) (h, higher es (from_next e.0 es (and_parts (below_all nat_cmp e.0 es) (is_sorted nat_cmp es) w.sorted).0))
        where
          higher : (ds : List (ℕ × ℕ)) → From (e.0 + 1) ds → From (k + 1) ds
          higher [] a = tt
          higher (d ∷ ds) a = (omega (arith, a.0, h), higher ds a.1)

      below : nat_lt k n ≡ true
      below = grind (arith, nat_tests, low)

      go : (b : Bool) → eq_by_cmp nat_cmp k e.0 ≡ b → e.0 ≡ k
      go true t = same t
      go false t = by behind
        where
          by : (e.0 ≡ k) ⊎ (k + 1 ≤ e.0) → e.0 ≡ k
          by (inl h) = h
          by (inr h) = absurd (no_fact (nat_lt k n) (sym (ap is_some (none h)) ∙ w.each k (omega arith)) below)

  behind_first : (k : ℕ) (e : ℕ × ℕ) (es : List (ℕ × ℕ)) → e.0 ≡ k → Whole k (e ∷ es) → Whole (k + 1) es
  behind_first k e es same w =
      let hs = and_parts (below_all nat_cmp e.0 es) (is_sorted nat_cmp es) w.sorted in
      record {
        sorted = hs.1;
        from = subst (λ m. From (m + 1) es) same (from_next e.0 es hs.0);
        each = λ i more. ap is_some (sym (found_behind e es i (omega (arith, same, more)))) ∙ w.each i (omega (arith, more));
        held = λ i first more at. w.held i first (omega (arith, more)) (found_behind e es i (omega (arith, same, more)) ∙ at);
      }

  pieces_join : (k : ℕ) (es : List (ℕ × ℕ)) → Whole k es → k ≤ n → flat_map (run_bytes ram order) (map (λ (e : ℕ × ℕ). e.1) es) ≡ take ((n - k) * size) (drop (k * size) all)
  pieces_join k [] w le =
      let none : n - k ≡ 0 = at_end (nat_lt k n) refl in
      sym (ap (λ m. take (m * size) (drop (k * size) all)) none ∙ ap (λ m. take m (drop (k * size) all)) (zero-mul size))
    where
      at_end : (b : Bool) → nat_lt k n ≡ b → n - k ≡ 0
      at_end true t = absurd (no_fact (nat_lt k n) (w.each k (omega arith)) t)
      at_end false t = grind (arith, nat_tests, le)
  pieces_join k (e ∷ es) w le =
      let f = first_key k e es w in
      let more : k + 1 ≤ n = omega (arith, f.1) in
      let rest : flat_map (run_bytes ram order) (map (λ (e : ℕ × ℕ). e.1) es) ≡ take ((n - (k + 1)) * size) (drop ((k + 1) * size) all) = pieces_join (k + 1) es (behind_first k e es f.0 w) more in
      let at : find nat_cmp k (e ∷ es) ≡ Some e.1 = ap (λ b. cond b (Some e.1) (find nat_cmp k es)) (ap (eq_by_cmp nat_cmp k) f.0 ∙ itself k) in
      let head : run_bytes ram order e.1 ≡ take size (drop (k * size) all) = w.held k e.1 (omega arith) at in
      let step : k * size + size ≡ (k + 1) * size = omega (arith, suc-mul k size) in
      let count : suc (n - (k + 1)) ≡ n - k = omega (arith, more) in
      let whole : size + (n - (k + 1)) * size ≡ (n - k) * size = omega (arith, suc-mul (n - (k + 1)) size) ∙ ap (λ m. m * size) count in
      (λ i. head i ++ (rest ∙ ap (λ m. take ((n - (k + 1)) * size) (drop m all)) (sym step) ∙ ap (take ((n - (k + 1)) * size)) (sym (drop-drop size (k * size) all))) i)
      ∙ sym (take-add size ((n - (k + 1)) * size) (drop (k * size) all)) ∙ ap (λ m. take m (drop (k * size) all)) whole

sorted_runs : (f : FileState) → is_sorted nat_cmp (finmap.entries f.runs) ≡ true
sorted_runs f = truth _ (finmap.entries_sorted f.runs)
  where
    truth : (b : Bool) → T b → b ≡ true
    truth true t = refl
    truth false t = absurd t

any_from : (es : List (ℕ × ℕ)) → From 0 es
any_from [] = tt
any_from (e ∷ es) = (omega arith, any_from es)

some_bytes : (f : FileState) → 0 < index_bytes f
some_bytes f = omega (arith, pow_pos f.order)

-- a file that has all its runs is cut from what they hold
pub whole_bytes : (ram : Ram) (f : FileState) → HasAllRuns (Some f) → HoldsRuns ram (Some f) → take (length f.bytes) (flat_map (run_bytes ram f.order) (runs_of f)) ≡ f.bytes
whole_bytes ram f runs held =
    let n : ℕ = pieces (length f.bytes) (index_bytes f) in
    let all : List ℕ = extended (n * index_bytes f) f.bytes in
    let enough : length f.bytes ≤ n * index_bytes f = pieces_enough (length f.bytes) (index_bytes f) (some_bytes f) in
    let joined = pieces_join ram f.order (index_bytes f) n all 0 (finmap.entries f.runs)
    (record {
      sorted = sorted_runs f;
      from = any_from (finmap.entries f.runs);
      each = λ i more. ap is_some (sym (finmap.get-entries f.runs i)) ∙ runs i;
      held = λ i first more at. held i first (finmap.get-entries f.runs i ∙ at);
    }) (omega arith) in
    let from_all : n - 0 ≡ n = omega arith in
    ap (take (length f.bytes)) (joined ∙ (λ i. take (from_all i * index_bytes f) (drop (zero-mul (index_bytes f) i) all)))
    ∙ take-take (length f.bytes) (n * index_bytes f) all enough
    ∙ take-append_seam f.bytes (replicate (n * index_bytes f - length f.bytes) 0)
