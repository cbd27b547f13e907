-- Frames of which more and more are home.
use Rattle.std.proofs.Common.{◌≡◌, ℕ, ◌+◌, ◌*◌, ◌^◌, ◌<◌, Bool, true, false, cond, List, [], ◌∷◌, ◌++◌, length, map, take, drop, refl, sym, ap, subst, ◌∙◌, arith, get_or-set_same, zero, suc, append_assoc, length-append, slice_index_or}
use Rattle.std.specs.Prelude.{Option, None, Some}
use Rattle.std.specs.FinMap as finmap
use Rattle.std.specs.FinMap.{find}
use Rattle.std.specs.List.{All, AllByRecursion}
use Rattle.std.specs.Ordering.{nat_cmp, eq_by_cmp}
use Rattle.std.proofs.lemmas.List.{append-nil, get_or_append_left, get_or-take, get_or-drop}
use Rattle.std.proofs.lemmas.Nat.{pow_pos}
use Rattle.std.proofs.lemmas.Bool.Decides.{nat_tests}
use Rattle.std.proofs.Math.Seq.{drop-drop}
use native.Mathlib.Nat.{zero-mul, suc-mul}
use Rattle.ho_base.specs.declared.limits.TheConstants.{PAGE_BYTES}
use Rattle.ho_events.specs.File.{FileState}
use Rattle.file_folios.specs.FileAnswers.{folio_at}
use Rattle.file_folios.specs.Slots.{with_folios, AreOut}
use Rattle.phys_frames.proofs.Homes.{given_count, given_others, given_run, one_given}
use Rattle.phys_frames.specs.Homes.{HomeId}
use Rattle.phys_frames.specs.Memory.{Memory, FolioValue, RunOut, frames_in, page_at, with_folio}
use Rattle.phys_frames.specs.Pages.{chunks}
use Rattle.machine_core.specs.Gathered.{HasMore, HoldsRun, piece_of}

pub same_more : (m : Memory) → HasMore m m
same_more m = record { home = refl; count = refl; kept = λ p bytes h. h }

pub more_still : (a b c : Memory) → HasMore a b → HasMore b c → HasMore a c
more_still a b c h k = record {
  home = k.home ∙ h.home;
  count = k.count ∙ h.count;
  kept = λ p bytes e. k.kept p bytes (h.kept p bytes e);
}

-- a page that is home isn't out
clash : (x : Option (List ℕ)) (bytes : List ℕ) → x ≡ None → x ≡ Some bytes → ⊥
clash x bytes e h = cc

-- a folio comes home, which was out
pub folio_more : (m : Memory) (f : FolioValue) → RunOut m f.first f.order → HasMore m (with_folio m f)
folio_more m f out = record {
  home = refl;
  count = given_count m f out.0;
  kept = λ q b h. given_others m f q out.0 (λ inside. clash (page_at m q) b (out.1 q.0 None inside.0 inside.1) h) ∙ h;
}

pub folio_there : (m : Memory) (f : FolioValue) → RunOut m f.first f.order → length f.bytes ≡ frames_in f.order * PAGE_BYTES → f.order.0 ≡ 0 → page_at (with_folio m f) f.first ≡ Some f.bytes
folio_there m f out long none =
    let within : f.first.0 < length m.pages = omega (arith, out.0, pow_pos f.order.0) in
    let page : length f.bytes ≡ PAGE_BYTES = long ∙ ap (λ n. 2 ^ n * PAGE_BYTES) none in
    ap (λ n. page_at n f.first) (one_given m f none within page) ∙ get_or-set_same m.pages f.first.0 (Some f.bytes) None within

-- a page of the pages of bytes
page_in : (p n : ℕ) (bytes : List ℕ) (j : ℕ) → j < n → slice_index_or (map Some (chunks p n bytes)) j None ≡ Some (take p (drop (j * p) bytes))
page_in p zero bytes j lt = absurd (omega arith)
page_in p (suc n) bytes zero lt = ap (λ k. Some (take p (drop k bytes))) (sym (zero-mul p))
page_in p (suc n) bytes (suc j) lt =
    page_in p n (drop p bytes) j (omega arith) ∙ ap (λ l. Some (take p l)) (drop-drop (j * p) p bytes ∙ ap (λ k. drop k bytes) (omega (arith, suc-mul j p)))

pub run_there : (m : Memory) (f : FolioValue) → RunOut m f.first f.order → HoldsRun (with_folio m f) f.order.0 f.first.0 f.bytes
run_there m f out j lt =
    sym (get_or-take (frames_in f.order) (drop f.first.0 (with_folio m f).pages) j None lt ∙ get_or-drop f.first.0 (with_folio m f).pages j None)
    ∙ ap (λ l. slice_index_or l j None) (given_run m f out.0) ∙ page_in PAGE_BYTES (frames_in f.order) f.bytes j lt

pub run_stays : (order first : ℕ) (bytes : List ℕ) (a b : Memory) → HasMore a b → HoldsRun a order first bytes → HoldsRun b order first bytes
run_stays order first bytes a b more h = λ j lt. more.kept (record { 0 = first + j }) (take PAGE_BYTES (drop (j * PAGE_BYTES) bytes)) (h j lt)

-- folios come home one after the other, which were out
pub folios_more : (m : Memory) (folios : List FolioValue) → AreOut m folios → HasMore m (with_folios m folios)
unfolding with_folios
folios_more m [] out = same_more m
folios_more m (f ∷ folios) out = more_still m (with_folio m f) (with_folios (with_folio m f) folios) (folio_more m f out.0) (folios_more (with_folio m f) folios out.1)

module _ (f : FileState) (home : HomeId) where
  abbrev of_run : ℕ × ℕ → FolioValue
  of_run = folio_at f home

  runs_there : (m : Memory) (es : List (ℕ × ℕ)) → AreOut m (map of_run es) → AllByRecursion (λ (e : ℕ × ℕ). HoldsRun (with_folios m (map of_run es)) f.order e.1 (piece_of f e.0)) es
  unfolding with_folios
  runs_there m [] out = tt
  runs_there m (e ∷ es) out = (
    run_stays f.order e.1 (piece_of f e.0) (with_folio m (of_run e)) (with_folios (with_folio m (of_run e)) (map of_run es)) (folios_more (with_folio m (of_run e)) (map of_run es) out.1) (run_there m (of_run e) out.0),
    runs_there (with_folio m (of_run e)) es out.1,
  )

-- what holds of all entries holds of the one that is found
found_entry : (P : ℕ × ℕ → Type 0) (es : List (ℕ × ℕ)) (i p : ℕ) → AllByRecursion P es → find nat_cmp i es ≡ Some p → P (i, p)
found_entry P [] i p h at = absurd cc
found_entry P (e ∷ es) i p h at = go (found_entry P es i p h.1) (eq_by_cmp nat_cmp i e.0) refl at
  where
    same_first : Some e.1 ≡ Some p → e.1 ≡ p
    same_first k = cc

    same_key : eq_by_cmp nat_cmp i e.0 ≡ true → e.0 ≡ i
    same_key t = grind (arith, nat_tests)

    go : (find nat_cmp i es ≡ Some p → P (i, p)) → (b : Bool) → eq_by_cmp nat_cmp i e.0 ≡ b → cond b (Some e.1) (find nat_cmp i es) ≡ Some p → P (i, p)
    go more true t k = subst P (λ n. (same_key t n, same_first k n)) h.0
    go more false t k = more k

-- each run of a file that came home is so with what the file has at the run's index
pub file_runs : (m : Memory) (f : FileState) (home : HomeId) (i first : ℕ) → AreOut m (map (folio_at f home) (finmap.entries f.runs)) → finmap.get f.runs i ≡ Some first → HoldsRun (with_folios m (map (folio_at f home) (finmap.entries f.runs))) f.order first (piece_of f i)
file_runs m f home i first out at =
    found_entry (λ (e : ℕ × ℕ). HoldsRun (with_folios m (map (folio_at f home) (finmap.entries f.runs))) f.order e.1 (piece_of f e.0)) (finmap.entries f.runs) i first
    (runs_there f home m (finmap.entries f.runs) out) (sym (finmap.get-entries f.runs i) ∙ at)

-- a fact of each element of a list and of frames
abbrev pub Each : {X : Type 0} → (X → Memory → Type 0) → List X → Memory → Type 0
Each P [] m = Unit {0}
Each P (x ∷ xs) m = P x m × Each P xs m

-- elements were taken off the end of a list, and brought frames home: those that are gone keep their fact
pub record Came {X : Type 0} (P : X → Memory → Type 0) (all left : List X) (old new : Memory) : Type 0 where
  pub more : HasMore old new
  pub gone : List X
  pub whole : all ≡ left ++ gone
  pub held : Each P gone new

pub none_came : {X : Type 0} (P : X → Memory → Type 0) (all : List X) (m : Memory) → Came P all all m m
none_came P all m = record { more = same_more m; gone = []; whole = sym (append-nil all); held = tt }

each_still : {X : Type 0} (P : X → Memory → Type 0) → ((x : X) (a b : Memory) → HasMore a b → P x a → P x b) → (xs : List X) (a b : Memory) → HasMore a b → Each P xs a → Each P xs b
each_still P stays [] a b more h = tt
each_still P stays (x ∷ xs) a b more h = (stays x a b more h.0, each_still P stays xs a b more h.1)

regroup : {X : Type 0} (xs : List X) (x : X) (ys : List X) → (xs ++ x ∷ []) ++ ys ≡ xs ++ (x ∷ ys)
regroup xs x ys = simp append_assoc

pub one_came : {X : Type 0} (P : X → Memory → Type 0) → ((x : X) (a b : Memory) → HasMore a b → P x a → P x b) → (all left rest : List X) (x : X) (old m n : Memory) → left ≡ rest ++ x ∷ [] → Came P all left old m → HasMore m n → P x n → Came P all rest old n
one_came P stays all left rest x old m n popped came more held = record {
  more = more_still old m n came.more more;
  gone = x ∷ came.gone;
  whole = came.whole ∙ ap (λ l. l ++ came.gone) popped ∙ regroup rest x came.gone;
  held = (held, each_still P stays came.gone m n more came.held);
}

no_items : {X : Type 0} (xs : List X) → length xs ≡ 0 → xs ≡ []
no_items [] h = refl
no_items (x ∷ xs) h = absurd (omega arith)

pub all_came : {X : Type 0} (P : X → Memory → Type 0) (all left : List X) (old new : Memory) → length left ≡ 0 → Came P all left old new → Each P all new
all_came P all left old new none came = subst (λ l. Each P l new) (sym (came.whole ∙ ap (λ l. l ++ came.gone) (no_items left none))) came.held

pub each_at : {X : Type 0} (P : X → Memory → Type 0) (xs : List X) (m : Memory) → Each P xs m → All (λ x. P x m) xs
each_at P [] m h k d below = absurd omega (arith, below)
each_at P (x ∷ xs) m h zero d below = h.0
each_at P (x ∷ xs) m h (suc k) d below = each_at P xs m h.1 k d (omega (arith, below))

-- what holds of all elements holds of those before the last
pub all_but_last : {X : Type 0} (P : X → Type 0) (all left : List X) (x : X) → all ≡ left ++ x ∷ [] → All P all → All P left
all_but_last P all left x whole h k d below =
    subst P (ap (λ l. slice_index_or l k d) whole ∙ get_or_append_left left (x ∷ []) d k below)
    (h k d (omega (arith, below, ap length whole, length-append left (x ∷ []))))
