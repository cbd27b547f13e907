-- The chain of chunk frames, and the set of runs that it marks.
use Rattle.std.specs.Prelude.{◌≡◌, ◌≢◌, ◌↔◌, ℕ, ◌<◌, ◌≤◌, true, List, [], ◌∷◌, ◌++◌, length, unwrap_or, IsTrue}
use Rattle.std.specs.List.{All, AllPairs, Contains, flat_map}
use Rattle.std.specs.FinSet as set
use Rattle.phys_frames.specs.Memory.{Memory, page_at}
use Rattle.folio_bitmaps.specs.Runs.{Run, Runs}
use Rattle.folio_bitmaps.specs.Bitmaps.{is_set}
use Rattle.folio_bitmaps.specs.Chunks.{Element, elements_of, next_of, IsChunk, IsElement, Rises, run_of}

-- the bytes of frame p
abbrev pub page_of : Memory → ℕ → List ℕ
page_of m p = unwrap_or (page_at m (record { 0 = p })) []

-- From the number `first` on these frames follow each other: the next of each is the number of the frame after it, and the
-- next of the last is `last`.
abbrev pub Leads : Memory → ℕ → List ℕ → ℕ → Type 0
Leads m first [] last = first ≡ last
Leads m first (p ∷ chunks) last = (first ≡ p) × Leads m (next_of (page_of m p)) chunks last

-- the elements of chunk frames, in order
abbrev pub all_elements : Memory → List ℕ → List Element
all_elements m chunks = flat_map (λ p. elements_of (page_of m p)) chunks

-- these frames keep the rules of a chain: each is 1 to n - 1 and stands once, and (order, base) rise over all of them
pub record AreChunks (m : Memory) (chunks : List ℕ) : Type 0 where
  pub numbers : All (λ p. (1 ≤ p) × (p < length m.pages)) chunks
  pub once : AllPairs (λ p q. p ≢ q) chunks
  pub shaped : All (λ p. IsChunk (page_of m p)) chunks
  pub elements : All (IsElement (length m.pages)) (all_elements m chunks)
  pub rising : AllPairs Rises (all_elements m chunks)

-- a chain: some chunk frames, the last of which has no next
pub record IsChain (m : Memory) (first : ℕ) (chunks : List ℕ) : Type 0 where
  pub some : 0 < length chunks
  pub leads : Leads m first chunks 0
  pub rules : AreChunks m chunks

-- a bit of an element is set that stands for the run
pub record IsMarkedIn (elements : List Element) (r : Run) : Type 0 where
  pub element : Element
  pub there : Contains elements element
  pub bit : ℕ
  pub small : bit < 4096
  pub is_one : is_set element.bits bit ≡ true
  pub same : run_of element bit ≡ r

-- the chain from `first` on has these chunk frames, and marks these runs
pub record HasMarks (m : Memory) (first : ℕ) (chunks : List ℕ) (runs : Runs) : Type 0 where
  pub chain : IsChain m first chunks
  pub marks : (r : Run) → IsTrue (set.contains runs r) ↔ IsMarkedIn (all_elements m chunks) r

-- p is the first number from `first` on that breaks a rule: with it the frames before it break one, and without it none;
-- a next of 0 breaks none
pub record BreaksAt (m : Memory) (first p : ℕ) : Type 0 where
  pub before : List ℕ
  pub leads : Leads m first before p
  pub goes_on : 0 < length before → p ≢ 0
  pub rules : AreChunks m before
  pub broken : ¬ (AreChunks m (before ++ p ∷ []))
