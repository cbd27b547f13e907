-- The set of a machine's free frames. A list has for each frame whether it is free.
use Rattle.std.specs.Prelude.{◌≡◌, ◌⊎◌, ℕ, ◌+◌, ◌%◌, ◌^◌, ◌<◌, ◌≤◌, Bool, true, false, ◌&&◌, ◌==◌, not, nat_lt, List, [], ◌∷◌, ◌++◌, map, length, take, drop, replicate, slice_index_or, count_by}
use Rattle.std.specs.List.{range_with_len, list_all}
use Rattle.ho_base.specs.declared.numbers.Pfn.{Pfn}

-- frame p is free; a frame that the machine doesn't have is not
unfoldable pub is_free : List Bool → ℕ → Bool
is_free free p = slice_index_or free p false

-- each of the `count` frames from `first` on is free
unfoldable pub all_free : List Bool → ℕ → ℕ → Bool
all_free free first count = list_all (is_free free) (range_with_len first count)

-- none of the `count` frames from `first` on is free
unfoldable pub none_free : List Bool → ℕ → ℕ → Bool
none_free free first count = list_all (λ p. not (is_free free p)) (range_with_len first count)

-- frame p begins a run of order o, which is at a multiple of its 2^o frames, and each of them is free
unfoldable pub is_free_run : List Bool → ℕ → ℕ → Bool
is_free_run free o p = (p % 2 ^ o == 0) && all_free free p (2 ^ o)

-- how many runs of order o are wholly free
unfoldable pub free_runs : List Bool → ℕ → ℕ
free_runs free o = count_by (is_free_run free o) (range_with_len 0 (length free))

-- the set with the `count` frames from `first` on made free (true) or taken out (false)
unfoldable pub with_frames : List Bool → ℕ → ℕ → Bool → List Bool
with_frames free first count b = take first free ++ (replicate count b ++ drop (first + count) free)

-- the set without the frames of the runs of order o that begin at these frames
unfoldable pub without_runs : ℕ → List Bool → List Pfn → List Bool
without_runs o free [] = free
without_runs o free (p ∷ runs) = without_runs o (with_frames free p.0 (2 ^ o) false) runs

-- what `new` has behind the elements of `old`
abbrev pub appended : List Pfn → List Pfn → List Pfn
appended old new = drop (length old) new

-- two runs of order o share no frame
abbrev pub AreApart : ℕ → Pfn → Pfn → Type 0
AreApart o p q = (p.0 + 2 ^ o ≤ q.0) ⊎ (q.0 + 2 ^ o ≤ p.0)

-- no run of order o that is wholly free begins below frame `at`
pub record NoRunBelow (free : List Bool) (o at : ℕ) : Type 0 where
  pub none : (p : ℕ) → p < at → is_free_run free o p ≡ true → ⊥

-- n frames, all free but frame 0
unfoldable pub all_but_first : ℕ → List Bool
all_but_first n = map (nat_lt 0) (range_with_len 0 n)
