-- The names of the trees that the tool writes.
use Rattle.std.specs.Prelude.{ℕ, Bool, ◌==◌, List, [], ◌∷◌, codes}
use Rattle.std.specs.List.{list_any}
use Rattle.std.specs.Cmp.Lexicographic.{pointwise}

abbrev pub sample_names : List (List ℕ)
sample_names =
    codes "smallest" ∷ codes "handover" ∷ codes "values" ∷ codes "names" ∷ codes "levels" ∷ codes "levels-17" ∷ codes "full" ∷ codes "too-big" ∷ []

-- a tree has this name
abbrev pub is_sample : List ℕ → Bool
is_sample name = list_any (pointwise ◌==◌ name) sample_names
