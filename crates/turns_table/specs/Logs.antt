-- Parts of lists of entries.
use Rattle.std.specs.Prelude.{◌≡◌, ℕ, List, ◌++◌, Bool, false, map, ◌==◌}
use Rattle.std.specs.List.{filter}
use Rattle.ho_events.specs.declared.entry.Entry.{Entry}
use Rattle.ho_events.specs.declared.entry.Place.{Place}
use Rattle.ho_events.specs.declared.entry.Place.TheVariants.{Object, Own}

-- the place is the object k
abbrev pub is_on : ℕ → Place → Bool
is_on k (Object o) = o.0 == k
is_on k Own = false

-- the entries of one agent
abbrev pub by_agent : ℕ → List Entry → List Entry
by_agent a es = filter (λ e. e.agent.0 == a) es

-- the entries on one object
abbrev pub on_object : ℕ → List Entry → List Entry
on_object k es = filter (λ e. is_on k e.object) es

-- the entries begin with those of `first`
abbrev pub StartsWith : List Entry → List Entry → Type 0
StartsWith es first = (rest : List Entry) × (es ≡ first ++ rest)

-- the entries of a log that has the object's history beside each
abbrev pub entries_of : List (List Entry × Entry) → List Entry
entries_of log = map (λ p. p.1) log
