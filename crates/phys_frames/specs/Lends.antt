-- What the places end as, once bytes of them that were lent have been written.
use Rattle.std.specs.Prelude.{ℕ, ◌+◌, List, ◌++◌, map, take, drop, Option}
use Rattle.std.specs.Borrow.{Fml, MutBor, Array, Lends, u8}
use Rattle.std.specs.List.{refill}
use Rattle.phys_frames.specs.Places.{here, heres}
use Rattle.phys_frames.specs.declared.cells.Cells.{Cells}
use Rattle.phys_frames.specs.contracts.cells.Cells.{the_row}

-- the owner with other places
abbrev pub with_slots : Cells → List (Option (Option ℕ)) → Cells
with_slots c cs = record { mark = c.mark; at = c.at; slots = cs }

-- the places, with bytes in the len from the index from on
abbrev pub spliced : List (Option (Option ℕ)) → ℕ → ℕ → List ℕ → List (Option (Option ℕ))
spliced cs from len xs = take from cs ++ (map here xs ++ drop (from + len) cs)

-- the owner ends with the bytes that are left behind r in the len places from the index from on, and is the same otherwise
abbrev pub lends_run : MutBor Cells → ℕ → ℕ → MutBor (List ℕ) → Fml
lends_run c from len r = Lends the_row (Array u8 0) c r (λ w. with_slots c.now (spliced c.now.slots from len (refill len (heres (take len (drop from c.now.slots))) w)))
