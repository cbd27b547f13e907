-- How far a history has come: through the first blocks of the script, and through one block more.
use Rattle.std.specs.Prelude.{◌≡◌, ℕ, ◌+◌, ◌<◌, ◌≤◌, Bool, false, not, ◌&&◌, ◌||◌, ◌==◌, nat_lt, nat_le, List, [], ◌∷◌, ◌++◌, is_some, IsTrue, Option, None, Some}
use Rattle.std.specs.List.{list_all}
use Rattle.ho_events.specs.declared.entry.Entry.{Entry}
use Rattle.ho_events.specs.Script.Rules.{is_numbered}
use Rattle.ho_events.specs.declared.script.Block.{Block}
use Rattle.ho_events.specs.declared.script.Script.{Script}
use Rattle.ho_events.specs.History.{on}
use Rattle.ho_world.specs.World.{World, run}
use Rattle.ho_world.specs.Entries.{in_kernel, beginning, all_pairs}
use Rattle.ho_world.specs.Tasks.{Due, due_of}
use Rattle.ho_world.specs.Legal.{block_of, is_below, IsLegalSoFar}
use Rattle.ho_world.specs.Readings.{are_stamped, stands_before, IsDone}

-- a task is done, in kernel k or before
pub record IsDoneBy (start : World) (blocks : List Block) (es : List Entry) (a n : ℕ) (d : Due) (k : ℕ) : Type 0 where
  pub is_done : IsDone start blocks es a n d
  pub by_then : is_done.kernel ≤ k

-- the entries are exactly those of the blocks before block b, all whole; kernel k runs
pub record IsThrough (start : World) (blocks : List Block) (es : List Entry) (b k : ℕ) : Type 0 where
  pub below : IsTrue (list_all (λ d. is_below b (block_of blocks d)) es)
  pub kernels : IsTrue (list_all (λ d. nat_le d.kernel k) es)
  pub stamped : IsTrue (are_stamped blocks [] es)
  pub in_order : IsTrue (all_pairs (stands_before blocks) es)
  pub objects : (j o : ℕ) → IsTrue (is_some (run ((beginning start es j).at o) (on o (in_kernel j es))))
  pub agents : (a n : ℕ) (d : Due) → due_of blocks a n ≡ Some d → d.block < b → IsDoneBy start blocks es a n d k

abbrev pub is_at : ℕ → Option ℕ → Bool
is_at b None = false
is_at b (Some c) = c == b

abbrev pub is_here : List Block → ℕ → ℕ → Entry → Bool
is_here blocks b k e = e.kernel == k && is_at b (block_of blocks e)

-- the entries `new` of block b in kernel k, after those of the blocks before it
pub record IsNext (start : World) (blocks : List Block) (es new : List Entry) (b k : ℕ) : Type 0 where
  pub here : IsTrue (list_all (is_here blocks b k) new)
  pub stamped : IsTrue (are_stamped blocks es new)
  pub in_order : IsTrue (all_pairs (stands_before blocks) new)
  pub following : IsTrue (list_all (λ d. list_all (stands_before blocks d) new) es)
  pub objects : (o : ℕ) → IsTrue (is_some (run ((beginning start es k).at o) (on o (in_kernel k es ++ new))))
  pub agents : (a n : ℕ) (d : Due) → due_of blocks a n ≡ Some d → d.block ≡ b → IsDoneBy start blocks (es ++ new) a n d k
  pub later : (a n : ℕ) (d : Due) → due_of blocks a n ≡ Some d → d.block < b → IsTrue (list_all (λ e. not (e.agent.0 == a) || nat_lt n e.command) new)

-- an agent's numbers rise over the blocks
abbrev pub HasRisingNumbers : List Block → Type 0
HasRisingNumbers blocks = (a m n : ℕ) (c d : Due) → m < n → due_of blocks a m ≡ Some c → due_of blocks a n ≡ Some d → c.block ≤ d.block

-- the entries of the first blocks, all whole, are legal so far
abbrev pub ThroughIsLegal : Type 0
ThroughIsLegal =
    (start : World) (blocks : List Block) (es : List Entry) (b k : ℕ) → HasRisingNumbers blocks → IsThrough start blocks es b k → IsLegalSoFar start blocks es

-- a script whose agents' commands are numbered from 1 on, over all its blocks, has rising numbers
abbrev pub NumberedRises : Type 0
NumberedRises = (script : Script) → IsTrue (is_numbered script) → HasRisingNumbers script.blocks
