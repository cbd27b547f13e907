-- Three readings of one list of entries: its blocks and stamps, each object by itself, and each agent by itself.
use Rattle.std.specs.Prelude.{◌≡◌, ℕ, Bool, true, not, ◌&&◌, ◌||◌, ◌==◌, nat_le, List, [], ◌∷◌, ◌++◌, is_some, IsTrue, Option, None, Some}
use Rattle.std.specs.List.{list_all}
use Rattle.ho_events.specs.declared.entry.Entry.{Entry}
use Rattle.ho_events.specs.declared.script.Block.{Block}
use Rattle.ho_events.specs.History.{on}
use Rattle.ho_world.specs.World.{World, run}
use Rattle.ho_world.specs.Entries.{in_kernel, comes_before, beginning, lines, lines_of, all_pairs}
use Rattle.ho_world.specs.Legal.{is_stamped, block_of, labels_before, world_before, IsWhole, IsLegal}
use Rattle.ho_world.specs.Tasks.{Due, due_of}

-- every entry, after those seen, has the kernel and the stamp that are due
unfoldable pub are_stamped : List Block → List Entry → List Entry → Bool
are_stamped blocks seen [] = true
are_stamped blocks seen (e ∷ es) = is_stamped blocks seen e && are_stamped blocks (seen ++ e ∷ []) es

abbrev pub is_known : List Block → Entry → Bool
is_known blocks e = is_some (due_of blocks e.agent.0 e.command)

abbrev pub no_earlier : Option ℕ → Option ℕ → Bool
no_earlier (Some b) (Some c) = nat_le b c
no_earlier b c = true

-- the one may stand before the other: in the order of kernel, stamp and agent, in blocks in order, and for one
-- agent in the order of its commands
abbrev pub stands_before : List Block → Entry → Entry → Bool
stands_before blocks d e =
    comes_before d e && no_earlier (block_of blocks d) (block_of blocks e)
    && (not (d.agent.0 == e.agent.0) || nat_le d.command e.command)

-- the entries of a task, all in one kernel, are a whole sequence of it
pub record IsDone (start : World) (blocks : List Block) (es : List Entry) (a n : ℕ) (d : Due) : Type 0 where
  pub kernel : ℕ
  pub here : IsTrue (list_all (λ l. l.entry.kernel == kernel) (lines_of a n (lines es)))
  pub whole : IsWhole start (labels_before blocks kernel a n es) (world_before start blocks kernel d.block es) d.task (lines_of a n (lines es))

abbrev pub IsDoneAt : World → List Block → List Entry → ℕ → ℕ → Option Due → Type 0
IsDoneAt start blocks es a n None = Unit {0}
IsDoneAt start blocks es a n (Some d) = IsDone start blocks es a n d

pub record Readings (start : World) (blocks : List Block) (es : List Entry) : Type 0 where
  pub stamped : IsTrue (are_stamped blocks [] es)
  pub in_order : IsTrue (all_pairs (stands_before blocks) es)
  pub known : IsTrue (list_all (is_known blocks) es)
  pub objects : (k o : ℕ) → IsTrue (is_some (run ((beginning start es k).at o) (on o (in_kernel k es))))
  pub agents : (a n : ℕ) → IsDoneAt start blocks es a n (due_of blocks a n)

abbrev pub ReadingsAreLegal : Type 0
ReadingsAreLegal = (start : World) (blocks : List Block) (es : List Entry) → Readings start blocks es → IsLegal start blocks es
