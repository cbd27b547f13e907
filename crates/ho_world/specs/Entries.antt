-- Parts of a list of entries, and the worlds that it passes through.
use Rattle.std.specs.Prelude.{◌≡◌, ℕ, ◌+◌, Bool, true, false, ◌&&◌, ◌||◌, ◌==◌, nat_lt, List, [], ◌∷◌, ◌++◌, filter, zero, suc}
use Rattle.std.specs.List.{list_any, list_all}
use Rattle.ho_events.specs.declared.entry.Entry.{Entry}
use Rattle.ho_events.specs.declared.entry.Place.{Place}
use Rattle.ho_events.specs.declared.entry.Place.TheVariants.{Object, Own}
use Rattle.ho_events.specs.declared.reply.Reply.{Reply}
use Rattle.ho_events.specs.declared.reply.Reply.TheVariants.{Ok}
use Rattle.ho_world.specs.World.{World, after}
use Rattle.ho_world.specs.Frozen.{frozen, next}

-- the entries of a kernel
unfoldable pub in_kernel : ℕ → List Entry → List Entry
in_kernel k es = filter (λ e. e.kernel == k) es

abbrev pub is_of : ℕ → ℕ → Entry → Bool
is_of a n e = e.agent.0 == a && e.command == n

-- the end of a command, which stands in the agent's own log
abbrev pub is_own : Place → Bool
is_own (Object n) = false
is_own Own = true

abbrev pub is_end_of : ℕ → ℕ → Entry → Bool
is_end_of a n e = is_of a n e && is_own e.object

-- the command is done
unfoldable pub has_done : ℕ → ℕ → List Entry → Bool
has_done a n es = list_any (is_end_of a n) es

-- the order of entries: kernel, then stamp, then agent
abbrev pub comes_before : Entry → Entry → Bool
comes_before d e =
    nat_lt d.kernel e.kernel
    || (d.kernel == e.kernel && (nat_lt d.stamp e.stamp || (d.stamp == e.stamp && nat_lt d.agent.0 e.agent.0)))

-- a kexec that was answered Ok: a kernel ends
abbrev pub is_ok : Reply → Bool
is_ok Ok = true
is_ok reply = false

abbrev pub ends_kernel : Entry → Bool
ends_kernel e = e.agent.0 == 0 && is_own e.object && is_ok e.reply

-- the world in which kernel k begins: each kernel before it ended in what its entries made of its beginning, and
-- what was frozen there is what the next one begins with
unfoldable pub beginning : World → List Entry → ℕ → World
beginning w es zero = w
beginning w es (suc k) = next (frozen (after (beginning w es k) (in_kernel k es)))

-- the world of kernel k after entries
abbrev pub world_of : World → List Entry → ℕ → World
world_of w es k = after (beginning w es k) (in_kernel k es)

-- an entry with all entries that stand before it
pub record Line : Type 0 where
  pub before : List Entry
  pub entry : Entry

-- the lines of a list, after entries already seen
unfoldable pub lines_from : List Entry → List Entry → List Line
lines_from seen [] = []
lines_from seen (e ∷ es) = (record { before = seen; entry = e }) ∷ lines_from (seen ++ e ∷ []) es

abbrev pub lines : List Entry → List Line
lines es = lines_from [] es

-- the lines of one command
unfoldable pub lines_of : ℕ → ℕ → List Line → List Line
lines_of a n ls = filter (λ l. is_of a n l.entry) ls

-- each entry and every later one are related
unfoldable pub all_pairs : (Entry → Entry → Bool) → List Entry → Bool
all_pairs r [] = true
all_pairs r (e ∷ es) = list_all (r e) es && all_pairs r es
