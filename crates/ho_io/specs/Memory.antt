-- Sources, sinks and hosts that are kept in memory.
use Rattle.std.specs.Prelude.{ℕ, Bool, ◌&&◌, ◌==◌, List, [], ◌∷◌, map, filter, Option, Some, None, if◌then◌else◌, String, Vec}
use Rattle.std.specs.List.{list_any}
use Rattle.std.specs.Cmp.Lexicographic.{pointwise}
use Rattle.std.specs.String.{string_bytes}
use Rattle.std.specs.declared.alloc.Global.{Global}
use Rattle.ho_io.specs.declared.host.Way.{Way}
use Rattle.ho_io.specs.Told.{raised}

-- a source: the bytes that are left, the numbers of the calls that are to fail, how many calls there were, and
-- how many of them failed
pub record SourceState : Type 0 where
  pub left : List ℕ
  pub fails : List ℕ
  pub calls : ℕ
  pub faults : ℕ

-- a sink: its name, the bytes that were written, and the same three
pub record SinkState : Type 0 where
  pub name : List ℕ
  pub written : List ℕ
  pub fails : List ℕ
  pub calls : ℕ
  pub faults : ℕ

-- the call behind so many calls is one that is to fail; calls are counted from 1 on
abbrev pub next_fails : List ℕ → ℕ → Bool
next_fails fails calls = list_any (λ n. n == raised calls) fails

-- a host: the bytes that it holds by name, the calls that are to fail, the output, what was made, what was asked, and
-- the counts of its calls, of the sources and sinks that it gave, of the sinks that are out, and of the faults
pub record HostState : Type 0 where
  pub held : List (List ℕ × List ℕ)
  pub fails : List (ℕ × ℕ)
  pub out : List ℕ
  pub made : List (List ℕ × List ℕ)
  pub asked : List (Way × List ℕ)
  pub calls : ℕ
  pub given : ℕ
  pub sinks_out : ℕ
  pub read_faults : ℕ
  pub write_faults : ℕ

-- a name and bytes, as contracts see them
abbrev pub named : String Global × Vec ℕ Global → List ℕ × List ℕ
named pair = (string_bytes pair.0, pair.1.items)

-- the bytes of the first pair of this name
unfoldable pub held_by : List ℕ → List (List ℕ × List ℕ) → Option (List ℕ)
held_by name [] = None
held_by name (pair ∷ pairs) = if pointwise ◌==◌ pair.0 name then Some pair.1 else held_by name pairs

-- the call behind so many calls of the host itself is one that is to fail: the plan has the pair of 0 and its number
abbrev pub host_fails_next : List (ℕ × ℕ) → ℕ → Bool
host_fails_next fails calls = list_any (λ p. (p.0 == 0) && (p.1 == raised calls)) fails

-- the numbers of the calls that are to fail of the source or sink that is given next: those that stand with its number
abbrev pub plan_of_next : List (ℕ × ℕ) → ℕ → List ℕ
plan_of_next fails given = map (λ p. p.1) (filter (λ p. p.0 == raised given) fails)

-- a name that was asked for, as contracts see it
abbrev pub asking : Way × String Global → Way × List ℕ
asking ask = (ask.0, string_bytes ask.1)
