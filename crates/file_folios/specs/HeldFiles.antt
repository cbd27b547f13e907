-- Files that an earlier kernel handed over.
use Rattle.std.specs.Prelude.{ℕ, true, false, List, length, take, flat_map}
use Rattle.std.specs.FinMap as finmap
use Rattle.ho_base.specs.declared.numbers.Kind.{Kind}
use Rattle.phys_frames.specs.Memory.{FolioValue, first_frames}
use Rattle.ho_events.specs.Lists.{upto, firsts}
use Rattle.ho_events.specs.File.{FileState, filled}

-- a file that an incoming session has, and no label and no outgoing session: its bytes are those of its folios, one after
-- the other and cut at the size, and its runs are theirs, at the indexes 0, 1, ..
abbrev pub held_file : Kind → ℕ → ℕ → ℕ → List FolioValue → FileState
held_file kind order size position folios = record {
  kind = kind;
  order = order;
  bytes = take size (flat_map (λ f. f.bytes) folios);
  position = position;
  runs = filled (upto (length folios)) (firsts (first_frames folios)) finmap.empty;
  opened = false;
  pin = false;
  hold = true;
}
