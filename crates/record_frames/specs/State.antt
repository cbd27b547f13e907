-- What a kexec carries as the program has it: the bytes of the files stand in the frames, and only where they stand is kept.
use Rattle.std.specs.Prelude.{ℕ, ◌+◌, nat_lt, if◌then◌else◌, List, [], ◌∷◌, length, map, take, Option, Some, None}
use Rattle.std.specs.List.{flat_map, sum_by}
use Rattle.ho_base.specs.declared.numbers.Kind.{Kind}
use Rattle.ho_events.specs.Handler.{BoundState}
use Rattle.ho_events.specs.Lists.{firsts, pieces}
use Rattle.ho_world.specs.Frozen.{CarriedFile as FileState, CarriedSession as SessionState, Frozen}
use Rattle.record_frames.specs.Ram.{Ram, run_bytes}
use Rattle.record_frames.specs.Kept.{devices, same_kind}
use Rattle.record_frames.specs.declared.carried.CarriedFile.{CarriedFile}
use Rattle.record_frames.specs.declared.carried.CarriedSession.{CarriedSession}
use Rattle.record_frames.specs.declared.carried.CarriedBound.{CarriedBound}
use Rattle.record_frames.specs.declared.carried.Carried.{Carried}

-- a file: its bytes are those of its runs in order, cut at its size
abbrev pub file_in : Ram → CarriedFile → FileState
file_in ram f = record {
  token = f.token.0;
  kind = f.kind;
  order = f.order.0;
  bytes = take f.size (flat_map (run_bytes ram f.order.0) (firsts f.runs));
  position = f.position;
  handle = f.handle;
  runs = firsts f.runs;
}

abbrev pub session_in : Ram → CarriedSession → SessionState
session_in ram s = record { name = s.name; files = map (file_in ram) s.files }

-- the first bound record of a kind
abbrev pub bound_among : List CarriedBound → Kind → Option BoundState
bound_among [] kind = None
bound_among (b ∷ bounds) kind =
    if same_kind b.kind kind then Some (record { bytes = b.bound; frame = b.frame.0 }) else bound_among bounds kind

-- what is carried where the frames have these bytes
abbrev pub state_in : Ram → Carried → Frozen
state_in ram c = record {
  shape = c.shape;
  number = c.number;
  sessions = map (session_in ram) c.sessions;
  bounds = map (bound_among c.bounds) devices;
}

-- how many list frames a file has
abbrev pub list_frames : CarriedFile → ℕ
list_frames f = pieces (length f.runs) 510

-- how many frames a session has beside its slot: a file frame where it has files, and its files' list frames
abbrev pub session_frames : CarriedSession → ℕ
session_frames s = (if nat_lt 0 (length s.files) then 1 else 0) + sum_by list_frames s.files
