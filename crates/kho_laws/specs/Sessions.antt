-- Sessions that can be carried, and the frames that their records are written into.
use Rattle.std.specs.Prelude.{ℕ, ◌+◌, ◌*◌, ◌^◌, ◌≤◌, Bool, ◌&&◌, ◌==◌, nat_lt, nat_le, List, length, IsTrue}
use Rattle.std.specs.List.{list_all}
use Rattle.ho_base.specs.NameRule.{is_name}
use Rattle.ho_base.specs.declared.limits.TheConstants.{PAGE_BYTES, MAX_ORDER, MAX_FRAMES, FILE_BYTES, OUT_SLOTS, SESSION_FILES, FILES}
use Rattle.ho_events.specs.Lists.{firsts, pieces}
use Rattle.record_frames.specs.Ram.{is_frame}
use Rattle.record_frames.specs.Rules.{version_1, is_of_kind, is_run, all_rise, all_apart, bytes_before, fits}
use Rattle.record_frames.specs.Kept.{are_records}
use Rattle.record_frames.specs.Writing.{file_slot_of, files_in, files_of_sessions, lists_of_files}
use Rattle.record_frames.specs.Written.{records_in}
use Rattle.record_frames.specs.declared.carried.CarriedFile.{CarriedFile}
use Rattle.record_frames.specs.declared.carried.CarriedSession.{CarriedSession}

-- A file can be carried on n frames: its order, size and position are within the limits, its runs are as many as hold its size
-- and are runs of n frames, what its kind asks for holds, and its token and handle have 8 bytes.
abbrev pub is_carried_file : ℕ → CarriedFile → Bool
is_carried_file n f =
    nat_le f.order.0 MAX_ORDER && nat_le f.size FILE_BYTES && nat_le f.position f.size && length f.runs == pieces f.size (PAGE_BYTES * 2 ^ f.order.0)
    && is_of_kind (file_slot_of f 0) f.kind && fits f.token.0 && fits f.handle && nat_le (length f.runs) MAX_FRAMES && list_all (is_run n f.order.0) (firsts f.runs)

-- A session can be carried: it has a name and not too many files, its tokens rise, and each file can be carried.
abbrev pub is_carried_session : ℕ → CarriedSession → Bool
is_carried_session n s =
    is_name s.name && nat_le (length s.files) SESSION_FILES && all_rise (λ a b. nat_lt a.token.0 b.token.0) s.files && list_all (is_carried_file n) s.files

-- Sessions can be carried: there are not too many of them, nor files in all, names rise, and each session can be carried.
abbrev pub are_carried : ℕ → List CarriedSession → Bool
are_carried n sessions =
    nat_le (length sessions) OUT_SLOTS && nat_le (length (files_in sessions)) FILES && all_rise (λ a b. bytes_before a.name b.name) sessions
    && list_all (is_carried_session n) sessions

-- Frames for the records of sessions: there are enough of them, each is one of n frames other than frame 0, and none stands
-- twice.
pub record CanHoldRecords (n : ℕ) (ats : List ℕ) (sessions : List CarriedSession) : Type 0 where
  pub enough : 1 + files_of_sessions sessions + lists_of_files (files_in sessions) ≤ length ats
  pub within : IsTrue (list_all (is_frame n) ats)
  pub once : IsTrue (all_apart ats)

-- The records that are written for sessions which can be carried keep the rules of records.
abbrev pub RecordsKeepRules : Type 0
RecordsKeepRules =
    (n : ℕ) (ats : List ℕ) (sessions : List CarriedSession) → n ≤ MAX_FRAMES → IsTrue (are_carried n sessions) → CanHoldRecords n ats sessions
    → IsTrue (are_records version_1 n (records_in ats sessions))
