use Rattle.std.proofs.Common.{◌++◌, List, map, ap, ◌∙◌, arith}
use Rattle.std.specs.List.{list_all}
use Rattle.ho_events.specs.Lists.{firsts}
use Rattle.folio_bitmaps.specs.Runs.{Run}
use Rattle.record_frames.specs.Owners.{single}
use Rattle.record_frames.specs.Files.{file_record}
use Rattle.record_frames.specs.Sessions.{session_record}
use Rattle.record_frames.specs.declared.files.FileRead.{FileRead}
use Rattle.kho_records.specs.Owned.{run_view}
use Rattle.kho_records.specs.Survey.{is_within}
use Rattle.kho_records.proofs.Adding.{ended}
use Rattle.kho_records.proofs.RunLists.{session_at_within, session_runs, sessions_runs, all_small}
use Rattle.kho_records.proofs.users.used_runs.Goals as goal

pub add_files-requires : goal.add_files-requires
add_files-requires c =
    ap (λ (l : List FileRead). list_all is_within (map file_record l)) c.deref.ensures.value
    ∙ session_at_within c.args.sessions.now c.loop-session.session-index c.session-item.result c.requires c.loop-session-test.true c.session-item.is

pub returns-clause-users : goal.returns-clause-users
returns-clause-users c =
    ended session_runs (map single (firsts c.args.frames.now)) c.args.sessions.now c.loop-session.session-index (map run_view c.loop-session.users.items) c.loop-session.invariant (omega arith)
    ∙ ap (λ (l : List Run). map single (firsts c.args.frames.now) ++ l) (sessions_runs c.args.sessions.now)

pub returns-clause-orders : goal.returns-clause-orders
returns-clause-orders c =
    all_small (firsts c.args.frames.now) (map session_record c.args.sessions.now) c.loop-session.users.items c.requires
    (ended session_runs (map single (firsts c.args.frames.now)) c.args.sessions.now c.loop-session.session-index (map run_view c.loop-session.users.items) c.loop-session.invariant (omega arith)
    ∙ ap (λ (l : List Run). map single (firsts c.args.frames.now) ++ l) (sessions_runs c.args.sessions.now))
