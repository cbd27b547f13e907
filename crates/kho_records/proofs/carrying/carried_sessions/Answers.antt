use Rattle.std.proofs.Common.{[], List, map, refl, ap, ◌∙◌, arith}
use Rattle.std.specs.List.{list_all}
use Rattle.record_frames.specs.Kept.{carried_file}
use Rattle.record_frames.specs.Files.{file_record}
use Rattle.record_frames.specs.State.{session_in}
use Rattle.record_frames.specs.declared.files.FileRead.{FileRead}
use Rattle.kho_records.specs.Survey.{is_within}
use Rattle.kho_records.proofs.Adding.{more, ended}
use Rattle.kho_records.proofs.RunLists.{session_at_within}
use Rattle.kho_records.proofs.Shown.{one_session, sessions_shown, session_pushed}
use Rattle.kho_records.proofs.carrying.carried_sessions.Goals as goal

pub carried_files-requires : goal.carried_files-requires
carried_files-requires c =
    ap (λ (l : List FileRead). list_all is_within (map file_record l)) c.deref.ensures.value
    ∙ session_at_within c.args.sessions.now c.loop-session.session-index c.session-item.result c.requires c.loop-session-test.true c.session-item.is

pub loop-session-preserved : goal.loop-session-preserved
loop-session-preserved c = λ ram.
    more (one_session ram) [] c.args.sessions.now c.loop-session.session-index c.session-item.result c.session-item.result (map (session_in ram) c.loop-session.carried.items)
    (map (session_in ram) c.push.new.self.items) (c.loop-session.invariant ram) c.loop-session-test.true c.session-item.is
    (session_pushed ram c.session-item.result (record { name = c.session-item.result.name; files = c.in_ok-files.files }) c.loop-session.carried.items c.push.new.self.items
    c.in_ok-push.ensures.items refl
    (c.in_ok-files.ensures ram ∙ ap (λ (l : List FileRead). map (carried_file ram) (map file_record l)) c.deref.ensures.value))

pub returns : goal.returns
returns c = λ ram.
    ap (map (session_in ram)) c.from_vec.ensures
    ∙ ended (one_session ram) [] c.args.sessions.now c.loop-session.session-index (map (session_in ram) c.loop-session.carried.items) (c.loop-session.invariant ram) (omega arith)
    ∙ sessions_shown ram c.args.sessions.now
