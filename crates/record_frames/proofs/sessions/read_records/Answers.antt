use Rattle.std.proofs.Common.{◌≡◌, ℕ, List, [], ◌∷◌, ◌++◌, map, Result, Ok, Err, Some, None, sym, ap, subst, ◌∙◌}
use Rattle.std.specs.Prelude.{Vec}
use Rattle.std.specs.Global.{Global}
use Rattle.std.specs.List.{flat_map}
use Rattle.std.proofs.lemmas.List.{append-nil}
use Rattle.record_frames.specs.Sheets.{SessionRecord, session_numbers}
use Rattle.record_frames.specs.Rules.{version_1}
use Rattle.record_frames.specs.Reading.{each_item, session_at}
use Rattle.record_frames.specs.Fronts.{session_front_at}
use Rattle.record_frames.specs.Seen.{SeenValue}
use Rattle.record_frames.specs.Slots.{session_view}
use Rattle.record_frames.specs.Sessions.{session_record, seen_of, ToldSessions}
use Rattle.record_frames.specs.Sheeted.{ram_of}
use Rattle.record_frames.specs.declared.slot_reading.ReadSession.{ReadSession}
use Rattle.record_frames.specs.declared.sessions.SessionRead.{SessionRead}
use Rattle.record_frames.proofs.ListFronts.{given}
use Rattle.record_frames.proofs.RecordSteps.{header_breaks, sessions_read, sessions_noted}
use Rattle.record_frames.proofs.sessions.read_records.Goals as goal

pub returns-in_default-clause-read : goal.returns-in_default-clause-read
returns-in_default-clause-read c =
    header_breaks (ram_of c.args.frames.now) c.args.header
    (given (λ v. map session_view v.items) c.in_ok-slots.field-0 None (session_front_at (ram_of c.args.frames.now) c.args.header) c.in_default.is c.in_ok-slots.ensures.front)

pub returns-in-Ok-clause-read : goal.returns-in-Ok-clause-read
returns-in-Ok-clause-read c =
    let ram = ram_of c.args.frames.now in
    let front = given (λ v. map session_view v.items) c.in_ok-slots.field-0 (Some c.in-Some.slots) (session_front_at ram c.args.header) c.in-Some.is c.in_ok-slots.ensures.front in
    let begun : c.push.new.self.numbers ≡ c.args.header ∷ [] =
    c.in_ok-push.ensures.numbers ∙ ap (λ (s : SeenValue). s.numbers ++ c.args.header ∷ []) c.in_ok-seen.ensures in
    let Told : Result (Vec SessionRead Global) ℕ → Type 0 = λ r. ToldSessions (λ v. v.items) ram c.push.new.self.numbers c.read_sessions.new.seen.numbers c.deref.result.now r in
    let told = subst Told c.in-Ok.is c.in_ok-sessions.ensures.read in
    sessions_read ram c.args.header (map session_view c.in-Some.slots.items) front (Ok (map session_record c.in-Ok.sessions.items, seen_of c.read_sessions.new.seen.numbers told.0))
    (ap (λ (l : List ℕ). each_item (session_at version_1 ram) (seen_of l 0) (map session_view c.in-Some.slots.items)) (sym begun)
    ∙ ap (λ (l : List ReadSession). each_item (session_at version_1 ram) (seen_of c.push.new.self.numbers 0) (map session_view l)) (sym c.deref.ensures.value) ∙ told.1)

pub returns-in-Ok-clause-numbers : goal.returns-in-Ok-clause-numbers
returns-in-Ok-clause-numbers c =
    let ram = ram_of c.args.frames.now in
    let begun : c.push.new.self.numbers ≡ c.args.header ∷ [] =
    c.in_ok-push.ensures.numbers ∙ ap (λ (s : SeenValue). s.numbers ++ c.args.header ∷ []) c.in_ok-seen.ensures in
    let Told : Result (Vec SessionRead Global) ℕ → Type 0 = λ r. ToldSessions (λ v. v.items) ram c.push.new.self.numbers c.read_sessions.new.seen.numbers c.deref.result.now r in
    let told = subst Told c.in-Ok.is c.in_ok-sessions.ensures.read in
    let all = map session_record c.in-Ok.sessions.items in
    c.into_numbers-numbers.ensures
    ∙ sessions_noted ram (seen_of c.push.new.self.numbers 0) (map session_view c.deref.result.now) all (seen_of c.read_sessions.new.seen.numbers told.0) told.1
    ∙ ap (λ (l : List ℕ). l ++ flat_map session_numbers all) begun
    ∙ ap (λ (l : List SessionRecord). c.args.header ∷ flat_map session_numbers l) (sym (append-nil all))

pub returns-clause-read : goal.returns-clause-read
returns-clause-read c =
    let ram = ram_of c.args.frames.now in
    let front = given (λ v. map session_view v.items) c.in_ok-slots.field-0 (Some c.in-Some.slots) (session_front_at ram c.args.header) c.in-Some.is c.in_ok-slots.ensures.front in
    let begun : c.push.new.self.numbers ≡ c.args.header ∷ [] =
    c.in_ok-push.ensures.numbers ∙ ap (λ (s : SeenValue). s.numbers ++ c.args.header ∷ []) c.in_ok-seen.ensures in
    let Told : Result (Vec SessionRead Global) ℕ → Type 0 = λ r. ToldSessions (λ v. v.items) ram c.push.new.self.numbers c.read_sessions.new.seen.numbers c.deref.result.now r in
    sessions_read ram c.args.header (map session_view c.in-Some.slots.items) front (Err c.in-Err.at)
    (ap (λ (l : List ℕ). each_item (session_at version_1 ram) (seen_of l 0) (map session_view c.in-Some.slots.items)) (sym begun)
    ∙ ap (λ (l : List ReadSession). each_item (session_at version_1 ram) (seen_of c.push.new.self.numbers 0) (map session_view l)) (sym c.deref.ensures.value)
    ∙ subst Told c.in-Err.is c.in_ok-sessions.ensures.read)
