use Rattle.std.proofs.Common.{◌≡◌, length, get_or, map, [], ◌++◌, Some, None, arith}
use Rattle.ho_base.specs.declared.numbers.Kind.TheVariants.{Dev0, Dev1, Dev2, Dev3}
use Rattle.std.specs.List.{flat_map}
use Rattle.record_frames.specs.Kept.{files_of}
use Rattle.record_frames.specs.Sessions.{session_record}
use Rattle.record_frames.specs.Sheeted.{ram_of}
use Rattle.record_frames.specs.Bounds.{bound_view}
use Rattle.record_frames.proofs.BoundSteps.{told_bound, no_0, no_1, no_2, no_3, all_four}
use Rattle.record_frames.proofs.bounds.read_bounds.Goals as goal

pub returns-in_default : goal.returns-in_default
returns-in_default c =
    let ram = ram_of c.args.frames.now in
    let items = c.args.records.now.sessions.items in
    let files = flat_map files_of (map session_record items ++ []) in
    let given = c.args.given.now in
    let four : length given ≡ 4 = omega arith in
    no_0 ram files given None four
    (told_bound ram items c.as_slice-sessions.result.now Dev0 (get_or given 0 None) c.has_kind.result None c.as_slice-sessions.ensures.value c.has_kind.ensures c.in_default.ensures)

pub returns-in_default-read_bound : goal.returns-in_default-read_bound
returns-in_default-read_bound c =
    let ram = ram_of c.args.frames.now in
    let items = c.args.records.now.sessions.items in
    let files = flat_map files_of (map session_record items ++ []) in
    let given = c.args.given.now in
    let four : length given ≡ 4 = omega arith in
    no_1 ram files given None four (bound_view c.in-Some.dev0)
    (told_bound ram items c.as_slice-sessions.result.now Dev0 (get_or given 0 None) c.has_kind.result (Some (bound_view c.in-Some.dev0)) c.as_slice-sessions.ensures.value c.has_kind.ensures c.in-Some.ensures)
    (told_bound ram items c.as_slice-sessions.result.now Dev1 (get_or given 1 None) c.has_kind-2.result None c.as_slice-sessions.ensures.value c.has_kind-2.ensures c.in_default-read_bound.ensures)

pub returns-in_default-read_bound-2 : goal.returns-in_default-read_bound-2
returns-in_default-read_bound-2 c =
    let ram = ram_of c.args.frames.now in
    let items = c.args.records.now.sessions.items in
    let files = flat_map files_of (map session_record items ++ []) in
    let given = c.args.given.now in
    let four : length given ≡ 4 = omega arith in
    no_2 ram files given None four (bound_view c.in-Some.dev0) (bound_view c.in-Some-read_bound.dev1)
    (told_bound ram items c.as_slice-sessions.result.now Dev0 (get_or given 0 None) c.has_kind.result (Some (bound_view c.in-Some.dev0)) c.as_slice-sessions.ensures.value c.has_kind.ensures c.in-Some.ensures)
    (told_bound ram items c.as_slice-sessions.result.now Dev1 (get_or given 1 None) c.has_kind-2.result (Some (bound_view c.in-Some-read_bound.dev1)) c.as_slice-sessions.ensures.value c.has_kind-2.ensures c.in-Some-read_bound.ensures)
    (told_bound ram items c.as_slice-sessions.result.now Dev2 (get_or given 2 None) c.has_kind-3.result None c.as_slice-sessions.ensures.value c.has_kind-3.ensures c.in_default-read_bound-2.ensures)

pub returns-in_default-read_bound-3 : goal.returns-in_default-read_bound-3
returns-in_default-read_bound-3 c =
    let ram = ram_of c.args.frames.now in
    let items = c.args.records.now.sessions.items in
    let files = flat_map files_of (map session_record items ++ []) in
    let given = c.args.given.now in
    let four : length given ≡ 4 = omega arith in
    no_3 ram files given None four (bound_view c.in-Some.dev0) (bound_view c.in-Some-read_bound.dev1) (bound_view c.in-Some-read_bound-2.dev2)
    (told_bound ram items c.as_slice-sessions.result.now Dev0 (get_or given 0 None) c.has_kind.result (Some (bound_view c.in-Some.dev0)) c.as_slice-sessions.ensures.value c.has_kind.ensures c.in-Some.ensures)
    (told_bound ram items c.as_slice-sessions.result.now Dev1 (get_or given 1 None) c.has_kind-2.result (Some (bound_view c.in-Some-read_bound.dev1)) c.as_slice-sessions.ensures.value c.has_kind-2.ensures c.in-Some-read_bound.ensures)
    (told_bound ram items c.as_slice-sessions.result.now Dev2 (get_or given 2 None) c.has_kind-3.result (Some (bound_view c.in-Some-read_bound-2.dev2)) c.as_slice-sessions.ensures.value c.has_kind-3.ensures c.in-Some-read_bound-2.ensures)
    (told_bound ram items c.as_slice-sessions.result.now Dev3 (get_or given 3 None) c.has_kind-4.result None c.as_slice-sessions.ensures.value c.has_kind-4.ensures c.in_default-read_bound-3.ensures)

pub returns : goal.returns
returns c =
    let ram = ram_of c.args.frames.now in
    let items = c.args.records.now.sessions.items in
    let files = flat_map files_of (map session_record items ++ []) in
    let given = c.args.given.now in
    let four : length given ≡ 4 = omega arith in
    all_four ram files given None four (bound_view c.in-Some.dev0) (bound_view c.in-Some-read_bound.dev1) (bound_view c.in-Some-read_bound-2.dev2) (bound_view c.in-Some-read_bound-3.dev3)
    (told_bound ram items c.as_slice-sessions.result.now Dev0 (get_or given 0 None) c.has_kind.result (Some (bound_view c.in-Some.dev0)) c.as_slice-sessions.ensures.value c.has_kind.ensures c.in-Some.ensures)
    (told_bound ram items c.as_slice-sessions.result.now Dev1 (get_or given 1 None) c.has_kind-2.result (Some (bound_view c.in-Some-read_bound.dev1)) c.as_slice-sessions.ensures.value c.has_kind-2.ensures c.in-Some-read_bound.ensures)
    (told_bound ram items c.as_slice-sessions.result.now Dev2 (get_or given 2 None) c.has_kind-3.result (Some (bound_view c.in-Some-read_bound-2.dev2)) c.as_slice-sessions.ensures.value c.has_kind-3.ensures c.in-Some-read_bound-2.ensures)
    (told_bound ram items c.as_slice-sessions.result.now Dev3 (get_or given 3 None) c.has_kind-4.result (Some (bound_view c.in-Some-read_bound-3.dev3)) c.as_slice-sessions.ensures.value c.has_kind-4.ensures c.in-Some-read_bound-3.ensures)
