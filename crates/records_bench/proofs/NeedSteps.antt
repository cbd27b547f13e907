-- What can be carried has few sessions, files and runs; and folios that got other bytes are still those that were taken.
use Rattle.std.proofs.Common.{◌≡◌, ℕ, ◌+◌, ◌*◌, ◌^◌, ◌<◌, ◌≤◌, Bool, true, eqb, List, [], ◌∷◌, length, get_or, refl, sym, ap, ◌∙◌, subst, arith}
use Rattle.std.specs.Prelude.{◌&&◌, nat_lt, nat_le, IsTrue}
use Rattle.std.specs.List.{list_all, All}
use Rattle.std.proofs.lemmas.Bool.{and_parts, leb-true}
use Rattle.std.proofs.lemmas.List.Elements.{All-nil, All-cons}
use Rattle.ho_base.specs.NameRule.{is_name}
use Rattle.ho_base.specs.ShapeRule.{is_layout}
use Rattle.ho_base.specs.declared.limits.TheConstants.{PAGE_BYTES, MAX_ORDER, MAX_FRAMES, FILE_BYTES, OUT_SLOTS, SESSION_FILES, FILES}
use Rattle.ho_events.specs.Lists.{firsts, pieces}
use Rattle.ho_world.specs.Frozen.{MOST_UPDATES}
use Rattle.phys_frames.specs.Memory.{Memory, FolioValue, with_bytes}
use Rattle.record_frames.specs.Rules.{is_of_kind, is_run, fits, all_rise, bytes_before}
use Rattle.record_frames.specs.Kept.{devices}
use Rattle.record_frames.specs.Writing.{file_slot_of, files_in}
use Rattle.record_frames.specs.declared.carried.Carried.{Carried}
use Rattle.record_frames.specs.declared.carried.CarriedFile.{CarriedFile}
use Rattle.record_frames.specs.declared.carried.CarriedSession.{CarriedSession}
use Rattle.kho_laws.specs.Carrying.{can_be_carried, has_its_bound}
use Rattle.kho_laws.specs.Sessions.{is_carried_file, is_carried_session, are_carried}
use Rattle.kho_writer.specs.Folios.{OtherBytes}
use Rattle.records_bench.specs.Taken.{AreTaken}
use Rattle.kho_writer.proofs.MarkSteps.{session_keeps, sessions_keep}

pub few_sessions : (c : Carried) → IsTrue (can_be_carried c) → length c.sessions ≤ OUT_SLOTS
few_sessions c h =
    let n = c.shape.frames in
    let numbers = nat_le 1 c.number && nat_le c.number MOST_UPDATES in
    let h2 = and_parts (is_layout n c.shape.scratch && numbers && are_carried n c.sessions) (list_all (has_its_bound c) devices) h in
    let h1 = and_parts (is_layout n c.shape.scratch && numbers) (are_carried n c.sessions) h2.0 in
    let names = all_rise (λ a b. bytes_before a.name b.name) c.sessions in
    let few = nat_le (length c.sessions) OUT_SLOTS in
    let files = nat_le (length (files_in c.sessions)) FILES in
    let h3 = and_parts (few && files && names) (list_all (is_carried_session n) c.sessions) h1.1 in
    let h4 = and_parts (few && files) names h3.0 in
    leb-true (length c.sessions) OUT_SLOTS (and_parts few files h4.0).0

session_few : (n : ℕ) (s : CarriedSession) → is_carried_session n s ≡ true → length s.files ≤ SESSION_FILES
session_few n s h =
    let few = nat_le (length s.files) SESSION_FILES in
    let tokens = all_rise (λ a b. nat_lt a.token.0 b.token.0) s.files in
    let h1 = and_parts (is_name s.name && few && tokens) (list_all (is_carried_file n) s.files) h in
    let h2 = and_parts (is_name s.name && few) tokens h1.0 in
    leb-true (length s.files) SESSION_FILES (and_parts (is_name s.name) few h2.0).1

sessions_few : (n : ℕ) (ss : List CarriedSession) → list_all (is_carried_session n) ss ≡ true → All (λ s. length s.files ≤ SESSION_FILES) ss
sessions_few n [] h = All-nil (λ (s : CarriedSession). length s.files ≤ SESSION_FILES)
sessions_few n (s ∷ ss) h =
    let hs = and_parts (is_carried_session n s) (list_all (is_carried_session n) ss) h in
    All-cons (λ (s : CarriedSession). length s.files ≤ SESSION_FILES) s ss (session_few n s hs.0) (sessions_few n ss hs.1)

pub few_files : (c : Carried) → IsTrue (can_be_carried c) → All (λ s. length s.files ≤ SESSION_FILES) c.sessions
few_files c h = sessions_few c.shape.frames c.sessions (sessions_keep c h)

file_few : (n : ℕ) (f : CarriedFile) → is_carried_file n f ≡ true → length f.runs ≤ MAX_FRAMES
file_few n f h =
    let rest =
    nat_le f.order.0 MAX_ORDER && nat_le f.size FILE_BYTES && nat_le f.position f.size && eqb (length f.runs) (pieces f.size (PAGE_BYTES * 2 ^ f.order.0))
    && is_of_kind (file_slot_of f 0) f.kind && fits f.token.0 && fits f.handle in
    let few = nat_le (length f.runs) MAX_FRAMES in
    let h1 = and_parts (rest && few) (list_all (is_run n f.order.0) (firsts f.runs)) h in leb-true (length f.runs) MAX_FRAMES (and_parts rest few h1.0).1

files_few : (n : ℕ) (fs : List CarriedFile) → list_all (is_carried_file n) fs ≡ true → All (λ f. length f.runs ≤ MAX_FRAMES) fs
files_few n [] h = All-nil (λ (f : CarriedFile). length f.runs ≤ MAX_FRAMES)
files_few n (f ∷ fs) h =
    let hs = and_parts (is_carried_file n f) (list_all (is_carried_file n) fs) h in
    All-cons (λ (f : CarriedFile). length f.runs ≤ MAX_FRAMES) f fs (file_few n f hs.0) (files_few n fs hs.1)

runs_few : (n : ℕ) (ss : List CarriedSession) → list_all (is_carried_session n) ss ≡ true → All (λ s. All (λ f. length f.runs ≤ MAX_FRAMES) s.files) ss
runs_few n [] h = All-nil (λ (s : CarriedSession). All (λ f. length f.runs ≤ MAX_FRAMES) s.files)
runs_few n (s ∷ ss) h =
    let hs = and_parts (is_carried_session n s) (list_all (is_carried_session n) ss) h in
    All-cons (λ (s : CarriedSession). All (λ f. length f.runs ≤ MAX_FRAMES) s.files) s ss (files_few n s.files (session_keeps n s hs.0)) (runs_few n ss hs.1)

pub few_runs : (c : Carried) → IsTrue (can_be_carried c) → All (λ s. All (λ f. length f.runs ≤ MAX_FRAMES) s.files) c.sessions
few_runs c h = runs_few c.shape.frames c.sessions (sessions_keep c h)

-- folios that got other bytes are the ones that were taken
pub still_taken : (m : Memory) (first : ℕ) (old new : List FolioValue) → AreTaken m first old → OtherBytes old new → length new ≡ length old → AreTaken m first new
still_taken m first old new taken other len = record {
  homes = λ k d lt. let there : k < length old = omega (arith, lt, len) in ap (λ (f : FolioValue). f.home) (other k there d) ∙ taken.homes k d there;
  single = λ k d lt. let there : k < length old = omega (arith, lt, len) in ap (λ (f : FolioValue). f.order.0) (other k there d) ∙ taken.single k d there;
  firsts = λ k d lt. let there : k < length old = omega (arith, lt, len) in ap (λ (f : FolioValue). f.first.0) (other k there d) ∙ taken.firsts k d there;
  below = taken.below;
  rest = λ k d low high. taken.rest k d (omega (arith, low, len)) high;
  room = omega (arith, taken.room, len);
}
