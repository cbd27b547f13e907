-- The limits of what can be carried.
use Rattle.std.proofs.Common.{◌≡◌, ℕ, ◌≤◌, Bool, true, List, [], ◌∷◌, length, sym, subst}
use Rattle.std.specs.Prelude.{nat_le, ◌&&◌}
use Rattle.std.specs.List.{All, list_all}
use Rattle.std.proofs.lemmas.Bool.{leb-true, and_parts}
use Rattle.std.proofs.lemmas.List.Elements.{All-nil, All-cons}
use Rattle.ho_base.specs.ShapeRule.{is_layout}
use Rattle.ho_base.specs.declared.limits.TheConstants.{MAX_FRAMES, OUT_SLOTS, SESSION_FILES, FILES}
use Rattle.ho_events.specs.Lists.{firsts}
use Rattle.ho_world.specs.Frozen.{MOST_UPDATES}
use Rattle.record_frames.specs.Rules.{all_rise, bytes_before, is_run}
use Rattle.record_frames.specs.Kept.{devices}
use Rattle.record_frames.specs.Writing.{files_in}
use Rattle.record_frames.specs.declared.carried.Carried.{Carried}
use Rattle.record_frames.specs.declared.carried.CarriedFile.{CarriedFile}
use Rattle.record_frames.specs.declared.carried.CarriedSession.{CarriedSession}
use Rattle.kho_laws.specs.Sessions.{is_carried_file, is_carried_session, are_carried}
use Rattle.kho_laws.specs.Carrying.{can_be_carried, has_its_bound}
use Rattle.kho_laws.proofs.SessionRules.{session_parts}

-- sessions, their files and the files' runs are within the limits
pub record Limits (c : Carried) : Type 0 where
  pub sessions : length c.sessions ≤ OUT_SLOTS
  pub files : All (λ s. length s.files ≤ SESSION_FILES) c.sessions
  pub runs : All (λ s. All (λ f. length f.runs ≤ MAX_FRAMES) s.files) c.sessions

all_from : {A : Type 0} (P : A → Bool) (Q : A → Type 0) → ((x : A) → P x ≡ true → Q x) → (xs : List A) → list_all P xs ≡ true → All Q xs
all_from P Q tell [] h = All-nil Q
all_from P Q tell (x ∷ xs) h = let hs = and_parts (P x) (list_all P xs) h in All-cons Q x xs (tell x hs.0) (all_from P Q tell xs hs.1)

few_runs : (n : ℕ) (f : CarriedFile) → is_carried_file n f ≡ true → length f.runs ≤ MAX_FRAMES
few_runs n f h =
    let a = and_parts _ (list_all (is_run n f.order.0) (firsts f.runs)) h in
    leb-true (length f.runs) MAX_FRAMES (and_parts _ (nat_le (length f.runs) MAX_FRAMES) a.0).1

few_files : (n : ℕ) (s : CarriedSession) → is_carried_session n s ≡ true → length s.files ≤ SESSION_FILES
few_files n s h = (session_parts n s h).few

few_runs_each : (n : ℕ) (s : CarriedSession) → is_carried_session n s ≡ true → All (λ f. length f.runs ≤ MAX_FRAMES) s.files
few_runs_each n s h = all_from (is_carried_file n) (λ f. length f.runs ≤ MAX_FRAMES) (few_runs n) s.files (session_parts n s h).files

pub limits : (c : Carried) → can_be_carried c ≡ true → Limits c
limits c can =
    let n = c.shape.frames in
    let number = nat_le 1 c.number && nat_le c.number MOST_UPDATES in
    let a = and_parts (is_layout n c.shape.scratch && number && are_carried n c.sessions) (list_all (has_its_bound c) devices) can in
    let b = and_parts (is_layout n c.shape.scratch && number) (are_carried n c.sessions) a.0 in
    let d = and_parts _ (list_all (is_carried_session n) c.sessions) b.1 in
    let e = and_parts (nat_le (length c.sessions) OUT_SLOTS && nat_le (length (files_in c.sessions)) FILES) (all_rise (λ a b. bytes_before a.name b.name) c.sessions) d.0 in
    record {
      sessions = leb-true (length c.sessions) OUT_SLOTS (and_parts (nat_le (length c.sessions) OUT_SLOTS) (nat_le (length (files_in c.sessions)) FILES) e.0).0;
      files = all_from (is_carried_session n) (λ s. length s.files ≤ SESSION_FILES) (few_files n) c.sessions d.1;
      runs = all_from (is_carried_session n) (λ s. All (λ f. length f.runs ≤ MAX_FRAMES) s.files) (few_runs_each n) c.sessions d.1;
    }

-- the same of a list that is that of the sessions
pub files_limit : (c : Carried) (xs : List CarriedSession) → xs ≡ c.sessions → can_be_carried c ≡ true → All (λ s. length s.files ≤ SESSION_FILES) xs
files_limit c xs e can = subst (λ (l : List CarriedSession). All (λ s. length s.files ≤ SESSION_FILES) l) (sym e) (limits c can).files

pub runs_limit : (c : Carried) (xs : List CarriedSession) → xs ≡ c.sessions → can_be_carried c ≡ true → All (λ s. All (λ f. length f.runs ≤ MAX_FRAMES) s.files) xs
runs_limit c xs e can = subst (λ (l : List CarriedSession). All (λ s. All (λ f. length f.runs ≤ MAX_FRAMES) s.files) l) (sym e) (limits c can).runs

pub sessions_limit : (c : Carried) (xs : List CarriedSession) → xs ≡ c.sessions → can_be_carried c ≡ true → length xs ≤ OUT_SLOTS
sessions_limit c xs e can = subst (λ (l : List CarriedSession). length l ≤ OUT_SLOTS) (sym e) (limits c can).sessions
