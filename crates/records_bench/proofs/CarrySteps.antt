-- What the tests of a state find is what it takes to be carried.
use Rattle.std.proofs.Common.{◌≡◌, ℕ, ◌*◌, ◌^◌, ◌<◌, ◌≤◌, Bool, true, false, eqb, List, [], ◌∷◌, ◌++◌, length, refl, sym, ap, ◌∙◌, arith}
use Rattle.std.specs.Prelude.{◌&&◌, ◌||◌, not, nat_lt, nat_le, IsTrue}
use Rattle.std.specs.List.{list_all, list_any}
use Rattle.std.proofs.lemmas.Bool.{and_parts, and_from, or_from, le-leb, lt-ltb, eq-eqb}
use Rattle.std.proofs.lemmas.List.Folds.{list_all-append}
use Rattle.ho_base.specs.declared.limits.TheConstants.{PAGE_BYTES, MAX_ORDER, MAX_FRAMES, FILE_BYTES}
use Rattle.ho_base.specs.declared.numbers.Kind.{Kind}
use Rattle.ho_base.specs.declared.numbers.Kind.TheVariants.{Memfd, Dev0, Dev1, Dev2, Dev3}
use Rattle.ho_events.specs.Lists.{firsts, pieces}
use Rattle.record_frames.specs.Sheets.{FileSlot}
use Rattle.record_frames.specs.Rules.{is_of_kind, is_run, fits}
use Rattle.record_frames.specs.Writing.{file_slot_of}
use Rattle.record_frames.specs.declared.carried.CarriedFile.{CarriedFile}
use Rattle.kho_laws.specs.Sessions.{is_carried_file}
use Rattle.record_frames.specs.Kept.{devices, same_kind, is_bound_frame}
use Rattle.record_frames.specs.State.{bound_among}
use Rattle.record_frames.specs.Writing.{files_in}
use Rattle.record_frames.specs.declared.carried.Carried.{Carried}
use Rattle.record_frames.specs.declared.carried.CarriedBound.{CarriedBound}
use Rattle.record_frames.specs.declared.carried.CarriedSession.{CarriedSession}
use Rattle.ho_base.specs.ShapeRule.{is_layout}
use Rattle.ho_world.specs.Frozen.{MOST_UPDATES}
use Rattle.kho_laws.specs.Carrying.{can_be_carried, has_its_bound}
use Rattle.kho_laws.specs.Sessions.{are_carried}
use Rattle.records_bench.specs.FileTests.{has_limits, is_memfd_kind, is_memfd}
use Rattle.kho_writer.proofs.MarkSteps.{runs_all}

-- what the kind asks for
of_kind : (slot : FileSlot) (kind : Kind) → is_memfd_kind kind ≡ true → slot.handle ≡ 0 → is_of_kind slot kind ≡ true
of_kind slot Memfd h zero = eq-eqb slot.handle 0 zero
of_kind slot Dev0 h zero = absurd cc
of_kind slot Dev1 h zero = absurd cc
of_kind slot Dev2 h zero = absurd cc
of_kind slot Dev3 h zero = absurd cc

-- a file that passes the tests
pub file_can : (n : ℕ) (f : CarriedFile) → IsTrue (has_limits f) → eqb (length f.runs) (pieces f.size (PAGE_BYTES * 2 ^ f.order.0)) ≡ true → IsTrue (is_memfd f) → f.handle ≡ 0
    → IsTrue (fits f.token.0) → length f.runs ≤ MAX_FRAMES → IsTrue (list_all (λ p. is_run n f.order.0 p.0) f.runs) → IsTrue (is_carried_file n f)
file_can n f limits count kind handle token few runs =
    let counted = eqb (length f.runs) (pieces f.size (PAGE_BYTES * 2 ^ f.order.0)) in
    let kinds = is_of_kind (file_slot_of f 0) f.kind in
    let short = nat_le (length f.runs) MAX_FRAMES in
    let h4 = and_from (has_limits f) counted limits count in
    let h5 = and_from (has_limits f && counted) kinds h4 (of_kind (file_slot_of f 0) f.kind kind handle) in
    let h6 = and_from (has_limits f && counted && kinds) (fits f.token.0) h5 token in
    let h7 = and_from (has_limits f && counted && kinds && fits f.token.0) (fits f.handle) h6 (lt-ltb f.handle (2 ^ 64) (omega (arith, handle))) in
    let h8 = and_from (has_limits f && counted && kinds && fits f.token.0 && fits f.handle) short h7 (le-leb (length f.runs) MAX_FRAMES few) in
    and_from (has_limits f && counted && kinds && fits f.token.0 && fits f.handle && short) (list_all (is_run n f.order.0) (firsts f.runs)) h8 (runs_all n f.order.0 f.runs ∙ runs)

-- the files of sessions that have memfds alone are memfds
pub all_memfds : (ss : List CarriedSession) → list_all (λ s. list_all is_memfd s.files) ss ≡ true → list_all is_memfd (files_in ss) ≡ true
all_memfds [] h = refl
all_memfds (s ∷ ss) h =
    let hs = and_parts (list_all is_memfd s.files) (list_all (λ s. list_all is_memfd s.files) ss) h in
    list_all-append is_memfd s.files (files_in ss) ∙ and_from (list_all is_memfd s.files) (list_all is_memfd (files_in ss)) hs.0 (all_memfds ss hs.1)

-- a memfd is of no kind of device files
not_device : (kind device : Kind) → is_memfd_kind kind ≡ true → is_memfd_kind device ≡ false → same_kind kind device ≡ false
not_device Memfd Memfd h d = absurd cc
not_device Memfd Dev0 h d = refl
not_device Memfd Dev1 h d = refl
not_device Memfd Dev2 h d = refl
not_device Memfd Dev3 h d = refl
not_device Dev0 device h d = absurd cc
not_device Dev1 device h d = absurd cc
not_device Dev2 device h d = absurd cc
not_device Dev3 device h d = absurd cc

none_of : (device : Kind) → is_memfd_kind device ≡ false → (fs : List CarriedFile) → list_all is_memfd fs ≡ true → list_any (λ f. same_kind f.kind device) fs ≡ false
none_of device d [] h = refl
none_of device d (f ∷ fs) h =
    let hs = and_parts (is_memfd f) (list_all is_memfd fs) h in
    or_from (same_kind f.kind device) (list_any (λ f. same_kind f.kind device) fs) (not_device f.kind device hs.0 d) (none_of device d fs hs.1)

-- without files and bound records of a kind, the kind has what it asks for
kind_can : (c : Carried) (device : Kind) → is_memfd_kind device ≡ false → c.bounds ≡ [] → list_all is_memfd (files_in c.sessions) ≡ true → has_its_bound c device ≡ true
kind_can c device d none fds =
    ap (λ (bs : List CarriedBound). is_bound_frame c.shape.frames (bound_among bs device) (list_any (λ f. same_kind f.kind device) (files_in c.sessions))) none
    ∙ ap not (none_of device d (files_in c.sessions) fds)

-- a state that passes the tests
pub state_can : (c : Carried) → IsTrue (is_layout c.shape.frames c.shape.scratch) → IsTrue (nat_le 1 c.number && nat_le c.number MOST_UPDATES) → c.bounds ≡ [] → IsTrue (are_carried c.shape.frames c.sessions)
    → IsTrue (list_all (λ s. list_all is_memfd s.files) c.sessions) → IsTrue (can_be_carried c)
state_can c layout h1 none sessions fds =
    let memfds = all_memfds c.sessions fds in
    let numbers = nat_le 1 c.number && nat_le c.number MOST_UPDATES in
    let h2 = and_from (is_layout c.shape.frames c.shape.scratch) numbers layout h1 in
    let h3 = and_from (is_layout c.shape.frames c.shape.scratch && numbers) (are_carried c.shape.frames c.sessions) h2 sessions in
    let dev2 = and_from (has_its_bound c Dev3) true (kind_can c Dev3 refl none memfds) refl in
    let dev1 = and_from (has_its_bound c Dev2) (has_its_bound c Dev3 && true) (kind_can c Dev2 refl none memfds) dev2 in
    let dev0 = and_from (has_its_bound c Dev1) (has_its_bound c Dev2 && (has_its_bound c Dev3 && true)) (kind_can c Dev1 refl none memfds) dev1 in
    and_from (is_layout c.shape.frames c.shape.scratch && numbers && are_carried c.shape.frames c.sessions) (list_all (has_its_bound c) devices) h3
    (and_from (has_its_bound c Dev0) (has_its_bound c Dev1 && (has_its_bound c Dev2 && (has_its_bound c Dev3 && true))) (kind_can c Dev0 refl none memfds) dev0)

-- the same, where the number of frames and the sessions come from calls
pub state_can_at : (c : Carried) (n : ℕ) (ss : List CarriedSession) → IsTrue (is_layout c.shape.frames c.shape.scratch) → IsTrue (nat_le 1 c.number && nat_le c.number MOST_UPDATES) → c.bounds ≡ []
    → n ≡ c.shape.frames → ss ≡ c.sessions → IsTrue (are_carried n ss) → IsTrue (list_all (λ s. list_all is_memfd s.files) ss) → IsTrue (can_be_carried c)
state_can_at c n ss layout number none n_is ss_is can fds =
    state_can c layout number none
    (ap (λ (m : ℕ). are_carried m c.sessions) (sym n_is) ∙ ap (are_carried n) (sym ss_is) ∙ can)
    (ap (list_all (λ (s : CarriedSession). list_all is_memfd s.files)) (sym ss_is) ∙ fds)
