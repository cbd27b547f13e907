-- Frames carry what was written into them.
use Rattle.std.proofs.Common.{◌≡◌, ℕ, ◌+◌, ◌≤◌, ◌<◌, ◌^◌, Bool, true, List, [], ◌∷◌, ◌++◌, length, map, take, drop, get_or, Option, Some, None, refl, sym, ap, subst, ◌∙◌, arith}
use Rattle.std.specs.Prelude.{nat_lt, nat_le, nat_eq, ◌&&◌}
use Rattle.std.specs.List.{list_all, list_any, flat_map}
use Rattle.std.proofs.lemmas.Bool.{lt-ltb, leb-true, and_parts, and_from}
use Rattle.std.proofs.lemmas.List.{append-nil, length-take, length-drop, take-append-drop}
use Rattle.ho_base.specs.ShapeRule.{Layout, is_layout}
use Rattle.ho_base.specs.declared.limits.TheConstants.{PAGE_BYTES, MAX_FRAMES, BOUND_BYTES}
use Rattle.ho_base.specs.declared.numbers.Kind.{Kind}
use Rattle.ho_base.specs.declared.numbers.Kind.TheVariants.{Dev0, Dev1, Dev2, Dev3}
use Rattle.ho_events.specs.Handler.{BoundState}
use Rattle.ho_world.specs.Frozen.{MOST_UPDATES}
use Rattle.fdt_blob.specs.Trees.{Tree, is_valid}
use Rattle.fdt_blob.specs.Spelling.{spelling}
use Rattle.fdt_blob.specs.Blob.{Spells}
use Rattle.folio_bitmaps.specs.Chunks.{Element}
use Rattle.record_frames.specs.Ram.{Ram, Begins, is_frame}
use Rattle.record_frames.specs.Sheets.{Sheet, SessionRecord, first_of, numbers_of}
use Rattle.record_frames.specs.Rules.{version_1, versions, fits, all_apart}
use Rattle.record_frames.specs.Handover.{root_of}
use Rattle.record_frames.specs.Kept.{Kept, devices, same_kind, has_kind, is_bound_frame, are_bounds, is_chain, all_files, files_of, bound_frames, carried, carried_session}
use Rattle.record_frames.specs.Carries.{SpellRecords, Keep}
use Rattle.record_frames.specs.State.{bound_among, state_in, session_in}
use Rattle.record_frames.specs.Writing.{session_records, files_in, files_of_sessions}
use Rattle.record_frames.specs.declared.carried.Carried.{Carried}
use Rattle.record_frames.proofs.WrittenRead.{written_are_read}
use Rattle.record_frames.proofs.WrittenRecords.{lists_same}
use Rattle.kho_laws.specs.Tree.{handover_tree, luo_tree, bound_fits, can_tell}
use Rattle.kho_laws.specs.Sessions.{are_carried, CanHoldRecords}
use Rattle.kho_laws.specs.Owners.{SideBySide, MarksUsers, is_run_of}
use Rattle.kho_laws.specs.Carrying.{kept_in, luo_in, tree_in, has_its_bound, can_be_carried, HoldKept, WrittenCarry}
use Rattle.kho_laws.proofs.TreeAgain.{root_again, luo_again, legal_areas}
use Rattle.kho_laws.proofs.BlobMore.{spells_more}
use Rattle.kho_laws.proofs.FileRules.{frame_small}
use Rattle.kho_laws.proofs.SessionRules.{rules_kept}
use Rattle.kho_laws.proofs.SameState.{same_sessions, sessions_kind}
use Rattle.kho_laws.proofs.OwnedWell.{owners_kept}
use Rattle.kho_laws.proofs.InOrder.{can_hold_records, side_by_side, marks_users}

-- the one spelling of a valid tree spells it
abbrev pub Spelling : Type 0
Spelling = (t : Tree) → is_valid t ≡ true → length (spelling t) < 2 ^ 32 → Spells (spelling t) t

-- ---- the entry frame

valid_of : (shape : Layout) (chunk n h : ℕ) (a b c d : Option ℕ) → is_valid (handover_tree version_1 shape chunk (record { number = n; header = h; bounds = a ∷ b ∷ c ∷ d ∷ [] })) ≡ true
valid_of shape chunk n h None None None None = refl
valid_of shape chunk n h None None None (Some s) = refl
valid_of shape chunk n h None None (Some r) None = refl
valid_of shape chunk n h None None (Some r) (Some s) = refl
valid_of shape chunk n h None (Some q) None None = refl
valid_of shape chunk n h None (Some q) None (Some s) = refl
valid_of shape chunk n h None (Some q) (Some r) None = refl
valid_of shape chunk n h None (Some q) (Some r) (Some s) = refl
valid_of shape chunk n h (Some p) None None None = refl
valid_of shape chunk n h (Some p) None None (Some s) = refl
valid_of shape chunk n h (Some p) None (Some r) None = refl
valid_of shape chunk n h (Some p) None (Some r) (Some s) = refl
valid_of shape chunk n h (Some p) (Some q) None None = refl
valid_of shape chunk n h (Some p) (Some q) None (Some s) = refl
valid_of shape chunk n h (Some p) (Some q) (Some r) None = refl
valid_of shape chunk n h (Some p) (Some q) (Some r) (Some s) = refl

-- a frame that begins with the blob of a tree spells it
frame_spells : Spelling → (page : List ℕ) (t : Tree) → is_valid t ≡ true → length page ≡ PAGE_BYTES → Begins page (spelling t) → Spells page t
frame_spells spell page t valid size begins =
    let blob = spelling t in
    let long : length (take (length (spelling t)) page) ≡ length (spelling t) = ap length begins in
    let few : length blob < 2 ^ 32 = omega (arith, size, long, length-take (length blob) page) in
    let parts : blob ++ drop (length blob) page ≡ page = ap (λ (l : List ℕ). l ++ drop (length blob) page) (sym begins) ∙ take-append-drop (length blob) page in
    subst (λ (l : List ℕ). Spells l t) parts (spells_more blob (drop (length blob) page) t (spell t valid few))

-- ---- what the frames say

frame_fits : (n p : ℕ) → n ≤ MAX_FRAMES → is_frame n p ≡ true → fits p ≡ true
frame_fits n p few h = lt-ltb p (2 ^ 64) (omega (arith, few, frame_small n p h))

chunk_fits : (n : ℕ) (chain : List (Sheet Element)) → n ≤ MAX_FRAMES → is_chain n chain ≡ true → fits (first_of chain) ≡ true
chunk_fits n [] few h = refl
chunk_fits n (s ∷ chain) few h =
    let a = and_parts _ (all_apart (numbers_of (s ∷ chain))) h in
    let b = and_parts _ (list_all (is_frame n) (numbers_of (s ∷ chain))) a.0 in
    frame_fits n s.at few (and_parts (is_frame n s.at) (list_all (is_frame n) (numbers_of chain)) b.1).0

head_fits : (n : ℕ) (ats : List ℕ) → n ≤ MAX_FRAMES → list_all (is_frame n) ats ≡ true → fits (get_or ats 0 0) ≡ true
head_fits n [] few h = refl
head_fits n (a ∷ ats) few h = frame_fits n a few (and_parts (is_frame n a) (list_all (is_frame n) ats) h).0

-- the frame of a bound record
abbrev frame_of : Option BoundState → Option ℕ
frame_of None = None
frame_of (Some b) = Some b.frame

frames_are : (bounds : List (Option BoundState)) → bound_frames bounds ≡ map frame_of bounds
frames_are [] = refl
frames_are (None ∷ bounds) = ap (λ (l : List (Option ℕ)). None ∷ l) (frames_are bounds)
frames_are (Some b ∷ bounds) = ap (λ (l : List (Option ℕ)). Some b.frame ∷ l) (frames_are bounds)

bound_number : (n : ℕ) (b : Option BoundState) (has : Bool) → n ≤ MAX_FRAMES → is_bound_frame n b has ≡ true → bound_fits (frame_of b) ≡ true
bound_number n None has few h = refl
bound_number n (Some b) has few h =
    let a = and_parts (has && is_frame n b.frame) (nat_le (length b.bytes) BOUND_BYTES) h in
    frame_fits n b.frame few (and_parts has (is_frame n b.frame) a.0).1

bounds_fit : (c : Carried) (kinds : List Kind) → c.shape.frames ≤ MAX_FRAMES → list_all (has_its_bound c) kinds ≡ true
    → list_all bound_fits (map frame_of (map (bound_among c.bounds) kinds)) ≡ true
bounds_fit c [] few h = refl
bounds_fit c (kind ∷ kinds) few h =
    let hs = and_parts (has_its_bound c kind) (list_all (has_its_bound c) kinds) h in
    and_from (bound_fits (frame_of (bound_among c.bounds kind))) (list_all bound_fits (map frame_of (map (bound_among c.bounds) kinds)))
    (bound_number c.shape.frames (bound_among c.bounds kind) (list_any (λ f. same_kind f.kind kind) (files_in c.sessions)) few hs.0) (bounds_fit c kinds few hs.1)

-- ---- the bound records

bounds_kept : (n : ℕ) (c : Carried) (kinds : List Kind) → n ≡ c.shape.frames → (ats lists : List ℕ) → list_all (has_its_bound c) kinds ≡ true
    → are_bounds n (flat_map files_of (session_records ats lists c.sessions)) kinds (map (bound_among c.bounds) kinds) ≡ true
bounds_kept n c [] same ats lists h = refl
bounds_kept n c (kind ∷ kinds) same ats lists h =
    let hs = and_parts (has_its_bound c kind) (list_all (has_its_bound c) kinds) h in
    let files = flat_map files_of (session_records ats lists c.sessions) in
    let has = sessions_kind kind ats lists c.sessions in
    and_from (is_bound_frame n (bound_among c.bounds kind) (has_kind files kind)) (are_bounds n files kinds (map (bound_among c.bounds) kinds))
    ((λ j. is_bound_frame (same j) (bound_among c.bounds kind) (has j)) ∙ hs.0) (bounds_kept n c kinds same ats lists hs.1)

-- the shape of what can be carried
shape_ok : (c : Carried) → can_be_carried c ≡ true → is_layout c.shape.frames c.shape.scratch ≡ true
shape_ok c can =
    let number = nat_le 1 c.number && nat_le c.number MOST_UPDATES in
    let a = and_parts (is_layout c.shape.frames c.shape.scratch && number && are_carried c.shape.frames c.sessions) (list_all (has_its_bound c) devices) can in
    let b = and_parts (is_layout c.shape.frames c.shape.scratch && number) (are_carried c.shape.frames c.sessions) a.0 in
    (and_parts (is_layout c.shape.frames c.shape.scratch) number b.0).0

-- ---- all together

module _ (ram : Ram) (c : Carried) (ats : List ℕ) (chain : List (Sheet Element)) (count : ram.count ≡ c.shape.frames) (can : can_be_carried c ≡ true)
    (room : CanHoldRecords c.shape.frames (drop 1 ats) c.sessions) (side : SideBySide c.shape.frames (kept_in c ats chain)) (marks : MarksUsers (kept_in c ats chain))
    (h : HoldKept ram c ats chain) where
  abbrev kept : Kept
  kept = kept_in c ats chain

  bounds_ok : list_all (has_its_bound c) devices ≡ true
  bounds_ok = (and_parts (is_layout c.shape.frames c.shape.scratch && (nat_le 1 c.number && nat_le c.number MOST_UPDATES) && are_carried c.shape.frames c.sessions) (list_all (has_its_bound c) devices) can).1

  before : (is_layout c.shape.frames c.shape.scratch && (nat_le 1 c.number && nat_le c.number MOST_UPDATES) && are_carried c.shape.frames c.sessions) ≡ true
  before = (and_parts (is_layout c.shape.frames c.shape.scratch && (nat_le 1 c.number && nat_le c.number MOST_UPDATES) && are_carried c.shape.frames c.sessions) (list_all (has_its_bound c) devices) can).0

  sessions_ok : are_carried c.shape.frames c.sessions ≡ true
  sessions_ok = (and_parts (is_layout c.shape.frames c.shape.scratch && (nat_le 1 c.number && nat_le c.number MOST_UPDATES)) (are_carried c.shape.frames c.sessions) before).1

  front : (is_layout c.shape.frames c.shape.scratch ≡ true) × ((nat_le 1 c.number && nat_le c.number MOST_UPDATES) ≡ true)
  front = and_parts (is_layout c.shape.frames c.shape.scratch) (nat_le 1 c.number && nat_le c.number MOST_UPDATES)
      (and_parts (is_layout c.shape.frames c.shape.scratch && (nat_le 1 c.number && nat_le c.number MOST_UPDATES)) (are_carried c.shape.frames c.sessions) before).0

  few : c.shape.frames ≤ MAX_FRAMES
  few = (legal_areas c.shape.frames c.shape.scratch front.0).0

  -- the entry frame is one
  entry_frame : is_frame ram.count (get_or ats 0 0) ≡ true
  entry_frame =
      let run = and_parts (is_run_of c.shape.frames (record { first = get_or ats 0 0; order = 0 })) _ side.runs in
      let a = and_parts (nat_le 0 9) _ run.0 in
      let b = and_parts _ (nat_le (get_or ats 0 0 + 1) c.shape.frames) a.1 in
      let d = and_parts (nat_lt 0 (get_or ats 0 0)) _ b.0 in
      let end : get_or ats 0 0 + 1 ≤ c.shape.frames = leb-true (get_or ats 0 0 + 1) c.shape.frames b.1 in
      and_from (nat_lt 0 (get_or ats 0 0)) (nat_lt (get_or ats 0 0) ram.count) d.0 (lt-ltb (get_or ats 0 0) ram.count (omega (arith, end, count)))

  numbers_ok : list_all bound_fits (bound_frames kept.bounds) ≡ true
  numbers_ok = ap (list_all bound_fits) (frames_are kept.bounds) ∙ bounds_fit c devices few bounds_ok

  told : can_tell (luo_in kept) ≡ true
  told =
      let n = nat_le 1 c.number && nat_le c.number MOST_UPDATES in
      let header = fits (first_of kept.records) in
      and_from (n && header && nat_eq (length (bound_frames kept.bounds)) 4) (list_all bound_fits (bound_frames kept.bounds))
      (and_from (n && header) (nat_eq (length (bound_frames kept.bounds)) 4) (and_from n header front.1 (head_fits c.shape.frames (drop 1 ats) few room.within)) refl) numbers_ok

  valid : is_valid (tree_in kept) ≡ true
  valid =
      ap (λ (l : List (Option ℕ)). is_valid (handover_tree version_1 c.shape (first_of chain) (record { number = c.number; header = first_of kept.records; bounds = l }))) (frames_are kept.bounds)
      ∙ valid_of c.shape (first_of chain) c.number (first_of kept.records) (frame_of (bound_among c.bounds Dev0)) (frame_of (bound_among c.bounds Dev1))
      (frame_of (bound_among c.bounds Dev2)) (frame_of (bound_among c.bounds Dev3))

  records_ok : SpellRecords version_1 ram (first_of kept.records) kept.records
  records_ok = record {
    begins = refl;
    rules = rules_kept ram.count (drop 1 ats) c.sessions (omega (arith, few, count)) (ap (λ (n : ℕ). are_carried n c.sessions) count ∙ sessions_ok)
        (subst (λ (n : ℕ). CanHoldRecords n (drop 1 ats) c.sessions) (sym count) room);
    pages = written_are_read ram (drop 1 ats) c.sessions h.records;
  }

  bounds_right : are_bounds ram.count (all_files kept) devices kept.bounds ≡ true
  bounds_right =
      let k = files_of_sessions c.sessions in
      let rs = session_records (take k (drop 1 (drop 1 ats))) (drop k (drop 1 (drop 1 ats))) c.sessions in
      ap (λ (l : List SessionRecord). are_bounds ram.count (flat_map files_of l) devices (map (bound_among c.bounds) devices)) (append-nil rs)
      ∙ bounds_kept ram.count c devices count (take k (drop 1 (drop 1 ats))) (drop k (drop 1 (drop 1 ats))) bounds_ok

  pub keep : Spelling → Keep ram (get_or ats 0 0) kept
  keep spell = record {
    tree = tree_in kept;
    luo = luo_tree version_1 (luo_in kept);
    within = entry_frame;
    begins = refl;
    spelled = frame_spells spell (ram.page (get_or ats 0 0)) (tree_in kept) valid h.frame h.entry;
    root = ap (λ (n : ℕ). root_of versions n (tree_in kept)) count ∙ root_again c.shape (first_of chain) (luo_in kept) front.0 (chunk_fits ram.count chain (omega (arith, few, count)) h.chunks.rules);
    child = luo_again (luo_in kept) told;
    chain = h.chunks;
    records = records_ok;
    bounds = bounds_right;
    bound_bytes = h.bounds;
    owners = owners_kept ram.count kept (subst (λ (n : ℕ). SideBySide n kept) (sym count) side) marks;
  }

  pub is_state : carried ram kept ≡ state_in ram c
  is_state =
      let k = files_of_sessions c.sessions in
      let rest = drop 1 (drop 1 ats) in
      let rs = session_records (take k rest) (drop k rest) c.sessions in
      let enough = room.enough in
      let sessions : map (carried_session ram) (rs ++ []) ≡ map (session_in ram) c.sessions =
      ap (map (carried_session ram)) (append-nil rs)
      ∙ same_sessions ram (take k rest) (drop k rest) c.sessions (omega (arith, enough, length-drop k rest, length-drop 1 (drop 1 ats), lists_same c.sessions)) in
      λ j. record { shape = c.shape; number = c.number; sessions = sessions j; bounds = map (bound_among c.bounds) devices }

pub written_carry : Spelling → WrittenCarry
written_carry spell ram c ats chain count can hold marks h =
    let room = can_hold_records c ats (numbers_of chain) hold in
    let side = side_by_side c ats chain (shape_ok c can) hold in
    let just = marks_users c ats chain hold marks in
    record {
      kept = kept_in c ats chain;
      keep = keep ram c ats chain count can room side just h spell;
      is = is_state ram c ats chain count can room side just h;
    }
