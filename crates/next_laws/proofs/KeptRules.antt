-- What the rules of records say of all sessions and files.
use Rattle.std.proofs.Common.{◌≡◌, ℕ, ◌+◌, ◌≤◌, Bool, true, false, cond, eqb, List, [], ◌∷◌, ◌++◌, map, length, refl, sym, ap, subst, ◌∙◌, arith}
use Rattle.std.specs.Prelude.{◌&&◌, ◌||◌, nat_lt, nat_le, Option, None, Some}
use Rattle.std.specs.List.{AllByRecursion, list_all, flat_map}
use Rattle.std.proofs.lemmas.Bool.{and_parts, leb-true}
use Rattle.std.proofs.lemmas.List.{length-append}
use Rattle.std.proofs.lemmas.List.Folds.{list_all-map}
use Rattle.ho_base.specs.declared.limits.TheConstants.{OUT_SLOTS, SESSION_FILES, FILES}
use Rattle.fdt_blob.specs.Trees.{Tree, properties_of, children_of, value_in, tree_in, same_name}
use Rattle.record_frames.specs.Ram.{is_frame}
use Rattle.record_frames.specs.Sheets.{Sheet, FileRecord, SessionRecord, FileSlot, SessionSlot, items_of, map_items, file_slot, session_slot, record_numbers}
use Rattle.record_frames.specs.Rules.{Version, version_1, versions, all_rise, bytes_before, keeps, is_session_sheet, is_file_slot, is_file_sheet, is_list_sheet, is_run, session_fits, file_fits, fits, all_apart}
use Rattle.record_frames.specs.Handover.{◌>>=◌, only_if, Root, version_of, root_of, number_of, shape_of, COMPATIBLE, MEMORY_MAP, SCRATCH, LUO}
use Rattle.record_frames.specs.Kept.{files_of, runs_of, file_sheets, is_file, are_sessions, are_records}
use Rattle.next_laws.proofs.LastFronts.{items_map, last_says, each_says}
use Rattle.next_laws.proofs.Names.{rise_map}

-- ---- the version

bind_some : {A B : Type 0} (o : Option A) (f : A → Option B) (y : B) → (o >>= f) ≡ Some y → (x : A) × (o ≡ Some x) × (f x ≡ Some y)
bind_some (Some x) f y e = (x, refl, e)
bind_some None f y e = absurd cc

only_some : {A : Type 0} (b : Bool) (x y : A) → only_if b x ≡ Some y → x ≡ y
only_some true x y e = cc
only_some false x y e = absurd cc

first_version : (word : List ℕ) (v : Version) → version_of versions word ≡ Some v → v ≡ version_1
first_version word v e = at_test (same_name version_1.root word) e
  where
    at_test : (b : Bool) → cond b (Some version_1) None ≡ Some v → v ≡ version_1
    at_test true e = let same : version_1 ≡ v = cc in sym same
    at_test false e = absurd cc

pub version_is : (n : ℕ) (t : Tree) (r : Root) → root_of versions n t ≡ Some r → r.version ≡ version_1
unfolding root_of
version_is n t r h =
    let a = bind_some (value_in COMPATIBLE (properties_of t)) _ r h in
    let b = bind_some (version_of versions a.0) _ r a.2 in
    let c = bind_some (value_in MEMORY_MAP (properties_of t)) _ r b.2 in
    let d = bind_some (number_of c.0) _ r c.2 in
    let e = bind_some (value_in SCRATCH (properties_of t)) _ r d.2 in
    let g = bind_some (shape_of n e.0) _ r e.2 in
    let l = bind_some (tree_in LUO (children_of t)) _ r g.2 in
    ap (λ (x : Root). x.version) (sym (only_some _ _ r l.2)) ∙ first_version a.0 b.0 b.1

-- ---- sessions

abbrev slots_rise : List SessionSlot → Bool
slots_rise = all_rise (λ a b. bytes_before a.name b.name)

abbrev FewSessions : List SessionSlot → Type 0
FewSessions slots = (length slots ≤ OUT_SLOTS) × (slots_rise slots ≡ true)

session_tells : (earlier : List (Sheet SessionSlot)) (items : List SessionSlot) (next : ℕ) → is_session_sheet version_1 earlier items next ≡ true → FewSessions (items_of earlier ++ items)
session_tells earlier items next h =
    let a = and_parts _ (slots_rise (items_of earlier ++ items)) h in
    let b = and_parts _ (nat_le (length (items_of earlier) + length items) OUT_SLOTS) a.0 in
    let few = leb-true (length (items_of earlier) + length items) OUT_SLOTS b.1 in
    (omega (arith, few, length-append (items_of earlier) items), a.1)

-- ---- files

abbrev tokens_rise : List FileSlot → Bool
tokens_rise = all_rise (λ a b. nat_lt a.token b.token)

abbrev FewFiles : ℕ → List FileSlot → Type 0
FewFiles before slots = (before + length slots ≤ FILES) × (length slots ≤ SESSION_FILES) × (tokens_rise slots ≡ true)

file_tells : (before files : ℕ) (earlier : List (Sheet FileSlot)) (items : List FileSlot) (next : ℕ) → is_file_sheet version_1 before files earlier items next ≡ true → FewFiles before (items_of earlier ++ items)
file_tells before files earlier items next h =
    let a = and_parts _ (nat_lt 0 next || eqb (length (items_of earlier) + length items) files) h in
    let b = and_parts _ (tokens_rise (items_of earlier ++ items)) a.0 in
    let c = and_parts _ (nat_le (before + (length (items_of earlier) + length items)) FILES) b.0 in
    let d = and_parts _ (nat_le (length (items_of earlier) + length items) SESSION_FILES) c.0 in
    let few = leb-true (before + (length (items_of earlier) + length items)) FILES c.1 in
    let here = leb-true (length (items_of earlier) + length items) SESSION_FILES d.1 in
    (omega (arith, few, length-append (items_of earlier) items), omega (arith, here, length-append (items_of earlier) items), b.1)

slot_tells : (before files : ℕ) (earlier : List (Sheet FileSlot)) (items : List FileSlot) (next : ℕ) → is_file_sheet version_1 before files earlier items next ≡ true → list_all is_file_slot items ≡ true
slot_tells before files earlier items next h =
    let a = and_parts _ (nat_lt 0 next || eqb (length (items_of earlier) + length items) files) h in
    let b = and_parts _ (tokens_rise (items_of earlier ++ items)) a.0 in
    let c = and_parts _ (nat_le (before + (length (items_of earlier) + length items)) FILES) b.0 in
    let d = and_parts _ (nat_le (length (items_of earlier) + length items) SESSION_FILES) c.0 in
    (and_parts _ (list_all is_file_slot items) d.0).1

list_tells : (n order folios : ℕ) (earlier : List (Sheet ℕ)) (items : List ℕ) (next : ℕ) → is_list_sheet n order folios earlier items next ≡ true → list_all (is_run n order) items ≡ true
list_tells n order folios earlier items next h =
    let a = and_parts _ (nat_lt 0 next || eqb (length (items_of earlier) + length items) folios) h in
    (and_parts _ (list_all (is_run n order) items) a.0).1

-- each run of a file is one of n frames
pub runs_fit : (n : ℕ) (f : FileRecord) → is_file n f ≡ true → list_all (is_run n f.order) (runs_of f) ≡ true
runs_fit n f h =
    each_says (is_list_sheet n f.order (length (runs_of f))) (is_run n f.order) (list_tells n f.order (length (runs_of f))) f.lists
    (and_parts (keeps (is_list_sheet n f.order (length (runs_of f))) f.lists) (list_all fits (runs_of f)) h).0

-- the slot of a file keeps its rules
abbrev pub has_slot : FileRecord → Bool
has_slot f = is_file_slot (file_slot f)

-- a session has no more files than it may; they rise by token, and keep the rules of files of n frames and of slots
pub record SessionFacts (n : ℕ) (s : SessionRecord) : Type 0 where
  pub few : length (files_of s) ≤ SESSION_FILES
  pub rise : all_rise (λ (a b : FileRecord). nat_lt a.token b.token) (files_of s) ≡ true
  pub files : list_all (is_file n) (files_of s) ≡ true
  pub slots : list_all has_slot (files_of s) ≡ true

slots_are : (s : SessionRecord) → items_of (file_sheets s) ≡ map file_slot (files_of s)
slots_are s = items_map file_slot s.files

length_map : {A B : Type 0} (f : A → B) (xs : List A) → length (map f xs) ≡ length xs
length_map f [] = refl
length_map f (x ∷ xs) = let rest = length_map f xs in omega (arith, rest)

pub all_sessions : (n before : ℕ) (ss : List SessionRecord) → before ≤ FILES → are_sessions version_1 n before ss ≡ true
    → (before + length (flat_map files_of ss) ≤ FILES) × AllByRecursion (SessionFacts n) ss
all_sessions n before [] le h = (omega (arith, le), tt)
all_sessions n before (s ∷ ss) le h =
    let hs = and_parts _ (are_sessions version_1 n (before + length (files_of s)) ss) h in
    let parts = and_parts (keeps (is_file_sheet version_1 before (length (files_of s))) (file_sheets s)) (list_all file_fits (items_of (file_sheets s)) && list_all (is_file n) (files_of s)) hs.0 in
    let few : FewFiles before (items_of (file_sheets s)) =
    last_says (is_file_sheet version_1 before (length (files_of s))) (FewFiles before) (file_tells before (length (files_of s))) (file_sheets s) (omega (arith, le), omega arith, refl) parts.0 in
    let slots : FewFiles before (map file_slot (files_of s)) = subst (FewFiles before) (slots_are s) few in
    let count = slots.0 in
    let len = length_map file_slot (files_of s) in
    let rest = all_sessions n (before + length (files_of s)) ss (omega (arith, count, len)) hs.1 in
    let total = rest.0 in
    let two = length-append (files_of s) (flat_map files_of ss) in (
      omega (arith, total, two),
      (
        record {
          few = (let here = slots.1 in omega (arith, here, len));
          rise = rise_map file_slot (λ (a b : FileRecord). nat_lt a.token b.token) (λ (a b : FileSlot). nat_lt a.token b.token) (λ a b. refl) (files_of s) ∙ slots.2;
          files = (and_parts (list_all file_fits (items_of (file_sheets s))) (list_all (is_file n) (files_of s)) parts.1).1;
          slots = sym (list_all-map is_file_slot file_slot (files_of s)) ∙ ap (list_all is_file_slot) (sym (slots_are s))
              ∙ each_says (is_file_sheet version_1 before (length (files_of s))) is_file_slot (slot_tells before (length (files_of s))) (file_sheets s) parts.0;
        },
        rest.1,
      ),
    )

-- what the rules say of all records
pub record RecordFacts (n : ℕ) (records : List (Sheet SessionRecord)) : Type 0 where
  pub few : length (items_of records) ≤ OUT_SLOTS
  pub rise : all_rise bytes_before (map (λ s. s.name) (items_of records)) ≡ true
  pub files : length (flat_map files_of (items_of records)) ≤ FILES
  pub each : AllByRecursion (SessionFacts n) (items_of records)

pub record_facts : (n : ℕ) (records : List (Sheet SessionRecord)) → are_records version_1 n records ≡ true → RecordFacts n records
record_facts n records h =
    let a = and_parts _ (all_apart (record_numbers records)) h in
    let b = and_parts _ (list_all (is_frame n) (record_numbers records)) a.0 in
    let c = and_parts _ (are_sessions version_1 n 0 (items_of records)) b.0 in
    let d = and_parts _ (list_all session_fits (items_of (map_items session_slot records))) c.0 in
    let e = and_parts _ (keeps (is_session_sheet version_1) (map_items session_slot records)) d.0 in
    let few : FewSessions (items_of (map_items session_slot records)) =
    last_says (is_session_sheet version_1) FewSessions session_tells (map_items session_slot records) (omega arith, refl) e.1 in
    let slots : FewSessions (map session_slot (items_of records)) = subst FewSessions (items_map session_slot records) few in
    let count = slots.0 in
    let all = all_sessions n 0 (items_of records) (omega arith) c.1 in
    let total = all.0 in
    record {
      few = omega (arith, count, length_map session_slot (items_of records));
      rise = sym (rise_map (λ (s : SessionRecord). s.name) (λ (a b : SessionRecord). bytes_before a.name b.name) bytes_before (λ a b. refl) (items_of records))
          ∙ rise_map session_slot (λ (a b : SessionRecord). bytes_before a.name b.name) (λ (a b : SessionSlot). bytes_before a.name b.name) (λ a b. refl) (items_of records)
          ∙ slots.1;
      files = omega (arith, total);
      each = all.1;
    }
