-- What is carried shows what was read.
use Rattle.std.proofs.Common.{◌≡◌, ℕ, List, [], ◌∷◌, ◌++◌, length, get_or, map, take, Option, Some, None, refl, sym, ap, ◌∙◌, arith}
use Rattle.std.specs.List.{flat_map}
use Rattle.std.proofs.lemmas.List.{map-append}
use Rattle.ho_base.specs.declared.numbers.Pfn.{Pfn}
use Rattle.ho_base.specs.declared.numbers.Kind.TheVariants.{Dev0, Dev1, Dev2, Dev3}
use Rattle.ho_events.specs.Lists.{firsts}
use Rattle.ho_world.specs.Frozen.{CarriedFile as FileState, CarriedSession as SessionState}
use Rattle.record_frames.specs.Ram.{Ram, run_bytes}
use Rattle.record_frames.specs.Sheets.{items_of, numbers_of}
use Rattle.record_frames.specs.Kept.{devices, carried_file, carried_session}
use Rattle.record_frames.specs.Lists.{sheet_views}
use Rattle.record_frames.specs.Files.{file_record}
use Rattle.record_frames.specs.Sessions.{session_record}
use Rattle.record_frames.specs.Bounds.{bound_view}
use Rattle.record_frames.specs.State.{file_in, session_in, bound_among}
use Rattle.record_frames.specs.declared.carried.CarriedBound.{CarriedBound}
use Rattle.record_frames.specs.declared.carried.CarriedFile.{CarriedFile}
use Rattle.record_frames.specs.declared.carried.CarriedSession.{CarriedSession}
use Rattle.record_frames.specs.declared.lists.ListSheet.{ListSheet}
use Rattle.record_frames.specs.declared.files.FileRead.{FileRead}
use Rattle.record_frames.specs.declared.sessions.SessionRead.{SessionRead}
use Rattle.kho_records.specs.Chunks.{chunk_views}
use Rattle.kho_records.specs.declared.chain.sheet.ChunkSheet.{ChunkSheet}
use Rattle.kho_records.specs.Users.{of_kind}
use Rattle.kho_records.proofs.RunLists.{frames_have}

abbrev pub sheet_firsts : ListSheet → List ℕ
sheet_firsts s = firsts s.runs.items

pub sheets_firsts : (lists : List ListSheet) → flat_map sheet_firsts lists ≡ items_of (sheet_views lists)
sheets_firsts [] = refl
sheets_firsts (s ∷ lists) = ap (λ (l : List ℕ). sheet_firsts s ++ l) (sheets_firsts lists)

pub firsts_append : (xs ys : List Pfn) → firsts (xs ++ ys) ≡ firsts xs ++ firsts ys
firsts_append xs ys = map-append (λ (p : Pfn). p.0) xs ys

-- a file whose fields are those of its slot and whose runs are those of its list frames
pub file_shown : (ram : Ram) (c : CarriedFile) (f : FileRead) → c.token.0 ≡ f.slot.token → c.kind ≡ f.slot.kind → c.order.0 ≡ f.slot.order → c.size ≡ f.slot.size
    → c.position ≡ f.slot.position → c.handle ≡ f.slot.handle → firsts c.runs ≡ items_of (sheet_views f.lists.items) → file_in ram c ≡ carried_file ram (file_record f)
file_shown ram c f token kind order size position handle runs =
    λ j. record {
      token = token j;
      kind = kind j;
      order = order j;
      bytes = take (size j) (flat_map (run_bytes ram (order j)) (runs j));
      position = position j;
      handle = handle j;
      runs = runs j;
    }

abbrev pub one_file : Ram → FileRead → List FileState
one_file ram f = carried_file ram (file_record f) ∷ []

pub files_shown : (ram : Ram) (files : List FileRead) → flat_map (one_file ram) files ≡ map (carried_file ram) (map file_record files)
files_shown ram [] = refl
files_shown ram (f ∷ files) = ap (λ (l : List FileState). carried_file ram (file_record f) ∷ l) (files_shown ram files)

pub file_pushed : (ram : Ram) (f : FileRead) (c : CarriedFile) (out new : List CarriedFile) → new ≡ out ++ c ∷ [] → file_in ram c ≡ carried_file ram (file_record f)
    → map (file_in ram) new ≡ map (file_in ram) out ++ one_file ram f
file_pushed ram f c out new push is =
    ap (map (file_in ram)) push ∙ map-append (file_in ram) out (c ∷ []) ∙ ap (λ (x : FileState). map (file_in ram) out ++ x ∷ []) is

abbrev pub one_session : Ram → SessionRead → List SessionState
one_session ram s = carried_session ram (session_record s) ∷ []

pub sessions_shown : (ram : Ram) (sessions : List SessionRead) → flat_map (one_session ram) sessions ≡ map (carried_session ram) (map session_record sessions)
sessions_shown ram [] = refl
sessions_shown ram (s ∷ sessions) = ap (λ (l : List SessionState). carried_session ram (session_record s) ∷ l) (sessions_shown ram sessions)

pub session_pushed : (ram : Ram) (s : SessionRead) (c : CarriedSession) (out new : List CarriedSession) → new ≡ out ++ c ∷ [] → c.name ≡ s.name
    → map (file_in ram) c.files ≡ map (carried_file ram) (map file_record s.files.items) → map (session_in ram) new ≡ map (session_in ram) out ++ one_session ram s
session_pushed ram s c out new push name files =
    let all : map (file_in ram) c.files ≡ map (carried_file ram) (items_of (session_record s).files) =
    files ∙ ap (map (carried_file ram)) (sym (frames_have s.at (map file_record s.files.items))) in
    let is : session_in ram c ≡ carried_session ram (session_record s) = λ j. record { name = name j; files = all j } in
    ap (map (session_in ram)) push ∙ map-append (session_in ram) out (c ∷ []) ∙ ap (λ (x : SessionState). map (session_in ram) out ++ x ∷ []) is

-- the bound records under their kinds are found by them
bounds_shown : (a b c d : Option CarriedBound)
    → map (bound_among (((of_kind Dev0 a ++ of_kind Dev1 b) ++ of_kind Dev2 c) ++ of_kind Dev3 d)) devices ≡ map bound_view (a ∷ b ∷ c ∷ d ∷ [])
bounds_shown None None None None = refl
bounds_shown None None None (Some d) = refl
bounds_shown None None (Some c) None = refl
bounds_shown None None (Some c) (Some d) = refl
bounds_shown None (Some b) None None = refl
bounds_shown None (Some b) None (Some d) = refl
bounds_shown None (Some b) (Some c) None = refl
bounds_shown None (Some b) (Some c) (Some d) = refl
bounds_shown (Some a) None None None = refl
bounds_shown (Some a) None None (Some d) = refl
bounds_shown (Some a) None (Some c) None = refl
bounds_shown (Some a) None (Some c) (Some d) = refl
bounds_shown (Some a) (Some b) None None = refl
bounds_shown (Some a) (Some b) None (Some d) = refl
bounds_shown (Some a) (Some b) (Some c) None = refl
bounds_shown (Some a) (Some b) (Some c) (Some d) = refl

-- a list of four
four_are : {A : Type 0} (xs : List A) (a b c d : A) → length xs ≡ 4 → a ≡ get_or xs 0 a → b ≡ get_or xs 1 b → c ≡ get_or xs 2 c → d ≡ get_or xs 3 d → xs ≡ a ∷ b ∷ c ∷ d ∷ []
four_are [] a b c d h ea eb ec ed = absurd (omega (arith, h))
four_are (x ∷ []) a b c d h ea eb ec ed = absurd (omega (arith, h))
four_are (x ∷ y ∷ []) a b c d h ea eb ec ed = absurd (omega (arith, h))
four_are (x ∷ y ∷ z ∷ []) a b c d h ea eb ec ed = absurd (omega (arith, h))
four_are (x ∷ y ∷ z ∷ w ∷ []) a b c d h ea eb ec ed = sym (λ j. ea j ∷ eb j ∷ ec j ∷ ed j ∷ [])
four_are (x ∷ y ∷ z ∷ w ∷ v ∷ vs) a b c d h ea eb ec ed = absurd (omega (arith, h))

-- the bound records that are added one after the other
pub bounds_all : (xs : List (Option CarriedBound)) (a b c d : Option CarriedBound) (v0 v1 v2 v3 v4 v : List CarriedBound) → length xs ≡ 4
    → a ≡ get_or xs 0 a → b ≡ get_or xs 1 b → c ≡ get_or xs 2 c → d ≡ get_or xs 3 d → v0 ≡ [] → v1 ≡ v0 ++ of_kind Dev0 a → v2 ≡ v1 ++ of_kind Dev1 b
    → v3 ≡ v2 ++ of_kind Dev2 c → v4 ≡ v3 ++ of_kind Dev3 d → v ≡ v4 → map (bound_among v) devices ≡ map bound_view xs
bounds_all xs a b c d v0 v1 v2 v3 v4 v four ea eb ec ed e0 e1 e2 e3 e4 e =
    let is1 : v1 ≡ of_kind Dev0 a = e1 ∙ ap (λ (l : List CarriedBound). l ++ of_kind Dev0 a) e0 in
    let is2 : v2 ≡ of_kind Dev0 a ++ of_kind Dev1 b = e2 ∙ ap (λ (l : List CarriedBound). l ++ of_kind Dev1 b) is1 in
    let is3 : v3 ≡ (of_kind Dev0 a ++ of_kind Dev1 b) ++ of_kind Dev2 c = e3 ∙ ap (λ (l : List CarriedBound). l ++ of_kind Dev2 c) is2 in
    let is4 : v4 ≡ ((of_kind Dev0 a ++ of_kind Dev1 b) ++ of_kind Dev2 c) ++ of_kind Dev3 d = e4 ∙ ap (λ (l : List CarriedBound). l ++ of_kind Dev3 d) is3 in
    ap (λ (l : List CarriedBound). map (bound_among l) devices) (e ∙ is4) ∙ bounds_shown a b c d
    ∙ ap (map bound_view) (sym (four_are xs a b c d four ea eb ec ed))

-- the chunk frames' numbers
abbrev pub one_number : ChunkSheet → List ℕ
one_number s = s.at ∷ []

pub chunk_numbers : (chunks : List ChunkSheet) → flat_map one_number chunks ≡ numbers_of (chunk_views chunks)
chunk_numbers [] = refl
chunk_numbers (s ∷ chunks) = ap (λ (l : List ℕ). s.at ∷ l) (chunk_numbers chunks)
