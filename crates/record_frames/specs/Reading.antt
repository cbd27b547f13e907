-- Reading frames in the order in which places are reported: what is kept, or the first place whose rules break.
use Rattle.std.specs.Prelude.{◌≡◌, ℕ, zero, suc, ◌+◌, ◌-◌, Bool, not, ◌&&◌, ◌==◌, nat_le, nat_eq, if◌then◌else◌, List, [], ◌∷◌, ◌++◌, length, take, drop, Option, Some, None, Result, Ok, Err, IsTrue}
use Rattle.std.specs.List.{list_all, list_any, flat_map, range_with_len}
use Rattle.ho_base.specs.Bytes.{u64_at}
use Rattle.ho_base.specs.declared.limits.TheConstants.{BOUND_BYTES}
use Rattle.ho_base.specs.declared.numbers.Kind.{Kind}
use Rattle.ho_base.specs.declared.numbers.Kind.TheVariants.{Memfd, Dev0, Dev1, Dev2, Dev3}
use Rattle.fdt_blob.specs.Trees.{Tree}
use Rattle.fdt_blob.specs.Blob.{Spells, BreaksAt}
use Rattle.record_frames.specs.declared.place.ImagePlace.{ImagePlace}
use Rattle.record_frames.specs.declared.place.ImagePlace.TheVariants.{Entry, Tree as TreeAt, Root as RootAt, Luo as LuoAt, Chain, Record, Bound, Owner}
use Rattle.ho_events.specs.Handler.{BoundState}
use Rattle.record_frames.specs.Ram.{Ram, is_frame}
use Rattle.folio_bitmaps.specs.Chunks.{Element}
use Rattle.record_frames.specs.Sheets.{Sheet, FileRecord, SessionRecord, FileSlot, SessionSlot, items_of, numbers_of}
use Rattle.record_frames.specs.Rules.{Version, versions, SLOTS, LISTED, ELEMENTS, is_session_sheet, is_file_sheet, is_list_sheet, is_chunk_sheet}
use Rattle.record_frames.specs.Handover.{root_of, luo_of}
use Rattle.record_frames.specs.Kept.{Kept, devices, has_kind, files_of}
use Rattle.record_frames.specs.Owners.{first_ill}

-- the first step that breaks ends the reading
infixl 10 ◌>>=◌
abbrev pub ◌>>=◌ : {A B E : Type 0} → Result A E → (A → Result B E) → Result B E
(Ok x) >>= f = f x
(Err e) >>= f = Err e

-- a missing value as an error
abbrev pub or_else : {A E : Type 0} → E → Option A → Result A E
or_else e None = Err e
or_else e (Some x) = Ok x

-- the same, with another name for the place
abbrev pub told_as : {A E F : Type 0} → (E → F) → Result A E → Result A F
told_as name (Ok x) = Ok x
told_as name (Err e) = Err (name e)

-- the same for values that may be missing
abbrev pub also : {A B : Type 0} → Option A → (A → Option B) → Option B
also None f = None
also (Some x) f = f x

abbrev pub are_zero : List ℕ → Bool
are_zero bytes = list_all (nat_eq 0) bytes

-- a frame of a chain: the number of the next one, and its items
pub record Front (E : Type 0) : Type 0 where
  pub next : ℕ
  pub items : List E

-- so many items of a size
abbrev pub items_at : {E : Type 0} → ℕ → (List ℕ → Option E) → ℕ → List ℕ → Option (List E)
items_at size item zero bytes = Some []
items_at size item (suc k) bytes = also (item (take size bytes)) (λ x. also (items_at size item k (drop size bytes)) (λ xs. Some (x ∷ xs)))

-- how the frames of a chain are laid out: where the items begin, how many bytes each has and how many there may be
pub record Layout (E : Type 0) : Type 0 where
  pub head : ℕ
  pub size : ℕ
  pub most : ℕ
  pub item : List ℕ → Option E

-- what the bytes of a frame say
unfoldable pub front_at : {E : Type 0} → Layout E → List ℕ → Option (Front E)
front_at l page =
    if nat_le (u64_at page 8) l.most && are_zero (take (l.head - 16) (drop 16 page)) then
    also (items_at l.size l.item (u64_at page 8) (drop l.head page)) (λ items. Some (record { next = u64_at page 0; items = items }))
    else None

-- the bytes up to the first zero
abbrev pub text_of : List ℕ → List ℕ
text_of [] = []
text_of (b ∷ bytes) = if b == 0 then [] else b ∷ text_of bytes

-- what the 128 bytes of a session's slot say; none where bytes that have no meaning aren't zero
unfoldable pub session_slot_at : List ℕ → Option SessionSlot
session_slot_at bytes =
    let name = text_of (take 64 bytes) in
    if are_zero (drop (length name) (take 64 bytes)) && are_zero (drop 80 bytes) then
    Some (record { name = name; files = u64_at bytes 64; first = u64_at bytes 72 })
    else None

-- the kind with a number
abbrev pub kind_of : ℕ → Option Kind
kind_of n = if n == 0 then Some Memfd else if n == 1 then Some Dev0 else if n == 2 then Some Dev1 else if n == 3 then Some Dev2 else if n == 4 then Some Dev3 else None

-- what the 128 bytes of a file's slot say; none where there is no such kind, or bytes that have no meaning aren't zero
unfoldable pub file_slot_at : List ℕ → Option FileSlot
file_slot_at bytes =
    also (kind_of (u64_at bytes 8)) (λ kind.
    if are_zero (drop 64 bytes) then
    Some (record {
      token = u64_at bytes 0;
      kind = kind;
      order = u64_at bytes 16;
      size = u64_at bytes 24;
      position = u64_at bytes 32;
      handle = u64_at bytes 40;
      first = u64_at bytes 48;
      folios = u64_at bytes 56;
    })
    else None)

-- a number of a list frame, and an element of a chunk frame
abbrev pub listed_at : List ℕ → Option ℕ
listed_at bytes = Some (u64_at bytes 0)

abbrev pub element_at : List ℕ → Option Element
element_at bytes = Some (record { base = u64_at bytes 0; order = u64_at bytes 8; bits = drop 16 bytes })

-- the four sorts of chains
abbrev pub session_layout : Layout SessionSlot
session_layout = record { head = 128; size = 128; most = SLOTS; item = session_slot_at }

abbrev pub file_layout : Layout FileSlot
file_layout = record { head = 128; size = 128; most = SLOTS; item = file_slot_at }

abbrev pub list_layout : Layout ℕ
list_layout = record { head = 16; size = 8; most = LISTED; item = listed_at }

abbrev pub chunk_layout : Layout Element
chunk_layout = record { head = 32; size = 528; most = ELEMENTS; item = element_at }

-- A frame with this number after others of its chain: it is within the frames, wasn't read before, and keeps the test.
unfoldable pub sheet_at : {E : Type 0} → Ram → Layout E → (List (Sheet E) → List E → ℕ → Bool) → List ℕ → List (Sheet E) → ℕ → Option (Front E)
sheet_at ram l test seen earlier at =
    if is_frame ram.count at && not (list_any (nat_eq at) (seen ++ numbers_of earlier)) then
    also (front_at l (ram.page at)) (λ f. if test earlier f.items f.next then Some f else None)
    else None

-- What follows from a frame: nothing where it can't be read; the whole chain where it is the last; else the rest.
abbrev pub go_on : {E : Type 0} → List (Sheet E) → ℕ → (List (Sheet E) → ℕ → Result (List (Sheet E)) ℕ) → Option (Front E) → Result (List (Sheet E)) ℕ
go_on earlier at rest None = Err at
go_on earlier at rest (Some f) =
    let now = earlier ++ (record { at = at; items = f.items }) ∷ [] in
    if f.next == 0 then Ok now else rest now f.next

-- the rest of a chain from a number on, after the sheets that were read: the whole of it, or the first number that breaks it
abbrev pub chain_from : {E : Type 0} → (List (Sheet E) → ℕ → Option (Front E)) → ℕ → List (Sheet E) → ℕ → Result (List (Sheet E)) ℕ
chain_from read zero earlier at = Err at
chain_from read (suc n) earlier at = go_on earlier at (chain_from read n) (read earlier at)

-- A chain from a number on. No frame is read twice, so it has fewer frames than the machine.
unfoldable pub chain_at : {E : Type 0} → Ram → Layout E → (List (Sheet E) → List E → ℕ → Bool) → List ℕ → ℕ → Result (List (Sheet E)) ℕ
chain_at ram l test seen at = chain_from (sheet_at ram l test seen) ram.count [] at

-- each item in turn, with what was read before it
abbrev pub each_item : {A B S : Type 0} → (S → A → Result (B × S) ℕ) → S → List A → Result (List B × S) ℕ
each_item read seen [] = Ok ([], seen)
each_item read seen (x ∷ xs) = read seen x >>= λ y. each_item read y.1 xs >>= λ ys. Ok (y.0 ∷ ys.0, ys.1)

-- the same for the items of sheets
abbrev pub each_sheet : {A B S : Type 0} → (S → A → Result (B × S) ℕ) → S → List (Sheet A) → Result (List (Sheet B) × S) ℕ
each_sheet read seen [] = Ok ([], seen)
each_sheet read seen (s ∷ sheets) =
    each_item read seen s.items >>= λ items.
    each_sheet read items.1 sheets >>= λ rest.
    Ok ((record { at = s.at; items = items.0 }) ∷ rest.0, rest.1)

-- the list frames of a file, after the record frames that were read
unfoldable pub file_at : Ram → List ℕ → FileSlot → Result (FileRecord × List ℕ) ℕ
file_at ram seen f =
    (if f.folios == 0 then Ok [] else chain_at ram list_layout (is_list_sheet ram.count f.order f.folios) seen f.first) >>= λ lists.
    Ok (
      record {
        token = f.token;
        kind = f.kind;
        order = f.order;
        size = f.size;
        position = f.position;
        handle = f.handle;
        lists = lists;
      },
      seen ++ numbers_of lists,
    )

-- the numbers of the record frames that were read, and how many files they have
pub record Seen : Type 0 where
  pub numbers : List ℕ
  pub files : ℕ

-- the file frames of a session, and then the list frames of its files
unfoldable pub session_at : Version → Ram → Seen → SessionSlot → Result (SessionRecord × Seen) ℕ
session_at v ram seen s =
    (if s.files == 0 then Ok [] else chain_at ram file_layout (is_file_sheet v seen.files s.files) seen.numbers s.first) >>= λ slots.
    each_sheet (file_at ram) (seen.numbers ++ numbers_of slots) slots >>= λ files.
    Ok (record { name = s.name; files = files.0 }, record { numbers = files.1; files = seen.files + s.files })

-- the session frames, and then session by session
unfoldable pub records_at : Version → Ram → ℕ → Result (List (Sheet SessionRecord)) ℕ
records_at v ram header =
    chain_at ram session_layout (is_session_sheet v) [] header >>= λ slots.
    each_sheet (session_at v ram) (record { numbers = numbers_of slots; files = 0 }) slots >>= λ sessions.
    Ok sessions.0

-- the chunk frames
unfoldable pub chunks_at : Ram → ℕ → Result (List (Sheet Element)) ℕ
chunks_at ram first = chain_at ram chunk_layout (is_chunk_sheet ram.count) [] first

-- a bound record, there exactly where there is a file of the kind
abbrev pub bound_at : Ram → Bool → Option ℕ → Option (Option BoundState)
bound_at ram has None = if has then None else Some None
bound_at ram has (Some p) =
    if has && is_frame ram.count p && nat_le (u64_at (ram.page p) 0) BOUND_BYTES then
    Some (Some (record { bytes = take (u64_at (ram.page p) 0) (drop 8 (ram.page p)); frame = p }))
    else None

-- the bound records, or the first kind whose one breaks a rule
abbrev pub bounds_at : Ram → List FileRecord → List Kind → List (Option ℕ) → Result (List (Option BoundState)) Kind
bounds_at ram files [] frames = Ok []
bounds_at ram files (kind ∷ kinds) [] = Err kind
bounds_at ram files (kind ∷ kinds) (p ∷ frames) =
    or_else kind (bound_at ram (has_kind files kind) p) >>= λ bound.
    bounds_at ram files kinds frames >>= λ bounds.
    Ok (bound ∷ bounds)

-- every frame keeps the owners' rule, or the least one that doesn't
abbrev pub owned_well : Kept → Option ℕ → Result Kept ImagePlace
owned_well k None = Ok k
owned_well k (Some p) = Err (Owner (record { 0 = p }))

-- what frames keep whose entry frame spells this tree, or the first place whose rules break
unfoldable pub kept_at : Ram → ℕ → Tree → Result Kept ImagePlace
kept_at ram entry tree =
    or_else RootAt (root_of versions ram.count tree) >>= λ root.
    or_else LuoAt (luo_of root.version root.luo) >>= λ luo.
    told_as Chain (chunks_at ram root.chunk) >>= λ chain.
    told_as Record (records_at root.version ram luo.header) >>= λ records.
    told_as Bound (bounds_at ram (flat_map files_of (items_of records)) devices luo.bounds) >>= λ bounds.
    let k : Kept = record {
      version = root.version;
      shape = root.shape;
      number = luo.number;
      entry = entry;
      chain = chain;
      records = records;
      bounds = bounds;
    } in
    owned_well k (first_ill k (range_with_len 0 ram.count))

-- the places after the tree
abbrev pub BreaksBehind : Ram → ℕ → ImagePlace → Type 0
BreaksBehind ram entry p =
    IsTrue (is_frame ram.count entry) × ((t : Tree) × Spells (ram.page entry) t × (kept_at ram entry t ≡ Err p))

-- The first place whose rules break: then the frames carry nothing.
abbrev pub BreakAt : Ram → ℕ → ImagePlace → Type 0
BreakAt ram entry Entry = ¬ (IsTrue (is_frame ram.count entry))
BreakAt ram entry (TreeAt p) = IsTrue (is_frame ram.count entry) × BreaksAt (ram.page entry) p
BreakAt ram entry RootAt = BreaksBehind ram entry RootAt
BreakAt ram entry LuoAt = BreaksBehind ram entry LuoAt
BreakAt ram entry (Chain n) = BreaksBehind ram entry (Chain n)
BreakAt ram entry (Record n) = BreaksBehind ram entry (Record n)
BreakAt ram entry (Bound k) = BreaksBehind ram entry (Bound k)
BreakAt ram entry (Owner p) = BreaksBehind ram entry (Owner p)
