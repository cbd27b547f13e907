-- Frames carry what they carried, where only scratch areas were written.
use Rattle.std.proofs.Common.{◌≡◌, ℕ, zero, suc, ◌+◌, ◌^◌, ◌≤◌, ◌<◌, Bool, true, false, List, [], ◌∷◌, ◌++◌, length, map, take, refl, sym, ap, subst, ◌∙◌, arith}
use Rattle.std.specs.Prelude.{nat_lt, nat_le, nat_eq, ◌||◌, IsTrue}
use Rattle.std.specs.List.{list_any, flat_map, range_with_len, AllByRecursion}
use Rattle.std.proofs.lemmas.Bool.{le-leb, lt-ltb, eq-eqb, and_from}
use Rattle.std.proofs.lemmas.List.{map-append}
use Rattle.std.proofs.lemmas.Grind.{flat_map-append}
use Rattle.ho_base.specs.ShapeRule.{Layout}
use Rattle.fdt_blob.specs.Blob.{Spells}
use Rattle.folio_bitmaps.specs.Runs.{Run}
use Rattle.ho_world.specs.Frozen.{Frozen}
use Rattle.record_frames.specs.Ram.{Ram, Page, Begins, is_frame, run_bytes}
use Rattle.record_frames.specs.Sheets.{Sheet, FileRecord, SessionRecord, items_of, numbers_of, map_items, chain_pages, first_of, chunk_pages, record_pages, session_pages, list_pages, session_slot, file_slot, session_slot_bytes, file_slot_bytes, element_bytes, number, record_numbers, session_numbers, list_numbers}
use Rattle.record_frames.specs.Rules.{versions}
use Rattle.record_frames.specs.Handover.{root_of}
use Rattle.record_frames.specs.Kept.{Kept, sessions_of, files_of, runs_of, all_files, bound_frames, bound_pages, carried, carried_file, carried_session, are_records, is_chain, are_bounds, devices}
use Rattle.std.proofs.Common.{Option, Some, None}
use Rattle.ho_events.specs.Handler.{BoundState}
use Rattle.record_frames.specs.Owners.{users, single, given, file_runs, run_holds, is_owned_well, all_owned_well}
use Rattle.record_frames.specs.Carries.{HavePages, Keep, SpellChain, SpellRecords}
use Rattle.next_laws.specs.Scratch.{StayBeside, ScratchIsFree}
use Rattle.next_laws.proofs.OffScratch.{all_at, user_off, chunk_off}

-- ---- facts of all numbers of a list

parts : {A : Type 0} (P : A → Type 0) (xs ys : List A) → AllByRecursion P (xs ++ ys) → AllByRecursion P xs × AllByRecursion P ys
parts P [] ys h = (tt, h)
parts P (x ∷ xs) ys h = let r = parts P xs ys h.1 in ((h.0, r.0), r.1)

or_left : (a b : Bool) → a ≡ true → (a || b) ≡ true
or_left a b h = ap (λ (x : Bool). x || b) h

or_right : (a b : Bool) → b ≡ true → (a || b) ≡ true
or_right true b h = refl
or_right false b h = h

each : (P : ℕ → Type 0) (xs : List ℕ) → ((q : ℕ) → list_any (nat_eq q) xs ≡ true → P q) → AllByRecursion P xs
each P [] h = tt
each P (x ∷ xs) h =
    (h x (or_left (nat_eq x x) (list_any (nat_eq x) xs) (eq-eqb x x refl)), each P xs (λ q m. h q (or_right (nat_eq q x) (list_any (nat_eq q) xs) m)))

-- ---- the numbers of pages

abbrev ats : List Page → List ℕ
ats pages = map (λ p. p.at) pages

chain_ats : {E : Type 0} (head : ℕ) (bytes : E → List ℕ) (sheets : List (Sheet E)) → ats (chain_pages head bytes sheets) ≡ numbers_of sheets
chain_ats head bytes [] = refl
chain_ats head bytes (s ∷ sheets) = ap (λ (l : List ℕ). s.at ∷ l) (chain_ats head bytes sheets)

same_numbers : {A B : Type 0} (f : A → B) (sheets : List (Sheet A)) → numbers_of (map_items f sheets) ≡ numbers_of sheets
same_numbers f [] = refl
same_numbers f (s ∷ sheets) = ap (λ (l : List ℕ). s.at ∷ l) (same_numbers f sheets)

lists_ats : (fs : List FileRecord) → ats (flat_map list_pages fs) ≡ flat_map list_numbers fs
lists_ats [] = refl
lists_ats (f ∷ fs) =
    map-append (λ (p : Page). p.at) (list_pages f) (flat_map list_pages fs)
    ∙ (λ j. chain_ats 16 number f.lists j ++ lists_ats fs j)

session_ats : (s : SessionRecord) → ats (session_pages s) ≡ session_numbers s
session_ats s =
    map-append (λ (p : Page). p.at) (chain_pages 128 file_slot_bytes (map_items file_slot s.files)) (flat_map list_pages (items_of s.files))
    ∙ (λ j. (chain_ats 128 file_slot_bytes (map_items file_slot s.files) ∙ same_numbers file_slot s.files) j ++ lists_ats (items_of s.files) j)

sessions_ats : (ss : List SessionRecord) → ats (flat_map session_pages ss) ≡ flat_map session_numbers ss
sessions_ats [] = refl
sessions_ats (s ∷ ss) =
    map-append (λ (p : Page). p.at) (session_pages s) (flat_map session_pages ss)
    ∙ (λ j. session_ats s j ++ sessions_ats ss j)

records_ats : (records : List (Sheet SessionRecord)) → ats (record_pages records) ≡ record_numbers records
records_ats records =
    map-append (λ (p : Page). p.at) (chain_pages 128 session_slot_bytes (map_items session_slot records)) (flat_map session_pages (items_of records))
    ∙ (λ j. (chain_ats 128 session_slot_bytes (map_items session_slot records) ∙ same_numbers session_slot records) j ++ sessions_ats (items_of records) j)

-- ---- pages that stay

module _ (ram new : Ram) where
  abbrev Same : ℕ → Type 0
  Same q = new.page q ≡ ram.page q

  -- each frame of a run has the bytes that it had
  abbrev SameRun : Run → Type 0
  SameRun r = (q : ℕ) → run_holds q r ≡ true → new.page q ≡ ram.page q

  still : (pages : List Page) → AllByRecursion Same (ats pages) → HavePages ram pages → HavePages new pages
  still [] same have = tt
  still (p ∷ pages) same have = (subst (λ (l : List ℕ). Begins l p.bytes) (sym same.0) have.0, still pages same.1 have.1)

  bounds_still : (bounds : List (Option BoundState)) → AllByRecursion Same (given (bound_frames bounds)) → HavePages ram (bound_pages bounds) → HavePages new (bound_pages bounds)
  bounds_still [] same have = tt
  bounds_still (None ∷ bounds) same have = bounds_still bounds same have
  bounds_still (Some b ∷ bounds) same have = (subst (λ (l : List ℕ). Begins l (number (length b.bytes) ++ b.bytes)) (sym same.0) have.0, bounds_still bounds same.1 have.1)

  each_run : (rs : List Run) → ((q : ℕ) → list_any (run_holds q) rs ≡ true → new.page q ≡ ram.page q) → AllByRecursion SameRun rs
  each_run [] h = tt
  each_run (r ∷ rs) h =
      (λ q m. h q (or_left (run_holds q r) (list_any (run_holds q) rs) m), each_run rs (λ q m. h q (or_right (run_holds q r) (list_any (run_holds q) rs) m)))

  singles : (xs : List ℕ) → AllByRecursion SameRun (map single xs) → AllByRecursion Same xs
  singles [] h = tt
  singles (x ∷ xs) h =
      (h.0 x (and_from (nat_le x x) (nat_lt x (x + 1)) (le-leb x x (omega arith)) (lt-ltb x (x + 1) (omega arith))), singles xs h.1)

  -- the bytes of a run
  bytes_from : (first start len : ℕ) (size : ℕ) → first ≤ start → start + len ≤ first + size
      → ((q : ℕ) → first ≤ q → q < first + size → new.page q ≡ ram.page q)
      → flat_map new.page (range_with_len start len) ≡ flat_map ram.page (range_with_len start len)
  bytes_from first start zero size lo hi h = refl
  bytes_from first start (suc len) size lo hi h =
      let here : new.page start ≡ ram.page start = h start lo (omega (arith, hi)) in
      let rest = bytes_from first (start + 1) len size (omega (arith, lo)) (omega (arith, hi)) h in
      (λ j. here j ++ rest j)

  run_same : (order first : ℕ) → SameRun (record { first = first; order = order }) → run_bytes new order first ≡ run_bytes ram order first
  run_same order first h =
      bytes_from first first (2 ^ order) (2 ^ order) (omega arith) (omega arith)
      (λ q lo hi. h q (and_from (nat_le first q) (nat_lt q (first + 2 ^ order)) (le-leb first q lo) (lt-ltb q (first + 2 ^ order) hi)))

  runs_same : (order : ℕ) (ps : List ℕ) → AllByRecursion SameRun (map (λ p. record { first = p; order = order }) ps)
      → flat_map (run_bytes new order) ps ≡ flat_map (run_bytes ram order) ps
  runs_same order [] h = refl
  runs_same order (p ∷ ps) h = (λ j. run_same order p h.0 j ++ runs_same order ps h.1 j)

  file_same : (f : FileRecord) → AllByRecursion SameRun (file_runs f) → carried_file new f ≡ carried_file ram f
  file_same f h = λ j. record {
    token = f.token;
    kind = f.kind;
    order = f.order;
    bytes = take f.size (runs_same f.order (runs_of f) h j);
    position = f.position;
    handle = f.handle;
    runs = runs_of f;
  }

  files_same : (fs : List FileRecord) → AllByRecursion SameRun (flat_map file_runs fs) → map (carried_file new) fs ≡ map (carried_file ram) fs
  files_same [] h = refl
  files_same (f ∷ fs) h =
      let two = parts SameRun (file_runs f) (flat_map file_runs fs) h in
      λ j. file_same f two.0 j ∷ files_same fs two.1 j

  sessions_same : (ss : List SessionRecord) → AllByRecursion SameRun (flat_map file_runs (flat_map files_of ss)) → map (carried_session new) ss ≡ map (carried_session ram) ss
  sessions_same [] h = refl
  sessions_same (s ∷ ss) h =
      let two = parts SameRun (flat_map file_runs (files_of s)) (flat_map file_runs (flat_map files_of ss))
      (subst (AllByRecursion SameRun) (flat_map-append file_runs (files_of s) (flat_map files_of ss)) h) in
      λ j. (record { name = s.name; files = files_same (files_of s) two.0 j }) ∷ sessions_same ss two.1 j

-- ---- all of it

module _ (ram new : Ram) (entry : ℕ) (k : Kept) (keep : Keep ram entry k) (stay : StayBeside k.shape ram new) where
  user_stays : (q : ℕ) → list_any (run_holds q) (users k) ≡ true → new.page q ≡ ram.page q
  user_stays q user = stay.pages q (λ lt. user_off k q (all_at (is_owned_well k) q 0 ram.count keep.owners (omega arith) (omega (arith, lt))) user)

  chunk_stays : (q : ℕ) → list_any (nat_eq q) (numbers_of k.chain) ≡ true → new.page q ≡ ram.page q
  chunk_stays q chunk = stay.pages q (λ lt. chunk_off k q (all_at (is_owned_well k) q 0 ram.count keep.owners (omega arith) (omega (arith, lt))) chunk)

  abbrev alone : List ℕ
  alone = k.entry ∷ (record_numbers k.records ++ given (bound_frames k.bounds))

  all_stay : AllByRecursion (SameRun ram new) (map single alone) × AllByRecursion (SameRun ram new) (flat_map file_runs (all_files k))
  all_stay = parts (SameRun ram new) (map single alone) (flat_map file_runs (all_files k)) (each_run ram new (users k) user_stays)

  alone_stay : AllByRecursion (Same ram new) alone
  alone_stay = singles ram new alone all_stay.0

  behind_entry : AllByRecursion (Same ram new) (record_numbers k.records) × AllByRecursion (Same ram new) (given (bound_frames k.bounds))
  behind_entry = parts (Same ram new) (record_numbers k.records) (given (bound_frames k.bounds)) alone_stay.1

  entry_stays : new.page entry ≡ ram.page entry
  entry_stays = subst (λ (e : ℕ). new.page e ≡ ram.page e) keep.begins alone_stay.0

  abbrev as_many : ram.count ≡ new.count
  as_many = sym stay.count

  chain_stays : SpellChain new (first_of k.chain) k.chain
  chain_stays = record {
    begins = keep.chain.begins;
    rules = subst (λ (n : ℕ). IsTrue (is_chain n k.chain)) as_many keep.chain.rules;
    pages = still ram new (chunk_pages k.chain)
        (subst (AllByRecursion (Same ram new)) (sym (chain_ats 32 element_bytes k.chain)) (each (Same ram new) (numbers_of k.chain) chunk_stays))
        keep.chain.pages;
  }

  records_stay : SpellRecords k.version new (first_of k.records) k.records
  records_stay = record {
    begins = keep.records.begins;
    rules = subst (λ (n : ℕ). IsTrue (are_records k.version n k.records)) as_many keep.records.rules;
    pages = still ram new (record_pages k.records)
        (subst (AllByRecursion (Same ram new)) (sym (records_ats k.records)) behind_entry.0) keep.records.pages;
  }

  keep_still : Keep new entry k
  keep_still = record {
    tree = keep.tree;
    luo = keep.luo;
    within = subst (λ (n : ℕ). IsTrue (is_frame n entry)) as_many keep.within;
    begins = keep.begins;
    spelled = subst (λ (l : List ℕ). Spells l keep.tree) (sym entry_stays) keep.spelled;
    root = ap (λ (n : ℕ). root_of versions n keep.tree) stay.count ∙ keep.root;
    child = keep.child;
    chain = chain_stays;
    records = records_stay;
    bounds = subst (λ (n : ℕ). IsTrue (are_bounds n (all_files k) devices k.bounds)) as_many keep.bounds;
    bound_bytes = bounds_still ram new k.bounds behind_entry.1 keep.bound_bytes;
    owners = subst (λ (n : ℕ). IsTrue (all_owned_well n k)) as_many keep.owners;
  }

  carried_still : carried new k ≡ carried ram k
  carried_still = λ j. record {
    shape = k.shape;
    number = k.number;
    sessions = sessions_same ram new (sessions_of k) all_stay.1 j;
    bounds = k.bounds;
  }

pub scratch_is_free : ScratchIsFree
scratch_is_free ram new entry f stay c =
    let shape : f.shape ≡ c.kept.shape = ap (λ (x : Frozen). x.shape) (sym c.is) in
    let here : StayBeside c.kept.shape ram new = subst (λ (l : Layout). StayBeside l ram new) shape stay in
    record { kept = c.kept; keep = keep_still ram new entry c.kept c.keep here; is = carried_still ram new entry c.kept c.keep here ∙ c.is }
