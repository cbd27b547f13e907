-- Frames carry one state at most, and break one rule first.
use Rattle.std.proofs.Common.{◌≡◌, ℕ, ◌^◌, ◌<◌, ◌≤◌, Bool, true, cond, List, [], ◌∷◌, ◌++◌, length, take, drop, Option, Some, None, Result, Ok, Err, refl, sym, ap, ◌∙◌, arith}
use Rattle.std.specs.Prelude.{nat_le, not, ◌&&◌}
use Rattle.std.specs.List.{list_all, flat_map, range_with_len}
use Rattle.std.proofs.lemmas.Bool.{leb-true, and_parts, not-true}
use Rattle.std.proofs.lemmas.List.{take_at}
use Rattle.std.proofs.lemmas.Nat.{from_le_bytes-to_le_bytes_8}
use Rattle.ho_base.specs.Bytes.{u64_at}
use Rattle.ho_base.specs.declared.limits.TheConstants.{MAX_FRAMES, BOUND_BYTES}
use Rattle.ho_base.specs.declared.numbers.Kind.{Kind}
use Rattle.fdt_blob.specs.declared.tree.FdtPlace.{FdtPlace}
use Rattle.fdt_blob.specs.Trees.{Tree}
use Rattle.fdt_blob.specs.Blob.{Spells, BreaksAt}
use Rattle.record_frames.specs.declared.place.ImagePlace.{ImagePlace}
use Rattle.record_frames.specs.declared.place.ImagePlace.TheVariants.{Entry, Tree as TreeAt, Root as RootAt, Luo as LuoAt, Chain, Record, Bound, Owner}
use Rattle.ho_events.specs.Handler.{BoundState}
use Rattle.ho_world.specs.Frozen.{Frozen}
use Rattle.record_frames.specs.Ram.{Ram, Begins, is_frame}
use Rattle.folio_bitmaps.specs.Chunks.{Element}
use Rattle.record_frames.specs.Sheets.{Sheet, FileRecord, SessionRecord, number, first_of, items_of}
use Rattle.record_frames.specs.Rules.{versions}
use Rattle.record_frames.specs.Handover.{Root, Luo, root_of, luo_of}
use Rattle.record_frames.specs.Kept.{Kept, are_bounds, is_bound_frame, has_kind, devices, bound_frames, bound_pages, all_files, files_of, carried}
use Rattle.record_frames.specs.Owners.{is_owned_well, first_ill}
use Rattle.record_frames.specs.Carries.{HavePages, Keep, Carries}
use Rattle.record_frames.specs.Reading.{◌>>=◌, or_else, told_as, chunks_at, records_at, bound_at, bounds_at, owned_well, kept_at, BreakAt, BreaksBehind}
use Rattle.record_frames.specs.Laws.{OneTree, OneState, NoState, OnePlace}
use Rattle.record_frames.proofs.Fronts.{behind}
use Rattle.record_frames.proofs.Records.{records_again, chunks_again}

-- ---- bound records

bound_again : (ram : Ram) (has : Bool) (b : BoundState) → is_bound_frame ram.count (Some b) has ≡ true
    → Begins (ram.page b.frame) (number (length b.bytes) ++ b.bytes) → bound_at ram has (Some b.frame) ≡ Some (Some b)
bound_again ram has b h begins =
    let page = ram.page b.frame in
    let len = length b.bytes in
    let a = and_parts (has && is_frame ram.count b.frame) (nat_le len BOUND_BYTES) h in
    let small : len < 2 ^ 64 = omega (arith, leb-true len BOUND_BYTES a.1) in
    let rest = drop (length (number len ++ b.bytes)) page in
    let parts : page ≡ number len ++ b.bytes ++ rest = behind page (number len ++ b.bytes) begins in
    let size : u64_at page 0 ≡ len = ap (λ (x : List ℕ). u64_at x 0) parts ∙ from_le_bytes-to_le_bytes_8 len small in
    let bytes : take len (drop 8 page) ≡ b.bytes = ap (λ (x : List ℕ). take len (drop 8 x)) parts ∙ take_at b.bytes rest len refl in
    ap (λ (n : ℕ). cond (has && is_frame ram.count b.frame && nat_le n BOUND_BYTES) (Some (Some (record { bytes = take n (drop 8 page); frame = b.frame }))) None) size
    ∙ ap (λ (t : Bool). cond t (Some (Some (record { bytes = take len (drop 8 page); frame = b.frame }))) None) h
    ∙ ap (λ (x : List ℕ). Some (Some (record { bytes = x; frame = b.frame }))) bytes

abbrev with_bound : Kind → Result (List (Option BoundState)) Kind → Option (Option BoundState) → Result (List (Option BoundState)) Kind
with_bound kind rest o = or_else kind o >>= λ bound. rest >>= λ bounds. Ok (bound ∷ bounds)

bounds_again : (ram : Ram) (files : List FileRecord) (kinds : List Kind) (bounds : List (Option BoundState)) → are_bounds ram.count files kinds bounds ≡ true
    → HavePages ram (bound_pages bounds) → bounds_at ram files kinds (bound_frames bounds) ≡ Ok bounds
bounds_again ram files [] [] h pages = refl
bounds_again ram files [] (b ∷ bounds) h pages = absurd cc
bounds_again ram files (kind ∷ kinds) [] h pages = absurd cc
bounds_again ram files (kind ∷ kinds) (None ∷ bounds) h pages =
    let hs = and_parts (not (has_kind files kind)) (are_bounds ram.count files kinds bounds) h in
    let rest = bounds_again ram files kinds bounds hs.1 pages in
    ap (λ (t : Bool). with_bound kind (bounds_at ram files kinds (bound_frames bounds)) (cond t None (Some None))) (not-true (has_kind files kind) hs.0)
    ∙ ap (λ (r : Result (List (Option BoundState)) Kind). with_bound kind r (Some None)) rest
bounds_again ram files (kind ∷ kinds) (Some b ∷ bounds) h pages =
    let hs = and_parts (is_bound_frame ram.count (Some b) (has_kind files kind)) (are_bounds ram.count files kinds bounds) h in
    let rest = bounds_again ram files kinds bounds hs.1 pages.1 in
    ap (λ (o : Option (Option BoundState)). with_bound kind (bounds_at ram files kinds (bound_frames bounds)) o) (bound_again ram (has_kind files kind) b hs.0 pages.0)
    ∙ ap (λ (r : Result (List (Option BoundState)) Kind). with_bound kind r (Some (Some b))) rest

-- ---- owners

none_ill : (k : Kept) (ps : List ℕ) → list_all (is_owned_well k) ps ≡ true → first_ill k ps ≡ None
none_ill k [] h = refl
none_ill k (p ∷ ps) h =
    let hs = and_parts (is_owned_well k p) (list_all (is_owned_well k) ps) h in
    ap (λ (t : Bool). cond t (first_ill k ps) (Some p)) hs.0 ∙ none_ill k ps hs.1

-- ---- all parts

-- the steps after each part
abbrev pub put_together : ℕ → Root → Luo → List (Sheet Element) → List (Sheet SessionRecord) → List (Option BoundState) → Kept
put_together entry root luo chain records bounds = record {
  version = root.version;
  shape = root.shape;
  number = luo.number;
  entry = entry;
  chain = chain;
  records = records;
  bounds = bounds;
}

abbrev pub last_step : Ram → ℕ → Root → Luo → List (Sheet Element) → List (Sheet SessionRecord) → List (Option BoundState) → Result Kept ImagePlace
last_step ram entry root luo chain records bounds =
    let k = put_together entry root luo chain records bounds in owned_well k (first_ill k (range_with_len 0 ram.count))

abbrev pub from_records : Ram → ℕ → Root → Luo → List (Sheet Element) → List (Sheet SessionRecord) → Result Kept ImagePlace
from_records ram entry root luo chain records =
    told_as Bound (bounds_at ram (flat_map files_of (items_of records)) devices luo.bounds) >>= λ bounds. last_step ram entry root luo chain records bounds

abbrev pub from_chain : Ram → ℕ → Root → Luo → List (Sheet Element) → Result Kept ImagePlace
from_chain ram entry root luo chain = told_as Record (records_at root.version ram luo.header) >>= λ records. from_records ram entry root luo chain records

abbrev pub from_luo : Ram → ℕ → Root → Luo → Result Kept ImagePlace
from_luo ram entry root luo = told_as Chain (chunks_at ram root.chunk) >>= λ chain. from_chain ram entry root luo chain

abbrev pub from_root : Ram → ℕ → Root → Result Kept ImagePlace
from_root ram entry root = or_else LuoAt (luo_of root.version root.luo) >>= λ luo. from_luo ram entry root luo

pub steps : (ram : Ram) (entry : ℕ) (t : Tree) → kept_at ram entry t ≡ (or_else RootAt (root_of versions ram.count t) >>= λ root. from_root ram entry root)
unfolding kept_at
steps ram entry t = refl

pub kept_again : (ram : Ram) (entry : ℕ) (k : Kept) → ram.count ≤ MAX_FRAMES → (keep : Keep ram entry k) → kept_at ram entry keep.tree ≡ Ok k
kept_again ram entry k few keep =
    let small : ram.count ≤ 2 ^ 64 = omega (arith, few) in
    let root : Root = record { version = k.version; shape = k.shape; chunk = first_of k.chain; luo = keep.luo } in
    let luo : Luo = record { number = k.number; header = first_of k.records; bounds = bound_frames k.bounds } in
    steps ram entry keep.tree
    ∙ ap (λ (o : Option Root). or_else RootAt o >>= λ root. from_root ram entry root) keep.root
    ∙ ap (λ (o : Option Luo). or_else LuoAt o >>= λ luo. from_luo ram entry root luo) keep.child
    ∙ ap (λ (r : Result (List (Sheet Element)) ℕ). told_as Chain r >>= λ chain. from_chain ram entry root luo chain) (chunks_again ram (first_of k.chain) k.chain small keep.chain)
    ∙ ap (λ (r : Result (List (Sheet SessionRecord)) ℕ). told_as Record r >>= λ records. from_records ram entry root luo k.chain records)
    (records_again k.version ram (first_of k.records) k.records small keep.records)
    ∙ ap (λ (r : Result (List (Option BoundState)) Kind). told_as Bound r >>= λ bounds. last_step ram entry root luo k.chain k.records bounds)
    (bounds_again ram (all_files k) devices k.bounds keep.bounds keep.bound_bytes)
    ∙ ap (λ (e : ℕ). last_step ram e root luo k.chain k.records k.bounds) (sym keep.begins)
    ∙ ap (λ (o : Option ℕ). owned_well k o) (none_ill k (range_with_len 0 ram.count) keep.owners)

-- ---- one state, or one place

abbrev read_as : Kept → Result Kept ImagePlace
read_as k = Ok k

abbrev told : ImagePlace → Result Kept ImagePlace
told p = Err p

ok_is : (k l : Kept) → read_as k ≡ read_as l → k ≡ l
ok_is k l e = cc

not_both : (k : Kept) (p : ImagePlace) → read_as k ≡ told p → ⊥
not_both k p e = cc

err_is : (p q : ImagePlace) → told p ≡ told q → p ≡ q
err_is p q e = cc

pub one_state : OneTree → OneState
one_state trees ram entry f g few a b =
    let same = trees.one (ram.page entry) a.keep.tree b.keep.tree a.keep.spelled b.keep.spelled in
    let kept = ok_is a.kept b.kept
    (sym (kept_again ram entry a.kept few a.keep) ∙ ap (kept_at ram entry) same ∙ kept_again ram entry b.kept few b.keep) in
    sym a.is ∙ ap (carried ram) kept ∙ b.is

none_behind : OneTree → (ram : Ram) (entry : ℕ) (f : Frozen) (p : ImagePlace) → ram.count ≤ MAX_FRAMES → Carries ram entry f → BreaksBehind ram entry p → ⊥
none_behind trees ram entry f p few a b =
    let same = trees.one (ram.page entry) a.keep.tree b.1.0 a.keep.spelled b.1.1 in
    not_both a.kept p (sym (kept_again ram entry a.kept few a.keep) ∙ ap (kept_at ram entry) same ∙ b.1.2)

pub no_state : OneTree → NoState
no_state trees ram entry f Entry few a b = b a.keep.within
no_state trees ram entry f (TreeAt p) few a b = trees.none (ram.page entry) p a.keep.tree b.1 a.keep.spelled
no_state trees ram entry f RootAt few a b = none_behind trees ram entry f RootAt few a b
no_state trees ram entry f LuoAt few a b = none_behind trees ram entry f LuoAt few a b
no_state trees ram entry f (Chain n) few a b = none_behind trees ram entry f (Chain n) few a b
no_state trees ram entry f (Record n) few a b = none_behind trees ram entry f (Record n) few a b
no_state trees ram entry f (Bound k) few a b = none_behind trees ram entry f (Bound k) few a b
no_state trees ram entry f (Owner p) few a b = none_behind trees ram entry f (Owner p) few a b

-- where a rule breaks first
data Breaking (ram : Ram) (entry : ℕ) (p : ImagePlace) : Type 0 where
  at_entry : p ≡ Entry → (is_frame ram.count entry ≡ true → ⊥) → Breaking ram entry p
  at_tree : (place : FdtPlace) → p ≡ TreeAt place → is_frame ram.count entry ≡ true → BreaksAt (ram.page entry) place → Breaking ram entry p
  behind_tree : is_frame ram.count entry ≡ true → (t : Tree) → Spells (ram.page entry) t → kept_at ram entry t ≡ Err p → Breaking ram entry p

breaking : (ram : Ram) (entry : ℕ) (p : ImagePlace) → BreakAt ram entry p → Breaking ram entry p
breaking ram entry Entry b = at_entry refl b
breaking ram entry (TreeAt p) b = at_tree p refl b.0 b.1
breaking ram entry RootAt b = behind_tree b.0 b.1.0 b.1.1 b.1.2
breaking ram entry LuoAt b = behind_tree b.0 b.1.0 b.1.1 b.1.2
breaking ram entry (Chain n) b = behind_tree b.0 b.1.0 b.1.1 b.1.2
breaking ram entry (Record n) b = behind_tree b.0 b.1.0 b.1.1 b.1.2
breaking ram entry (Bound k) b = behind_tree b.0 b.1.0 b.1.1 b.1.2
breaking ram entry (Owner p) b = behind_tree b.0 b.1.0 b.1.1 b.1.2

same_place : OneTree → (ram : Ram) (entry : ℕ) (p q : ImagePlace) → Breaking ram entry p → Breaking ram entry q → p ≡ q
same_place trees ram entry p q (at_entry e n) (at_entry f m) = e ∙ sym f
same_place trees ram entry p q (at_entry e n) (at_tree place f frame b) = absurd (n frame)
same_place trees ram entry p q (at_entry e n) (behind_tree frame t s b) = absurd (n frame)
same_place trees ram entry p q (at_tree place e frame b) (at_entry f m) = absurd (m frame)
same_place trees ram entry p q (at_tree place e frame b) (at_tree other f frame' c) =
    e ∙ ap (λ (x : FdtPlace). TreeAt x) (trees.first (ram.page entry) place other b c) ∙ sym f
same_place trees ram entry p q (at_tree place e frame b) (behind_tree frame' t s c) = absurd (trees.none (ram.page entry) place t b s)
same_place trees ram entry p q (behind_tree frame t s b) (at_entry f m) = absurd (m frame)
same_place trees ram entry p q (behind_tree frame t s b) (at_tree place f frame' c) = absurd (trees.none (ram.page entry) place t c s)
same_place trees ram entry p q (behind_tree frame t s b) (behind_tree frame' u r c) =
    err_is p q (sym b ∙ ap (kept_at ram entry) (trees.one (ram.page entry) t u s r) ∙ c)

pub one_place : OneTree → OnePlace
one_place trees ram entry p q b c = same_place trees ram entry p q (breaking ram entry p b) (breaking ram entry q c)
