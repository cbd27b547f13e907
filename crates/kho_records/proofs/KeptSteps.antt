-- The parts of an image in the order in which they are read.
use Rattle.std.proofs.Common.{◌≡◌, ℕ, ◌<◌, true, List, Option, Some, None, Result, Ok, Err, refl, sym, ap, subst, ◌∙◌}
use Rattle.std.specs.List.{flat_map, range_with_len}
use Rattle.std.specs.Prelude.{nat_lt}
use Rattle.std.proofs.lemmas.Bool.{and_parts, ltb-true}
use Rattle.ho_base.specs.declared.numbers.Kind.{Kind}
use Rattle.ho_base.specs.declared.numbers.Pfn.{Pfn}
use Rattle.ho_events.specs.Handler.{BoundState}
use Rattle.fdt_blob.specs.Trees.{Tree}
use Rattle.folio_bitmaps.specs.Chunks.{Element}
use Rattle.record_frames.specs.Ram.{Ram, is_frame}
use Rattle.record_frames.specs.Sheets.{Sheet, SessionRecord, items_of}
use Rattle.record_frames.specs.Rules.{version_1, versions}
use Rattle.record_frames.specs.Handover.{Root, Luo, root_of, luo_of}
use Rattle.record_frames.specs.Kept.{Kept, devices, files_of}
use Rattle.record_frames.specs.Owners.{first_ill}
use Rattle.record_frames.specs.Carries.{Keep}
use Rattle.record_frames.specs.Reading.{◌>>=◌, or_else, told_as, chunks_at, records_at, bounds_at, owned_well, kept_at, BreakAt}
use Rattle.record_frames.specs.Laws.{Holds, ReadIsKept}
use Rattle.record_frames.specs.Slots.{Tells}
use Rattle.record_frames.specs.Entry.{IsHandover, TellsHandover}
use Rattle.record_frames.specs.declared.place.ImagePlace.{ImagePlace}
use Rattle.record_frames.specs.declared.place.ImagePlace.TheVariants.{Root as RootAt, Luo as LuoAt, Chain, Record, Bound, Owner}
use Rattle.record_frames.specs.declared.entry.HandoverRead.{HandoverRead}
use Rattle.kho_records.specs.Owned.{frame_number}
use Rattle.kho_records.specs.Survey.{kept_of, AreRead, TellsFrames}
use Rattle.kho_records.specs.declared.reading.FramesRead.{FramesRead}

module _ (ram : Ram) (entry : ℕ) (h : HandoverRead) where
  abbrev Chained : Type 0
  Chained = List (Sheet Element)

  abbrev Recorded : Type 0
  Recorded = List (Sheet SessionRecord)

  abbrev whole : Chained → Recorded → List (Option BoundState) → Kept
  whole chain records bounds = record {
    version = version_1;
    shape = h.shape;
    number = h.luo.number;
    entry = entry;
    chain = chain;
    records = records;
    bounds = bounds;
  }

  abbrev after_bounds : Chained → Recorded → Result (List (Option BoundState)) Kind → Result Kept ImagePlace
  after_bounds chain records b =
      told_as Bound b >>= λ bounds. owned_well (whole chain records bounds) (first_ill (whole chain records bounds) (range_with_len 0 ram.count))

  abbrev bounds_read : Recorded → Result (List (Option BoundState)) Kind
  bounds_read records = bounds_at ram (flat_map files_of (items_of records)) devices h.luo.bounds

  abbrev after_records : Chained → Result Recorded ℕ → Result Kept ImagePlace
  after_records chain r = told_as Record r >>= λ records. after_bounds chain records (bounds_read records)

  abbrev after_chain : Result Chained ℕ → Result Kept ImagePlace
  after_chain c = told_as Chain c >>= λ chain. after_records chain (records_at version_1 ram h.luo.header)

  abbrev from_luo : Root → Option Luo → Result Kept ImagePlace
  from_luo root o =
      or_else LuoAt o >>= λ luo.
      told_as Chain (chunks_at ram root.chunk) >>= λ chain.
      told_as Record (records_at root.version ram luo.header) >>= λ records.
      told_as Bound (bounds_at ram (flat_map files_of (items_of records)) devices luo.bounds) >>= λ bounds.
      let k : Kept = record {
        version = root.version;
        shape = root.shape;
        number = luo.number;
        entry = entry;
        chain = chain;
        records = records;
        bounds = bounds;
      } in
      owned_well k (first_ill k (range_with_len 0 ram.count))

  from_root : (t : Tree) → kept_at ram entry t ≡ (or_else RootAt (root_of versions ram.count t) >>= λ root. from_luo root (luo_of root.version root.luo))
  unfolding kept_at
  from_root t = refl

  -- what follows the entry frame
  from_handover : (i : IsHandover ram entry h) → kept_at ram entry i.tree ≡ after_chain (chunks_at ram h.chunk)
  from_handover i =
      from_root i.tree
      ∙ ap (λ (o : Option Root). or_else RootAt o >>= λ root. from_luo root (luo_of root.version root.luo)) i.root
      ∙ ap (λ (o : Option Luo). from_luo (record { version = version_1; shape = h.shape; chunk = h.chunk; luo = i.luo }) o) i.child

  pub chain_breaks : IsHandover ram entry h → (p : ℕ) → chunks_at ram h.chunk ≡ Err p → BreakAt ram entry (Chain p)
  chain_breaks i p e = (i.within, (i.tree, i.spelled, from_handover i ∙ ap after_chain e))

  pub record_breaks : IsHandover ram entry h → (chain : Chained) (p : ℕ) → chunks_at ram h.chunk ≡ Ok chain → records_at version_1 ram h.luo.header ≡ Err p
      → BreakAt ram entry (Record p)
  record_breaks i chain p c e = (i.within, (i.tree, i.spelled, from_handover i ∙ ap after_chain c ∙ ap (after_records chain) e))

  pub bound_breaks : IsHandover ram entry h → (chain : Chained) (records : Recorded) (kind : Kind) → chunks_at ram h.chunk ≡ Ok chain → records_at version_1 ram h.luo.header ≡ Ok records
      → bounds_read records ≡ Err kind → BreakAt ram entry (Bound kind)
  bound_breaks i chain records kind c r e =
      (i.within, (i.tree, i.spelled, from_handover i ∙ ap after_chain c ∙ ap (after_records chain) r ∙ ap (after_bounds chain records) e))

  pub all_read : (i : IsHandover ram entry h) → (chain : Chained) (records : Recorded) (bounds : List (Option BoundState)) → chunks_at ram h.chunk ≡ Ok chain
      → records_at version_1 ram h.luo.header ≡ Ok records → bounds_read records ≡ Ok bounds
      → kept_at ram entry i.tree ≡ owned_well (whole chain records bounds) (first_ill (whole chain records bounds) (range_with_len 0 ram.count))
  all_read i chain records bounds c r e =
      from_handover i ∙ ap after_chain c ∙ ap (after_records chain) r ∙ ap (after_bounds chain records) e

-- ---- what was told

pub told_handover : (ram : Ram) (entry : ℕ) (r : Result HandoverRead ImagePlace) (h : HandoverRead) → r ≡ Ok h → TellsHandover ram entry r → IsHandover ram entry h
told_handover ram entry r h is t = let P : Result HandoverRead ImagePlace → Type 0 = λ x. TellsHandover ram entry x in subst P is t

pub told_break : (ram : Ram) (entry : ℕ) (r : Result HandoverRead ImagePlace) (p : ImagePlace) → r ≡ Err p → TellsHandover ram entry r → BreakAt ram entry p
told_break ram entry r p is t = let P : Result HandoverRead ImagePlace → Type 0 = λ x. TellsHandover ram entry x in subst P is t

pub told_as_is : {X Y E : Type 0} (view : X → Y) (r s : Result X E) (read : Result Y E) → r ≡ s → Tells view r read → Tells view s read
told_as_is {X = X} {E = E} view r s read is t = let P : Result X E → Type 0 = λ x. Tells view x read in subst P is t

-- the entry frame's number is below the number of frames
pub entry_below : (n p : ℕ) → is_frame n p ≡ true → p < n
entry_below n p h = ltb-true p n (and_parts (nat_lt 0 p) (nat_lt p n) h).1

-- ---- the owners' rule

pub told_frames : (ram : Ram) (entry : ℕ) (r : Result FramesRead ImagePlace) (f : FramesRead) → r ≡ Ok f → TellsFrames ram entry r → AreRead ram entry f
told_frames ram entry r f is t = let P : Result FramesRead ImagePlace → Type 0 = λ x. TellsFrames ram entry x in subst P is t

pub frames_break : (ram : Ram) (entry : ℕ) (r : Result FramesRead ImagePlace) (p : ImagePlace) → r ≡ Err p → TellsFrames ram entry r → BreakAt ram entry p
frames_break ram entry r p is t = let P : Result FramesRead ImagePlace → Type 0 = λ x. TellsFrames ram entry x in subst P is t

module _ (ram : Ram) (entry : ℕ) (f : FramesRead) (a : AreRead ram entry f) (o : Option Pfn)
    (ill : frame_number o ≡ first_ill (kept_of entry f) (range_with_len 0 ram.count)) where
  pub owner_breaks : (p : Pfn) → o ≡ Some p → BreakAt ram entry (Owner p)
  owner_breaks p is =
      (a.within, (a.tree, a.spelled, a.kept ∙ ap (owned_well (kept_of entry f)) (sym ill) ∙ ap (λ (x : Option Pfn). owned_well (kept_of entry f) (frame_number x)) is))

  pub are_kept : ReadIsKept → Holds ram → o ≡ None → Keep ram entry (kept_of entry f)
  are_kept law holds is =
      law ram entry a.tree (kept_of entry f) holds a.within a.spelled
      (a.kept ∙ ap (owned_well (kept_of entry f)) (sym ill) ∙ ap (λ (x : Option Pfn). owned_well (kept_of entry f) (frame_number x)) is)
