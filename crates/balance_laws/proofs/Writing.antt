-- `write` and `fill` keep a world sound.
use Rattle.std.proofs.Common.{◌≡◌, ℕ, suc, ◌+◌, ◌<◌, ◌≤◌, Bool, true, false, not, ◌&&◌, ◌||◌, List, [], ◌∷◌, length, replicate, refl, sym, ap, subst, ◌∙◌}
use Rattle.std.specs.Prelude.{Option, None, Some, if◌then◌else◌, option_map, ◌==◌}
use Rattle.std.specs.FinMap as finmap
use Rattle.std.specs.List.{list_all}
use Rattle.std.proofs.lemmas.Bool.{and_parts, eqb-true, not-true}
use Rattle.ho_base.specs.declared.limits.TheConstants.{FILES, MAX_ORDER}
use Rattle.ho_base.specs.declared.numbers.FileNo.{FileNo}
use Rattle.ho_base.specs.declared.numbers.Kind.{Kind}
use Rattle.ho_base.specs.declared.numbers.Kind.TheVariants.{Memfd}
use Rattle.ho_base.specs.declared.numbers.Order.{Order}
use Rattle.ho_base.specs.declared.numbers.Pfn.{Pfn}
use Rattle.ho_events.specs.File.{FileState, file_step, write_step, filled, touched_holes, overwritten, is_too_big, grows_frozen}
use Rattle.ho_events.specs.Lists.{firsts, are_distinct}
use Rattle.ho_events.specs.Pool.{PoolState, pool_step, can_take, is_free_run}
use Rattle.ho_events.specs.declared.event.Event.{Event}
use Rattle.ho_events.specs.declared.event.Event.TheVariants.{PoolTake, FileWrite, FileFill}
use Rattle.ho_events.specs.declared.reply.Reply.{Reply}
use Rattle.ho_events.specs.declared.reply.Reply.TheVariants.{Ok, Got, NoFrames, NoFramesOf, TooBig, SizeFrozen}
use Rattle.ho_world.specs.Acts.{Claim, IsFile, Sequence, Sort, pool, file, sort_of}
use Rattle.ho_world.specs.Entries.{is_ok}
use Rattle.ho_world.specs.Sequences.{Labels, Outcome, NoFile, WriteCame, on_label, written}
use Rattle.ho_world.specs.Sequences.Files.{WriteOutcome, WriteRefused, Starved, WrittenOver, Written, write_acts, is_write_refusal, fits_range}
use Rattle.ho_world.specs.World.{State, World}
use Rattle.balance_laws.specs.Keeps.{WriteKeeps, FillKeeps}
use Rattle.balance_laws.specs.Parts.{Parts, parts_of}
use Rattle.balance_laws.specs.Sound.{AreSound, Sound, FileFits, RunsFit, PinsMatch, run_in, pinned_run}
use Rattle.balance_laws.proofs.Acts.{set_at, seen_same}
use Rattle.balance_laws.proofs.Base.{same_value, not_some, clash, file_view}
use Rattle.balance_laws.proofs.Each.{each_same, pins_same}
use Rattle.balance_laws.proofs.Filling.{wrote, wrote_fits, places_distinct, places_holes, whole_places}
use Rattle.balance_laws.proofs.Flags.{seen_alike, file_stays, flags_same}
use Rattle.balance_laws.proofs.Numbers.{Distinct, distinct_is}
use Rattle.balance_laws.proofs.Runs.{AllFree, Filled, free_is, fill_all, own_all}
use Rattle.balance_laws.proofs.Stands.{Stands, PoolCame, FileCame, pool_came, file_came, stands_end}
use Rattle.balance_laws.proofs.Steps.{only_is, chosen, relabel_kept}

-- a file of which a claim is true
pub order_is : (v : Option FileState) (g : FileState) (k : Kind) (o : Order) → v ≡ Some g → sort_of v ≡ Some (record { kind = k; order = o.0 }) → g.order ≡ o.0
order_is v g k o e h =
    let same : ◌≡◌ {A = Option Sort} (Some (record { kind = g.kind; order = g.order })) (Some (record { kind = k; order = o.0 })) = sym (ap sort_of e) ∙ h in
    ap (λ (s : Sort). s.order) (same_value (record { kind = g.kind; order = g.order }) (record { kind = k; order = o.0 }) same)

-- the runs of a take
pub takes : (s now : PoolState) (o : Order) (count : ℕ) (runs : List Pfn) → pool_step s (PoolTake o count) (Got runs) ≡ Some now → (can_take s o.0 count (firsts runs) ≡ true) × (now ≡ own_all s o.0 (firsts runs))
takes s now o count runs e = only_is (can_take s o.0 count (firsts runs)) _ now e

pub all_are_free : (s : PoolState) (o : ℕ) (ps : List ℕ) → RunsFit s → o ≤ MAX_ORDER → list_all (is_free_run s o) ps ≡ true → AllFree s o ps
all_are_free s o [] fit le h = tt
all_are_free s o (p ∷ ps) fit le h = let hs = and_parts (is_free_run s o p) (list_all (is_free_run s o) ps) h in (free_is s o p fit le hs.0, all_are_free s o ps fit le hs.1)

pub taken_distinct : (s : PoolState) (o count : ℕ) (ps : List ℕ) → can_take s o count ps ≡ true → Distinct ps
taken_distinct s o count ps h =
    let a = and_parts (length ps == count && are_distinct ps) (list_all (is_free_run s o) ps) h in
    distinct_is ps (and_parts (length ps == count) (are_distinct ps) a.0).1

pub taken_free : (s : PoolState) (o count : ℕ) (ps : List ℕ) → RunsFit s → o ≤ MAX_ORDER → can_take s o count ps ≡ true → AllFree s o ps
taken_free s o count ps fit le h = all_are_free s o ps fit le (and_parts (length ps == count && are_distinct ps) (list_all (is_free_run s o) ps) h).1

module _ (x : Parts) (labels : ℕ → Labels) (sound : AreSound x labels) (f : ℕ) (within : f < FILES) (g : FileState) (is : x.files f ≡ Some g) (off : ℕ) (new ps : List ℕ)
    (small : is_too_big (off + length new) ≡ false) (grows : grows_frozen g (off + length new) ≡ false) (as_many : length ps ≡ length (touched_holes g off (length new)))
    (free : AllFree x.pool g.order ps) (distinct : Distinct ps) where
  abbrev fits : FileFits g
  fits = sound.fit f g is

  abbrev written_file : FileState
  written_file = wrote g fits off new ps small grows

  done : Filled x.pool x.files f g (touched_holes g off (length new)) ps
  done =
      fill_all (touched_holes g off (length new)) ps x.pool x.files f g is as_many (places_distinct g fits off new ps small grows) (places_holes g fits off new ps small grows) distinct free sound.runs sound.owned

  -- a pinned file has no hole, so its runs stay
  pinned_same : (i : ℕ) → pinned_run (Some written_file) i ≡ pinned_run (Some g) i
  pinned_same i = by_pin g.pin refl
    where
      by_pin : (b : Bool) → g.pin ≡ b → pinned_run (Some written_file) i ≡ pinned_run (Some g) i
      by_pin false e = ap (λ c. if c then run_in (Some written_file) i else None) e ∙ ap (λ c. if c then run_in (Some g) i else None) (sym e)
      by_pin true e =
          ap (λ places. if g.pin then option_map (λ p. (p, g.order)) (finmap.get (filled places ps g.runs) i) else None)
          (whole_places g fits off new ps small grows (ap (λ c. c || g.hold) e))

  pub write_sound : AreSound (record x { pool = own_all x.pool g.order ps; files = set_at f (Some written_file) x.files }) labels
  write_sound =
      flags_same x labels sound f within g written_file is refl refl refl (wrote_fits g fits off new ps small grows) (own_all x.pool g.order ps) done.runs
      (each_same _ _ _ _ done.owned (λ k l. seen_alike (λ v. run_in v l) f (Some written_file) (Some (record g { runs = written_file.runs })) x.files refl k) (λ v. refl))
      (pins_owned (pins_same x.pool _ _ (λ k i. seen_same (λ v. pinned_run v i) f (Some written_file) x.files (pinned_same i ∙ ap (λ v. pinned_run v i) (sym is)) k) sound.pins))
    where
      pins_owned : PinsMatch x.pool (λ k i. pinned_run (set_at f (Some written_file) x.files k) i) → PinsMatch (own_all x.pool g.order ps) (λ k i. pinned_run (set_at f (Some written_file) x.files k) i)
      pins_owned pins = record { pinned = pins.pinned; covered = pins.covered }

-- what a write that went made of its file
wrote_is : (g : FileState) (off : ℕ) (new : List ℕ) (fills : List Pfn) (now : Option FileState) → write_step g off new fills Ok ≡ Some now
    → (is_too_big (off + length new) ≡ false) × (grows_frozen g (off + length new) ≡ false) × (length fills ≡ length (touched_holes g off (length new)))
    × (now ≡ Some (record g { bytes = overwritten off new g.bytes; runs = filled (touched_holes g off (length new)) (firsts fills) g.runs }))
wrote_is g off new fills now e =
    let put = only_is (not (is_too_big (off + length new)) && not (grows_frozen g (off + length new)) && length fills == length (touched_holes g off (length new))) _ now e in
    let a = and_parts (not (is_too_big (off + length new)) && not (grows_frozen g (off + length new))) (length fills == length (touched_holes g off (length new))) put.0 in
    let b = and_parts (not (is_too_big (off + length new))) (not (grows_frozen g (off + length new))) a.0 in
    (not-true (is_too_big (off + length new)) b.0, not-true (grows_frozen g (off + length new)) b.1, eqb-true (length fills) (length (touched_holes g off (length new))) a.1, put.1)

refusal_same : (g : FileState) (off : ℕ) (new : List ℕ) (r : Reply) (now : Option FileState) → is_write_refusal r ≡ true → write_step g off new [] r ≡ Some now → now ≡ Some g
refusal_same g off new TooBig now t e = (only_is _ (Some g) now e).1
refusal_same g off new SizeFrozen now t e = (only_is _ (Some g) now e).1
refusal_same g off new r now t e = absurd (clash (sym t))

starved_same : (g : FileState) (off : ℕ) (new : List ℕ) (h : ℕ) (now : Option FileState) → write_step g off new [] (NoFramesOf h) ≡ Some now → now ≡ Some g
starved_same g off new h now e = (only_is _ (Some g) now e).1

pub as_many_firsts : (runs : List Pfn) → length (firsts runs) ≡ length runs
as_many_firsts [] = refl
as_many_firsts (r ∷ runs) = ap suc (as_many_firsts runs)

-- an event that writes these bytes
pub record Writes (event : List Pfn → Event) (off : ℕ) (new : List ℕ) : Type 0 where
  pub there : (g : FileState) (fills : List Pfn) (r : Reply) → file_step (Some g) (event fills) r ≡ write_step g off new fills r
  pub absent : (fills : List Pfn) (r : Reply) → file_step None (event fills) r ≡ None

module _ (begun : ℕ → State) (v : World) (labels : ℕ → Labels) (event : List Pfn → Event) (off : ℕ) (new : List ℕ) (writes : Writes event off new) where
  -- a file that is written is there
  written_there : (s now : Option FileState) (fills : List Pfn) (r : Reply) → file_step s (event fills) r ≡ Some now → (g : FileState) × (s ≡ Some g) × (write_step g off new fills r ≡ Some now)
  written_there None now fills r e = absurd (not_some now (sym (writes.absent fills r) ∙ e))
  written_there (Some g) now fills r e = (g, refl, sym (writes.there g fills r) ∙ e)

  module _ (x : Parts) (sound : AreSound x labels) (f : FileNo) where
    -- an act on the file that changes nothing
    pub quiet_write : (claims : List Claim) (fills : List Pfn) (r : Reply) → ((g : FileState) (now : Option FileState) → write_step g off new fills r ≡ Some now → now ≡ Some g) → Stands begun x (file f claims (event fills) r ∷ []) v → Sound v labels
    quiet_write claims fills r quiet s =
        let c : FileCame begun x f.0 claims (event fills) r [] v = file_came begun x v f claims (event fills) r [] s in
        let w = written_there (x.files f.0) c.now fills r c.stepped in
        stands_end begun (record x { files = set_at f.0 c.now x.files }) v labels c.then (file_stays x labels sound f.0 c.below c.now (quiet w.0 c.now w.2 ∙ sym w.1))

    pub over_sound : Stands begun x (file f [] (event []) Ok ∷ []) v → Sound v labels
    over_sound s =
        let c : FileCame begun x f.0 [] (event []) Ok [] v = file_came begun x v f [] (event []) Ok [] s in
        let w = written_there (x.files f.0) c.now [] Ok c.stepped in
        let p = wrote_is w.0 off new [] c.now w.2 in
        stands_end begun (record x { files = set_at f.0 c.now x.files }) v labels c.then
        (subst (λ h. AreSound (record x { files = set_at f.0 h x.files }) labels) (sym p.3) (write_sound x labels sound f.0 c.below w.0 w.1 off new [] p.0 p.1 p.2 tt tt))

    pub fills_sound : (o : Order) (fills : List Pfn) → Stands begun x (pool (IsFile f Memfd o ∷ []) (PoolTake o (length fills)) (Got fills) ∷ file f (IsFile f Memfd o ∷ []) (event fills) Ok ∷ []) v → Sound v labels
    fills_sound o fills s =
        let c : PoolCame begun x (IsFile f Memfd o ∷ []) (PoolTake o (length fills)) (Got fills) (file f (IsFile f Memfd o ∷ []) (event fills) Ok ∷ []) v = pool_came begun x v (IsFile f Memfd o ∷ []) (PoolTake o (length fills)) (Got fills) _ s in
        let d : FileCame begun (record x { pool = c.now }) f.0 (IsFile f Memfd o ∷ []) (event fills) Ok [] v = file_came begun (record x { pool = c.now }) v f (IsFile f Memfd o ∷ []) (event fills) Ok [] c.then in
        let t = takes x.pool c.now o (length fills) fills c.stepped in
        let w = written_there (x.files f.0) d.now fills Ok d.stepped in
        let p = wrote_is w.0 off new fills d.now w.2 in
        let order : w.0.order ≡ o.0 = order_is (x.files f.0) w.0 Memfd o w.1 (ap sort_of (sym (file_view x f.0 sound.last_file)) ∙ c.claimed.0) in
        let le : w.0.order ≤ MAX_ORDER = (sound.fit f.0 w.0 w.1).order in
        let can : can_take x.pool w.0.order (length fills) (firsts fills) ≡ true = ap (λ n. can_take x.pool n (length fills) (firsts fills)) order ∙ t.0 in
        stands_end begun (record x { pool = c.now; files = set_at f.0 d.now x.files }) v labels d.then
        (subst (λ q. AreSound (record x { pool = q; files = set_at f.0 d.now x.files }) labels) (ap (λ n. own_all x.pool n (firsts fills)) order ∙ sym t.1)
        (subst (λ h. AreSound (record x { pool = own_all x.pool w.0.order (firsts fills); files = set_at f.0 h x.files }) labels) (sym p.3)
        (write_sound x labels sound f.0 d.below w.0 w.1 off new (firsts fills) p.0 p.1 (as_many_firsts fills ∙ p.2) (taken_free x.pool w.0.order (length fills) (firsts fills) sound.runs le can)
        (taken_distinct x.pool w.0.order (length fills) (firsts fills) can))))

    pub starved_sound : (o : Order) (h : ℕ) → Stands begun x (pool (IsFile f Memfd o ∷ []) (PoolTake o h) NoFrames ∷ file f (IsFile f Memfd o ∷ []) (event []) (NoFramesOf h) ∷ []) v → Sound v labels
    starved_sound o h s =
        let c : PoolCame begun x (IsFile f Memfd o ∷ []) (PoolTake o h) NoFrames (file f (IsFile f Memfd o ∷ []) (event []) (NoFramesOf h) ∷ []) v = pool_came begun x v (IsFile f Memfd o ∷ []) (PoolTake o h) NoFrames _ s in
        let d : FileCame begun (record x { pool = c.now }) f.0 (IsFile f Memfd o ∷ []) (event []) (NoFramesOf h) [] v = file_came begun (record x { pool = c.now }) v f (IsFile f Memfd o ∷ []) (event []) (NoFramesOf h) [] c.then in
        let same : c.now ≡ x.pool = (only_is _ x.pool c.now c.stepped).1 in
        let w = written_there (x.files f.0) d.now [] (NoFramesOf h) d.stepped in
        stands_end begun (record x { pool = c.now; files = set_at f.0 d.now x.files }) v labels d.then
        (subst (λ q. AreSound (record x { pool = q; files = set_at f.0 d.now x.files }) labels) (sym same) (file_stays x labels sound f.0 d.below d.now (starved_same w.0 off new h d.now w.2 ∙ sym w.1)))

    -- each way in which a write comes out
    pub writes_sound : (len : ℕ) (out : WriteOutcome) (s : Sequence) → write_acts f off len event out ≡ Some s → Stands begun x s.acts v → Sound v labels
    writes_sound len (WriteRefused r) s e stands =
        let c = chosen (is_write_refusal r) _ s e in
        quiet_write [] [] r (λ g now h. refusal_same g off new r now c.0 h) (subst (λ (q : Sequence). Stands begun x q.acts v) (sym (same_value _ s c.1)) stands)
    writes_sound len (Starved o h) s e stands =
        let c = chosen (fits_range o off len h) _ s e in
        starved_sound o h (subst (λ (q : Sequence). Stands begun x q.acts v) (sym (same_value _ s c.1)) stands)
    writes_sound len WrittenOver s e stands = over_sound (subst (λ (q : Sequence). Stands begun x q.acts v) (sym (same_value _ s e)) stands)
    writes_sound len (Written o fills) s e stands =
        let c = chosen (fits_range o off len (length fills)) _ s e in
        fills_sound o fills (subst (λ (q : Sequence). Stands begun x q.acts v) (sym (same_value _ s c.1)) stands)

    pub written_sound : (len : ℕ) (outcome : Outcome) (s : Sequence) → written off len event f outcome ≡ Some s → Stands begun x s.acts v → Sound v labels
    written_sound len (WriteCame out) s e stands = writes_sound len out s e stands
    written_sound len outcome s e stands = absurd (not_some s e)

-- without a file nothing is done
pub without_label : (begun : ℕ → State) (x : Parts) (v : World) (labels : ℕ → Labels) (outcome : Outcome) (made : FileNo → Outcome → Option Sequence) (s : Sequence) → AreSound x labels
    → on_label None made outcome ≡ Some s → Stands begun x s.acts v → Sound v labels
without_label begun x v labels NoFile made s sound e stands = stands_end begun x v labels (subst (λ (q : Sequence). Stands begun x q.acts v) (sym (same_value _ s e)) stands) sound
without_label begun x v labels outcome made s sound e stands = absurd (not_some s e)

-- a command on a label, where its sequences keep a world sound for each file
pub on_label_sound : (begun : ℕ → State) (x : Parts) (v : World) (labels : ℕ → Labels) (found : Option FileNo) (outcome : Outcome) (made : FileNo → Outcome → Option Sequence) (s : Sequence) → AreSound x labels
    → ((f : FileNo) → found ≡ Some f → made f outcome ≡ Some s → Stands begun x s.acts v → Sound v labels) → on_label found made outcome ≡ Some s → Stands begun x s.acts v → Sound v labels
on_label_sound begun x v labels None outcome made s sound each e stands = without_label begun x v labels outcome made s sound e stands
on_label_sound begun x v labels (Some f) outcome made s sound each e stands = each f refl e stands

pub write_keeps : WriteKeeps
write_keeps labels a label off bytes begun w v outcome s sound is acted =
    relabel_kept v labels a (is_ok s.reply)
    (on_label_sound begun (parts_of w) v labels (finmap.get (labels a) label) outcome _ s sound.parts
    (λ f e h stands. written_sound begun v labels (λ fills. FileWrite off bytes fills) off bytes (record { there = λ g fills r. refl; absent = λ fills r. refl }) (parts_of w) sound.parts f (length bytes) outcome s h stands)
    is (record { world = w; is = sound.sorts; rest = acted }))

pub fill_keeps : FillKeeps
fill_keeps labels a label off len byte begun w v outcome s sound is acted =
    relabel_kept v labels a (is_ok s.reply)
    (on_label_sound begun (parts_of w) v labels (finmap.get (labels a) label) outcome _ s sound.parts
    (λ f e h stands. written_sound begun v labels (λ fills. FileFill off len byte fills) off (replicate len byte) (record { there = λ g fills r. refl; absent = λ fills r. refl }) (parts_of w) sound.parts f len outcome s h stands)
    is (record { world = w; is = sound.sorts; rest = acted }))
