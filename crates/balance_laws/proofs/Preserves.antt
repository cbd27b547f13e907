-- `preserve` keeps a world sound.
use Rattle.std.proofs.Common.{◌≡◌, ℕ, ◌<◌, ◌≤◌, true, false, not, ◌&&◌, List, [], ◌∷◌, ◌++◌, length, refl, sym, ap, subst, ◌∙◌}
use Rattle.std.specs.Prelude.{Option, None, Some, is_some, ◌==◌, nat_lt}
use Rattle.std.specs.Ordering.{nat_cmp}
use Rattle.std.specs.FinMap as finmap
use Rattle.std.proofs.lemmas.Bool.{and_parts, eqb-true, not-true, ltb-true}
use Rattle.ho_base.specs.declared.limits.TheConstants.{FILES, MAX_ORDER, SESSION_FILES}
use Rattle.ho_base.specs.declared.numbers.FileNo.{FileNo}
use Rattle.ho_base.specs.declared.numbers.SlotNo.{SlotNo}
use Rattle.ho_base.specs.declared.numbers.Token.{Token}
use Rattle.ho_base.specs.declared.numbers.Kind.{Kind}
use Rattle.ho_base.specs.declared.numbers.Kind.TheVariants.{Memfd}
use Rattle.ho_base.specs.declared.numbers.Order.{Order}
use Rattle.ho_base.specs.declared.numbers.Pfn.{Pfn}
use Rattle.ho_events.specs.File.{FileState, file_step, pin_step, filled, holes, indexes, runs_of, is_device}
use Rattle.ho_events.specs.Lists.{firsts, same_bytes}
use Rattle.ho_events.specs.Pool.{pin_runs}
use Rattle.ho_events.specs.Session.{SessionState, Listed, Free, Out, In, session_step, add_step, admits, is_out}
use Rattle.ho_events.specs.declared.event.Event.TheVariants.{PoolTake, PoolMark, RegFindOut, FilePin, SessionAdd}
use Rattle.ho_events.specs.declared.reply.Reply.{Reply}
use Rattle.ho_events.specs.declared.reply.Reply.TheVariants.{Ok, OkSlot, OkRuns, Got, NoFrames, NoFramesOf, NoSession, NotFinished, AlreadyPinned, HandlerFailed, SessionFull, TokenTaken}
use Rattle.ho_world.specs.Acts.{Act, IsFile, AllHold, Sequence, Sort, pool, registry, session, file, sort_of, unless_empty, single}
use Rattle.ho_world.specs.Entries.{is_ok}
use Rattle.ho_world.specs.Sequences.{Labels, Outcome, PreserveCame, preserved}
use Rattle.ho_world.specs.Sequences.Files.{fits_file}
use Rattle.ho_world.specs.Sequences.Preserving.{PreserveOutcome, NoName, NotAdmitted, NotPinned, HolesStarved, Pinned, DeviceStarved, DeviceFailed, DevicePinned, preserve_acts, is_session_refusal, is_pin_refusal, take_holes, no_or_fits}
use Rattle.ho_world.specs.World.{State, World}
use Rattle.balance_laws.specs.Keeps.{PreserveKeeps}
use Rattle.balance_laws.specs.Parts.{Parts, parts_of, state_at}
use Rattle.balance_laws.specs.Sound.{AreSound, Sound}
use Rattle.balance_laws.proofs.Acts.{set_at}
use Rattle.balance_laws.proofs.Base.{same_value, not_some, clash, file_view}
use Rattle.balance_laws.proofs.Flags.{file_stays}
use Rattle.balance_laws.proofs.Members.{same_list}
use Rattle.balance_laws.proofs.Numbers.{Distinct}
use Rattle.balance_laws.proofs.Preserving.{pinned_sound}
use Rattle.balance_laws.proofs.Runs.{AllFree, own_all}
use Rattle.balance_laws.proofs.Slots.{session_stays, find_same, registry_same, first_claims}
use Rattle.balance_laws.proofs.Stands.{Stands, PoolCame, RegistryCame, SessionCame, FileCame, pool_came, registry_came, session_came, file_came, stands_end}
use Rattle.balance_laws.proofs.Steps.{only_is, chosen, relabel_kept}
use Rattle.balance_laws.proofs.Writing.{takes, taken_free, taken_distinct, as_many_firsts, on_label_sound}

-- what a claim says of a file
pub record IsClaimed (v : Option FileState) (k : Kind) (o : ℕ) : Type 0 where
  pub file : FileState
  pub is : v ≡ Some file
  pub kind : file.kind ≡ k
  pub order : file.order ≡ o

pub claimed_is : (v : Option FileState) (k : Kind) (o : ℕ) → sort_of v ≡ Some (record { kind = k; order = o }) → IsClaimed v k o
claimed_is None k o e = absurd (not_some (record { kind = k; order = o }) e)
claimed_is (Some g) k o e =
    let same = same_value (record { kind = g.kind; order = g.order }) (record { kind = k; order = o }) e in
    record { file = g; is = refl; kind = ap (λ (s : Sort). s.kind) same; order = ap (λ (s : Sort). s.order) same }

-- a claim on a file of sound parts, and none says that it is a device file
pub claim_on : (begun : ℕ → State) (x : Parts) (labels : ℕ → Labels) → AreSound x labels → (f : FileNo) (k : Kind) (o : Order) → AllHold begun (state_at x) (IsFile f k o ∷ []) → IsClaimed (x.files f.0) k o.0
claim_on begun x labels sound f k o h = claimed_is (x.files f.0) k o.0 (ap sort_of (sym (file_view x f.0 sound.last_file)) ∙ h.0)

pub no_device : (begun : ℕ → State) (x : Parts) (labels : ℕ → Labels) → AreSound x labels → (f : FileNo) (k : Kind) (o : Order) → is_device k ≡ true → AllHold begun (state_at x) (IsFile f k o ∷ []) → ⊥
no_device begun x labels sound f k o d h =
    let c : IsClaimed (x.files f.0) k o.0 = claim_on begun x labels sound f k o h in
    clash (sym d ∙ ap is_device (sym c.kind ∙ (sound.fit f.0 c.file c.is).kind))

-- a refused add leaves its session
refused_add : (s now : SessionState) (name : List ℕ) (t : Token) (f : FileNo) (h : ℕ) (r : Reply) → is_ok r ≡ false → session_step s (SessionAdd name t f h) r ≡ Some now → now ≡ s
refused_add s now name t f h r refused e = at_state s e
  where
    at_reply : (s : SessionState) (r : Reply) → is_ok r ≡ false → add_step s name t.0 (record { file = f.0; handle = h; taken = false }) r ≡ Some now → now ≡ s
    at_reply s NoSession refused e = (only_is _ s now e).1
    at_reply s SessionFull refused e = (only_is _ s now e).1
    at_reply s TokenTaken refused e = (only_is _ s now e).1
    at_reply s NotFinished refused e = (only_is _ s now e).1
    at_reply s AlreadyPinned refused e = (only_is _ s now e).1
    at_reply s NoFrames refused e = (only_is _ s now e).1
    at_reply s HandlerFailed refused e = (only_is _ s now e).1
    at_reply s Ok refused e = absurd (clash refused)
    at_reply s r refused e = absurd (not_some now e)

    at_state : (s : SessionState) → session_step s (SessionAdd name t f h) r ≡ Some now → now ≡ s
    at_state Free e = at_reply Free r refused e
    at_state (Out own files) e = at_reply (Out own files) r refused e
    at_state (In own opened files) e = at_reply (In own opened files) r refused e

-- an add that went
pub record IsAdded (s now : SessionState) (t : ℕ) (file : Listed) : Type 0 where
  pub name : List ℕ
  pub files : finmap.FinMap nat_cmp Listed
  pub was : s ≡ Out name files
  pub few : finmap.len files < SESSION_FILES
  pub fresh : finmap.get files t ≡ None
  pub is : now ≡ Out name (finmap.insert files t file)

no_key : {X : Type 0} (o : Option X) → not (is_some o) ≡ true → o ≡ None
no_key None h = refl
no_key (Some x) h = absurd (clash (sym h))

added_is : (s now : SessionState) (name : List ℕ) (t : Token) (f : FileNo) (h : ℕ) → session_step s (SessionAdd name t f h) Ok ≡ Some now → IsAdded s now t.0 (record { file = f.0; handle = h; taken = false })
added_is Free now name t f h e = absurd (not_some now e)
added_is (In own opened files) now name t f h e = absurd (not_some now e)
added_is (Out own files) now name t f h e =
    let put = only_is (admits (Out own files) name t.0) _ now e in
    let a = and_parts (is_out (Out own files) name && nat_lt (finmap.len files) SESSION_FILES) (not (finmap.contains_key files t.0)) put.0 in
    let b = and_parts (is_out (Out own files) name) (nat_lt (finmap.len files) SESSION_FILES) a.0 in
    record { name = own; files = files; was = refl; few = ltb-true (finmap.len files) SESSION_FILES b.1; fresh = no_key (finmap.get files t.0) a.1; is = put.1 }

-- a pin that went
pub record IsPinned (g : FileState) (fills runs : List Pfn) (now : Option FileState) : Type 0 where
  pub hold : g.hold ≡ false
  pub pin : g.pin ≡ false
  pub as_many : length fills ≡ length (holes g (indexes g))
  pub same : firsts runs ≡ runs_of (record g { runs = filled (holes g (indexes g)) (firsts fills) g.runs; pin = true })
  pub is : now ≡ Some (record g { runs = filled (holes g (indexes g)) (firsts fills) g.runs; pin = true })

pinned_is : (g : FileState) (fills runs : List Pfn) (now : Option FileState) → pin_step g fills (OkRuns runs) ≡ Some now → IsPinned g fills runs now
pinned_is g fills runs now e =
    let put = only_is (not g.hold && not g.pin && length fills == length (holes g (indexes g)) && same_bytes (firsts runs) (runs_of (record g { runs = filled (holes g (indexes g)) (firsts fills) g.runs; pin = true }))) _ now e in
    let a = and_parts (not g.hold && not g.pin && length fills == length (holes g (indexes g))) _ put.0 in
    let b = and_parts (not g.hold && not g.pin) (length fills == length (holes g (indexes g))) a.0 in
    let c = and_parts (not g.hold) (not g.pin) b.0 in
    record { hold = not-true g.hold c.0; pin = not-true g.pin c.1; as_many = eqb-true (length fills) (length (holes g (indexes g))) b.1; same = same_list (firsts runs) _ a.1; is = put.1 }

pin_there : (s now : Option FileState) (fills : List Pfn) (r : Reply) → file_step s (FilePin fills) r ≡ Some now → (g : FileState) × (s ≡ Some g) × (pin_step g fills r ≡ Some now)
pin_there None now fills r e = absurd (not_some now e)
pin_there (Some g) now fills r e = (g, refl, e)

pin_refused : (s now : Option FileState) (r : Reply) → is_pin_refusal r ≡ true → file_step s (FilePin []) r ≡ Some now → now ≡ s
pin_refused None now r t e = absurd (not_some now e)
pin_refused (Some g) now r t e = at_reply r t e
  where
    at_reply : (r : Reply) → is_pin_refusal r ≡ true → pin_step g [] r ≡ Some now → now ≡ Some g
    at_reply NotFinished t e = (only_is _ (Some g) now e).1
    at_reply AlreadyPinned t e = (only_is _ (Some g) now e).1
    at_reply r t e = absurd (clash (sym t))

pin_starved : (s now : Option FileState) (h : ℕ) → file_step s (FilePin []) (NoFramesOf h) ≡ Some now → now ≡ s
pin_starved None now h e = absurd (not_some now e)
pin_starved (Some g) now h e = (only_is _ (Some g) now e).1

session_not_ok : (r : Reply) → is_session_refusal r ≡ true → is_ok r ≡ false
session_not_ok NoSession t = refl
session_not_ok SessionFull t = refl
session_not_ok TokenTaken t = refl
session_not_ok r t = absurd (clash (sym t))

pin_not_ok : (r : Reply) → is_pin_refusal r ≡ true → is_ok r ≡ false
pin_not_ok NotFinished t = refl
pin_not_ok AlreadyPinned t = refl
pin_not_ok r t = absurd (clash (sym t))

add_no_file : (name : List ℕ) (t : Token) (f : FileNo) (h : ℕ) (r : Reply) (v : Option FileState) → file_step v (SessionAdd name t f h) r ≡ None
add_no_file name t f h r None = refl
add_no_file name t f h r (Some g) = refl

module _ (begun : ℕ → State) (x : Parts) (v : World) (labels : ℕ → Labels) (sound : AreSound x labels) (name : List ℕ) (t : Token) (f : FileNo) where
  -- the registry's find comes first, and changes nothing
  found : (r : Reply) (acts : List Act) → Stands begun x (registry (RegFindOut name) r ∷ acts) v → Stands begun x acts v
  found r acts s =
      let c : RegistryCame begun x (RegFindOut name) r acts v = registry_came begun x v (RegFindOut name) r acts s in
      registry_same begun x (RegFindOut name) r acts v c (find_same x.registry c.now (finmap.get x.registry.outgoing name) r c.stepped)

  -- an add that is refused is the end
  refused_end : (y : Parts) → AreSound y labels → (n : SlotNo) (h : ℕ) (r : Reply) → is_ok r ≡ false → Stands begun y (session n [] (SessionAdd name t f h) r ∷ []) v → Sound v labels
  refused_end y fine n h r refused s =
      let c : SessionCame begun y n.0 [] (SessionAdd name t f h) r [] v = session_came begun y v n [] (SessionAdd name t f h) r [] (add_no_file name t f h r) s in
      stands_end begun (record y { sessions = set_at n.0 c.now y.sessions }) v labels c.then (session_stays y labels fine n.0 c.now (refused_add (y.sessions n.0) c.now name t f h r refused c.stepped))

  not_pinned : (n : SlotNo) (r : Reply) → is_pin_refusal r ≡ true → Stands begun x (file f [] (FilePin []) r ∷ session n [] (SessionAdd name t f 0) r ∷ []) v → Sound v labels
  not_pinned n r refused s =
      let c : FileCame begun x f.0 [] (FilePin []) r (session n [] (SessionAdd name t f 0) r ∷ []) v = file_came begun x v f [] (FilePin []) r _ s in
      refused_end (record x { files = set_at f.0 c.now x.files }) (file_stays x labels sound f.0 c.below c.now (pin_refused (x.files f.0) c.now r refused c.stepped)) n 0 r (pin_not_ok r refused) c.then

  holes_starved : (n : SlotNo) (o : Order) (h : ℕ)
      → Stands begun x (pool (IsFile f Memfd o ∷ []) (PoolTake o h) NoFrames ∷ file f (IsFile f Memfd o ∷ []) (FilePin []) (NoFramesOf h) ∷ session n [] (SessionAdd name t f 0) NoFrames ∷ []) v → Sound v labels
  holes_starved n o h s =
      let c : PoolCame begun x (IsFile f Memfd o ∷ []) (PoolTake o h) NoFrames (file f (IsFile f Memfd o ∷ []) (FilePin []) (NoFramesOf h) ∷ session n [] (SessionAdd name t f 0) NoFrames ∷ []) v =
      pool_came begun x v (IsFile f Memfd o ∷ []) (PoolTake o h) NoFrames _ s in
      let y : Stands begun x (file f (IsFile f Memfd o ∷ []) (FilePin []) (NoFramesOf h) ∷ session n [] (SessionAdd name t f 0) NoFrames ∷ []) v =
      subst (λ q. Stands begun (record x { pool = q }) (file f (IsFile f Memfd o ∷ []) (FilePin []) (NoFramesOf h) ∷ session n [] (SessionAdd name t f 0) NoFrames ∷ []) v) (only_is _ x.pool c.now c.stepped).1 c.then in
      let d : FileCame begun x f.0 (IsFile f Memfd o ∷ []) (FilePin []) (NoFramesOf h) (session n [] (SessionAdd name t f 0) NoFrames ∷ []) v = file_came begun x v f (IsFile f Memfd o ∷ []) (FilePin []) (NoFramesOf h) _ y in
      refused_end (record x { files = set_at f.0 d.now x.files }) (file_stays x labels sound f.0 d.below d.now (pin_starved (x.files f.0) d.now h d.stepped)) n 0 NoFrames refl d.then

  -- the missing runs
  record AreTaken (o : Order) (fills : List Pfn) (acts : List Act) : Type 0 where
    free : AllFree x.pool o.0 (firsts fills)
    distinct : Distinct (firsts fills)
    rest : Stands begun (record x { pool = own_all x.pool o.0 (firsts fills) }) acts v

  are_taken : (o : Order) (fills : List Pfn) (acts : List Act) → Stands begun x (take_holes f o fills ++ acts) v → AreTaken o fills acts
  are_taken o [] acts s = record { free = tt; distinct = tt; rest = s }
  are_taken o (p ∷ fills) acts s =
      let c : PoolCame begun x (IsFile f Memfd o ∷ []) (PoolTake o (length (p ∷ fills))) (Got (p ∷ fills)) acts v = pool_came begun x v (IsFile f Memfd o ∷ []) (PoolTake o (length (p ∷ fills))) (Got (p ∷ fills)) acts s in
      let k : IsClaimed (x.files f.0) Memfd o.0 = claim_on begun x labels sound f Memfd o c.claimed in
      let u = takes x.pool c.now o (length (p ∷ fills)) (p ∷ fills) c.stepped in
      record {
        free = taken_free x.pool o.0 (length (p ∷ fills)) (firsts (p ∷ fills)) sound.runs (subst (λ n. n ≤ MAX_ORDER) k.order (sound.fit f.0 k.file k.is).order) u.0;
        distinct = taken_distinct x.pool o.0 (length (p ∷ fills)) (firsts (p ∷ fills)) u.0;
        rest = subst (λ q. Stands begun (record x { pool = q }) acts v) u.1 c.then;
      }

  -- the mark of all runs
  marked : (y : Parts) (o : Order) (runs : List Pfn) (acts : List Act) → Stands begun y (unless_empty runs (pool [] (PoolMark o runs) Ok) ++ acts) v
      → Stands begun (record y { pool = record y.pool { pinned = pin_runs o.0 (firsts runs) y.pool.pinned } }) acts v
  marked y o [] acts s = s
  marked y o (r ∷ runs) acts s =
      let c : PoolCame begun y [] (PoolMark o (r ∷ runs)) Ok acts v = pool_came begun y v [] (PoolMark o (r ∷ runs)) Ok acts s in
      subst (λ q. Stands begun (record y { pool = q }) acts v) (only_is _ _ c.now c.stepped).1 c.then

  holes_pinned : (n : SlotNo) (o : Order) (fills runs : List Pfn)
      → Stands begun x (take_holes f o fills ++ file f (IsFile f Memfd o ∷ []) (FilePin fills) (OkRuns runs) ∷ (unless_empty runs (pool [] (PoolMark o runs) Ok) ++ session n [] (SessionAdd name t f 0) Ok ∷ [])) v → Sound v labels
  holes_pinned n o fills runs s =
      let a : AreTaken o fills (file f (IsFile f Memfd o ∷ []) (FilePin fills) (OkRuns runs) ∷ (unless_empty runs (pool [] (PoolMark o runs) Ok) ++ session n [] (SessionAdd name t f 0) Ok ∷ [])) = are_taken o fills _ s in
      let c : FileCame begun (record x { pool = own_all x.pool o.0 (firsts fills) }) f.0 (IsFile f Memfd o ∷ []) (FilePin fills) (OkRuns runs) (unless_empty runs (pool [] (PoolMark o runs) Ok) ++ session n [] (SessionAdd name t f 0) Ok ∷ []) v =
      file_came begun (record x { pool = own_all x.pool o.0 (firsts fills) }) v f (IsFile f Memfd o ∷ []) (FilePin fills) (OkRuns runs) _ a.rest in
      let m = marked (record x { pool = own_all x.pool o.0 (firsts fills); files = set_at f.0 c.now x.files }) o runs (session n [] (SessionAdd name t f 0) Ok ∷ []) c.then in
      let d : SessionCame begun (record x { pool = record (own_all x.pool o.0 (firsts fills)) { pinned = pin_runs o.0 (firsts runs) x.pool.pinned }; files = set_at f.0 c.now x.files }) n.0 [] (SessionAdd name t f 0) Ok [] v =
      session_came begun (record x { pool = record (own_all x.pool o.0 (firsts fills)) { pinned = pin_runs o.0 (firsts runs) x.pool.pinned }; files = set_at f.0 c.now x.files }) v n [] (SessionAdd name t f 0) Ok [] (add_no_file name t f 0 Ok) m in
      ended a.free a.distinct c.now c.below c.stepped (claimed_is (x.files f.0) Memfd o.0 (ap sort_of (sym (file_view (record x { pool = own_all x.pool o.0 (firsts fills) }) f.0 sound.last_file)) ∙ c.claimed.0)) d.now d.stepped d.then
    where
      ended : AllFree x.pool o.0 (firsts fills) → Distinct (firsts fills) → (now : Option FileState) → f.0 < FILES → file_step (x.files f.0) (FilePin fills) (OkRuns runs) ≡ Some now → IsClaimed (x.files f.0) Memfd o.0
          → (after : SessionState) → session_step (x.sessions n.0) (SessionAdd name t f 0) Ok ≡ Some after
          → Stands begun (record x { pool = record (own_all x.pool o.0 (firsts fills)) { pinned = pin_runs o.0 (firsts runs) x.pool.pinned }; files = set_at f.0 now x.files; sessions = set_at n.0 after x.sessions }) [] v → Sound v labels
      ended free distinct now below step k after add s =
          let p = pin_there (x.files f.0) now fills (OkRuns runs) step in
          let g : FileState = p.0 in
          let w : IsPinned g fills runs now = pinned_is g fills runs now p.2 in
          let e : IsAdded (x.sessions n.0) after t.0 (record { file = f.0; handle = 0; taken = false }) = added_is (x.sessions n.0) after name t f 0 add in
          let order : g.order ≡ o.0 = ap (λ (u : FileState). u.order) (same_value g k.file (sym p.1 ∙ k.is)) ∙ k.order in
          stands_end begun (record x { pool = record (own_all x.pool o.0 (firsts fills)) { pinned = pin_runs o.0 (firsts runs) x.pool.pinned }; files = set_at f.0 now x.files; sessions = set_at n.0 after x.sessions }) v labels s
          (subst (λ h. AreSound (record x { pool = record (own_all x.pool o.0 (firsts fills)) { pinned = pin_runs o.0 (firsts runs) x.pool.pinned }; files = set_at f.0 h x.files; sessions = set_at n.0 after x.sessions }) labels) (sym w.is)
          (subst (λ h. AreSound (record x { pool = record (own_all x.pool o.0 (firsts fills)) { pinned = pin_runs o.0 (firsts runs) x.pool.pinned }; files = set_at f.0 (Some (record g { runs = filled (holes g (indexes g)) (firsts fills) g.runs; pin = true })) x.files; sessions = set_at n.0 h x.sessions }) labels) (sym e.is)
          (subst (λ h. AreSound (record x { pool = record (own_all x.pool h (firsts fills)) { pinned = pin_runs h (firsts runs) x.pool.pinned }; files = set_at f.0 (Some (record g { runs = filled (holes g (indexes g)) (firsts fills) g.runs; pin = true })) x.files; sessions = set_at n.0 (Out e.name (finmap.insert e.files t.0 (record { file = f.0; handle = 0; taken = false }))) x.sessions }) labels) order
          (subst (λ h. AreSound (record x { pool = record (own_all x.pool g.order (firsts fills)) { pinned = pin_runs g.order h x.pool.pinned }; files = set_at f.0 (Some (record g { runs = filled (holes g (indexes g)) (firsts fills) g.runs; pin = true })) x.files; sessions = set_at n.0 (Out e.name (finmap.insert e.files t.0 (record { file = f.0; handle = 0; taken = false }))) x.sessions }) labels) (sym w.same)
          (pinned_sound x labels sound f.0 below g p.1 w.pin w.hold (firsts fills) (as_many_firsts fills ∙ w.as_many) (subst (λ h. AllFree x.pool h (firsts fills)) (sym order) free) distinct n.0 e.name e.files t.0 0 e.was e.few e.fresh)))))

  -- each way in which it comes out
  pub preserves_sound : (out : PreserveOutcome) (s : Sequence) → preserve_acts name t f out ≡ Some s → Stands begun x s.acts v → Sound v labels
  preserves_sound NoName s e stands = stands_end begun x v labels (found NoSession [] (subst (λ (q : Sequence). Stands begun x q.acts v) (sym (same_value _ s e)) stands)) sound
  preserves_sound (NotAdmitted n r) s e stands =
      let c = chosen (is_session_refusal r) _ s e in
      refused_end x sound n 0 r (session_not_ok r c.0) (found (OkSlot n) _ (subst (λ (q : Sequence). Stands begun x q.acts v) (sym (same_value _ s c.1)) stands))
  preserves_sound (NotPinned n r) s e stands =
      let c = chosen (is_pin_refusal r) _ s e in
      not_pinned n r c.0 (found (OkSlot n) _ (subst (λ (q : Sequence). Stands begun x q.acts v) (sym (same_value _ s c.1)) stands))
  preserves_sound (HolesStarved n o h) s e stands =
      let c = chosen (fits_file o h) _ s e in
      holes_starved n o h (found (OkSlot n) _ (subst (λ (q : Sequence). Stands begun x q.acts v) (sym (same_value _ s c.1)) stands))
  preserves_sound (Pinned n o fills runs) s e stands =
      let c = chosen (no_or_fits o fills) _ s e in
      holes_pinned n o fills runs (found (OkSlot n) _ (subst (λ (q : Sequence). Stands begun x q.acts v) (sym (same_value _ s c.1)) stands))
  preserves_sound (DeviceStarved n k) s e stands =
      let c = chosen (is_device k) _ s e in
      absurd (no_device begun x labels sound f k single c.0 (first_claims begun x v _ _ (found (OkSlot n) _ (subst (λ (q : Sequence). Stands begun x q.acts v) (sym (same_value _ s c.1)) stands))))
  preserves_sound (DeviceFailed n k None m) s e stands =
      let c = chosen (is_device k) _ s e in
      absurd (no_device begun x labels sound f k single c.0 (first_claims begun x v _ _ (found (OkSlot n) _ (subst (λ (q : Sequence). Stands begun x q.acts v) (sym (same_value _ s c.1)) stands))))
  preserves_sound (DeviceFailed n k (Some p) m) s e stands =
      let c = chosen (is_device k) _ s e in
      absurd (no_device begun x labels sound f k single c.0 (first_claims begun x v _ _ (found (OkSlot n) _ (subst (λ (q : Sequence). Stands begun x q.acts v) (sym (same_value _ s c.1)) stands))))
  preserves_sound (DevicePinned n k None handle bound r) s e stands =
      let c = chosen (is_device k) _ s e in
      absurd (no_device begun x labels sound f k single c.0 (first_claims begun x v _ _ (found (OkSlot n) _ (subst (λ (q : Sequence). Stands begun x q.acts v) (sym (same_value _ s c.1)) stands))))
  preserves_sound (DevicePinned n k (Some p) handle bound r) s e stands =
      let c = chosen (is_device k) _ s e in
      absurd (no_device begun x labels sound f k single c.0 (first_claims begun x v _ _ (found (OkSlot n) _ (subst (λ (q : Sequence). Stands begun x q.acts v) (sym (same_value _ s c.1)) stands))))

  pub preserved_sound : (outcome : Outcome) (s : Sequence) → preserved name t f outcome ≡ Some s → Stands begun x s.acts v → Sound v labels
  preserved_sound (PreserveCame out) s e stands = preserves_sound out s e stands
  preserved_sound outcome s e stands = absurd (not_some s e)

pub preserve_keeps : PreserveKeeps
preserve_keeps labels a name t label begun w v outcome s sound is acted =
    relabel_kept v labels a (is_ok s.reply)
    (on_label_sound begun (parts_of w) v labels (finmap.get (labels a) label) outcome _ s sound.parts
    (λ f e h stands. preserved_sound begun (parts_of w) v labels sound.parts name t f outcome s h stands)
    is (record { world = w; is = sound.sorts; rest = acted }))
