-- `retrieve` keeps a world sound.
use Rattle.std.proofs.Common.{◌≡◌, ◌⊎◌, inl, inr, ℕ, ◌+◌, ◌<◌, ◌≤◌, Bool, true, false, not, ◌&&◌, cond, List, [], ◌∷◌, refl, sym, ap, subst, ◌∙◌, arith}
use Rattle.std.specs.Prelude.{Option, None, Some, is_some, ◌==◌}
use Rattle.std.specs.Ordering.{nat_cmp}
use Rattle.std.specs.FinMap as finmap
use Rattle.std.proofs.lemmas.Cmp.{nat_cmp_total}
use Rattle.std.proofs.lemmas.Bool.{and_parts, cases_eq, eqb-true, not-true}
use Rattle.ho_base.specs.declared.limits.TheConstants.{FILES, SESSION_FILES}
use Rattle.ho_base.specs.declared.numbers.FileNo.{FileNo}
use Rattle.ho_base.specs.declared.numbers.Kind.TheVariants.{Memfd}
use Rattle.ho_base.specs.declared.numbers.Order.{Order}
use Rattle.ho_base.specs.declared.numbers.SlotNo.{SlotNo}
use Rattle.ho_base.specs.declared.numbers.Token.{Token}
use Rattle.ho_events.specs.File.{FileState, file_step, is_device}
use Rattle.ho_events.specs.Session.{SessionState, Listed, Free, Out, In, session_step, take_step, take_listed, is_in, files_of}
use Rattle.ho_events.specs.declared.command.Command.TheVariants as command
use Rattle.ho_events.specs.declared.event.Event.TheVariants.{RegFindIn, FileOpenHeld, SessionTake}
use Rattle.ho_events.specs.declared.reply.Reply.{Reply}
use Rattle.ho_events.specs.declared.reply.Reply.TheVariants.{Ok, OkFile, OkSlot, NoSession, NoToken, AlreadyTaken}
use Rattle.ho_world.specs.Acts.{Act, Claim, IsFile, HasToken, Sequence, registry, session, file, single}
use Rattle.ho_world.specs.Balance.{SLOTS, is_pinned, is_held, is_open}
use Rattle.ho_world.specs.Entries.{is_ok}
use Rattle.ho_world.specs.Logs.{labels_after}
use Rattle.ho_world.specs.Sequences.{Labels, RetrieveCame}
use Rattle.ho_world.specs.Sequences.Sessions.{NotOpened, NotGiven, NotRetrieved, MemfdTaken, DeviceTaken, is_take_refusal, listed}
use Rattle.ho_world.specs.World.{State, World}
use Rattle.balance_laws.specs.Keeps.{RetrieveKeeps, relabeled}
use Rattle.balance_laws.specs.Parts.{Parts, parts_of}
use Rattle.balance_laws.specs.Sound.{AreSound, Sound, FileFits, run_in, pinned_run, listed_out, listed_in, number_of, name_out, name_waiting, name_opened}
use Rattle.balance_laws.proofs.Acts.{set_at, set_same, set_other, seen_same}
use Rattle.balance_laws.proofs.Base.{same_value, not_some, clash}
use Rattle.balance_laws.proofs.Each.{each_same, pins_same}
use Rattle.balance_laws.proofs.Flags.{fits_set}
use Rattle.balance_laws.proofs.Making.{label_more}
use Rattle.balance_laws.proofs.Maps.{put_at, put_off}
use Rattle.balance_laws.proofs.Names.{names_same}
use Rattle.balance_laws.proofs.Preserves.{no_device}
use Rattle.balance_laws.proofs.Slots.{slots_set, session_stays, find_same, registry_same, first_claims}
use Rattle.balance_laws.proofs.Stands.{Stands, RegistryCame, SessionCame, FileCame, registry_came, session_came, file_came, stands_end}
use Rattle.balance_laws.proofs.Steps.{only_is, chosen, relabel_refused}

-- a held file that isn't open is opened
held_opens : (s now : Option FileState) → file_step s FileOpenHeld Ok ≡ Some now → (g : FileState) × (s ≡ Some g) × (g.opened ≡ false) × (now ≡ Some (record g { opened = true }))
held_opens None now e = absurd (not_some now e)
held_opens (Some g) now e =
    let put = only_is (g.hold && not g.opened) (Some (record g { opened = true })) now e in
    (g, refl, not-true g.opened (and_parts g.hold (not g.opened) put.0).1, put.1)

-- a file that is taken
record IsTaken (s now : SessionState) (t f : ℕ) : Type 0 where
  name : List ℕ
  opened : Bool
  files : finmap.FinMap nat_cmp Listed
  entry : Listed
  was : s ≡ In name opened files
  got : finmap.get files t ≡ Some entry
  untaken : entry.taken ≡ false
  is_file : entry.file ≡ f
  is : now ≡ In name opened (finmap.insert files t (record entry { taken = true }))

taken_is : (s now : SessionState) (name : List ℕ) (t : Token) (f : FileNo) → session_step s (SessionTake name t) (OkFile f) ≡ Some now → IsTaken s now t.0 f.0
taken_is Free now name t f e = absurd (not_some now e)
taken_is (Out own files) now name t f e = absurd (not_some now e)
taken_is (In own opened files) now name t f e = at_entry (finmap.get files t.0) refl (chosen (is_in (In own opened files) name) (take_listed (In own opened files) t.0 (finmap.get files t.0) (OkFile f)) now e).1
  where
    at_entry : (o : Option Listed) → finmap.get files t.0 ≡ o → take_listed (In own opened files) t.0 o (OkFile f) ≡ Some now → IsTaken (In own opened files) now t.0 f.0
    at_entry None is h = absurd (not_some now h)
    at_entry (Some l) is h =
        let put = only_is (not l.taken && l.file == f.0) (In own opened (finmap.insert files t.0 (record l { taken = true }))) now h in
        let tests = and_parts (not l.taken) (l.file == f.0) put.0 in
        record { name = own; opened = opened; files = files; entry = l; was = refl; got = is; untaken = not-true l.taken tests.0; is_file = eqb-true l.file f.0 tests.1; is = put.1 }

-- a take that is refused leaves its session
take_refused : (s now : SessionState) (name : List ℕ) (t : Token) (r : Reply) → is_take_refusal r ≡ true → session_step s (SessionTake name t) r ≡ Some now → now ≡ s
take_refused s now name t r refused e = at_state s e
  where
    at_found : (s : SessionState) (o : Option Listed) (r : Reply) → is_take_refusal r ≡ true → take_listed s t.0 o r ≡ Some now → now ≡ s
    at_found s None NoToken h e = sym (same_value s now e)
    at_found s (Some l) AlreadyTaken h e = (only_is l.taken s now e).1
    at_found s o NoSession h e = absurd (none s o e)
      where
        none : (s : SessionState) (o : Option Listed) → take_listed s t.0 o NoSession ≡ Some now → ⊥
        none s None e = not_some now e
        none s (Some l) e = not_some now e
    at_found s (Some l) NoToken h e = absurd (not_some now e)
    at_found s None AlreadyTaken h e = absurd (not_some now e)
    at_found s o r h e = absurd (clash (sym h))

    at_reply : (s : SessionState) (r : Reply) → is_take_refusal r ≡ true → take_step s name t.0 r ≡ Some now → now ≡ s
    at_reply s NoSession h e = (only_is _ s now e).1
    at_reply s NoToken h e = at_found s (finmap.get (files_of s) t.0) NoToken refl (chosen (is_in s name) _ now e).1
    at_reply s AlreadyTaken h e = at_found s (finmap.get (files_of s) t.0) AlreadyTaken refl (chosen (is_in s name) _ now e).1
    at_reply s r h e = absurd (clash (sym h))

    at_state : (s : SessionState) → session_step s (SessionTake name t) r ≡ Some now → now ≡ s
    at_state Free e = at_reply Free r refused e
    at_state (Out own files) e = at_reply (Out own files) r refused e
    at_state (In own opened files) e = at_reply (In own opened files) r refused e

module _ (x : Parts) (labels : ℕ → Labels) (sound : AreSound x labels) (a : ℕ) (label : List ℕ) (unbound : finmap.get (labels a) label ≡ None) (f : FileNo) (within : f.0 < FILES) (g : FileState)
    (is : x.files f.0 ≡ Some g) (closed : g.opened ≡ false) (slot : ℕ) (below : slot < SLOTS) (name : List ℕ) (opened : Bool) (files : finmap.FinMap nat_cmp Listed) (token : ℕ) (entry : Listed)
    (was : x.sessions slot ≡ In name opened files) (got : finmap.get files token ≡ Some entry) (is_file : entry.file ≡ f.0) where
  abbrev open_file : FileState
  open_file = record g { opened = true }

  abbrev given : SessionState
  given = In name opened (finmap.insert files token (record entry { taken = true }))

  abbrev files_now : ℕ → Option FileState
  files_now = set_at f.0 (Some open_file) x.files

  abbrev sessions_now : ℕ → SessionState
  sessions_now = set_at slot given x.sessions

  seen_file : {X : Type 0} (see : Option FileState → X) → see (Some open_file) ≡ see (Some g) → (n : ℕ) → see (files_now n) ≡ see (x.files n)
  seen_file see same = seen_same see f.0 (Some open_file) x.files (same ∙ ap see (sym is))

  seen_slot : {X : Type 0} (see : SessionState → X) → see given ≡ see (In name opened files) → (s : ℕ) → see (sessions_now s) ≡ see (x.sessions s)
  seen_slot see same = seen_same see slot given x.sessions (same ∙ ap see (sym was))

  -- the session lists the same files under the same tokens
  same_number : (t : ℕ) → number_of (listed_in given t) ≡ number_of (finmap.get files t)
  same_number t = by_case (cases_eq t token)
    where
      by_case : (t ≡ token) ⊎ (t ≡ token → ⊥) → number_of (listed_in given t) ≡ number_of (finmap.get files t)
      by_case (inl p) = ap number_of (put_at files token (record entry { taken = true }) t p) ∙ ap number_of (sym (ap (finmap.get files) p ∙ got))
      by_case (inr p) = ap number_of (put_off files token (record entry { taken = true }) t p)

  same_waiting : (b : Bool) → name_waiting (In name b (finmap.insert files token (record entry { taken = true }))) ≡ name_waiting (In name b files)
  same_waiting true = refl
  same_waiting false = refl

  same_opened : (b : Bool) → name_opened (In name b (finmap.insert files token (record entry { taken = true }))) ≡ name_opened (In name b files)
  same_opened true = refl
  same_opened false = refl

  -- the file that is taken is listed there alone
  untaken : (s t : ℕ) (l : Listed) → listed_in (sessions_now s) t ≡ Some l → l.taken ≡ false → is_open (files_now l.file) ≡ false
  untaken s t l e h = by_slot (cases_eq s slot) (cases_eq t token)
    where
      elsewhere : listed_in (x.sessions s) t ≡ Some l → ((s ≡ slot) → (t ≡ token) → ⊥) → is_open (files_now l.file) ≡ false
      elsewhere old apart = by_file (cases_eq l.file f.0)
        where
          by_file : (l.file ≡ f.0) ⊎ (l.file ≡ f.0 → ⊥) → is_open (files_now l.file) ≡ false
          by_file (inl p) =
              let one : (s ≡ slot) × (t ≡ token) =
              sound.held.once s slot t token f.0 (ap number_of old ∙ ap Some p) (ap (λ v. number_of (listed_in v token)) was ∙ ap number_of got ∙ ap Some is_file) in
              absurd (apart one.0 one.1)
          by_file (inr p) = ap is_open (set_other f.0 (Some open_file) x.files l.file p) ∙ sound.untaken s t l old h

      by_slot : (s ≡ slot) ⊎ (s ≡ slot → ⊥) → (t ≡ token) ⊎ (t ≡ token → ⊥) → is_open (files_now l.file) ≡ false
      by_slot (inl p) (inl q) =
          let same : record entry { taken = true } ≡ l = same_value (record entry { taken = true }) l (sym (ap (λ v. listed_in v t) (set_same slot given x.sessions s p) ∙ put_at files token (record entry { taken = true }) t q) ∙ e) in
          absurd (clash (ap (λ (y : Listed). y.taken) same ∙ h))
      by_slot (inl p) (inr q) =
          elsewhere (ap (λ n. listed_in (x.sessions n) t) p ∙ ap (λ v. listed_in v t) was ∙ sym (ap (λ v. listed_in v t) (set_same slot given x.sessions s p) ∙ put_off files token (record entry { taken = true }) t q) ∙ e) (λ _ k. q k)
      by_slot (inr p) q = elsewhere (ap (λ v. listed_in v t) (sym (set_other slot given x.sessions s p)) ∙ e) (λ k _. p k)

  few : finmap.len (finmap.insert files token (record entry { taken = true })) ≤ SESSION_FILES
  few =
      let same : finmap.len (finmap.insert files token (record entry { taken = true })) ≡ finmap.len files =
      finmap.len-insert nat_cmp_total files token (record entry { taken = true }) ∙ ap (λ o. cond (is_some o) (finmap.len files) (finmap.len files + 1)) got in
      let low : finmap.len files ≤ SESSION_FILES = subst (λ v. finmap.len (files_of v) ≤ SESSION_FILES) was (sound.slots.few slot) in
      omega (arith, same, low)

  values : (n : ℕ) → (n ≡ f.0) ⊎ (n ≡ f.0 → ⊥) → (n ≡ f.0) ⊎ (is_open (files_now n) ≡ is_open (x.files n))
  values n (inl p) = inl p
  values n (inr p) = inr (ap is_open (set_other f.0 (Some open_file) x.files n p))

  pub taken_sound : AreSound (record x { sessions = sessions_now; files = files_now }) (relabeled labels a (finmap.insert (labels a) label f))
  taken_sound = record {
    runs = sound.runs;
    owned = each_same _ _ _ _ sound.owned (λ k l. seen_file (λ v. run_in v l) refl k) (λ v. refl);
    pins = pins_same x.pool _ _ (λ k l. seen_file (λ v. pinned_run v l) refl k) sound.pins;
    fit = fits_set x.files f.0 open_file sound.fit (let fits : FileFits g = sound.fit f.0 g is in record { kind = fits.kind; order = fits.order; size = fits.size; position = fits.position; below = fits.below; whole = fits.whole; kept = refl });
    listed = each_same _ _ _ _ sound.listed (λ s t. seen_slot (λ v. number_of (listed_out v t)) refl s) (seen_file is_pinned refl);
    held = each_same _ _ _ _ sound.held (λ s t. seen_slot (λ v. number_of (listed_in v t)) (same_number t) s) (seen_file is_held refl);
    untaken = untaken;
    slots = slots_set x.sessions slot given sound.slots (λ n e. absurd (not_some n e)) (λ n o fs e. sound.slots.incoming slot name opened files was) few;
    outgoing = names_same x.registry.outgoing _ _ sound.outgoing (seen_slot name_out refl);
    waiting = names_same x.registry.waiting _ _ sound.waiting (seen_slot name_waiting (same_waiting opened));
    opened = names_same x.registry.opened _ _ sound.opened (seen_slot name_opened (same_opened opened));
    used = λ n. sound.used n ∙ sym (seen_file is_some refl n);
    labeled = label_more labels a label f _ _ unbound (ap is_open (set_same f.0 (Some open_file) x.files f.0 refl)) (ap is_open is ∙ closed) (λ n. values n (cases_eq n f.0)) sound.labeled;
    last_slot = λ s beyond. set_other slot given x.sessions s (λ same. omega (arith, same, beyond, below)) ∙ sound.last_slot s beyond;
    last_file = λ n beyond. set_other f.0 (Some open_file) x.files n (λ same. omega (arith, same, beyond, within)) ∙ sound.last_file n beyond;
  }

take_no_file : (name : List ℕ) (t : Token) (r : Reply) (v : Option FileState) → file_step v (SessionTake name t) r ≡ None
take_no_file name t r None = refl
take_no_file name t r (Some g) = refl

refusal_not_ok : (r : Reply) → is_take_refusal r ≡ true → is_ok r ≡ false
refusal_not_ok NoSession h = refl
refusal_not_ok NoToken h = refl
refusal_not_ok AlreadyTaken h = refl
refusal_not_ok r h = absurd (clash (sym h))

module _ (begun : ℕ → State) (x : Parts) (v : World) (labels : ℕ → Labels) (sound : AreSound x labels) (name : List ℕ) (t : Token) where
  found : (r : Reply) (acts : List Act) → Stands begun x (registry (RegFindIn name) r ∷ acts) v → Stands begun x acts v
  found r acts s =
      let c : RegistryCame begun x (RegFindIn name) r acts v = registry_came begun x v (RegFindIn name) r acts s in
      registry_same begun x (RegFindIn name) r acts v c (find_same x.registry c.now (finmap.get x.registry.opened name) r c.stepped)

  not_given : (n : SlotNo) (r : Reply) → is_take_refusal r ≡ true → Stands begun x (session n [] (SessionTake name t) r ∷ []) v → Sound v labels
  not_given n r refused s =
      let c : SessionCame begun x n.0 [] (SessionTake name t) r [] v = session_came begun x v n [] (SessionTake name t) r [] (take_no_file name t r) s in
      stands_end begun (record x { sessions = set_at n.0 c.now x.sessions }) v labels c.then (session_stays x labels sound n.0 c.now (take_refused (x.sessions n.0) c.now name t r refused c.stepped))

  given_sound : (a : ℕ) (label : List ℕ) → finmap.get (labels a) label ≡ None → (n : SlotNo) (f : FileNo) (o : Order) (claims : List Claim)
      → Stands begun x (file f (IsFile f Memfd o ∷ []) FileOpenHeld Ok ∷ session n claims (SessionTake name t) (OkFile f) ∷ []) v → Sound v (relabeled labels a (finmap.insert (labels a) label f))
  given_sound a label unbound n f o claims s =
      let c : FileCame begun x f.0 (IsFile f Memfd o ∷ []) FileOpenHeld Ok (session n claims (SessionTake name t) (OkFile f) ∷ []) v = file_came begun x v f (IsFile f Memfd o ∷ []) FileOpenHeld Ok _ s in
      let d : SessionCame begun (record x { files = set_at f.0 c.now x.files }) n.0 claims (SessionTake name t) (OkFile f) [] v =
      session_came begun (record x { files = set_at f.0 c.now x.files }) v n claims (SessionTake name t) (OkFile f) [] (take_no_file name t (OkFile f)) c.then in
      let h = held_opens (x.files f.0) c.now c.stepped in
      let k : IsTaken (x.sessions n.0) d.now t.0 f.0 = taken_is (x.sessions n.0) d.now name t f d.stepped in
      stands_end begun (record x { files = set_at f.0 c.now x.files; sessions = set_at n.0 d.now x.sessions }) v (relabeled labels a (finmap.insert (labels a) label f)) d.then
      (subst (λ u. AreSound (record x { files = set_at f.0 u x.files; sessions = set_at n.0 d.now x.sessions }) (relabeled labels a (finmap.insert (labels a) label f))) (sym h.3)
      (subst (λ u. AreSound (record x { files = set_at f.0 (Some (record h.0 { opened = true })) x.files; sessions = set_at n.0 u x.sessions }) (relabeled labels a (finmap.insert (labels a) label f))) (sym k.is)
      (taken_sound x labels sound a label unbound f c.below h.0 h.1 h.2 n.0 d.below k.name k.opened k.files t.0 k.entry k.was k.got k.is_file)))

pub retrieve_keeps : RetrieveKeeps
retrieve_keeps labels a name t label unbound begun w v (RetrieveCame NotOpened) s sound is acted =
    subst (λ q. Sound v (relabeled labels a (labels_after (labels a) (command.Retrieve name t label) q))) (same_value _ s is)
    (relabel_refused v labels a false (labels a) refl
    (stands_end begun (parts_of w) v labels (found begun (parts_of w) v labels sound.parts name t NoSession [] (subst (λ (q : Sequence). Stands begun (parts_of w) q.acts v) (sym (same_value _ s is)) (record { world = w; is = sound.sorts; rest = acted }))) sound.parts))
retrieve_keeps labels a name t label unbound begun w v (RetrieveCame (NotGiven n r)) s sound is acted =
    let c = chosen (is_take_refusal r) _ s is in
    subst (λ q. Sound v (relabeled labels a (labels_after (labels a) (command.Retrieve name t label) q))) (same_value _ s c.1)
    (relabel_refused v labels a (is_ok r) _ (refusal_not_ok r c.0)
    (not_given begun (parts_of w) v labels sound.parts name t n r c.0
    (found begun (parts_of w) v labels sound.parts name t (OkSlot n) _ (subst (λ (q : Sequence). Stands begun (parts_of w) q.acts v) (sym (same_value _ s c.1)) (record { world = w; is = sound.sorts; rest = acted })))))
retrieve_keeps labels a name t label unbound begun w v (RetrieveCame (NotRetrieved n f k handle m)) s sound is acted =
    let c = chosen (is_device k) _ s is in
    absurd (no_device begun (parts_of w) labels sound.parts f k single c.0
    (first_claims begun (parts_of w) v _ _ (found begun (parts_of w) v labels sound.parts name t (OkSlot n) _ (subst (λ (q : Sequence). Stands begun (parts_of w) q.acts v) (sym (same_value _ s c.1)) (record { world = w; is = sound.sorts; rest = acted })))))
retrieve_keeps labels a name t label unbound begun w v (RetrieveCame (MemfdTaken n f o handle)) s sound is acted =
    subst (λ q. Sound v (relabeled labels a (labels_after (labels a) (command.Retrieve name t label) q))) (same_value _ s is)
    (given_sound begun (parts_of w) v labels sound.parts name t a label unbound n f o (HasToken n t.0 (listed f handle) ∷ [])
    (found begun (parts_of w) v labels sound.parts name t (OkSlot n) _ (subst (λ (q : Sequence). Stands begun (parts_of w) q.acts v) (sym (same_value _ s is)) (record { world = w; is = sound.sorts; rest = acted }))))
retrieve_keeps labels a name t label unbound begun w v (RetrieveCame (DeviceTaken n f k handle bound)) s sound is acted =
    let c = chosen (is_device k) _ s is in
    absurd (no_device begun (parts_of w) labels sound.parts f k single c.0
    (first_claims begun (parts_of w) v _ _ (found begun (parts_of w) v labels sound.parts name t (OkSlot n) _ (subst (λ (q : Sequence). Stands begun (parts_of w) q.acts v) (sym (same_value _ s c.1)) (record { world = w; is = sound.sorts; rest = acted })))))
retrieve_keeps labels a name t label unbound begun w v outcome s sound is acted = absurd (not_some s is)
