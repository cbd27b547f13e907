-- `close` and `finish` keep a world sound.
use Rattle.std.proofs.Common.{◌≡◌, ℕ, ◌-◌, ◌<◌, Bool, true, false, not, ◌&&◌, List, [], ◌∷◌, ◌++◌, map, length, refl, sym, ap, subst, ◌∙◌, arith}
use Rattle.std.specs.Prelude.{Option, None, Some, if◌then◌else◌, flat_map, nat_lt, ◌==◌}
use Rattle.std.specs.Ordering.{nat_cmp}
use Rattle.std.specs.FinMap as finmap
use Rattle.std.specs.List.{AllByRecursion}
use Rattle.std.proofs.lemmas.Bool.{and_parts, ltb-true}
use Rattle.ho_base.specs.declared.numbers.SlotNo.{SlotNo}
use Rattle.ho_events.specs.File.{FileState, file_step, is_device}
use Rattle.ho_events.specs.Lists.{same_bytes}
use Rattle.ho_events.specs.Session.{SessionState, Listed, Free, Out, In as InSession, session_step, files_of, is_out, is_in}
use Rattle.ho_events.specs.declared.event.Event.TheVariants.{RegFindOut, RegFindIn, RegDropName, RegDropIn, SessionClose, SessionFinish}
use Rattle.ho_events.specs.declared.reply.Reply.{Reply}
use Rattle.ho_events.specs.declared.reply.Reply.TheVariants.{Ok, OkSlot, NoSession, Failed}
use Rattle.ho_world.specs.Acts.{Act, HasFiles, Sequence, registry, session, references}
use Rattle.ho_world.specs.Balance.{is_pinned, is_held}
use Rattle.ho_world.specs.Entries.{is_ok}
use Rattle.ho_world.specs.Sequences.{Labels, CloseCame, FinishCame}
use Rattle.ho_world.specs.Sequences.Parts.{Part, part_reference, have_distinct_files, CloseOutcome, NoSuchName, NotOut, Closed, close_part, close_acts, FinishOutcome, NotFound, NotIn, NotEnded, Ended, finish_part, finish_acts, devices, can_finish, asked_until}
use Rattle.ho_world.specs.World.{State, World}
use Rattle.balance_laws.specs.Keeps.{CloseKeeps, FinishKeeps}
use Rattle.balance_laws.specs.Parts.{Parts, parts_of}
use Rattle.balance_laws.specs.Sound.{AreSound, Sound}
use Rattle.balance_laws.proofs.Acts.{set_at}
use Rattle.balance_laws.proofs.Base.{same_value, not_some, slot_view}
use Rattle.balance_laws.proofs.Ending.{files_in, parts_list, closed_sound, finished_sound}
use Rattle.balance_laws.proofs.Members.{In, same_list}
use Rattle.balance_laws.proofs.Numbers.{all_passed}
use Rattle.balance_laws.proofs.PartsLeft.{AllLeft, all_left, close_left, finish_left, device_never, numbers_of, with_files}
use Rattle.balance_laws.proofs.Slots.{session_stays, find_same, registry_same, first_claims}
use Rattle.balance_laws.proofs.Stands.{Stands, RegistryCame, SessionCame, registry_came, session_came, stands_end}
use Rattle.balance_laws.proofs.Steps.{only_is, chosen, relabel_kept}

-- a close that went, and one that was refused
record IsClosed (s now : SessionState) (name : List ℕ) : Type 0 where
  files : finmap.FinMap nat_cmp Listed
  was : s ≡ Out name files
  is : now ≡ Free

closed_is : (s now : SessionState) (name : List ℕ) → session_step s (SessionClose name) Ok ≡ Some now → IsClosed s now name
closed_is Free now name e = absurd (not_some now e)
closed_is (InSession own opened files) now name e = absurd (not_some now e)
closed_is (Out own files) now name e =
    let put = only_is (same_bytes own name) Free now e in
    record { files = files; was = ap (λ n. Out n files) (same_list own name put.0); is = put.1 }

not_closed : (s now : SessionState) (name : List ℕ) → session_step s (SessionClose name) NoSession ≡ Some now → now ≡ s
not_closed Free now name e = (only_is (not (is_out Free name)) Free now e).1
not_closed (InSession own opened files) now name e = (only_is (not (is_out (InSession own opened files) name)) (InSession own opened files) now e).1
not_closed (Out own files) now name e = (only_is (not (is_out (Out own files) name)) (Out own files) now e).1

-- a finish that went, and one that was refused
record IsFinished (s now : SessionState) (name : List ℕ) : Type 0 where
  files : finmap.FinMap nat_cmp Listed
  was : s ≡ InSession name true files
  is : now ≡ Free

finished_is : (s now : SessionState) (name : List ℕ) → session_step s (SessionFinish name) Ok ≡ Some now → IsFinished s now name
finished_is Free now name e = absurd (not_some now e)
finished_is (Out own files) now name e = absurd (not_some now e)
finished_is (InSession own opened files) now name e =
    let put = only_is (opened && same_bytes own name) Free now e in
    let tests = and_parts opened (same_bytes own name) put.0 in
    record { files = files; was = ap (λ b. InSession own b files) tests.0 ∙ ap (λ n. InSession n true files) (same_list own name tests.1); is = put.1 }

not_finished : (s now : SessionState) (name : List ℕ) → session_step s (SessionFinish name) NoSession ≡ Some now → now ≡ s
not_finished Free now name e = (only_is (not (is_in Free name)) Free now e).1
not_finished (InSession own opened files) now name e = (only_is (not (is_in (InSession own opened files) name)) (InSession own opened files) now e).1
not_finished (Out own files) now name e = (only_is (not (is_in (Out own files) name)) (Out own files) now e).1

close_no_file : (name : List ℕ) (r : Reply) (f : Option FileState) → file_step f (SessionClose name) r ≡ None
close_no_file name r None = refl
close_no_file name r (Some g) = refl

finish_no_file : (name : List ℕ) (r : Reply) (f : Option FileState) → file_step f (SessionFinish name) r ≡ None
finish_no_file name r None = refl
finish_no_file name r (Some g) = refl

module _ (begun : ℕ → State) (x : Parts) (v : World) (labels : ℕ → Labels) (sound : AreSound x labels) (name : List ℕ) where
  abbrev pinned : ℕ → Bool
  pinned k = is_pinned (x.files k)

  abbrev holding : ℕ → Bool
  holding k = is_held (x.files k)

  found_out : (r : Reply) (acts : List Act) → Stands begun x (registry (RegFindOut name) r ∷ acts) v → Stands begun x acts v
  found_out r acts s =
      let c : RegistryCame begun x (RegFindOut name) r acts v = registry_came begun x v (RegFindOut name) r acts s in
      registry_same begun x (RegFindOut name) r acts v c (find_same x.registry c.now (finmap.get x.registry.outgoing name) r c.stepped)

  found_in : (r : Reply) (acts : List Act) → Stands begun x (registry (RegFindIn name) r ∷ acts) v → Stands begun x acts v
  found_in r acts s =
      let c : RegistryCame begun x (RegFindIn name) r acts v = registry_came begun x v (RegFindIn name) r acts s in
      registry_same begun x (RegFindIn name) r acts v c (find_same x.registry c.now (finmap.get x.registry.opened name) r c.stepped)

  -- the session that is closed lists the files of the parts
  closes_sound : (n : SlotNo) (cs : List Part) → Stands begun x (flat_map close_part cs ++ session n (HasFiles n (map part_reference cs) ∷ []) (SessionClose name) Ok ∷ registry (RegDropName name) Ok ∷ []) v → Sound v labels
  closes_sound n cs s =
      let l : AllLeft begun v labels pinned holding is_pinned is_held x (numbers_of cs) (session n (HasFiles n (map part_reference cs) ∷ []) (SessionClose name) Ok ∷ registry (RegDropName name) Ok ∷ []) =
      all_left begun v labels pinned holding is_pinned is_held close_part (close_left begun v labels pinned holding) cs x sound _ s in
      let y : Parts = with_files x l.pool l.used l.files in
      let c : SessionCame begun y n.0 (HasFiles n (map part_reference cs) ∷ []) (SessionClose name) Ok (registry (RegDropName name) Ok ∷ []) v =
      session_came begun y v n (HasFiles n (map part_reference cs) ∷ []) (SessionClose name) Ok _ (close_no_file name Ok) l.next in
      let d : RegistryCame begun (record y { sessions = set_at n.0 c.now x.sessions }) (RegDropName name) Ok [] v = registry_came begun (record y { sessions = set_at n.0 c.now x.sessions }) v (RegDropName name) Ok [] c.then in
      let k : IsClosed (x.sessions n.0) c.now name = closed_is (x.sessions n.0) c.now name c.stepped in
      let lists : files_in k.files ≡ numbers_of cs =
      ap (λ u. files_in (files_of u)) (sym k.was) ∙ parts_list (x.sessions n.0) cs (ap references (sym (slot_view y n.0 l.sound.last_slot)) ∙ c.claimed.0) in
      stands_end begun (record y { sessions = set_at n.0 c.now x.sessions; registry = d.now }) v labels d.then
      (subst (λ g. AreSound (record y { sessions = set_at n.0 c.now x.sessions; registry = g }) labels) (sym (only_is _ (record y.registry { outgoing = finmap.remove y.registry.outgoing name }) d.now d.stepped).1)
      (subst (λ u. AreSound (record y { sessions = set_at n.0 u x.sessions; registry = record y.registry { outgoing = finmap.remove y.registry.outgoing name } }) labels) (sym k.is)
      (closed_sound y labels pinned holding l.sound n.0 c.below name k.files k.was
      (λ q h. (let m = l.still q h in (m.0, λ i. m.1 (subst (In q) lists i)))) (λ q h out. l.stay q h (λ i. out (subst (In q) (sym lists) i))) l.same)))

  finishes_sound : (n : SlotNo) (cs : List Part) → Stands begun x (flat_map finish_part cs ++ session n (HasFiles n (map part_reference cs) ∷ []) (SessionFinish name) Ok ∷ registry (RegDropIn name) Ok ∷ []) v → Sound v labels
  finishes_sound n cs s =
      let l : AllLeft begun v labels pinned holding is_held is_pinned x (numbers_of cs) (session n (HasFiles n (map part_reference cs) ∷ []) (SessionFinish name) Ok ∷ registry (RegDropIn name) Ok ∷ []) =
      all_left begun v labels pinned holding is_held is_pinned finish_part (finish_left begun v labels pinned holding) cs x sound _ s in
      let y : Parts = with_files x l.pool l.used l.files in
      let c : SessionCame begun y n.0 (HasFiles n (map part_reference cs) ∷ []) (SessionFinish name) Ok (registry (RegDropIn name) Ok ∷ []) v =
      session_came begun y v n (HasFiles n (map part_reference cs) ∷ []) (SessionFinish name) Ok _ (finish_no_file name Ok) l.next in
      let d : RegistryCame begun (record y { sessions = set_at n.0 c.now x.sessions }) (RegDropIn name) Ok [] v = registry_came begun (record y { sessions = set_at n.0 c.now x.sessions }) v (RegDropIn name) Ok [] c.then in
      let k : IsFinished (x.sessions n.0) c.now name = finished_is (x.sessions n.0) c.now name c.stepped in
      let lists : files_in k.files ≡ numbers_of cs =
      ap (λ u. files_in (files_of u)) (sym k.was) ∙ parts_list (x.sessions n.0) cs (ap references (sym (slot_view y n.0 l.sound.last_slot)) ∙ c.claimed.0) in
      stands_end begun (record y { sessions = set_at n.0 c.now x.sessions; registry = d.now }) v labels d.then
      (subst (λ g. AreSound (record y { sessions = set_at n.0 c.now x.sessions; registry = g }) labels) (sym (only_is _ (record y.registry { opened = finmap.remove y.registry.opened name }) d.now d.stepped).1)
      (subst (λ u. AreSound (record y { sessions = set_at n.0 u x.sessions; registry = record y.registry { opened = finmap.remove y.registry.opened name } }) labels) (sym k.is)
      (finished_sound y labels pinned holding l.sound n.0 c.below name k.files k.was
      (λ q h. (let m = l.still q h in (m.0, λ i. m.1 (subst (In q) lists i)))) (λ q h out. l.stay q h (λ i. out (subst (In q) (sym lists) i))) l.same)))

  -- no handler is asked, since no file is a device file
  no_handlers : (ds : List Part) → AllByRecursion (λ c. is_device c.kind ≡ true) ds → (acts : List Act) → Stands begun x (map (can_finish Ok) ds ++ acts) v → Stands begun x acts v
  no_handlers [] all acts s = s
  no_handlers (c ∷ ds) all acts s = absurd (device_never begun v labels pinned holding x sound c.number c.kind c.order all.0 (first_claims begun x v _ _ s))

  none_asked : (ds : List Part) (n m : ℕ) → AllByRecursion (λ c. is_device c.kind ≡ true) ds → nat_lt n (length ds) ≡ true → (acts : List Act) → Stands begun x (asked_until ds n m ++ acts) v → ⊥
  none_asked [] n m all less acts s = let l : n < 0 = ltb-true n 0 less in omega (arith, l)
  none_asked (c ∷ ds) n m all less acts s = by_test (n == 0) s
    where
      by_test : (b : Bool) → Stands begun x ((if b then can_finish (Failed m) c ∷ [] else can_finish Ok c ∷ asked_until ds (n - 1) m) ++ acts) v → ⊥
      by_test true s = device_never begun v labels pinned holding x sound c.number c.kind c.order all.0 (first_claims begun x v _ _ s)
      by_test false s = device_never begun v labels pinned holding x sound c.number c.kind c.order all.0 (first_claims begun x v _ _ s)

  are_devices : (cs : List Part) → AllByRecursion (λ c. is_device c.kind ≡ true) (devices cs)
  are_devices cs = all_passed (λ (c : Part). is_device c.kind) cs

  pub close_sound : (out : CloseOutcome) (s : Sequence) → close_acts name out ≡ Some s → Stands begun x s.acts v → Sound v labels
  close_sound NoSuchName s e stands = stands_end begun x v labels (found_out NoSession [] (subst (λ (q : Sequence). Stands begun x q.acts v) (sym (same_value _ s e)) stands)) sound
  close_sound (NotOut n) s e stands =
      let c : SessionCame begun x n.0 [] (SessionClose name) NoSession [] v =
      session_came begun x v n [] (SessionClose name) NoSession [] (close_no_file name NoSession) (found_out (OkSlot n) _ (subst (λ (q : Sequence). Stands begun x q.acts v) (sym (same_value _ s e)) stands)) in
      stands_end begun (record x { sessions = set_at n.0 c.now x.sessions }) v labels c.then (session_stays x labels sound n.0 c.now (not_closed (x.sessions n.0) c.now name c.stepped))
  close_sound (Closed n cs) s e stands =
      let k = chosen (have_distinct_files cs) _ s e in
      closes_sound n cs (found_out (OkSlot n) _ (subst (λ (q : Sequence). Stands begun x q.acts v) (sym (same_value _ s k.1)) stands))

  pub finish_sound : (out : FinishOutcome) (s : Sequence) → finish_acts name out ≡ Some s → Stands begun x s.acts v → Sound v labels
  finish_sound NotFound s e stands = stands_end begun x v labels (found_in NoSession [] (subst (λ (q : Sequence). Stands begun x q.acts v) (sym (same_value _ s e)) stands)) sound
  finish_sound (NotIn n) s e stands =
      let c : SessionCame begun x n.0 [] (SessionFinish name) NoSession [] v =
      session_came begun x v n [] (SessionFinish name) NoSession [] (finish_no_file name NoSession) (found_in (OkSlot n) _ (subst (λ (q : Sequence). Stands begun x q.acts v) (sym (same_value _ s e)) stands)) in
      stands_end begun (record x { sessions = set_at n.0 c.now x.sessions }) v labels c.then (session_stays x labels sound n.0 c.now (not_finished (x.sessions n.0) c.now name c.stepped))
  finish_sound (NotEnded n cs i m) s e stands =
      let k = chosen (have_distinct_files cs && nat_lt i (length (devices cs))) _ s e in
      absurd (none_asked (devices cs) i m (are_devices cs) (and_parts (have_distinct_files cs) (nat_lt i (length (devices cs))) k.0).1 _
      (found_in (OkSlot n) _ (subst (λ (q : Sequence). Stands begun x q.acts v) (sym (same_value _ s k.1)) stands)))
  finish_sound (Ended n cs) s e stands =
      let k = chosen (have_distinct_files cs) _ s e in
      finishes_sound n cs (no_handlers (devices cs) (are_devices cs) _ (found_in (OkSlot n) _ (subst (λ (q : Sequence). Stands begun x q.acts v) (sym (same_value _ s k.1)) stands)))

pub close_keeps : CloseKeeps
close_keeps labels a name begun w v (CloseCame out) s sound is acted =
    relabel_kept v labels a (is_ok s.reply) (close_sound begun (parts_of w) v labels sound.parts name out s is (record { world = w; is = sound.sorts; rest = acted }))
close_keeps labels a name begun w v outcome s sound is acted = absurd (not_some s is)

pub finish_keeps : FinishKeeps
finish_keeps labels a name begun w v (FinishCame out) s sound is acted =
    relabel_kept v labels a (is_ok s.reply) (finish_sound begun (parts_of w) v labels sound.parts name out s is (record { world = w; is = sound.sorts; rest = acted }))
finish_keeps labels a name begun w v outcome s sound is acted = absurd (not_some s is)
