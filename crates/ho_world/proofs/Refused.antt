-- A refused preserve or kexec changes nothing.
use Rattle.std.proofs.Common.{◌≡◌, ◌≢◌, ◌⊎◌, ℕ, ◌+◌, ◌-◌, ◌<◌, ◌≤◌, Bool, true, false, ◌&&◌, ◌||◌, ◌==◌, nat_lt, List, [], ◌∷◌, ◌++◌, map, reverse, refl, sym, ap, subst, ◌∙◌, IsTrue, inl, inr, take}
use Rattle.std.specs.Prelude.{Option, None, Some, option_map, unwrap_or, slice_get, if◌then◌else◌}
use Rattle.std.specs.FinMap as finmap
use Rattle.ho_base.specs.declared.numbers.Blob.{Blob}
use Rattle.ho_base.specs.declared.numbers.Order.{Order}
use Rattle.ho_base.specs.declared.numbers.Pfn.{Pfn}
use Rattle.ho_base.specs.declared.numbers.Token.{Token}
use Rattle.ho_base.specs.declared.numbers.FileNo.{FileNo}
use Rattle.ho_base.specs.declared.numbers.SlotNo.{SlotNo}
use Rattle.ho_events.specs.Lists.{only}
use Rattle.ho_events.specs.Pool.{PoolState, pool_step}
use Rattle.ho_events.specs.File.{FileState, pin_step, is_device}
use Rattle.ho_events.specs.Handler.{HandlerState, Side, handler_step, preserve_step, failed_step, ask_step, brings_frame}
use Rattle.ho_events.specs.Session.{SessionState, Free, Out, In, Listed, add_step, session_step}
use Rattle.ho_events.specs.Registry.{RegistryState, find_step}
use Rattle.ho_events.specs.declared.event.Event.{Event}
use Rattle.ho_events.specs.declared.event.Event.TheVariants.{PoolTake, PoolGive, RegFindOut, SessionAdd, FilePin, HandlerPreserve, HandlerFreeze, HandlerUnfreeze}
use Rattle.ho_events.specs.declared.reply.Reply.{Reply}
use Rattle.ho_events.specs.declared.reply.Reply.TheVariants.{Ok, OkSlot, OkRuns, OkHandle, Got, NoFrames, NoFramesOf, NoSession, SessionFull, TokenTaken, NotFinished, AlreadyPinned, HandlerFailed, Failed}
use Rattle.ho_world.specs.World.{State, Nothing, PoolIn, RegistryIn, HandlerIn, SessionIn, FileIn, World, step}
use Rattle.ho_world.specs.Frozen.{Preserved, preserved_devices, frozen, need}
use Rattle.ho_world.specs.Acts.{Act, Sequence, pool, single}
use Rattle.ho_world.specs.Entries.{is_ok}
use Rattle.ho_world.specs.Sequences.{Outcome, NoFile, PreserveCame, KexecCame, on_label, preserved}
use Rattle.ho_world.specs.Sequences.Preserving.{PreserveOutcome, NoName, NotAdmitted, NotPinned, HolesStarved, Pinned, DeviceStarved, DeviceFailed, DevicePinned, preserve_acts, no_or_fits}
use Rattle.ho_world.specs.Sequences.Kexecs.{KexecOutcome, TooSmall, NoRoom, NotFrozen, KernelEnds, kexec_acts, fitting_acts, not_frozen_acts, freeze_act, unfreeze_act}
use Rattle.ho_world.specs.Sequences.Files.{fits_file}
use Rattle.ho_world.specs.Refusals.{settled, is_quiet, QuietIsQuiet, changing, IsTakenBack, ByCommand, ByKexec, RefusedChangesNothing}

same_value : {T : Type 0} (x y : T) → Some x ≡ Some y → x ≡ y
same_value x y e = ap (λ o. unwrap_or o x) e

only_same : {T : Type 0} (b : Bool) (x y : T) → only b x ≡ Some y → x ≡ y
only_same true x y e = same_value x y e
only_same false x y e = absurd cc

not_some : {T : Type 0} (t : T) → ◌≡◌ {A = Option T} None (Some t) → ⊥
not_some t e = cc

abbrev is_handler : State → Bool
is_handler (HandlerIn s) = true
is_handler s = false

-- what comes out of a part comes out of the whole
mapped : {S : Type 0} (into : S → State) (o : Option S) (t : State) → ((x : S) → o ≡ Some x → settled (into x) ≡ settled t → settled (into x) ≡ settled t) → option_map into o ≡ Some t → (x : S) × (o ≡ Some x) × (into x ≡ t)
mapped into None t f e = absurd cc
mapped into (Some x) t f e = (x, refl, same_value (into x) t e)

came : {S : Type 0} (into : S → State) (o : Option S) (t : State) → option_map into o ≡ Some t → (x : S) × (o ≡ Some x) × (into x ≡ t)
came into o t e = mapped into o t (λ x h k. k) e

-- the registry's find
find_same : (s t : RegistryState) (slot : Option ℕ) (reply : Reply) → find_step s slot reply ≡ Some t → s ≡ t
find_same s t None NoSession e = same_value s t e
find_same s t (Some slot) (OkSlot found) e = only_same (found.0 == slot) s t e
find_same s t slot reply e = absurd cc

-- a session's add that is refused
add_same : (s t : SessionState) (name : List ℕ) (token : ℕ) (file : Listed) (reply : Reply) → is_ok reply ≡ false → add_step s name token file reply ≡ Some t → s ≡ t
add_same s t name token file NoSession r e = only_same _ s t e
add_same s t name token file SessionFull r e = only_same _ s t e
add_same s t name token file TokenTaken r e = only_same _ s t e
add_same s t name token file NotFinished r e = only_same _ s t e
add_same s t name token file AlreadyPinned r e = only_same _ s t e
add_same s t name token file NoFrames r e = only_same _ s t e
add_same s t name token file HandlerFailed r e = only_same _ s t e
add_same s t name token file Ok r e = absurd cc
add_same s t name token file reply r e = absurd cc

-- a file's pin that is refused
pin_same : (f : FileState) (fills : List Pfn) (reply : Reply) (t : Option FileState) → IsTrue (is_quiet (FilePin fills) reply) → pin_step f fills reply ≡ Some t → Some f ≡ t
pin_same f fills NotFinished t q e = only_same _ (Some f) t e
pin_same f fills AlreadyPinned t q e = only_same _ (Some f) t e
pin_same f fills (NoFramesOf h) t q e = only_same _ (Some f) t e
pin_same f fills HandlerFailed t q e = only_same _ (Some f) t e
pin_same f fills (OkRuns runs) t q e = absurd cc
pin_same f fills reply t q e = absurd cc

-- a handler that fails
failed_same : (s t : HandlerState) (m : ℕ) → failed_step s m ≡ Some t → settled (HandlerIn s) ≡ settled (HandlerIn t)
failed_same s t m e = ap (λ x. settled (HandlerIn x)) (only_same (nat_lt s.failures m) (record s { failures = m }) t e)

chosen : {S : Type 0} (b : Bool) (o : Option S) (t : S) → (if b then o else None) ≡ Some t → o ≡ Some t
chosen true o t e = e
chosen false o t e = absurd cc

preserve_same : (s t : HandlerState) (f : FileNo) (frame : Option Pfn) (reply : Reply) → IsTrue (is_quiet (HandlerPreserve f frame) reply) → preserve_step s frame reply ≡ Some t → settled (HandlerIn s) ≡ settled (HandlerIn t)
preserve_same s t f frame NoFrames q e = ap (λ x. settled (HandlerIn x)) (only_same _ s t e)
preserve_same s t f frame (Failed m) q e = failed_same s t m (chosen (brings_frame s.outgoing frame) (failed_step s m) t e)
preserve_same s t f frame (OkHandle handle bound) q e = absurd cc
preserve_same s t f frame reply q e = absurd cc

ask_same : (s t : HandlerState) (side : Side) (reply : Reply) → ask_step s side reply ≡ Some t → settled (HandlerIn s) ≡ settled (HandlerIn t)
ask_same s t side Ok e = ap (λ x. settled (HandlerIn x)) (only_same _ s t e)
ask_same s t side (Failed m) e = failed_same s t m (chosen (nat_lt 0 side.files) (failed_step s m) t e)
ask_same s t side reply e = absurd cc

-- each event that is quiet
find_quiet : (name : List ℕ) (reply : Reply) (s t : State) → step s (RegFindOut name) reply ≡ Some t → settled s ≡ settled t
find_quiet name reply (RegistryIn s) t e =
    let c : (x : RegistryState) × (find_step s (finmap.get s.outgoing name) reply ≡ Some x) × (RegistryIn x ≡ t) = came RegistryIn _ t e in
    ap (λ x. settled (RegistryIn x)) (find_same s c.0 (finmap.get s.outgoing name) reply c.1) ∙ ap settled c.2
find_quiet name reply Nothing t e = absurd (not_some t e)
find_quiet name reply (PoolIn s) t e = absurd (not_some t e)
find_quiet name reply (HandlerIn s) t e = absurd (not_some t e)
find_quiet name reply (SessionIn Free) t e = absurd (not_some t e)
find_quiet name reply (SessionIn (Out a b)) t e = absurd (not_some t e)
find_quiet name reply (SessionIn (In a b c)) t e = absurd (not_some t e)
find_quiet name reply (FileIn None) t e = absurd (not_some t e)
find_quiet name reply (FileIn (Some f)) t e = absurd (not_some t e)

add_quiet : (name : List ℕ) (k : Token) (f : FileNo) (h : ℕ) (reply : Reply) (s t : State) → is_ok reply ≡ false → step s (SessionAdd name k f h) reply ≡ Some t → settled s ≡ settled t
add_quiet name k f h reply (SessionIn s) t r e =
    let c : (x : SessionState) × (session_step s (SessionAdd name k f h) reply ≡ Some x) × (SessionIn x ≡ t) = came SessionIn _ t e in
    ap (λ x. settled (SessionIn x)) (added s c.0 c.1) ∙ ap settled c.2
  where
    added : (s x : SessionState) → session_step s (SessionAdd name k f h) reply ≡ Some x → s ≡ x
    added Free x e = add_same Free x name k.0 (record { file = f.0; handle = h; taken = false }) reply r e
    added (Out own files) x e = add_same (Out own files) x name k.0 (record { file = f.0; handle = h; taken = false }) reply r e
    added (In own opened files) x e = add_same (In own opened files) x name k.0 (record { file = f.0; handle = h; taken = false }) reply r e
add_quiet name k f h reply Nothing t r e = absurd (not_some t e)
add_quiet name k f h reply (PoolIn s) t r e = absurd (not_some t e)
add_quiet name k f h reply (HandlerIn s) t r e = absurd (not_some t e)
add_quiet name k f h reply (RegistryIn s) t r e = absurd (not_some t e)
add_quiet name k f h reply (FileIn None) t r e = absurd (not_some t e)
add_quiet name k f h reply (FileIn (Some g)) t r e = absurd (not_some t e)

pin_quiet : (fills : List Pfn) (reply : Reply) (s t : State) → IsTrue (is_quiet (FilePin fills) reply) → step s (FilePin fills) reply ≡ Some t → settled s ≡ settled t
pin_quiet fills reply (FileIn (Some f)) t q e =
    let c : (x : Option FileState) × (pin_step f fills reply ≡ Some x) × (FileIn x ≡ t) = came FileIn _ t e in
    ap (λ x. settled (FileIn x)) (pin_same f fills reply c.0 q c.1) ∙ ap settled c.2
pin_quiet fills reply (FileIn None) t q e = absurd (not_some t e)
pin_quiet fills reply (SessionIn Free) t q e = absurd (not_some t e)
pin_quiet fills reply (SessionIn (Out a b)) t q e = absurd (not_some t e)
pin_quiet fills reply (SessionIn (In a b c)) t q e = absurd (not_some t e)
pin_quiet fills reply Nothing t q e = absurd (not_some t e)
pin_quiet fills reply (PoolIn s) t q e = absurd (not_some t e)
pin_quiet fills reply (HandlerIn s) t q e = absurd (not_some t e)
pin_quiet fills reply (RegistryIn s) t q e = absurd (not_some t e)

handler_quiet : (event : Event) (reply : Reply) (s t : State) → ((x y : HandlerState) → handler_step x event reply ≡ Some y → settled (HandlerIn x) ≡ settled (HandlerIn y))
    → ((o : State) → is_handler o ≡ false → step o event reply ≡ None) → step s event reply ≡ Some t → settled s ≡ settled t
handler_quiet event reply (HandlerIn s) t own other e =
    let c : (x : HandlerState) × (handler_step s event reply ≡ Some x) × (HandlerIn x ≡ t) = came HandlerIn _ t e in
    own s c.0 c.1 ∙ ap settled c.2
handler_quiet event reply Nothing t own other e = absurd (not_some t (sym (other Nothing refl) ∙ e))
handler_quiet event reply (PoolIn s) t own other e = absurd (not_some t (sym (other (PoolIn s) refl) ∙ e))
handler_quiet event reply (RegistryIn s) t own other e = absurd (not_some t (sym (other (RegistryIn s) refl) ∙ e))
handler_quiet event reply (SessionIn s) t own other e = absurd (not_some t (sym (other (SessionIn s) refl) ∙ e))
handler_quiet event reply (FileIn s) t own other e = absurd (not_some t (sym (other (FileIn s) refl) ∙ e))

preserve_other : (f : FileNo) (p : Option Pfn) (reply : Reply) (o : State) → is_handler o ≡ false → step o (HandlerPreserve f p) reply ≡ None
preserve_other f p reply Nothing h = refl
preserve_other f p reply (PoolIn s) h = refl
preserve_other f p reply (RegistryIn s) h = refl
preserve_other f p reply (HandlerIn s) h = absurd cc
preserve_other f p reply (SessionIn Free) h = refl
preserve_other f p reply (SessionIn (Out a b)) h = refl
preserve_other f p reply (SessionIn (In a b c)) h = refl
preserve_other f p reply (FileIn None) h = refl
preserve_other f p reply (FileIn (Some g)) h = refl

freeze_other : (f : FileNo) (n : ℕ) (reply : Reply) (o : State) → is_handler o ≡ false → step o (HandlerFreeze f n) reply ≡ None
freeze_other f n reply Nothing h = refl
freeze_other f n reply (PoolIn s) h = refl
freeze_other f n reply (RegistryIn s) h = refl
freeze_other f n reply (HandlerIn s) h = absurd cc
freeze_other f n reply (SessionIn Free) h = refl
freeze_other f n reply (SessionIn (Out a b)) h = refl
freeze_other f n reply (SessionIn (In a b c)) h = refl
freeze_other f n reply (FileIn None) h = refl
freeze_other f n reply (FileIn (Some g)) h = refl

unfreeze_other : (f : FileNo) (n : ℕ) (reply : Reply) (o : State) → is_handler o ≡ false → step o (HandlerUnfreeze f n) reply ≡ None
unfreeze_other f n reply Nothing h = refl
unfreeze_other f n reply (PoolIn s) h = refl
unfreeze_other f n reply (RegistryIn s) h = refl
unfreeze_other f n reply (HandlerIn s) h = absurd cc
unfreeze_other f n reply (SessionIn Free) h = refl
unfreeze_other f n reply (SessionIn (Out a b)) h = refl
unfreeze_other f n reply (SessionIn (In a b c)) h = refl
unfreeze_other f n reply (FileIn None) h = refl
unfreeze_other f n reply (FileIn (Some g)) h = refl

unfreeze_same : (f : FileNo) (n : ℕ) (reply : Reply) (s t : HandlerState) → handler_step s (HandlerUnfreeze f n) reply ≡ Some t → settled (HandlerIn s) ≡ settled (HandlerIn t)
unfreeze_same f n Ok s t e = ap (λ x. settled (HandlerIn x)) (only_same _ s t e)
unfreeze_same f n reply s t e = absurd cc

-- a take that is refused
take_quiet : (o : Order) (count : ℕ) (s t : State) → step s (PoolTake o count) NoFrames ≡ Some t → settled s ≡ settled t
take_quiet o count (PoolIn s) t e =
    let c : (x : PoolState) × (pool_step s (PoolTake o count) NoFrames ≡ Some x) × (PoolIn x ≡ t) = came PoolIn _ t e in
    ap (λ x. settled (PoolIn x)) (only_same _ s c.0 c.1) ∙ ap settled c.2
take_quiet o count Nothing t e = absurd (not_some t e)
take_quiet o count (RegistryIn s) t e = absurd (not_some t e)
take_quiet o count (HandlerIn s) t e = absurd (not_some t e)
take_quiet o count (SessionIn Free) t e = absurd (not_some t e)
take_quiet o count (SessionIn (Out a b)) t e = absurd (not_some t e)
take_quiet o count (SessionIn (In a b c)) t e = absurd (not_some t e)
take_quiet o count (FileIn None) t e = absurd (not_some t e)
take_quiet o count (FileIn (Some g)) t e = absurd (not_some t e)

refused_add : (name : List ℕ) (k : Token) (f : FileNo) (h : ℕ) (reply : Reply) → IsTrue (is_quiet (SessionAdd name k f h) reply) → is_ok reply ≡ false
refused_add name k f h Ok q = absurd cc
refused_add name k f h reply q = refl

pub quiet_is_quiet : QuietIsQuiet
quiet_is_quiet (PoolTake o count) NoFrames q s t e = take_quiet o count s t e
quiet_is_quiet (RegFindOut name) reply q s t e = find_quiet name reply s t e
quiet_is_quiet (SessionAdd name k f h) reply q s t e = add_quiet name k f h reply s t (refused_add name k f h reply q) e
quiet_is_quiet (FilePin fills) reply q s t e = pin_quiet fills reply s t q e
quiet_is_quiet (HandlerPreserve f p) reply q s t e =
    handler_quiet (HandlerPreserve f p) reply s t (λ x y h. preserve_same x y f p reply q h) (preserve_other f p reply) e
quiet_is_quiet (HandlerFreeze f n) reply q s t e =
    handler_quiet (HandlerFreeze f n) reply s t (λ x y h. ask_same x y x.outgoing reply h) (freeze_other f n reply) e
quiet_is_quiet (HandlerUnfreeze f n) reply q s t e =
    handler_quiet (HandlerUnfreeze f n) reply s t (λ x y h. unfreeze_same f n reply x y h) (unfreeze_other f n reply) e
quiet_is_quiet event reply q s t e = absurd cc

-- the acts of a refused preserve and of a refused kexec

abbrev Leaves : Sequence → Type 0
Leaves s = is_ok s.reply ≡ false → (changing s.acts ≡ []) ⊎ IsTakenBack (changing s.acts)

given : (x s : Sequence) → Some x ≡ Some s → Leaves x → Leaves s
given x s e h = subst Leaves (same_value x s e) h

not_chosen : {S : Type 0} (b : Bool) (o : Option S) (t : S) → (if b then None else o) ≡ Some t → o ≡ Some t
not_chosen false o t e = e
not_chosen true o t e = absurd cc

module _ (name : List ℕ) (k : Token) (f : FileNo) where
  not_admitted : (n : SlotNo) (x : Reply) (s : Sequence) → preserve_acts name k f (NotAdmitted n x) ≡ Some s → Leaves s
  not_admitted n NoSession s e = given _ s e (λ h. inl refl)
  not_admitted n SessionFull s e = given _ s e (λ h. inl refl)
  not_admitted n TokenTaken s e = given _ s e (λ h. inl refl)
  not_admitted n x s e = absurd (not_some s e)

  not_pinned : (n : SlotNo) (x : Reply) (s : Sequence) → preserve_acts name k f (NotPinned n x) ≡ Some s → Leaves s
  not_pinned n NotFinished s e = given _ s e (λ h. inl refl)
  not_pinned n AlreadyPinned s e = given _ s e (λ h. inl refl)
  not_pinned n x s e = absurd (not_some s e)

  leaves_preserve : (x : PreserveOutcome) (s : Sequence) → preserve_acts name k f x ≡ Some s → Leaves s
  leaves_preserve NoName s e = given _ s e (λ h. inl refl)
  leaves_preserve (NotAdmitted n x) s e = not_admitted n x s e
  leaves_preserve (NotPinned n x) s e = not_pinned n x s e
  leaves_preserve (HolesStarved n o h) s e = given _ s (chosen (fits_file o h) _ s e) (λ r. inl refl)
  leaves_preserve (Pinned n o fills runs) s e = given _ s (chosen (no_or_fits o fills) _ s e) (λ r. absurd cc)
  leaves_preserve (DeviceStarved n d) s e = given _ s (chosen (is_device d) _ s e) (λ r. inl refl)
  leaves_preserve (DeviceFailed n d None m) s e = given _ s (chosen (is_device d) _ s e) (λ r. inl refl)
  leaves_preserve (DeviceFailed n d (Some p) m) s e =
      given _ s (chosen (is_device d) _ s e)
      (λ r. inr (record { order = single; count = 1; runs = p ∷ []; take = _; give = _; both = refl; taken = (refl, refl); given = (refl, refl) }))
  leaves_preserve (DevicePinned n d p handle bound r) s e = given _ s (chosen (is_device d) _ s e) (λ r. absurd cc)

  leaves_on : (o : Option FileNo) (same : (g : FileNo) → o ≡ Some g → (x : PreserveOutcome) (s : Sequence) → preserve_acts name k g x ≡ Some s → Leaves s) (x : Outcome) (s : Sequence) → on_label o (preserved name k) x ≡ Some s → Leaves s
  leaves_on None same NoFile s e = given _ s e (λ h. inl refl)
  leaves_on None same x s e = absurd (not_some s e)
  leaves_on (Some g) same (PreserveCame x) s e = same g refl x s e
  leaves_on (Some g) same x s e = absurd (not_some s e)

-- freezing and unfreezing is quiet
freezes_quiet : (ds : List Preserved) (acts : List Act) → changing (map (freeze_act Ok) ds ++ acts) ≡ changing acts
freezes_quiet [] acts = refl
freezes_quiet (d ∷ ds) acts = freezes_quiet ds acts

unfreezes_quiet : (ds : List Preserved) (acts : List Act) → changing (map unfreeze_act ds ++ acts) ≡ changing acts
unfreezes_quiet [] acts = refl
unfreezes_quiet (d ∷ ds) acts = unfreezes_quiet ds acts

not_frozen : (need : ℕ) (before : List Preserved) (runs : List Pfn) (m : ℕ) (o : Option Preserved) (s : Sequence) → not_frozen_acts need before runs m o ≡ Some s → Leaves s
not_frozen need before runs m None s e = absurd (not_some s e)
not_frozen need before runs m (Some d) s e =
    let took : Act = pool [] (PoolTake single need) (Got runs) in
    let gave : Act = pool [] (PoolGive single runs) Ok in
    let back : List Act = map unfreeze_act (reverse before) ++ gave ∷ [] in
    given _ s e
    (λ r. inr (record {
      order = single;
      count = need;
      runs = runs;
      take = took;
      give = gave;
      both = ap (λ acts. took ∷ acts) (freezes_quiet before (freeze_act (Failed m) d ∷ back) ∙ unfreezes_quiet (reverse before) (gave ∷ []));
      taken = (refl, refl);
      given = (refl, refl);
    }))

leaves_fitting : (need : ℕ) (asked : List Preserved) (x : KexecOutcome) (s : Sequence) → fitting_acts need asked x ≡ Some s → Leaves s
leaves_fitting need asked TooSmall s e = absurd (not_some s e)
leaves_fitting need asked NoRoom s e = given _ s e (λ h. inl refl)
leaves_fitting need asked (NotFrozen runs n m) s e = not_frozen need (take n asked) runs m (slice_get asked n) s e
leaves_fitting need asked (KernelEnds runs) s e = given _ s e (λ r. absurd cc)

leaves_kexec : (w : World) (blob : Blob) (x : KexecOutcome) (s : Sequence) → kexec_acts w blob x ≡ Some s → Leaves s
leaves_kexec w blob TooSmall s e = given _ s (chosen _ _ s e) (λ h. inl refl)
leaves_kexec w blob NoRoom s e = leaves_fitting (need (frozen w)) (preserved_devices w) NoRoom s (not_chosen _ _ s e)
leaves_kexec w blob (NotFrozen runs n m) s e = leaves_fitting (need (frozen w)) (preserved_devices w) (NotFrozen runs n m) s (not_chosen _ _ s e)
leaves_kexec w blob (KernelEnds runs) s e = leaves_fitting (need (frozen w)) (preserved_devices w) (KernelEnds runs) s (not_chosen _ _ s e)

pub refused_changes_nothing : RefusedChangesNothing
refused_changes_nothing labels w task outcome s (ByCommand name k label) e =
    leaves_on name k (record { 0 = 0 }) (finmap.get labels label) (λ g h x. leaves_preserve name k g x) outcome s e
refused_changes_nothing labels w task (KexecCame x) s (ByKexec blob) e = leaves_kexec w blob x s e
refused_changes_nothing labels w task outcome s (ByKexec blob) e = absurd (not_some s e)
