-- Files and sessions, as they are carried.
use Rattle.std.proofs.Common.{◌≡◌, ℕ, ◌+◌, ◌<◌, List, [], ◌∷◌, ◌++◌, length, map, take, get_or, ap, sym, ◌∙◌, subst, arith}
use Rattle.std.specs.Prelude.{Option, None, Some, MatchOption, min, IsTrue}
use Rattle.std.specs.FinMap as finmap
use Rattle.std.specs.List.{All}
use Rattle.std.proofs.lemmas.List.{take_more, map-append, length-map, get_or-map}
use Rattle.ho_base.specs.declared.limits.TheConstants.{OUT_SLOTS, IN_SLOTS}
use Rattle.ho_base.specs.NameRule.{is_name}
use Rattle.ho_base.specs.Objects.{file_no, session_no, registry_no}
use Rattle.ho_events.specs.Contents.{Reference, reference_of, OfFiles, session_content}
use Rattle.ho_events.specs.History.{session_from}
use Rattle.ho_events.specs.Session.{SessionState, files_of}
use Rattle.ho_world.specs.Frozen.{MOST_UPDATES}
use Rattle.ho_world.specs.World.{World, FileIn, file_at}
use Rattle.memfd_file.specs.FileValues.{FileValue, FileIs}
use Rattle.registry_core.specs.RegistryValues.{RegistryValue, RegistryIs}
use Rattle.session_core.specs.SessionValues.{SessionValue, SessionIs}
use Rattle.machine_core.specs.declared.object.Object as object
use Rattle.machine_core.specs.declared.object.Object.TheVariants.{Registry, Session, File}
use Rattle.machine_core.specs.Kernels.{KernelValue, object_at}
use Rattle.record_frames.specs.declared.carried.Carried.{Carried}
use Rattle.record_frames.specs.declared.carried.CarriedFile.{CarriedFile}
use Rattle.record_frames.specs.declared.carried.CarriedSession.{CarriedSession}
use Rattle.kernel_carried.specs.Gathered.{Agrees, IsCarriedAs, IsFileOf, AreFilesOf, IsSessionOf, AreSessionsOf, HaveSlots, IsGathered, listed_in}
use Rattle.kernel_carried.proofs.States.{file_stands, session_stands, registry_stands, file_there, session_there, registry_there}

-- ---- the files of a session

pub no_files : (objects : List (Option object.Object)) (w : World) (rs : List Reference) (cs : List CarriedFile) → rs ≡ [] → cs ≡ [] → AreFilesOf objects w rs cs
unfolding AreFilesOf
no_files objects w rs cs r c = subst (λ x. AreFilesOf objects w x cs) (sym r) (subst (λ x. AreFilesOf objects w [] x) (sym c) tt)

files_push : (objects : List (Option object.Object)) (w : World) (rs : List Reference) (cs : List CarriedFile) (r : Reference) (c : CarriedFile) → AreFilesOf objects w rs cs → IsFileOf objects w r c → AreFilesOf objects w (rs ++ r ∷ []) (cs ++ c ∷ [])
unfolding AreFilesOf
files_push objects w [] [] r c h k = (k, tt)
files_push objects w [] (d ∷ cs) r c h k = absurd h
files_push objects w (q ∷ rs) [] r c h k = absurd h
files_push objects w (q ∷ rs) (d ∷ cs) r c h k = (h.0, files_push objects w rs cs r c h.1 k)

pub file_of : (objects : List (Option object.Object)) (w : World) (r : Reference) (c : CarriedFile) (v : FileValue) → Agrees w objects → object_at objects (file_no r.file) ≡ Some (File v) → FileIs v (λ s. IsCarriedAs r.token s c) → IsFileOf objects w r c
file_of objects w r c v agrees at h =
    let st = file_stands objects (file_no r.file) v (λ s. IsCarriedAs r.token s c) at h in
    let there : file_at w r.file ≡ st.state = file_there w objects r.file st.state agrees st.is in
    record {
      there = st.is ∙ ap (λ s. Some (FileIn s)) (sym there);
      carried = subst (λ s. IsCarriedAs r.token s c) (sym there) st.holds;
    }

-- one file more
pub one_file : {A : Type 0} → (ref : A → Reference) (objects : List (Option object.Object)) (w : World) (xs : List A) (n : ℕ) (d : A) (cs cs' : List CarriedFile) (c : CarriedFile) → n < length xs → AreFilesOf objects w (map ref (take n xs)) cs → IsFileOf objects w (ref (get_or xs n d)) c → cs' ≡ cs ++ c ∷ [] → AreFilesOf objects w (map ref (take (n + 1) xs)) cs'
one_file ref objects w xs n d cs cs' c lt h k is =
    subst (λ x. AreFilesOf objects w x cs') (sym (ap (map ref) (take_more xs n d lt) ∙ map-append ref (take n xs) (get_or xs n d ∷ [])))
    (subst (λ x. AreFilesOf objects w (map ref (take n xs) ++ ref (get_or xs n d) ∷ []) x) (sym is) (files_push objects w _ cs _ c h k))

-- a session as it is gathered
same_content : (v : SessionValue) (rs : List Reference) → session_content (session_from v.start v.history) ≡ OfFiles rs → SessionIs v (λ s. map reference_of (finmap.entries (files_of s)) ≡ rs)
same_content v rs h = go (session_from v.start v.history) h
  where
    go : (x : Option SessionState) → session_content x ≡ OfFiles rs → MatchOption x ⊥ (λ s. map reference_of (finmap.entries (files_of s)) ≡ rs)
    go None e = absurd cc
    go (Some s) e = cc

pub listed_is : (objects : List (Option object.Object)) (w : World) (slot : ℕ) (v : SessionValue) (rs : List Reference) → Agrees w objects → object_at objects (session_no slot) ≡ Some (Session v) → session_content (session_from v.start v.history) ≡ OfFiles rs → listed_in w slot ≡ rs
listed_is objects w slot v rs agrees at h =
    let st = session_stands objects (session_no slot) v (λ s. map reference_of (finmap.entries (files_of s)) ≡ rs) at (same_content v rs h) in
    ap (λ s. map reference_of (finmap.entries (files_of s))) (session_there w objects slot st.state agrees st.is) ∙ st.holds

-- ---- the sessions

pub no_sessions : (objects : List (Option object.Object)) (w : World) (es : List (List ℕ × ℕ)) (cs : List CarriedSession) → es ≡ [] → cs ≡ [] → AreSessionsOf objects w es cs
unfolding AreSessionsOf
no_sessions objects w es cs r c = subst (λ x. AreSessionsOf objects w x cs) (sym r) (subst (λ x. AreSessionsOf objects w [] x) (sym c) tt)

sessions_push : (objects : List (Option object.Object)) (w : World) (es : List (List ℕ × ℕ)) (cs : List CarriedSession) (e : List ℕ × ℕ) (c : CarriedSession) → AreSessionsOf objects w es cs → IsSessionOf objects w e c → AreSessionsOf objects w (es ++ e ∷ []) (cs ++ c ∷ [])
unfolding AreSessionsOf
sessions_push objects w [] [] e c h k = (k, tt)
sessions_push objects w [] (d ∷ cs) e c h k = absurd h
sessions_push objects w (q ∷ es) [] e c h k = absurd h
sessions_push objects w (q ∷ es) (d ∷ cs) e c h k = (h.0, sessions_push objects w es cs e c h.1 k)

pub one_session : {A : Type 0} → (ref : A → List ℕ × ℕ) (objects : List (Option object.Object)) (w : World) (xs : List A) (n : ℕ) (d : A) (cs cs' : List CarriedSession) (c : CarriedSession) → n < length xs → AreSessionsOf objects w (map ref (take n xs)) cs → IsSessionOf objects w (ref (get_or xs n d)) c → cs' ≡ cs ++ c ∷ [] → AreSessionsOf objects w (map ref (take (n + 1) xs)) cs'
one_session ref objects w xs n d cs cs' c lt h k is =
    subst (λ x. AreSessionsOf objects w x cs') (sym (ap (map ref) (take_more xs n d lt) ∙ map-append ref (take n xs) (get_or xs n d ∷ [])))
    (subst (λ x. AreSessionsOf objects w (map ref (take n xs) ++ ref (get_or xs n d) ∷ []) x) (sym is) (sessions_push objects w _ cs _ c h k))

-- a session with its files
pub session_so : (objects : List (Option object.Object)) (w : World) (e : List ℕ × ℕ) (c : CarriedSession) (v : SessionValue) (rs : List Reference) → Agrees w objects → object_at objects (session_no e.1) ≡ Some (Session v) → session_content (session_from v.start v.history) ≡ OfFiles rs
    → AreFilesOf objects w rs c.files → c.name ≡ e.0 → IsTrue (is_name c.name) → IsSessionOf objects w e c
session_so objects w e c v rs agrees at content files name valid =
    record { name = name; valid = valid; files = subst (λ x. AreFilesOf objects w x c.files) (sym (listed_is objects w e.1 v rs agrees at content)) files }

-- all together
pub gathered : (kernel : KernelValue) (c : Carried) (v : RegistryValue) (es : List (List ℕ × ℕ)) → object_at kernel.objects registry_no ≡ Some (Registry v) → RegistryIs v (λ s. es ≡ finmap.entries s.outgoing) → c.shape ≡ kernel.shape → c.number ≡ min (kernel.updates + 1) MOST_UPDATES → c.bounds ≡ []
    → ((w : World) → Agrees w kernel.objects → AreSessionsOf kernel.objects w es c.sessions) → IsGathered kernel c
gathered kernel c v es at names shape number bounds sessions = record {
  shape = shape;
  number = number;
  bounds = bounds;
  sessions = λ w agrees.
      let st = registry_stands kernel.objects registry_no v (λ s. es ≡ finmap.entries s.outgoing) at names in
      subst (λ x. AreSessionsOf kernel.objects w x c.sessions) (st.holds ∙ sym (ap (λ s. finmap.entries s.outgoing) (registry_there w kernel.objects st.state agrees st.is))) (sessions w agrees);
}

-- the slots of the names that are listed
pub listed_slots : (kernel : KernelValue) (v : RegistryValue) (es : List (List ℕ × ℕ)) → object_at kernel.objects registry_no ≡ Some (Registry v) → RegistryIs v (λ s. es ≡ finmap.entries s.outgoing) → HaveSlots kernel.objects → All (λ e. e.1 < OUT_SLOTS + IN_SLOTS) es
listed_slots kernel v es at names slots =
    let st = registry_stands kernel.objects registry_no v (λ s. es ≡ finmap.entries s.outgoing) at names in
    subst (All (λ (e : List ℕ × ℕ). e.1 < OUT_SLOTS + IN_SLOTS)) (sym st.holds) (slots st.state st.is)

-- the slot of the name at a place
pub slot_at : {A : Type 0} → (ref : A → List ℕ × ℕ) (xs : List A) (n : ℕ) (d : A) → n < length xs → All (λ (e : List ℕ × ℕ). e.1 < OUT_SLOTS + IN_SLOTS) (map ref xs) → (ref (get_or xs n d)).1 < OUT_SLOTS + IN_SLOTS
slot_at ref xs n d lt all =
    subst (λ (e : List ℕ × ℕ). e.1 < OUT_SLOTS + IN_SLOTS) (get_or-map ref xs n d (ref d) lt) (all n (ref d) (omega (arith, lt, length-map xs ref)))
