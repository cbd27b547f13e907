-- What is known of all files of a kernel.
use Rattle.std.proofs.Common.{◌≡◌, ℕ, ◌+◌, ◌<◌, Bool, true, false, List, [], ◌∷◌, ◌++◌, map, refl, ap, sym, ◌∙◌, subst, arith, inl, inr, zero, suc, cond}
use Rattle.std.specs.Prelude.{Option, None, Some, MatchOption, ◌⊎◌, nat_lt}
use Rattle.std.specs.FinMap as finmap
use Rattle.std.specs.List.{All, flat_map}
use Rattle.std.proofs.lemmas.Bool.Decides.{nat_tests}
use Rattle.std.proofs.lemmas.Grind.{flat_map-append}
use Rattle.std.proofs.lemmas.List.Elements.{All-head, All-tail, All-map}
use Rattle.ho_base.specs.Objects.{file_no, session_no}
use Rattle.ho_base.specs.declared.limits.TheConstants.{FILES, OUT_SLOTS}
use Rattle.ho_events.specs.Contents.{Reference, reference_of, OfFiles, session_content}
use Rattle.ho_events.specs.File.{FileState, is_device}
use Rattle.ho_events.specs.History.{session_from}
use Rattle.ho_events.specs.Lists.{upto}
use Rattle.ho_events.specs.Session.{SessionState, Listed, Free, Out, In, files_of}
use Rattle.ho_world.specs.Frozen.{Preserved, preserved_as, preserved_in, preserved_devices}
use Rattle.ho_world.specs.World.{World, file_at, session_at}
use Rattle.memfd_file.specs.Files.{IsMemfdFile}
use Rattle.memfd_file.specs.FileValues.{FileValue, FileIs}
use Rattle.session_core.specs.SessionShown.{reference, AreFiles}
use Rattle.session_core.specs.SessionValues.{SessionValue}
use Rattle.machine_core.specs.declared.object.Object as object
use Rattle.machine_core.specs.declared.object.Object.TheVariants.{Session, File}
use Rattle.machine_core.specs.Kernels.{object_at}
use Rattle.machine_core.specs.Worlds.{states_in}
use Rattle.kernel_carried.specs.Gathered.{Agrees, AreMemfds, IsMemfdIn, ListFiles, listed_in}
use Rattle.kernel_carried.proofs.Carried.{listed_is}
use Rattle.kernel_carried.proofs.States.{file_stands, file_there}

below : (n k : ℕ) → n < k + 1 → (n < k) ⊎ (n ≡ k)
below n k h = go (nat_lt n k) refl
  where
    go : (b : Bool) → nat_lt n k ≡ b → (n < k) ⊎ (n ≡ k)
    go true e = inl (grind (arith, nat_tests))
    go false e = inr (grind (arith, nat_tests))

-- a fact of all numbers below one, and of one more
pub one_below : (P : ℕ → Type 0) (k : ℕ) → ((n : ℕ) → n < k → P n) → P k → (n : ℕ) → n < k + 1 → P n
one_below P k h x n lt = go (below n k lt)
  where
    go : (n < k) ⊎ (n ≡ k) → P n
    go (inl low) = h n low
    go (inr is) = subst P (sym is) x

pub none_below : (P : ℕ → Type 0) (n : ℕ) → n < 0 → P n
none_below P n lt = absurd (omega (arith, lt))

-- ---- memfds

pub memfd_in : (objects : List (Option object.Object)) (n : ℕ) (v : FileValue) → object_at objects (file_no n) ≡ Some (File v) → FileIs v (λ s. MatchOption s (Unit {0}) IsMemfdFile) → IsMemfdIn (states_in objects (file_no n))
memfd_in objects n v at h =
    let st = file_stands objects (file_no n) v (λ s. MatchOption s (Unit {0}) IsMemfdFile) at h in
    record { state = st.state; is = st.is; memfd = st.holds }

-- ---- slots

pub lists_files : (objects : List (Option object.Object)) (w : World) (slot : ℕ) (v : SessionValue) (files : List _) → Agrees w objects → object_at objects (session_no slot) ≡ Some (Session v) → session_content (session_from v.start v.history) ≡ OfFiles (map reference files) → AreFiles files → All (λ (r : Reference). r.file < FILES) (listed_in w slot)
lists_files objects w slot v files agrees at content are =
    subst (All (λ (r : Reference). r.file < FILES)) (sym (listed_is objects w slot v (map reference files) agrees at content)) (All-map (λ (r : Reference). r.file < FILES) reference files are)

-- ---- device files

device_none : (name : List ℕ) (e : ℕ × Listed) (s : Option FileState) → MatchOption s (Unit {0}) IsMemfdFile → preserved_as name e s ≡ []
device_none name e None h = refl
device_none name e (Some f) h = ap (λ k. cond (is_device k) (record { name = name; token = e.0; kind = f.kind; file = e.1.file; handle = e.1.handle } ∷ []) []) h.kind

module _ (w : World) (objects : List (Option object.Object)) (memfds : AreMemfds objects) (agrees : Agrees w objects) where
  each_none : (name : List ℕ) (es : List (ℕ × Listed)) → All (λ (r : Reference). r.file < FILES) (map reference_of es) → flat_map (λ e. preserved_as name e (file_at w e.1.file)) es ≡ []
  each_none name [] h = refl
  each_none name (e ∷ es) h =
      let lt : e.1.file < FILES = All-head (λ (r : Reference). r.file < FILES) (reference_of e) (map reference_of es) h in
      let m = memfds e.1.file lt in
      let at : file_at w e.1.file ≡ m.state = file_there w objects e.1.file m.state agrees m.is in
      ap (λ (xs : List Preserved). xs ++ flat_map (λ e. preserved_as name e (file_at w e.1.file)) es) (ap (preserved_as name e) at ∙ device_none name e m.state m.memfd)
      ∙ each_none name es (All-tail (λ (r : Reference). r.file < FILES) (reference_of e) (map reference_of es) h)

  slot_none : (s : SessionState) → All (λ (r : Reference). r.file < FILES) (map reference_of (finmap.entries (files_of s))) → preserved_in w s ≡ []
  slot_none Free h = refl
  slot_none (Out name files) h = each_none name (finmap.entries files) h
  slot_none (In name opened files) h = refl

  slots_none : (n : ℕ) → ((s : ℕ) → s < n → preserved_in w (session_at w s) ≡ []) → flat_map (λ s. preserved_in w (session_at w s)) (upto n) ≡ []
  unfolding upto
  slots_none zero h = refl
  slots_none (suc n) h =
      flat_map-append (λ s. preserved_in w (session_at w s)) (upto n) (n ∷ [])
      ∙ ap (λ (xs : List Preserved). xs ++ (preserved_in w (session_at w n) ++ [])) (slots_none n (λ s lt. h s (omega (arith, lt))))
      ∙ ap (λ (xs : List Preserved). xs ++ []) (h n (omega arith))

  pub no_devices : ListFiles w OUT_SLOTS → preserved_devices w ≡ []
  no_devices listed = slots_none OUT_SLOTS (λ s lt. slot_none (session_at w s) (listed s lt))
