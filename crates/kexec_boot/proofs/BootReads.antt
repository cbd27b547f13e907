-- What a boot reads.
use Rattle.std.proofs.Common.{◌≡◌, ◌≢◌, ℕ, true, false, List, [], ◌∷◌, map, Result, Ok, Err, refl, sym, ap, ◌∙◌, inr}
use Rattle.std.specs.Prelude.{IsTrue, IfErr, IfOk, ◌&&◌, ◌==◌}
use Rattle.std.specs.List.{list_all, flat_map}
use Rattle.std.proofs.lemmas.Bool.{and_parts, eqb-true, eq-eqb, and_from}
use Rattle.std.proofs.lemmas.List.Folds.{list_all-append}
use Rattle.ho_base.specs.ShapeRule.{Layout}
use Rattle.ho_base.specs.declared.shape.Area.{Area}
use Rattle.ho_world.specs.Frozen.{CarriedFile as FileState, CarriedSession as SessionState}
use Rattle.record_frames.specs.Ram.{Ram}
use Rattle.record_frames.specs.Carries.{Carries}
use Rattle.record_frames.specs.State.{file_in, session_in, state_in}
use Rattle.record_frames.specs.declared.carried.Carried.{Carried}
use Rattle.record_frames.specs.declared.carried.CarriedFile.{CarriedFile}
use Rattle.record_frames.specs.declared.carried.CarriedSession.{CarriedSession}
use Rattle.next_laws.specs.Begins.{is_memfd, are_memfds}
use Rattle.kexec_boot.specs.Checked.{HasDevice, IsMisfit, all_memfds, is_memfd_file, same_area, same_areas, same_shape}
use Rattle.kexec_boot.specs.Images.{IsImageRefusal}
use Rattle.kexec_boot.specs.Refused.{IsUnread}
use Rattle.kexec_boot.specs.declared.reading.BootError.{BootError}
use Rattle.kexec_boot.specs.declared.reading.BootError.TheVariants.{BadImage, Unbuilt, Memory}

-- ---- shapes

area_same : (a b : Area) → same_area a b ≡ true → a ≡ b
area_same a b h =
    let hs = and_parts (a.first.0 == b.first.0) (a.count == b.count) h in
    let first : a.first.0 ≡ b.first.0 = eqb-true a.first.0 b.first.0 hs.0 in
    let count : a.count ≡ b.count = eqb-true a.count b.count hs.1 in
    λ j. record { first = record { 0 = first j }; count = count j }

areas_same : (xs ys : List Area) → same_areas xs ys ≡ true → xs ≡ ys
areas_same [] [] h = refl
areas_same [] (y ∷ ys) h = absurd cc
areas_same (x ∷ xs) [] h = absurd cc
areas_same (x ∷ xs) (y ∷ ys) h =
    let hs = and_parts (same_area x y) (same_areas xs ys) h in
    λ j. area_same x y hs.0 j ∷ areas_same xs ys hs.1 j

shape_same : (a b : Layout) → same_shape a b ≡ true → a ≡ b
shape_same a b h =
    let hs = and_parts (a.frames == b.frames) (same_areas a.scratch b.scratch) h in
    let frames : a.frames ≡ b.frames = eqb-true a.frames b.frames hs.0 in
    let scratch : a.scratch ≡ b.scratch = areas_same a.scratch b.scratch hs.1 in
    λ j. record { frames = frames j; scratch = scratch j }

areas_self : (xs : List Area) → same_areas xs xs ≡ true
areas_self [] = refl
areas_self (x ∷ xs) =
    and_from (same_area x x) (same_areas xs xs) (and_from (x.first.0 == x.first.0) (x.count == x.count) (eq-eqb x.first.0 x.first.0 refl) (eq-eqb x.count x.count refl)) (areas_self xs)

shape_self : (a : Layout) → same_shape a a ≡ true
shape_self a = and_from (a.frames == a.frames) (same_areas a.scratch a.scratch) (eq-eqb a.frames a.frames refl) (areas_self a.scratch)

shape_other : (a b : Layout) → same_shape a b ≡ false → a ≢ b
shape_other a b h same = let no : true ≡ false = sym (shape_self a) ∙ ap (same_shape a) same ∙ h in absurd cc

-- ---- memfds

files_same : (ram : Ram) (fs : List CarriedFile) → list_all (λ (c : FileState). is_memfd c.kind) (map (file_in ram) fs) ≡ list_all is_memfd_file fs
files_same ram [] = refl
files_same ram (f ∷ fs) = ap (λ b. is_memfd f.kind && b) (files_same ram fs)

built_same : (ram : Ram) (ss : List CarriedSession) → list_all (λ (c : FileState). is_memfd c.kind) (flat_map (λ (s : SessionState). s.files) (map (session_in ram) ss)) ≡ all_memfds ss
built_same ram [] = refl
built_same ram (s ∷ ss) =
    list_all-append (λ (c : FileState). is_memfd c.kind) (map (file_in ram) s.files) (flat_map (λ (s : SessionState). s.files) (map (session_in ram) ss))
    ∙ (λ j. files_same ram s.files j && built_same ram ss j)

-- ---- refusals

-- what has a device file isn't memfds alone
devices : (ram : Ram) (c : Carried) → all_memfds c.sessions ≡ false → ¬ (IsTrue (are_memfds (state_in ram c)))
devices ram c has all = absurd (let bad : true ≡ false = sym all ∙ built_same ram c.sessions ∙ has in cc)

misfit : (shape : Layout) (ram : Ram) (entry : ℕ) (c : Carried) (e : BootError) → Carries ram entry (state_in ram c) → IsMisfit c shape e → IsUnread shape ram entry e
misfit shape ram entry c (BadImage p) carries (root, other) = inr (root, record { state = state_in ram c; carries = carries; other = shape_other c.shape shape other })
misfit shape ram entry c Unbuilt carries (same, has) =
    (state_in ram c, carries, shape_same c.shape shape same, devices ram c has)
misfit shape ram entry c Memory carries h = absurd h

pub unread : (shape : Layout) (ram : Ram) (entry : ℕ) (c : Carried) (r : Result Carried BootError) → Carries ram entry (state_in ram c) → IfErr r (IsMisfit c shape) → IfErr r (IsUnread shape ram entry)
unread shape ram entry c (Ok d) carries h = h
unread shape ram entry c (Err e) carries h = misfit shape ram entry c e carries h

-- what has a device file isn't what a kernel of any machine begins with
pub unbuilt : (ram : Ram) (entry : ℕ) (c : Carried) (r : Result Carried BootError) → Carries ram entry (state_in ram c) → IfErr r (HasDevice c) → IfErr r (IsImageRefusal ram entry)
unbuilt ram entry c (Ok d) carries h = h
unbuilt ram entry c (Err (BadImage p)) carries h = absurd h
unbuilt ram entry c (Err Unbuilt) carries h = (state_in ram c, carries, devices ram c h)
unbuilt ram entry c (Err Memory) carries h = absurd h

-- ---- what is taken

pub read_shape : (shape : Layout) (c : Carried) (r : Result Carried BootError) → IfOk r (λ d. d ≡ c) → IfOk r (λ d. same_shape c.shape shape ≡ true) → IfOk r (λ d. d.shape ≡ shape)
read_shape shape c (Ok d) same h = ap (λ (x : Carried). x.shape) same ∙ shape_same c.shape shape h
read_shape shape c (Err e) same h = same

pub read_memfds : (ram : Ram) (c : Carried) (r : Result Carried BootError) → IfOk r (λ d. d ≡ c) → IfOk r (λ d. all_memfds c.sessions ≡ true) → IfOk r (λ d. IsTrue (are_memfds (state_in ram d)))
read_memfds ram c (Ok d) same h = ap (λ (x : Carried). are_memfds (state_in ram x)) same ∙ built_same ram c.sessions ∙ h
read_memfds ram c (Err e) same h = same
