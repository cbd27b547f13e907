-- What a sound world gives for a kexec.
use Rattle.std.specs.Prelude.{◌≡◌, ◌⊎◌, ℕ, ◌*◌, ◌^◌, ◌≤◌, false, List, [], ◌∷◌, map, length, None, Some}
use Rattle.std.specs.Ordering.{nat_cmp}
use Rattle.std.specs.Cmp.Lexicographic.{slice_cmp}
use Rattle.std.specs.FinMap as finmap
use Rattle.std.specs.List.{AllByRecursion, IsDistinct}
use Rattle.std.proofs.Common.{Ordering, Less}
use Rattle.ho_base.specs.declared.limits.TheConstants.{OUT_SLOTS, FILES, FILE_BYTES, MAX_ORDER, PAGE_BYTES, SESSION_FILES}
use Rattle.ho_base.specs.declared.numbers.Blob.{Blob}
use Rattle.ho_base.specs.declared.numbers.Kind.TheVariants.{Memfd}
use Rattle.ho_events.specs.Lists.{pieces, same_bytes}
use Rattle.ho_world.specs.Acts.{Sequence}
use Rattle.ho_world.specs.Entries.{is_ok}
use Rattle.ho_world.specs.Frozen.{CarriedFile, CarriedSession, Frozen, carried_files, carried_sessions, frozen, next, next_pool, preserved_devices}
use Rattle.ho_world.specs.Sequences.{Labels}
use Rattle.ho_world.specs.Sequences.Kexecs.{KexecOutcome, kexec_acts}
use Rattle.ho_world.specs.World.{State, World, pool_at, file_at}
use Rattle.balance_laws.specs.Acted.{Acted}
use Rattle.balance_laws.specs.Keeps.{no_labels}
use Rattle.balance_laws.specs.OneEach.{Place}
use Rattle.balance_laws.specs.Sound.{Sound, RunsFit, run_in}

-- each item is below all that follow it
abbrev pub Rise : {K : Type 0} → (K → K → Ordering) → List K → Type 0
Rise R [] = Unit {0}
Rise R (x ∷ xs) = AllByRecursion (λ y. R x y ≡ Less) xs × Rise R xs

-- a carried file is a memfd within the limits, and has as many runs as hold its size
pub record CarriedFits (c : CarriedFile) : Type 0 where
  pub kind : c.kind ≡ Memfd
  pub order : c.order ≤ MAX_ORDER
  pub size : length c.bytes ≤ FILE_BYTES
  pub position : c.position ≤ length c.bytes
  pub handle : c.handle ≡ 0
  pub runs : length c.runs ≡ pieces (length c.bytes) (PAGE_BYTES * 2 ^ c.order)

-- a refused kexec keeps a world sound
abbrev pub RefusedKexecKeeps : Type 0
RefusedKexecKeeps =
    (labels : ℕ → Labels) (begun : ℕ → State) (w v : World) (blob : Blob) (outcome : KexecOutcome) (s : Sequence) → Sound w labels → kexec_acts w blob outcome ≡ Some s → is_ok s.reply ≡ false
    → Acted begun w s.acts v → Sound v labels

-- no handler is asked in a sound world
abbrev pub NoDevices : Type 0
NoDevices = (labels : ℕ → Labels) (w : World) → Sound w labels → preserved_devices w ≡ []

-- a number stands in a list;  no number stands twice
abbrev pub In : ℕ → List ℕ → Type 0
In q [] = ⊥
In q (x ∷ xs) = (q ≡ x) ⊎ In q xs

abbrev pub Distinct : List ℕ → Type 0
Distinct [] = Unit {0}
Distinct (x ∷ xs) = AllByRecursion (λ y. y ≡ x → ⊥) xs × Distinct xs

-- a file's runs are different ones, and no other carried file has one of them
abbrev pub NoneShared : List CarriedFile → Type 0
NoneShared [] = Unit {0}
NoneShared (c ∷ cs) = Distinct c.runs × AllByRecursion (λ (d : CarriedFile). (p : ℕ) → In p c.runs → In p d.runs → ⊥) cs × NoneShared cs

-- What a kexec of a world carries: at most 16 sessions under rising names, at most 31 files in each under rising tokens and
-- 256 in all; each file fits, its runs are owned at its order, and no run is of two files or twice of one. Owned runs fit and
-- share no frame, and each is of a file.
pub record CanCarry (w : World) : Type 0 where
  pub sessions : length (carried_sessions w) ≤ OUT_SLOTS
  pub names : Rise (slice_cmp nat_cmp) (map (λ (s : CarriedSession). s.name) (carried_sessions w))
  pub few : AllByRecursion (λ (s : CarriedSession). length s.files ≤ SESSION_FILES) (carried_sessions w)
  pub tokens : AllByRecursion (λ (s : CarriedSession). Rise nat_cmp (map (λ (c : CarriedFile). c.token) s.files)) (carried_sessions w)
  pub files : length (carried_files (frozen w)) ≤ FILES
  pub fit : AllByRecursion CarriedFits (carried_files (frozen w))
  pub owned : AllByRecursion (λ (c : CarriedFile). AllByRecursion (λ p. finmap.get (pool_at w).owned p ≡ Some c.order) c.runs) (carried_files (frozen w))
  pub apart : NoneShared (carried_files (frozen w))
  pub runs : RunsFit (pool_at w)
  pub of_files : (p o : ℕ) → finmap.get (pool_at w).owned p ≡ Some o → Place (λ f i. run_in (file_at w f) i) (p, o)

-- a sound world can be carried
abbrev pub SoundCanCarry : Type 0
SoundCanCarry = (labels : ℕ → Labels) (w : World) → Sound w labels → CanCarry w

-- What a carried state has for a sound world to begin with it: at most 16 sessions, no two of the same name, at most 31 files
-- in each under rising tokens and 256 in all; each file fits, and no run is of two files or twice of one; there is no bound
-- record. The runs that the next pool owns fit and share no frame.
pub record CanFollow (f : Frozen) : Type 0 where
  pub sessions : length f.sessions ≤ OUT_SLOTS
  pub names : IsDistinct same_bytes (map (λ (s : CarriedSession). s.name) f.sessions)
  pub few : AllByRecursion (λ (s : CarriedSession). length s.files ≤ SESSION_FILES) f.sessions
  pub tokens : AllByRecursion (λ (s : CarriedSession). Rise nat_cmp (map (λ (c : CarriedFile). c.token) s.files)) f.sessions
  pub files : length (carried_files f) ≤ FILES
  pub fit : AllByRecursion CarriedFits (carried_files f)
  pub apart : NoneShared (carried_files f)
  pub bounds : AllByRecursion (λ b. b ≡ None) f.bounds
  pub runs : RunsFit (next_pool f)

-- a world that begins with such a state is sound, without a label
abbrev pub FollowingIsSound : Type 0
FollowingIsSound = (f : Frozen) → CanFollow f → Sound (next f) no_labels

-- the world in which the next kernel begins is sound, without a label
abbrev pub NextIsSound : Type 0
NextIsSound = (labels : ℕ → Labels) (w : World) → Sound w labels → Sound (next (frozen w)) no_labels
