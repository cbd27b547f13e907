-- The places of the entry frame that break a rule.
use Rattle.std.proofs.Common.{◌≡◌, ℕ, true, List, Option, Some, None, Result, Ok, Err, sym, ap, subst, ◌∙◌}
use Rattle.fdt_blob.specs.declared.tree.FdtPlace.{FdtPlace}
use Rattle.fdt_blob.specs.declared.tree.FdtPlace.TheVariants.{Header, Reservations, Structure}
use Rattle.fdt_blob.specs.Trees.{Tree}
use Rattle.fdt_blob.specs.Tokens.{Item}
use Rattle.fdt_blob.specs.Places.{Carries, IsTreeAt}
use Rattle.fdt_blob.specs.Blob.{Spells, BreaksAt}
use Rattle.record_frames.specs.declared.place.ImagePlace.TheVariants.{Root as RootAt, Luo as LuoAt}
use Rattle.record_frames.specs.Ram.{Ram, is_frame}
use Rattle.record_frames.specs.Rules.{version_1, versions}
use Rattle.record_frames.specs.Handover.{Root, Luo, root_of, luo_of}
use Rattle.record_frames.specs.Reading.{◌>>=◌, or_else, BreakAt}
use Rattle.record_frames.specs.TreeRead.{TellsRoot}
use Rattle.record_frames.specs.Entry.{TellsReader}
use Rattle.record_frames.specs.declared.handover.RootRead.{RootRead}
use Rattle.record_frames.proofs.Once.{from_luo, from_root, steps}

-- what holds of each place
pub place_broken : (bytes : List ℕ) (Told : FdtPlace → Type 0) → (Told Header → BreaksAt bytes Header) → (Told Reservations → BreaksAt bytes Reservations)
    → (Told Structure → BreaksAt bytes Structure) → (place : FdtPlace) → Told place → BreaksAt bytes place
place_broken bytes Told header reservations structure Header h = header h
place_broken bytes Told header reservations structure Reservations h = reservations h
place_broken bytes Told header reservations structure Structure h = structure h

pub root_breaks : (ram : Ram) (entry : ℕ) (t : Tree) → is_frame ram.count entry ≡ true → Spells (ram.page entry) t → root_of versions ram.count t ≡ None → BreakAt ram entry RootAt
root_breaks ram entry t within spelled e =
    (within, (t, spelled, steps ram entry t ∙ ap (λ (o : Option Root). or_else RootAt o >>= λ root. from_root ram entry root) e))

pub luo_breaks : (ram : Ram) (entry : ℕ) (t : Tree) (root : Root) → is_frame ram.count entry ≡ true → Spells (ram.page entry) t → root_of versions ram.count t ≡ Some root
    → luo_of root.version root.luo ≡ None → BreakAt ram entry LuoAt
luo_breaks ram entry t root within spelled e h = (
  within,
  (
    t,
    spelled,
    steps ram entry t ∙ ap (λ (o : Option Root). or_else RootAt o >>= λ root. from_root ram entry root) e
        ∙ ap (λ (o : Option Luo). or_else LuoAt o >>= λ luo. from_luo ram entry root luo) h,
  ),
)

-- ---- what was told of the parts

pub told_place : (bytes page : List ℕ) (r : Result (List Item) FdtPlace) (place : FdtPlace) → bytes ≡ page → r ≡ Err place → TellsReader bytes r → BreaksAt page place
told_place bytes page r place same is h =
    let P : Result (List Item) FdtPlace → Type 0 = λ x. TellsReader bytes x in
    let Q : List ℕ → Type 0 = λ x. BreaksAt x place in
    subst Q same (subst P is h)

pub told_tree : (bytes page : List ℕ) (r : Result (List Item) FdtPlace) (items : List Item) → bytes ≡ page → r ≡ Ok items → TellsReader bytes r
    → (t : Tree) × Spells page t × Carries items t
told_tree bytes page r items same is h =
    let P : Result (List Item) FdtPlace → Type 0 = λ x. TellsReader bytes x in
    let Q : List ℕ → Type 0 = λ x. (t : Tree) × Spells x t × Carries items t in
    subst Q same (subst P is h)

pub told_none : (items : List Item) (m n : ℕ) (t : Tree) (o : Option RootRead) → m ≡ n → o ≡ None → TellsRoot items m t o → root_of versions n t ≡ None
told_none items m n t o same is h =
    let P : Option RootRead → Type 0 = λ x. TellsRoot items m t x in
    ap (λ (k : ℕ). root_of versions k t) (sym same) ∙ subst P is h

pub told_root : (items : List Item) (m n : ℕ) (t : Tree) (o : Option RootRead) (r : RootRead) → m ≡ n → o ≡ Some r → TellsRoot items m t o
    → (luo : Tree) × IsTreeAt items r.luo.0 luo × (root_of versions n t ≡ Some (record { version = version_1; shape = r.shape; chunk = r.chunk; luo = luo }))
told_root items m n t o r same is h =
    let P : Option RootRead → Type 0 = λ x. TellsRoot items m t x in
    let told = subst P is h in
    (told.0, told.1, ap (λ (k : ℕ). root_of versions k t) (sym same) ∙ told.2)
