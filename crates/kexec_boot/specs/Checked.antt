-- What a boot looks at in what is carried: its shape, and whether each file is a memfd.
use Rattle.std.specs.Prelude.{◌≡◌, Bool, true, false, ◌&&◌, ◌==◌, List, [], ◌∷◌}
use Rattle.std.specs.List.{list_all}
use Rattle.ho_base.specs.ShapeRule.{Layout}
use Rattle.ho_base.specs.declared.shape.Area.{Area}
use Rattle.record_frames.specs.declared.carried.Carried.{Carried}
use Rattle.record_frames.specs.declared.carried.CarriedFile.{CarriedFile}
use Rattle.record_frames.specs.declared.carried.CarriedSession.{CarriedSession}
use Rattle.record_frames.specs.declared.place.ImagePlace.TheVariants.{Root}
use Rattle.next_laws.specs.Begins.{is_memfd}
use Rattle.kexec_boot.specs.declared.reading.BootError.{BootError}
use Rattle.kexec_boot.specs.declared.reading.BootError.TheVariants.{BadImage, Unbuilt, Memory}

-- two areas, two lists of areas and two shapes are the same
abbrev pub same_area : Area → Area → Bool
same_area a b = a.first.0 == b.first.0 && a.count == b.count

abbrev pub same_areas : List Area → List Area → Bool
same_areas [] [] = true
same_areas [] (b ∷ bs) = false
same_areas (a ∷ as') [] = false
same_areas (a ∷ as') (b ∷ bs) = same_area a b && same_areas as' bs

abbrev pub same_shape : Layout → Layout → Bool
same_shape a b = a.frames == b.frames && same_areas a.scratch b.scratch

-- a file is a memfd
abbrev pub is_memfd_file : CarriedFile → Bool
is_memfd_file f = is_memfd f.kind

-- each file of these sessions is
abbrev pub all_memfds : List CarriedSession → Bool
all_memfds [] = true
all_memfds (s ∷ ss) = list_all is_memfd_file s.files && all_memfds ss

-- Why this isn't what a kernel of a machine of this shape begins with: it has another shape, or a device file.
abbrev pub IsMisfit : Carried → Layout → BootError → Type 0
IsMisfit c shape (BadImage p) = (p ≡ Root) × (same_shape c.shape shape ≡ false)
IsMisfit c shape Unbuilt = (same_shape c.shape shape ≡ true) × (all_memfds c.sessions ≡ false)
IsMisfit c shape Memory = ⊥

-- Why a kernel doesn't begin with this on any machine: a file is a device file.
abbrev pub HasDevice : Carried → BootError → Type 0
HasDevice c (BadImage p) = ⊥
HasDevice c Unbuilt = all_memfds c.sessions ≡ false
HasDevice c Memory = ⊥
