-- What each file adds to what is gathered.
use Rattle.std.proofs.Common.{◌≡◌, ℕ, ◌≤◌, List, [], ◌∷◌, subst}
use Rattle.std.specs.Prelude.{vec_capacity}
use Rattle.ho_base.specs.declared.numbers.Pfn.{Pfn}
use Rattle.ho_base.specs.declared.numbers.Order.{Order}
use Rattle.record_frames.specs.declared.carried.CarriedFile.{CarriedFile}
use Rattle.record_frames.specs.declared.carried.CarriedSession.{CarriedSession}
use Rattle.kexec_boot.specs.Files.{plain_of}
use Rattle.kexec_boot.specs.Prepared.{HasRoomFor}
use Rattle.kexec_boot.specs.declared.files.PlainFile.{PlainFile}
use Rattle.kexec_boot.specs.declared.prepared.Store.{Store}

abbrev pub one_file : CarriedFile → List PlainFile
one_file f = plain_of f ∷ []

abbrev pub one_run : Order → Pfn → List (Pfn × Order)
one_run order p = (p, order) ∷ []

abbrev pub name_of : CarriedSession → List ℕ
name_of s = s.name

abbrev pub one_name : CarriedSession → List (List ℕ)
one_name s = name_of s ∷ []

-- room for as many by another name
pub room_same : (a b a' b' : ℕ) (s : Store) → HasRoomFor a b s → a ≡ a' → b ≡ b' → HasRoomFor a' b' s
room_same a b a' b' s h e f = record {
  no_folio = h.no_folio;
  folio_room = subst (λ n. n ≤ vec_capacity s.folios) e h.folio_room;
  no_file = h.no_file;
  file_room = subst (λ n. n ≤ vec_capacity s.files) f h.file_room;
}
