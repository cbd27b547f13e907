-- The text of the places that an image is refused at.
use Rattle.std.specs.Prelude.{ℕ, List, ◌++◌, codes, decimal}
use Rattle.fdt_blob.specs.declared.tree.FdtPlace.{FdtPlace}
use Rattle.fdt_blob.specs.declared.tree.FdtPlace.TheVariants.{Header, Reservations, Structure}
use Rattle.ho_events.specs.Text.{kind_word}
use Rattle.record_frames.specs.declared.place.ImagePlace.{ImagePlace}
use Rattle.record_frames.specs.declared.place.ImagePlace.TheVariants.{Entry, Tree, Root, Luo, Chain, Record, Bound, Owner}

-- the word of a part of the entry frame's blob
abbrev pub part_word : FdtPlace → List ℕ
part_word Header = codes "header"
part_word Reservations = codes "reservations"
part_word Structure = codes "structure"

-- the text of a place: a word, and which part, frame or kind of files it is
abbrev pub place_words : ImagePlace → List ℕ
place_words Entry = codes "entry"
place_words (Tree part) = codes "tree " ++ part_word part
place_words Root = codes "root"
place_words Luo = codes "luo"
place_words (Chain n) = codes "chain " ++ decimal n
place_words (Record n) = codes "record " ++ decimal n
place_words (Bound kind) = codes "bound " ++ kind_word kind
place_words (Owner p) = codes "owner " ++ decimal p.0
