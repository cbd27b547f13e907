-- What a run asks of its host.
use Rattle.std.specs.Prelude.{◌≡◌, ◌⊎◌, ℕ, ◌+◌, List, zero, suc, Option, Some, None}
use Rattle.ho_io.specs.Told.{with_item, IsOneOf}
use Rattle.ho_io.specs.declared.host.Way.{Way}
use Rattle.ho_io.specs.declared.host.Way.TheVariants.{Open, Make}
use Rattle.handover_cli.specs.Images.{image_name}
use Rattle.handover_cli.specs.Words.{RunWords}

-- what was asked, and then the first n images
unfoldable pub with_makes : Option (List (Way × List ℕ)) → List ℕ → ℕ → Option (List (Way × List ℕ))
with_makes asked file zero = asked
with_makes asked file (suc n) = with_item (with_makes asked file n) (Make, image_name file (n + 1))

-- after the script was opened it asks for the first images, where they are asked for, and for nothing else
abbrev pub AsksImages : Option (List ℕ) → Option (List (Way × List ℕ)) → Option (List (Way × List ℕ)) → Type 0
AsksImages None before now = now ≡ before
AsksImages (Some file) before now = (n : ℕ) × (now ≡ with_makes before file n)

-- what was asked, and then the image where there is one;  the same of the script before it
abbrev pub with_image_asked : Option (List (Way × List ℕ)) → Option (List ℕ) → Option (List (Way × List ℕ))
with_image_asked asked None = asked
with_image_asked asked (Some name) = with_item asked (Open, name)

abbrev pub with_names_asked : Option (List (Way × List ℕ)) → RunWords → Option (List (Way × List ℕ))
with_names_asked before asked = with_image_asked (with_item before (Open, asked.script)) asked.image

-- It asks to open the script that the words name, and then the image where they name one, and then for images; or it
-- stops before that;  it asks for nothing where the words fit nothing
abbrev pub AsksOnly : Option RunWords → Option (List (Way × List ℕ)) → Option (List (Way × List ℕ)) → Type 0
AsksOnly None before now = now ≡ before
AsksOnly (Some asked) before now =
    IsOneOf before (with_item before (Open, asked.script)) now ⊎ AsksImages asked.images (with_names_asked before asked) now
