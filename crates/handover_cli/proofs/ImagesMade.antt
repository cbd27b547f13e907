-- What is seen on a host as images are made one after another.
use Rattle.std.proofs.Common.{◌≡◌, ℕ, ◌+◌, ◌<◌, List, [], ◌∷◌, ◌++◌, length, refl, sym, ap, subst, ◌∙◌, arith, suc, inl, inr, ◌⊎◌}
use Rattle.std.specs.Prelude.{Option, None, Some, take}
use Rattle.ho_io.specs.declared.host.Way.{Way}
use Rattle.ho_events.specs.declared.entry.Entry.{Entry}
use Rattle.ho_io.specs.Told.{behind, told_with, with_item, with_sink, IsOneOf}
use Rattle.ho_io.specs.declared.host.Way.TheVariants.{Make}
use Rattle.ho_world.specs.Entries.{world_of}
use Rattle.ho_world.specs.Frozen.{frozen}
use Rattle.ho_world.specs.World.{World}
use Rattle.handover_cli.specs.Images.{Seen, IsUnasked, IsImageOf, AreImages, Made, MadeImages, MadeSome, MadeLess, image_name, with_file, with_image, with_images}
use Rattle.ho_events.specs.declared.script.Block.{Block}
use Rattle.ho_world.specs.Legal.{kernel_due}
use Rattle.handover_cli.specs.Asked.{with_makes, AsksImages}
use Rattle.handover_cli.specs.Run.{WroteAll, WroteBlocks, WroteSoFar}
use Rattle.handover_cli.proofs.ImageWorlds.{images_more, no_images}

-- a host tells, or it doesn't, also after it wrote more
told_same : (out : Option (List ℕ)) (text bytes : List ℕ) → told_with (behind out text) bytes ≡ told_with out bytes
unfolding behind told_with
told_same None text bytes = refl
told_same (Some told) text bytes = refl

-- the last of some images
last_image : (s : Seen) (file : List ℕ) (k : ℕ) (images : List (List ℕ)) (bytes : List ℕ) → with_images s file k (images ++ bytes ∷ []) ≡ with_image (with_images s file k images) file (k + length images) bytes
unfolding with_images
last_image s file k [] bytes = ap (λ m. with_image s file m bytes) (same k)
  where
    same : (m : ℕ) → m ≡ m + 0
    same m = omega arith
last_image s file k (b ∷ images) bytes =
    last_image (with_image s file k b) file (k + 1) images bytes
    ∙ ap (λ m. with_image (with_images (with_image s file k b) file (k + 1) images) file m bytes) (next k (length images))
  where
    next : (m n : ℕ) → (m + 1) + n ≡ m + suc n
    next m n = omega arith

-- making images leaves the output
out_stays : (s : Seen) (file : List ℕ) (k : ℕ) (images : List (List ℕ)) → (with_images s file k images).out ≡ s.out
unfolding with_images
out_stays s file k [] = refl
out_stays s file k (b ∷ images) = out_stays (with_image s file k b) file (k + 1) images

pub unasked : (s : Seen) → IsUnasked s s
unasked s = record { made = refl; asked = refl }

pub unasked_twice : (a b c : Seen) → IsUnasked a b → IsUnasked b c → IsUnasked a c
unasked_twice a b c h k = record { made = k.made ∙ h.made; asked = k.asked ∙ h.asked }

-- a file that is made where as much was made and asked for
file_same : (a b : Seen) (name bytes text : List ℕ) → IsUnasked a b → b.out ≡ behind a.out text → IsUnasked (with_file a name bytes) (with_file b name bytes)
file_same a b name bytes text h out = record {
  made =
      ap (λ m. with_sink m (told_with b.out name) (told_with b.out bytes)) h.made
      ∙ ap (λ (o : Option (List ℕ)). with_sink a.made (told_with o name) (told_with o bytes)) out
      ∙ ap (λ t. with_sink a.made t (told_with (behind a.out text) bytes)) (told_same a.out text name)
      ∙ ap (λ t. with_sink a.made (told_with a.out name) t) (told_same a.out text bytes);
  asked = ap (λ x. with_item x (Make, name)) h.asked;
}

module _ (start : World) (es new : List Entry) (n : ℕ) (file : List ℕ) (before mid now : Seen) (text : List ℕ) (out : mid.out ≡ behind before.out text)
    (stays : (images : List (List ℕ)) → AreImages start es n images → AreImages start (es ++ new) n images) (made : MadeImages start es n file before mid) where
  abbrev first : Seen
  first = with_images before file 1 made.images

  first_out : mid.out ≡ behind first.out text
  first_out = out ∙ ap (λ o. behind o text) (sym (out_stays before file 1 made.images))

  same_number : 1 + length made.images ≡ n + 1
  same_number = omega (arith, made.are.count)

  -- the same images after more entries
  pub made_still : IsUnasked mid now → MadeImages start (es ++ new) n file before now
  made_still h = record { images = made.images; are = stays made.images made.are; only = unasked_twice first mid now made.only h }

  -- one image more
  pub made_more : (bytes : List ℕ) → IsImageOf (frozen (world_of start (es ++ new) n)) bytes → IsUnasked (with_file mid (image_name file (n + 1)) bytes) now → MadeImages start (es ++ new) (n + 1) file before now
  made_more bytes image h = record {
    images = made.images ++ bytes ∷ [];
    are = images_more start (es ++ new) n made.images bytes (stays made.images made.are) image;
    only = subst (λ s. IsUnasked s now) (sym (last_image before file 1 made.images bytes ∙ ap (λ m. with_image first file m bytes) same_number))
        (unasked_twice (with_image first file (n + 1) bytes) (with_file mid (image_name file (n + 1)) bytes) now (file_same first mid (image_name file (n + 1)) bytes text made.only first_out) h);
  }

  -- one image less
  pub made_less : (whole : List ℕ) → IsImageOf (frozen (world_of start (es ++ new) n)) whole
      → ((now.made ≡ mid.made) × IsOneOf mid.asked (with_item mid.asked (Make, image_name file (n + 1))) now.asked)
      ⊎ ((c : ℕ) × (c < length whole) × IsUnasked (with_file mid (image_name file (n + 1)) (take c whole)) now)
      → MadeLess start (es ++ new) n (Some file) before now
  made_less whole image (inl h) = record {
    images = made.images;
    are = stays made.images made.are;
    some = inl (h.0 ∙ made.only.made, subst (λ a. IsOneOf a (with_item a (Make, image_name file (n + 1))) now.asked) made.only.asked h.1);
  }
  made_less whole image (inr h) = record {
    images = made.images;
    are = stays made.images made.are;
    some = inr (
      take h.0 whole,
      record { whole = whole; image = image; count = h.0; less = h.1; is = refl },
      unasked_twice (with_image first file (n + 1) (take h.0 whole)) (with_file mid (image_name file (n + 1)) (take h.0 whole)) now
          (file_same first mid (image_name file (n + 1)) (take h.0 whole) text made.only first_out) h.2,
    );
  }

-- nothing is made at first
pub made_none : (start : World) (images : Option (List ℕ)) (s : Seen) → Made start [] 0 images s s
unfolding with_images
made_none start None s = unasked s
made_none start (Some file) s = record { images = []; are = no_images start []; only = unasked s }

-- what was asked for is a number of images
asked_from : (asked : Option (List (Way × List ℕ))) (s : Seen) (file : List ℕ) (k : ℕ) (images : List (List ℕ)) → s.asked ≡ with_makes asked file k → (with_images s file (k + 1) images).asked ≡ with_makes asked file (k + length images)
unfolding with_images with_makes
asked_from asked s file k [] h = h ∙ ap (with_makes asked file) (same k)
  where
    same : (m : ℕ) → m ≡ m + 0
    same m = omega arith
asked_from asked s file k (b ∷ images) h =
    asked_from asked (with_image s file (k + 1) b) file (k + 1) images (ap (λ a. with_item a (Make, image_name file (k + 1))) h ∙ more k)
    ∙ ap (with_makes asked file) (next k (length images))
  where
    next : (m n : ℕ) → (m + 1) + n ≡ m + suc n
    next m n = omega arith

    more : (m : ℕ) → with_item (with_makes asked file m) (Make, image_name file (m + 1)) ≡ with_makes asked file (m + 1)
    more m = ap (with_makes asked file) (later m)
      where
        later : (i : ℕ) → suc i ≡ i + 1
        later i = omega arith

images_asked : (before : Seen) (file : List ℕ) (images : List (List ℕ)) → (with_images before file 1 images).asked ≡ with_makes before.asked file (length images)
unfolding with_makes
images_asked before file images = asked_from before.asked before file 0 images refl ∙ ap (with_makes before.asked file) (none (length images))
  where
    none : (m : ℕ) → 0 + m ≡ m
    none m = omega arith

pub made_asks : (start : World) (es : List Entry) (n : ℕ) (images : Option (List ℕ)) (before now : Seen) → Made start es n images before now → AsksImages images before.asked now.asked
made_asks start es n None before now made = made.asked
made_asks start es n (Some file) before now made = (length made.images, made.only.asked ∙ images_asked before file made.images)

one_more_asked : (asked now : Option (List (Way × List ℕ))) (file : List ℕ) (many n : ℕ) → now ≡ with_makes asked file many → n ≡ many + 1 → with_item now (Make, image_name file n) ≡ with_makes asked file (suc many)
unfolding with_makes
one_more_asked asked now file many n h number =
    ap (λ a. with_item a (Make, image_name file n)) h ∙ ap (λ m. with_item (with_makes asked file many) (Make, image_name file m)) number

pub less_asks : (start : World) (es : List Entry) (n : ℕ) (images : Option (List ℕ)) (before now : Seen) → MadeLess start es n images before now → AsksImages images before.asked now.asked
less_asks start es n None before now made = absurd made
less_asks start es n (Some file) before now made = at made.some
  where
    many : ℕ
    many = length made.images

    number : n + 1 ≡ many + 1
    number = omega (arith, made.are.count)

    unchanged : (with_images before file 1 made.images).asked ≡ with_makes before.asked file many
    unchanged = images_asked before file made.images

    one_more : with_item (with_images before file 1 made.images).asked (Make, image_name file (n + 1)) ≡ with_makes before.asked file (suc many)
    one_more = one_more_asked before.asked (with_images before file 1 made.images).asked file many (n + 1) unchanged number

    at : MadeSome (frozen (world_of start es n)) file (n + 1) (with_images before file 1 made.images) now → AsksImages (Some file) before.asked now.asked
    at (inl (h, inl same)) = (many, same ∙ unchanged)
    at (inl (h, inr more)) = (suc many, more ∙ one_more)
    at (inr (part, h, more)) = (suc many, more.asked ∙ one_more)

-- what was asked for, however a run ended
pub all_asks : (start : World) (blocks : List Block) (images : Option (List ℕ)) (before now : Seen) → WroteAll start blocks images before now → AsksImages images before.asked now.asked
all_asks start blocks images before now w = made_asks start w.entries (kernel_due w.entries) images before now w.made

pub short_asks : (start : World) (blocks : List Block) (images : Option (List ℕ)) (before now : Seen) → WroteBlocks start blocks images before now → AsksImages images before.asked now.asked
short_asks start blocks images before now w = made_asks start (w.entries ++ w.unwritten) w.ended images before now w.made

pub part_asks : (start : World) (blocks : List Block) (images : Option (List ℕ)) (before now : Seen) → WroteSoFar start blocks images before now → AsksImages images before.asked now.asked
part_asks start blocks images before now w = at w.made
  where
    at : (Made start (w.entries ++ w.next ∷ w.rest) w.ended images before now ⊎ ((n : ℕ) × (w.ended ≡ n + 1) × MadeLess start (w.entries ++ w.next ∷ w.rest) n images before now)) → AsksImages images before.asked now.asked
    at (inl made) = made_asks start (w.entries ++ w.next ∷ w.rest) w.ended images before now made
    at (inr (n, same, less)) = less_asks start (w.entries ++ w.next ∷ w.rest) n images before now less

-- nothing was asked for
pub no_asks : (images : Option (List ℕ)) (asked : Option (List (Way × List ℕ))) → AsksImages images asked asked
unfolding with_makes
no_asks None asked = refl
no_asks (Some file) asked = (0, refl)
