-- The worlds that earlier kernels ended in stay as a history grows, and so do their images.
use Rattle.std.proofs.Common.{◌≡◌, ℕ, ◌+◌, ◌<◌, ◌≤◌, not, ◌==◌, List, [], ◌∷◌, ◌++◌, length, length-append, refl, sym, ap, subst, ◌∙◌, arith, IsTrue}
use Rattle.std.specs.List.{list_all}
use Rattle.std.proofs.lemmas.Bool.Decides.{nat_tests}
use Rattle.ho_events.specs.declared.entry.Entry.{Entry}
use Rattle.ho_world.specs.Entries.{in_kernel, beginning, world_of}
use Rattle.ho_world.specs.Frozen.{frozen}
use Rattle.ho_world.specs.World.{World, after}
use Rattle.ho_world.proofs.Fronts.{all_follow, filter_front}
use Rattle.ho_world.proofs.Grow.{begins_same}
use Rattle.handover_cli.specs.Images.{IsImageOf, AreImagesFrom, AreImages}

module _ (start : World) (es new : List Entry) (k : ℕ) (all : IsTrue (list_all (λ e. e.kernel == k) new)) where
  other : (m j : ℕ) → j < k → IsTrue (m == k) → IsTrue (not (m == j))
  other m j less h = grind (arith, nat_tests)

  kernel_stays : (j : ℕ) → j < k → in_kernel j (es ++ new) ≡ in_kernel j es
  unfolding in_kernel
  kernel_stays j less = filter_front (λ e. e.kernel == j) es new (all_follow (λ e. e.kernel == k) (λ e. not (e.kernel == j)) new (λ e h. other e.kernel j less h) all)

  world_stays : (j : ℕ) → j < k → world_of start (es ++ new) j ≡ world_of start es j
  world_stays j less =
      ap (λ w. after w (in_kernel j (es ++ new))) (begins_same start (es ++ new) es j (λ i low. kernel_stays i (omega (arith, low, less))))
      ∙ ap (after (beginning start es j)) (kernel_stays j less)

  images_from_stay : (j : ℕ) (images : List (List ℕ)) → j + length images ≤ k → AreImagesFrom start es j images → AreImagesFrom start (es ++ new) j images
  unfolding AreImagesFrom
  images_from_stay j [] low h = tt
  images_from_stay j (bytes ∷ images) low h = (
    subst (λ w. IsImageOf (frozen w) bytes) (sym (world_stays j (omega (arith, low)))) h.0,
    images_from_stay (j + 1) images (omega (arith, low)) h.1,
  )

  pub images_stay : (images : List (List ℕ)) → AreImages start es k images → AreImages start (es ++ new) k images
  images_stay images are = record { count = are.count; each = images_from_stay 0 images (omega (arith, are.count)) are.each }

-- one image more
images_from_more : (start : World) (es : List Entry) (j n : ℕ) (images : List (List ℕ)) (bytes : List ℕ) → n ≡ j + length images → AreImagesFrom start es j images → IsImageOf (frozen (world_of start es n)) bytes
    → AreImagesFrom start es j (images ++ bytes ∷ [])
unfolding AreImagesFrom
images_from_more start es j n [] bytes is h image = (subst (λ m. IsImageOf (frozen (world_of start es m)) bytes) (none n j is) image, tt)
  where
    none : (m i : ℕ) → m ≡ i + 0 → m ≡ i
    none m i e = omega (arith, e)
images_from_more start es j n (b ∷ images) bytes is h image = (h.0, images_from_more start es (j + 1) n images bytes (omega (arith, is)) h.1 image)

pub images_more : (start : World) (es : List Entry) (n : ℕ) (images : List (List ℕ)) (bytes : List ℕ) → AreImages start es n images → IsImageOf (frozen (world_of start es n)) bytes → AreImages start es (n + 1) (images ++ bytes ∷ [])
images_more start es n images bytes are image = record {
  count = (let many = length-append images (bytes ∷ []) in omega (arith, many, are.count));
  each = images_from_more start es 0 n images bytes (omega (arith, are.count)) are.each image;
}

pub no_images : (start : World) (es : List Entry) → AreImages start es 0 []
unfolding AreImagesFrom
no_images start es = record { count = refl; each = tt }
