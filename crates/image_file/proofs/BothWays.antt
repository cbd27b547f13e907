-- An image is read back, and what is read is an image.
use Rattle.std.proofs.Common.{◌≡◌, ℕ, ◌+◌, ◌*◌, ◌^◌, ◌<◌, ◌≤◌, List, ◌++◌, length, map, take, drop, Some, None, sym, ap, subst, ◌∙◌, arith}
use Rattle.std.proofs.lemmas.List.{length-append, length-drop, length-map, take-append-drop}
use Rattle.std.specs.List.{All, flat_map}
use Rattle.std.specs.Option.{IsSome}
use Rattle.ho_base.specs.declared.limits.TheConstants.{PAGE_BYTES, MIN_FRAMES, MAX_FRAMES}
use Rattle.phys_frames.specs.Pages.{chunks}
use Rattle.image_file.specs.Image.{Pages, page_bytes, IsPage, header, image, size_of, fault_of, frames_of, count_of, entry_of, last_of, ImageIsRead, ReadIsImage}
use Rattle.image_file.proofs.Pages.{length_chunks, joined, joined_length, cut, all_home}
use Rattle.image_file.proofs.Headers.{header_length, word_there, count_there, entry_there, zero_there, rest_there, header_from, IsBytes}
use Rattle.image_file.proofs.Faults.{HasHeader, no_fault, no_fault_from}

module _ (pages : Pages) (entry : ℕ) (least : MIN_FRAMES ≤ length pages) (most : length pages ≤ MAX_FRAMES) (all : All (IsPage PAGE_BYTES) pages) (fits : entry < 2 ^ 64) where
  count : count_of (header (length pages) entry ++ flat_map page_bytes pages) ≡ length pages
  unfolding count_of
  count = count_there (length pages) entry (flat_map page_bytes pages) (omega arith)

  has : HasHeader (header (length pages) entry ++ flat_map page_bytes pages)
  unfolding last_of
  has = record {
    long = omega (arith, length-append (header (length pages) entry) (flat_map page_bytes pages), header_length (length pages) entry);
    word = word_there (length pages) entry (flat_map page_bytes pages);
    least = omega (arith, count);
    most = omega (arith, count);
    last = zero_there (length pages) entry (flat_map page_bytes pages);
  }

  pub image_without_fault : fault_of (image pages entry) ≡ None
  unfolding image
  image_without_fault =
      let size : length (header (length pages) entry ++ flat_map page_bytes pages) ≡ 32 + length pages * PAGE_BYTES =
      omega (arith, length-append (header (length pages) entry) (flat_map page_bytes pages), header_length (length pages) entry, joined_length PAGE_BYTES pages all) in
      no_fault_from (header (length pages) entry ++ flat_map page_bytes pages) has (size ∙ ap size_of (sym count))

  pub image_frames : frames_of (image pages entry) ≡ pages
  unfolding image frames_of
  image_frames =
      ap (λ (k : ℕ). map Some (chunks PAGE_BYTES k (drop 32 (header (length pages) entry ++ flat_map page_bytes pages)))) count
      ∙ ap (λ (l : List ℕ). map Some (chunks PAGE_BYTES (length pages) l)) (rest_there (length pages) entry (flat_map page_bytes pages))
      ∙ cut PAGE_BYTES pages all

  pub image_entry : entry_of (image pages entry) ≡ entry
  unfolding image entry_of
  image_entry = entry_there (length pages) entry (flat_map page_bytes pages) fits

pub image_is_read : ImageIsRead
image_is_read pages entry least most all fits =
    (image_without_fault pages entry least most all fits, image_frames pages entry least most all fits, image_entry pages entry least most all fits)

-- there are as many frames as the header says
pub frames_count : (bytes : List ℕ) → length (frames_of bytes) ≡ count_of bytes
unfolding frames_of
frames_count bytes = length-map (chunks PAGE_BYTES (count_of bytes) (drop 32 bytes)) Some ∙ length_chunks PAGE_BYTES (count_of bytes) (drop 32 bytes)

frames_joined : (bytes : List ℕ) → length bytes ≡ size_of (count_of bytes) → flat_map page_bytes (frames_of bytes) ≡ drop 32 bytes
unfolding frames_of
frames_joined bytes e = joined PAGE_BYTES (count_of bytes) (drop 32 bytes) (omega (arith, length-drop 32 bytes))

header_read : (bytes : List ℕ) → IsBytes bytes → HasHeader bytes → take 32 bytes ≡ header (count_of bytes) (entry_of bytes)
unfolding count_of entry_of last_of
header_read bytes small found = header_from bytes small found.long found.word found.last

pub read_is_image : ReadIsImage
unfolding image
read_is_image bytes small none =
    let found = no_fault bytes none in
    let front : take 32 bytes ≡ header (length (frames_of bytes)) (entry_of bytes) =
    header_read bytes small found.0 ∙ ap (λ (k : ℕ). header k (entry_of bytes)) (sym (frames_count bytes)) in
    sym (take-append-drop 32 bytes) ∙ (λ i. front i ++ sym (frames_joined bytes found.1) i)

-- what was read from bytes without a fault is what they are the image of
pub read_again : (bytes : List ℕ) (pages : Pages) (entry : ℕ) → IsBytes bytes → fault_of bytes ≡ None → pages ≡ frames_of bytes → entry ≡ entry_of bytes → bytes ≡ image pages entry
read_again bytes pages entry small none e f = read_is_image bytes small none ∙ (λ i. image (sym e i) (sym f i))

-- all frames that are read are home
pub read_home : (bytes : List ℕ) (pages : Pages) → pages ≡ frames_of bytes → All IsSome pages
unfolding frames_of
read_home bytes pages e = subst (λ (l : Pages). All IsSome l) (sym e) (all_home (chunks PAGE_BYTES (count_of bytes) (drop 32 bytes)))
