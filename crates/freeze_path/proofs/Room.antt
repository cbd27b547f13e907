-- Frames that were taken have room for what is carried.
use Rattle.std.proofs.Common.{◌≡◌, ℕ, ◌+◌, true, List, [], ◌∷◌, ◌++◌, length, map, refl, sym, ap, ◌∙◌, arith, IsTrue}
use Rattle.std.specs.Prelude.{◌&&◌, ◌==◌}
use Rattle.std.specs.List.{All, list_all}
use Rattle.std.proofs.lemmas.Bool.{and_parts, eqb-true}
use Rattle.std.proofs.lemmas.List.{length-map, length-take-le, map-append, take-append-drop}
use Rattle.std.proofs.lemmas.List.Elements.{All-nil, All-cons}
use Rattle.ho_base.specs.BitmapCount.{chunk_frames}
use Rattle.ho_base.specs.declared.numbers.Pfn.{Pfn}
use Rattle.ho_events.specs.Lists.{are_distinct, firsts}
use Rattle.ho_events.specs.Pool.{can_take, is_free_run}
use Rattle.ho_world.specs.World.{pool_at}
use Rattle.phys_frames.specs.Homes.{HomeId}
use Rattle.phys_frames.specs.Memory.{FolioValue, zeroed}
use Rattle.record_frames.specs.Writing.{frames_of}
use Rattle.record_frames.specs.declared.carried.Carried.{Carried}
use Rattle.kho_laws.specs.Carrying.{can_be_carried}
use Rattle.kho_writer.specs.Folios.{front_count, fronts, chunks, HasRoom}
use Rattle.machine_core.specs.Kernels.{KernelValue}
use Rattle.kernel_carried.specs.Gathered.{IsGathered}
use Rattle.sound_carried.specs.Fitting.{CarriedHasRoom}
use Rattle.freeze_path.specs.Ready.{HasPool, IsSoundKernel}
use Rattle.freeze_path.proofs.SoundKernel.{as_frozen, has_layout, held, pool_is}

frames_cut : (c : Carried) (folios : List FolioValue) → frames_of folios ≡ frames_of (fronts c folios) ++ frames_of (chunks c folios)
frames_cut c folios =
    ap frames_of (sym (take-append-drop (front_count c) folios)) ∙ map-append (λ (f : FolioValue). f.first.0) (fronts c folios) (chunks c folios)

fronts_count : (c : Carried) (folios : List FolioValue) → length folios ≡ front_count c + chunk_frames c.shape.frames → length (frames_of (fronts c folios)) ≡ front_count c
fronts_count c folios count = length-map (fronts c folios) (λ (f : FolioValue). f.first.0) ∙ length-take-le (front_count c) folios (omega (arith, count))

frames_taken : (home : HomeId) (runs : List Pfn) → frames_of (map (zeroed home) runs) ≡ firsts runs
frames_taken home [] = refl
frames_taken home (r ∷ runs) = ap (λ ps. r.0 ∷ ps) (frames_taken home runs)

pub singles_taken : (home : HomeId) (runs : List Pfn) → All (λ (f : FolioValue). f.order.0 ≡ 0) (map (zeroed home) runs)
singles_taken home [] = All-nil (λ (f : FolioValue). f.order.0 ≡ 0)
singles_taken home (r ∷ runs) = All-cons (λ (f : FolioValue). f.order.0 ≡ 0) (zeroed home r) (map (zeroed home) runs) refl (singles_taken home runs)

-- folios whose frames were free in a sound kernel have room for what a kexec of it carries
module _ (kernel : KernelValue) (sound : IsSoundKernel kernel) (pool : HasPool kernel) (c : Carried) (g : IsGathered kernel c) (runs : List Pfn) (count : ℕ) (taken : can_take pool.state 0 count (firsts runs) ≡ true)
    (count_is : count ≡ front_count c + chunk_frames c.shape.frames) where
  abbrev folios : List FolioValue
  folios = map (zeroed kernel.home) runs

  many : length (firsts runs) ≡ count
  many =
      eqb-true (length (firsts runs)) count
      (and_parts (length (firsts runs) == count) (are_distinct (firsts runs)) (and_parts ((length (firsts runs) == count) && are_distinct (firsts runs)) (list_all (is_free_run pool.state 0) (firsts runs)) taken).0).0

  parts : firsts runs ≡ frames_of (fronts c folios) ++ frames_of (chunks c folios)
  parts = sym (frames_taken kernel.home runs) ∙ frames_cut c folios

  counted : length folios ≡ front_count c + chunk_frames c.shape.frames
  counted = length-map runs (zeroed kernel.home) ∙ sym (length-map runs (λ (p : Pfn). p.0)) ∙ many ∙ count_is

  taken_all : can_take (pool_at sound.world) 0 (length (frames_of (fronts c folios) ++ frames_of (chunks c folios))) (frames_of (fronts c folios) ++ frames_of (chunks c folios)) ≡ true
  taken_all = (λ i. can_take (pool_is kernel sound pool i) 0 ((ap length (sym parts) ∙ many) i) (sym parts i)) ∙ taken

  pub room : CarriedHasRoom → IsTrue (can_be_carried c) → HasRoom c folios
  room law can = record {
    can = can;
    count = counted;
    orders = singles_taken kernel.home runs;
    hold =
        law sound.labels sound.world (held kernel sound).ram c (frames_of (fronts c folios)) (frames_of (chunks c folios)) sound.sound (as_frozen kernel sound pool c g) (has_layout kernel sound pool c g) (fronts_count c folios counted) taken_all;
  }
