-- What the threads of a round give: each agent's log, each entry with the history that its object had.
use Rattle.std.specs.Prelude.{◌≡◌, ℕ, ◌+◌, Bool, not, ◌&&◌, ◌==◌, nat_lt, max, List, [], ◌∷◌, ◌++◌, IsTrue, Some}
use Rattle.std.specs.List.{list_all}
use Rattle.ho_events.specs.declared.entry.Entry.{Entry}
use Rattle.ho_events.specs.declared.entry.Place.{Place}
use Rattle.ho_events.specs.declared.entry.Place.TheVariants.{Object, Own}
use Rattle.ho_events.specs.declared.script.Block.{Block}
use Rattle.ho_events.specs.History.{on, by, greatest_stamp}
use Rattle.ho_world.specs.Entries.{in_kernel, all_pairs, ends_kernel}
use Rattle.ho_world.specs.Legal.{is_below, block_of, kernel_due}

-- the history that an object had before an entry: its whole history begins with it and the entry
pub record HadBefore (history : List Entry) (e : Entry) : Type 0 where
  pub before : List Entry
  pub more : List Entry
  pub split : history ≡ before ++ e ∷ more
  pub stamp : ℕ
  pub last : stamp ≡ greatest_stamp before

-- the entry's stamp is one more than its agent's last and its object's last
abbrev pub IsStampedAt : (ℕ → List Entry) → ℕ → Entry → Place → Type 0
IsStampedAt histories last e Own = e.stamp ≡ 1 + last
IsStampedAt histories last e (Object n) = (h : HadBefore (histories n.0) e) × (e.stamp ≡ 1 + max last h.stamp)

-- an agent's log: each entry is stamped after the one before it
abbrev pub IsStampedLog : (ℕ → List Entry) → ℕ → List Entry → Type 0
IsStampedLog histories last [] = Unit {0}
IsStampedLog histories last (e ∷ es) = IsStampedAt histories last e e.object × IsStampedLog histories e.stamp es

abbrev pub rises : Entry → Entry → Bool
rises d e = nat_lt d.stamp e.stamp

abbrev pub is_in_round : List Block → ℕ → ℕ → Entry → Bool
is_in_round blocks k b e = e.kernel == k && not (ends_kernel e)

-- the stamps of a round: `merged` has the round's entries, `es` those of the blocks before it
pub record IsStampedRound (blocks : List Block) (k b : ℕ) (es merged : List Entry) : Type 0 where
  pub kernel : kernel_due es ≡ k
  pub earlier : IsTrue (list_all (λ d. is_below b (block_of blocks d)) es)
  pub here : IsTrue (list_all (is_in_round blocks k b) merged)
  pub of_block : (before : List Entry) (e : Entry) (rest : List Entry) → merged ≡ before ++ e ∷ rest → block_of blocks e ≡ Some b
  pub histories : ℕ → List Entry
  pub are_histories : (n : ℕ) → histories n ≡ on n (in_kernel k es) ++ on n merged
  pub rising : (n : ℕ) → IsTrue (all_pairs rises (histories n))
  pub logs : (a : ℕ) → IsStampedLog histories (greatest_stamp (in_kernel k es)) (by a merged)
