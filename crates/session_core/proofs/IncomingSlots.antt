-- The incoming session of a slot.
use Rattle.std.proofs.Common.{◌≡◌, ℕ, Bool, false, List, [], ◌∷◌, length, map, replicate, refl, ap, ◌∙◌, arith}
use Rattle.std.specs.Prelude.{Option, None, Some}
use Rattle.std.specs.FinMap as finmap
use Rattle.std.proofs.lemmas.Grind.{common_steps}
use Rattle.ho_base.specs.declared.numbers.Token.{Token}
use Rattle.ho_base.specs.declared.numbers.FileNo.{FileNo}
use Rattle.ho_events.specs.History.{run_from}
use Rattle.ho_events.specs.Session.{In}
use Rattle.session_core.specs.Sessions.{fresh_incoming, waits}
use Rattle.session_core.specs.declared.opening.Incoming.{Incoming}
use Rattle.session_core.specs.SessionShown.{listed, listed_by, AreFiles, TokensRise, is_named_waiting, shown, AreMarked, HasOneSide, KeepsSession}

-- files of which none was taken
none_taken : (files : List (Token × FileNo × ℕ)) → listed_by files (replicate (length files) false) ≡ map listed files
unfolding listed_by
none_taken [] = refl
none_taken (f ∷ files) = ap (λ rest. listed f ∷ rest) (none_taken files)

-- the state that the parts of a new incoming session show
pub fresh_shown : (i : Incoming) → (n : Option (List ℕ)) → (files : List (Token × FileNo × ℕ)) → i.opened ≡ false → i.taken.items ≡ replicate (length files) false → shown (Some i) n files ≡ fresh_incoming i.name files
unfolding shown
fresh_shown i n files closed taken =
    ap (λ opened. In i.name opened (finmap.from_sorted (listed_by files i.taken.items))) closed
    ∙ ap (λ es. In i.name false (finmap.from_sorted es)) (ap (listed_by files) taken ∙ none_taken files)

-- without entries it is kept
pub fresh_keeps : (i : Option Incoming) → (files : List (Token × FileNo × ℕ)) → TokensRise files → AreFiles files → HasOneSide i None files → AreMarked i files → KeepsSession (shown i None files) [] i None files
unfolding run_from
fresh_keeps i files rise within side marked = record { replayed = refl; rising = rise; within = within; side = side; marked = marked }

pub as_many : (taken : List Bool) → (n : ℕ) → taken ≡ replicate n false → length taken ≡ n
as_many taken n h = ap length h ∙ grind (arith, common_steps)

-- whether it waits
pub waits_shown : (i : Option Incoming) → (n : Option (List ℕ)) → (files : List (Token × FileNo × ℕ)) → (name : List ℕ) → waits (shown i n files) name ≡ is_named_waiting i name
unfolding shown
waits_shown (Some i) n files name = refl
waits_shown None None files name = refl
waits_shown None (Some own) files name = refl
