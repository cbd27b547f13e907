-- Where a script may have each of some bytes, it may have each byte of their lines.
use Rattle.std.proofs.Common.{◌≡◌, ℕ, Bool, true, false, ◌&&◌, List, [], ◌∷◌, refl}
use Rattle.std.specs.List.{list_all, onto_first}
use Rattle.ho_events.specs.Script.Words.{is_line_feed, lines}
use Rattle.script_text.proofs.Cuts.{lines_yes, lines_no, no_lines}

pub left : (a b : Bool) → (a && b) ≡ true → a ≡ true
left true b h = refl
left false b h = h

pub right : (a b : Bool) → (a && b) ≡ true → b ≡ true
right true b h = h
right false b h = absurd cc

put_clean : (p : ℕ → Bool) (b : ℕ) (parts : List (List ℕ)) → p b ≡ true → list_all (list_all p) parts ≡ true → list_all (list_all p) (onto_first b parts) ≡ true
put_clean p b [] here rest = rw here refl
put_clean p b (part ∷ parts) here rest = rw here rest

clean_step : (p : ℕ → Bool) (b : ℕ) (bytes : List ℕ) (feed : Bool) → is_line_feed b ≡ feed → p b ≡ true → list_all (list_all p) (lines bytes) ≡ true → list_all (list_all p) (lines (b ∷ bytes)) ≡ true
clean_step p b bytes true feed here rest = rw (lines_yes b bytes feed) rest
clean_step p b bytes false feed here rest = rw (lines_no b bytes feed) (put_clean p b (lines bytes) here rest)

pub lines_clean : (p : ℕ → Bool) (bytes : List ℕ) → list_all p bytes ≡ true → list_all (list_all p) (lines bytes) ≡ true
lines_clean p [] clean = rw no_lines refl
lines_clean p (b ∷ bytes) clean = clean_step p b bytes (is_line_feed b) refl (left _ _ clean) (lines_clean p bytes (right _ _ clean))
