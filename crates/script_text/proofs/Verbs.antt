-- The word that most lines begin with.
use Rattle.std.proofs.Common.{◌≡◌, List, ℕ, true, refl, sym, Ok, codes}
use Rattle.std.specs.Cmp.Lexicographic.{same_text}
use Rattle.ho_events.specs.Lists.{same_bytes}
use Rattle.ho_events.specs.Script.Lines.{verb_of, head_verb, file_verb}
use Rattle.ho_events.specs.declared.line.Verb.TheVariants.{Write}

known : verb_of (codes "write") ≡ Ok Write
unfolding verb_of head_verb file_verb
known = refl

pub write_first : (word : List ℕ) → same_bytes word (codes "write") ≡ true → verb_of word ≡ Ok Write
write_first word same = rw (same_text word (codes "write") (sym same)) known
