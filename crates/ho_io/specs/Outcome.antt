-- What the errors of reading a whole source say.
use Rattle.std.specs.Prelude.{List, ℕ, Result, Err, ⊤}
use Rattle.ho_io.specs.declared.source.ReadError.{ReadError}
use Rattle.ho_io.specs.declared.source.ReadError.TheVariants.{Fault, TooLong}

-- the fact, where the answer is `Fault`
abbrev pub OnFault : {T : Type 0} → Result T ReadError → Type 0 → Type 0
OnFault (Err Fault) fact = fact
OnFault r fact = ⊤

-- the fact of the bytes that were read, where the answer is `TooLong`
abbrev pub IfTooLong : {T : Type 0} → Result T ReadError → (List ℕ → Type 0) → Type 0
IfTooLong (Err (TooLong bytes)) fact = fact bytes.items
IfTooLong r fact = ⊤
