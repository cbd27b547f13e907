-- The forms that the words of a script's line have. A word that doesn't fit its form or range is refused by
-- the name of this form.
use Rattle.std.specs.Prelude.{ℕ, ◌+◌, ◌-◌, ◌*◌, ◌^◌, Bool, true, false, ◌&&◌, nat_lt, nat_le, if◌then◌else◌, List, [], ◌∷◌, length, codes, Result, Ok, Err}
use Rattle.std.specs.List.{list_all}
use Rattle.ho_base.specs.NameRule.{is_name}
use Rattle.hex.specs.Hex.{decode_of}
use Rattle.ho_base.specs.declared.limits.TheConstants.{WRITE_BYTES}
use Rattle.ho_base.specs.declared.numbers.Kind.TheVariants.{Dev0, Dev1, Dev2, Dev3}
use Rattle.ho_events.specs.Lists.{same_bytes}
use Rattle.ho_events.specs.declared.line.Reason.{Reason}
use Rattle.ho_events.specs.declared.line.Reason.TheVariants as reason
use Rattle.ho_events.specs.declared.script.Op.TheVariants.{Preserve, Freeze, Retrieve, CanFinish}
use Rattle.ho_base.specs.declared.numbers.Kind as kinds
use Rattle.ho_events.specs.declared.script.Op as ops

-- one step after another; the first that refuses gives the reason
infixl 10 ◌>>=◌
abbrev pub ◌>>=◌ : {A B : Type 0} → Result A Reason → (A → Result B Reason) → Result B Reason
(Err why) >>= next = Err why
(Ok x) >>= next = next x

-- a value where a test holds, and otherwise a reason
abbrev pub or_refused : {A : Type 0} → Bool → A → Reason → Result A Reason
or_refused true x why = Ok x
or_refused false x why = Err why

abbrev pub is_digit : ℕ → Bool
is_digit b = nat_le 48 b && nat_le b 57

-- a number goes on with digits, each worth ten times what follows
unfoldable pub with_digits : ℕ → List ℕ → ℕ
with_digits n [] = n
with_digits n (b ∷ digits) = with_digits (n * 10 + (b - 48)) digits

-- 1 to 20 decimal digits; leading zeros are accepted
abbrev pub is_number : List ℕ → Bool
is_number word = nat_le 1 (length word) && nat_le (length word) 20 && list_all is_digit word

-- a number from a least to a greatest one
unfoldable pub number_within : ℕ → ℕ → List ℕ → Result ℕ Reason
number_within least greatest word =
    or_refused (is_number word && nat_le least (with_digits 0 word) && nat_le (with_digits 0 word) greatest) (with_digits 0 word) reason.Number

-- a number of 8 bytes, and one of 4 bytes
abbrev pub number_u64 : List ℕ → Result ℕ Reason
number_u64 = number_within 0 (2 ^ 64 - 1)

abbrev pub number_u32 : List ℕ → Result ℕ Reason
number_u32 = number_within 0 (2 ^ 32 - 1)

-- a word that is a name
unfoldable pub name_of : List ℕ → Result (List ℕ) Reason
name_of word = or_refused (is_name word) word reason.Name

-- the bytes of 1 to 256 pairs of the digits `0-9 a-f A-F`
abbrev pub or_hex : {E : Type 0} → Result (List ℕ) E → Result (List ℕ) Reason
or_hex (Ok bytes) = Ok bytes
or_hex (Err e) = Err reason.Hex

unfoldable pub bytes_of : List ℕ → Result (List ℕ) Reason
bytes_of word =
    if nat_lt 0 (length word) && nat_le (length word) (2 * WRITE_BYTES) then or_hex (decode_of word) else Err reason.Hex

-- the kind of a device file
unfoldable pub kind_of : List ℕ → Result kinds.Kind Reason
kind_of word =
    if same_bytes word (codes "dev0") then Ok Dev0
    else if same_bytes word (codes "dev1") then Ok Dev1
    else if same_bytes word (codes "dev2") then Ok Dev2
    else if same_bytes word (codes "dev3") then Ok Dev3
    else Err reason.Kind

-- what a handler is asked
unfoldable pub op_of : List ℕ → Result ops.Op Reason
op_of word =
    if same_bytes word (codes "preserve") then Ok Preserve
    else if same_bytes word (codes "freeze") then Ok Freeze
    else if same_bytes word (codes "retrieve") then Ok Retrieve
    else if same_bytes word (codes "can_finish") then Ok CanFinish
    else Err reason.Op
