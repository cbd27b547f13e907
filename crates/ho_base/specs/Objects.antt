-- The numbers of a kernel's objects.
use Rattle.std.specs.Prelude.{ℕ, ◌+◌, Option, Some, None}
use Rattle.ho_base.specs.declared.limits.TheConstants.{OUT_SLOTS, IN_SLOTS}
use Rattle.ho_base.specs.declared.numbers.Kind.{Kind}
use Rattle.ho_base.specs.declared.numbers.Kind.TheVariants.{Memfd, Dev0, Dev1, Dev2, Dev3}

-- the pool comes first
abbrev pub pool_no : ℕ
pool_no = 0

-- the registry comes next
abbrev pub registry_no : ℕ
registry_no = 1

-- the four handlers follow, in the order of their kinds
abbrev pub handler_no : ℕ → ℕ
handler_no k = 2 + k

-- the session slots follow, first the outgoing ones and then the incoming ones
abbrev pub session_no : ℕ → ℕ
session_no s = 6 + s

-- the files follow the last session slot
abbrev pub file_no : ℕ → ℕ
file_no f = session_no (OUT_SLOTS + IN_SLOTS) + f

-- the handler of a kind: a memfd has none
abbrev pub handler_of : Kind → Option ℕ
handler_of Memfd = None
handler_of Dev0 = Some (handler_no 0)
handler_of Dev1 = Some (handler_no 1)
handler_of Dev2 = Some (handler_no 2)
handler_of Dev3 = Some (handler_no 3)
