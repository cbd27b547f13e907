-- Where session slots and files stand.
use Rattle.std.proofs.Common.{◌≡◌, ℕ, ◌+◌, ◌<◌, arith}
use Rattle.std.proofs.lemmas.Bool.Decides.{nat_tests}
use Rattle.ho_base.specs.declared.limits.TheConstants.{FILES, OUT_SLOTS, IN_SLOTS}
use Rattle.ho_base.specs.Objects.{session_no, file_no}
use Rattle.machine_core.specs.Objects.{spot_at, SessionSpot, FileSpot}

pub spot_at_session : (n : ℕ) → n < OUT_SLOTS + IN_SLOTS → spot_at (session_no n) ≡ SessionSpot
spot_at_session n h = grind (arith, nat_tests)

pub spot_at_file : (n : ℕ) → n < FILES → spot_at (file_no n) ≡ FileSpot
spot_at_file n h = grind (arith, nat_tests)
