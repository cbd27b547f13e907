-- What the tests of a state compute of a file.
use Rattle.std.specs.Prelude.{◌&&◌, Bool, true, false, nat_le}
use Rattle.ho_base.specs.declared.limits.TheConstants.{FILE_BYTES, MAX_ORDER}
use Rattle.ho_base.specs.declared.numbers.Kind.{Kind}
use Rattle.ho_base.specs.declared.numbers.Kind.TheVariants.{Memfd, Dev0, Dev1, Dev2, Dev3}
use Rattle.record_frames.specs.declared.carried.CarriedFile.{CarriedFile}

-- a memfd, and no device file
abbrev pub is_memfd_kind : Kind → Bool
is_memfd_kind Memfd = true
is_memfd_kind Dev0 = false
is_memfd_kind Dev1 = false
is_memfd_kind Dev2 = false
is_memfd_kind Dev3 = false

abbrev pub is_memfd : CarriedFile → Bool
is_memfd f = is_memfd_kind f.kind

-- order, size and position of a file are within the limits
abbrev pub has_limits : CarriedFile → Bool
has_limits f = nat_le f.order.0 MAX_ORDER && nat_le f.size FILE_BYTES && nat_le f.position f.size
