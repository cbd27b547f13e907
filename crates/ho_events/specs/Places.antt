-- Where an entry stands.
use Rattle.std.specs.Prelude.{ℕ}
use Rattle.ho_events.specs.declared.entry.Place.{Place}
use Rattle.ho_events.specs.declared.entry.Place.TheVariants.{Object}

-- the place of the object with this number
abbrev pub object_at : ℕ → Place
object_at n = Object (record { 0 = n })
