-- Files whose size may change.
use Rattle.std.specs.Prelude.{◌≡◌, false}
use Rattle.ho_base.specs.declared.numbers.Kind.TheVariants.{Memfd}
use Rattle.ho_base.specs.declared.numbers.Order.{Order}
use Rattle.ho_events.specs.File.{FileState}

-- a memfd of an order that no session has
pub record IsFree (o : Order) (f : FileState) : Type 0 where
  pub kind : f.kind ≡ Memfd
  pub order : f.order ≡ o.0
  pub pin : f.pin ≡ false
  pub hold : f.hold ≡ false
