use Rattle.std.proofs.Common.{rules, ap, ◌∙◌}
use Rattle.turns_table.proofs.Outs.{none_out}
use Rattle.turns_table.specs.Views.{role}
use Rattle.turns_table.proofs.Splits.{joins, role_merge}
use Rattle.turns_table.proofs.Handed.{number_of, sound_at, sound_joined}
use Rattle.turns_table.proofs.Booked.{logged_at, logged_joined, numbered_joined}
use Rattle.turns_table.proofs.turns.Turns.join.Goals as goal

pub join_seat-requires : goal.join_seat-requires
join_seat-requires g c = let sound = c.args.ended.sound in (
  search rules,
  search rules,
  none_out c.args.ended.seat.me.0.held c.args.ended.seat.me.1 sound.0 c.requires.free,
  search rules,
  joins g.T.Chronicle.start g.T.Recorded.history g.T.Chronicle.balanced _ _ _ c.args.keep.now.seat.me.0 c.args.ended.seat.me.0 (number_of _ c.args.keep.now.seat.me c.args.keep.now.sound) (number_of _ c.args.ended.seat.me sound) c.requires.free,
)

pub invariant_of-keep : goal.invariant_of-keep
invariant_of-keep g c = let e = c.join_seat.ensures in record {
  sound = sound_at c.args.keep.now.seat.table_id.slots _ _ _ (ap (λ z. z.slots) e.0) e.2 (sound_joined c.args.keep.now.seat.table_id.slots c.args.ended.seat.table_id.slots c.args.keep.now.seat.me c.args.ended.seat.me c.args.keep.now.sound c.args.ended.sound);
  logged = logged_at _ _ _ _ (ap (λ m. m.0) e.2) (logged_joined c.args.keep.now.seat.me.0 c.args.ended.seat.me.0 _ _ _ _ _ _ c.args.keep.now.logged c.args.ended.logged c.take_in.ensures.logs c.take_in.ensures.has);
  numbered = numbered_joined _ _ _ _ _ c.take_in.ensures.has c.take_in.ensures.number c.args.keep.now.numbered;
}

pub returns-clause-roles : goal.returns-clause-roles
returns-clause-roles g c = let e = c.join_seat.ensures in λ a. ap (λ m. role m.0 a) e.2 ∙ role_merge c.args.keep.now.seat.me.0.roles c.args.ended.seat.me.0.roles a
