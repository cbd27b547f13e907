use Rattle.freeze_path.proofs.SoundKernel.{owns_runs}
use Rattle.freeze_path.proofs.ready.prepare.Goals as goal

pub returns : goal.returns
returns c = record {
  sound = c.requires.sound;
  pool = c.has_pool.ensures;
  sessions = record { registry = c.have_sessions.ensures.registry; slots = c.have_sessions.ensures.slots };
  gathered = c.in_ok-carried.ensures.gathered;
  can = c.in_ok-carried.ensures.can;
  accounted = owns_runs c.args.kernel.now c.requires.sound c.has_no_devices.ensures.memfds;
  devices = c.has_no_devices.ensures.devices;
  marks = c.in_ok-tracker.ensures;
  prepared = c.in_ok-prepared.ensures;
  need_is = c.frames_for-need.ensures;
}

pub tracker_of-requires-clause-bounds : goal.tracker_of-requires-clause-bounds
tracker_of-requires-clause-bounds c = c.in_ok-carried.ensures.gathered.bounds
