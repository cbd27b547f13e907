-- The memory that a boot takes before its page allocator opens.
use Rattle.std.specs.Prelude.{◌≡◌, ℕ, ◌≤◌, List, [], length, map}
use Rattle.std.specs.Vec.{vec_capacity}
use Rattle.ho_base.specs.declared.limits.TheConstants.{OUT_SLOTS}
use Rattle.machine_core.specs.Kernels.{AreWaiting}
use Rattle.record_frames.specs.declared.carried.CarriedSession.{CarriedSession}
use Rattle.registry_core.specs.Registries.{waiting_registry}
use Rattle.kexec_boot.specs.Files.{plain_in, runs_in}
use Rattle.kexec_boot.specs.Waiting.{waiting_from}
use Rattle.kexec_boot.specs.declared.prepared.Prepared.{Prepared}
use Rattle.kexec_boot.specs.declared.prepared.Store.{Store}

-- room for so many folios and so many files, and none of them yet
pub record HasRoomFor (folios files : ℕ) (s : Store) : Type 0 where
  pub no_folio : s.folios.items ≡ []
  pub folio_room : folios ≤ vec_capacity s.folios
  pub no_file : s.files.items ≡ []
  pub file_room : files ≤ vec_capacity s.files

-- What a boot has prepared for these sessions: a registry in which their names wait; the sessions, which wait in the incoming slots;
-- their files with their runs, and room for them.
pub record IsPrepared (ss : List CarriedSession) (p : Prepared) : Type 0 where
  pub registry : p.registry.start ≡ waiting_registry (map (λ s. s.name) ss) (length (plain_in ss))
  pub no_entries : p.registry.history ≡ []
  pub sessions : map (λ s. s.start) p.sessions.items ≡ waiting_from 0 ss
  pub waiting : AreWaiting OUT_SLOTS p.sessions.items
  pub count : length p.sessions.items ≡ length ss
  pub files : p.files.items ≡ plain_in ss
  pub runs : p.runs.items ≡ runs_in ss
  pub store : HasRoomFor (length (runs_in ss)) (length (plain_in ss)) p.store
