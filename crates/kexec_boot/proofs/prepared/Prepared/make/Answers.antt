use Rattle.std.proofs.Common.{◌≡◌, length, ap, arith, rules}
use Rattle.kexec_boot.specs.Files.{plain_in, runs_in}
use Rattle.kexec_boot.proofs.CarriedParts.{files_count}
use Rattle.kexec_boot.proofs.FileSteps.{room_same}
use Rattle.kexec_boot.proofs.prepared.Prepared.make.Goals as goal

pub overflow_cast-len : goal.overflow_cast-len
overflow_cast-len c =
    let few = c.requires.wait.files in
    omega (arith, few, files_count c.args.carried.now, ap length c.in-Ok-plain_files.ensures, c.len.ensures, c.in-Ok-plain_files.files.ok.0)

pub waiting-requires-clause-within : goal.waiting-requires-clause-within
waiting-requires-clause-within c =
    let few = c.requires.wait.files in
    omega (arith, few, files_count c.args.carried.now, ap length c.in-Ok-plain_files.ensures, c.len.ensures, c.in-Ok-plain_files.files.ok.0)

pub returns-in-Ok-make : goal.returns-in-Ok-make
returns-in-Ok-make c =
    let runs : c.len-2.result ≡ length (runs_in c.args.carried.now) = omega (arith, c.len-2.ensures, ap length c.in-Ok-all_runs.ensures, c.in-Ok-all_runs.runs.ok.0) in
    let files : c.len-3.result ≡ length (plain_in c.args.carried.now) = omega (arith, c.len-3.ensures, ap length c.in-Ok-plain_files.ensures, c.in-Ok-plain_files.files.ok.0) in
    record {
      registry = search rules;
      no_entries = search rules;
      sessions = search rules;
      waiting = search rules;
      count = search rules;
      files = search rules;
      runs = search rules;
      store = room_same c.len-2.result c.len-3.result (length (runs_in c.args.carried.now)) (length (plain_in c.args.carried.now)) c.in_ok-store.store c.in_ok-store.ensures runs files;
    }
