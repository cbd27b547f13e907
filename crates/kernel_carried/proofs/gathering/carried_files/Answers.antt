use Rattle.std.proofs.Common.{refl, rules}
use Rattle.session_core.specs.SessionShown.{reference}
use Rattle.kernel_carried.proofs.Carried.{no_files, one_file, file_of}
use Rattle.kernel_carried.proofs.gathering.carried_files.Goals as goal

pub loop-entry-init : goal.loop-entry-init
loop-entry-init c = λ w agrees. no_files c.args.kernel.now.objects w _ _ refl c.new-files.ensures.items

pub loop-entry-preserved : goal.loop-entry-preserved
loop-entry-preserved c = λ w agrees.
    one_file reference c.args.kernel.now.objects w c.args.listed.now c.loop-entry.entry-index (record { 0 = 0 }, record { 0 = 0 }, 0) c.loop-entry.files.items c.push.new.self.items c.in_ok-carried.carried
    c.loop-entry-test.true (c.loop-entry.invariant w agrees) (file_of c.args.kernel.now.objects w _ _ _ agrees c.file.ensures.at c.in_ok-carried.ensures) (search rules)
