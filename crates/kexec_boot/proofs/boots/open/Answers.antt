use Rattle.std.proofs.Common.{◌≡◌, map, ◌∙◌}
use Rattle.kexec_boot.specs.Files.{states_with}
use Rattle.kexec_boot.proofs.OpenSteps.{can_adopt, enough, fit, states_are, few_files, begins_as, finished}
use Rattle.kexec_boot.proofs.boots.open.Goals as goal

pub adopt-requires-clause-free : goal.adopt-requires-clause-free
adopt-requires-clause-free c =
    can_adopt c.args.frames c.args.carried c.args.prepared c.requires.prepared c.requires.can c.requires.memfds c.deref.result.now c.deref.ensures.value

pub adopt-requires-clause-spare : goal.adopt-requires-clause-spare
adopt-requires-clause-spare c =
    enough c.args.frames c.args.carried c.args.prepared c.requires.prepared c.requires.can c.requires.memfds c.deref.result.now c.deref.ensures.value

pub hold_all-held-requires-clause-fits : goal.hold_all-held-requires-clause-fits
hold_all-held-requires-clause-fits c =
    fit c.args.frames c.args.carried c.args.prepared c.requires.prepared c.requires.can c.requires.memfds c.deref.result.now c.deref.ensures.value c.in-Ok.pool.home c.adopt.new.out.items c.deref-in-Ok.result.now
    c.in-Ok.ensures.home c.in-Ok.ensures.folios c.deref-in-Ok.ensures.value

pub hold_all-held-requires-clause-few : goal.hold_all-held-requires-clause-few
hold_all-held-requires-clause-few c =
    few_files c.args.frames c.args.carried c.args.prepared c.requires.prepared c.requires.can c.requires.memfds c.deref-in-Ok.result.now c.deref-in-Ok.ensures.value

pub returns-in-Ok-clause-begins : goal.returns-in-Ok-clause-begins
returns-in-Ok-clause-begins c =
    finished c.args.number _ c.begin-kernel.result c.hold_all-held.result (map (λ f. f.start) c.hold_all-held.new.store.files.items ≡ states_with c.deref-in-Ok.result.now c.adopt.new.out.items) c.finish.result c.finish.ensures.kernel
    c.finish.ensures.held c.hold_all-held.ensures.starts
    (λ starts.
    begins_as c.args.frames c.args.carried c.args.prepared c.requires.prepared c.requires.can c.requires.memfds c.args.number c.begin-kernel.result c.in-Ok.pool.start (map (λ f. f.start) c.hold_all-held.new.store.files.items)
    c.deref.result.now c.law_of_the_pool.ensures c.law_of_the_registry.ensures c.law_of_sessions.ensures c.deref.ensures.value c.in-Ok.ensures.start
    (states_are c.args.frames c.args.carried c.args.prepared c.requires.prepared c.requires.can c.requires.memfds c.deref.result.now c.deref.ensures.value (map (λ f. f.start) c.hold_all-held.new.store.files.items) c.adopt.new.out.items
    c.deref-in-Ok.result.now c.in-Ok.ensures.folios c.deref-in-Ok.ensures.value starts)
    c.begin-kernel.ensures.number c.begin-kernel.ensures.updates (c.begin-kernel.ensures.shape ∙ c.in-Ok.ensures.shape) c.begin-kernel.ensures.begun c.begin-kernel.ensures.histories c.begin-kernel.ensures.labels c.begin-kernel.ensures.base)
