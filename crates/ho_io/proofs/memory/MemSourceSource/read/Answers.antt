use Rattle.std.proofs.Common.{◌≡◌, ◌∙◌, take, drop, refl, ap, rules}
use Rattle.std.proofs.lemmas.List.{take_rest}
use Rattle.ho_io.proofs.Bytes.{next_told}
use Rattle.ho_io.proofs.memory.MemSourceSource.read.Goals as goal

pub returns-clause-taken : goal.returns-clause-taken
returns-clause-taken c =
    let n = c.copy_front-count.result in
    let left : c.args.self.now.left ≡ drop c.self.inside.at c.self.inside.bytes.items = search rules in
    let copied : take n c.copy_front-count.new.buf ≡ take n (drop c.self.inside.at c.self.inside.bytes.items) =
    c.copy_front-count.ensures.copied ∙ ap (take n) (take_rest c.deref-2.result.now c.self.inside.at) ∙ ap (λ xs. take n (drop c.self.inside.at xs)) c.deref-2.ensures.value in
    next_told _ _ _ _ _ _ left refl copied
