use Rattle.std.proofs.Common.{length, get_or, ap, ◌+◌, ◌∙◌}
use Rattle.file_folios.proofs.Extended.{overwritten_length}
use Rattle.memfd_file.proofs.Overwriting.{overwritten_within, overwritten_before, overwritten_after}
use Rattle.memfd_file.proofs.FileSteps.{bytes_after}
use Rattle.memfd_file.proofs.laws.law_of_writing.Goals as goal

pub returns-clause-written : goal.returns-clause-written
returns-clause-written c f g off i new fills h within = ap (λ b. get_or b (off + i) 0) (bytes_after f g off new fills h) ∙ overwritten_within off i new f.bytes within

pub returns-clause-before : goal.returns-clause-before
returns-clause-before c f g off i new fills h before = ap (λ b. get_or b i 0) (bytes_after f g off new fills h) ∙ overwritten_before off i new f.bytes before

pub returns-clause-after : goal.returns-clause-after
returns-clause-after c f g off i new fills h after = ap (λ b. get_or b i 0) (bytes_after f g off new fills h) ∙ overwritten_after off i new f.bytes after

pub returns-clause-size : goal.returns-clause-size
returns-clause-size c f g off new fills h = ap length (bytes_after f g off new fills h) ∙ overwritten_length off new f.bytes
