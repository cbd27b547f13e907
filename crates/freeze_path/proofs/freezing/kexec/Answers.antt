use Rattle.std.proofs.Common.{◌∙◌, sym, ap}
use Rattle.ho_base.specs.declared.numbers.Pfn.{Pfn}
use Rattle.phys_frames.specs.Memory.{FolioValue}
use Rattle.freeze_path.proofs.Handing.{first_of, hands_on, memfds, same_shape}
use Rattle.freeze_path.proofs.freezing.kexec.Goals as goal

pub returns-clause-carries : goal.returns-clause-carries
returns-clause-carries c = λ w of. hands_on c.args.kernel c.args.frozen c.gather-frames.result _ w c.requires.made of c.gather-frames.ensures.count c.gather-frames.ensures.files c.gather-frames.ensures.folios
    (ap (λ (p : Pfn). p.0) (c.first-entry.ensures.value ∙ ap (λ (f : FolioValue). f.first) c.index.ensures) ∙ sym (first_of c.args.frozen.folios.items _ c.requires.made.some))

pub returns-clause-same_shape : goal.returns-clause-same_shape
returns-clause-same_shape c = λ w of. same_shape c.args.kernel c.args.frozen c.gather-frames.result w c.requires.made of c.gather-frames.ensures.count c.gather-frames.ensures.files

pub returns-clause-memfds : goal.returns-clause-memfds
returns-clause-memfds c = λ w of. memfds c.args.kernel c.args.frozen c.gather-frames.result w c.requires.made of c.gather-frames.ensures.count c.gather-frames.ensures.files
