use Rattle.std.proofs.Common.{◌+◌, length, refl}
use Rattle.kho_writer.proofs.Steps.{put_is}
use Rattle.kho_writer.proofs.entry.put.put.Goals as goal

pub returns-clause-put : goal.returns-clause-put
returns-clause-put c =
    put_is c.args.folio.now c.write.new.self c.args.at (c.args.at + length c.args.bytes.now) c.args.bytes.now c.requires.size c.requires.room refl c.write.ensures
