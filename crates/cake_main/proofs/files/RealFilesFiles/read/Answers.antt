use Rattle.cake_main.proofs.Appended.{rest_of}
use Rattle.cake_main.proofs.files.RealFilesFiles.read.Goals as goal

pub returns-in-Ok-clause-gives : goal.returns-in-Ok-clause-gives
returns-in-Ok-clause-gives g c =
    let r = rest_of c.args.into.now.items c.fetch.new.into.items c.fetch.ensures.front c.in-Ok.ensures.size in (r.0, r.1, r.2, tt)
