use Rattle.cla_io.proofs.MemMap.{told_updated}
use Rattle.cla_io.proofs.mem_map.make_empty.Goals as goal

pub returns-in-Ok-clause-told : goal.returns-in-Ok-clause-told
returns-in-Ok-clause-told c =
    rw (← c.requires) (told_updated c.args.files.now c.insert.new.self c.args.name c.args.empty
    c.in-Ok.ensures.updates.0)
