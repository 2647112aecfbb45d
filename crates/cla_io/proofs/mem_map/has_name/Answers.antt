use Rattle.cla_io.proofs.MemMap.{told_by_get}
use Rattle.cla_io.proofs.mem_map.has_name.Goals as goal

pub returns-in-Some : goal.returns-in-Some
returns-in-Some c = rw (told_by_get c.args.name.now c.args.files.now c.get.result c.get.ensures.value, c.in-Some.is)

pub returns-in-None : goal.returns-in-None
returns-in-None c = rw (told_by_get c.args.name.now c.args.files.now c.get.result c.get.ensures.value, c.in-None.is)
