use Rattle.std.proofs.Common.{[], sym, arith}
use Rattle.std.proofs.lemmas.List.{drop_all}
use Rattle.cla_io.proofs.MemMap.{told_by_get}
use Rattle.cla_io.proofs.mem_map.rest_of.Goals as goal

pub returns-in-Some-clause-rest : goal.returns-in-Some-clause-rest
returns-in-Some-clause-rest c =
    rw (told_by_get c.args.name.now c.args.files.now c.get.result c.get.ensures.value, c.in-Some.is)
    (rw c.deref.ensures.value at c.rest_from.ensures.rest)

pub returns-in-None-clause-rest : goal.returns-in-None-clause-rest
returns-in-None-clause-rest c =
    rw (told_by_get c.args.name.now c.args.files.now c.get.result c.get.ensures.value, c.in-None.is)
    (sym (drop_all c.args.place [] (omega arith)))
