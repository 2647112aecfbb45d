use Rattle.cla_pack_reader.proofs.group.read_group.Goals as goal

pub returns-in-Offsets-clause-exact : goal.returns-in-Offsets-clause-exact
returns-in-Offsets-clause-exact g c = rw c.in-Offsets.is c.listed_group.ensures.exact

pub returns-in-Runs-clause-exact : goal.returns-in-Runs-clause-exact
returns-in-Runs-clause-exact g c = rw c.in-Runs.is c.listed_group-in-Runs.ensures.exact
