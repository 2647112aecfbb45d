use Rattle.std.proofs.Common.{length, map}
use Rattle.cla_group.specs.Rows.{projected}
use Rattle.cla_group.proofs.Dictionaries.{AreFirst}
use Rattle.cla_group.proofs.dictionary.Dictionary.project.Given as goal

-- the tuples before tuple k have kept these places
abbrev pub invariant-loop-k : goal.invariant-loop-k
invariant-loop-k g l = record {
  first : AreFirst (length l.places) l.k (map (projected l.places) l.self.tuples) (map g.N.Number.value l.values.items);
}
