use Rattle.std.proofs.Common.{◌≡◌, map, take}
use Rattle.cla_coded.specs.AnyGroups.{any_codes, any_dictionary, any_form}
use Rattle.cla_coded.specs.Parts.{parts_of}
use Rattle.cla_cocode.specs.Built.{AreBuilt, AreInForm}
use Rattle.cla_cocode.proofs.built.built_parts.Given as goal

-- the parts so far
abbrev pub invariant-loop-group : goal.invariant-loop-group
invariant-loop-group g l = record {
  columns : map (λ p. p.columns.items) l.parts.items ≡ take l.group-index (map (λ g. g.columns.items) l.groups);
  kinds : map (λ p. (any_form p.group).kind) l.parts.items ≡ take l.group-index (map (λ g. g.kind) l.groups);
  built : AreBuilt g.N.Number.BITS l.m (parts_of any_codes any_dictionary l.parts.items);
  in_form : AreInForm (map (λ p. any_form p.group) l.parts.items) (parts_of any_codes any_dictionary l.parts.items);
}
