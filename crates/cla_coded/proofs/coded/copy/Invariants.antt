use Rattle.std.proofs.Common.{◌≡◌, map, take}
use Rattle.cla_coded.specs.Outlines.{outline}
use Rattle.cla_coded.specs.Parts.{part_of}
use Rattle.cla_coded.specs.AnyGroups.{any_columns, any_codes, any_dictionary, any_form}
use Rattle.cla_coded.proofs.coded.copy.Given as goal

-- the parts so far
abbrev pub invariant-loop-part : goal.invariant-loop-part
invariant-loop-part g l = record {
  outlines : map (outline any_columns any_codes) l.parts.items
      ≡ take l.part-index (map (outline any_columns any_codes) l.part-items);
  parts : map (part_of any_codes any_dictionary) l.parts.items
      ≡ take l.part-index (map (part_of any_codes any_dictionary) l.part-items);
  forms : map (λ part. any_form part.group) l.parts.items
      ≡ take l.part-index (map (λ part. any_form part.group) l.part-items);
}
