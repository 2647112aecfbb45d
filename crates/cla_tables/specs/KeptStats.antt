-- What is told of a group by what is kept of it.
use Rattle.std.specs.Prelude.{ℕ, length}
use Rattle.std.specs.declared.cmp.Ord as ord
use Rattle.std.specs.declared.cmp.PartialEq as partial_eq
use Rattle.std.specs.declared.cmp.PartialOrd as partial_ord
use Rattle.std.specs.declared.hash.Hash as hash
use Rattle.cla_num.specs.declared.number.Number as number
use Rattle.cla_layout.specs.declared.kind.Kind.{Kind}
use Rattle.cla_layout.specs.Groups.{IsGroup}
use Rattle.cla_layout.specs.Layouts.{LayoutPart}
use Rattle.cla_layout.specs.Listed.{rest_of}
use Rattle.cla_grouping.specs.Tuples.{TuplesOf}
use Rattle.cla_grouping.specs.Sizes.{bytes_of, figures_of}
use Rattle.cla_coded.specs.declared.any_group.AnyGroup.{AnyGroup}
use Rattle.cla_coded.specs.declared.part.Part.{Part}
use Rattle.cla_coded.specs.AnyGroups.{any_codes, any_dictionary, any_form}
use Rattle.cla_coded.specs.Parts.{part_of}
use Rattle.cla_pack_reader.specs.Kept.{HasItsForm}
use Rattle.cla_tables.specs.declared.stats.GroupStats.{GroupStats}

-- the tuples of a part, and the one that isn't listed
abbrev pub tuples_kept : LayoutPart → TuplesOf
tuples_kept part = record {
  width = length part.columns;
  distinct = length part.tuples;
  codes = part.codes;
  zero = rest_of part.codes part.tuples;
}

module _ {N : Type 0} {n : number.Ghosts N} {o : ord.Ghosts N} {e : partial_eq.Ghosts N} {p : partial_ord.Ghosts N}
    {h : hash.Ghosts N} where
  abbrev pub part_seen : Part (AnyGroup N n o e p h) → LayoutPart
  part_seen part = part_of any_codes any_dictionary part

  abbrev pub kind_kept : Part (AnyGroup N n o e p h) → Kind
  kind_kept part = (any_form part.group).kind

  -- the bytes of a part in the kind of its group
  abbrev pub bytes_kept : Part (AnyGroup N n o e p h) → ℕ
  bytes_kept part = bytes_of (kind_kept part) (figures_of (tuples_kept (part_seen part)))

  abbrev pub stats_kept : Part (AnyGroup N n o e p h) → GroupStats
  stats_kept part = record {
    kind = kind_kept part;
    width = length part.columns.items;
    tuples = length (any_dictionary part.group);
    bytes = bytes_kept part;
  }

  -- a part whose group is kept in the form of its kind
  pub record IsKeptPart (part : Part (AnyGroup N n o e p h)) : Type 0 where
    pub group : IsGroup n.BITS (length part.columns.items) (any_codes part.group) (any_dictionary part.group)
    pub form : HasItsForm part
