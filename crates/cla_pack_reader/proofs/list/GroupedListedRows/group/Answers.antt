use Rattle.cla_offsets.specs.Members.{offsets_codes, offsets_dictionary, offsets_rest}
use Rattle.cla_pack_reader.proofs.GroupForms.{offsets_formed, same_body}
use Rattle.cla_pack_reader.proofs.GroupParts.{lists_grouped}
use Rattle.cla_pack_reader.proofs.list.GroupedListedRows.group.Goals as goal

pub from_lists-requires : goal.from_lists-requires
from_lists-requires g c =
    let w = c.requires in
    let lists = c.args.self in record {
      lists = (
        w.0,
        w.1,
        w.2,
        lists_grouped lists.starts.items lists.places.items w.0 c.args.rows _ c.args.rest c.args.first w.3,
      );
    }

pub returns-clause-form : goal.returns-clause-form
returns-clause-form g c = offsets_formed (offsets_codes c.in_ok-group.group) (offsets_dictionary c.in_ok-group.group)
    (offsets_rest c.in_ok-group.group) c.in_ok-group.ensures.rest

pub returns-clause-body : goal.returns-clause-body
returns-clause-body g c codes h =
    let lists = c.args.self in
    same_body _ _ _ _ (c.in_ok-group.ensures.codes codes
    (lists_grouped lists.starts.items lists.places.items codes c.args.rows _ c.args.rest c.args.first h))
    c.in_ok-group.ensures.dictionary
