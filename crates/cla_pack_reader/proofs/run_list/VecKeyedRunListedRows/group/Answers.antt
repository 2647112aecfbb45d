use Rattle.cla_runs.specs.Members.{runs_codes, runs_dictionary, runs_rest}
use Rattle.cla_pack_reader.proofs.GroupForms.{runs_formed, same_body}
use Rattle.cla_pack_reader.proofs.GroupParts.{runs_grouped}
use Rattle.cla_pack_reader.proofs.run_list.VecKeyedRunListedRows.group.Goals as goal

pub from_runs-requires : goal.from_runs-requires
from_runs-requires g c =
    let w = c.requires in record {
      runs = (
        w.0,
        w.1,
        w.2,
        runs_grouped c.args.self.items w.0 c.args.rows _ c.args.rest c.args._first w.3,
      );
    }

pub returns-clause-form : goal.returns-clause-form
returns-clause-form g c = runs_formed (runs_codes c.in_ok-group.group) (runs_dictionary c.in_ok-group.group)
    (runs_rest c.in_ok-group.group) c.in_ok-group.ensures.rest

pub returns-clause-body : goal.returns-clause-body
returns-clause-body g c codes h =
    same_body _ _ _ _ (c.in_ok-group.ensures.codes codes
    (runs_grouped c.args.self.items codes c.args.rows _ c.args.rest c.args._first h)) c.in_ok-group.ensures.dictionary
