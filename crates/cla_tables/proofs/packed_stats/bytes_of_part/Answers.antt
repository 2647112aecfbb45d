use Rattle.std.proofs.Common.{rules, ◌≡◌, ℕ, Option, length, ap, sym, ◌∙◌, arith}
use Rattle.cla_layout.specs.Listed.{rest_of}
use Rattle.cla_grouping.specs.declared.sizes.Figures.{Figures}
use Rattle.cla_grouping.specs.Sizes.{listed_of}
use Rattle.cla_coded.specs.AnyGroups.{any_codes, any_dictionary, any_form}
use Rattle.cla_tables.specs.KeptStats.{part_seen, kind_kept}
use Rattle.cla_tables.proofs.KeptBytes.{figures_small, listed_few, listed_rows_few, listed_runs_few, runs_told}
use Rattle.cla_tables.proofs.KeptBytes.{runs_rest_is, runs_in}
use Rattle.cla_tables.proofs.packed_stats.bytes_of_part.Goals as goal

pub plain_size-requires : goal.plain_size-requires
plain_size-requires g c =
    let width : c.len.result ≡ length c.args.part.now.columns.items = search rules in
    figures_small g.N.Number.BITS (part_seen c.args.part.now) _ c.requires.group
    (record { width = width; rows = c.rows.ensures; distinct = c.tuples.ensures })
    (omega (arith, c.tuples.ensures, c.tuples-2.ensures)) (omega (arith, c.rows.ensures, c.rows-2.ensures))
    (omega arith)

pub codes_size-requires : goal.codes_size-requires
codes_size-requires g c =
    let width : c.len.result ≡ length c.args.part.now.columns.items = search rules in
    figures_small g.N.Number.BITS (part_seen c.args.part.now) _ c.requires.group
    (record { width = width; rows = c.rows.ensures; distinct = c.tuples.ensures })
    (omega (arith, c.tuples.ensures, c.tuples-2.ensures)) (omega (arith, c.rows.ensures, c.rows-2.ensures))
    (omega arith)

pub offsets_size-requires : goal.offsets_size-requires
offsets_size-requires g c =
    let width : c.len.result ≡ length c.args.part.now.columns.items = search rules in
    let codes = any_codes c.args.part.now.group in
    let tuples = length (any_dictionary c.args.part.now.group) in
    figures_small g.N.Number.BITS (part_seen c.args.part.now) _ c.requires.group
    (record { width = width; rows = c.rows.ensures; distinct = c.tuples.ensures })
    (omega (arith, c.tuples.ensures, c.listed_tuples.ensures, listed_few c.rest.result tuples))
    (omega (arith, c.rows.ensures, c.listed_rows.ensures, listed_rows_few c.rest-in-Offsets.result codes))
    (omega arith)

pub runs_size-requires : goal.runs_size-requires
runs_size-requires g c =
    let width : c.len.result ≡ length c.args.part.now.columns.items = search rules in
    let part = c.args.part.now in
    let codes = any_codes part.group in
    let rest = rest_of codes (any_dictionary part.group) in
    let tuples = length (any_dictionary part.group) in
    let runs = runs_in part c.in-Runs.runs c.in-Runs.is c.requires.form in
    let count = rw c.run_rows.ensures at c.count.ensures in
    figures_small g.N.Number.BITS (part_seen part) _ c.requires.group
    (record { width = width; rows = c.rows.ensures; distinct = c.tuples.ensures })
    (omega (arith, c.tuples.ensures, c.listed_tuples-in-Runs.ensures, listed_few c.rest-in-Runs.result tuples))
    (omega (arith, c.rows.ensures, c.rows-2.ensures))
    (omega (arith, c.rows.ensures, count, runs, listed_runs_few rest codes))

pub returns-in-Runs : goal.returns-in-Runs
returns-in-Runs g c =
    let width : c.len.result ≡ length c.args.part.now.columns.items = search rules in
    let part = c.args.part.now in
    let tuples = length (any_dictionary part.group) in
    let rest = c.rest-in-Runs.ensures.rest ∙ runs_rest_is part c.in-Runs.runs c.in-Runs.is c.requires.form in
    let count = rw c.run_rows.ensures at c.count.ensures in
    let figures : Figures = record {
      width = c.len.result;
      rows = c.rows.result;
      distinct = c.tuples.result;
      listed = c.listed_tuples-in-Runs.result;
      listed_rows = c.rows-2.result;
      listed_runs = c.count.result;
    } in
    runs_told (kind_kept part) (part_seen part) figures c.runs_size.result
    (sym (ap (λ x. (any_form x).kind) c.in-Runs.is))
    (record { width = width; rows = c.rows.ensures; distinct = c.tuples.ensures })
    (c.listed_tuples-in-Runs.ensures ∙ ap (λ (r : Option ℕ). listed_of r tuples) rest)
    (count ∙ runs_in part c.in-Runs.runs c.in-Runs.is c.requires.form) c.runs_size.ensures.value
