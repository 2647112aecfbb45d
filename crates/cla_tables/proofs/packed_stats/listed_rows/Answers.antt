use Rattle.std.proofs.Common.{ℕ, Option, ap, sym, ◌∙◌, arith}
use Rattle.cla_grouping.specs.Sizes.{listed_rows_of}
use Rattle.cla_coded.specs.AnyGroups.{any_codes}
use Rattle.cla_tables.proofs.KeptBytes.{all_rows_listed, other_rows_listed}
use Rattle.cla_tables.proofs.packed_stats.listed_rows.Goals as goal

pub returns-in-None : goal.returns-in-None
returns-in-None g c =
    let codes = any_codes c.args.group.now in
    c.rows.ensures ∙ sym (all_rows_listed codes)
    ∙ ap (λ (rest : Option ℕ). listed_rows_of rest codes) (sym c.in-None.is)

pub returns-in-Some : goal.returns-in-Some
returns-in-Some g c =
    let codes = any_codes c.args.group.now in
    omega (
      arith,
      c.rows-in-Some.ensures,
      c.occurrences.ensures,
      other_rows_listed codes c.in-Some.k,
      ap (λ (rest : Option ℕ). listed_rows_of rest codes) c.in-Some.is,
    )
