use Rattle.std.proofs.Common.{◌≡◌, List, get_or, ap, sym, ◌∙◌}
use Rattle.cla_print.specs.Texts.{matrix_text}
use Rattle.cla_coded.specs.declared.part.Part.{Part}
use Rattle.cla_coded.specs.AnyGroups.{any_codes, any_dictionary, any_columns, any_law}
use Rattle.cla_cli.proofs.TableLaws.{one_part, text_is}
use Rattle.cla_cli.proofs.table.Table.print.Goals as goal

pub returns-clause-puts : goal.returns-clause-puts
returns-clause-puts g c =
    let t = c.self.inside.coded in
    let one = one_part any_codes t c.self.inside.is_loose in
    let g0 = (get_or c.parts.result.now 0 c.index-parts-0.result).group in
    let same : one.part.group ≡ g0 =
    sym (ap (λ (l : List (Part _)). (get_or l 0 c.index-parts-0.result).group) (c.parts.ensures.parts ∙ one.only))
    in
    let text = text_is g.N.Number.BITS (any_columns g0) any_codes any_dictionary t g0 c.self.inside.is_loose
    c.self.inside.is_whole one same (any_law g0) in
    rw (text ∙ ap matrix_text c.self.view_is) at c.print_rows.ensures.puts
