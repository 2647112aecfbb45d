use Rattle.cla_coded.specs.AnyGroups.{any_codes, any_dictionary}
use Rattle.cla_coded.specs.Forms.{kinds_of, forms_of}
use Rattle.cla_coded.specs.Parts.{parts_of}
use Rattle.cla_cocode.specs.Built.{AreOwnForms}
use Rattle.cla_cocode.specs.Cuts.{cut_seen}
use Rattle.cla_pack_writer.specs.Groups.{HaveTheirRests}
use Rattle.cla_pack_writer.proofs.Rests.{rests_of_forms}
use Rattle.cla_pack.proofs.Packing.{on_ok, built_by_rule}
use Rattle.cla_pack.proofs.pack.packed_table.Goals as goal

pub returns-clause-rests : goal.returns-clause-rests
returns-clause-rests g c =
    on_ok (λ t. AreOwnForms (forms_of t) (parts_of any_codes any_dictionary t.parts))
    (λ t. HaveTheirRests t) c.build.result
    (λ t own. rests_of_forms t own) c.build.ensures.forms

pub returns-clause-by_rule : goal.returns-clause-by_rule
returns-clause-by_rule g c =
    built_by_rule any_codes any_dictionary kinds_of g.N.Number.BITS g.N.Number.value c.args.m.now c.cells.result.now
    (cut_seen c.in_ok-cut.cut) c.build.result c.cells.ensures.cells c.cells.ensures.shape c.in_ok-cut.ensures.rule
    c.build.ensures.stands c.build.ensures.columns c.build.ensures.kinds c.build.ensures.canonical
