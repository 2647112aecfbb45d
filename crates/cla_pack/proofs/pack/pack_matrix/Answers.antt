use Rattle.cla_coded.specs.AnyGroups.{any_codes, any_dictionary}
use Rattle.cla_coded.specs.Forms.{kinds_of}
use Rattle.cla_coded.specs.Tables.{layout_of}
use Rattle.cla_pack.proofs.Packing.{puts_file, read_back}
use Rattle.cla_pack.proofs.pack.pack_matrix.Goals as goal

pub returns-in-Ok-clause-puts : goal.returns-in-Ok-clause-puts
returns-in-Ok-clause-puts g c =
    puts_file g.N.Number.BITS c.args.m.now (layout_of any_codes any_dictionary c.in-Ok.table)
    (kinds_of c.in-Ok.table) (g.O.Sink.told c.args.out.now) (g.O.Sink.told c.write_packed.new.out)
    c.write_packed.result c.in-Ok.ensures.by_rule c.in-Ok.ensures.kinds c.write_packed.ensures.puts

pub returns-in-Ok-clause-readable : goal.returns-in-Ok-clause-readable
returns-in-Ok-clause-readable g c =
    let layout = layout_of any_codes any_dictionary c.in-Ok.table in
    let told = g.O.Sink.told in
    read_back g.N.Number.BITS layout (kinds_of c.in-Ok.table) (told c.args.out.now) (told c.write_packed.new.out)
    c.write_packed.result
    (rw c.in-Ok.ensures.kinds c.in-Ok.ensures.by_rule.canonical)
    c.write_packed.ensures.puts
