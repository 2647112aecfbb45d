use Rattle.std.proofs.Common.{length}
use Rattle.cla_pack_reader.proofs.ListedCodes.{all_codes, whole_dictionary}
use Rattle.cla_pack_reader.proofs.listed.ListedTuples.dictionary.Goals as goal

pub of_values-requires : goal.of_values-requires
of_values-requires g c =
    let w = c.requires.owners in (
      w.1,
      all_codes w.0 c.args.width c.args.self.count w.1 w.2 w.3 (length c.args.self.values.items)
          c.requires.tuples.whole,
    )

pub returns : goal.returns
returns g c rows owners cells all =
    whole_dictionary g.N.Number.value c.args.width c.args.self.count c.args.self.values.items c.requires.tuples
    g.N.Number.BITS rows owners c.of_values.result cells all c.of_values.ensures.value c.of_values.ensures.group
