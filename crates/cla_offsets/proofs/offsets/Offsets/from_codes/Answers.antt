use Rattle.cla_offsets.proofs.offsets.Offsets.from_codes.Goals as goal

pub of_values-dictionary-requires : goal.of_values-dictionary-requires
of_values-dictionary-requires g c = (c.args.codes.now, c.requires.codes)

pub of_codes-requires : goal.of_codes-requires
of_codes-requires g c = c.of_values-dictionary.ensures.group c.args.codes.now c.requires.codes
