use Rattle.cla_runs.proofs.runs.Runs.from_codes.Goals as goal

pub of_values-dictionary-requires : goal.of_values-dictionary-requires
of_values-dictionary-requires g c = (c.args.codes.now, c.requires.codes)

pub of_rows-requires : goal.of_rows-requires
of_rows-requires g c = c.of_values-dictionary.ensures.group c.args.codes.now c.requires.codes
