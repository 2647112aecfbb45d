use Rattle.std.proofs.Common.{◌≡◌, drop}
use Rattle.std.specs.Option.{option_map}
use Rattle.cla_cli.specs.Statements.{latest, matrix_of}
use Rattle.cla_cli.proofs.names.table_of.Given as goal

-- what is left decides
abbrev pub invariant-loop-entry : goal.invariant-loop-entry
invariant-loop-entry g l = latest (option_map (λ t. t.now) l.held) (drop l.entry-index l.names) l.name
    ≡ matrix_of l.names l.name
