use Rattle.std.proofs.Common.{◌≡◌, drop}
use Rattle.cla_check.specs.Shapes.{latest, name_shape}
use Rattle.cla_check.specs.Names.{names_of}
use Rattle.cla_check.proofs.names.name_shape.Given as goal

-- what is left decides
abbrev pub invariant-loop-entry : goal.invariant-loop-entry
invariant-loop-entry l =
    latest l.held (names_of (drop l.entry-index l.names)) l.name ≡ name_shape (names_of l.names) l.name
