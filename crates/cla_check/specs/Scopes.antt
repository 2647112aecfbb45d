-- What contracts see of a scope, and what a statement makes of it.
use Rattle.std.specs.Prelude.{◌≡◌, Option, Some, None, Result, Ok, Err}
use Rattle.cla_check.specs.Scripts as scripts
use Rattle.cla_check.specs.Names.{names_of}
use Rattle.cla_check.specs.declared.scope.Scope.{Scope}
use Rattle.cla_check.specs.declared.fault.Fault.{Fault}
use Rattle.cla_check.specs.declared.fault.ShapeFault.{ShapeFault}
use Rattle.cla_check.specs.declared.fault.ShapeFault.TheVariants.{At, Memory}

abbrev pub scope_of : Scope → scripts.Scope
scope_of s = record { names = names_of s.names.items; inputs = s.inputs.now }

-- the scope after a statement, or the statement's first fault; memory may be wanting
abbrev pub Takes : Result Scope ShapeFault → Result scripts.Scope Fault → Type 0
Takes (Ok s) t = t ≡ Ok (scope_of s)
Takes (Err Memory) t = Unit {0}
Takes (Err (At p k)) t = t ≡ Err (record { place = p; kind = k })

-- whether there is a fault, and which is the first; memory may be wanting
abbrev pub Finds : Result Unit ShapeFault → Option Fault → Type 0
Finds (Ok u) t = t ≡ None
Finds (Err Memory) t = Unit {0}
Finds (Err (At p k)) t = t ≡ Some (record { place = p; kind = k })
