use Rattle.std.proofs.Common.{◌<◌, ℕ, List}
use Rattle.cla_layout.specs.Groups.{first_row_of}
use Rattle.cla_packed.specs.Lists.{lists_of}
use Rattle.cla_pack_reader.specs.ListedParts.{HasRest}
use Rattle.cla_pack_reader.specs.ListedRows.{AreListsOf}
use Rattle.cla_pack_reader.proofs.list.GroupedListedRows.rest_code.Given as goal

-- the tuples so far begin before that row
abbrev pub invariant-loop-t : goal.invariant-loop-t
invariant-loop-t l = (rows : ℕ) (owners : List ℕ) → HasRest rows l.d owners l.first
    → AreListsOf (lists_of l.d owners) l.self.starts.items l.self.places.items → (k : ℕ) → k < l.t
    → first_row_of owners k < l.first
