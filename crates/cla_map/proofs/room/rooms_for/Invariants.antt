use Rattle.std.proofs.Common.{◌≡◌, map, take}
use Rattle.cla_map.proofs.room.rooms_for.Given as goal

-- the parts before part-index
abbrev pub invariant-loop-part : goal.invariant-loop-part
invariant-loop-part g l = map (λ r. r.part.now) l.rooms.items ≡ take l.part-index l.parts
