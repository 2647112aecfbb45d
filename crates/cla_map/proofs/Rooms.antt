-- The parts for which there is room.
use Rattle.std.proofs.Common.{◌≡◌, ℕ, ◌+◌, ◌<◌, ◌≤◌, List, [], ◌∷◌, ◌++◌, length, map, take, get_or, Option, Some, None}
use Rattle.std.proofs.Common.{ap, sym, ◌∙◌, arith}
use Rattle.std.specs.Iterator.{Yields}
use Rattle.std.specs.Vec.Iter.{into_iter_items, into_iter_len, into_iter_steps}
use Rattle.std.specs.declared.vec.IntoIter.{IntoIter}
use Rattle.std.proofs.lemmas.Iterator.Consumers.{YieldsList-turn, YieldsList-end}
use Rattle.std.proofs.lemmas.Iterator.Adapters.{YieldsList-from_vec}
use Rattle.std.proofs.lemmas.List.{get_or-map, length-map, map-append, take_more, take_all}

-- one part more has room
pub rooms_more : {R P : Type 0} (of : R → P) (rooms : List R) (room : R) (parts : List P) (q : ℕ) (part : P)
    → q < length parts
    → part ≡ get_or parts q part → map of rooms ≡ take q parts → of room ≡ part
    → map of (rooms ++ room ∷ []) ≡ take (q + 1) parts
rooms_more {P = P} of rooms room parts q part there is so_far same =
    map-append of rooms (room ∷ []) ∙ ap (λ (ps : List P). ps ++ of room ∷ []) so_far
    ∙ ap (λ (p : P). take q parts ++ p ∷ []) (same ∙ is) ∙ sym (take_more parts q part there)

-- each part has room
pub rooms_all : {R P : Type 0} (of : R → P) (rooms : List R) (parts : List P) (q : ℕ) → length parts ≤ q
    → map of rooms ≡ take q parts → map of rooms ≡ parts
rooms_all of rooms parts q past so_far = so_far ∙ take_all q parts past

rooms_count : {R P : Type 0} (of : R → P) (rooms : List R) (parts : List P) → map of rooms ≡ parts
    → length rooms ≡ length parts
rooms_count {P = P} of rooms parts are = sym (length-map rooms of) ∙ ap (λ (ps : List P). length ps) are

room_read : {R P : Type 0} (of : R → P) (rooms : List R) (parts : List P) (q : ℕ) (room : R) → map of rooms ≡ parts
    → q < length rooms → room ≡ get_or rooms q room → of room ≡ get_or parts q (of room)
room_read {P = P} of rooms parts q room are there is =
    ap of is ∙ sym (get_or-map of rooms q room (of room) there) ∙ ap (λ (ps : List P). get_or ps q (of room)) are

-- a loop over the rooms of these parts, which has taken xs
module _ {R P Z : Type 0} (of : R → P) (s : IntoIter R Z) (rooms : List R) (parts : List P) (are : map of rooms ≡ parts)
    (items : into_iter_items s ≡ rooms) (len : into_iter_len s ≡ length rooms)
    (xs : List R) (t : IntoIter R Z) (y : Yields into_iter_steps s xs t) (next : Option R) (u : IntoIter R Z)
    (steps : into_iter_steps t next u) where
  pub room_turn : (room : R) → next ≡ Some room
      → (length xs < length parts) × (of room ≡ get_or parts (length xs) (of room))
  room_turn room is =
      let taken = YieldsList-turn (YieldsList-from_vec {Z = Z} {s = s} rooms items len) xs t y next u room is steps in (
        omega (arith, taken.0, rooms_count of rooms parts are),
        room_read of rooms parts (length xs) room are taken.0 taken.1,
      )

  pub room_end : next ≡ None → length xs ≡ length parts
  room_end none =
      (YieldsList-end (YieldsList-from_vec {Z = Z} {s = s} rooms items len) xs t y next u none steps).1
      ∙ rooms_count of rooms parts are
