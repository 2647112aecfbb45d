-- Hashes of tuples that stand value after value.
use Rattle.std.specs.Prelude.{◌≡◌, ℕ, ◌*◌, ◌%◌, ◌<◌, List, length, take, drop, slice_index_or}
use Rattle.std.specs.List.{fold, flat_map}
use Rattle.std.specs.Hash.FoldHasher as folding

-- the hash of a tuple, whose numbers each feed the hasher some lists of bytes
abbrev pub tuple_hash : {N : Type 0} → (N → List (List ℕ)) → List N → ℕ
tuple_hash input tuple = folding.finish (fold folding.write folding.initial (flat_map input tuple)) % 4294967296

-- the numbers of tuple k
abbrev pub items_at : {N : Type 0} → ℕ → List N → ℕ → List N
items_at width items k = take width (drop (k * width) items)

-- these are the hashes of the tuples, in their order
pub record AreHashed {N : Type 0} (input : N → List (List ℕ)) (width : ℕ) (items : List N) (hashes : List ℕ) : Type 0
  where
    pub whole : length items ≡ length hashes * width
    pub each : (k : ℕ) → k < length hashes → slice_index_or hashes k 0 ≡ tuple_hash input (items_at width items k)
