-- The chains of a hash index: from the last hash of each bucket to the one before it, and so on.
use Rattle.std.specs.Prelude.{◌≡◌, ℕ, zero, suc, ◌%◌, ◌<◌, ◌≤◌, ◌==◌, if◌then◌else◌, List, length, map, slice_index_or}
use Rattle.cla_index.specs.declared.chains.Link.{Link}

-- the hash at a place
abbrev pub hash_at : List ℕ → ℕ → ℕ
hash_at hashes k = slice_index_or hashes k 0

abbrev pub hashes_of : List Link → List ℕ
hashes_of links = map (λ l. l.hash) links

abbrev pub bucket_of : ℕ → ℕ → ℕ
bucket_of buckets hash = hash % buckets

-- how many of the first n hashes there are up to the last one in a bucket
abbrev pub up_to_last : ℕ → List ℕ → ℕ → ℕ → ℕ
up_to_last buckets hashes b zero = 0
up_to_last buckets hashes b (suc n) =
    if bucket_of buckets (hash_at hashes n) == b then suc n else up_to_last buckets hashes b n

-- the first n hashes are chained: each bucket leads to its last one, and each of them to the one before it
pub record AreChained (buckets n : ℕ) (latest : List ℕ) (links : List Link) : Type 0 where
  pub last : (b : ℕ) → b < buckets → slice_index_or latest b 0 ≡ up_to_last buckets (hashes_of links) b n
  pub before : (k : ℕ) → k < n → slice_index_or (map (λ l. l.earlier) links) k 0
      ≡ up_to_last buckets (hashes_of links) (bucket_of buckets (hash_at (hashes_of links) k)) k

-- an index: all hashes are chained, and there are no more of them than buckets
pub record IsIndex (latest : List ℕ) (links : List Link) : Type 0 where
  pub few : length links < 4294967296
  pub room : length links ≤ length latest
  pub chained : AreChained (length latest) (length links) latest links
