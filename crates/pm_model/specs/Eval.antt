-- The replies to lines, and the map that they leave, in a store of some shape.
use Rattle.std.specs.Prelude.{ℕ, ◌+◌, List, [], ◌∷◌, refl, Option, None, Some, Bool, true, false, not}
use Rattle.std.specs.Prelude.{◌&&◌, nat_le, ◌==◌, if◌then◌else◌, count_by, filter}
use Rattle.std.specs.Prelude as list
use Rattle.std.specs.declared.cmp.Ordering.{Ordering}
use Rattle.std.specs.Ordering.{nat_cmp, ordering_then}
use Rattle.std.specs.Cmp.Lexicographic.{slice_cmp}
use Rattle.std.specs.Coded.{Coded, code_by, coded×, coded_ℕ, coded_list}
use Rattle.std.specs.FinMap as map
use Rattle.std.specs.FinMap.{FinMap}
use Rattle.pm_types.specs.declared.shape.Shape.{Shape}
use Rattle.pm_model.specs.declared.cache_key.CacheKey.{CacheKey}
use Rattle.pm_model.specs.declared.line.Cmd.TheVariants.{Put, Get, Remove, Scan, Checkpoint}
use Rattle.pm_model.specs.declared.line.Line.{Line}
use Rattle.pm_model.specs.declared.line.Line.TheVariants.{Good, Bad, Long}
use Rattle.pm_model.specs.declared.reply.Reply.{Reply}
use Rattle.pm_model.specs.declared.reply.Reply.TheVariants as reply
use Rattle.pm_model.specs.declared.reply.Reply.TheVariants.{Done, Found, Absent, Was, Full, BadLine, LongLine}
use Rattle.pm_model.specs.Partitions.{part_of}

-- by cache, then by the key byte by byte, a proper prefix first
abbrev pub cache_key_cmp : CacheKey → CacheKey → Ordering
cache_key_cmp a b = ordering_then (nat_cmp a.cache b.cache) (slice_cmp nat_cmp a.key b.key)

-- a key of a cache
abbrev pub cache_key : ℕ → List ℕ → CacheKey
cache_key cache key = record { cache = cache; key = key }

-- a key of a cache is stored as the pair of both
abbrev pub coded_cache_key : Coded CacheKey
coded_cache_key = code_by (ℕ × List ℕ) (coded× coded_ℕ (coded_list coded_ℕ)) (λ at. (at.cache, at.key))
    (λ pair. cache_key pair.0 pair.1) (λ _. refl)

-- the map: from a cache and a key to a value
abbrev pub Pairs : Type 0
Pairs = FinMap cache_key_cmp (List ℕ)

-- a map is stored as the list of its entries
abbrev pub coded_pairs : Coded Pairs
coded_pairs = map.code coded_cache_key (coded_list coded_ℕ)

-- the reply that tells a key's value, or that it has none
abbrev pub found : Option (List ℕ) → Reply
found None = Absent
found (Some value) = Found value

-- whether a key belongs to this partition, of so many
abbrev pub is_of_part : ℕ → ℕ → CacheKey → Bool
is_of_part partitions part at = part_of at.key partitions == part

-- how many of the keys belong to this partition, of so many
abbrev pub rows_among : ℕ → ℕ → List CacheKey → ℕ
rows_among partitions part keys = count_by (is_of_part partitions part) keys

-- how many keys of a partition the map has, over all caches
abbrev pub rows_of : ℕ → ℕ → Pairs → ℕ
rows_of partitions part pairs = rows_among partitions part (map.keys pairs)

-- whether a key is new, and its partition has as many rows as it may have
abbrev pub is_full : Shape → CacheKey → Pairs → Bool
is_full shape at pairs =
    not (map.contains_key pairs at) && nat_le shape.max_rows
    (rows_of shape.partitions (part_of at.key shape.partitions) pairs)

-- the pairs of a cache among entries
abbrev pub pairs_among : ℕ → List (CacheKey × List ℕ) → List (List ℕ × List ℕ)
pairs_among cache entries =
    list.map (λ entry. (entry.0.key, entry.1)) (filter (λ entry. entry.0.cache == cache) entries)

-- the pairs of a cache by rising key
abbrev pub pairs_of : ℕ → Pairs → List (List ℕ × List ℕ)
pairs_of cache pairs = pairs_among cache (map.entries pairs)

-- the reply to a line
abbrev pub reply_to : Shape → Line → Pairs → Reply
reply_to shape (Good (Put cache key value)) pairs =
    if is_full shape (cache_key cache key) pairs then Full else Done
reply_to shape (Good (Get cache key)) pairs = found (map.get pairs (cache_key cache key))
reply_to shape (Good (Remove cache key)) pairs = Was (map.contains_key pairs (cache_key cache key))
reply_to shape (Good (Scan cache)) pairs = reply.Pairs (pairs_of cache pairs)
reply_to shape (Good Checkpoint) pairs = Done
reply_to shape Bad pairs = BadLine
reply_to shape Long pairs = LongLine

-- the map after a line
abbrev pub after : Shape → Line → Pairs → Pairs
after shape (Good (Put cache key value)) pairs =
    if is_full shape (cache_key cache key) pairs
    then pairs
    else map.insert pairs (cache_key cache key) value
after shape (Good (Get cache key)) pairs = pairs
after shape (Good (Remove cache key)) pairs = map.remove pairs (cache_key cache key)
after shape (Good (Scan cache)) pairs = pairs
after shape (Good Checkpoint) pairs = pairs
after shape Bad pairs = pairs
after shape Long pairs = pairs

-- whether a line is accepted: a put that isn't refused, and a remove of a key that is there
abbrev pub is_accepted : Shape → Line → Pairs → Bool
is_accepted shape (Good (Put cache key value)) pairs = not (is_full shape (cache_key cache key) pairs)
is_accepted shape (Good (Get cache key)) pairs = false
is_accepted shape (Good (Remove cache key)) pairs = map.contains_key pairs (cache_key cache key)
is_accepted shape (Good (Scan cache)) pairs = false
is_accepted shape (Good Checkpoint) pairs = false
is_accepted shape Bad pairs = false
is_accepted shape Long pairs = false

-- the replies to lines, one for each, each over the map that the lines before it left
abbrev pub replies_to : Shape → List Line → Pairs → List Reply
replies_to shape [] pairs = []
replies_to shape (line ∷ lines) pairs =
    reply_to shape line pairs ∷ replies_to shape lines (after shape line pairs)

-- the map after lines
abbrev pub after_all : Shape → List Line → Pairs → Pairs
after_all shape [] pairs = pairs
after_all shape (line ∷ lines) pairs = after_all shape lines (after shape line pairs)

-- the numbers of the accepted lines in order, where the first of the lines has this number
abbrev pub accepted : Shape → ℕ → List Line → Pairs → List ℕ
accepted shape number [] pairs = []
accepted shape number (line ∷ lines) pairs =
    if is_accepted shape line pairs
    then number ∷ accepted shape (number + 1) lines (after shape line pairs)
    else accepted shape (number + 1) lines (after shape line pairs)
