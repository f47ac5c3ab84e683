-- A line is answered by the partition of its key, and a scan by all of them, joined.
use Rattle.std.proofs.Common.{◌≡◌, ℕ, ◌≤◌, List, [], ◌∷◌, ◌++◌, Bool, true, false, not, cond, refl, ap, sym, ◌∙◌, subst, map, arith, IsPermutation}
use Rattle.std.specs.Prelude.{All, Vec}
use Rattle.std.specs.Global.{Global}
use Rattle.std.specs.List.{flat_map, range_with_len, slice_index_or}
use Rattle.std.proofs.lemmas.List.{get_or-map, length-map}
use Rattle.std.proofs.lemmas.List.Elements.{All-map}
use Rattle.pm_types.specs.declared.shape.Shape.{Shape}
use Rattle.pm_model.specs.declared.line.Cmd.{Cmd}
use Rattle.pm_model.specs.declared.line.Cmd.TheVariants.{Put, Get, Remove, Scan, Checkpoint}
use Rattle.pm_model.specs.declared.line.Line.TheVariants.{Good}
use Rattle.pm_model.specs.declared.reply.Reply.TheVariants.{Done, Full}
use Rattle.pm_model.specs.Batches.{HasCache}
use Rattle.pm_model.specs.Orders.{part_of_line, is_barrier}
use Rattle.pm_model.specs.Partitions.{part_of}
use Rattle.pm_model.specs.Eval.{Pairs, cache_key, is_full, is_accepted, reply_to, pairs_of}
use Rattle.pm_part.specs.Commands.{IsPartCmd, accepts}
use Rattle.pm_core.specs.BasePages.{Partitions}
use Rattle.pm_core.specs.Held.{AllWellFormed, pairs_in}
use Rattle.pm_engine.specs.Merges.{HasRisingKeys, JoinsByKey}
use Rattle.pm_engine.specs.PagedStores.{part_map}
use Rattle.pm_engine.specs.Records.{IsKeyOf}
use Rattle.pm_engine.proofs.JoinedPairs.{pairs_by_part, rises_of}
use Rattle.pm_engine.proofs.RisingPairs.{rising_of}

-- a command of a key is one of the key's partition
pub record IsCmdOf (shape : Shape) (part : ℕ) (cmd : Cmd) : Type 0 where
  pub cmd_is : IsPartCmd shape part cmd
  pub line_is : part_of_line shape (Good cmd) ≡ part
  pub free : is_barrier (Good cmd) ≡ false

pub cmd_of_key : (shape : Shape) (key : List ℕ) (part : ℕ) (cmd : Cmd) → HasCache (Good cmd) → IsKeyOf key cmd → part ≡ part_of key shape.partitions → IsCmdOf shape part cmd
cmd_of_key shape key part (Put cache at value) has is here =
    let same : part_of at shape.partitions ≡ part = ap (λ k. part_of k shape.partitions) is ∙ sym here in
    record { cmd_is = (has, same); line_is = same; free = refl }
cmd_of_key shape key part (Get cache at) has is here =
    let same : part_of at shape.partitions ≡ part = ap (λ k. part_of k shape.partitions) is ∙ sym here in
    record { cmd_is = (has, same); line_is = same; free = refl }
cmd_of_key shape key part (Remove cache at) has is here =
    let same : part_of at shape.partitions ≡ part = ap (λ k. part_of k shape.partitions) is ∙ sym here in
    record { cmd_is = (has, same); line_is = same; free = refl }
cmd_of_key shape key part (Scan cache) has is here = absurd is
cmd_of_key shape key part Checkpoint has is here = absurd is

-- the reply says whether the command was accepted
put_accepts : (cache : ℕ) (key value : List ℕ) (full : Bool) → accepts (Put cache key value) (cond full Full Done) ≡ not full
put_accepts cache key value true = refl
put_accepts cache key value false = refl

pub reply_accepts : (shape : Shape) (cmd : Cmd) (pairs : Pairs) → accepts cmd (reply_to shape (Good cmd) pairs) ≡ is_accepted shape (Good cmd) pairs
reply_accepts shape (Put cache key value) pairs = put_accepts cache key value (is_full shape (cache_key cache key) pairs)
reply_accepts shape (Get cache key) pairs = refl
reply_accepts shape (Remove cache key) pairs = refl
reply_accepts shape (Scan cache) pairs = refl
reply_accepts shape Checkpoint pairs = refl

-- the pairs of a cache in each partition, joined

pub each_rising : (cache : ℕ) (pages : Partitions) (parts : List ℕ) → All HasRisingKeys (map (λ part. pairs_of cache (part_map pages part)) parts)
each_rising cache pages parts = All-map HasRisingKeys (λ part. pairs_of cache (part_map pages part)) parts
    (λ k d lt. rising_of (pairs_of cache (part_map pages (slice_index_or parts k d))) (rises_of cache (part_map pages (slice_index_or parts k d))))

flat_mapped : (f : ℕ → List (List ℕ × List ℕ)) (xs : List ℕ) → flat_map (λ list. list) (map f xs) ≡ flat_map f xs
flat_mapped f [] = refl
flat_mapped f (x ∷ xs) = ap (λ rest. f x ++ rest) (flat_mapped f xs)

pub joined_pairs : (shape : Shape) (pages : Partitions) (cache : ℕ) (pairs : List (List ℕ × List ℕ)) → 1 ≤ shape.partitions → AllWellFormed shape pages → JoinsByKey (map (λ part. pairs_of cache (part_map pages part)) (range_with_len 0 shape.partitions)) pairs → pairs ≡ pairs_of cache (pairs_in shape.partitions pages)
joined_pairs shape pages cache pairs some well joins =
    pairs_by_part shape pages some well cache pairs
    (subst (λ list. IsPermutation list pairs) (flat_mapped (λ part. pairs_of cache (part_map pages part)) (range_with_len 0 shape.partitions)) joins.all)
    joins.rising

-- the same, of pairs that were read
pub rising_each : (found : List (Vec (List ℕ × List ℕ) Global)) → All HasRisingKeys (map (λ (list : Vec (List ℕ × List ℕ) Global). list.items) found) → All (λ (list : Vec (List ℕ × List ℕ) Global). HasRisingKeys list.items) found
rising_each found all = λ k d lt.
    let items = λ (list : Vec (List ℕ × List ℕ) Global). list.items in
    subst HasRisingKeys (get_or-map items found k d d.items lt) (all k d.items (omega (arith, lt, length-map found items)))
