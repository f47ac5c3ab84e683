-- The reply to a line and what it changes depend on the rows of its partition alone.
use Rattle.std.proofs.Common.{◌≡◌, ℕ, List, [], ◌∷◌, cond, Bool, true, false, not, Some, None, Option, refl, ap, sym, ◌∙◌, subst, is_eq, ◌&&◌, arith}
use Rattle.std.specs.Prelude.{filter, ◌==◌, nat_le, count_by}
use Rattle.std.specs.Option.{is_some}
use Rattle.std.specs.declared.cmp.Ordering.{Ordering}
use Rattle.std.specs.declared.cmp.Ordering.TheVariants.{Less, Equal, Greater}
use Rattle.std.specs.Map.{keys_of}
use Rattle.std.specs.FinMap.{get, insert, remove, entries, get-retain_keys, get-insert, get-remove, same_map, entries_sorted, from_sorted, get-entries, get-from_sorted, entries-from_sorted}
use Rattle.std.specs.FinMap.Entries.{where_key, is_sorted-where_key, find-where_key}
use Rattle.std.proofs.lemmas.Bool.{eq-eqb, eqb-true}
use Rattle.std.proofs.lemmas.List.Sums.{sum_by-cons}
use Rattle.pm_types.specs.declared.shape.Shape.{Shape}
use Rattle.pm_model.specs.declared.cache_key.CacheKey.{CacheKey}
use Rattle.pm_model.specs.declared.line.Cmd.TheVariants.{Put, Get, Remove, Scan, Checkpoint}
use Rattle.pm_model.specs.declared.line.Line.{Line}
use Rattle.pm_model.specs.declared.line.Line.TheVariants.{Good, Bad, Long}
use Rattle.pm_model.specs.declared.reply.Reply.TheVariants.{Done, Full, Was}
use Rattle.pm_model.specs.Partitions.{part_of}
use Rattle.pm_model.specs.Eval.{Pairs, cache_key, cache_key_cmp, found, is_of_part, rows_of, is_full, reply_to, after, is_accepted, after_all}
use Rattle.pm_model.proofs.CacheKeys.{exact_cache_keys, cache_keys_total}
use Rattle.pm_model.specs.Orders.{line_at, after_numbers, part_of_line, numbers_of, part_rows, lines_of, is_barrier}

-- what a partition's rows have at a key
get_rows : (shape : Shape) (part : ℕ) (pairs : Pairs) (at : CacheKey) → get (part_rows shape part pairs) at ≡ cond (is_of_part shape.partitions part at) (get pairs at) None
get_rows shape part pairs at = get-retain_keys pairs (is_of_part shape.partitions part) at (λ x tied. ap (is_of_part shape.partitions part) (sym (exact_cache_keys at x tied)))

-- a key is of its own partition
own : (shape : Shape) (at : CacheKey) → is_of_part shape.partitions (part_of at.key shape.partitions) at ≡ true
own shape at = eq-eqb (part_of at.key shape.partitions) (part_of at.key shape.partitions) refl

-- the rows of a key's partition have at the key what the map has
own_get : (shape : Shape) (pairs : Pairs) (at : CacheKey) → get (part_rows shape (part_of at.key shape.partitions) pairs) at ≡ get pairs at
own_get shape pairs at = get_rows shape (part_of at.key shape.partitions) pairs at ∙ ap (λ t. cond t (get pairs at) None) (own shape at)

-- maps whose partitions have the same rows are one
pub same_rows : (shape : Shape) (a b : Pairs) → ((part : ℕ) → part_rows shape part a ≡ part_rows shape part b) → a ≡ b
same_rows shape a b same = same_map cache_keys_total exact_cache_keys _ _ (λ at.
    sym (own_get shape a at) ∙ ap (λ (m : Pairs). get m at) (same (part_of at.key shape.partitions)) ∙ own_get shape b at)

-- what a test keeps, it counts
count_kept : (test : CacheKey → Bool) (es : List (CacheKey × List ℕ)) → count_by test (keys_of (filter (λ e. test e.0) es)) ≡ count_by test (keys_of es)
count_kept test [] = refl
count_kept test (e ∷ es) =
    let one : CacheKey → ℕ = λ at. cond (test at) 1 0 in
    let rest = filter (λ (e : CacheKey × List ℕ). test e.0) es in
    let P : Bool → Type 0 = λ t. test e.0 ≡ t → count_by test (keys_of (cond t (e ∷ rest) rest)) ≡ count_by test (keys_of (e ∷ es)) in
    elim (test e.0) as P [
      | true ↦ λ _. omega (arith, sum_by-cons one e.0 (keys_of rest), sum_by-cons one e.0 (keys_of es), count_kept test es)
      | false ↦ λ isnt.
          let none : cond (test e.0) 1 0 ≡ 0 = ap (λ (t : Bool). cond {A = ℕ} t 1 0) isnt in
          omega (arith, none, sum_by-cons one e.0 (keys_of es), count_kept test es)
    ] refl

-- the entries of a partition's rows
entries_kept : (shape : Shape) (part : ℕ) (pairs : Pairs) → entries (part_rows shape part pairs) ≡ filter (λ e. is_of_part shape.partitions part e.0) (entries pairs)
entries_kept shape part pairs =
    let test = is_of_part shape.partitions part in
    let es = where_key cache_key_cmp test (entries pairs) in
    let sorted = is_sorted-where_key cache_key_cmp test (entries pairs) (entries_sorted pairs) in
    let tied = λ (at x : CacheKey) (same : cache_key_cmp at x ≡ Equal). ap test (sym (exact_cache_keys at x same)) in
    let as_sorted : part_rows shape part pairs ≡ from_sorted es = same_map cache_keys_total exact_cache_keys _ _ (λ at.
    get_rows shape part pairs at
    ∙ ap (λ o. cond (test at) o None) (get-entries pairs at)
    ∙ sym (get-from_sorted cache_key_cmp es at sorted ∙ find-where_key cache_key_cmp test at (tied at) (entries pairs))) in
    ap (λ (m : Pairs). entries m) as_sorted ∙ entries-from_sorted cache_key_cmp es sorted

-- a partition's rows are as many by themselves
rows_count : (shape : Shape) (part : ℕ) (pairs : Pairs) → rows_of shape.partitions part (part_rows shape part pairs) ≡ rows_of shape.partitions part pairs
rows_count shape part pairs =
    ap (λ (es : List (CacheKey × List ℕ)). count_by (is_of_part shape.partitions part) (keys_of es)) (entries_kept shape part pairs)
    ∙ count_kept (is_of_part shape.partitions part) (entries pairs)

-- whether a put is refused is told by its partition's rows
own_full : (shape : Shape) (pairs : Pairs) (at : CacheKey) → is_full shape at (part_rows shape (part_of at.key shape.partitions) pairs) ≡ is_full shape at pairs
own_full shape pairs at =
    let part = part_of at.key shape.partitions in
    ap (λ (o : Option (List ℕ)). not (is_some o) && nat_le shape.max_rows (rows_of shape.partitions part (part_rows shape part pairs))) (own_get shape pairs at)
    ∙ ap (λ (n : ℕ). not (is_some (get pairs at)) && nat_le shape.max_rows n) (rows_count shape part pairs)

-- the reply
pub reply_by_rows : (shape : Shape) (line : Line) (pairs : Pairs) → is_barrier line ≡ false → reply_to shape line (part_rows shape (part_of_line shape line) pairs) ≡ reply_to shape line pairs
reply_by_rows shape (Good (Put cache key value)) pairs _ = ap (λ t. cond t Full Done) (own_full shape pairs (cache_key cache key))
reply_by_rows shape (Good (Get cache key)) pairs _ = ap found (own_get shape pairs (cache_key cache key))
reply_by_rows shape (Good (Remove cache key)) pairs _ = ap (λ (o : Option (List ℕ)). Was (is_some o)) (own_get shape pairs (cache_key cache key))
reply_by_rows shape (Good (Scan cache)) pairs h = absurd cc
reply_by_rows shape (Good Checkpoint) pairs _ = refl
reply_by_rows shape Bad pairs _ = refl
reply_by_rows shape Long pairs _ = refl

-- whether it is accepted
pub accepted_by_rows : (shape : Shape) (line : Line) (pairs : Pairs) → is_accepted shape line (part_rows shape (part_of_line shape line) pairs) ≡ is_accepted shape line pairs
accepted_by_rows shape (Good (Put cache key value)) pairs = ap not (own_full shape pairs (cache_key cache key))
accepted_by_rows shape (Good (Get cache key)) pairs = refl
accepted_by_rows shape (Good (Remove cache key)) pairs = ap (λ (o : Option (List ℕ)). is_some o) (own_get shape pairs (cache_key cache key))
accepted_by_rows shape (Good (Scan cache)) pairs = refl
accepted_by_rows shape (Good Checkpoint) pairs = refl
accepted_by_rows shape Bad pairs = refl
accepted_by_rows shape Long pairs = refl

-- a change at a key of the partition, seen in its rows
swap_in : (order : Ordering) (t : Bool) (new old : Option (List ℕ)) → (order ≡ Equal → t ≡ true) → cond t (cond (is_eq order) new old) None ≡ cond (is_eq order) new (cond t old None)
swap_in Equal t new old here = ap (λ b. cond b new None) (here refl)
swap_in Less t new old here = refl
swap_in Greater t new old here = refl

-- a change at another key isn't seen
swap_out : (order : Ordering) (t : Bool) (new old : Option (List ℕ)) → (order ≡ Equal → t ≡ false) → cond t (cond (is_eq order) new old) None ≡ cond t old None
swap_out Equal t new old away = ap (λ b. cond b new None) (away refl) ∙ sym (ap (λ b. cond b old None) (away refl))
swap_out Less t new old away = refl
swap_out Greater t new old away = refl

module _ (shape : Shape) (part : ℕ) (pairs : Pairs) (at : CacheKey) where
  abbrev test : CacheKey → Bool
  test each = is_of_part shape.partitions part each

  -- a key that is tied to this one is of the partition as this one is
  tied_test : (t : Bool) → test at ≡ t → (each : CacheKey) → cache_key_cmp each at ≡ Equal → test each ≡ t
  tied_test t is each tied = ap test (exact_cache_keys each at tied) ∙ is

  insert_in : (value : List ℕ) → test at ≡ true → part_rows shape part (insert pairs at value) ≡ insert (part_rows shape part pairs) at value
  insert_in value is = same_map cache_keys_total exact_cache_keys _ _ (λ each.
      get_rows shape part (insert pairs at value) each
      ∙ ap (λ o. cond (test each) o None) (get-insert cache_keys_total pairs at value each)
      ∙ swap_in (cache_key_cmp each at) (test each) (Some value) (get pairs each) (tied_test true is each)
      ∙ sym (get-insert cache_keys_total (part_rows shape part pairs) at value each ∙ ap (cond (is_eq (cache_key_cmp each at)) (Some value)) (get_rows shape part pairs each)))

  insert_out : (value : List ℕ) → test at ≡ false → part_rows shape part (insert pairs at value) ≡ part_rows shape part pairs
  insert_out value is = same_map cache_keys_total exact_cache_keys _ _ (λ each.
      get_rows shape part (insert pairs at value) each
      ∙ ap (λ o. cond (test each) o None) (get-insert cache_keys_total pairs at value each)
      ∙ swap_out (cache_key_cmp each at) (test each) (Some value) (get pairs each) (tied_test false is each)
      ∙ sym (get_rows shape part pairs each))

  remove_in : test at ≡ true → part_rows shape part (remove pairs at) ≡ remove (part_rows shape part pairs) at
  remove_in is = same_map cache_keys_total exact_cache_keys _ _ (λ each.
      get_rows shape part (remove pairs at) each
      ∙ ap (λ o. cond (test each) o None) (get-remove cache_keys_total pairs at each)
      ∙ swap_in (cache_key_cmp each at) (test each) None (get pairs each) (tied_test true is each)
      ∙ sym (get-remove cache_keys_total (part_rows shape part pairs) at each ∙ ap (cond (is_eq (cache_key_cmp each at)) None) (get_rows shape part pairs each)))

  remove_out : test at ≡ false → part_rows shape part (remove pairs at) ≡ part_rows shape part pairs
  remove_out is = same_map cache_keys_total exact_cache_keys _ _ (λ each.
      get_rows shape part (remove pairs at) each
      ∙ ap (λ o. cond (test each) o None) (get-remove cache_keys_total pairs at each)
      ∙ swap_out (cache_key_cmp each at) (test each) None (get pairs each) (tied_test false is each)
      ∙ sym (get_rows shape part pairs each))

-- a put that is refused or not, as the partition sees it
put_in : (shape : Shape) (part : ℕ) (full full' : Bool) (pairs put put' : Pairs) → full' ≡ full → part_rows shape part put ≡ put' → part_rows shape part (cond full pairs put) ≡ cond full' (part_rows shape part pairs) put'
put_in shape part true full' pairs put put' same is = sym (ap (λ t. cond t (part_rows shape part pairs) put') same)
put_in shape part false full' pairs put put' same is = is ∙ sym (ap (λ t. cond t (part_rows shape part pairs) put') same)

put_out : (shape : Shape) (part : ℕ) (full : Bool) (pairs put : Pairs) → part_rows shape part put ≡ part_rows shape part pairs → part_rows shape part (cond full pairs put) ≡ part_rows shape part pairs
put_out shape part true pairs put is = refl
put_out shape part false pairs put is = is

-- what a line leaves of its partition's rows
pub rows_after : (shape : Shape) (line : Line) (pairs : Pairs) → part_rows shape (part_of_line shape line) (after shape line pairs) ≡ after shape line (part_rows shape (part_of_line shape line) pairs)
rows_after shape (Good (Put cache key value)) pairs =
    let at = cache_key cache key in
    let part = part_of key shape.partitions in
    put_in shape part (is_full shape at pairs) (is_full shape at (part_rows shape part pairs)) pairs (insert pairs at value) (insert (part_rows shape part pairs) at value) (own_full shape pairs at) (insert_in shape part pairs at value (own shape at))
rows_after shape (Good (Get cache key)) pairs = refl
rows_after shape (Good (Remove cache key)) pairs = remove_in shape (part_of key shape.partitions) pairs (cache_key cache key) (own shape (cache_key cache key))
rows_after shape (Good (Scan cache)) pairs = refl
rows_after shape (Good Checkpoint) pairs = refl
rows_after shape Bad pairs = refl
rows_after shape Long pairs = refl

-- and of another's
pub rows_elsewhere : (shape : Shape) (part : ℕ) (line : Line) (pairs : Pairs) → (part_of_line shape line == part) ≡ false → part_rows shape part (after shape line pairs) ≡ part_rows shape part pairs
rows_elsewhere shape part (Good (Put cache key value)) pairs away =
    let at = cache_key cache key in
    put_out shape part (is_full shape at pairs) pairs (insert pairs at value) (insert_out shape part pairs at value away)
rows_elsewhere shape part (Good (Get cache key)) pairs away = refl
rows_elsewhere shape part (Good (Remove cache key)) pairs away = remove_out shape part pairs (cache_key cache key) away
rows_elsewhere shape part (Good (Scan cache)) pairs away = refl
rows_elsewhere shape part (Good Checkpoint) pairs away = refl
rows_elsewhere shape part Bad pairs away = refl
rows_elsewhere shape part Long pairs away = refl

-- a partition's rows after a line, by whether it is the partition's
pub rows_here : (shape : Shape) (part : ℕ) (line : Line) (pairs : Pairs) → (part_of_line shape line == part) ≡ true → part_rows shape part (after shape line pairs) ≡ after shape line (part_rows shape part pairs)
rows_here shape part line pairs is = subst (λ p. part_rows shape p (after shape line pairs) ≡ after shape line (part_rows shape p pairs)) (eqb-true (part_of_line shape line) part is) (rows_after shape line pairs)

-- a partition's rows after some numbered lines are what its own ones among them leave of them
pub rows_after_numbers : (shape : Shape) (part : ℕ) (numbers : List ℕ) (from : ℕ) (script : List Line) (pairs : Pairs) → part_rows shape part (after_numbers shape numbers from script pairs) ≡ after_numbers shape (numbers_of shape part from script numbers) from script (part_rows shape part pairs)
rows_after_numbers shape part [] from script pairs = refl
rows_after_numbers shape part (number ∷ numbers) from script pairs =
    let line = line_at from script number in
    let rest = numbers_of shape part from script numbers in
    let P : Bool → Type 0 = λ t. (part_of_line shape line == part) ≡ t → part_rows shape part (after_numbers shape numbers from script (after shape line pairs)) ≡ after_numbers shape (cond t (number ∷ rest) rest) from script (part_rows shape part pairs) in
    let further = rows_after_numbers shape part numbers from script (after shape line pairs) in
    elim (part_of_line shape line == part) as P [
      | true ↦ λ is. further ∙ ap (λ (m : Pairs). after_numbers shape rest from script m) (rows_here shape part line pairs is)
      | false ↦ λ isnt. further ∙ ap (λ (m : Pairs). after_numbers shape rest from script m) (rows_elsewhere shape part line pairs isnt)
    ] refl

-- the same of lines in script order
pub rows_after_all : (shape : Shape) (part : ℕ) (lines : List Line) (pairs : Pairs) → part_rows shape part (after_all shape lines pairs) ≡ after_all shape (lines_of shape part lines) (part_rows shape part pairs)
rows_after_all shape part [] pairs = refl
rows_after_all shape part (line ∷ lines) pairs =
    let rest = lines_of shape part lines in
    let P : Bool → Type 0 = λ t. (part_of_line shape line == part) ≡ t → part_rows shape part (after_all shape lines (after shape line pairs)) ≡ after_all shape (cond t (line ∷ rest) rest) (part_rows shape part pairs) in
    let further = rows_after_all shape part lines (after shape line pairs) in
    elim (part_of_line shape line == part) as P [
      | true ↦ λ is. further ∙ ap (λ (m : Pairs). after_all shape rest m) (rows_here shape part line pairs is)
      | false ↦ λ isnt. further ∙ ap (λ (m : Pairs). after_all shape rest m) (rows_elsewhere shape part line pairs isnt)
    ] refl
