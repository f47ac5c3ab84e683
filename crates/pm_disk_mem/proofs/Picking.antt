-- What a pick leaves of all files of a family is what a crash may leave of each.
use Rattle.std.proofs.Common.{◌≡◌, inl, inr, ◌<◌, ◌≤◌, ℕ, suc, true, false, List, [], ◌∷◌, ◌++◌, Option, Some, None, Less, refl, sym, ◌∙◌, ap, subst, arith, append_assoc}
use Rattle.std.specs.Prelude.{◌≢◌, unwrap_or, if◌then◌else◌}
use Rattle.std.specs.Ordering.{nat_cmp}
use Rattle.std.specs.BTreeMap.{insert_entry, is_at}
use Rattle.std.specs.Map.{lookup, keys_of}
use Rattle.std.specs.List.{AllByRecursion}
use Rattle.std.specs.List.Sorted.{IsStrictlySortedBy}
use Rattle.std.proofs.lemmas.Bool.{cases_lt, cases_eq}
use Rattle.std.proofs.lemmas.Bool.Decides.{nat_tests}
use Rattle.std.proofs.lemmas.List.{append-nil}
use Rattle.std.proofs.lemmas.Map.Keys.{sorted_head, sorted_tail}
use Rattle.pm_disk.specs.Files.{File, absent}
use Rattle.pm_disk.specs.Images.{Leaves}
use Rattle.pm_disk_mem.specs.Changes.{CanAll}
use Rattle.pm_disk_mem.specs.Tracks.{Track, new_track}
use Rattle.pm_disk_mem.specs.Disks.{content_at, with_left}
use Rattle.pm_disk_mem.specs.Picks.{left_by, written, pick_after, pick_at}
use Rattle.pm_disk_mem.proofs.Below.{below_it, below_past, pick_first, pick_past}
use Rattle.pm_disk_mem.proofs.Leaving.{leaves_left}
use Rattle.pm_disk_mem.proofs.Orders.{insert_entry-last}
use Rattle.pm_disk_mem.specs.declared.pick.Pick.{Pick}
use Rattle.pm_disk_mem.specs.declared.pick.Pick.TheVariants as pick

-- a segment with these bytes, or nothing where it is absent
abbrev pub entry_of : ℕ → Option (List ℕ) → List (ℕ × List ℕ)
entry_of seg None = []
entry_of seg (Some bytes) = (seg, bytes) ∷ []

-- the segments that a crash leaves of these by the pick, one after the other
abbrev pub picked : Pick → List (ℕ × Track) → List (ℕ × List ℕ)
picked pick [] = []
picked pick (entry ∷ entries) = entry_of entry.0 (left_by pick entry.1.file) ++ picked (pick_after pick entry.1.file) entries

-- of each of these segments the pending changes could be made
abbrev pub CouldEach : List (ℕ × Track) → Type 0
CouldEach [] = Unit {0}
CouldEach (entry ∷ entries) = CanAll entry.1.file.since entry.1.file.forced × CouldEach entries

pub could_more : (left new_left : List (ℕ × Track)) (seg : ℕ) (track : Track) → left ≡ (seg, track) ∷ new_left → CanAll track.file.since track.file.forced → CouldEach new_left → CouldEach left
could_more left new_left seg track is can each = subst (λ (l : List (ℕ × Track)). CouldEach l) (sym is) (can, each)

-- all keys are after this one
abbrev AllAbove : {Y : Type 0} → ℕ → List (ℕ × Y) → Type 0
AllAbove first entries = AllByRecursion (λ k. nat_cmp first k ≡ Less) (keys_of entries)

above_entry : (first seg : ℕ) (left : Option (List ℕ)) (rest : List (ℕ × List ℕ)) → nat_cmp first seg ≡ Less → AllAbove first rest → AllAbove first (entry_of seg left ++ rest)
above_entry first seg None rest less above = above
above_entry first seg (Some bytes) rest less above = (less, above)

above_picked : (first : ℕ) (pick : Pick) (entries : List (ℕ × Track)) → AllAbove first entries → AllAbove first (picked pick entries)
above_picked first pick [] above = tt
above_picked first pick (entry ∷ entries) above =
    above_entry first entry.0 (left_by pick entry.1.file) (picked (pick_after pick entry.1.file) entries) above.0 (above_picked first (pick_after pick entry.1.file) entries above.1)

sorted_entry : (seg : ℕ) (left : Option (List ℕ)) (rest : List (ℕ × List ℕ)) → AllAbove seg rest → IsStrictlySortedBy nat_cmp (keys_of rest) → IsStrictlySortedBy nat_cmp (keys_of (entry_of seg left ++ rest))
unfolding IsStrictlySortedBy
sorted_entry seg None rest above sorted = sorted
sorted_entry seg (Some bytes) rest above sorted = (above, sorted)

pub sorted_picked : (pick : Pick) (entries : List (ℕ × Track)) → IsStrictlySortedBy nat_cmp (keys_of entries) → IsStrictlySortedBy nat_cmp (keys_of (picked pick entries))
unfolding IsStrictlySortedBy
sorted_picked pick [] sorted = sorted
sorted_picked pick (entry ∷ entries) sorted =
    sorted_entry entry.0 (left_by pick entry.1.file) (picked (pick_after pick entry.1.file) entries) (above_picked entry.0 (pick_after pick entry.1.file) entries sorted.0)
    (sorted_picked (pick_after pick entry.1.file) entries sorted.1)

-- One segment more. Those so far are in the store, and those to come are `left`.
module _ (store : List (ℕ × List ℕ)) (all : List (ℕ × List ℕ)) (pick next : Pick) (left new_left : List (ℕ × Track)) (seg : ℕ) (track : Track)
    (so_far : store ++ picked pick left ≡ all) (is : left ≡ (seg, track) ∷ new_left) (goes : next ≡ pick_after pick track.file) where
  put : (o : Option (List ℕ)) → store ++ (entry_of seg o ++ picked next new_left) ≡ all → IsStrictlySortedBy nat_cmp (keys_of all) → with_left store seg o ++ picked next new_left ≡ all
  put None whole sorted = whole
  put (Some bytes) whole sorted =
      let last = insert_entry-last store (picked next new_left) seg bytes (subst (λ (l : List (ℕ × List ℕ)). IsStrictlySortedBy nat_cmp (keys_of l)) (sym whole) sorted) in
      ap (λ (l : List (ℕ × List ℕ)). l ++ picked next new_left) last ∙ append_assoc store ((seg, bytes) ∷ []) (picked next new_left) ∙ whole

  pub pick_more : (new : List (ℕ × List ℕ)) (o : Option (List ℕ)) → new ≡ with_left store seg o → o ≡ left_by pick track.file → IsStrictlySortedBy nat_cmp (keys_of all) → new ++ picked next new_left ≡ all
  pick_more new o new_is left_is sorted =
      let whole = ap (λ p. store ++ (entry_of seg o ++ picked p new_left)) goes
      ∙ ap (λ (l : Option (List ℕ)). store ++ (entry_of seg l ++ picked (pick_after pick track.file) new_left)) left_is
      ∙ ap (λ (l : List (ℕ × Track)). store ++ picked pick l) (sym is)
      ∙ so_far in
      ap (λ (s : List (ℕ × List ℕ)). s ++ picked next new_left) new_is ∙ put o whole sorted

-- ---- look-ups
no_look_up : {Y : Type 0} (seg : ℕ) (entries : List (ℕ × Y)) → AllAbove seg entries → lookup (is_at (nat_cmp seg)) entries ≡ None
no_look_up seg [] above = refl
no_look_up {Y} seg (entry ∷ entries) above =
    ap (λ o. if Rattle.std.specs.Ordering.is_eq o then Some entry.1 else lookup (is_at (nat_cmp seg)) entries) above.0 ∙ no_look_up seg entries above.1

-- what a look-up finds in front of the other segments
look_up_entry : (seg k : ℕ) (left : Option (List ℕ)) (rest : List (ℕ × List ℕ)) → is_at (nat_cmp seg) k ≡ true → lookup (is_at (nat_cmp seg)) rest ≡ None → lookup (is_at (nat_cmp seg)) (entry_of k left ++ rest) ≡ left
look_up_entry seg k None rest at none = none
look_up_entry seg k (Some bytes) rest at none = ap (λ b. if b then Some bytes else lookup (is_at (nat_cmp seg)) rest) at

look_past_entry : (seg k : ℕ) (left : Option (List ℕ)) (rest : List (ℕ × List ℕ)) → is_at (nat_cmp seg) k ≡ false → lookup (is_at (nat_cmp seg)) (entry_of k left ++ rest) ≡ lookup (is_at (nat_cmp seg)) rest
look_past_entry seg k None rest apart = refl
look_past_entry seg k (Some bytes) rest apart = ap (λ b. if b then Some bytes else lookup (is_at (nat_cmp seg)) rest) apart

-- a key is at its own place alone
at_same : (seg : ℕ) → is_at (nat_cmp seg) seg ≡ true
at_same seg = grind (arith, nat_tests)

at_other : (seg k : ℕ) → seg ≢ k → is_at (nat_cmp seg) k ≡ false
at_other seg k apart = grind (arith, nat_tests)

is_less : (m n : ℕ) → m < n → nat_cmp m n ≡ Less
is_less m n lt = grind (arith, nat_tests)

less_lower : (m n k : ℕ) → m ≤ n → nat_cmp n k ≡ Less → nat_cmp m k ≡ Less
less_lower m n k le less = grind (arith, nat_tests)

above_lower : {Y : Type 0} (seg first : ℕ) (entries : List (ℕ × Y)) → seg ≤ first → AllAbove first entries → AllAbove seg entries
above_lower seg first [] le above = tt
above_lower seg first (entry ∷ entries) le above = (less_lower seg first entry.0 le above.0, above_lower seg first entries le above.1)

-- a segment's file among these
abbrev file_in : List (ℕ × Track) → ℕ → File
file_in entries seg = (unwrap_or (lookup (is_at (nat_cmp seg)) entries) (new_track None)).file

file_none : (entries : List (ℕ × Track)) (seg : ℕ) → AllAbove seg entries → file_in entries seg ≡ absent
file_none entries seg above = ap (λ (o : Option Track). (unwrap_or o (new_track None)).file) (no_look_up seg entries above)

-- The first of them and the others.
module _ (entry : ℕ × Track) (entries : List (ℕ × Track)) where
  file_first : file_in (entry ∷ entries) entry.0 ≡ entry.1.file
  file_first = ap (λ b. (unwrap_or (if b then Some entry.1 else lookup (is_at (nat_cmp entry.0)) entries) (new_track None)).file) (at_same entry.0)

  file_else : (seg : ℕ) → seg ≢ entry.0 → file_in (entry ∷ entries) seg ≡ file_in entries seg
  file_else seg apart = ap (λ b. (unwrap_or (if b then Some entry.1 else lookup (is_at (nat_cmp seg)) entries) (new_track None)).file) (at_other seg entry.0 apart)

could_at : (entries : List (ℕ × Track)) (seg : ℕ) → CouldEach entries → CanAll (file_in entries seg).since (file_in entries seg).forced
could_at [] seg each = tt
could_at (entry ∷ entries) seg each =
    elim (cases_eq seg entry.0) [
      | inl is ↦ subst (λ (file : File). CanAll file.since file.forced) (sym (ap (λ k. file_in (entry ∷ entries) k) is ∙ file_first entry entries)) each.0
      | inr apart ↦ subst (λ (file : File). CanAll file.since file.forced) (sym (file_else entry entries seg apart)) (could_at entries seg each.1)
    ]

-- ---- what is left of each segment
left_none : (pick : Pick) → left_by pick absent ≡ None
left_none pick.Kept = refl
left_none pick.Lost = refl
left_none (pick.Fill byte) = refl
left_none (pick.Cut count) = refl

-- of a segment below all of these
picked_none : (pick other : Pick) (entries : List (ℕ × Track)) (seg : ℕ) → AllAbove seg entries → lookup (is_at (nat_cmp seg)) (picked pick entries) ≡ left_by other (file_in entries seg)
picked_none pick other entries seg above =
    no_look_up seg (picked pick entries) (above_picked seg pick entries above)
    ∙ sym (left_none other)
    ∙ ap (λ (file : File). left_by other file) (sym (file_none entries seg above))

-- The first of them and the others, which are after it.
module _ (pick : Pick) (entry : ℕ × Track) (entries : List (ℕ × Track)) (above : AllAbove entry.0 entries) where
  abbrev next : Pick
  next = pick_after pick entry.1.file

  abbrev log : ℕ → File
  log = file_in (entry ∷ entries)

  has : written (log entry.0).since ≡ written entry.1.file.since
  has = ap (λ (file : File). written file.since) (file_first entry entries)

  none : (k : ℕ) → k < suc entry.0 → written (file_in entries k).since ≡ 0
  none k lt = ap (λ (file : File). written file.since) (file_none entries k (above_lower k entry.0 entries (omega (arith, lt)) above))

  picked_first : lookup (is_at (nat_cmp entry.0)) (picked pick (entry ∷ entries)) ≡ left_by (pick_at pick log entry.0) (log entry.0)
  picked_first =
      look_up_entry entry.0 entry.0 (left_by pick entry.1.file) (picked next entries) (at_same entry.0) (no_look_up entry.0 (picked next entries) (above_picked entry.0 next entries above))
      ∙ ap (λ (p : Pick). left_by p entry.1.file) (sym (pick_first pick log entry.0 (below_it log (file_in entries) entry.0 (written entry.1.file.since) has (file_else entry entries) none)))
      ∙ ap (λ (file : File). left_by (pick_at pick log entry.0) file) (sym (file_first entry entries))

  picked_past : (seg : ℕ) → entry.0 < seg → lookup (is_at (nat_cmp seg)) (picked next entries) ≡ left_by (pick_at next (file_in entries) seg) (file_in entries seg) → lookup (is_at (nat_cmp seg)) (picked pick (entry ∷ entries)) ≡ left_by (pick_at pick log seg) (log seg)
  picked_past seg past later =
      let apart : seg ≢ entry.0 = λ is. omega (arith, is, past) in
      look_past_entry seg entry.0 (left_by pick entry.1.file) (picked next entries) (at_other seg entry.0 apart)
      ∙ later
      ∙ ap (λ (p : Pick). left_by p (file_in entries seg)) (pick_past pick entry.1.file log (file_in entries) seg (below_past log (file_in entries) entry.0 (written entry.1.file.since) has (file_else entry entries) none seg past))
      ∙ ap (λ (file : File). left_by (pick_at pick log seg) file) (sym (file_else entry entries seg apart))

picked_at : (pick : Pick) (entries : List (ℕ × Track)) (seg : ℕ) → IsStrictlySortedBy nat_cmp (keys_of entries) → lookup (is_at (nat_cmp seg)) (picked pick entries) ≡ left_by (pick_at pick (file_in entries) seg) (file_in entries seg)
picked_at pick [] seg sorted = picked_none pick (pick_at pick (file_in []) seg) [] seg tt
picked_at pick (entry ∷ entries) seg sorted =
    let above = sorted_head nat_cmp entry.0 (keys_of entries) sorted in
    let next = pick_after pick entry.1.file in
    elim (cases_lt seg entry.0) [
      | inl lower ↦ picked_none pick (pick_at pick (file_in (entry ∷ entries)) seg) (entry ∷ entries) seg (is_less seg entry.0 lower, above_lower seg entry.0 entries (omega (arith, lower)) above)
      | inr not_lower ↦ elim (cases_lt entry.0 seg) [
        | inl past ↦ picked_past pick entry entries above seg past (picked_at next entries seg (sorted_tail nat_cmp entry.0 (keys_of entries) sorted))
        | inr not_past ↦
            let is : entry.0 ≡ seg = omega (arith, not_lower, not_past) in
            subst (λ k. lookup (is_at (nat_cmp k)) (picked pick (entry ∷ entries)) ≡ left_by (pick_at pick (file_in (entry ∷ entries)) k) (file_in (entry ∷ entries) k)) is (picked_first pick entry entries above)
      ]
    ]

-- When none is to come.
module _ (pick rest : Pick) (items entries left : List (ℕ × Track)) (disk : List (ℕ × List ℕ)) (none_left : left ≡ []) (so_far : disk ++ picked rest left ≡ picked pick items) (is : items ≡ entries) (sorted : IsStrictlySortedBy nat_cmp (keys_of entries)) where
  all : disk ≡ picked pick entries
  all = sym (append-nil disk) ∙ ap (λ (l : List (ℕ × Track)). disk ++ picked rest l) (sym none_left) ∙ so_far ∙ ap (λ (l : List (ℕ × Track)). picked pick l) is

  pub image_picked : (seg : ℕ) → content_at disk seg ≡ left_by (pick_at pick (file_in entries) seg) (file_in entries seg)
  image_picked seg = ap (λ (l : List (ℕ × List ℕ)). lookup (is_at (nat_cmp seg)) l) all ∙ picked_at pick entries seg sorted

  pub image_leaves : (CouldEach left → CouldEach items) → (seg : ℕ) → Leaves (file_in entries seg) (content_at disk seg)
  image_leaves each seg =
      let each_entry : CouldEach entries = subst (λ (l : List (ℕ × Track)). CouldEach l) is (each (subst (λ (l : List (ℕ × Track)). CouldEach l) (sym none_left) tt)) in
      subst (λ (o : Option (List ℕ)). Leaves (file_in entries seg) o) (sym (image_picked seg)) (leaves_left (pick_at pick (file_in entries) seg) (file_in entries seg) (could_at entries seg each_entry))
