-- What each pick leaves of a file is what a crash may leave of it.
use Rattle.std.proofs.Common.{◌≡◌, ◌⊎◌, inl, inr, ℕ, suc, ◌+◌, ◌-◌, ◌<◌, ◌≤◌, List, [], ◌∷◌, ◌++◌, length, take, Option, Some, None, refl, sym, ◌∙◌, ap, subst, arith, length-append, length-take}
use Rattle.std.specs.Prelude.{slice_get, replicate, IsSome, IsNone}
use Rattle.std.proofs.lemmas.Bool.{false≢true, cases_lt}
use Rattle.std.proofs.lemmas.List.{length-replicate}
use Rattle.pm_disk.specs.Files.{Change, Write, Cut, Drop, File, after, changed, content, bytes_of, at_change}
use Rattle.pm_disk.specs.Images.{Touches, Untouched, Leaves}
use Rattle.pm_disk.proofs.Files.{at_change-last}
use Rattle.pm_disk.proofs.Writes.{length-write, write_before, write_after, length-cut, cut_before, slice_get-append_left, slice_get-take}
use Rattle.pm_disk_mem.specs.Changes.{CanChange, CanAll}
use Rattle.pm_disk_mem.specs.Picks.{filled_by, filled, written_by, laid_over, laid_by, laid, left_by}
use Rattle.pm_disk_mem.specs.declared.pick.Pick.{Pick}
use Rattle.pm_disk_mem.specs.declared.pick.Pick.TheVariants as pick

-- One change of a file, laid in some way over what a crash leaves of it so far: no byte but those that the change
-- touches is another one, and the length lies between what it was and that of the file.
record Lays (change : Change) (file before after_it : Option (List ℕ)) : Type 0 where
  grows : length (bytes_of before) ≤ length (bytes_of after_it)
  bounded : (length (bytes_of after_it) ≤ length (bytes_of before)) ⊎ (length (bytes_of after_it) ≤ length (bytes_of (changed change file)))
  there : IsSome after_it → IsSome before ⊎ IsSome (changed change file)
  stays : IsNone after_it → IsNone before
  kept : (i : ℕ) → i < length (bytes_of before) → (Touches change i → ⊥) → slice_get (bytes_of after_it) i ≡ slice_get (bytes_of before) i

-- The same of changes one after the other.
record LaysAll (changes : List Change) (file before after_all : Option (List ℕ)) : Type 0 where
  grows : length (bytes_of before) ≤ length (bytes_of after_all)
  bounded : (length (bytes_of after_all) ≤ length (bytes_of before)) ⊎ ((k : ℕ) × (k ≤ length changes) × (length (bytes_of after_all) ≤ length (bytes_of (after (take k changes) file))))
  there : IsSome after_all → IsSome before ⊎ ((k : ℕ) × (k ≤ length changes) × IsSome (after (take k changes) file))
  stays : IsNone after_all → IsNone before
  kept : (i : ℕ) → i < length (bytes_of before) → Untouched changes i → slice_get (bytes_of after_all) i ≡ slice_get (bytes_of before) i

lays_none : (file before : Option (List ℕ)) → LaysAll [] file before before
lays_none file before = record {
  grows = omega arith;
  bounded = inl (omega arith);
  there = λ is. inl is;
  stays = λ is. is;
  kept = λ i lt un. refl;
}

lays_more : (change : Change) (changes : List Change) (file before mid after_all : Option (List ℕ)) → Lays change file before mid → LaysAll changes (changed change file) mid after_all → LaysAll (change ∷ changes) file before after_all
lays_more change changes file before mid after_all first all = record {
  grows = omega (arith, first.grows, all.grows);
  bounded = elim all.bounded [
    | inl short ↦ elim first.bounded [
      | inl shorter ↦ inl (omega (arith, short, shorter))
      | inr now ↦ inr (1, omega arith, omega (arith, short, now))
    ]
    | inr later ↦ inr (suc later.0, omega (arith, later.1), later.2)
  ];
  there = λ is. elim (all.there is) [
    | inl mid_is ↦ elim (first.there mid_is) [
      | inl before_is ↦ inl before_is
      | inr now ↦ inr (1, omega arith, now)
    ]
    | inr later ↦ inr (suc later.0, omega (arith, later.1), later.2)
  ];
  stays = λ none. first.stays (all.stays none);
  kept = λ i lt un. all.kept i (omega (arith, lt, first.grows)) un.1 ∙ first.kept i lt un.0;
}

-- laid over the forced file, it is what a crash may leave
leaves_laid : (file : File) (left : Option (List ℕ)) → LaysAll file.since file.forced file.forced left → Leaves file left
leaves_laid file None all = (0, omega arith, all.stays refl)
leaves_laid file (Some left) all = record {
  was_there = elim (all.there refl) [
    | inl was ↦ (0, omega arith, was)
    | inr later ↦ later
  ];
  no_shorter = (0, omega arith, all.grows);
  no_longer = elim all.bounded [
    | inl short ↦ (0, omega arith, short)
    | inr later ↦ later
  ];
  kept = λ i lt within un. all.kept i within un;
}

-- ---- each pick

-- nothing is laid
lays_same : (change : Change) (file before : Option (List ℕ)) → Lays change file before before
lays_same change file before = record {
  grows = omega arith;
  bounded = inl (omega arith);
  there = λ is. inl is;
  stays = λ is. is;
  kept = λ i lt un. refl;
}

-- as many bytes as a write has are written, or fewer
lays_write : (at : ℕ) (bytes part : List ℕ) (file before : Option (List ℕ)) → at ≤ length (bytes_of file) → at ≤ length (bytes_of before) → length part ≤ length bytes → Lays (Write at bytes) file before (changed (Write at part) before)
lays_write at bytes part file before can within fewer =
    let long = length-write at part before within in
    let file_long = length-write at bytes file can in
    record {
      grows = omega (arith, long);
      bounded = elim (cases_lt (length (bytes_of before)) (at + length part)) [
        | inl past ↦ inr (omega (arith, past, long, file_long, fewer))
        | inr inside ↦ inl (omega (arith, inside, long))
      ];
      there = λ is. inr refl;
      stays = λ no. absurd (false≢true (sym no));
      kept = λ i lt apart. elim (cases_lt i at) [
        | inl front ↦ write_before at part before within i front
        | inr after_all ↦ elim (cases_lt i (at + length bytes)) [
          | inl touched ↦ absurd (apart (after_all, touched))
          | inr past ↦ write_after at part before within i (omega (arith, past, fewer))
        ]
      ];
    }

-- the bytes that a cut takes are others
lays_cut : (byte len : ℕ) (file before : Option (List ℕ)) → len ≤ length (bytes_of before) → Lays (Cut len) file before (filled_by byte (Cut len) before)
lays_cut byte len file before within =
    let old = bytes_of before in
    let long : length (take len old ++ replicate (length old - len) byte) ≡ length old = omega (arith, within, length-append (take len old) (replicate (length old - len) byte), length-take len old, length-replicate (length old - len) byte) in
    record {
      grows = omega (arith, long);
      bounded = inl (omega (arith, long));
      there = λ is. inr refl;
      stays = λ no. absurd (false≢true (sym no));
      kept = λ i lt apart. elim (cases_lt i len) [
        | inl front ↦ slice_get-append_left (take len old) (replicate (length old - len) byte) i (omega (arith, front, within, length-take len old)) ∙ slice_get-take len old i front
        | inr cut ↦ absurd (apart cut)
      ];
    }

lays_fill : (byte : ℕ) (change : Change) (file before : Option (List ℕ)) → CanChange change file → length (bytes_of file) ≤ length (bytes_of before) → Lays change file before (filled_by byte change before)
lays_fill byte (Write at bytes) file before can longer = lays_write at bytes (replicate (length bytes) byte) file before can (omega (arith, can, longer)) (omega (arith, length-replicate (length bytes) byte))
lays_fill byte (Cut len) file before can longer = lays_cut byte len file before (omega (arith, can, longer))
lays_fill byte Drop file before can longer = lays_same Drop file before

-- what is filled is no shorter than the file
longer_fill : (byte : ℕ) (change : Change) (file before : Option (List ℕ)) → CanChange change file → length (bytes_of file) ≤ length (bytes_of before) → length (bytes_of (changed change file)) ≤ length (bytes_of (filled_by byte change before))
longer_fill byte (Write at bytes) file before can longer =
    omega (arith, longer, length-write at bytes file can, length-write at (replicate (length bytes) byte) before (omega (arith, can, longer)), length-replicate (length bytes) byte)
longer_fill byte (Cut len) file before can longer = omega (arith, longer, length-cut len file, (lays_fill byte (Cut len) file before can longer).grows)
longer_fill byte Drop file before can longer = omega arith

all_fill : (byte : ℕ) (changes : List Change) (file before : Option (List ℕ)) → CanAll changes file → length (bytes_of file) ≤ length (bytes_of before) → LaysAll changes file before (filled byte changes before)
all_fill byte [] file before can longer = lays_none file before
all_fill byte (change ∷ changes) file before can longer =
    lays_more change changes file before (filled_by byte change before) (filled byte changes (filled_by byte change before))
    (lays_fill byte change file before can.0 longer) (all_fill byte changes (changed change file) (filled_by byte change before) can.1 (longer_fill byte change file before can.0 longer))

-- What of a write is laid by a cut.
module _ (at : ℕ) (bytes : List ℕ) (file before : Option (List ℕ)) (can : at ≤ length (bytes_of file)) where
  over : (part : List ℕ) → length part ≤ length bytes → (0 < length part → length (bytes_of file) ≤ length (bytes_of before)) → Lays (Write at bytes) file before (laid_over at part before)
  over [] fewer longer = lays_same (Write at bytes) file before
  over (byte ∷ part) fewer longer = lays_write at bytes (byte ∷ part) file before can (omega (arith, can, longer (omega arith))) fewer

  over_whole : (part : List ℕ) → length part ≡ length bytes → length (bytes_of file) ≤ length (bytes_of before) → length (bytes_of (changed (Write at bytes) file)) ≤ length (bytes_of (laid_over at part before))
  over_whole [] whole longer = omega (arith, whole, longer, can, length-write at bytes file can)
  over_whole (byte ∷ part) whole longer = omega (arith, whole, longer, can, length-write at bytes file can, length-write at (byte ∷ part) before (omega (arith, can, longer)))

lays_cut_short : (count : ℕ) (change : Change) (file before : Option (List ℕ)) → CanChange change file → (0 < count → length (bytes_of file) ≤ length (bytes_of before)) → Lays change file before (laid_by count change before)
lays_cut_short count (Write at bytes) file before can longer =
    over at bytes file before can (take count bytes) (omega (arith, length-take count bytes)) (λ some. longer (omega (arith, some, length-take count bytes)))
lays_cut_short count (Cut len) file before can longer = lays_same (Cut len) file before
lays_cut_short count Drop file before can longer = lays_same Drop file before

longer_cut_short : (count : ℕ) (change : Change) (file before : Option (List ℕ)) → CanChange change file → (0 < count → length (bytes_of file) ≤ length (bytes_of before)) → 0 < count - written_by change → length (bytes_of (changed change file)) ≤ length (bytes_of (laid_by count change before))
longer_cut_short count (Write at bytes) file before can longer left =
    over_whole at bytes file before can (take count bytes) (omega (arith, left, length-take count bytes)) (longer (omega (arith, left)))
longer_cut_short count (Cut len) file before can longer left = omega (arith, longer (omega (arith, left)), length-cut len file)
longer_cut_short count Drop file before can longer left = omega arith

all_cut_short : (count : ℕ) (changes : List Change) (file before : Option (List ℕ)) → CanAll changes file → (0 < count → length (bytes_of file) ≤ length (bytes_of before)) → LaysAll changes file before (laid count changes before)
all_cut_short count [] file before can longer = lays_none file before
all_cut_short count (change ∷ changes) file before can longer =
    let mid = laid_by count change before in
    lays_more change changes file before mid (laid (count - written_by change) changes mid)
    (lays_cut_short count change file before can.0 longer)
    (all_cut_short (count - written_by change) changes (changed change file) mid can.1 (longer_cut_short count change file before can.0 longer))

all_same : (changes : List Change) (file before : Option (List ℕ)) → LaysAll changes file before before
all_same [] file before = lays_none file before
all_same (change ∷ changes) file before = lays_more change changes file before before before (lays_same change file before) (all_same changes (changed change file) before)

-- an untouched byte of the content is as it was forced
change_keeps : (change : Change) (file : Option (List ℕ)) (i : ℕ) → CanChange change file → (Touches change i → ⊥) → i < length (bytes_of (changed change file)) → (i < length (bytes_of file)) × (slice_get (bytes_of (changed change file)) i ≡ slice_get (bytes_of file) i)
change_keeps (Write at bytes) file i can apart lt =
    let long = length-write at bytes file can in
    elim (cases_lt i at) [
      | inl front ↦ (omega (arith, front, can), write_before at bytes file can i front)
      | inr after_all ↦ elim (cases_lt i (at + length bytes)) [
        | inl touched ↦ absurd (apart (after_all, touched))
        | inr past ↦ (omega (arith, past, lt, long), write_after at bytes file can i past)
      ]
    ]
change_keeps (Cut len) file i can apart lt =
    elim (cases_lt i len) [
      | inl front ↦ (omega (arith, front, can), cut_before len file i front)
      | inr cut ↦ absurd (apart cut)
    ]
change_keeps Drop file i can apart lt = absurd (omega (arith, lt))

changes_keep : (changes : List Change) (file : Option (List ℕ)) (i : ℕ) → CanAll changes file → Untouched changes i → i < length (bytes_of (after changes file)) → (i < length (bytes_of file)) × (slice_get (bytes_of (after changes file)) i ≡ slice_get (bytes_of file) i)
changes_keep [] file i can un lt = (lt, refl)
changes_keep (change ∷ changes) file i can un lt =
    let later = changes_keep changes (changed change file) i can.1 un.1 lt in
    let now = change_keeps change file i can.0 un.0 later.0 in
    (now.0, later.1 ∙ now.1)

-- the content may be left
leaves_content : (file : File) → CanAll file.since file.forced → Leaves file (content file)
leaves_content file can = at_end (content file) refl
  where
    last : at_change file (length file.since) ≡ content file
    last = at_change-last file (length file.since) (omega arith)

    at_end : (left : Option (List ℕ)) → left ≡ content file → Leaves file left
    at_end None is = (length file.since, omega arith, subst (λ (o : Option (List ℕ)). IsNone o) (is ∙ sym last) refl)
    at_end (Some left) is =
        let now : at_change file (length file.since) ≡ Some left = last ∙ sym is in
        let long : length (bytes_of (at_change file (length file.since))) ≡ length left = ap (λ (o : Option (List ℕ)). length (bytes_of o)) now in
        record {
          was_there = (length file.since, omega arith, subst (λ (o : Option (List ℕ)). IsSome o) (sym now) refl);
          no_shorter = (length file.since, omega arith, omega (arith, long));
          no_longer = (length file.since, omega arith, omega (arith, long));
          kept = λ i lt within un.
              let same : bytes_of (content file) ≡ left = ap bytes_of (sym is) in
              let keeps = changes_keep file.since file.forced i can un (subst (λ (l : List ℕ). i < length l) (sym same) lt) in
              ap (λ (l : List ℕ). slice_get l i) (sym same) ∙ keeps.1;
        }

-- each pick leaves what a crash may leave
pub leaves_left : (pick : Pick) (file : File) → CanAll file.since file.forced → Leaves file (left_by pick file)
leaves_left pick.Kept file can = leaves_content file can
leaves_left pick.Lost file can = leaves_laid file file.forced (all_same file.since file.forced file.forced)
leaves_left (pick.Fill byte) file can = leaves_laid file (filled byte file.since file.forced) (all_fill byte file.since file.forced file.forced can (omega arith))
leaves_left (pick.Cut count) file can = leaves_laid file (laid count file.since file.forced) (all_cut_short count file.since file.forced file.forced can (λ some. omega arith))
