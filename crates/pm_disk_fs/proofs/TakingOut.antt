-- A list is what stands before an element, the element, and what follows.
use Rattle.std.proofs.Common.{◌≡◌, ◌<◌, ◌+◌, ℕ, suc, List, ◌∷◌, ◌++◌, [], length, take, drop, get_or, sym, ◌∙◌, ap, subst, add-one, arith}
use Rattle.std.specs.Prelude.{Option, Some, slice_get, IfSome}
use Rattle.std.specs.Iterator.{Yields}
use Rattle.std.specs.Vec.Iter.{into_iter_items, into_iter_len, into_iter_steps}
use Rattle.std.specs.declared.vec.IntoIter.{IntoIter}
use Rattle.std.proofs.lemmas.List.{take-append-drop, append-nil, nil_from_length}
use Rattle.std.proofs.lemmas.Option.{slice_get-get_or}
use Rattle.std.proofs.Math.Seq.{drop-cons}
use Rattle.pm_disk.specs.declared.names.StoreFile.{StoreFile}
use Rattle.pm_disk_fs.specs.declared.opened.Opened.{Opened}
use Rattle.pm_disk_fs.specs.OpenFiles.{IsTakenOut, IsNotOpen}
use Rattle.pm_disk_fs.specs.Positions.{HasBytes, IsWritten}

pub split_at : {X : Type 0} (xs : List X) (i : ℕ) (x : X) → i < length xs → x ≡ get_or xs i x → xs ≡ take i xs ++ x ∷ drop (i + 1) xs
split_at xs i x lt is =
    sym (take-append-drop i xs)
    ∙ ap (λ rest. take i xs ++ rest) (drop-cons xs i x lt ∙ ap (λ first. first ∷ drop (suc i) xs) (sym is) ∙ ap (λ n. x ∷ drop n xs) (sym (add-one i)))

-- the file at an index is taken out
pub taken_out : {F : Type 0} (old new : List (Opened F)) (i : ℕ) (file : Opened F) (name : StoreFile) → i < length old → IfSome (slice_get old i) (λ f. f.name ≡ name) → file ≡ get_or old i file
    → new ≡ take i old ++ drop (i + 1) old → IsNotOpen (drop (i + 1) old) name → IsTakenOut old new name file
taken_out old new i file name lt named is left latest = record {
  named = subst (λ o. IfSome o (λ f. f.name ≡ name)) (slice_get-get_or old i file lt ∙ ap Some (sym is)) named;
  before = take i old;
  after = drop (i + 1) old;
  was = split_at old i file lt is;
  is = left;
  latest = latest;
}

-- the file that was put after the others was written last
pub written_last : {F : Type 0} (contents : F → Option (List ℕ)) (files before : List (Opened F)) (file : Opened F) (was name : StoreFile) (at : ℕ) (bytes : List ℕ) → files ≡ before ++ file ∷ [] → HasBytes contents file was at bytes → was ≡ name → IsWritten contents files name at bytes
written_last contents files before file was name at bytes last has same = record {
  before = before;
  file = file;
  last = last;
  has = record { named = has.named ∙ same; handed = has.handed; noted = has.noted; unforced = has.unforced };
}

-- what the iterator of a vector has given, and what is left of it, are its items
pub taken_front : {X A : Type 0} (s : IntoIter X A) (xs : List X) (t : IntoIter X A) → Yields into_iter_steps s xs t → into_iter_items s ≡ xs ++ into_iter_items t
taken_front s [] t y = ap into_iter_items y
taken_front s (x ∷ xs) t y = y.1.0 ∙ ap (λ ys. x ∷ ys) (taken_front y.0 xs t y.2)

-- all of them, where none is left
pub taken_all : {X A : Type 0} (s : IntoIter X A) (xs : List X) (t : IntoIter X A) → Yields into_iter_steps s xs t → into_iter_len t ≡ 0 → xs ≡ into_iter_items s
taken_all s xs t y none =
    let empty : into_iter_items t ≡ [] = nil_from_length (into_iter_items t) (omega (arith, t.rest.ok.0, none)) in
    sym (append-nil xs) ∙ ap (λ l. xs ++ l) (sym empty) ∙ sym (taken_front s xs t y)
