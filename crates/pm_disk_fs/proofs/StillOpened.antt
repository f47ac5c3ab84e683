-- Files that were opened to be read are still so when others come and go.
use Rattle.std.proofs.Common.{◌≡◌, ◌+◌, ◌<◌, ◌∙◌, take, length-take, ℕ, List, ◌∷◌, ◌++◌, [], length, inl, inr, refl, sym, subst, arith}
use Rattle.std.specs.Prelude.{Option, None, Some, MatchOption, Bool, true, false, All, Contains, remove, slice_index_or}
use Rattle.std.specs.declared.fs.options.OpenOptions.{OpenOptions}
use Rattle.std.proofs.lemmas.List.{nil_from_length}
use Rattle.std.proofs.lemmas.List.Elements.{All-contains, All-contains_itself, Contains-append_left, Contains-append_right, Contains-append_cases, All-push}
use Rattle.pm_disk.specs.declared.names.StoreFile.{StoreFile}
use Rattle.pm_disk_fs.specs.declared.opened.Opened.{Opened}
use Rattle.pm_disk_fs.specs.Calls.{IsMadeAt, to_read}
use Rattle.pm_disk_fs.specs.OpenFiles.{AreAmong, IsTakenOut}
use Rattle.pm_disk_fs.specs.Reads.{AreOpenedToRead, IsRange, IsRead, IsReadAt}

pub among_same : {F : Type 0} (new old : List (Opened F)) → new ≡ old → AreAmong new old
among_same new old same = subst (λ files. AreAmong files old) (sym same) (record { each = All-contains_itself old })

among_rest : {F : Type 0} (old : List (Opened F)) → AreAmong (remove old 0) old
among_rest [] = record { each = All-contains_itself [] }
among_rest (first ∷ rest) = record {
  each = λ k d lt. Contains-append_right (first ∷ []) rest (slice_index_or rest k d) (All-contains_itself rest k d lt);
}

-- the first one was removed
pub among_removed : {F : Type 0} (new old : List (Opened F)) → new ≡ remove old 0 → AreAmong new old
among_removed new old is = subst (λ files. AreAmong files old) (sym is) (among_rest old)

-- one was taken out
pub among_taken : {F : Type 0} (old new : List (Opened F)) (name : StoreFile) (out : Opened F) → IsTakenOut old new name out → AreAmong new old
among_taken old new name out taken = record {
  each = λ k d lt.
      let x = slice_index_or new k d in
      let here : Contains (taken.before ++ taken.after) x = subst (λ files. Contains files x) taken.is (All-contains_itself new k d lt) in
      subst (λ files. Contains files x) (sym taken.was)
      (elim (Contains-append_cases taken.before taken.after x here) [
        | inl b ↦ Contains-append_left taken.before (out ∷ taken.after) x b
        | inr a ↦ Contains-append_right taken.before (out ∷ taken.after) x (Contains-append_right (out ∷ []) taken.after x a)
      ]);
}

pub opened_among : {F : Type 0} (opened : OpenOptions → List ℕ → F → Type 0) (folder : Option (List ℕ)) (old new : List (Opened F)) → AreOpenedToRead opened folder old → AreAmong new old → AreOpenedToRead opened folder new
opened_among opened folder old new are among = record {
  each = λ k d lt. All-contains (λ file. IsMadeAt folder file.name (λ path. opened to_read path file.file)) old (slice_index_or new k d) are.each (among.each k d lt);
}

pub opened_twice : {F : Type 0} (opened : OpenOptions → List ℕ → F → Type 0) (folder : Option (List ℕ)) (old mid new : List (Opened F)) → AreOpenedToRead opened folder old → AreAmong mid old → AreAmong new mid → AreOpenedToRead opened folder new
opened_twice opened folder old mid new are first next = opened_among opened folder mid new (opened_among opened folder old mid are first) next

-- the file that was taken out was opened at the path of its name
pub opened_taken : {F : Type 0} (opened : OpenOptions → List ℕ → F → Type 0) (folder : Option (List ℕ)) (old new : List (Opened F)) (name : StoreFile) (out : Opened F) → AreOpenedToRead opened folder old → IsTakenOut old new name out
    → IsMadeAt folder name (λ path. opened to_read path out.file)
opened_taken opened folder old new name out are taken =
    let P : Opened _ → Type 0 = λ file. IsMadeAt folder file.name (λ path. opened to_read path file.file) in
    let there : Contains old out = subst (λ files. Contains files out) (sym taken.was) (Contains-append_right taken.before (out ∷ taken.after) out (0, omega arith, refl)) in
    subst (λ n. IsMadeAt folder n (λ path. opened to_read path out.file)) taken.named (All-contains P old out are.each there)

-- one more was opened
pub opened_kept : {F : Type 0} (opened : OpenOptions → List ℕ → F → Type 0) (folder : Option (List ℕ)) (old new : List (Opened F)) (name : StoreFile) (file : Opened F) → AreOpenedToRead opened folder old → file.name ≡ name → IsMadeAt folder name (λ path. opened to_read path file.file)
    → new ≡ old ++ file ∷ [] → AreOpenedToRead opened folder new
opened_kept opened folder old new name file are named at is =
    let P : Opened _ → Type 0 = λ f. IsMadeAt folder f.name (λ path. opened to_read path f.file) in
    let this : P file = subst (λ n. IsMadeAt folder n (λ path. opened to_read path file.file)) (sym named) at in
    subst (λ files. AreOpenedToRead opened folder files) (sym is) (record { each = All-push P old file are.each this })

-- a range was read of a file that was opened there
pub range_at : {F : Type 0} (opened : OpenOptions → List ℕ → F → Type 0) (missing : List ℕ → Type 0) (gave : F → ℕ → List ℕ → Type 0) (folder : Option (List ℕ)) (name : StoreFile) (at : ℕ) (file : F) (whole : Bool) (buffer : List ℕ)
    → IsMadeAt folder name (λ path. opened to_read path file) → IsRange (IsRead gave file at) whole buffer → IsRange (IsReadAt opened missing gave folder name at) whole buffer
range_at opened missing gave folder name at file whole buffer made range = record {
  bytes = range.bytes;
  is_read = record { path = made.path; is_path = made.is_path; is_made = inr (file, made.is_made, range.is_read) };
  all = range.all;
  fewer = range.fewer;
}

-- nothing was read where there is no file
pub none_at : {F X : Type 0} (opened : OpenOptions → List ℕ → F → Type 0) (missing : List ℕ → Type 0) (gave : F → ℕ → List ℕ → Type 0) (is_there : List ℕ → X → Type 0) (folder : Option (List ℕ)) (name : StoreFile) (at : ℕ) (found : Option X) (whole : Bool) (old new : List ℕ)
    → found ≡ None → IsMadeAt folder name (λ path. MatchOption found (missing path) (is_there path)) → (whole ≡ true → new ≡ take 0 old) → (whole ≡ false → length (take 0 old) < length new)
    → IsRange (IsReadAt opened missing gave folder name at) whole new
none_at opened missing gave is_there folder name at found whole old new none made all fewer =
    let empty : take 0 old ≡ [] = nil_from_length (take 0 old) (omega (arith, length-take 0 old)) in
    record {
      bytes = [];
      is_read = record { path = made.path; is_path = made.is_path; is_made = inl (subst (λ o. MatchOption o (missing made.path) (is_there made.path)) none made.is_made, refl) };
      all = λ w. all w ∙ empty;
      fewer = λ w. let less = fewer w in omega (arith, less);
    }

-- the file that was found was opened at the path of this name
pub made_found : {F : Type 0} (opened : OpenOptions → List ℕ → F → Type 0) (missing : List ℕ → Type 0) (folder : Option (List ℕ)) (name : StoreFile) (found : Option (Opened F)) (file : Opened F)
    → found ≡ Some file → IsMadeAt folder name (λ path. MatchOption found (missing path) (λ f. opened to_read path f.file)) → IsMadeAt folder name (λ path. opened to_read path file.file)
made_found opened missing folder name found file is made =
    subst (λ o. IsMadeAt folder name (λ path. MatchOption o (missing path) (λ f. opened to_read path f.file))) is made
