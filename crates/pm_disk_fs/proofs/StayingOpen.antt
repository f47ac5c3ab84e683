-- Each file of another name stays open when a file is taken out and put after the others.
use Rattle.std.proofs.Common.{◌≡◌, ◌+◌, ◌≤◌, List, ◌∷◌, ◌++◌, [], length, sym, ◌∙◌, ap, subst, arith, length-append, append_assoc}
use Rattle.std.specs.Prelude.{◌≢◌, ◌==◌, Contains, slice_index_or, remove, false, if◌then◌else◌}
use Rattle.std.proofs.lemmas.Bool.Decides.{nat_tests}
use Rattle.std.proofs.Common.{inl, inr}
use Rattle.std.proofs.lemmas.List.Elements.{Contains-append_left, Contains-append_right, Contains-append_cases}
use Rattle.pm_disk.specs.declared.names.StoreFile.{StoreFile}
use Rattle.pm_disk_fs.specs.declared.opened.Opened.{Opened}
use Rattle.pm_disk_fs.specs.OpenFiles.{IsTakenOut, OthersStayOpen, after_oldest}
use Rattle.pm_disk_fs.specs.declared.open_files.TheConstants.{OPEN_MAX}

-- the only element of a list of one
pub only_one : {X : Type 0} (x y : X) → Contains (x ∷ []) y → x ≡ y
only_one x y at = let none : at.0 ≡ 0 = omega (arith, at.1) in subst (λ k. slice_index_or (x ∷ []) k y ≡ y) none at.2

others_left : {F : Type 0} (before after : List (Opened F)) (out file : Opened F) (name : StoreFile) → out.name ≡ name → file.name ≢ name → Contains (before ++ out ∷ after) file → Contains (before ++ after) file
others_left before after out file name named other there =
    elim (Contains-append_cases before (out ∷ after) file there) [
      | inl b ↦ Contains-append_left before after file b
      | inr rest ↦ elim (Contains-append_cases (out ∷ []) after file rest) [
        | inl o ↦ absurd (other (ap (λ f. f.name) (sym (only_one out file o)) ∙ named))
        | inr a ↦ Contains-append_right before after file a
      ]
    ]

-- a file was taken out
pub others_of_taken : {F : Type 0} (old new : List (Opened F)) (name : StoreFile) (out : Opened F) → IsTakenOut old new name out → OthersStayOpen old new name
others_of_taken old new name out taken = record {
  stay = λ few file other there.
      subst (λ files. Contains files file) (sym taken.is)
      (others_left taken.before taken.after out file name taken.named other (subst (λ files. Contains files file) taken.was there));
}

-- the files are the same
pub others_of_same : {F : Type 0} (old new : List (Opened F)) (name : StoreFile) → new ≡ old → OthersStayOpen old new name
others_of_same old new name same = record { stay = λ few file other there. subst (λ files. Contains files file) (sym same) there }

-- the one that was changed longest ago was closed, where there were as many as may be
pub others_of_room : {F : Type 0} (old new : List (Opened F)) (name : StoreFile) → new ≡ after_oldest old → OthersStayOpen old new name
others_of_room old new name is = record {
  stay = λ few file other there.
      let full : (length old == OPEN_MAX) ≡ false = grind (arith, nat_tests) in
      subst (λ files. Contains files file) (sym (is ∙ ap (λ b. if b then remove old 0 else old) full)) there;
}

-- a file was put after the others
pub others_of_kept : {F : Type 0} (old mid new : List (Opened F)) (name : StoreFile) (more : Opened F) → OthersStayOpen old mid name → new ≡ mid ++ more ∷ [] → OthersStayOpen old new name
others_of_kept old mid new name more stays is = record {
  stay = λ few file other there. subst (λ files. Contains files file) (sym is) (Contains-append_left mid (more ∷ []) file (stays.stay few file other there));
}

-- the files are those that were left
pub others_still : {F : Type 0} (old mid new : List (Opened F)) (name : StoreFile) → OthersStayOpen old mid name → new ≡ mid → OthersStayOpen old new name
others_still old mid new name stays same = subst (λ files. OthersStayOpen old files name) (sym same) stays

-- one more of those that are taken in stands after the others
pub still_all : {F : Type 0} (first taken old mid new : List (Opened F)) (file : Opened F) → length first + length (taken ++ file ∷ []) ≤ OPEN_MAX → (length first + length taken ≤ OPEN_MAX → old ≡ first ++ taken) → mid ≡ after_oldest old → new ≡ mid ++ file ∷ []
    → new ≡ first ++ (taken ++ file ∷ [])
still_all first taken old mid new file fits so_far room kept =
    let count = length-append taken (file ∷ []) in
    let is = so_far (omega (arith, fits, count)) in
    let long = ap (λ (l : List (Opened _)). length l) is ∙ length-append first taken in
    let full : (length old == OPEN_MAX) ≡ false = grind (arith, nat_tests) in
    kept ∙ ap (λ l. l ++ file ∷ []) (room ∙ ap (λ b. if b then remove old 0 else old) full ∙ is) ∙ append_assoc first taken (file ∷ [])
