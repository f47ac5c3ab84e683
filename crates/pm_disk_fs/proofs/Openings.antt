-- Where the names are said to last after a file was taken to be changed, it wasn't made.
use Rattle.std.proofs.Common.{ℕ, List, ◌∷◌, Bool, inl, inr, refl, sym, ◌∙◌, subst, arith}
use Rattle.std.specs.Prelude.{◌⊎◌, Option, IsTrue, Contains}
use Rattle.std.specs.declared.fs.options.OpenOptions.{OpenOptions}
use Rattle.std.specs.Bool.{MatchBool}
use Rattle.std.proofs.lemmas.List.Elements.{Contains-append_right}
use Rattle.pm_disk.specs.declared.names.StoreFile.{StoreFile}
use Rattle.pm_disk_fs.specs.declared.opened.Opened.{Opened}
use Rattle.pm_disk_fs.specs.Calls.{IsOpenedToChange, WasThere}
use Rattle.pm_disk_fs.specs.OpenFiles.{IsTakenOut}

pub was_there : {F : Type 0} (opened : OpenOptions → List ℕ → F → Type 0) (folder : Option (List ℕ)) (old mid : List (Opened F)) (name : StoreFile) (last : Bool) (file : Opened F) → IsTakenOut old mid name file ⊎ IsOpenedToChange opened folder name last file.file
    → IsTrue last → WasThere opened folder old name
was_there opened folder old mid name last file (inl t) is =
    inl (file, subst (λ (l : List (Opened _)). Contains l file) (sym t.was) (Contains-append_right t.before (file ∷ t.after) file (0, omega arith, refl)), t.named)
was_there opened folder old mid name last file (inr (inl at)) is = inr (file.file, at)
was_there opened folder old mid name last file (inr (inr made)) is = absurd (subst (λ b. MatchBool b (Unit {0}) ⊥) (sym is ∙ made.1) tt)
