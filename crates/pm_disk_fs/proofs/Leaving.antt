-- Where each file that is open after what was buffered was written is synced, a folder is left synced.
use Rattle.std.proofs.Common.{◌≡◌, ◌<◌, ◌∙◌, ℕ, List, ◌∷◌, [], length, inl, inr, refl, sym, subst, arith}
use Rattle.std.specs.Prelude.{◌⊎◌, Option, Bool, false, IsTrue, Contains}
use Rattle.std.specs.Bool.{MatchBool}
use Rattle.std.proofs.lemmas.List.Elements.{All-contains, Contains-append_right}
use Rattle.pm_disk.specs.declared.names.StoreFile.TheVariants.{Segment}
use Rattle.pm_disk_fs.specs.declared.opened.Opened.{Opened}
use Rattle.pm_disk_fs.specs.OpenFiles.{AreSynced, OthersStayOpen}
use Rattle.pm_disk_fs.specs.Positions.{LeavesSynced, IsStretchWritten}
use Rattle.pm_disk_fs.specs.WriteBuffer.{Stretch}

-- a file that has to be forced was synced
not_forced : (S : Type 0) (forced : Bool) → forced ≡ false → IsTrue forced ⊎ S → S
not_forced S forced unforced (inl is) = absurd (subst (λ b. MatchBool b (Unit {0}) ⊥) (sym is ∙ unforced) tt)
not_forced S forced unforced (inr synced) = synced

pub leaves_synced : {F : Type 0} (contents : F → Option (List ℕ)) (synced : F → Type 0) (buffer : Stretch) (old mid : List (Opened F)) → (buffer.bytes ≡ [] → mid ≡ old) → OthersStayOpen old mid (Segment buffer.seg)
    → (0 < length buffer.bytes → IsStretchWritten contents mid buffer) → AreSynced synced mid → LeavesSynced contents synced buffer old
leaves_synced contents synced buffer old mid idle others wrote are =
    let P : Opened _ → Type 0 = λ file. IsTrue file.is_forced ⊎ synced file.file in
    record {
      idle = λ none. subst (λ files. AreSynced synced files) (idle none) are;
      others = λ few file other there. All-contains P mid file are.each (others.stay few file other there);
      buffered = λ some.
          let w = wrote some in
          let here : Contains mid w.file = subst (λ files. Contains files w.file) (sym w.last) (Contains-append_right w.before (w.file ∷ []) w.file (0, omega arith, refl)) in
          (w.file.file, w.has.handed, not_forced (synced w.file.file) w.file.is_forced w.has.unforced (All-contains P mid w.file are.each here));
    }
