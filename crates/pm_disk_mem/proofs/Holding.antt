-- A file in memory holds what its changes make of it.
use Rattle.std.proofs.Common.{◌≡◌, List, [], ◌∷◌, ◌++◌, ℕ, zero, suc, length, map, take, drop, Option, sym, ◌∙◌, ap, subst, arith, length-append}
use Rattle.std.proofs.lemmas.List.{map-append, take-append-drop, take_all, drop_all}
use Rattle.pm_disk.specs.Files.{Change, after, changed, content, all_forced}
use Rattle.pm_disk.proofs.Files.{after-push, after-append}
use Rattle.pm_disk_mem.specs.Changes.{change_of, CanChange, CanAll}
use Rattle.pm_disk_mem.specs.Tracks.{Track, track_of, Holds}
use Rattle.pm_disk_mem.specs.declared.change.FileChange.{FileChange}

-- what a read finds
content-track : (start : Option (List ℕ)) (changes : List Change) (lasting : ℕ) → content (track_of start changes lasting).file ≡ after changes start
content-track start changes lasting = sym (after-append (take lasting changes) (drop lasting changes) start) ∙ ap (λ (cs : List Change). after cs start) (take-append-drop lasting changes)

pub held_is : (held start : Option (List ℕ)) (changes : List Change) (lasting : ℕ) (track : Track) → Holds held start changes lasting → track_of start changes lasting ≡ track → held ≡ content track.file
held_is held start changes lasting track holds is = holds.now ∙ sym (content-track start changes lasting) ∙ ap (λ (t : Track). content t.file) is

can-push : (changes : List Change) (change : Change) (file : Option (List ℕ)) → CanAll changes file → CanChange change (after changes file) → CanAll (changes ++ change ∷ []) file
can-push [] change file all can = (can, tt)
can-push (first ∷ changes) change file all can = (all.0, can-push changes change (changed first file) all.1 can)

pub holds_change : (old new start : Option (List ℕ)) (changes : List Change) (change : Change) (lasting : ℕ) → Holds old start changes lasting → CanChange change old → new ≡ changed change old → Holds new start (changes ++ change ∷ []) lasting
holds_change old new start changes change lasting holds can is = record {
  now = is ∙ ap (changed change) holds.now ∙ sym (after-push changes change start);
  within = omega (arith, holds.within, length-append changes (change ∷ []));
  can = can-push changes change start holds.can (rw holds.now at can);
}

-- all of it lasting
pub track_of-force : (start : Option (List ℕ)) (changes : List Change) (lasting : ℕ) → track_of start changes (length changes) ≡ (let was = track_of start changes lasting in record was { file = all_forced was.file })
track_of-force start changes lasting =
    ap (λ (cs : List Change). record { start = start; file = record { forced = after cs start; since = drop (length changes) changes } }) (take_all (length changes) changes (omega arith))
    ∙ ap (λ (cs : List Change). record { start = start; file = record { forced = after changes start; since = cs } }) (drop_all (length changes) changes (omega arith))
    ∙ ap (λ (o : Option (List ℕ)). record { start = start; file = record { forced = o; since = [] } }) (sym (content-track start changes lasting))

pub map_push : (old new : List FileChange) (change : FileChange) → new ≡ old ++ change ∷ [] → map change_of new ≡ map change_of old ++ change_of change ∷ []
map_push old new change is = ap (map change_of) is ∙ map-append change_of old (change ∷ [])

can-drop : (n : ℕ) (changes : List Change) (file : Option (List ℕ)) → CanAll changes file → CanAll (drop n changes) (after (take n changes) file)
can-drop zero changes file can = can
can-drop (suc n) [] file can = tt
can-drop (suc n) (change ∷ changes) file can = can-drop n changes (changed change file) can.1

-- the changes since the last force could be made
pub can_since : (held start : Option (List ℕ)) (changes : List Change) (lasting : ℕ) (track : Track) → Holds held start changes lasting → track_of start changes lasting ≡ track → CanAll track.file.since track.file.forced
can_since held start changes lasting track holds is = subst (λ (t : Track). CanAll t.file.since t.file.forced) is (can-drop lasting changes start holds.can)
