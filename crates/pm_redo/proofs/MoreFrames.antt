-- What one frame more rebuilds.
use Rattle.std.proofs.Common.{◌≡◌, List, [], ◌∷◌, ◌++◌, Option, Some, None, Bool, true, false, refl, sym, ◌∙◌, ap}
use Rattle.std.specs.Prelude.{if◌then◌else◌}
use Rattle.std.specs.Option.{option_map, option_and_then}
use Rattle.pm_types.specs.declared.shape.Shape.{Shape}
use Rattle.pm_frame.specs.Frames.{Frame}
use Rattle.pm_records.specs.FirstRecords.{is_restart}
use Rattle.pm_records.specs.Logs.{record_in}
use Rattle.pm_records.specs.Records.{Record}
use Rattle.pm_core.specs.BasePages.{Partitions, no_pages, records_in, since_restart, rebuilt_by, rebuilt_from, rebuilt_of}
use Rattle.pm_core.proofs.Rebuilt.{fold_append}
use Rattle.pm_redo.specs.PageMaps.{pages_after}

-- ---- the records of frames

put_first : Option Record → Option (List Record) → Option (List Record)
put_first one rest = option_and_then (λ head. option_map (λ rest. head ∷ rest) rest) one

-- both are records
record Both (one : Option Record) (rest : Option (List Record)) (all : List Record) : Type 0 where
  head : Record
  others : List Record
  head_is : one ≡ Some head
  others_are : rest ≡ Some others
  all_are : all ≡ head ∷ others

both_of : (one : Option Record) (rest : Option (List Record)) (all : List Record)
    → option_and_then (λ head. option_map (λ rest. head ∷ rest) rest) one ≡ Some all → Both one rest all
both_of None rest all is = let no : None ≡ Some all = is in absurd cc
both_of (Some head) None all is = let no : None ≡ Some all = is in absurd cc
both_of (Some head) (Some others) all is = record { head = head; others = others; head_is = refl; others_are = refl; all_are = let same : head ∷ others ≡ all = cc in sym same }

none_of : (one : Option Record) → option_and_then (λ head. option_map (λ (rest : List Record). head ∷ rest) None) one ≡ None
none_of None = refl
none_of (Some head) = refl

pub records_more : (frames : List Frame) (records : List Record) (f : Frame) (r : Record) → records_in frames ≡ Some records → record_in f ≡ Some r → records_in (frames ++ f ∷ []) ≡ Some (records ++ r ∷ [])
records_more [] records f r are is =
    let none : [] ≡ records = cc in
    ap (λ (one : Option Record). option_and_then (λ head. option_map (λ (rest : List Record). head ∷ rest) (Some [])) one) is
    ∙ ap (λ (l : List Record). Some (l ++ r ∷ [])) none
records_more (g ∷ frames) records f r are is =
    let both = both_of (record_in g) (records_in frames) records are in
    let more = records_more frames both.others f r both.others_are is in
    ap (λ (rest : Option (List Record)). option_and_then (λ head. option_map (λ (rest : List Record). head ∷ rest) rest) (record_in g)) more
    ∙ ap (λ (one : Option Record). option_and_then (λ head. option_map (λ (rest : List Record). head ∷ rest) (Some (both.others ++ r ∷ []))) one) both.head_is
    ∙ ap (λ (l : List Record). Some (l ++ r ∷ [])) (sym both.all_are)

-- one that is in no grammar
pub records_none : (frames : List Frame) (f : Frame) (rest : List Frame) → record_in f ≡ None → records_in (frames ++ f ∷ rest) ≡ None
records_none [] f rest is = ap (λ (one : Option Record). option_and_then (λ head. option_map (λ (l : List Record). head ∷ l) (records_in rest)) one) is
records_none (g ∷ frames) f rest is =
    ap (λ (l : Option (List Record)). option_and_then (λ head. option_map (λ (rest : List Record). head ∷ rest) l) (record_in g)) (records_none frames f rest is)
    ∙ none_of (record_in g)

-- ---- the pages

pub rebuilt_none : (shape : Shape) (frames : List Frame) (f : Frame) (rest : List Frame) → record_in f ≡ None → rebuilt_of shape (frames ++ f ∷ rest) ≡ None
unfolding rebuilt_of
rebuilt_none shape frames f rest is = ap (option_and_then (λ records. rebuilt_from shape (since_restart records))) (records_none frames f rest is)

of_records : (shape : Shape) (frames : List Frame) (records : List Record) → records_in frames ≡ Some records → rebuilt_of shape frames ≡ rebuilt_from shape (since_restart records)
unfolding rebuilt_of
of_records shape frames records are = ap (option_and_then (λ found. rebuilt_from shape (since_restart found))) are

since_more : (records : List Record) (r : Record) → since_restart (records ++ r ∷ []) ≡ (if is_restart (Some r) then [] else since_restart records ++ r ∷ [])
since_more records r = fold_append (λ taken found. if is_restart (Some found) then [] else taken ++ found ∷ []) [] records (r ∷ [])

from_more : (shape : Shape) (records : List Record) (r : Record) → rebuilt_from shape (records ++ r ∷ []) ≡ option_and_then (rebuilt_by shape r) (rebuilt_from shape records)
from_more shape records r = fold_append (λ pages found. option_and_then (rebuilt_by shape found) pages) (Some no_pages) records (r ∷ [])

none_yet : (shape : Shape) → rebuilt_from shape [] ≡ Some no_pages
none_yet shape = refl

pub nothing_rebuilt : (shape : Shape) → rebuilt_of shape [] ≡ Some no_pages
unfolding rebuilt_of
nothing_rebuilt shape = refl

by_more : (shape : Shape) (records : List Record) (r : Record) (b : Bool)
    → rebuilt_from shape (let l : List Record = if b then [] else since_restart records ++ r ∷ [] in l)
    ≡ (let o : Option Partitions = if b then Some no_pages else option_and_then (rebuilt_by shape r) (rebuilt_from shape (since_restart records)) in o)
by_more shape records r true = refl
by_more shape records r false = from_more shape (since_restart records) r

-- one record more
pub rebuilt_more : (shape : Shape) (frames : List Frame) (records : List Record) (f : Frame) (r : Record) → records_in frames ≡ Some records → record_in f ≡ Some r
    → rebuilt_of shape (frames ++ f ∷ []) ≡ (if is_restart (Some r) then Some no_pages else option_and_then (rebuilt_by shape r) (rebuilt_of shape frames))
rebuilt_more shape frames records f r are is =
    of_records shape (frames ++ f ∷ []) (records ++ r ∷ []) (records_more frames records f r are is)
    ∙ ap (rebuilt_from shape) (since_more records r)
    ∙ by_more shape records r (is_restart (Some r))
    ∙ ap (λ (o : Option Partitions). if is_restart (Some r) then Some no_pages else option_and_then (rebuilt_by shape r) o) (sym (of_records shape frames records are))

-- where pages are rebuilt
pub then_after : (shape : Shape) (frames : List Frame) (records : List Record) (f : Frame) (r : Record) (pages : Partitions) → records_in frames ≡ Some records → record_in f ≡ Some r → rebuilt_of shape frames ≡ Some pages
    → rebuilt_of shape (frames ++ f ∷ []) ≡ pages_after shape r pages
then_after shape frames records f r pages are is were =
    rebuilt_more shape frames records f r are is ∙ ap (λ (o : Option Partitions). if is_restart (Some r) then Some no_pages else option_and_then (rebuilt_by shape r) o) were

-- where none are, only a RESTART makes them so
pub then_restarted : (shape : Shape) (frames : List Frame) (records : List Record) (f : Frame) (r : Record) → records_in frames ≡ Some records → record_in f ≡ Some r → is_restart (Some r) ≡ true
    → rebuilt_of shape (frames ++ f ∷ []) ≡ Some no_pages
then_restarted shape frames records f r are is restarts =
    rebuilt_more shape frames records f r are is
    ∙ ap (λ (b : Bool). let o : Option Partitions = if b then Some no_pages else option_and_then (rebuilt_by shape r) (rebuilt_of shape frames) in o) restarts

pub then_none : (shape : Shape) (frames : List Frame) (records : List Record) (f : Frame) (r : Record) → records_in frames ≡ Some records → record_in f ≡ Some r → is_restart (Some r) ≡ false → rebuilt_of shape frames ≡ None
    → rebuilt_of shape (frames ++ f ∷ []) ≡ None
then_none shape frames records f r are is no_restart none =
    rebuilt_more shape frames records f r are is
    ∙ ap (λ (b : Bool). let o : Option Partitions = if b then Some no_pages else option_and_then (rebuilt_by shape r) (rebuilt_of shape frames) in o) no_restart
    ∙ ap (option_and_then (rebuilt_by shape r)) none
