-- SEALs rebuild nothing: where frames differ only by SEALs, they rebuild the same pages.
use Rattle.std.proofs.Common.{◌≡◌, Bool, true, false, List, [], ◌∷◌, ◌++◌, Option, Some, None, refl, sym, ap, ◌∙◌, subst, append_assoc, append-nil, arith}
use Rattle.std.specs.Prelude.{if◌then◌else◌, IsSome}
use Rattle.std.specs.Option.{option_and_then}
use Rattle.std.proofs.lemmas.Bool.{eqb-true}
use Rattle.pm_types.specs.declared.page_id.PageId.{PageId}
use Rattle.pm_types.specs.declared.shape.Shape.{Shape}
use Rattle.pm_frame.specs.declared.kinds.TheConstants.{SEAL}
use Rattle.pm_frame.specs.Frames.{Frame}
use Rattle.pm_records.specs.FirstRecords.{is_restart}
use Rattle.pm_records.specs.Logs.{record_in, is_seal, without_seals}
use Rattle.pm_records.specs.Records.{Record, Logical, Snapshot, Delta, CpBegin, Restart, Seal, kind_of}
use Rattle.pm_records.proofs.RecordOf.{record_of-some}
use Rattle.pm_core.specs.BasePages.{Partitions, no_pages, records_in, rebuilt_by, rebuilt_of}
use Rattle.pm_core.specs.States.{AllInGrammar}
use Rattle.pm_redo.proofs.MoreFrames.{records_more, rebuilt_more}
use Rattle.pm_engine.specs.TrackedPages.{TracksPages}

-- the record of a SEAL
seal_record : (f : Frame) (r : Record) → record_in f ≡ Some r → is_seal f ≡ true → r ≡ Seal
seal_record f r is sealed = by r (sym (eqb-true f.kind SEAL sealed) ∙ (record_of-some f.kind f.payload r is).1)
  where
    by : (r : Record) → SEAL ≡ kind_of r → r ≡ Seal
    by (Logical op cache key value) e = absurd (omega (arith, e))
    by (Snapshot page bytes) e = absurd (omega (arith, e))
    by (Delta page ranges) e = absurd (omega (arith, e))
    by (CpBegin number replay) e = absurd (omega (arith, e))
    by (Restart shape) e = absurd (omega (arith, e))
    by Seal e = refl

some_of : {A : Type 0} (o : Option A) → IsSome o → (x : A) × (o ≡ Some x)
some_of None is = absurd cc
some_of (Some x) is = (x, refl)

-- frames that rebuild the same as others, each of them with its records
record SameRebuilt (shape : Shape) (xs ys : List Frame) : Type 0 where
  xs_are : (records : List Record) × (records_in xs ≡ Some records)
  ys_are : (records : List Record) × (records_in ys ≡ Some records)
  same : rebuilt_of shape xs ≡ rebuilt_of shape ys

more_same : (shape : Shape) (xs ys : List Frame) (f : Frame) (r : Record) → record_in f ≡ Some r → SameRebuilt shape xs ys → SameRebuilt shape (xs ++ f ∷ []) (ys ++ f ∷ [])
more_same shape xs ys f r is s = record {
  xs_are = (s.xs_are.0 ++ r ∷ [], records_more xs s.xs_are.0 f r s.xs_are.1 is);
  ys_are = (s.ys_are.0 ++ r ∷ [], records_more ys s.ys_are.0 f r s.ys_are.1 is);
  same = rebuilt_more shape xs s.xs_are.0 f r s.xs_are.1 is
      ∙ ap (λ (o : Option Partitions). let p : Option Partitions = if is_restart (Some r) then Some no_pages else option_and_then (rebuilt_by shape r) o in p) s.same
      ∙ sym (rebuilt_more shape ys s.ys_are.0 f r s.ys_are.1 is);
}

sealed_same : (shape : Shape) (xs ys : List Frame) (f : Frame) → record_in f ≡ Some Seal → SameRebuilt shape xs ys → SameRebuilt shape (xs ++ f ∷ []) ys
sealed_same shape xs ys f is s = record {
  xs_are = (s.xs_are.0 ++ Seal ∷ [], records_more xs s.xs_are.0 f Seal s.xs_are.1 is);
  ys_are = s.ys_are;
  same = rebuilt_more shape xs s.xs_are.0 f Seal s.xs_are.1 is ∙ still (rebuilt_of shape xs) ∙ s.same;
}
  where
    still : (o : Option Partitions) → option_and_then (rebuilt_by shape Seal) o ≡ o
    still None = refl
    still (Some pages) = refl

all_same : (shape : Shape) (xs ys fs : List Frame) → AllInGrammar fs → SameRebuilt shape xs ys → SameRebuilt shape (xs ++ fs) (ys ++ without_seals fs)
all_same shape xs ys [] well s = subst (λ (l : List Frame). SameRebuilt shape l (ys ++ [])) (sym (append-nil xs)) (subst (SameRebuilt shape xs) (sym (append-nil ys)) s)
all_same shape xs ys (f ∷ fs) well s = by (is_seal f) refl (λ xs ys s. all_same shape xs ys fs well.1 s)
  where
    r : (x : Record) × (record_in f ≡ Some x)
    r = some_of (record_in f) well.0

    by : (b : Bool) → is_seal f ≡ b → ((xs ys : List Frame) → SameRebuilt shape xs ys → SameRebuilt shape (xs ++ fs) (ys ++ without_seals fs)) → SameRebuilt shape (xs ++ f ∷ fs) (ys ++ (let l : List Frame = if b then without_seals fs else f ∷ without_seals fs in l))
    by true e rest =
        let seal : record_in f ≡ Some Seal = r.1 ∙ ap Some (seal_record f r.0 r.1 e) in
        subst (λ (l : List Frame). SameRebuilt shape l (ys ++ without_seals fs)) (append_assoc xs (f ∷ []) fs)
        (rest (xs ++ f ∷ []) ys (sealed_same shape xs ys f seal s))
    by false e rest =
        subst (λ (l : List Frame). SameRebuilt shape l (ys ++ f ∷ without_seals fs)) (append_assoc xs (f ∷ []) fs)
        (subst (SameRebuilt shape ((xs ++ f ∷ []) ++ fs)) (append_assoc ys (f ∷ []) (without_seals fs))
        (rest (xs ++ f ∷ []) (ys ++ f ∷ []) (more_same shape xs ys f r.0 r.1 s)))

-- with the SEALs or without them
pub rebuilt_sealed : (shape : Shape) (frames : List Frame) → AllInGrammar frames → rebuilt_of shape frames ≡ rebuilt_of shape (without_seals frames)
rebuilt_sealed shape frames well = (all_same shape [] [] frames well (record { xs_are = ([], refl); ys_are = ([], refl); same = refl })).same

pub tracks_sealed : (shape : Shape) (frames others : List Frame) (files pages : Partitions) (logged : List PageId) → AllInGrammar frames → AllInGrammar others → without_seals frames ≡ without_seals others
    → TracksPages shape frames files pages logged → TracksPages shape others files pages logged
tracks_sealed shape frames others files pages logged well well' same t = record {
  rebuilt = t.rebuilt;
  is = rebuilt_sealed shape others well' ∙ ap (rebuilt_of shape) (sym same) ∙ sym (rebuilt_sealed shape frames well) ∙ t.is;
  each = t.each;
  there = t.there;
  clean = t.clean;
}
