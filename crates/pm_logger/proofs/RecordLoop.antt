-- How an operation's records are appended, one after the other.
use Rattle.std.proofs.Common.{◌≡◌, ℕ, List, [], ◌∷◌, ◌++◌, length, refl, sym, ap, ◌∙◌, subst, arith, length-append, Bool, true, false, Some, None, append-nil}
use Rattle.std.specs.Prelude.{◌||◌, ◌==◌, ◌<◌, if◌then◌else◌, ◌&&◌, IsSome}
use Rattle.std.proofs.lemmas.List.{append_assoc}
use Rattle.pm_frame.specs.declared.kinds.TheConstants.{LOGICAL}
use Rattle.pm_frame.specs.Frames.{Frame}
use Rattle.pm_disk.specs.Moments.{IsHistory}
use Rattle.pm_segments.specs.Ends.{EndsThere}
use Rattle.pm_logger.specs.LogCalls.{AppendFrame, lines_in, named_line, record_calls, MakesCalls, BreaksOff}
use Rattle.pm_records.specs.Operations.{record_bytes, records_bytes, IsLogged, AreLogged, SpellRecords, AreRecords, BeginsWithNoRecord}
use Rattle.pm_logger.specs.Writers.{Writer}
use Rattle.pm_logger.proofs.Chains.{makes_none, makes_then, breaks_then, breaks_before}
use Rattle.pm_logger.proofs.OperationBytes.{same_records}
use Rattle.pm_logger.proofs.RecordBytes.{one_record, record_longer}

pub records_bytes-append : (xs ys : List Frame) → records_bytes (xs ++ ys) ≡ records_bytes xs ++ records_bytes ys
records_bytes-append [] ys = refl
records_bytes-append (x ∷ xs) ys = ap (λ bs. record_bytes x ++ bs) (records_bytes-append xs ys) ∙ sym (append_assoc (record_bytes x) (records_bytes xs) (records_bytes ys))

pub logged-append : (xs ys : List Frame) → AreLogged xs → AreLogged ys → AreLogged (xs ++ ys)
logged-append [] ys a b = b
logged-append (x ∷ xs) ys a b = (a.0, logged-append xs ys a.1 b)

-- whether the line was named once these records were appended
abbrev pub named_after : Bool → List Frame → Bool
named_after is_named [] = is_named
named_after is_named (f ∷ fs) = named_after (is_named || f.kind == LOGICAL) fs

record_calls-append : (line : ℕ) (is_named : Bool) (xs ys : List Frame) → record_calls line is_named (xs ++ ys) ≡ record_calls line is_named xs ++ record_calls line (named_after is_named xs) ys
record_calls-append line is_named [] ys = refl
record_calls-append line is_named (x ∷ xs) ys = ap (λ cs. AppendFrame (named_line line is_named x.kind) x ∷ cs) (record_calls-append line (is_named || x.kind == LOGICAL) xs ys)

named_after-push : (is_named : Bool) (xs : List Frame) (y : Frame) → named_after is_named (xs ++ y ∷ []) ≡ (named_after is_named xs || y.kind == LOGICAL)
named_after-push is_named [] y = refl
named_after-push is_named (x ∷ xs) y = named_after-push (is_named || x.kind == LOGICAL) xs y

-- of the records so many were appended, and these are left
pub record RecordsSoFar (tells : Type 0) (before now : Writer) (line : ℕ) (bytes rest : List ℕ) (is_named : Bool) : Type 0 where
  pub done : List Frame
  pub left : List Frame
  pub done_are : AreLogged done
  pub left_is : SpellRecords rest left
  pub whole : bytes ≡ records_bytes done ++ rest
  pub named : is_named ≡ named_after false done
  pub makes : MakesCalls tells before now (record_calls line false done)
  pub fresh : is_named ≡ false → now.lines ≡ before.lines

pub records_begin : {tells : Type 0} (now : Writer) (line : ℕ) (bytes : List ℕ) → AreRecords bytes → (tells → IsHistory now.history) → (tells → EndsThere now.log now.history.world)
    → RecordsSoFar tells now now line bytes bytes false
records_begin now line bytes are sound ends = record {
  done = [];
  left = are.0;
  done_are = tt;
  left_is = are.1;
  whole = refl;
  named = refl;
  makes = makes_none now sound ends;
  fresh = λ e. refl;
}

-- the record at the front is the next of them
next_of : (rest rest' : List ℕ) (f : Frame) (left : List Frame) → SpellRecords rest left → IsLogged f → rest ≡ record_bytes f ++ rest' → (others : List Frame) × (left ≡ f ∷ others) × SpellRecords rest' others
next_of rest rest' f [] spelled is_f e = absurd (omega (arith, ap length spelled.1, ap length e, length-append (record_bytes f) rest', record_longer f))
next_of rest rest' f (g ∷ others) spelled is_f e =
    let one = one_record f g rest' (records_bytes others) is_f spelled.0.0 (sym e ∙ spelled.1) in
    (others, ap (λ h. h ∷ others) (sym one.0), (spelled.0.1, one.1))

unnamed : (line : ℕ) (is_named : Bool) (kind : ℕ) → (is_named || kind == LOGICAL) ≡ false → named_line line is_named kind ≡ None
unnamed line true kind e = absurd cc
unnamed line false kind e = ap (λ (b : Bool). if b && true then Some line else None) e

named_once : (line : ℕ) (is_named : Bool) (kind : ℕ) → is_named ≡ true → named_line line is_named kind ≡ None
named_once line is_named kind e = subst (λ b. named_line line b kind ≡ None) (sym e) (each (kind == LOGICAL))
  where
    each : (b : Bool) → (if b && false then Some line else None) ≡ None
    each true = refl
    each false = refl

module _ {tells : Type 0} {before between now : Writer} {line : ℕ} {bytes rest : List ℕ} (rest' : List ℕ) {is_named : Bool} (so_far : RecordsSoFar tells before between line bytes rest is_named)
    (f : Frame) (is_f : IsLogged f) (e : rest ≡ record_bytes f ++ rest')
  where
    -- one record more
    pub records_more : {is_named' : Bool} → is_named' ≡ (is_named || f.kind == LOGICAL) → MakesCalls tells between now (AppendFrame (named_line line is_named f.kind) f ∷ [])
        → RecordsSoFar tells before now line bytes rest' is_named'
    records_more {is_named'} named makes =
        let next = next_of rest rest' f so_far.left so_far.left_is is_f e in
        let calls : record_calls line false so_far.done ++ AppendFrame (named_line line is_named f.kind) f ∷ [] ≡ record_calls line false (so_far.done ++ f ∷ []) =
        ap (λ b. record_calls line false so_far.done ++ AppendFrame (named_line line b f.kind) f ∷ []) so_far.named ∙ sym (record_calls-append line false so_far.done (f ∷ [])) in
        record {
          done = so_far.done ++ f ∷ [];
          left = next.0;
          done_are = logged-append so_far.done (f ∷ []) so_far.done_are (is_f, tt);
          left_is = next.2;
          whole = so_far.whole ∙ ap (λ r. records_bytes so_far.done ++ r) e ∙ sym (append_assoc (records_bytes so_far.done) (record_bytes f) rest')
              ∙ ap (λ b. b ++ rest') (ap (λ b. records_bytes so_far.done ++ b) (sym (append-nil (record_bytes f))) ∙ sym (records_bytes-append so_far.done (f ∷ [])));
          named = named ∙ ap (λ b. b || f.kind == LOGICAL) so_far.named ∙ sym (named_after-push false so_far.done f);
          makes = subst (MakesCalls tells before now) calls (makes_then so_far.makes makes);
          fresh = λ none. let still : (is_named || f.kind == LOGICAL) ≡ false = sym named ∙ none in
              makes.lines_are ∙ ap (λ l. between.lines ++ lines_in (AppendFrame l f ∷ [])) (unnamed line is_named f.kind still) ∙ append-nil between.lines ∙ so_far.fresh (was is_named (f.kind == LOGICAL) still);
        }
      where
        was : (a b : Bool) → (a || b) ≡ false → a ≡ false
        was true b e = e
        was false b e = refl

    -- the next one failed
    pub records_broke : BreaksOff tells between now (AppendFrame (named_line line is_named f.kind) f ∷ []) → (frames : List Frame) → SpellRecords bytes frames → BreaksOff tells before now (record_calls line false frames)
    records_broke broke frames spelled =
        let next = next_of rest rest' f so_far.left so_far.left_is is_f e in
        let more = record_calls line (is_named || f.kind == LOGICAL) next.0 in
        let call = AppendFrame (named_line line is_named f.kind) f in
        let all = breaks_then so_far.makes (breaks_before more broke) in
        let calls : record_calls line false so_far.done ++ call ∷ more ≡ record_calls line false (so_far.done ++ f ∷ next.0) =
        ap (λ b. record_calls line false so_far.done ++ record_calls line b (f ∷ next.0)) so_far.named ∙ sym (record_calls-append line false so_far.done (f ∷ next.0)) in
        let whole : bytes ≡ records_bytes (so_far.done ++ f ∷ next.0) = so_far.whole ∙ ap (λ r. records_bytes so_far.done ++ r) (e ∙ ap (λ r. record_bytes f ++ r) next.2.1) ∙ sym (records_bytes-append so_far.done (f ∷ next.0)) in
        let same = same_records (so_far.done ++ f ∷ next.0) frames (logged-append so_far.done (f ∷ next.0) so_far.done_are (is_f, next.2.0)) spelled.0 (sym whole ∙ spelled.1) in
        subst (BreaksOff tells before now) (calls ∙ ap (record_calls line false) same) all

-- all records were appended
pub records_done : {tells : Type 0} {before now : Writer} {line : ℕ} {bytes rest : List ℕ} {is_named : Bool} → RecordsSoFar tells before now line bytes rest is_named → BeginsWithNoRecord rest
    → (frames : List Frame) → SpellRecords bytes frames → MakesCalls tells before now (record_calls line false frames)
records_done {tells} {before} {now} {line} {bytes} {rest} so_far none frames spelled =
    let over : (left : List Frame) → SpellRecords rest left → rest ≡ [] = λ left. elim left as (λ left. SpellRecords rest left → rest ≡ []) [
      | [] ↦ λ is. is.1
      | f ∷ fs ↦ λ is. absurd (none f (records_bytes fs) is.0.0 is.1)
    ] in
    let whole : bytes ≡ records_bytes so_far.done = so_far.whole ∙ ap (λ r. records_bytes so_far.done ++ r) (over so_far.left so_far.left_is) ∙ append-nil (records_bytes so_far.done) in
    subst (λ fs. MakesCalls tells before now (record_calls line false fs)) (same_records so_far.done frames so_far.done_are spelled.0 (sym whole ∙ spelled.1)) so_far.makes

-- a line is named once at most, so that there is still room for it
pub still_room : {tells : Type 0} {before now : Writer} {line : ℕ} {bytes rest : List ℕ} {is_named : Bool} → RecordsSoFar tells before now line bytes rest is_named
    → (kind most : ℕ) → length before.lines < most → IsSome (named_line line is_named kind) → length now.lines < most
still_room {before} {now} {line} {is_named} so_far kind most room some = each is_named refl
  where
    nothing : IsSome {T = ℕ} None → ⊥
    nothing e = absurd cc

    each : (b : Bool) → is_named ≡ b → length now.lines < most
    each true e = absurd (nothing (subst IsSome (named_once line is_named kind e) some))
    each false e = omega (arith, room, ap length (so_far.fresh e))
