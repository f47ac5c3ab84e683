-- The operations that the lines of a round hand over: one of each accepted line, with its number.
use Rattle.std.proofs.Common.{◌≡◌, ◌⊎◌, inl, inr, ℕ, zero, suc, ◌+◌, ◌*◌, ◌<◌, ◌≤◌, Bool, true, false, List, [], ◌∷◌, ◌++◌, length, Some, refl, sym, ap, ◌∙◌, subst, arith, append_assoc, append-nil, length-append}
use Rattle.std.specs.Prelude.{◌==◌, if◌then◌else◌, slice_get}
use Rattle.std.specs.List.{Contains}
use Rattle.std.proofs.lemmas.Bool.{eqb-true, eqb-false}
use Rattle.std.proofs.lemmas.List.{length-map}
use Rattle.std.proofs.lemmas.Option.{same_Some}
use Rattle.pm_types.specs.declared.shape.Shape.{Shape}
use Rattle.pm_disk.specs.Moments.{History}
use Rattle.pm_frame.specs.Frames.{Frame}
use Rattle.pm_records.specs.Operations.{Operation, AreOperations, operation_bytes, operations_bytes}
use Rattle.pm_records.specs.Records.{Record}
use Rattle.pm_model.specs.declared.line.Line.{Line}
use Rattle.pm_model.specs.Eval.{Pairs, accepted, is_accepted, after}
use Rattle.pm_model.specs.ReplyLists.{ReplyList}
use Rattle.pm_core.specs.Held.{AllWellFormed, pairs_in}
use Rattle.pm_stripe.specs.declared.bound.Bound.{Bound}
use Rattle.pm_stripe.specs.declared.held.Held.{Held}
use Rattle.pm_stripe.specs.ChangedPages.{ChangedPage, page_record, frame_for}
use Rattle.pm_stripe.specs.Listings.{RiseByName, IsChangedPage, GrowsByOperation, handed_bytes_by}
use Rattle.pm_engine.specs.FrameCommands.{frame_pages}
use Rattle.pm_engine.specs.FrameRounds.{DoesNext, DoesLines}
use Rattle.pm_engine.specs.OutboxLogs.{records_of, numbers_of}
use Rattle.pm_engine.proofs.HandedPages.{contains_here, contains_later}

-- ---- no more pages were changed than are in hand

-- a page in hand has this name
abbrev HasName : List Held → ℕ → Type 0
HasName [] n = ⊥
HasName (h ∷ hs) n = (h.page.0 ≡ n) ⊎ HasName hs n

abbrev AllInHand : List Held → List ChangedPage → Type 0
AllInHand hs [] = Unit {0}
AllInHand hs (p ∷ ps) = HasName hs p.page.0 × AllInHand hs ps

-- without the page of this name
abbrev without : ℕ → List ChangedPage → List ChangedPage
without n [] = []
without n (p ∷ ps) = if p.page.0 == n then ps else p ∷ without n ps

without_long : (n : ℕ) (ps : List ChangedPage) → length ps ≤ 1 + length (without n ps)
without_long n [] = omega arith
without_long n (p ∷ ps) = by (without_long n ps) (p.page.0 == n)
  where
    by : length ps ≤ 1 + length (without n ps) → (b : Bool) → length (p ∷ ps) ≤ 1 + length (let rest : List ChangedPage = if b then ps else p ∷ without n ps in rest)
    by rest true = omega arith
    by rest false = omega (arith, rest)

rise_from : (low high : ℕ) (ps : List ChangedPage) → low ≤ high → RiseByName high ps → RiseByName low ps
rise_from low high [] le rise = tt
rise_from low high (p ∷ ps) le rise = (omega (arith, le, rise.0), rise.1)

without_rise : (n low : ℕ) (ps : List ChangedPage) → RiseByName low ps → RiseByName low (without n ps)
without_rise n low [] rise = tt
without_rise n low (p ∷ ps) rise = by (without_rise n (p.page.0 + 1) ps rise.1) (p.page.0 == n)
  where
    by : RiseByName (p.page.0 + 1) (without n ps) → (b : Bool) → RiseByName low (let rest : List ChangedPage = if b then ps else p ∷ without n ps in rest)
    by rest true = rise_from low (p.page.0 + 1) ps (omega (arith, rise.0)) rise.1
    by rest false = (rise.0, rest)

-- pages with names above that of the first page in hand are others
above_in : (h : Held) (hs : List Held) (low : ℕ) (ps : List ChangedPage) → h.page.0 < low → RiseByName low ps → AllInHand (h ∷ hs) ps → AllInHand hs ps
above_in h hs low [] lt rise all = tt
above_in h hs low (p ∷ ps) lt rise all = (
  elim all.0 [ inl same ↦ absurd (omega (arith, same, lt, rise.0)) | inr has ↦ has ],
  above_in h hs (p.page.0 + 1) ps (omega (arith, lt, rise.0)) rise.1 all.1,
)

without_in : (h : Held) (hs : List Held) (low : ℕ) (ps : List ChangedPage) → RiseByName low ps → AllInHand (h ∷ hs) ps → AllInHand hs (without h.page.0 ps)
without_in h hs low [] rise all = tt
without_in h hs low (p ∷ ps) rise all = by (without_in h hs (p.page.0 + 1) ps rise.1 all.1) (p.page.0 == h.page.0) refl
  where
    by : AllInHand hs (without h.page.0 ps) → (b : Bool) → (p.page.0 == h.page.0) ≡ b → AllInHand hs (let rest : List ChangedPage = if b then ps else p ∷ without h.page.0 ps in rest)
    by rest true is = above_in h hs (p.page.0 + 1) ps (omega (arith, eqb-true p.page.0 h.page.0 is)) rise.1 all.1
    by rest false is = (
      elim all.0 [
        | inl same ↦ absurd (eqb-false p.page.0 h.page.0 is (sym same))
        | inr has ↦ has
      ],
      rest,
    )

pub few_in_hand : (hs : List Held) (low : ℕ) (ps : List ChangedPage) → RiseByName low ps → AllInHand hs ps → length ps ≤ length hs
few_in_hand [] low [] rise all = omega arith
few_in_hand [] low (p ∷ ps) rise all = absurd all.0
few_in_hand (h ∷ hs) low ps rise all =
    omega (arith, without_long h.page.0 ps, few_in_hand hs low (without h.page.0 ps) (without_rise h.page.0 low ps rise) (without_in h hs low ps rise all))

name_in_hand : (hs : List Held) (i : ℕ) (h : Held) → slice_get hs i ≡ Some h → HasName hs h.page.0
name_in_hand [] i h at = absurd (cc at)
name_in_hand (x ∷ hs) zero h at = inl (ap (λ (y : Held). y.page.0) (same_Some x h at))
name_in_hand (x ∷ hs) (suc i) h at = inr (name_in_hand hs i h at)

pub all_in_hand : (hs : List Held) (ps : List ChangedPage) → ((p : ChangedPage) → Contains ps p → IsChangedPage hs p) → AllInHand hs ps
all_in_hand hs [] only = tt
all_in_hand hs (p ∷ ps) only =
    let one = only p (contains_here p ps) in (
      subst (HasName hs) (sym (ap (λ (q : ChangedPage). q.page.0) one.is)) (name_in_hand hs one.place one.page one.at),
      all_in_hand hs ps (λ q has. only q (contains_later p q ps has)),
    )

-- ---- an outbox grows

-- it grew by these operations, at most so many
pub record HandsOperations (count : ℕ) (old new : List ℕ) : Type 0 where
  pub operations : List Operation
  pub are : AreOperations operations
  pub grows : new ≡ old ++ operations_bytes operations
  pub few : length operations ≤ count
  pub records : length (records_of operations) ≤ 33 * count

joined_bytes : (xs ys : List Operation) → operations_bytes (xs ++ ys) ≡ operations_bytes xs ++ operations_bytes ys
joined_bytes [] ys = refl
joined_bytes (x ∷ xs) ys = ap (λ bs. operation_bytes x ++ bs) (joined_bytes xs ys) ∙ sym (append_assoc (operation_bytes x) (operations_bytes xs) (operations_bytes ys))

joined_are : (xs ys : List Operation) → AreOperations xs → AreOperations ys → AreOperations (xs ++ ys)
joined_are [] ys one two = two
joined_are (x ∷ xs) ys one two = (one.0, joined_are xs ys one.1 two)

joined_records : (xs ys : List Operation) → records_of (xs ++ ys) ≡ records_of xs ++ records_of ys
joined_records [] ys = refl
joined_records (x ∷ xs) ys = ap (λ (fs : List Frame). x.records ++ fs) (joined_records xs ys) ∙ sym (append_assoc x.records (records_of xs) (records_of ys))

joined_numbers : (xs ys : List Operation) → numbers_of (xs ++ ys) ≡ numbers_of xs ++ numbers_of ys
joined_numbers [] ys = refl
joined_numbers (x ∷ xs) ys = ap (λ ns. x.line ∷ ns) (joined_numbers xs ys)

abbrev hands_none : (old new : List ℕ) → new ≡ old → HandsOperations 1 old new
hands_none old new same = record {
  operations = [];
  are = tt;
  grows = same ∙ sym (append-nil old);
  few = omega arith;
  records = omega arith;
}

-- what one accepted line hands over
abbrev hands_one : (number : ℕ) (rec : Record) (held : List Held) (old new : List ℕ) → length held ≤ 32 → GrowsByOperation number (Some rec) held old new → HandsOperations 1 old new
hands_one number rec held old new few grows =
    let o = grows.hands.operation in
    let is = grows.hands.is in
    let whole : handed_bytes_by o.records o ≡ operation_bytes o = ap (λ (rs : List Frame). handed_bytes_by rs o) is.records_are in
    let listed : length is.listed ≤ length held = few_in_hand held 0 is.listed is.lists.rise (all_in_hand held is.listed is.lists.only) in
    record {
      operations = o ∷ [];
      are = (is.is_operation, tt);
      grows = grows.grows ∙ ap (λ more. old ++ more) (grows.hands.bytes_are ∙ whole ∙ sym (append-nil (operation_bytes o)));
      few = omega arith;
      records = omega (arith, ap length (append-nil o.records), ap length is.records_are, length-map is.listed (λ (p : ChangedPage). frame_for (page_record p)), listed, few);
    }

abbrev hands_then : (count : ℕ) (old mid new : List ℕ) → HandsOperations 1 old mid → HandsOperations count mid new → HandsOperations (suc count) old new
hands_then count old mid new one more = record {
  operations = one.operations ++ more.operations;
  are = joined_are one.operations more.operations one.are more.are;
  grows = more.grows ∙ ap (λ bs. bs ++ operations_bytes more.operations) one.grows ∙ append_assoc old (operations_bytes one.operations) (operations_bytes more.operations)
      ∙ ap (λ bs. old ++ bs) (sym (joined_bytes one.operations more.operations));
  few = omega (arith, length-append one.operations more.operations, one.few, more.few);
  records = omega (arith, ap length (joined_records one.operations more.operations), length-append (records_of one.operations) (records_of more.operations), one.records, more.records);
}

-- ---- lines

-- the numbers of a line and of those after it
numbers_then : (shape : Shape) (number : ℕ) (line : Line) (lines : List Line) (pairs : Pairs) (taken : Bool) → taken ≡ is_accepted shape line pairs
    → (let ns : List ℕ = if taken then number ∷ [] else [] in ns) ++ accepted shape (number + 1) lines (after shape line pairs) ≡ accepted shape number (line ∷ lines) pairs
numbers_then shape number line lines pairs taken is = ap (λ (b : Bool). let ns : List ℕ = if b then number ∷ [] else [] in ns ++ accepted shape (number + 1) lines (after shape line pairs)) is ∙ by (is_accepted shape line pairs)
  where
    by : (b : Bool) → (let ns : List ℕ = if b then number ∷ [] else [] in ns ++ accepted shape (number + 1) lines (after shape line pairs))
        ≡ (let ns : List ℕ = if b then number ∷ accepted shape (number + 1) lines (after shape line pairs) else accepted shape (number + 1) lines (after shape line pairs) in ns)
    by true = refl
    by false = refl

module _ {Q R : Type 0} (tells : Type 0) (history : R → History) where
  abbrev pub WellFormed : Bound Q R → Type 0
  WellFormed b = AllWellFormed b.stripe.shape (frame_pages history b)

  abbrev pub map_by : Bound Q R → Pairs
  map_by b = pairs_in b.stripe.shape.partitions (frame_pages history b)

  -- what these lines handed over, and of which of them that is where the pages are told
  pub record HandsLines (number : ℕ) (lines : List Line) (b c : Bound Q R) : Type 0 where
    pub hands : HandsOperations (length lines) b.stripe.outbox c.stripe.outbox
    pub numbers : tells → WellFormed b → numbers_of hands.operations ≡ accepted b.stripe.shape number lines (map_by b)

  -- one line
  record HandsLine (number : ℕ) (line : Line) (b c : Bound Q R) (taken : Bool) : Type 0 where
    hands : HandsOperations 1 b.stripe.outbox c.stripe.outbox
    numbers : numbers_of hands.operations ≡ (let ns : List ℕ = if taken then number ∷ [] else [] in ns)
    shape : c.stripe.shape ≡ b.stripe.shape

  line_hands : (number : ℕ) (line : Line) (b c : Bound Q R) (was now : ReplyList) (next : DoesNext tells history number line b c was now) → HandsLine number line b c next.accepted
  line_hands number line b c was now next = by next.accepted refl
    where
      by : (taken : Bool) → next.accepted ≡ taken → HandsLine number line b c taken
      by false off =
          let none = next.does.refused off in
          record { hands = hands_none b.stripe.outbox c.stripe.outbox none.outbox; numbers = refl; shape = none.seat.shape }
      by true on =
          let h = next.does.hands on in
          let x = h.change in
          let few : length x.held ≤ 32 = omega (arith, ap length x.before.held_are, x.before.operates.frames.few) in
          record {
            hands = hands_one number h.rec x.held b.stripe.outbox c.stripe.outbox few x.grows;
            numbers = ap (λ n. n ∷ []) x.grows.hands.is.line_is;
            shape = x.seat.shape;
          }

  pub lines_hand : (lines : List Line) (number : ℕ) (b c : Bound Q R) (was now : ReplyList) → DoesLines tells history number lines b c was now → HandsLines number lines b c
  lines_hand [] number b c was now none = record {
    hands = record {
      operations = [];
      are = tt;
      grows = none.0.outbox ∙ sym (append-nil b.stripe.outbox);
      few = omega arith;
      records = omega arith;
    };
    numbers = λ t well. refl;
  }
  lines_hand (line ∷ lines) number b c was now (m, mid, next, rest) =
      let one = line_hands number line b m was mid next in
      let more = lines_hand lines (number + 1) m c mid now rest in
      let both = hands_then (length lines) b.stripe.outbox m.stripe.outbox c.stripe.outbox one.hands more.hands in
      record {
        hands = both;
        numbers = λ t well.
            let x = next.evaluates t well in
            let well_then : WellFormed m = subst (λ (s : Shape). AllWellFormed s (frame_pages history m)) (sym one.shape) x.well_formed in
            let map_is : pairs_in m.stripe.shape.partitions (frame_pages history m) ≡ after b.stripe.shape line (map_by b) = ap (λ (s : Shape). pairs_in s.partitions (frame_pages history m)) one.shape ∙ x.map in
            joined_numbers one.hands.operations more.hands.operations
            ∙ (λ i. one.numbers i ++ more.numbers t well_then i)
            ∙ (λ i. (let ns : List ℕ = if next.accepted then number ∷ [] else [] in ns) ++ accepted (one.shape i) (number + 1) lines (map_is i))
            ∙ numbers_then b.stripe.shape number line lines (map_by b) next.accepted x.accepted_is;
      }
