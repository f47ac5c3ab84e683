-- How what workers hand over is merged.
use Rattle.std.proofs.Common.{◌≡◌, ◌⊎◌, inl, inr, ℕ, zero, suc, ◌<◌, ◌≤◌, ◌≢◌, List, [], ◌∷◌, ◌++◌, length, refl, sym, ap, ◌∙◌, subst, arith, append-nil, length-append, Bool, true, false, Some, get_or, set}
use Rattle.std.specs.Prelude.{if◌then◌else◌, ◌==◌}
use Rattle.std.specs.List.{slice_get}
use Rattle.std.proofs.lemmas.Bool.Decides.{nat_tests}
use Rattle.std.proofs.lemmas.List.{length-set}
use Rattle.std.proofs.lemmas.Option.{slice_get-get_or, slice_get_within}
use Rattle.pm_disk.specs.Moments.{IsHistory}
use Rattle.pm_segments.specs.Ends.{EndsThere}
use Rattle.pm_logger.specs.Blocks.{joined}
use Rattle.pm_logger.specs.Fronts.{AppendsAll, Appends, StandsFirst}
use Rattle.pm_logger.specs.Inboxes.{kept, taken, AppendsTaken}
use Rattle.pm_logger.specs.LogCalls.{lines_in, operations_calls}
use Rattle.pm_logger.specs.Merges.{Entry, operations_in, of_worker, AreOfWorkers, HandsOver, Merges, AppendsMerge, IsNextKept}
use Rattle.pm_records.specs.Operations.{Operation}
use Rattle.pm_logger.specs.Writers.{Writer}
use Rattle.pm_logger.specs.declared.inbox.Inbox.{Inbox}
use Rattle.pm_logger.proofs.Appending.{appends_none, appends_then, appends_as, operations-append, bytes_then}
use Rattle.pm_logger.proofs.Taking.{takes_none, takes_then, joined_after}

-- operations of one worker
tagged : ℕ → List Operation → List Entry
tagged worker [] = []
tagged worker (o ∷ os) = record { worker = worker; operation = o } ∷ tagged worker os

tagged_are : (worker : ℕ) (os : List Operation) → operations_in (tagged worker os) ≡ os
unfolding tagged
tagged_are worker [] = refl
tagged_are worker (o ∷ os) = ap (λ l. o ∷ l) (tagged_are worker os)

own : (worker : ℕ) (os : List Operation) → of_worker worker (tagged worker os) ≡ os
unfolding tagged
own worker [] = refl
own worker (o ∷ os) =
    let same : (worker == worker) ≡ true = grind (arith, nat_tests) in
    ap (λ (b : Bool). if b then o ∷ of_worker worker (tagged worker os) else of_worker worker (tagged worker os)) same ∙ ap (λ l. o ∷ l) (own worker os)

others : (worker other : ℕ) (os : List Operation) → other ≢ worker → of_worker other (tagged worker os) ≡ []
unfolding tagged
others worker other [] ne = refl
others worker other (o ∷ os) ne =
    let differs : (worker == other) ≡ false = grind (arith, nat_tests) in
    ap (λ (b : Bool). if b then o ∷ of_worker other (tagged worker os) else of_worker other (tagged worker os)) differs ∙ others worker other os ne

of_count : (count worker : ℕ) (os : List Operation) → worker < count → AreOfWorkers count (tagged worker os)
unfolding tagged
of_count count worker [] lt = tt
of_count count worker (o ∷ os) lt = (lt, of_count count worker os lt)

of_count-append : (count : ℕ) (xs ys : List Entry) → AreOfWorkers count xs → AreOfWorkers count ys → AreOfWorkers count (xs ++ ys)
of_count-append count [] ys a b = b
of_count-append count (x ∷ xs) ys a b = (a.0, of_count-append count xs ys a.1 b)

operations_in-append : (xs ys : List Entry) → operations_in (xs ++ ys) ≡ operations_in xs ++ operations_in ys
operations_in-append [] ys = refl
operations_in-append (x ∷ xs) ys = ap (λ l. x.operation ∷ l) (operations_in-append xs ys)

of_worker-append : (worker : ℕ) (xs ys : List Entry) → of_worker worker (xs ++ ys) ≡ of_worker worker xs ++ of_worker worker ys
of_worker-append worker [] ys = refl
of_worker-append worker (x ∷ xs) ys =
    ap (λ l. if x.worker == worker then x.operation ∷ l else l) (of_worker-append worker xs ys) ∙ each (x.worker == worker)
  where
    each : (b : Bool) → (if b then x.operation ∷ (of_worker worker xs ++ of_worker worker ys) else of_worker worker xs ++ of_worker worker ys) ≡ (if b then x.operation ∷ of_worker worker xs else of_worker worker xs) ++ of_worker worker ys
    each true = refl
    each false = refl

-- ---- one worker

hands_none : (inbox : Inbox) → HandsOver inbox inbox []
hands_none inbox = record { came = []; takes = takes_none inbox inbox refl; operations_are = tt; bytes_are = append-nil (kept inbox) }

hands_then : (a b c : Inbox) (xs ys : List Operation) → HandsOver a b xs → HandsOver b c ys → HandsOver a c (xs ++ ys)
hands_then a b c xs ys p q = record {
  came = p.came ++ q.came;
  takes = takes_then a b c p.came q.came p.takes q.takes;
  operations_are = operations-append xs ys p.operations_are q.operations_are;
  bytes_are = sym (joined_after (kept a) p.came q.came) ∙ bytes_then xs ys (kept a ++ joined p.came) (kept b) (joined q.came) (kept c) p.bytes_are q.bytes_are;
}

-- ---- all of them

pub get_set : {X : Type 0} (xs : List X) (i v : ℕ) (y z : X) → slice_get (set xs i y) v ≡ Some z → ((v ≡ i) × (z ≡ y)) ⊎ ((v ≢ i) × (slice_get xs v ≡ Some z))
get_set [] i v y z e = absurd cc
get_set (x ∷ xs) zero zero y z e = inl (refl, grind arith)
get_set (x ∷ xs) zero (suc v) y z e = inr (λ same. absurd (omega (arith, same)), e)
get_set (x ∷ xs) (suc i) zero y z e = inr (λ same. absurd (omega (arith, same)), e)
get_set (x ∷ xs) (suc i) (suc v) y z e = elim (get_set xs i v y z e) [
  | inl h ↦ inl (ap suc h.0, h.1)
  | inr h ↦ inr (λ same. h.0 (omega (arith, same)), h.1)
]

pub some_same : {X : Type 0} (a b : X) → Some a ≡ Some b → a ≡ b
some_same a b e = grind arith

merges_none : (inboxes : List Inbox) → Merges inboxes inboxes []
merges_none inboxes = record {
  many = refl;
  of_these = tt;
  each = λ w old new e f. subst (λ n. HandsOver old n []) (some_same old new (sym e ∙ f)) (hands_none old);
}

merges_one : (inboxes : List Inbox) (worker : ℕ) (was inbox : Inbox) (os : List Operation) → slice_get inboxes worker ≡ Some was → HandsOver was inbox os → Merges inboxes (set inboxes worker inbox) (tagged worker os)
merges_one inboxes worker was inbox os at hands = record {
  many = length-set inboxes worker inbox;
  of_these = of_count (length inboxes) worker os (slice_get_within inboxes worker was at);
  each = λ w old new e f. elim (get_set inboxes worker w inbox new f) [
    | inl h ↦
        let o : was ≡ old = some_same was old (sym at ∙ ap (slice_get inboxes) (sym h.0) ∙ e) in
        subst (λ (p : Inbox × Inbox). HandsOver p.0 p.1 (of_worker w (tagged worker os))) (λ i. (o i, sym h.1 i))
        (subst (λ os'. HandsOver was inbox os') (sym (own worker os) ∙ ap (λ v. of_worker v (tagged worker os)) (sym h.0)) hands)
    | inr h ↦
        subst (λ (p : Inbox × List Operation). HandsOver old p.0 p.1) (λ i. (some_same old new (sym e ∙ h.1) i, sym (others worker w os h.0) i)) (hands_none old)
  ];
}

merges_then : (a b c : List Inbox) (xs ys : List Entry) → Merges a b xs → Merges b c ys → Merges a c (xs ++ ys)
merges_then a b c xs ys p q = record {
  many = q.many ∙ p.many;
  of_these = of_count-append (length a) xs ys p.of_these (subst (λ n. AreOfWorkers n ys) p.many q.of_these);
  each = λ w old new e f.
      let lt : w < length b = let l = slice_get_within a w old e in omega (arith, l, p.many) in
      let mid = get_or b w old in
      let m = slice_get-get_or b w old lt in
      subst (λ os. HandsOver old new os) (sym (of_worker-append w xs ys)) (hands_then old mid new (of_worker w xs) (of_worker w ys) (p.each w old mid e m) (q.each w mid new m f));
}

-- ---- with the log

pub merge_none : {tells : Type 0} (now : Writer) (inboxes : List Inbox) → (tells → IsHistory now.history) → (tells → EndsThere now.log now.history.world) → AppendsMerge tells now now true inboxes inboxes
merge_none now inboxes sound ends = record { entries = []; merges = merges_none inboxes; appends = appends_none now sound ends }

pub merge_one : {tells : Type 0} {before now : Writer} {done : Bool} (inboxes : List Inbox) (worker : ℕ) {was inbox : Inbox} → slice_get inboxes worker ≡ Some was → AppendsTaken tells before now done was inbox
    → AppendsMerge tells before now done inboxes (set inboxes worker inbox)
merge_one {tells} {before} {now} {done} inboxes worker {was} {inbox} at taken =
    let os = taken.front.appended in
    record {
      entries = tagged worker os;
      merges = merges_one inboxes worker was inbox os at (record { came = taken.came; takes = taken.takes; operations_are = taken.front.operations_are; bytes_are = taken.front.bytes_are });
      appends = subst (λ os. Appends tells before now done os (IsNextKept (set inboxes worker inbox))) (sym (tagged_are worker os)) (appends_as tells before now os done next taken.front.appends);
    }
  where
    next : (failed : Operation) → StandsFirst failed (kept inbox) → IsNextKept (set inboxes worker inbox) failed
    next failed stands = (
      worker,
      (let lt = slice_get_within inboxes worker was at in omega (arith, lt, length-set inboxes worker inbox)),
      λ other e. elim (get_set inboxes worker worker inbox other e) [
        | inl h ↦ (stands.0, ap kept h.1 ∙ stands.1)
        | inr h ↦ absurd (h.0 refl)
      ],
    )

pub merge_then : {tells : Type 0} {before between now : Writer} {done : Bool} {a b c : List Inbox} → AppendsMerge tells before between true a b → AppendsMerge tells between now done b c → AppendsMerge tells before now done a c
merge_then {tells} {before} {between} {now} {done} {a} {b} {c} first second = record {
  entries = first.entries ++ second.entries;
  merges = merges_then a b c first.entries second.entries first.merges second.merges;
  appends = subst (λ os. Appends tells before now done os (IsNextKept c)) (sym (operations_in-append first.entries second.entries)) (appends_then now (operations_in second.entries) done first.appends (λ o next. next) second.appends);
}

-- what was noted before is noted still
pub noted_more : {tells : Type 0} {before now : Writer} {os : List Operation} → AppendsAll tells before now os → length before.lines ≤ length now.lines
noted_more {tells} {before} {now} {os} appends =
    let lines = lines_in (operations_calls before.since os) in
    omega (arith, ap length appends.makes.lines_are, length-append before.lines lines)
