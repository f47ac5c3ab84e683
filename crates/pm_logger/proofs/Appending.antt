-- How operations are appended, one after the other.
use Rattle.std.proofs.Common.{◌≡◌, ℕ, Bool, true, false, List, [], ◌∷◌, ◌++◌, take, drop, refl, sym, ap, ◌∙◌, subst, append-nil, take-append-drop}
use Rattle.std.proofs.lemmas.List.{append_assoc}
use Rattle.pm_disk.specs.Moments.{IsHistory}
use Rattle.pm_segments.specs.Ends.{EndsThere}
use Rattle.pm_logger.specs.Fronts.{AppendsAll, Appends, AppendsFront}
use Rattle.pm_logger.specs.LogCalls.{MakesCalls, BreaksOff, operation_calls, operations_calls, next_since, since_after}
use Rattle.pm_records.specs.Operations.{Operation, AreOperations, SpellOperation, operation_bytes, operations_bytes}
use Rattle.pm_logger.specs.Writers.{Writer}
use Rattle.pm_logger.proofs.Chains.{makes_none, makes_then, breaks_then}

pub operations_calls-append : (since : ℕ) (xs ys : List Operation) → operations_calls since (xs ++ ys) ≡ operations_calls since xs ++ operations_calls (since_after since xs) ys
operations_calls-append since [] ys = refl
operations_calls-append since (x ∷ xs) ys = ap (λ cs. operation_calls since x ++ cs) (operations_calls-append (next_since since) xs ys) ∙ sym (append_assoc (operation_calls since x) _ _)

pub since_after-append : (since : ℕ) (xs ys : List Operation) → since_after since (xs ++ ys) ≡ since_after (since_after since xs) ys
since_after-append since [] ys = refl
since_after-append since (x ∷ xs) ys = since_after-append (next_since since) xs ys

pub operations_bytes-append : (xs ys : List Operation) → operations_bytes (xs ++ ys) ≡ operations_bytes xs ++ operations_bytes ys
operations_bytes-append [] ys = refl
operations_bytes-append (x ∷ xs) ys = ap (λ bs. operation_bytes x ++ bs) (operations_bytes-append xs ys) ∙ sym (append_assoc (operation_bytes x) _ _)

pub operations-append : (xs ys : List Operation) → AreOperations xs → AreOperations ys → AreOperations (xs ++ ys)
operations-append [] ys a b = b
operations-append (x ∷ xs) ys a b = (a.0, operations-append xs ys a.1 b)

-- ---- operations

pub appends_none : {tells : Type 0} (now : Writer) → (tells → IsHistory now.history) → (tells → EndsThere now.log now.history.world) → AppendsAll tells now now []
appends_none now sound ends = record { since_is = refl; makes = makes_none now sound ends }

calls_then : {tells : Type 0} {before between : Writer} {xs : List Operation} → AppendsAll tells before between xs → (ys : List Operation) → operations_calls before.since xs ++ operations_calls between.since ys ≡ operations_calls before.since (xs ++ ys)
calls_then {before} {xs} first ys = ap (λ n. operations_calls before.since xs ++ operations_calls n ys) first.since_is ∙ sym (operations_calls-append before.since xs ys)

-- more operations were appended after these, and then one may have failed
pub appends_then : {tells : Type 0} {before between : Writer} (now : Writer) {xs : List Operation} (ys : List Operation) (done : Bool) {Q R : Operation → Type 0} → AppendsAll tells before between xs → ((failed : Operation) → Q failed → R failed)
    → Appends tells between now done ys Q → Appends tells before now done (xs ++ ys) R
appends_then {tells} {before} now {xs} ys true first next second = record {
  since_is = second.since_is ∙ ap (λ n. since_after n ys) first.since_is ∙ sym (since_after-append before.since xs ys);
  makes = subst (MakesCalls tells before now) (calls_then first ys) (makes_then first.makes second.makes);
}
appends_then {tells} {before} now {xs} ys false first next second = (
  second.0,
  next second.0 second.1,
  record {
    failed_is = second.2.failed_is;
    breaks = subst (BreaksOff tells before now) (calls_then first (ys ++ second.0 ∷ []) ∙ ap (operations_calls before.since) (sym (append_assoc xs ys (second.0 ∷ [])))) (breaks_then first.makes second.2.breaks);
  },
)

-- what holds of the next operation may be said otherwise
pub appends_as : (tells : Type 0) (before now : Writer) (os : List Operation) (done : Bool) {Q R : Operation → Type 0} → ((failed : Operation) → Q failed → R failed) → Appends tells before now done os Q → Appends tells before now done os R
appends_as tells before now os true next appends = appends
appends_as tells before now os false next appends = (appends.0, next appends.0 appends.1, appends.2)

-- ---- operations at the front of bytes

pub front_none : {tells : Type 0} (now : Writer) (bytes : List ℕ) → (tells → IsHistory now.history) → (tells → EndsThere now.log now.history.world) → AppendsFront tells now now true bytes bytes
front_none now bytes sound ends = record { appended = []; operations_are = tt; bytes_are = refl; appends = appends_none now sound ends }

-- the bytes of operations before, and of operations after
pub bytes_then : (xs ys : List Operation) (bytes left more left' : List ℕ) → bytes ≡ operations_bytes xs ++ left → left ++ more ≡ operations_bytes ys ++ left' → bytes ++ more ≡ operations_bytes (xs ++ ys) ++ left'
bytes_then xs ys bytes left more left' e f =
    ap (λ b. b ++ more) e ∙ append_assoc (operations_bytes xs) left more ∙ ap (λ b. operations_bytes xs ++ b) f ∙ sym (append_assoc (operations_bytes xs) (operations_bytes ys) left') ∙ ap (λ b. b ++ left') (sym (operations_bytes-append xs ys))

module _ {tells : Type 0} {before between now : Writer} {bytes left : List ℕ} (first : AppendsFront tells before between true bytes left) where
  -- more bytes came, and operations at the front of what was left with them were appended
  pub front_then : {done : Bool} (more : List ℕ) {left' : List ℕ} → AppendsFront tells between now done (left ++ more) left' → AppendsFront tells before now done (bytes ++ more) left'
  front_then {done} more {left'} second = record {
    appended = first.appended ++ second.appended;
    operations_are = operations-append first.appended second.appended first.operations_are second.operations_are;
    bytes_are = bytes_then first.appended second.appended bytes left more left' first.bytes_are second.bytes_are;
    appends = appends_then now second.appended done first.appends (λ o stands. stands) second.appends;
  }

  -- the same where none came
  pub front_next : {done : Bool} {left' : List ℕ} → AppendsFront tells between now done left left' → AppendsFront tells before now done bytes left'
  front_next {done} {left'} second =
      subst (λ b. AppendsFront tells before now done b left') (append-nil bytes)
      (front_then [] (subst (λ b. AppendsFront tells between now done b left') (sym (append-nil left)) second))

-- the operation at the front
pub front_one : {tells : Type 0} {before now : Writer} (bytes : List ℕ) (len : ℕ) (o : Operation) → SpellOperation (take len bytes) o → now.since ≡ next_since before.since
    → MakesCalls tells before now (operation_calls before.since o) → AppendsFront tells before now true bytes (drop len bytes)
front_one {tells} {before} {now} bytes len o is since makes = record {
  appended = o ∷ [];
  operations_are = (is.0, tt);
  bytes_are = sym (take-append-drop len bytes) ∙ ap (λ b. b ++ drop len bytes) (is.1 ∙ sym (append-nil (operation_bytes o)));
  appends = record {
    since_is = since;
    makes = subst (MakesCalls tells before now) (sym (append-nil (operation_calls before.since o))) makes;
  };
}

pub front_failed : {tells : Type 0} {before now : Writer} (bytes : List ℕ) (len : ℕ) (o : Operation) → SpellOperation (take len bytes) o
    → BreaksOff tells before now (operation_calls before.since o) → AppendsFront tells before now false bytes bytes
front_failed {tells} {before} {now} bytes len o is breaks = record {
  appended = [];
  operations_are = tt;
  bytes_are = refl;
  appends = (
    o,
    (drop len bytes, sym (take-append-drop len bytes) ∙ ap (λ b. b ++ drop len bytes) is.1),
    record {
      failed_is = is.0;
      breaks = subst (BreaksOff tells before now) (sym (append-nil (operation_calls before.since o))) breaks;
    },
  );
}
