-- What holds where a call gave `Ok`.
use Rattle.std.proofs.Common.{◌≡◌, Result, Ok, Err, false, sym, subst}
use Rattle.std.specs.Prelude.{OnOk, OnErr, IfOk, IsErr}
use Rattle.std.specs.Result.{is_err}
use Rattle.std.proofs.lemmas.Bool.{false≢true}

-- an `Err` promises nothing
pub on_err : {T E : Type 0} (r : Result T E) → IsErr r → (P : Type 0) → OnOk r P
on_err (Ok x) is P = absurd cc
on_err (Err e) is P = tt

-- what an `Ok` promises
pub ok_holds : {T E : Type 0} (r : Result T E) (x : T) (P : Type 0) → r ≡ Ok x → OnOk r P → P
ok_holds r x P is holds = subst (λ q. OnOk q P) is holds

-- what holds anyway
pub ok_anyway : {T E : Type 0} (r : Result T E) (P : Type 0) → P → OnOk r P
ok_anyway (Ok x) P p = p
ok_anyway (Err e) P p = tt

pub err_anyway : {T E : Type 0} (r : Result T E) (P : Type 0) → P → OnErr r P
err_anyway (Ok x) P p = tt
err_anyway (Err e) P p = p

pub if_ok_holds : {T E : Type 0} (r : Result T E) (x : T) (P : T → Type 0) → r ≡ Ok x → IfOk r P → P x
if_ok_holds r x P is holds = subst (λ q. IfOk q P) is holds

-- what an `Err` promises
pub err_holds : {T E : Type 0} (r : Result T E) (e : E) (P : Type 0) → r ≡ Err e → OnErr r P → P
err_holds r e P is holds = subst (λ q. OnErr q P) is holds

-- what holds where it is no `Err`
pub unless_err : {T E : Type 0} (r : Result T E) (P : Type 0) → is_err r ≡ false → OnOk r P → P
unless_err (Ok x) P is p = p
unless_err (Err e) P is p = absurd (false≢true (sym is))
