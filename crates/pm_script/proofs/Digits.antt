-- Fields whose bytes are given in digits.
use Rattle.std.proofs.Common.{◌≡◌, ℕ, ◌/◌, ◌<◌, List, length, cond, true, false, ◌&&◌, Bool, None, Some, Ok, Err, Result, leb, refl, sym, ap, arith}
use Rattle.std.specs.Result.{result_ok}
use Rattle.std.proofs.lemmas.Bool.{lt-leb}
use Rattle.hex.specs.Hex.{decode_of}
use Rattle.hex.specs.declared.error.FromHexError.{FromHexError}
use Rattle.hex.proofs.HexLemmas.{decode_of-ok}
use Rattle.pm_script.specs.Grammar.{bounded}

-- more bytes than there may be are none
bounded-many : (most : ℕ) (bytes : List ℕ) → most < length bytes → None ≡ bounded 0 most (Some bytes)
bounded-many most bytes many = sym (neither (leb 0 (length bytes)) (leb (length bytes) most) (lt-leb (length bytes) most many))
  where
    neither : (enough few : Bool) → few ≡ false → cond (enough && few) (Some bytes) None ≡ None
    neither true few h = ap (λ t. cond t (Some bytes) None) h
    neither false few h = refl

-- digits of more bytes than there may be stand for none
pub many_digits : (digits : List ℕ) (most : ℕ) → most < length digits / 2 → None ≡ bounded 0 most (result_ok (decode_of digits))
many_digits digits most many = of_result (decode_of digits) refl
  where
    of_result : (decoded : Result (List ℕ) FromHexError) → decode_of digits ≡ decoded → None ≡ bounded 0 most (result_ok decoded)
    of_result (Ok bytes) is = bounded-many most bytes (omega (arith, (decode_of-ok digits bytes is).2))
    of_result (Err e) is = refl
