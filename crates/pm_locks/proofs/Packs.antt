-- A packed word has its fields.
use Rattle.std.proofs.Common.{◌≡◌, ◌+◌, ℕ, sym, ap, ◌∙◌, subst}
use Rattle.pm_types.specs.declared.flag.Flag.TheVariants as flag
use Rattle.pm_locks.specs.Words.{LockWord, CanBeStolen, packed, unpacked, held_by, stolen_as}
use Rattle.pm_locks.proofs.Takes.{IsHeldBy}

-- a word of known fields, under another holder
pub reholds : (w w' h : ℕ) (was now : LockWord) → unpacked w ≡ was → unpacked w' ≡ now → now ≡ held_by h was → packed (unpacked w') ≡ w' → IsHeldBy w w' h
reholds w w' h was now is is' held word = record { fields = is' ∙ held ∙ ap (held_by h) (sym is); word = word }

pub free_word : (w : ℕ) (was : LockWord) → unpacked w ≡ was → CanBeStolen was → CanBeStolen (unpacked w)
free_word w was is = subst CanBeStolen (sym is)

-- the packed word of a theft
pub stolen_word : (w w' number tag : ℕ) (was now : LockWord) → unpacked w ≡ was → unpacked w' ≡ now → tag ≡ was.tag → now ≡ record { tag = tag + 1; owner = number; holder = number; flag = flag.Empty }
    → unpacked w' ≡ stolen_as number (unpacked w)
stolen_word w w' number tag was now is is' same packs = is' ∙ packs ∙ (λ i. record { tag = (same ∙ ap (λ (u : LockWord). u.tag) (sym is)) i + 1; owner = number; holder = number; flag = flag.Empty })
