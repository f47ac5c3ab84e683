-- What a contract sees of a page table.
use Rattle.std.specs.Prelude.{ℕ, refl}
use Rattle.std.specs.Coded.{Coded, code_by, coded×, coded_ℕ}
use Rattle.std.specs.FinMap.{FinMap, code}
use Rattle.std.specs.Ordering.{nat_cmp}

-- the frame and the tag of each page that has an entry, by the page's number; how many more fit
pub record Pages : Type 0 where
  pub entries : FinMap nat_cmp (ℕ × ℕ)
  pub spare : ℕ

-- it is stored as the pair of its fields
abbrev pub pages_code : Coded Pages
pages_code = code_by (FinMap nat_cmp (ℕ × ℕ) × ℕ)
    (coded× (code coded_ℕ (coded× coded_ℕ coded_ℕ)) coded_ℕ)
    (λ p. (p.entries, p.spare)) (λ p. record { entries = p.0; spare = p.1 }) (λ _. refl)
