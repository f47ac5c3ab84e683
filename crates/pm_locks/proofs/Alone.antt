-- A seat keeps entries of its own numbers alone.
use Rattle.std.proofs.Common.{◌≡◌, ℕ, List, [], ◌∷◌, ◌∙◌, Option, Some, None, ap, sym, subst}
use Rattle.atomic_table.specs.Table.{rest}
use Rattle.pm_region.specs.Lease.{Leased}
use Rattle.pm_locks.specs.Words.{LockWord}
use Rattle.pm_locks.specs.declared.view.View.{View}
use Rattle.pm_locks.specs.Views.{is_among, Has, IsOwnAlone}
use Rattle.pm_locks.specs.Steps.{put_back, stolen_out, flushed_back, entry_as}
use Rattle.pm_locks.specs.Kinds.{Seated, carrying}
use Rattle.pm_locks.proofs.Puts.{entry_foreign}

pub put_alone : (v : View) (f : ℕ) (word : LockWord) (bytes : List ℕ) → IsOwnAlone v → Has v word.owner → IsOwnAlone (record (put_back v f word bytes) { hand = None })
put_alone v f word bytes x has = record {
  entries = λ n k no. entry_foreign v.entries (entry_as f word bytes) n k (λ e. no (ap (is_among v.numbers) e ∙ has)) ∙ x.entries n k no;
  dues = x.dues;
}

pub stolen_alone : (v : View) (f : ℕ) (word left : LockWord) (lease : Leased) → IsOwnAlone v → Has v left.owner → IsOwnAlone (record (stolen_out v f word left lease) { hand = None })
stolen_alone v f word left lease x has = record {
  entries = λ n k no. entry_foreign v.entries (entry_as f left lease.bytes) n k (λ e. no (ap (is_among v.numbers) e ∙ has)) ∙ x.entries n k no;
  dues = x.dues;
}

pub flushed_alone : (v : View) (f : ℕ) (word : LockWord) (bytes : List ℕ) → IsOwnAlone v → Has v 8 → IsOwnAlone (record (flushed_back v f word bytes) { hand = None })
flushed_alone v f word bytes x has = record {
  entries = x.entries;
  dues = λ k no. absurd (no has);
}

-- what is so of a seat between two calls
abbrev pub IsAtRest : View → Seated → Type 0
IsAtRest v m = (m.1 ≡ []) × (m.0.hand ≡ None) × (m.0.numbers ≡ v.numbers) × IsOwnAlone m.0

pub put_rests : (v : View) (m m' : Seated) (slots : List (ℕ × Option Leased)) (f : ℕ) (word : LockWord) (lease : Leased) → m ≡ (carrying v f, (f, Some lease) ∷ slots) → slots ≡ []
    → (m'.0 ≡ record (put_back m.0 f word lease.bytes) { hand = None }) × (m'.1 ≡ rest m.1) × Has m.0 word.owner → IsOwnAlone v → IsAtRest v m'
put_rests v m m' slots f word lease e none did x =
    let P : Seated → Type 0 = λ z. (m'.0 ≡ record (put_back z.0 f word lease.bytes) { hand = None }) × (m'.1 ≡ rest z.1) × Has z.0 word.owner → IsAtRest v m' in
    subst P (sym e) (λ t. (t.1 ∙ none, ap (λ (u : View). u.hand) t.0, ap (λ (u : View). u.numbers) t.0, subst IsOwnAlone (sym t.0) (put_alone (carrying v f) f word lease.bytes (record { entries = x.entries; dues = x.dues }) t.2))) did

pub flushed_rests : (v : View) (m m' : Seated) (slots : List (ℕ × Option Leased)) (f : ℕ) (word : LockWord) (lease : Leased) → m ≡ (carrying v f, (f, Some lease) ∷ slots) → slots ≡ []
    → (m'.0 ≡ record (flushed_back m.0 f word lease.bytes) { hand = None }) × (m'.1 ≡ rest m.1) × Has m.0 8 → IsOwnAlone v → IsAtRest v m'
flushed_rests v m m' slots f word lease e none did x =
    let P : Seated → Type 0 = λ z. (m'.0 ≡ record (flushed_back z.0 f word lease.bytes) { hand = None }) × (m'.1 ≡ rest z.1) × Has z.0 8 → IsAtRest v m' in
    subst P (sym e) (λ t. (t.1 ∙ none, ap (λ (u : View). u.hand) t.0, ap (λ (u : View). u.numbers) t.0, subst IsOwnAlone (sym t.0) (flushed_alone (carrying v f) f word lease.bytes (record { entries = x.entries; dues = x.dues }) t.2))) did
