-- What each kind of step tells: what it makes of its seat's view and of the slots that the seat
-- carries.
use Rattle.std.specs.Prelude.{◌≡◌, ◌≢◌, ℕ, ◌∷◌, Option, Some, None}
use Rattle.atomic_table.specs.Table.{Me, Step, rest}
use Rattle.pm_region.specs.Lease.{Leased}
use Rattle.pm_locks.specs.Rule.{known_range}
use Rattle.pm_locks.specs.Words.{FLUSHER, packed, unpacked}
use Rattle.pm_locks.specs.declared.view.View.{View}
use Rattle.pm_locks.specs.declared.view.Out.{Out}
use Rattle.pm_locks.specs.Views.{out_at, Has}
use Rattle.pm_locks.specs.Steps.{meets, taken_out, stolen_out, put_back, flushed_back, IsTold, IsBacked}

-- a seat of the table: its view, and the slots that it carries
abbrev pub Seated : Type 0
Seated = Me (Option Leased) View

-- a step: the frame, and the words that it is given
abbrev pub TableStep : Type 0
TableStep = Step (Option Leased)

-- the view, with this frame's slot carried
abbrev pub carrying : View → ℕ → View
carrying v f = record v { hand = Some f }

-- a load, or an exchange that found another word
pub record IsLook (step : TableStep) (m : Seated) (found : ℕ) (m' : Seated) : Type 0 where
  pub view : m'.0 ≡ meets m.0 step.word (unpacked found)
  pub carried : m'.1 ≡ m.1
  pub word : packed (unpacked found) ≡ found
  pub told : IsTold m.0 step.word (unpacked found)

-- the seat carries the frame's slot, with a lease in it
pub record IsLifted (step : TableStep) (m m' : Seated) (lease : Leased) : Type 0 where
  pub carried : m'.1 ≡ (step.word, Some lease) ∷ m.1
  pub number : lease.number ≡ step.word
  pub range_is : lease.range ≡ known_range m.0 step.word

-- a frame is taken by its owner or the flusher
abbrev pub IsTaken : TableStep → Seated → Seated → Type 0
IsTaken st m m' = (lease : Leased) × IsLifted st m m' lease
    × (m'.0 ≡ carrying (taken_out m.0 st.word (unpacked st.first) (unpacked st.second) lease) st.word)
    × IsBacked m.0 st.word (unpacked st.first) lease.bytes

abbrev pub IsTake : TableStep → Seated → ℕ → Seated → Type 0
IsTake st m found m' =
    (found ≡ st.first → IsTaken st m m') × (found ≢ st.first → IsLook st m found m')

-- a frame is given to another page
abbrev pub IsStolen : TableStep → Seated → Seated → Type 0
IsStolen st m m' = (lease : Leased) × IsLifted st m m' lease
    × (m'.0 ≡ carrying (stolen_out m.0 st.word (unpacked st.first) (unpacked st.second) lease) st.word)

abbrev pub IsSteal : TableStep → Seated → ℕ → Seated → Type 0
IsSteal st m found m' =
    (found ≡ st.first → IsStolen st m m') × (found ≢ st.first → IsLook st m found m')

-- the emptied slot is given back
abbrev pub IsSlotLeft : TableStep → Seated → ℕ → Seated → Type 0
IsSlotLeft st m found m' = (m'.0 ≡ record m.0 { hand = None }) × (m'.1 ≡ rest m.1)

-- the emptied slot is carried again, and the word is what it was
abbrev pub IsSlotCarried : TableStep → Seated → ℕ → Seated → Type 0
IsSlotCarried st m found m' = (m'.0 ≡ carrying m.0 st.word) × (m'.1 ≡ (st.word, None) ∷ m.1)
    × (packed (unpacked found) ≡ found)
    × ((o : Out) → out_at m.0.outs st.word ≡ Some o → unpacked found ≡ o.word)

-- a worker puts a frame back
abbrev pub IsPut : TableStep → Seated → ℕ → Seated → Type 0
IsPut st m found m' = (lease : Leased) → m.1 ≡ (st.word, Some lease) ∷ rest m.1
    → (m'.0 ≡ record (put_back m.0 st.word (unpacked st.first) lease.bytes) { hand = None })
    × (m'.1 ≡ rest m.1) × Has m.0 (unpacked st.first).owner

-- the flusher puts a frame back
abbrev pub IsFlushPut : TableStep → Seated → ℕ → Seated → Type 0
IsFlushPut st m found m' = (lease : Leased) → m.1 ≡ (st.word, Some lease) ∷ rest m.1
    → (m'.0 ≡ record (flushed_back m.0 st.word (unpacked st.first) lease.bytes) { hand = None })
    × (m'.1 ≡ rest m.1) × Has m.0 FLUSHER
