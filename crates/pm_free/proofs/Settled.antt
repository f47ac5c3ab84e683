-- A page that stands in the chain for its room.
use Rattle.std.proofs.Common.{◌≡◌, ◌≢◌, ℕ, refl, sym, ap, subst, ◌∙◌, inl, inr}
use Rattle.std.proofs.lemmas.Bool.{cases_eq, eq-eqb, ne_eqb}
use Rattle.pm_meta.specs.declared.layout.TheConstants.{BUCKETS}
use Rattle.pm_pages.specs.Rows.{Partition, bytes_of, page_at}
use Rattle.pm_pages.specs.Paged.{Paged}
use Rattle.pm_pages.specs.Edits.{LooksAtPages, HasMeta}
use Rattle.pm_pages.proofs.PageReads.{page_at-below}
use Rattle.pm_free.specs.declared.seats.Seat.{Seat}
use Rattle.pm_free.specs.DataEdits.{IsDataAt}
use Rattle.pm_free.specs.Seats.{IsSeatIn}
use Rattle.pm_free.specs.Chained.{home_of, homes_in, with_home, AreChained, MovesPage, SettlesPage}
use Rattle.pm_free.proofs.Changed.{below_count, pages_told}
use Rattle.pm_free.proofs.Views.{keeps_all_then, keeps_all_same, data_home}

-- the bucket for a page's room, in a partition that is as it was
pub record HomeKnown (at bucket : ℕ) (old new : Partition) : Type 0 where
  pub same : new ≡ old
  pub is : homes_in old at ≡ bucket

pub home_known : (T : Type 0) (a b : Paged) (m at : ℕ) (seat : Seat) → T → HasMeta a → IsDataAt a at → LooksAtPages T a b m → IsSeatIn b at seat → HomeKnown at seat.bucket a.pages b.pages
home_known T a b m at seat t meta is looks seat_is =
    let below = below_count a at meta is in
    let page : page_at a.pages at ≡ seat_is.page = page_at-below a.pages at below ∙ ap bytes_of (sym (looks.pages at (inl t)) ∙ seat_is.is.in_hand.page) in
    record { same = pages_told T a b m t looks; is = ap home_of page ∙ data_home seat_is.page seat_is.is.well_made ∙ sym seat_is.says.room }

-- homes that are the same for each page
pub chained_as : (pages : Partition) (home home' : ℕ → ℕ) → ((j : ℕ) → home' j ≡ home j) → AreChained pages home → AreChained pages home'
chained_as pages home home' same chained = subst (AreChained pages) (λ k j. sym (same j) k) chained

pub home_here : (home : ℕ → ℕ) (at bucket : ℕ) → with_home home at bucket at ≡ bucket
home_here home at bucket = simp (eq-eqb at at refl) refl

pub home_other : (home : ℕ → ℕ) (at bucket j : ℕ) → j ≢ at → with_home home at bucket j ≡ home j
home_other home at bucket j ne = simp (ne_eqb j at ne) refl

-- the page stands there already
pub settles_there : (at bucket from : ℕ) → bucket ≡ from → (x y : Partition) → HomeKnown at bucket x y → SettlesPage x y at from
settles_there at bucket from same x y known = record {
  keeps = keeps_all_same x y known.same;
  chains = λ home chained is.
      (let home_y : homes_in y at ≡ bucket = ap (λ (p : Partition). homes_in p at) known.same ∙ known.is in
      chained_as y home (with_home home at (homes_in y at))
      (λ j. elim (cases_eq j at) [
        | inl e ↦ ap (with_home home at (homes_in y at)) e ∙ home_here home at (homes_in y at) ∙ home_y ∙ same ∙ sym is ∙ sym (ap home e)
        | inr ne ↦ home_other home at (homes_in y at) j ne
      ])
      (subst (λ (p : Partition). AreChained p home) (sym known.same) chained));
}

-- the page was taken out of one chain, and put into another
pub settles_moved : (at bucket from : ℕ) → (x y z : Partition) → (w : Partition) × HomeKnown at bucket x w × MovesPage w y at from BUCKETS → MovesPage y z at BUCKETS bucket → SettlesPage x z at from
settles_moved at bucket from x y z first second =
    let w = first.0 in
    let known = first.1 in
    let out : MovesPage x y at from BUCKETS = subst (λ (p : Partition). MovesPage p y at from BUCKETS) known.same first.2 in
    let keeps = keeps_all_then x y z out.keeps second.keeps in
    record {
      keeps = keeps;
      chains = λ home chained is.
          (let gone = with_home home at BUCKETS in
          let home_z : homes_in z at ≡ bucket = (keeps.pages at).home ∙ known.is in
          chained_as z (with_home gone at bucket) (with_home home at (homes_in z at))
          (λ j. elim (cases_eq j at) [
            | inl e ↦ ap (with_home home at (homes_in z at)) e ∙ home_here home at (homes_in z at) ∙ home_z ∙ sym (home_here gone at bucket) ∙ sym (ap (with_home gone at bucket) e)
            | inr ne ↦ home_other home at (homes_in z at) j ne ∙ sym (home_other home at BUCKETS j ne) ∙ sym (home_other gone at bucket j ne)
          ])
          (second.chains gone (out.chains home chained is) (home_here home at BUCKETS)));
    }
