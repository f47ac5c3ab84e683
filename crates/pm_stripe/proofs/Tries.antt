-- However often a frame was tried, it is taken or lost as at once.
use Rattle.std.proofs.Common.{◌≡◌, ℕ, ◌∷◌, Some, sym, refl, ap, ◌∙◌, subst, ⊎_elim, arith}
use Rattle.std.proofs.lemmas.Bool.{cases_eq, cases_lt}
use Rattle.pm_types.specs.declared.flag.Flag.{Flag}
use Rattle.pm_region.specs.Lease.{Leased}
use Rattle.pm_locks.specs.Words.{LockWord, IsSpare, held_by}
use Rattle.pm_locks.specs.declared.view.View.{View}
use Rattle.pm_locks.specs.declared.view.Numbers.{Numbers}
use Rattle.pm_locks.specs.declared.view.Entry.{Entry}
use Rattle.pm_locks.specs.declared.own.Take.TheVariants as take
use Rattle.pm_locks.specs.Rule.{known_range}
use Rattle.pm_locks.specs.Views.{entry_at, out_at, is_among, Has, IsMine}
use Rattle.pm_locks.specs.Steps.{meets, out_as, IsMet, IsTold}
use Rattle.pm_locks.specs.Answers.{MetTwo, MetBusy, MetLast, GotOwn, IsGone, HoldsLastPut}
use Rattle.pm_stripe.specs.Takes.{HasPut, OnlyMeets, TakesFrame, LosesFrame}

pub record OnlyTries (v v' : View) : Type 0 where
  pub only : OnlyMeets v v'
  pub leases : v'.leases ≡ v.leases

pub tries_none : (v : View) → OnlyTries v v
tries_none v = record { only = record { workers = refl; numbers = refl; entries = refl; outs = refl }; leases = refl }

pub only_then : (u v w : View) → OnlyMeets u v → OnlyMeets v w → OnlyMeets u w
only_then u v w a b = record { workers = b.workers ∙ a.workers; numbers = b.numbers ∙ a.numbers; entries = b.entries ∙ a.entries; outs = b.outs ∙ a.outs }

pub tries_then : (u v w : View) → OnlyTries u v → OnlyTries v w → OnlyTries u w
tries_then u v w a b = record { only = only_then u v w a.only b.only; leases = b.leases ∙ a.leases }

pub met_only : (v v' : View) (f : ℕ) (word : LockWord) → IsMet v v' f word → OnlyTries v v'
met_only v v' f word x = record {
  only = record {
    workers = ap (λ (u : View). u.workers) x.view;
    numbers = ap (λ (u : View). u.numbers) x.view;
    entries = ap (λ (u : View). u.entries) x.view;
    outs = ap (λ (u : View). u.outs) x.view;
  };
  leases = ap (λ (u : View). u.leases) x.view;
}

pub two_only : (v v' : View) (f : ℕ) (word : LockWord) → MetTwo v v' f word → OnlyTries v v'
two_only v v' f word x =
    let y = met_only (meets v f x.before) v' f word x.last in
    record { only = record { workers = y.only.workers; numbers = y.only.numbers; entries = y.only.entries; outs = y.only.outs }; leases = y.leases }

pub busy_only : (v v' : View) (f : ℕ) (word : LockWord) → MetBusy v v' f word → OnlyTries v v'
busy_only v v' f word = ⊎_elim (λ a. met_only v v' f word a.0) (two_only v v' f word)

last_only : (v v' : View) (f : ℕ) (word : LockWord) → MetLast v v' f word → OnlyTries v v'
last_only v v' f word = ⊎_elim (met_only v v' f word) (two_only v v' f word)

-- the number's entry is so before and after other words were met
put_still : (u v : View) (n f tag : ℕ) → OnlyMeets u v → HasPut u n f tag → HasPut v n f tag
put_still u v n f tag only x = record {
  has = ap (λ (l : Numbers). is_among l n) only.numbers ∙ x.has;
  entry = x.entry;
  at = ap (λ es. entry_at es n f) only.entries ∙ x.at;
  tag_is = x.tag_is;
}

same_entry : (v : View) (n f : ℕ) (d e : Entry) → entry_at v.entries n f ≡ Some d → entry_at v.entries n f ≡ Some e → d ≡ e
same_entry v n f d e a b = let q : Some d ≡ Some e = sym a ∙ b in cc q

pub takes_frame : (u v v' : View) (n f tag : ℕ) (lease : Leased) (told : Flag) → OnlyTries u v → HasPut u n f tag
    → GotOwn v v' f tag lease told → HoldsLastPut v f tag (take.Got lease told) → TakesFrame u v' n f tag lease told
takes_frame u v v' n f tag lease told tries x got last =
    let only = tries.only in
    let y = put_still u v n f tag only x in
    let mine = got.backed.last got.mine.owner in
    let own : n ≡ got.word.owner = mine.alone n y.entry y.has y.at (y.tag_is ∙ sym got.mine.same) in record {
      word = held_by got.word.owner got.word;
      workers = ap (λ (w : View). w.workers) got.view ∙ only.workers;
      numbers = ap (λ (w : View). w.numbers) got.view ∙ only.numbers;
      entries = ap (λ (w : View). w.entries) got.view ∙ only.entries;
      outs = ap (λ (w : View). w.outs) got.view ∙ ap (λ os. (f, Some (out_as (held_by got.word.owner got.word) lease)) ∷ os) only.outs;
      was_in = ap (λ os. out_at os f) (sym only.outs) ∙ got.met.inside got.home;
      holder = sym own;
      owner = sym own;
      tag_is = got.mine.same;
      flag_is = sym got.flag;
      here = got.here;
      range_is = got.range_is ∙ ranges_by u v f tries.leases;
      last = λ e at. last n e y.has (ap (λ es. entry_at es n f) only.entries ∙ at) (ap (λ (d : Entry). d.tag) (same_entry u n f e x.entry at x.at) ∙ x.tag_is);
    }
  where
    ranges_by : (a b : View) (g : ℕ) → b.leases ≡ a.leases → known_range b g ≡ known_range a g
    ranges_by a b g e = ap (λ ls. known_range (record a { leases = ls }) g) e

-- an entry that isn't current is Empty or Clean
stale : (v : View) (n f tag : ℕ) (word : LockWord) → ¬ IsMine v word tag → IsTold v f word → HasPut v n f tag → (e : Entry) → entry_at v.entries n f ≡ Some e → IsSpare e.flag
stale v n f tag word not told y e at =
    let is = same_entry v n f y.entry e y.at at in
    let dated = told.dated n e y.has at in
    let tag_is : e.tag ≡ tag = ap (λ (d : Entry). d.tag) (sym is) ∙ y.tag_is in
    ⊎_elim
    (λ current. absurd (not (record { same = sym current ∙ tag_is; owner = subst (λ k. Has v k) (dated.owner current) y.has })))
    (λ ne. ⊎_elim (λ older. dated.older older) (λ newer. absurd (ne (omega (arith, newer, dated.at_most)))) (cases_lt e.tag word.tag))
    (cases_eq e.tag word.tag)

stale_two : (v v' : View) (n f tag : ℕ) (word : LockWord) → ¬ IsMine v word tag → MetTwo v v' f word → HasPut v n f tag → (e : Entry) → entry_at v.entries n f ≡ Some e → IsSpare e.flag
stale_two v v' n f tag word not two y =
    stale (meets v f two.before) n f tag word (λ (m : IsMine (meets v f two.before) word tag). not (record { same = m.same; owner = m.owner })) two.last.told (record { has = y.has; entry = y.entry; at = y.at; tag_is = y.tag_is })

pub loses_frame : (u v v' : View) (n f tag : ℕ) → OnlyTries u v → HasPut u n f tag → IsGone v v' f tag → LosesFrame u v' n f
loses_frame u v v' n f tag tries x gone =
    let y = put_still u v n f tag tries.only x in record {
      only = only_then u v v' tries.only (last_only v v' f gone.word gone.met).only;
      spare = λ e at. let at' = ap (λ es. entry_at es n f) tries.only.entries ∙ at in ⊎_elim
          (λ met. stale v n f tag gone.word gone.not_mine met.told y e at')
          (λ two. stale_two v v' n f tag gone.word gone.not_mine two y e at')
          gone.met;
    }
