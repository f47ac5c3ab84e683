-- What is known of all frames once those of a checkpoint's pages are Clean.
use Rattle.std.proofs.Common.{◌≡◌, ◌≢◌, ◌⊎◌, inl, inr, ℕ, List, [], ◌∷◌, length, get_or, Bool, true, false, Option, Some, None, refl, sym, ◌∙◌, ap, subst, ne_eqb}
use Rattle.std.specs.Prelude.{◌==◌, ◌&&◌, if◌then◌else◌, All}
use Rattle.std.specs.Option.{option_map}
use Rattle.std.specs.List.Sorted.{IsPermutation}
use Rattle.std.proofs.lemmas.Bool.{cases_eq, eqb-true, eq-eqb}
use Rattle.std.proofs.lemmas.List.Elements.{All-contains}
use Rattle.std.proofs.lemmas.Option.{same_Some}
use Rattle.pm_types.specs.declared.flag.Flag.{Flag}
use Rattle.pm_types.specs.declared.flag.Flag.TheVariants as flag
use Rattle.pm_types.specs.declared.shape.Shape.{Shape}
use Rattle.pm_locks.specs.Sight.{Sight, LockTable, IsFrameOf}
use Rattle.pm_locks.specs.Views.{Has, known_at, entry_at, entry_or}
use Rattle.pm_locks.specs.Words.{LockWord, put_as}
use Rattle.pm_locks.specs.declared.view.Entry.{Entry}
use Rattle.pm_locks.specs.declared.view.View.{View}
use Rattle.pm_core.specs.BasePages.{Partitions}
use Rattle.pm_stripe.specs.declared.stripe.Stripe.{Stripe}
use Rattle.pm_ckpt.specs.declared.frame_page.FramePage.{FramePage}
use Rattle.pm_ckpt.specs.Dirty.{is_dirty, dirty_frames, cleaned_entry, cleaned_word, AreResting, AreCleaned, IsSameSight}
use Rattle.pm_ckpt.specs.Frames.{IsWholeSeat, IsFlagged, CleansFrames, AreInFrames, HaveLength, clean_entry, owner_of, frame_bytes}
use Rattle.pm_ckpt.proofs.DirtyPages.{IsListed, dirty_or, pages_listed, is_among}
use Rattle.pm_ckpt.proofs.Flagging.{clean_entry_same, flagged_still, bytes_same}

-- what is made Clean after all frames were looked at
pub cleans_seen : (pages : List FramePage) (old mid new : View) → IsSameSight old mid → CleansFrames pages mid new → CleansFrames pages old new
cleans_seen pages old mid new sight cleans =
    let owner : (f : ℕ) → owner_of mid f ≡ owner_of old f = λ f. ap (λ (w : LockWord). w.owner) (sight.words f) in
    record {
      each = λ k d lt. cleans.each k d lt ∙ ap (put_as flag.Clean) (sight.words (get_or pages k d).frame);
      others = λ f none. cleans.others f none ∙ sight.words f;
      entry = λ k d lt.
          let f = (get_or pages k d).frame in
          ap (λ n. entry_at new.entries n f) (sym (owner f)) ∙ cleans.entry k d lt
          ∙ ap Some (clean_entry_same old mid f (sight.words f) (ap (λ es. entry_at es (owner_of old f) f) sight.entries));
      entries = λ n g none.
          cleans.entries n g (λ k d lt. subst (λ m. (n ≢ m) ⊎ (g ≢ (get_or pages k d).frame)) (sym (owner (get_or pages k d).frame)) (none k d lt))
          ∙ ap (λ es. entry_at es n g) sight.entries;
    }

-- an entry is of the number and the frame that were asked for
pub entry_names : (es : List Entry) (n f : ℕ) (e : Entry) → entry_at es n f ≡ Some e → (e.number ≡ n) × (e.frame ≡ f)
entry_names [] n f e is = absurd cc
entry_names (x ∷ xs) n f e is = by (x.number == n) (x.frame == f) refl refl is (entry_names xs n f e)
  where
    by : (a b : Bool) → (x.number == n) ≡ a → (x.frame == f) ≡ b → (if a && b then Some x else entry_at xs n f) ≡ Some e → (entry_at xs n f ≡ Some e → (e.number ≡ n) × (e.frame ≡ f)) → (e.number ≡ n) × (e.frame ≡ f)
    by true true number frame is rest =
        let same : x ≡ e = same_Some _ _ is in (ap (λ (y : Entry). y.number) (sym same) ∙ eqb-true _ _ number, ap (λ (y : Entry). y.frame) (sym same) ∙ eqb-true _ _ frame)
    by true false number frame is rest = rest is
    by false b number frame is rest = rest is

-- ---- entries

-- an entry of a Dirty frame's owner becomes Clean, and each other one is as it was
abbrev pub IsCleaned : LockWord → ℕ → Entry → Option Entry → Type 0
IsCleaned word n e now =
    ((word.flag ≡ flag.Dirty) × (word.owner ≡ n) × (e.flag ≡ flag.Dirty) × (now ≡ Some (record e { flag = flag.Clean })))
    ⊎ (((is_dirty word.flag && word.owner == n) ≡ false) × (now ≡ Some e))

pub owned_dirty : (word : LockWord) (n : ℕ) → word.flag ≡ flag.Dirty → word.owner ≡ n → (is_dirty word.flag && word.owner == n) ≡ true
owned_dirty word n dirty owner = ap (λ (b : Bool). b && word.owner == n) (ap is_dirty dirty) ∙ eq-eqb word.owner n owner

-- the frame of a Dirty owner, or another
owned_or : (word : LockWord) (n : ℕ) → ((word.flag ≡ flag.Dirty) × (word.owner ≡ n)) ⊎ ((is_dirty word.flag && word.owner == n) ≡ false)
owned_or word n = elim (dirty_or word.flag) [
  | inr clean ↦ inr (ap (λ (b : Bool). b && word.owner == n) clean)
  | inl dirty ↦ elim (cases_eq word.owner n) [
    | inl owner ↦ inl (dirty, owner)
    | inr other ↦ inr (ap (λ (b : Bool). b && word.owner == n) (ap is_dirty dirty) ∙ ne_eqb word.owner n other)
  ]
]

pub true_not_false : true ≡ false → ⊥
true_not_false e = cc e

module _ (locks : LockTable) (shape : Shape) (seat : Sight) (stripes : List Stripe) (resting : AreResting locks shape seat stripes) (whole : IsWholeSeat locks seat) where
  -- what the owner of a Dirty frame last put there is Dirty under the frame's tag
  pub entry_dirty : (n f : ℕ) (e : Entry) → IsFrameOf locks f → Has seat.view n → entry_at seat.view.entries n f ≡ Some e → (known_at seat.view f).flag ≡ flag.Dirty → owner_of seat.view f ≡ n
      → (e.flag ≡ flag.Dirty) × (e.tag ≡ (known_at seat.view f).tag)
  entry_dirty n f e lt has at dirty owner =
      let k = resting.settled.each f lt in
      let same : k.last ≡ e = same_Some _ _ (sym k.at ∙ ap (λ m. entry_at seat.view.entries m f) owner ∙ at) in
      (ap (λ (x : Entry). x.flag) (sym same) ∙ k.flag_is ∙ dirty, ap (λ (x : Entry). x.tag) (sym same) ∙ k.tag_is)

  module _ (pages : List FramePage) (same : IsPermutation (dirty_frames locks stripes seat.view) pages) (new : View) (cleans : CleansFrames pages seat.view new) where
    -- an entry of a frame that isn't Dirty, or isn't its own, stays
    entry_stays : (n f : ℕ) → (is_dirty (known_at seat.view f).flag && owner_of seat.view f == n) ≡ false → entry_at new.entries n f ≡ entry_at seat.view.entries n f
    entry_stays n f other = cleans.entries n f (λ k d lt. by (get_or pages k d) (pages_listed locks shape seat stripes resting whole pages same k d lt))
      where
        by : (x : FramePage) → IsListed locks shape seat stripes x → (n ≢ owner_of seat.view x.frame) ⊎ (f ≢ x.frame)
        by x l = elim (cases_eq f x.frame) [
          | inr apart ↦ inr apart
          | inl here ↦ inl (λ owner.
              let dirty : (known_at seat.view f).flag ≡ flag.Dirty = ap (λ g. (known_at seat.view g).flag) here ∙ l.dirty in
              absurd (true_not_false (sym (owned_dirty (known_at seat.view f) n dirty (ap (owner_of seat.view) here ∙ sym owner)) ∙ other)))
        ]

    words_cleaned : (f : ℕ) → IsFrameOf locks f → known_at new f ≡ cleaned_word (known_at seat.view f)
    words_cleaned f lt =
        let w = known_at seat.view f in
        elim (dirty_or w.flag) [
          | inl dirty ↦
              let x = is_among locks shape seat stripes resting whole pages same f lt dirty in
              let here = All-contains (λ p. known_at new p.frame ≡ put_as flag.Clean (known_at seat.view p.frame)) pages x.0 cleans.each x.2 in
              subst (λ g. known_at new g ≡ put_as flag.Clean (known_at seat.view g)) x.1 here
              ∙ sym (ap (λ (b : Bool). if b then put_as flag.Clean w else w) (ap is_dirty dirty))
          | inr clean ↦
              cleans.others f (λ k d low frame.
              let l = pages_listed locks shape seat stripes resting whole pages same k d low in
              let never : true ≡ false = sym (ap is_dirty l.dirty) ∙ ap (λ g. is_dirty (known_at seat.view g).flag) frame ∙ clean in
              absurd cc)
              ∙ sym (ap (λ (b : Bool). if b then put_as flag.Clean w else w) clean)
        ]

    pub entry_cleaned : (n f : ℕ) (e : Entry) → IsFrameOf locks f → Has seat.view n → entry_at seat.view.entries n f ≡ Some e → IsCleaned (known_at seat.view f) n e (entry_at new.entries n f)
    entry_cleaned n f e lt has at = elim (owned_or (known_at seat.view f) n) [
      | inl own ↦
          let w = known_at seat.view f in
          let was = entry_dirty n f e lt has at own.0 own.1 in
          let x = is_among locks shape seat stripes resting whole pages same f lt own.0 in
          let put = All-contains (λ p. entry_at new.entries (owner_of seat.view p.frame) p.frame ≡ Some (clean_entry seat.view p.frame)) pages x.0 cleans.entry x.2 in
          let here : entry_at new.entries n f ≡ Some (clean_entry seat.view f) =
          ap (λ m. entry_at new.entries m f) (sym own.1) ∙ subst (λ g. entry_at new.entries (owner_of seat.view g) g ≡ Some (clean_entry seat.view g)) x.1 put in
          let names = entry_names seat.view.entries n f e at in
          let bytes : frame_bytes seat.view f ≡ e.bytes = ap (λ m. (entry_or (entry_at seat.view.entries m f)).bytes) own.1 ∙ ap (λ o. (entry_or o).bytes) at in
          let number : w.owner ≡ e.number = own.1 ∙ sym names.0 in
          let frame : f ≡ e.frame = sym names.1 in
          let tag : w.tag ≡ e.tag = sym was.1 in
          let is : clean_entry seat.view f ≡ record e { flag = flag.Clean } =
          λ i. record { number = number i; frame = frame i; tag = tag i; bytes = bytes i; flag = flag.Clean } in
          inl (own.0, own.1, was.0, here ∙ ap Some is)
      | inr other ↦ inr (other, entry_stays n f other ∙ at)
    ]

    -- the same as a function
    cleaned_is : (word : LockWord) (n : ℕ) (e : Entry) (now : Option Entry) → IsCleaned word n e now → now ≡ Some (cleaned_entry word n e)
    cleaned_is word n e now (inl own) =
        own.3 ∙ ap Some (sym (ap (λ (b : Bool). if b then record e { flag = flag.Clean } else e) (owned_dirty word n own.0 own.1)))
    cleaned_is word n e now (inr other) = other.1 ∙ ap Some (sym (ap (λ (b : Bool). if b then record e { flag = flag.Clean } else e) other.0))

    -- what wasn't there isn't there
    none_stays : (n f : ℕ) → IsFrameOf locks f → Has seat.view n → entry_at seat.view.entries n f ≡ None → entry_at new.entries n f ≡ None
    none_stays n f lt has at = elim (owned_or (known_at seat.view f) n) [
      | inr other ↦ entry_stays n f other ∙ at
      | inl own ↦
          let k = resting.settled.each f lt in
          let never : None ≡ Some k.last = sym at ∙ ap (λ m. entry_at seat.view.entries m f) (sym own.1) ∙ k.at in
          absurd cc
    ]

    -- what isn't there now wasn't, and what is there was
    pub entry_before : (n f : ℕ) (e : Entry) → IsFrameOf locks f → Has seat.view n → entry_at new.entries n f ≡ Some e → (x : Entry) × (entry_at seat.view.entries n f ≡ Some x) × IsCleaned (known_at seat.view f) n x (Some e)
    entry_before n f e lt has put = by (entry_at seat.view.entries n f) refl
      where
        by : (o : Option Entry) → entry_at seat.view.entries n f ≡ o → (x : Entry) × (entry_at seat.view.entries n f ≡ Some x) × IsCleaned (known_at seat.view f) n x (Some e)
        by None at = let never : None ≡ Some e = sym (none_stays n f lt has at) ∙ put in absurd cc
        by (Some x) at = (x, at, subst (IsCleaned (known_at seat.view f) n x) put (entry_cleaned n f x lt has at))

    pub are_cleaned : AreCleaned locks seat.view new
    are_cleaned = record {
      words = words_cleaned;
      entries = λ n f lt has. by n f lt has (entry_at seat.view.entries n f) refl;
    }
      where
        by : (n f : ℕ) → IsFrameOf locks f → Has seat.view n → (o : Option Entry) → entry_at seat.view.entries n f ≡ o → entry_at new.entries n f ≡ option_map (cleaned_entry (known_at seat.view f) n) o
        by n f lt has None at = none_stays n f lt has at
        by n f lt has (Some e) at = cleaned_is (known_at seat.view f) n e (entry_at new.entries n f) (entry_cleaned n f e lt has at)

    -- what isn't a frame of the locks stays
    pub entry_outside : (n f : ℕ) → (IsFrameOf locks f → ⊥) → entry_at new.entries n f ≡ entry_at seat.view.entries n f
    entry_outside n f outside =
        cleans.entries n f (λ k d lt. inr (λ here. outside (subst (IsFrameOf locks) (sym here) (pages_listed locks shape seat stripes resting whole pages same k d lt).frame)))

-- ---- what is so of pages, after all frames were looked at

module _ (old new : View) (sight : IsSameSight old new) where
  pub seen_flagged : (locks : LockTable) (flagged : Flag) (pages : List FramePage) → All (IsFlagged locks flagged old) pages → All (IsFlagged locks flagged new) pages
  seen_flagged locks flagged pages all k d lt = flagged_still locks flagged old new (get_or pages k d) (sight.words (get_or pages k d).frame) (all k d lt)

  pub seen_sized : (size : ℕ) (pages : List FramePage) → HaveLength size old pages → HaveLength size new pages
  seen_sized size pages all k d lt =
      let f = (get_or pages k d).frame in
      ap length (bytes_same old new f (sight.words f) sight.entries) ∙ all k d lt

  pub seen_held : (held : Partitions) (pages : List FramePage) → AreInFrames held old pages → AreInFrames held new pages
  seen_held held pages are k d lt =
      let f = (get_or pages k d).frame in
      are k d lt ∙ ap Some (sym (bytes_same old new f (sight.words f) sight.entries))
