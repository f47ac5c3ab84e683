-- What contracts see of a worker's pages after a page was sought, lent, noted, made anew or given up.
use Rattle.std.proofs.Common.{◌≡◌, ◌≢◌, ℕ, ◌+◌, ◌-◌, ◌/◌, ◌%◌, ◌^◌, ◌<◌, ◌≤◌, Bool, true, false, List, [], ◌∷◌, ◌⊎◌, ⊎_elim, inl, inr, length, set, replicate, Option, Some, None, Result, Ok, sym, refl, ap, subst, ◌∙◌, arith, length-append}
use Rattle.std.specs.Prelude.{IsSome, IsSomeAnd, IfSome, IsTrue, IsErrOf, slice_get}
use Rattle.std.proofs.lemmas.Bool.{cases_eq}
use Rattle.pm_types.specs.declared.page_id.PageId.{PageId}
use Rattle.pm_types.specs.declared.shape.Shape.{Shape}
use Rattle.pm_types.specs.declared.fault.PageFault.{PageFault}
use Rattle.pm_types.specs.declared.fault.PageFault.TheVariants.{BadPage}
use Rattle.pm_types.specs.Ids.{page_id, part_of_id, index_of_id}
use Rattle.pm_types.specs.Spans.{Coverage}
use Rattle.pm_disk.specs.States.{DeviceState}
use Rattle.pm_pages.specs.Passes.{PassesAt}
use Rattle.pm_pages.specs.PageLists.{ReadsAt}
use Rattle.pm_pages.specs.Paged.{IsTold, IsThere, NoneLent, JoinsPatch, IsWhole, AsksPage, LendsNone, AsksInVain, IsPageIn, IsInHand, IsLent, MakesPage, NotesPatch, GivesUpPages, IsBadPage}
use Rattle.pm_locks.specs.Sight.{LockTable}
use Rattle.pm_stripe.specs.declared.held.Held.{Held}
use Rattle.pm_stripe.specs.Fetches.{Fetches}
use Rattle.pm_stripe.specs.GivenUp.{AreUnlent, GivesUpHeld}
use Rattle.pm_stripe.specs.Kept.{Kept, held_at, place_at, place_of, bytes_by, page_bytes, known_by, is_known, read_count, Holds, AreClean}
use Rattle.pm_stripe.specs.Makes.{MakesAnew}
use Rattle.pm_stripe.specs.Moves.{AreOfPart, HasOperation}
use Rattle.pm_stripe.specs.Reads.{Passes, Reads}
use Rattle.pm_stripe.specs.ReplacedLaws.{known_same, hand_same, found, found_else, long}
use Rattle.pm_stripe.specs.Shown.{is_held, is_lent, patch_of, paged}
use Rattle.pm_stripe.specs.ShownLaws.{names_apart, any_file, IsInOrder, clean_file, may_read}
use Rattle.pm_stripe.specs.Stripes.{MayReadOthers}
use Rattle.pm_stripe.proofs.BasePages.{bases_given}
use Rattle.pm_stripe.proofs.Fetched.{no_some, decided}
use Rattle.pm_stripe.proofs.GivenPages.{known_before}
use Rattle.pm_stripe.proofs.Hands.{held_push_else, held_push_here, found_at, none_named}

-- a page's name gives back its partition and its index
pub in_part : (part i : ℕ) → part < 65536 → i < 4294967296 → part_of_id (page_id part i) ≡ part
in_part part i p q = omega (arith, p, q)

in_index : (part i : ℕ) → part < 65536 → i < 4294967296 → index_of_id (page_id part i) ≡ i
in_index part i p q = omega (arith, p, q)

-- a page that came into hand: not there before, and to be read
record IsNew (o o' : Option Held) : Type 0 where
  page : Held
  before : o ≡ None
  now : o' ≡ Some page
  unlent : page.is_lent ≡ false
  bare : page.patch ≡ None

pub held_here : (o : Option Held) (h : Held) → o ≡ Some h → IsTrue (is_held o)
held_here o h e = ap is_held e

-- a page in hand is seen as its frame has it
pub here : (file : PageId → Option (List ℕ)) (k : Kept) (id : PageId) (h : Held) → held_at k.held id.0 ≡ Some h → page_bytes file k id ≡ Some h.lease.bytes
here file k id h at = ap (λ o. bytes_by o (place_of k id) k.seat.view.entries k.number (file id)) at

pub known_here : (k : Kept) (id : PageId) (h : Held) → held_at k.held id.0 ≡ Some h → is_known k id ≡ true
known_here k id h at = ap (λ o. known_by o (place_of k id) k.seat.view.entries k.number) at

module _ (locks : LockTable) (tells : Type 0) (file file' : PageId → Option (List ℕ)) (faults faults' part : ℕ) (k k' : Kept) (i : ℕ) (result : Result Bool PageFault) (p16 : part < 65536) (i32 : i < 4294967296)
    (told : tells → (j : PageId) → file' j ≡ file j) (rise : faults ≤ faults') (clean : tells → AreClean file k) (f : Fetches locks k k' (page_id part i) tells (file (page_id part i)) result) where
  fetched_pages : (j : PageId) → tells ⊎ IsTrue (is_known k j) → page_bytes file' k' j ≡ page_bytes file k j
  fetched_pages j = ⊎_elim
      (λ t. ap (bytes_by (held_at k'.held j.0) (place_of k' j) k'.seat.view.entries k'.number) (told t j) ∙ f.keeps.told t file j refl (clean t))
      (λ known. any_file file' file k' j (f.keeps.known j known) ∙ f.keeps.at_hand file j known)

  each : (j : ℕ) → (held_at k'.held j ≡ held_at k.held j) ⊎ IsNew (held_at k.held j) (held_at k'.held j)
  each j = ⊎_elim
      (λ e. inl (ap (λ hs. held_at hs j) e))
      (λ p. ⊎_elim
      (λ same.
      let absent : held_at k.held j ≡ None = ap (held_at k.held) (sym same ∙ ap (λ (z : PageId). z.0) p.1.page_is) ∙ p.0.away in
      inr (record { page = p.1.page; before = absent; now = ap (λ hs. held_at hs j) p.1.added ∙ held_push_here k.held p.1.page j same absent; unlent = p.1.unlent; bare = p.1.bare }))
      (λ ne. inl (ap (λ hs. held_at hs j) p.1.added ∙ held_push_else k.held p.1.page j ne))
      (cases_eq p.1.page.page.0 j))
      f.held

  asked_still : (j : ℕ) → IsTrue (is_held (held_at k.held j)) → IsTrue (is_held (held_at k'.held j))
  asked_still j held = ⊎_elim (λ e. ap is_held e ∙ held) (λ n. ap is_held n.now) (each j)

  lent_still : (j : ℕ) → IsTrue (is_lent (held_at k.held j)) → IsTrue (is_lent (held_at k'.held j))
  lent_still j lent = ⊎_elim (λ e. ap is_lent e ∙ lent) (λ n. absurd (let bad : false ≡ true = sym (ap is_lent n.before) ∙ lent in cc bad)) (each j)

  lent_before : (j : ℕ) → IsTrue (is_lent (held_at k'.held j)) → IsTrue (is_lent (held_at k.held j))
  lent_before j lent = ⊎_elim (λ e. sym (ap is_lent e) ∙ lent) (λ n. absurd (let bad : false ≡ true = sym n.unlent ∙ sym (ap is_lent n.now) ∙ lent in cc bad)) (each j)

  patch_still : (j : ℕ) → patch_of (held_at k'.held j) ≡ patch_of (held_at k.held j)
  patch_still j = ⊎_elim (λ e. ap patch_of e) (λ n. ap patch_of n.now ∙ n.bare ∙ sym (ap patch_of n.before)) (each j)

  cost : 32 - length k.held ≤ (32 - length k'.held) + 1
  cost = ⊎_elim (λ e. omega (arith, ap length e)) (λ p. omega (arith, ap length p.1.added, length-append k.held (p.1.page ∷ []))) f.held

  again_same : IsTrue (is_held (held_at k.held (page_id part i).0)) → 32 - length k.held ≤ 32 - length k'.held
  again_same held = ⊎_elim
      (λ e. omega (arith, ap length e))
      (λ p. absurd (let bad : false ≡ true = sym (ap is_held p.0.away) ∙ held in cc bad))
      f.held

  in_hand_or_free : IsTrue (is_held (held_at k'.held (page_id part i).0)) ⊎ (32 - length k.held ≤ 32 - length k'.held)
  in_hand_or_free = ⊎_elim
      (λ e. inr (omega (arith, ap length e)))
      (λ p. inl (ap is_held (ap (λ hs. held_at hs (page_id part i).0) p.1.added ∙ held_push_here k.held p.1.page (page_id part i).0 (ap (λ (z : PageId). z.0) p.1.page_is) p.0.away)))
      f.held

  reads_by : (bytes : List ℕ) → Reads (page_id part i) bytes → ReadsAt i bytes
  reads_by bytes reads = subst (λ (n : ℕ). ReadsAt n bytes) (in_index part i p16 i32) reads

  fails_by : (bytes : List ℕ) → (Passes k.shape (page_id part i) bytes → ⊥) → PassesAt k.shape.page_size k.shape.max_rows part i bytes → ⊥
  fails_by bytes fails passes = fails (subst (λ (n : ℕ × ℕ). PassesAt k.shape.page_size k.shape.max_rows n.0 n.1 bytes) (λ j. (sym (in_part part i p16 i32) j, sym (in_index part i p16 i32) j)) passes)

  -- a page that isn't had isn't at hand
  pub unknown : (result ≡ Ok true → ⊥) → is_known k (page_id part i) ≡ true → ⊥
  unknown nay known =
      let x = f.not_found nay in
      let none : held_at k'.held (page_id part i).0 ≡ None = ap (λ hs. held_at hs (page_id part i).0) x.0 ∙ x.1 in
      let un : is_known k' (page_id part i) ≡ false = (λ n. known_by (none n) (x.2 n) k'.seat.view.entries k'.number) in
      let bad : false ≡ true = sym un ∙ f.keeps.known (page_id part i) known in cc bad

  -- and is as its file has it
  as_file : (result ≡ Ok true → ⊥) → tells → page_bytes file k (page_id part i) ≡ file (page_id part i)
  as_file nay t =
      let x = f.not_found nay in
      let none : held_at k'.held (page_id part i).0 ≡ None = ap (λ hs. held_at hs (page_id part i).0) x.0 ∙ x.1 in
      sym (f.keeps.told t file (page_id part i) refl (clean t))
      ∙ (λ n. bytes_by (none n) (x.2 n) k'.seat.view.entries k'.number (file (page_id part i)))

  -- a page that is at hand now was so, or reads as what it says
  reads_here : is_known k' (page_id part i) ≡ true → IsTrue (is_known k (page_id part i)) ⊎ IsSomeAnd (page_bytes file' k' (page_id part i)) (ReadsAt i)
  reads_here known = ⊎_elim
      (λ e. inl (by_hand e (held_at k'.held (page_id part i).0) refl (decided result)))
      (λ p.
      let at : held_at k'.held (page_id part i).0 ≡ Some p.1.page = ap (λ hs. held_at hs (page_id part i).0) p.1.added ∙ held_push_here k.held p.1.page (page_id part i).0 (ap (λ (z : PageId). z.0) p.1.page_is) p.0.away in
      ⊎_elim
      (λ was. inl was)
      (λ reads. inr (subst (λ o. IsSomeAnd o (ReadsAt i)) (sym (here file' k' (page_id part i) p.1.page at)) (reads_by p.1.page.lease.bytes reads)))
      p.1.reads)
      f.held
    where
      by_hand : k'.held ≡ k.held → (o : Option Held) → held_at k'.held (page_id part i).0 ≡ o → (result ≡ Ok true) ⊎ (result ≡ Ok true → ⊥) → is_known k (page_id part i) ≡ true
      by_hand e (Some h) at d = known_here k (page_id part i) h (sym (ap (λ hs. held_at hs (page_id part i).0) e) ∙ at)
      by_hand e None at (inl had) = absurd (no_some (held_at k'.held (page_id part i).0) at (f.found had))
      by_hand e None at (inr nay) =
          let x = f.not_found nay in
          let un : is_known k' (page_id part i) ≡ false = (λ n. known_by (at n) (x.2 n) k'.seat.view.entries k'.number) in
          absurd (let bad : false ≡ true = sym un ∙ known in cc bad)

  pub asks : AsksPage tells (paged file faults part k) (paged file' faults' part k') i
  asks = record {
    pages = λ j t. fetched_pages (page_id part j) t;
    known = λ j is. f.keeps.known (page_id part j) is;
    reads = λ j is. elim (cases_eq j i) [
      | inl same ↦ subst (λ n. IsTrue (is_known k (page_id part n)) ⊎ IsSomeAnd (page_bytes file' k' (page_id part n)) (ReadsAt n)) (sym same) (reads_here (ap (λ n. is_known k' (page_id part n)) (sym same) ∙ is))
      | inr ne ↦ inl (sym (f.only (page_id part j) (names_apart part i j ne)) ∙ is)
    ];
    lent = λ j. lent_still (page_id part j).0;
    patches = λ j. patch_still (page_id part j).0;
    room = record { others = λ j. asked_still (page_id part j).0; most = cost; free = in_hand_or_free; again = again_same };
    same = record { page_size = ap (λ (s : Shape). s.page_size) f.shape; max_rows = ap (λ (s : Shape). s.max_rows) f.shape; part = refl; faults = rise };
  }

  pub none_lent : LendsNone (paged file faults part k) (paged file' faults' part k')
  none_lent j = lent_before (page_id part j).0

  -- where the page isn't had the budget is as it was
  pub vain : (result ≡ Ok true → ⊥) → AsksInVain tells (paged file faults part k) (paged file' faults' part k') i
  vain nay = record { asks = asks; none_lent = none_lent; spare = omega (arith, ap length (f.not_found nay).0) }

  -- the page that was had
  pub had_page : (h : Held) → held_at k'.held (page_id part i).0 ≡ Some h → IsPageIn tells (paged file faults part k) i h.lease.bytes × IsInHand (paged file' faults' part k') i h.lease.bytes
  had_page h at =
      let is = here file' k' (page_id part i) h at in
      let x = found_at k'.held (page_id part i).0 h at in (
        record {
          same = λ t. sym (fetched_pages (page_id part i) t) ∙ is;
          size = (f.holds.held x.0 h x.1).out.long ∙ ap (λ (s : Shape). s.page_size) f.shape;
          reads = ⊎_elim (λ was. inl was) (λ reads. inr (subst (λ o. IsSomeAnd o (ReadsAt i)) is reads)) (reads_here (known_here k' (page_id part i) h at));
        },
        record { known = known_here k' (page_id part i) h at; asked = held_here (held_at k'.held (page_id part i).0) h at; page = is },
      )

  -- a page that isn't had where its file doesn't have it
  pub gone : result ≡ Ok false → IsTold tells (paged file faults part k) i → page_bytes file k (page_id part i) ≡ None
  gone e = ⊎_elim
      (λ t. as_file (λ had. let bad : Ok true ≡ Ok false = sym had ∙ e in cc bad) t ∙ f.absent e t)
      (λ known. absurd (unknown (λ had. let bad : Ok true ≡ Ok false = sym had ∙ e in cc bad) known))

  -- a page that fails its check
  pub bad : (named : PageId) → (result ≡ Ok true → ⊥) → IsErrOf result (BadPage named) → IsBadPage tells (paged file faults part k) i named
  bad named nay e = let x = f.bad named e in record {
    name = x.0;
    known = λ known. absurd (unknown nay known);
    told = λ t. let y = x.1 t in subst (λ o. IfSome o (λ bytes. PassesAt k.shape.page_size k.shape.max_rows part i bytes → ⊥)) (sym (as_file nay t ∙ y.there)) (fails_by y.bytes y.fails);
    first = λ _. ⊎_elim (λ t. let y = x.1 t in subst IsSome (sym (as_file nay t ∙ y.there)) refl) (λ known. absurd (unknown nay known));
  }

  -- a page that isn't there
  pub missing : result ≡ Ok false → (IsTold tells (paged file faults part k) i → i ≡ 0 → IsThere (paged file faults part k) i) → IsBadPage tells (paged file faults part k) i (page_id part i)
  missing e first = record {
    name = refl;
    known = λ known. gone e (inr known);
    told = λ t. subst (λ o. IfSome o (λ bytes. PassesAt k.shape.page_size k.shape.max_rows part i bytes → ⊥)) (sym (gone e (inl t))) tt;
    first = λ zero_is t. first t zero_is;
  }

  -- the page was lent, too
  module _ (h : Held) (room' : ℕ) (at : held_at k'.held (page_id part i).0 ≡ Some h) where
    abbrev h' : Held
    h' = record h { is_lent = true }

    abbrev k₂ : Kept
    k₂ = record k' { held = set k'.held (place_at k'.held (page_id part i).0) h'; held_room = room' }

    hand : {X : Type 0} (g : Option Held → X) → g (Some h') ≡ g (Some h) → (j : ℕ) → g (held_at k₂.held j) ≡ g (held_at k'.held j)
    hand g same j = hand_same locks k' (page_id part i) h h' room' at refl refl g same j

    now_bytes : (j : PageId) → page_bytes file' k₂ j ≡ page_bytes file' k' j
    now_bytes j = hand (λ o. bytes_by o (place_of k' j) k'.seat.view.entries k'.number (file' j)) refl j.0

    now_known : (j : PageId) → is_known k₂ j ≡ is_known k' j
    now_known j = known_same locks k' (page_id part i) h h' room' at refl refl j

    now_at : held_at k₂.held (page_id part i).0 ≡ Some h'
    now_at = found locks k' (page_id part i) h h' room' at refl refl

    now_long : length k₂.held ≡ length k'.held
    now_long = long locks k' (page_id part i) h h' room' at refl refl

    lent_more : (j : ℕ) → IsTrue (is_lent (held_at k'.held j)) → IsTrue (is_lent (held_at k₂.held j))
    lent_more j lent = elim (cases_eq j (page_id part i).0) [
      | inl same ↦ ap is_lent (ap (held_at k₂.held) same ∙ now_at)
      | inr ne ↦ ap is_lent (found_else locks k' (page_id part i) h h' room' at refl refl j ne) ∙ lent
    ]

    pub lends : AsksPage tells (paged file faults part k) (paged file' faults' part k₂) i × IsLent (paged file' faults' part k₂) i
    lends = (
      record {
        pages = λ j t. now_bytes (page_id part j) ∙ asks.pages j t;
        known = λ j is. now_known (page_id part j) ∙ asks.known j is;
        reads = λ j is. ⊎_elim (λ was. inl was) (λ reads. inr (subst (λ o. IsSomeAnd o (ReadsAt j)) (sym (now_bytes (page_id part j))) reads)) (asks.reads j (sym (now_known (page_id part j)) ∙ is));
        lent = λ j is. lent_more (page_id part j).0 (asks.lent j is);
        patches = λ j. hand patch_of refl (page_id part j).0 ∙ asks.patches j;
        room = record {
          others = λ j is. hand is_held refl (page_id part j).0 ∙ asks.room.others j is;
          most = omega (arith, cost, now_long);
          free = inl (ap is_held now_at);
          again = λ is. omega (arith, again_same is, now_long);
        };
        same = record { page_size = ap (λ (s : Shape). s.page_size) f.shape; max_rows = ap (λ (s : Shape). s.max_rows) f.shape; part = refl; faults = rise };
      },
      record {
        known = known_here k₂ (page_id part i) h' now_at;
        asked = ap is_held now_at;
        lent = ap is_lent now_at;
        there = subst IsSome (sym (here file' k₂ (page_id part i) h' now_at)) refl;
      },
    )

-- a patch was joined to that of a page in hand
module _ (locks : LockTable) (tells : Type 0) (file : PageId → Option (List ℕ)) (faults part : ℕ) (k : Kept) (i : ℕ) (h : Held) (patch joined : Coverage) (room' : ℕ) (at : held_at k.held (page_id part i).0 ≡ Some h) (joins : JoinsPatch h.patch patch joined) where
  abbrev hn : Held
  hn = record h { patch = Some joined }

  abbrev kn : Kept
  kn = record k { held = set k.held (place_at k.held (page_id part i).0) hn; held_room = room' }

  note_hand : {X : Type 0} (g : Option Held → X) → g (Some hn) ≡ g (Some h) → (j : ℕ) → g (held_at kn.held j) ≡ g (held_at k.held j)
  note_hand g same j = hand_same locks k (page_id part i) h hn room' at refl refl g same j

  pub notes : NotesPatch tells (paged file faults part k) (paged file faults part kn) i patch
  notes = record {
    pages = λ j t. note_hand (λ o. bytes_by o (place_of k (page_id part j)) k.seat.view.entries k.number (file (page_id part j))) refl (page_id part j).0;
    known = λ j. known_same locks k (page_id part i) h hn room' at refl refl (page_id part j);
    asked = λ j. note_hand is_held refl (page_id part j).0;
    lent = λ j. note_hand is_lent refl (page_id part j).0;
    joins = subst (λ o. IsSomeAnd (patch_of o) (JoinsPatch (patch_of (held_at k.held (page_id part i).0)) patch)) (sym (found locks k (page_id part i) h hn room' at refl refl))
        (subst (λ o. JoinsPatch (patch_of o) patch joined) (sym at) joins);
    patches = λ j ne. ap patch_of (found_else locks k (page_id part i) h hn room' at refl refl (page_id part j).0 (names_apart part i j ne));
    spare = omega (arith, long locks k (page_id part i) h hn room' at refl refl);
    same = record { page_size = refl; max_rows = refl; part = refl; faults = omega arith };
  }

-- a page was made anew
module _ (locks : LockTable) (tells : Type 0) (file file' : PageId → Option (List ℕ)) (faults part : ℕ) (k k' : Kept) (i : ℕ) (clean : tells → AreClean file k) (told : tells → (j : PageId) → file' j ≡ file j) (m : MakesAnew locks k k' (page_id part i)) where
  made_known : is_known k' (page_id part i) ≡ true
  made_known = known_here k' (page_id part i) m.made.page m.made.at

  made_bytes : page_bytes file' k' (page_id part i) ≡ Some (replicate k.shape.page_size 0)
  made_bytes = here file' k' (page_id part i) m.made.page m.made.at ∙ ap Some m.made.zeros

  made_hand : {X : Type 0} (g : Option Held → X) (j : ℕ) → j ≢ i → g (held_at k'.held (page_id part j).0) ≡ g (held_at k.held (page_id part j).0)
  made_hand g j ne = ap g (m.hands (page_id part j).0 (names_apart part i j ne))

  made_flag : (g : Option Held → Bool) → g (held_at k'.held (page_id part i).0) ≡ true → (j : ℕ) → IsTrue (g (held_at k.held (page_id part j).0)) → IsTrue (g (held_at k'.held (page_id part j).0))
  made_flag g now j was = elim (cases_eq j i) [
    | inl same ↦ ap (λ n. g (held_at k'.held (page_id part n).0)) same ∙ now
    | inr ne ↦ made_hand g j ne ∙ was
  ]

  made_cost : 32 - length k.held ≤ (32 - length k'.held) + 1
  made_cost = ⊎_elim (λ e. omega (arith, e)) (λ p. omega (arith, p.1)) m.count

  made_again : IsTrue (is_held (held_at k.held (page_id part i).0)) → 32 - length k.held ≤ 32 - length k'.held
  made_again held = ⊎_elim (λ e. omega (arith, e)) (λ p. absurd (let bad : false ≡ true = sym (ap is_held p.0) ∙ held in cc bad)) m.count

  pub makes : MakesPage tells (paged file faults part k) (paged file' faults part k') i
  makes = record {
    here = made_bytes;
    pages = λ j ne. ⊎_elim
        (λ t. ap (bytes_by (held_at k'.held (page_id part j).0) (place_of k' (page_id part j)) k'.seat.view.entries k'.number) (told t (page_id part j))
        ∙ (m.moves file).told tt (clean t) (page_id part j) (names_apart part i j ne))
        (λ known. any_file file' file k' (page_id part j) ((m.moves file).only (page_id part j) (names_apart part i j ne) ∙ known)
        ∙ (m.moves file).at_hand (page_id part j) (names_apart part i j ne) known);
    known = λ j was. elim (cases_eq j i) [
      | inl same ↦ ap (λ n. is_known k' (page_id part n)) same ∙ made_known
      | inr ne ↦ (m.moves file).only (page_id part j) (names_apart part i j ne) ∙ was
    ];
    only = λ j ne is. sym ((m.moves file).only (page_id part j) (names_apart part i j ne)) ∙ is;
    lends = record { known = made_known; asked = ap is_held m.made.at; lent = ap is_lent m.made.at ∙ m.made.lent; there = subst IsSome (sym made_bytes) refl };
    lent = made_flag is_lent (ap is_lent m.made.at ∙ m.made.lent);
    whole = subst (λ o. IsSomeAnd o (IsWhole k.shape.page_size)) (sym (ap patch_of m.made.at ∙ m.made.patched)) m.made.whole;
    patches = λ j ne. made_hand patch_of j ne;
    room = record {
      others = made_flag is_held (ap is_held m.made.at);
      most = made_cost;
      free = inl (ap is_held m.made.at);
      again = made_again;
    };
    same = record { page_size = ap (λ (s : Shape). s.page_size) (m.moves file).shape; max_rows = ap (λ (s : Shape). s.max_rows) (m.moves file).shape; part = refl; faults = omega arith };
  }

-- the pages in hand were given up
module _ (locks : LockTable) (tells : Type 0) (file file' : PageId → Option (List ℕ)) (faults part : ℕ) (k k' : Kept) (clean : tells → AreClean file k) (told : tells → (j : PageId) → file' j ≡ file j) (g : GivesUpHeld locks k k') (none : k'.held ≡ []) where
  none_in_hand : (j : ℕ) → held_at k'.held j ≡ None
  none_in_hand j = ap (λ hs. held_at hs j) none

  given_bytes : (j : PageId) → tells ⊎ IsTrue (is_known k' j) → page_bytes file' k' j ≡ page_bytes file k j
  given_bytes j = ⊎_elim
      (λ t. ap (bytes_by (held_at k'.held j.0) (place_of k' j) k'.seat.view.entries k'.number) (told t j) ∙ g.told file j (clean t))
      (λ known. any_file file' file k' j known ∙ g.at_hand file j known)

  pub gives_pages : GivesUpPages tells (paged file faults part k) (paged file' faults part k')
  gives_pages = record {
    pages = λ j. given_bytes (page_id part j);
    known = λ j. known_before locks k k' g (page_id part j);
    spare = ap (λ (hs : List Held). 32 - length hs) none;
    none_lent = λ j lent. (let bad : false ≡ true = sym (ap is_lent (none_in_hand (page_id part j).0)) ∙ lent in cc bad);
    no_patch = λ j. ap patch_of (none_in_hand (page_id part j).0);
    same = record { page_size = ap (λ (s : Shape). s.page_size) g.shape; max_rows = ap (λ (s : Shape). s.max_rows) g.shape; part = refl; faults = omega arith };
  }

  -- a page of another partition is none of those in hand
  not_in_hand : AreOfPart part k.held → (j : PageId) → part_of_id j ≢ part → held_at k.held j.0 ≡ None
  not_in_hand alone j ne = by_held (held_at k.held j.0) refl
    where
      by_held : (o : Option Held) → held_at k.held j.0 ≡ o → held_at k.held j.0 ≡ None
      by_held None is = is
      by_held (Some h) is = let x = found_at k.held j.0 h is in absurd (ne (ap (λ n. n / 2 ^ 32 % 2 ^ 16) (sym x.2) ∙ alone x.0 h x.1))

  unlent_same : Holds locks k → AreUnlent k.held → (i : ℕ) (h : Held) → slice_get k.held i ≡ Some h → (h.lease.bytes ≡ h.was.value.bytes) × (h.patch ≡ None)
  unlent_same holds unlent i h is = (holds.held i h is).unlent (unlent i h is)

  pub after_given : Holds locks k → AreUnlent k.held → (state : DeviceState) → MayReadOthers locks.workers state k → HasOperation locks part k → IsInOrder locks tells file file' state part k k'
  after_given holds unlent state reads op = record {
    holds = g.holds;
    reads = may_read locks.workers state state k k' (record { later = omega arith; access = refl; usable = λ is. is }) g.shape g.number g.staying reads;
    clean = λ t. clean_file file file' k' (told t) (g.clean file (clean t));
    operates = record {
      frames = record { few = omega (arith, ap length none); enough = omega (arith, ap length none, ap read_count none, g.bare, op.bare) };
      bare = g.bare ∙ op.bare;
      there = subst (λ (s : Shape). part < s.partitions) (sym g.shape) op.there;
      own = op.own ∙ sym g.number;
      alone = λ j h is. absurd (let bad : None ≡ Some h = sym (ap (λ (hs : List Held). slice_get hs j) none) ∙ is in cc bad);
    };
    others = record {
      known = λ j ne. g.only j (not_in_hand op.alone j ne);
      pages = λ j ne. ⊎_elim (λ t. given_bytes j (inl t)) (λ known. given_bytes j (inr (g.only j (not_in_hand op.alone j ne) ∙ known)));
    };
    bases = bases_given locks tells file file' k k' holds (unlent_same holds unlent) none given_bytes g.back;
    staying = g.staying;
  }

-- none of the pages in hand was lent, where none of the partition was
pub none_was_lent : (locks : LockTable) (file : PageId → Option (List ℕ)) (faults part : ℕ) (k : Kept) → Holds locks k → AreOfPart part k.held → NoneLent (paged file faults part k) → AreUnlent k.held
none_was_lent locks file faults part k holds alone none i h is = by_lent h.is_lent refl
  where
    name : h.page.0 ≡ (page_id part (index_of_id h.page)).0
    name = omega (arith, alone i h is, (holds.held i h is).own.name.flag)

    at : held_at k.held h.page.0 ≡ Some h
    at = by_held (held_at k.held h.page.0) refl
      where
        by_held : (o : Option Held) → held_at k.held h.page.0 ≡ o → held_at k.held h.page.0 ≡ Some h
        by_held None e = absurd (none_named k.held h.page.0 i h e is refl)
        by_held (Some g) e =
            let x = found_at k.held h.page.0 g e in
            let same : x.0 ≡ i = holds.apart.names.once x.0 i g h x.1 is x.2 in
            e ∙ sym x.1 ∙ ap (slice_get k.held) same ∙ is

    by_lent : (b : Bool) → h.is_lent ≡ b → h.is_lent ≡ false
    by_lent false e = e
    by_lent true e = absurd (none (index_of_id h.page) (ap is_lent (ap (held_at k.held) (sym name) ∙ at) ∙ e))
