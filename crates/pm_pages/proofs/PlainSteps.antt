-- What a change of the list of pages that were asked for, or of the pages, does to what contracts see of plain pages.
use Rattle.std.proofs.Common.{◌≡◌, ◌≢◌, ℕ, ◌+◌, ◌-◌, ◌^◌, ◌<◌, ◌≤◌, ◌⊎◌, true, List, [], ◌∷◌, ◌++◌, length, set, get_or, replicate, subst, refl, sym, ap, ◌∙◌, inl, inr, arith}
use Rattle.std.specs.Prelude.{Option, None, Some, IsSome, IsSomeAnd, IsTrue, All, unwrap_or, slice_get}
use Rattle.std.specs.Option.{option_map}
use Rattle.std.proofs.lemmas.Bool.{cases_eq, cases_lt, eq-eqb, ne_eqb}
use Rattle.std.proofs.lemmas.List.{length-append, get_or_append_left, get_or-append_right}
use Rattle.std.proofs.lemmas.List.Elements.{All-append, All-from_recursion}
use Rattle.std.proofs.lemmas.Option.{slice_get-get_or, slice_get_past}
use Rattle.pm_types.specs.declared.page.Page.{Page}
use Rattle.pm_types.specs.Spans.{Coverage, IsPatch}
use Rattle.pm_pages.specs.declared.asked.Asked.{Asked}
use Rattle.pm_pages.specs.Asked.{to_read, entry_of, entry_or_new, is_asked, is_lent_in, patch_of, IsPatchFor, HavePatchesFor, RegistersPage, MakesEntry, NotesEntry}
use Rattle.pm_pages.specs.PageLists.{pages_in}
use Rattle.pm_pages.specs.Paged.{Paged, JoinsPatch, IsWhole, with_page, TakesRoom, AsksPage, MakesPage, NotesPatch}
use Rattle.pm_pages.specs.Plain.{Shown, paged}
use Rattle.pm_pages.specs.PlainRooms.{AreZeros, IsOfSize, NoneIsLent, IsOrdered, AreReady}
use Rattle.pm_pages.specs.PlainLaws.{pages_in-set}
use Rattle.pm_pages.proofs.AskedPages.{length_after}

-- what holds of the entry of the page that was asked for, and of an entry that stays, holds of each
pub each_entry : (R : Option Asked → Option Asked → Type 0) → ((o : Option Asked) → R o o) → (was now : List Asked) (i : ℕ) → RegistersPage was now i → R (entry_of was i) (entry_of now i) → (j : ℕ) → R (entry_of was j) (entry_of now j)
each_entry R stays was now i registers here j = elim (cases_eq j i) [
  | inl same ↦ subst (λ k. R (entry_of was k) (entry_of now k)) (sym same) here
  | inr away ↦ subst (λ o. R (entry_of was j) o) (sym (registers.others j away)) (stays (entry_of was j))
]

pub some_asked : (o : Option Asked) → IsSome o → IsTrue (is_asked o)
some_asked None some = absurd (cc some)
some_asked (Some entry) some = refl

pub asked_some : (o : Option Asked) → IsTrue (is_asked o) → IsSome o
asked_some None asked = absurd (cc asked)
asked_some (Some entry) asked = refl

-- what was lent stays so
abbrev pub StaysLent : Option Asked → Option Asked → Type 0
StaysLent was now = IsTrue (is_lent_in was) → IsTrue (is_lent_in now)

-- what was made stays so
abbrev pub StaysMade : ℕ → Option Asked → Option Asked → Type 0
StaysMade size was now = IsSomeAnd was (MakesEntry size) → IsSomeAnd now (MakesEntry size)

-- the patch is the one that it was
abbrev pub SamePatch : Option Asked → Option Asked → Type 0
SamePatch was now = patch_of now ≡ patch_of was

-- an entry that stays, or is that of a page asked for to be read, is lent as before, and has the patch that it had
same_lent : (o : Option Asked) (i : ℕ) → is_lent_in (Some (unwrap_or o (to_read i))) ≡ is_lent_in o
same_lent None i = refl
same_lent (Some entry) i = refl

same_made : (size : ℕ) (o : Option Asked) (i : ℕ) → StaysMade size o (Some (unwrap_or o (to_read i)))
same_made size None i made = absurd made
same_made size (Some entry) i made = made

lent_made : (size : ℕ) (o : Option Asked) (i : ℕ) → StaysMade size o (Some (record (unwrap_or o (to_read i)) { is_lent = true }))
lent_made size None i made = absurd made
lent_made size (Some entry) i made = record { lent = refl; whole = made.whole; fits = made.fits }

same_patch : (o : Option Asked) (i : ℕ) → patch_of (Some (unwrap_or o (to_read i))) ≡ patch_of o
same_patch None i = refl
same_patch (Some entry) i = refl

-- the page counts as asked for
pub takes_room : (s s' : Shown) (i : ℕ) → RegistersPage s.asked s'.asked i → TakesRoom (paged s) (paged s') i
takes_room s s' i registers = record {
  others = each_entry (λ a b. IsTrue (is_asked a) → IsTrue (is_asked b)) (λ o h. h) s.asked s'.asked i registers (λ h. some_asked (entry_of s'.asked i) registers.here);
  most = omega (arith, (length_after s.asked s'.asked i registers).1);
  free = inl (some_asked (entry_of s'.asked i) registers.here);
  again = λ h. omega (arith, registers.again (asked_some (entry_of s.asked i) h));
}

-- what a change of one entry keeps of all
pub record KeepsEntries (was now : List Asked) (i : ℕ) : Type 0 where
  pub registers : RegistersPage was now i
  pub lent : (j : ℕ) → StaysLent (entry_of was j) (entry_of now j)
  pub patches : (size : ℕ) → HavePatchesFor size was → HavePatchesFor size now
  pub made : (size j : ℕ) → StaysMade size (entry_of was j) (entry_of now j)

-- a page was asked for to be read
pub keeps_read : (was now : List Asked) (i : ℕ) → RegistersPage was now i → entry_of now i ≡ Some (entry_or_new was i) → KeepsEntries was now i × ((j : ℕ) → is_lent_in (entry_of now j) ≡ is_lent_in (entry_of was j)) × ((j : ℕ) → SamePatch (entry_of was j) (entry_of now j))
keeps_read was now i registers is =
    let lent = each_entry (λ a b. is_lent_in b ≡ is_lent_in a) (λ o. refl) was now i registers (ap is_lent_in is ∙ same_lent (entry_of was i) i) in
    let patches = each_entry SamePatch (λ o. refl) was now i registers (ap patch_of is ∙ same_patch (entry_of was i) i) in (
      record {
        registers = registers;
        lent = λ j h. lent j ∙ h;
        patches = λ size sizes j patch e. sizes j patch (sym (patches j) ∙ e);
        made = λ size. each_entry (StaysMade size) (λ o h. h) was now i registers (λ h. subst (λ o. IsSomeAnd o (MakesEntry size)) (sym is) (same_made size (entry_of was i) i h));
      },
      lent,
      patches,
    )

-- a page was asked for to be written
pub keeps_lent : (was now : List Asked) (i : ℕ) → RegistersPage was now i → entry_of now i ≡ Some (record (entry_or_new was i) { is_lent = true }) → KeepsEntries was now i × ((j : ℕ) → SamePatch (entry_of was j) (entry_of now j))
keeps_lent was now i registers is =
    let patches = each_entry SamePatch (λ o. refl) was now i registers (ap patch_of is ∙ same_patch (entry_of was i) i) in (
      record {
        registers = registers;
        lent = each_entry StaysLent (λ o h. h) was now i registers (λ h. ap is_lent_in is);
        patches = λ size sizes j patch e. sizes j patch (sym (patches j) ∙ e);
        made = λ size. each_entry (StaysMade size) (λ o h. h) was now i registers (λ h. subst (λ o. IsSomeAnd o (MakesEntry size)) (sym is) (lent_made size (entry_of was i) i h));
      },
      patches,
    )

-- the patches of all are those of pages of one size where that of the page is
sizes_kept : (size i : ℕ) (was now : List Asked) → RegistersPage was now i → HavePatchesFor size was → ((patch : Coverage) → patch_of (entry_of now i) ≡ Some patch → IsPatchFor size patch) → HavePatchesFor size now
sizes_kept size i was now registers sizes here j patch e = elim (cases_eq j i) [
  | inl same ↦ here patch (ap (λ k. patch_of (entry_of now k)) (sym same) ∙ e)
  | inr away ↦ sizes j patch (ap patch_of (sym (registers.others j away)) ∙ e)
]

-- a page that was made is lent, and its patch is the whole page
pub made_lent : (size : ℕ) (o : Option Asked) → IsSomeAnd o (MakesEntry size) → IsTrue (is_lent_in o)
made_lent size None made = absurd made
made_lent size (Some entry) made = made.lent

pub made_whole : (size : ℕ) (o : Option Asked) → IsSomeAnd o (MakesEntry size) → IsSomeAnd (patch_of o) (IsWhole size)
made_whole size None made = absurd made
made_whole size (Some entry) made = made.whole

-- a patch of this size, where there is one
abbrev HasPatchFor : ℕ → Option Coverage → Type 0
HasPatchFor size o = (patch : Coverage) → o ≡ Some patch → IsPatchFor size patch

has_patch : (size : ℕ) (p : Coverage) → IsPatchFor size p → HasPatchFor size (Some p)
has_patch size p is patch e = (let same : p ≡ patch = cc e in subst (IsPatchFor size) same is)

whole_size : (size : ℕ) (o : Option Coverage) → IsSomeAnd o (IsWhole size) → IsSomeAnd o IsPatch → HasPatchFor size o
whole_size size None whole fits = absurd whole
whole_size size (Some p) whole fits = has_patch size p (record { fits = fits; size_is = whole.size })

made_size : (size : ℕ) (o : Option Asked) → IsSomeAnd o (MakesEntry size) → HasPatchFor size (patch_of o)
made_size size None made = absurd made
made_size size (Some entry) made = whole_size size entry.patch made.whole made.fits

-- a page was made
pub keeps_made : (was now : List Asked) (i size : ℕ) → RegistersPage was now i → IsSomeAnd (entry_of now i) (MakesEntry size) → HavePatchesFor size was → HavePatchesFor size now × ((j : ℕ) → StaysLent (entry_of was j) (entry_of now j)) × ((j : ℕ) → StaysMade size (entry_of was j) (entry_of now j))
keeps_made was now i size registers made sizes = (
  sizes_kept size i was now registers sizes (made_size size (entry_of now i) made),
  each_entry StaysLent (λ o h. h) was now i registers (λ h. made_lent size (entry_of now i) made),
  each_entry (StaysMade size) (λ o h. h) was now i registers (λ h. made),
)

joined_size : (size : ℕ) (old : Option Coverage) (patch joined : Coverage) → patch.page_size ≡ size → ((p : Coverage) → old ≡ Some p → p.page_size ≡ size) → JoinsPatch old patch joined → joined.page_size ≡ size
joined_size size None patch joined same sizes joins = ap (λ (p : Coverage). p.page_size) joins ∙ same
joined_size size (Some old) patch joined same sizes joins = joins.size ∙ sizes old refl

noted_size : (size : ℕ) (was : Asked) (patch : Coverage) (o : Option Asked) → patch.page_size ≡ size → ((p : Coverage) → was.patch ≡ Some p → p.page_size ≡ size) → IsSomeAnd o (NotesEntry was patch) → HasPatchFor size (patch_of o)
noted_size size was patch None same sizes notes = absurd notes
noted_size size was patch (Some entry) same sizes notes = of_joined entry.patch notes.joins notes.fits
  where
    of_joined : (o : Option Coverage) → IsSomeAnd o (JoinsPatch was.patch patch) → IsSomeAnd o IsPatch → HasPatchFor size o
    of_joined None joins fits = absurd joins
    of_joined (Some joined) joins fits = has_patch size joined (record { fits = fits; size_is = joined_size size was.patch patch joined same sizes joins })

-- an entry that was made stays so where a patch is noted
noted_made : (size : ℕ) (was : Option Asked) (i : ℕ) (patch : Coverage) (o : Option Asked) → IsSomeAnd o (NotesEntry (unwrap_or was (to_read i)) patch) → StaysMade size was o
noted_made size None i patch o notes made = absurd made
noted_made size (Some entry) i patch None notes made = absurd notes
noted_made size (Some entry) i patch (Some noted) notes made = record { lent = notes.lent ∙ made.lent; whole = notes.stays_whole size made.whole; fits = notes.fits }

noted_lent : (was : Asked) (patch : Coverage) (o : Option Asked) → IsSomeAnd o (NotesEntry was patch) → is_lent_in o ≡ was.is_lent
noted_lent was patch None notes = absurd notes
noted_lent was patch (Some entry) notes = notes.lent

-- a patch was noted
pub keeps_noted : (was now : List Asked) (i size : ℕ) (patch : Coverage) → RegistersPage was now i → IsSomeAnd (entry_of now i) (NotesEntry (entry_or_new was i) patch) → HavePatchesFor size was → patch.page_size ≡ size → HavePatchesFor size now × ((j : ℕ) → is_lent_in (entry_of now j) ≡ is_lent_in (entry_of was j))
keeps_noted was now i size patch registers notes sizes same = (
  sizes_kept size i was now registers sizes (noted_size size (entry_or_new was i) patch (entry_of now i) same (λ p e. (sizes i p (sym (same_patch (entry_of was i) i) ∙ e)).size_is) notes),
  each_entry (λ a b. is_lent_in b ≡ is_lent_in a) (λ o. refl) was now i registers (noted_lent (entry_or_new was i) patch (entry_of now i) notes ∙ same_lent (entry_of was i) i),
)

-- what was made stays so where a patch was noted
pub noted_stays_made : (was now : List Asked) (i size : ℕ) (patch : Coverage) → RegistersPage was now i → IsSomeAnd (entry_of now i) (NotesEntry (entry_or_new was i) patch) → (j : ℕ) → StaysMade size (entry_of was j) (entry_of now j)
noted_stays_made was now i size patch registers notes = each_entry (StaysMade size) (λ o h. h) was now i registers (noted_made size (entry_of was i) i patch (entry_of now i) notes)

-- not too many pages were asked for
pub few_kept : (i : ℕ) (was now : List Asked) → RegistersPage was now i → length was ≤ 32 → IsTrue (is_asked (entry_of was i)) ⊎ (0 < 32 - length was) → length now ≤ 32
few_kept i was now registers few room = elim room [
  | inl there ↦ omega (arith, registers.again (asked_some (entry_of was i) there), few)
  | inr spare ↦ omega (arith, (length_after was now i registers).1)
]

-- what was in order stays so where a page that is there was asked for
pub ordered_kept : (size : ℕ) (pages rooms : List Page) (was now : List Asked) (held held' i : ℕ) → IsOrdered size pages rooms was held → RegistersPage was now i → i < length pages → HavePatchesFor size now → IsTrue (is_asked (entry_of was i)) ⊎ (0 < 32 - length was) → held ≤ held' → IsOrdered size pages rooms now held'
ordered_kept size pages rooms was now held held' i is registers lt sizes room more = record {
  is_size = is.is_size;
  sized = is.sized;
  indexed = is.indexed;
  zeros = is.zeros;
  there = λ j some. elim (cases_eq j i) [
    | inl same ↦ omega (arith, same, lt)
    | inr away ↦ is.there j (subst IsSome (registers.others j away) some)
  ];
  few = few_kept i was now registers is.few room;
  room = omega (arith, is.room, more);
  patches = sizes;
}

pub ready_kept : (size : ℕ) (pages rooms : List Page) (was now : List Asked) (space held held' i : ℕ) → AreReady size pages rooms was space held → RegistersPage was now i → i < length pages → HavePatchesFor size now → ((j : ℕ) → StaysLent (entry_of was j) (entry_of now j)) → IsTrue (is_asked (entry_of was i)) ⊎ (0 < 32 - length was) → held ≤ held' → AreReady size pages rooms now space held'
ready_kept size pages rooms was now space held held' i is registers lt sizes lent room more =
    let longer = (length_after was now i registers).0 in
    record {
      ordered = ordered_kept size pages rooms was now held held' i is.ordered registers lt sizes room more;
      enough = record { zeros = omega (arith, is.enough.zeros, longer); space = omega (arith, is.enough.space, longer) };
      idle = λ none. is.idle (λ j h. none j (lent j h));
    }

-- a page was asked for, and the pages are as they were
pub asks_page : (s : Shown) (now : List Asked) (i : ℕ) → RegistersPage s.asked now i → ((j : ℕ) → StaysLent (entry_of s.asked j) (entry_of now j)) → ((j : ℕ) → SamePatch (entry_of s.asked j) (entry_of now j)) → AsksPage (Unit {0}) (paged s) (paged (record s { asked = now })) i
asks_page s now i registers lent patches = record {
  pages = λ j told. refl;
  known = λ j k. refl;
  reads = λ j k. inl refl;
  lent = lent;
  patches = patches;
  room = takes_room s (record s { asked = now }) i registers;
  same = record { page_size = refl; max_rows = refl; part = refl; faults = omega arith };
}

-- nothing happened
pub asks_none : (p : Paged) (i : ℕ) → AsksPage (Unit {0}) p p i
asks_none p i = record {
  pages = λ j told. refl;
  known = λ j k. k;
  reads = λ j k. inl k;
  lent = λ j l. l;
  patches = λ j. refl;
  room = record { others = λ j k. k; most = omega arith; free = inr (omega arith); again = λ k. omega arith };
  same = record { page_size = refl; max_rows = refl; part = refl; faults = omega arith };
}

-- the pages, with one more
pages_in-push : (pages : List Page) (i j : ℕ) (page : Page) → i ≡ length pages → pages_in (pages ++ page ∷ []) j ≡ with_page (pages_in pages) i page.bytes.items j
pages_in-push pages i j page last = elim (cases_eq j i) [
  | inl same ↦
      let more : List Page = pages ++ page ∷ [] in
      let here : slice_get more j ≡ Some page = slice_get-get_or more j page (omega (arith, length-append pages (page ∷ []))) ∙ ap Some (get_or-append_right pages (page ∷ []) (length pages) j page refl (omega arith) ∙ ap (λ k. get_or (page ∷ []) k page) (zero_at j (length pages) (same ∙ last))) in
      simp (eq-eqb j i same) (ap (option_map (λ (p : Page). p.bytes.items)) here)
  | inr away ↦ simp (ne_eqb j i away) (ap (option_map (λ (p : Page). p.bytes.items)) (elim (cases_lt j (length pages)) [
    | inl lt ↦ slice_get-get_or (pages ++ page ∷ []) j page (omega (arith, length-append pages (page ∷ []))) ∙ ap Some (get_or_append_left pages (page ∷ []) page j lt) ∙ sym (slice_get-get_or pages j page lt)
    | inr le ↦ slice_get_past (pages ++ page ∷ []) j (omega (arith, length-append pages (page ∷ []))) ∙ sym (slice_get_past pages j le)
  ]))
]
  where
    zero_at : (j n : ℕ) → j ≡ n → j - n ≡ 0
    zero_at j n e = omega arith

-- a page that is there has an index below the number of pages
pub there_below : (pages : List Page) (i : ℕ) → IsSome (pages_in pages i) → i < length pages
there_below pages i there = elim (cases_lt i (length pages)) [
  | inl lt ↦ lt
  | inr le ↦ (let none = subst (λ o. IsSome (option_map (λ (p : Page). p.bytes.items) o)) (slice_get_past pages i le) there in absurd (cc none))
]

pub none_past : (pages : List Page) (i : ℕ) → length pages ≤ i → pages_in pages i ≡ None
none_past pages i le = ap (option_map (λ (p : Page). p.bytes.items)) (slice_get_past pages i le)

with_page-here : (pages : ℕ → Option (List ℕ)) (i : ℕ) (bytes : List ℕ) → with_page pages i bytes i ≡ Some bytes
with_page-here pages i bytes = simp (eq-eqb i i refl) refl

with_page-other : (pages : ℕ → Option (List ℕ)) (i j : ℕ) (bytes : List ℕ) → j ≢ i → with_page pages i bytes j ≡ pages j
with_page-other pages i j bytes away = simp (ne_eqb j i away) refl

-- a page is made
makes_page : (s : Shown) (pages : List Page) (now : List Asked) (i : ℕ) → RegistersPage s.asked now i → ((j : ℕ) → pages_in pages j ≡ with_page (pages_in s.pages) i (replicate s.page_size 0) j) → IsSomeAnd (entry_of now i) (MakesEntry s.page_size) → MakesPage (Unit {0}) (paged s) (paged (record s { pages = pages; asked = now })) i
makes_page s pages now i registers laid made = record {
  here = laid i ∙ with_page-here (pages_in s.pages) i (replicate s.page_size 0);
  pages = λ j away told. laid j ∙ with_page-other (pages_in s.pages) i j (replicate s.page_size 0) away;
  known = λ j k. refl;
  only = λ j away k. refl;
  lends = record {
    known = refl;
    asked = some_asked (entry_of now i) registers.here;
    lent = made_lent s.page_size (entry_of now i) made;
    there = subst IsSome (sym (laid i ∙ with_page-here (pages_in s.pages) i (replicate s.page_size 0))) refl;
  };
  lent = each_entry StaysLent (λ o h. h) s.asked now i registers (λ h. made_lent s.page_size (entry_of now i) made);
  whole = made_whole s.page_size (entry_of now i) made;
  patches = λ j away. ap patch_of (registers.others j away);
  room = takes_room s (record s { pages = pages; asked = now }) i registers;
  same = record { page_size = refl; max_rows = refl; part = refl; faults = omega arith };
}

-- a page is made in place of another
pub remakes_page : (s : Shown) (now : List Asked) (i : ℕ) (page : Page) → RegistersPage s.asked now i → i < length s.pages → AreZeros s.page_size page → IsSomeAnd (entry_of now i) (MakesEntry s.page_size) → MakesPage (Unit {0}) (paged s) (paged (record s { pages = set s.pages i page; asked = now })) i
remakes_page s now i page registers lt zeros made =
    makes_page s (set s.pages i page) now i registers (λ j. pages_in-set s.pages i j page lt ∙ ap (λ (bytes : List ℕ). with_page (pages_in s.pages) i bytes j) zeros) made

-- a page is made after the last
pub appends_page : (s : Shown) (pages : List Page) (now : List Asked) (i : ℕ) (page : Page) → pages ≡ s.pages ++ page ∷ [] → RegistersPage s.asked now i → i ≡ length s.pages → AreZeros s.page_size page → IsSomeAnd (entry_of now i) (MakesEntry s.page_size) → MakesPage (Unit {0}) (paged s) (paged (record s { pages = pages; asked = now })) i
appends_page s pages now i page is registers last zeros made =
    makes_page s pages now i registers (λ j. ap (λ ps. pages_in ps j) is ∙ pages_in-push s.pages i j page last ∙ ap (λ (bytes : List ℕ). with_page (pages_in s.pages) i bytes j) zeros) made

-- a page that isn't there wasn't asked for, so there is room for it
pub not_asked : (size : ℕ) (pages rooms : List Page) (asked : List Asked) (space held i : ℕ) → AreReady size pages rooms asked space held → length pages ≤ i → IsTrue (is_asked (entry_of asked i)) ⊎ (0 < 32 - length asked) → (entry_of asked i ≡ None) × (length asked < 32) × (0 < length rooms) × (length pages < space)
not_asked size pages rooms asked space held i is past room =
    let none : entry_of asked i ≡ None = of_found (entry_of asked i) (λ some. omega (arith, is.ordered.there i some, past)) in
    let lt : 0 < 32 - length asked = elim room [ inl there ↦ absurd (let some = subst (λ o. IsTrue (is_asked o)) none there in cc some) | inr spare ↦ spare ] in
    (none, omega (arith, lt), omega (arith, lt, is.enough.zeros), omega (arith, lt, is.enough.space))
  where
    of_found : (o : Option Asked) → (IsSome o → ⊥) → o ≡ None
    of_found None away = refl
    of_found (Some entry) away = absurd (away refl)

-- a page was made after the last, and took a room
pub ready_taken : (size : ℕ) (pages pages' rooms rooms' : List Page) (was now : List Asked) (space space' held held' i : ℕ) (page : Page) → AreReady size pages rooms was space held → pages' ≡ pages ++ page ∷ [] → AreZeros size page → length {A = ℕ} (replicate size 0) ≡ size → All (AreZeros size) rooms' → length rooms' + 1 ≡ length rooms
    → RegistersPage was now i → IsSomeAnd (entry_of now i) (MakesEntry size) → i ≡ length pages → i < 2 ^ 32 → entry_of was i ≡ None → length was < 32 → space ≤ space' → held ≤ held' → AreReady size pages' rooms' now space' held'
ready_taken size pages pages' rooms rooms' was now space space' held held' i page is appended zeros long kept fewer registers made last small none few more more' =
    let count : length pages' ≡ length pages + 1 = ap length appended ∙ length-append pages (page ∷ []) in
    let one = registers.more none in
    let made_all = keeps_made was now i size registers made is.ordered.patches in
    record {
      ordered = record {
        is_size = is.ordered.is_size;
        sized = subst (λ ps. All (IsOfSize size) ps) (sym appended) (All-append (IsOfSize size) pages (page ∷ []) is.ordered.sized (All-from_recursion (IsOfSize size) (page ∷ []) (ap length zeros ∙ long, tt)));
        zeros = kept;
        indexed = omega (arith, count, last, small);
        there = λ j some. elim (cases_eq j i) [
          | inl same ↦ omega (arith, same, last, count)
          | inr away ↦ omega (arith, count, is.ordered.there j (subst IsSome (registers.others j away) some))
        ];
        few = omega (arith, one, few);
        room = omega (arith, is.ordered.room, more');
        patches = made_all.0;
      };
      enough = record { zeros = omega (arith, is.enough.zeros, one, fewer); space = omega (arith, is.enough.space, one, count, more) };
      idle = λ none'. absurd (none' i (made_lent size (entry_of now i) made));
    }

-- no page counts as asked for any more, where none was lent
pub ready_cleared : (size : ℕ) (pages rooms : List Page) (was now : List Asked) (space held held' : ℕ) → AreReady size pages rooms was space held → NoneIsLent was → now ≡ [] → held ≤ held' → AreReady size pages rooms now space held'
ready_cleared size pages rooms was now space held held' is none empty more = record {
  ordered = record {
    is_size = is.ordered.is_size;
    sized = is.ordered.sized;
    indexed = is.ordered.indexed;
    zeros = is.ordered.zeros;
    there = λ j some. (let no = subst (λ asked. IsSome (entry_of asked j)) empty some in absurd (cc no));
    few = omega (arith, ap length empty);
    room = omega (arith, is.ordered.room, more);
    patches = λ j patch e. (let no = ap (λ asked. patch_of (entry_of asked j)) (sym empty) ∙ e in absurd (cc no));
  };
  enough = record { zeros = omega (arith, (is.idle none).zeros, ap length empty); space = omega (arith, (is.idle none).space, ap length empty) };
  idle = λ _. is.idle none;
}

-- the patch of an entry with a joined patch
noted_joins : (was : Option Asked) (i : ℕ) (patch : Coverage) (o : Option Asked) → IsSomeAnd o (NotesEntry (unwrap_or was (to_read i)) patch) → IsSomeAnd (patch_of o) (JoinsPatch (patch_of was) patch)
noted_joins was i patch None noted = absurd noted
noted_joins was i patch (Some entry) noted = subst (λ p. IsSomeAnd entry.patch (JoinsPatch p patch)) (same_patch was i) noted.joins

same_asked : (a b : Option Asked) → IsSome a → IsSome b → is_asked b ≡ is_asked a
same_asked a b some some' = some_asked b some' ∙ sym (some_asked a some)

-- a patch is joined to that of a page
pub notes_patch : (s : Shown) (now : List Asked) (i : ℕ) (patch : Coverage) → RegistersPage s.asked now i → IsSome (entry_of s.asked i) → IsSomeAnd (entry_of now i) (NotesEntry (entry_or_new s.asked i) patch) → NotesPatch (Unit {0}) (paged s) (paged (record s { asked = now })) i patch
notes_patch s now i patch registers there noted = record {
  pages = λ j told. refl;
  known = λ j. refl;
  asked = each_entry (λ a b. is_asked b ≡ is_asked a) (λ o. refl) s.asked now i registers (same_asked (entry_of s.asked i) (entry_of now i) there registers.here);
  lent = each_entry (λ a b. is_lent_in b ≡ is_lent_in a) (λ o. refl) s.asked now i registers (noted_lent (entry_or_new s.asked i) patch (entry_of now i) noted ∙ same_lent (entry_of s.asked i) i);
  joins = noted_joins (entry_of s.asked i) i patch (entry_of now i) noted;
  patches = λ j away. ap patch_of (registers.others j away);
  spare = omega (arith, registers.again there);
  same = record { page_size = refl; max_rows = refl; part = refl; faults = omega arith };
}
