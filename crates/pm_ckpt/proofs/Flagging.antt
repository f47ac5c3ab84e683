-- Frames that are given a flag one after the other.
use Rattle.std.proofs.Common.{◌≡◌, ◌≢◌, ◌⊎◌, inr, ℕ, ◌<◌, List, [], ◌∷◌, ◌++◌, length, take, get_or, Some, refl, sym, ◌∙◌, ap, subst, arith}
use Rattle.std.specs.Prelude.{All}
use Rattle.std.proofs.lemmas.List.{length-take, get_or-take}
use Rattle.std.proofs.lemmas.List.Elements.{All-nil, All-push, All-pop, All-map, All-from_get_or}
use Rattle.pm_types.specs.declared.page_id.PageId.{PageId}
use Rattle.pm_disk.specs.Files.{bytes_of}
use Rattle.pm_core.specs.BasePages.{Partitions}
use Rattle.pm_types.specs.declared.flag.Flag.{Flag}
use Rattle.pm_types.specs.declared.flag.Flag.TheVariants as flag
use Rattle.pm_locks.specs.Sight.{LockTable}
use Rattle.pm_locks.specs.Views.{known_at, entry_at, entry_or, left_at}
use Rattle.pm_locks.specs.Words.{LockWord, IsWanted, put_as}
use Rattle.pm_locks.specs.declared.view.View.{View}
use Rattle.pm_ckpt.specs.declared.frame_page.FramePage.{FramePage}
use Rattle.pm_ckpt.specs.Frames.{IsFlagged, AreApart, SetsFlag, SetsFlags, CleansFrame, CleansFrames, clean_entry, owner_of, frame_bytes, names_of, AreInFrames, HaveLength}
use Rattle.pm_ckpt.specs.Writes.{IsHeld}

-- ---- lists

-- what holds of all and of one more
pub last_of : (P : FramePage → Type 0) (pages : List FramePage) (page : FramePage) → All P (pages ++ page ∷ []) → All P pages × P page
last_of P pages page all = All-pop P (pages ++ page ∷ []) pages (Some page) refl all

-- no page before one is in its frame
pub apart_before : (pages : List FramePage) (i : ℕ) (d : FramePage) → i < length pages → AreApart pages → All (λ page. page.frame ≢ (get_or pages i d).frame) (take i pages)
apart_before pages i d lt apart =
    All-from_get_or (λ page. page.frame ≢ (get_or pages i d).frame) (take i pages) d
    (λ k low.
    let within : k < i = omega (arith, low, length-take i pages) in
    subst (λ (page : FramePage). page.frame ≢ (get_or pages i d).frame) (sym (get_or-take i pages k d within)) (apart k i d within lt))

-- ---- a flag

-- what has the flag has it still where its word is as it was
pub flagged_still : (locks : LockTable) (flagged : Flag) (old new : View) (page : FramePage) → known_at new page.frame ≡ known_at old page.frame → IsFlagged locks flagged old page → IsFlagged locks flagged new page
flagged_still locks flagged old new page same is = record {
  frame = is.frame;
  wanted = subst (λ (word : LockWord). IsWanted word page.tag flagged) (sym same) is.wanted;
  home = ap (λ (word : LockWord). word.holder) same ∙ is.home;
}

-- and what was given another flag has that one
pub flagged_next : (locks : LockTable) (was next : Flag) (old new : View) (page : FramePage) → known_at new page.frame ≡ put_as next (known_at old page.frame) → IsFlagged locks was old page → IsFlagged locks next new page
flagged_next locks was next old new page set is = record {
  frame = is.frame;
  wanted = subst (λ (word : LockWord). IsWanted word page.tag next) (sym set) (record { same = is.wanted.same; flag = refl });
  home = ap (λ (word : LockWord). word.holder) set;
}

pub sets_none : (flagged : Flag) (view : View) → SetsFlags flagged [] view view
sets_none flagged view = record {
  each = All-nil (λ page. known_at view page.frame ≡ put_as flagged (known_at view page.frame));
  others = λ f none. refl;
  entries = refl;
}

-- one frame more
pub sets_more : (flagged : Flag) (pages : List FramePage) (page : FramePage) (old mid new : View) → All (λ other. other.frame ≢ page.frame) pages → SetsFlags flagged pages old mid → SetsFlag flagged page.frame mid new
    → SetsFlags flagged (pages ++ page ∷ []) old new
sets_more flagged pages page old mid new apart before one = record {
  each = All-push (λ other. known_at new other.frame ≡ put_as flagged (known_at old other.frame)) pages page
      (λ k d lt. one.others (get_or pages k d).frame (apart k d lt) ∙ before.each k d lt)
      (one.here ∙ ap (put_as flagged) (before.others page.frame apart));
  others = λ f none.
      let parts = last_of (λ other. other.frame ≢ f) pages page none in
      one.others f (λ same. parts.1 (sym same)) ∙ before.others f parts.0;
  entries = one.entries ∙ before.entries;
}

-- ---- Clean

pub cleans_none : (view : View) → CleansFrames [] view view
cleans_none view = record {
  each = All-nil (λ page. known_at view page.frame ≡ put_as flag.Clean (known_at view page.frame));
  others = λ f none. refl;
  entry = All-nil (λ page. entry_at view.entries (owner_of view page.frame) page.frame ≡ Some (clean_entry view page.frame));
  entries = λ n g none. refl;
}

-- a frame whose word is as it was, and whose owner's entry is, would be put as before
pub clean_entry_same : (old new : View) (f : ℕ) → known_at new f ≡ known_at old f → entry_at new.entries (owner_of old f) f ≡ entry_at old.entries (owner_of old f) f → clean_entry new f ≡ clean_entry old f
clean_entry_same old new f word entry =
    let owner : owner_of new f ≡ owner_of old f = ap (λ (w : LockWord). w.owner) word in
    let bytes : frame_bytes new f ≡ frame_bytes old f =
    ap (λ n. (left_at new n f).bytes) owner ∙ ap (λ o. (entry_or o).bytes) entry in
    λ i. record { number = owner i; frame = f; tag = (word i).tag; bytes = bytes i; flag = flag.Clean }

-- one frame more
pub cleans_more : (pages : List FramePage) (page : FramePage) (old mid new : View) → All (λ other. other.frame ≢ page.frame) pages → CleansFrames pages old mid → CleansFrame page.frame mid new
    → CleansFrames (pages ++ page ∷ []) old new
cleans_more pages page old mid new apart before one =
    let word : known_at mid page.frame ≡ known_at old page.frame = before.others page.frame apart in
    let owner : owner_of mid page.frame ≡ owner_of old page.frame = ap (λ (w : LockWord). w.owner) word in
    let was : entry_at mid.entries (owner_of old page.frame) page.frame ≡ entry_at old.entries (owner_of old page.frame) page.frame =
    before.entries (owner_of old page.frame) page.frame (λ k d lt. inr (λ same. apart k d lt (sym same))) in
    record {
      each = All-push (λ other. known_at new other.frame ≡ put_as flag.Clean (known_at old other.frame)) pages page
          (λ k d lt. one.others (get_or pages k d).frame (apart k d lt) ∙ before.each k d lt)
          (one.here ∙ ap (put_as flag.Clean) word);
      others = λ f none.
          let parts = last_of (λ other. other.frame ≢ f) pages page none in
          one.others f (λ same. parts.1 (sym same)) ∙ before.others f parts.0;
      entry = All-push (λ other. entry_at new.entries (owner_of old other.frame) other.frame ≡ Some (clean_entry old other.frame)) pages page
          (λ k d lt.
          let other = get_or pages k d in
          one.entries (owner_of old other.frame) other.frame (inr (apart k d lt)) ∙ before.entry k d lt)
          (ap (λ n. entry_at new.entries n page.frame) (sym owner) ∙ one.entry ∙ ap Some (clean_entry_same old mid page.frame word was));
      entries = λ n g none.
          let parts = last_of (λ other. (n ≢ owner_of old other.frame) ⊎ (g ≢ other.frame)) pages page none in
          one.entries n g (subst (λ m. (n ≢ m) ⊎ (g ≢ page.frame)) (sym owner) parts.1) ∙ before.entries n g parts.0;
    }

-- ---- bytes

-- the bytes of a frame whose word and entries are as they were
pub bytes_same : (old new : View) (f : ℕ) → known_at new f ≡ known_at old f → new.entries ≡ old.entries → frame_bytes new f ≡ frame_bytes old f
bytes_same old new f word entries =
    ap (λ (w : LockWord). (entry_or (entry_at new.entries w.owner f)).bytes) word ∙ ap (λ es. (entry_or (entry_at es (owner_of old f) f)).bytes) entries

-- and of one that was given a flag
pub bytes_flagged : (flagged : Flag) (old new : View) (f : ℕ) → known_at new f ≡ put_as flagged (known_at old f) → new.entries ≡ old.entries → frame_bytes new f ≡ frame_bytes old f
bytes_flagged flagged old new f word entries =
    ap (λ (w : LockWord). (entry_or (entry_at new.entries w.owner f)).bytes) word ∙ ap (λ es. (entry_or (entry_at es (owner_of old f) f)).bytes) entries

-- the pages stand in their frames still
pub in_frames_flagged : (flagged : Flag) (held : Partitions) (pages : List FramePage) (old new : View) → SetsFlags flagged pages old new → AreInFrames held old pages → AreInFrames held new pages
in_frames_flagged flagged held pages old new sets are k d lt =
    are k d lt ∙ ap Some (sym (bytes_flagged flagged old new (get_or pages k d).frame (sets.each k d lt) sets.entries))

pub length_flagged : (flagged : Flag) (size : ℕ) (pages : List FramePage) (old new : View) → SetsFlags flagged pages old new → HaveLength size old pages → HaveLength size new pages
length_flagged flagged size pages old new sets have k d lt =
    ap length (bytes_flagged flagged old new (get_or pages k d).frame (sets.each k d lt) sets.entries) ∙ have k d lt

pub all_flagged : (locks : LockTable) (was next : Flag) (pages : List FramePage) (old new : View) → SetsFlags next pages old new → All (IsFlagged locks was old) pages → All (IsFlagged locks next new) pages
all_flagged locks was next pages old new sets all k d lt = flagged_next locks was next old new (get_or pages k d) (sets.each k d lt) (all k d lt)

-- what is made Clean after it was given another flag
pub cleans_after : (flagged : Flag) (pages : List FramePage) (old mid new : View) → SetsFlags flagged pages old mid → CleansFrames pages mid new → CleansFrames pages old new
cleans_after flagged pages old mid new sets cleans =
    let owner : (k : ℕ) (d : FramePage) → k < length pages → owner_of mid (get_or pages k d).frame ≡ owner_of old (get_or pages k d).frame =
    λ k d lt. ap (λ (w : LockWord). w.owner) (sets.each k d lt) in
    record {
      each = λ k d lt. cleans.each k d lt ∙ ap (put_as flag.Clean) (sets.each k d lt);
      others = λ f none. cleans.others f none ∙ sets.others f none;
      entry = λ k d lt.
          let f = (get_or pages k d).frame in
          ap (λ n. entry_at new.entries n f) (sym (owner k d lt)) ∙ cleans.entry k d lt
          ∙ ap Some (clean_entry_flagged flagged old mid f (sets.each k d lt) sets.entries);
      entries = λ n g none.
          cleans.entries n g (λ k d lt. subst (λ m. (n ≢ m) ⊎ (g ≢ (get_or pages k d).frame)) (sym (owner k d lt)) (none k d lt))
          ∙ ap (λ es. entry_at es n g) sets.entries;
    }
  where
    clean_entry_flagged : (flagged : Flag) (old new : View) (f : ℕ) → known_at new f ≡ put_as flagged (known_at old f) → new.entries ≡ old.entries → clean_entry new f ≡ clean_entry old f
    clean_entry_flagged flagged old new f word entries =
        let bytes = bytes_flagged flagged old new f word entries in
        λ i. record { number = (word i).owner; frame = f; tag = (word i).tag; bytes = bytes i; flag = flag.Clean }

-- the pages by their names
pub frames_held : (size : ℕ) (held : Partitions) (view : View) (pages : List FramePage) → HaveLength size view pages → AreInFrames held view pages → All (IsHeld size held) (names_of pages)
frames_held size held view pages have are =
    All-map (IsHeld size held) (λ (page : FramePage). page.page) pages
    (λ k d lt.
    let bytes = ap bytes_of (are k d lt) in
    record { there = are k d lt ∙ ap Some (sym bytes); sized = ap length bytes ∙ have k d lt })

pub frames_named : (size : ℕ) (held : Partitions) (view : View) (pages : List FramePage) (order : List PageId) → order ≡ names_of pages → HaveLength size view pages → AreInFrames held view pages → All (IsHeld size held) order
frames_named size held view pages order is have are = subst (λ (ps : List PageId). All (IsHeld size held) ps) (sym is) (frames_held size held view pages have are)
