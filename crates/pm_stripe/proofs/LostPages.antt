-- The frame that kept a page was given to another page.
use Rattle.std.proofs.Common.{◌≡◌, ◌≢◌, ℕ, Bool, true, false, List, ⊎_elim, length, set, Option, Some, None, sym, refl, ap, subst, ◌∙◌}
use Rattle.std.specs.Prelude.{IsTrue, slice_get}
use Rattle.std.specs.FinMap as map
use Rattle.std.specs.Option.{option_map}
use Rattle.std.proofs.lemmas.Bool.{cases_eq}
use Rattle.std.proofs.lemmas.List.{length-set}
use Rattle.pm_types.specs.declared.flag.Flag.{Flag}
use Rattle.pm_types.specs.declared.flag.Flag.TheVariants as flag
use Rattle.pm_types.specs.declared.page_id.PageId.{PageId}
use Rattle.pm_locks.specs.Words.{IsSpare}
use Rattle.pm_locks.specs.declared.view.Entry.{Entry}
use Rattle.pm_locks.specs.declared.view.Out.{Out}
use Rattle.pm_locks.specs.declared.view.Numbers.{Numbers}
use Rattle.pm_locks.specs.Views.{entry_at, out_at, is_among}
use Rattle.pm_locks.specs.Sight.{Sight, LockTable, IsSeatOf}
use Rattle.pm_stripe.specs.declared.held.Held.{Held}
use Rattle.pm_stripe.specs.declared.held.Free.{Free}
use Rattle.pm_stripe.specs.declared.places.Places.{Places}
use Rattle.pm_stripe.specs.PlacedPages.{forgotten}
use Rattle.pm_stripe.specs.Takes.{LosesFrame}
use Rattle.pm_stripe.specs.Kept.{Kept, held_at, place_of, last_put, page_at, out_of, stays, stays_in, bytes_by, known_by, is_known, IsKeptPage, IsHeldPage, IsFreeFrame, IsHeldIn, IsFreeIn, AreApart, Holds, AreClean, IsAway, TakesPage}
use Rattle.pm_stripe.specs.Sights.{KeepsSight}
use Rattle.pm_stripe.specs.HandLaws.{set_else}
use Rattle.pm_stripe.proofs.PlacedPages.{get_removed, get_rest, same_page}
use Rattle.pm_stripe.proofs.Hands.{none_named}

pub spare_goes : (f : Flag) → IsSpare f → IsTrue (stays f) → ⊥
spare_goes flag.Empty spare is = cc is
spare_goes flag.Clean spare is = cc is
spare_goes flag.Dirty spare is = ⊎_elim (λ e. cc e) (λ e. cc e) spare
spare_goes flag.Due spare is = ⊎_elim (λ e. cc e) (λ e. cc e) spare
spare_goes flag.Done spare is = ⊎_elim (λ e. cc e) (λ e. cc e) spare

pub spare_clean : (f : Flag) → IsSpare f → f ≢ flag.Empty → f ≡ flag.Clean
spare_clean f spare some = ⊎_elim (λ e. absurd (some e)) (λ e. e) spare

module _ (locks : LockTable) (k : Kept) (id : PageId) (f tag : ℕ) (seat' : Sight) (places' : Places) (holds : Holds locks k) (away : IsAway k id) (at : place_of k id ≡ Some (f, tag)) (seat_of : IsSeatOf locks seat')
    (lost : LosesFrame k.seat.view seat'.view k.number f) (table : places'.table.entries ≡ forgotten k.places.table.entries (page_at k f)) (pages : places'.pages.items ≡ set k.places.pages.items f None) (sight : KeepsSight locks k.seat.view seat'.view) where
  abbrev k' : Kept
  k' = record k { seat = seat'; places = places' }

  here : page_at k f ≡ Some (Some id)
  here = k.places.agree.kept id f tag at

  removed : places'.table.entries ≡ map.remove k.places.table.entries id.0
  removed = table ∙ ap (forgotten k.places.table.entries) here

  gone : place_of k' id ≡ None
  gone = ap (λ m. map.get m id.0) removed ∙ get_removed k.places.table.entries id.0

  rest : (j : PageId) → j.0 ≢ id.0 → place_of k' j ≡ place_of k j
  rest j ne = ap (λ m. map.get m j.0) removed ∙ get_rest k.places.table.entries id.0 j.0 ne

  still : (j : PageId) (p : ℕ × ℕ) → place_of k' j ≡ Some p → (j.0 ≢ id.0) × (place_of k j ≡ Some p)
  still j p is =
      let ne : j.0 ≢ id.0 = λ e. (let bad : None ≡ Some p = sym gone ∙ ap (λ n. place_of k' (record { 0 = n })) (sym e) ∙ is in cc bad) in
      (ne, sym (rest j ne) ∙ is)

  puts : (g : ℕ) → last_put k' g ≡ last_put k g
  puts g = ap (λ es. entry_at es k.number g) lost.only.entries

  outs : (g : ℕ) → out_of k' g ≡ out_of k g
  outs g = ap (λ os. out_at os g) lost.only.outs

  page_else : (g : ℕ) → g ≢ f → page_at k' g ≡ page_at k g
  page_else g ne = ap (λ ps. slice_get ps g) pages ∙ set_else k.places.pages.items f g None ne

  held_name : (i : ℕ) (h : Held) → slice_get k.held i ≡ Some h → h.page.0 ≢ id.0
  held_name i h is = none_named k.held id.0 i h away.away is

  -- the frame of a page in hand is another one
  held_frame : (i : ℕ) (h : Held) (is : slice_get k.held i ≡ Some h) (read : Bool) → h.is_read ≡ read → h.frame ≢ f
  held_frame i h is true r e =
      let bare = ((holds.held i h is).from_file r).bare in
      let bad : Some (Some id) ≡ Some None = sym here ∙ ap (page_at k) (sym e) ∙ bare in cc bad
  held_frame i h is false r e =
      let kept = ((holds.held i h is).from_frame r).kept in
      let own = k.places.agree.kept h.page h.frame h.tag kept in
      let same : Some (Some h.page) ≡ Some (Some id) = sym own ∙ ap (page_at k) e ∙ here in
      let p : h.page ≡ id = cc same in held_name i h is (ap (λ (z : PageId). z.0) p)

  free_frame : (i : ℕ) (s : Free) → slice_get k.free i ≡ Some s → s.frame ≢ f
  free_frame i s is e = let bad : Some (Some id) ≡ Some None = sym here ∙ ap (page_at k) (sym e) ∙ (holds.free i s is).bare in cc bad

  held_still : (i : ℕ) (h : Held) → slice_get k.held i ≡ Some h → IsHeldIn locks k' h
  held_still i h is =
      subst (λ (p : Option (ℕ × ℕ) × Option (Option PageId) × Option Entry × Option Out). IsHeldPage locks k.shape k.number p.0 p.1 p.2 p.3 h)
      (λ j. (sym (rest h.page (held_name i h is)) j, sym (page_else h.frame (held_frame i h is h.is_read refl)) j, sym (puts h.frame) j, sym (outs h.frame) j)) (holds.held i h is)

  free_still : (i : ℕ) (s : Free) → slice_get k.free i ≡ Some s → IsFreeIn locks k' s
  free_still i s is =
      subst (λ (p : Option (Option PageId) × Option Out). IsFreeFrame locks k.shape.page_size k.number p.0 p.1 s)
      (λ j. (sym (page_else s.frame (free_frame i s is)) j, sym (outs s.frame) j)) (holds.free i s is)

  -- what stays wasn't lost
  stay_name : (j : PageId) (g t : ℕ) (e : Entry) → place_of k j ≡ Some (g, t) → last_put k g ≡ Some e → IsTrue (stays e.flag) → j.0 ≢ id.0
  stay_name j g t e p is stay same =
      let q : Some (g, t) ≡ Some (f, tag) = sym p ∙ ap (λ n. place_of k (record { 0 = n })) same ∙ at in
      let r : ◌≡◌ {A = ℕ × ℕ} (g, t) (f, tag) = cc q in
      spare_goes e.flag (lost.spare e (ap (last_put k) (sym (ap (λ (z : ℕ × ℕ). z.0) r)) ∙ is)) stay

  lost_holds : Holds locks k'
  lost_holds = record {
    shaped = holds.shaped;
    frames = holds.frames;
    many = ap length pages ∙ length-set k.places.pages.items f None ∙ holds.many;
    worker = record { seat_of = seat_of; below = holds.worker.below; few = holds.worker.few; has = ap (λ (l : Numbers). is_among l k.number) lost.only.numbers ∙ holds.worker.has };
    kept = λ j g t is. subst (λ (p : Option Entry). IsKeptPage locks k.shape k.number p j g t) (sym (puts g)) (holds.kept j g t (still j (g, t) is).1);
    stay = λ g e is stay. let was = sym (puts g) ∙ is in let x = holds.stay g e was stay in (x.0, rest x.0 (stay_name x.0 g e.tag e x.1 was stay) ∙ x.1);
    held = held_still;
    free = free_still;
    apart = subst (AreApart k.held k.free) (sym lost.only.outs) holds.apart;
    held_room = holds.held_room;
    free_room = holds.free_room;
  }

  -- the page is as its file has it, where what is Clean is so
  clean_bytes : (file : PageId → Option (List ℕ)) → AreClean file k → file id ≡ bytes_by None (place_of k id) k.seat.view.entries k.number (file id)
  clean_bytes file is =
      let x = holds.kept id f tag at in
      is.kept id f tag x.entry at x.at (spare_clean x.entry.flag (lost.spare x.entry x.at) x.some)
      ∙ sym (ap (option_map (λ (e : Entry). e.bytes)) x.at) ∙ ap (λ t. bytes_by None t k.seat.view.entries k.number (file id)) (sym at)

  else_bytes : (file : PageId → Option (List ℕ)) (j : PageId) → j.0 ≢ id.0 → (o : Option Held) → bytes_by o (place_of k' j) seat'.view.entries k.number (file j) ≡ bytes_by o (place_of k j) k.seat.view.entries k.number (file j)
  else_bytes file j ne o = λ i. bytes_by o (rest j ne i) (lost.only.entries i) k.number (file j)

  told_bytes : (file : PageId → Option (List ℕ)) (j : PageId) → AreClean file k → (o : Option Held) → bytes_by o (place_of k' j) seat'.view.entries k.number (file j) ≡ bytes_by o (place_of k j) k.seat.view.entries k.number (file j)
  told_bytes file j is (Some h) = refl
  told_bytes file j is None = ⊎_elim
      (λ same. subst (λ (q : PageId). bytes_by None (place_of k' q) seat'.view.entries k.number (file q) ≡ bytes_by None (place_of k q) k.seat.view.entries k.number (file q)) (sym (same_page j id same))
      (ap (λ t. bytes_by None t seat'.view.entries k.number (file id)) gone ∙ clean_bytes file is))
      (λ ne. else_bytes file j ne None)
      (cases_eq j.0 id.0)

  unknown : is_known k id ≡ stays (holds.kept id f tag at).entry.flag
  unknown = (λ i. known_by (away.away i) (at i) k.seat.view.entries k.number) ∙ ap stays_in (holds.kept id f tag at).at

  known_name : (j : PageId) → IsTrue (is_known k j) → j.0 ≢ id.0
  known_name j is same =
      let x = holds.kept id f tag at in
      spare_goes x.entry.flag (lost.spare x.entry x.at) (sym unknown ∙ ap (λ n. is_known k (record { 0 = n })) (sym same) ∙ is)

  pub lost_page : TakesPage locks k k' id false
  lost_page = record {
    holds = lost_holds;
    keeps = record {
      known = λ j is. (λ i. known_by (held_at k.held j.0) (rest j (known_name j is) i) (lost.only.entries i) k.number) ∙ is;
      at_hand = λ file j is. else_bytes file j (known_name j is) (held_at k.held j.0);
      clean = λ file is. record {
        kept = λ j g t e p q. is.kept j g t e (still j (g, t) p).1 (sym (puts g) ∙ q);
        read = is.read;
      };
      told = λ file j is. told_bytes file j is (held_at k.held j.0);
    };
    shape = refl;
    number = refl;
    free = refl;
    staying = λ j is. record { frame = is.frame; tag = is.tag; entry = is.entry; kept = rest j (stay_name j is.frame is.tag is.entry is.kept is.at is.stay) ∙ is.kept; at = puts is.frame ∙ is.at; stay = is.stay };
    back = λ j is. record { frame = is.frame; tag = is.tag; entry = is.entry; kept = (still j (is.frame, is.tag) is.kept).1; at = sym (puts is.frame) ∙ is.at; stay = is.stay };
    only = λ j ne. λ i. known_by (held_at k.held j.0) (rest j ne i) (lost.only.entries i) k.number;
    bare = refl;
    added = λ e. absurd (let q : false ≡ true = e in cc q);
    lost = λ _. (refl, gone);
    sight = sight;
  }
