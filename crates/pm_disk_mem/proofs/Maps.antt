-- What is put into a map whose values are seen as others.
use Rattle.std.proofs.Common.{◌≡◌, ℕ, List, [], ◌∷◌, Option, Some, None, Vec, Ordering, Less, Equal, Greater, refl, sym, ◌∙◌, ap}
use Rattle.std.specs.declared.alloc.Global.{Global}
use Rattle.std.specs.Prelude.{option_map, unwrap_or}
use Rattle.std.specs.Ordering.{match_ordering, nat_cmp}
use Rattle.std.specs.Map.{lookup}
use Rattle.std.specs.BTreeMap.{insert_entry, is_at}
use Rattle.std.proofs.lemmas.Map.Made.{lookup-map_values}
use Rattle.pm_disk_mem.specs.Tracks.{Track, new_track}
use Rattle.pm_disk_mem.specs.Disks.{seen, content_at}

pub seen-insert_entry : {K X Y : Type 0} (f : X → Y) (cmp : K → K → Ordering) (es : List (K × X)) (k : K) (x : X) → seen f (insert_entry cmp es k x) ≡ insert_entry cmp (seen f es) k (f x)
seen-insert_entry f cmp [] k x = refl
seen-insert_entry {K} {X} {Y} f cmp (e ∷ es) k x = cases (seen-insert_entry f cmp es k x) (cmp k e.0)
  where
    cases : seen f (insert_entry cmp es k x) ≡ insert_entry cmp (seen f es) k (f x) → (o : Ordering)
        → seen f (match_ordering o ((k, x) ∷ e ∷ es) ((e.0, x) ∷ es) (e ∷ insert_entry cmp es k x)) ≡ match_ordering o ((k, f x) ∷ (e.0, f e.1) ∷ seen f es) ((e.0, f x) ∷ seen f es) ((e.0, f e.1) ∷ insert_entry cmp (seen f es) k (f x))
    cases more Less = refl
    cases more Equal = refl
    cases more Greater = ap (λ (l : List (K × Y)). (e.0, f e.1) ∷ l) more

-- a file among entries that are seen with their bytes
pub found_content : (es : List (ℕ × Vec ℕ Global)) (contents : List (ℕ × List ℕ)) (n : ℕ) (got : Option (Vec ℕ Global)) → got ≡ lookup (is_at (nat_cmp n)) es → seen (λ v. v.items) es ≡ contents → option_map (λ v. v.items) got ≡ content_at contents n
found_content es contents n got is sees =
    ap (λ (o : Option (Vec ℕ Global)). option_map (λ v. v.items) o) is
    ∙ sym (lookup-map_values (λ (v : Vec ℕ Global). v.items) (is_at (nat_cmp n)) es)
    ∙ ap (λ (l : List (ℕ × List ℕ)). content_at l n) sees

-- the contents are the files at the start
pub tracks_made : (es : List (ℕ × Track)) (vs : List (ℕ × Vec ℕ Global)) (contents : List (ℕ × List ℕ)) → es ≡ seen (λ v. new_track (Some v.items)) vs → seen (λ v. v.items) vs ≡ contents → (n : ℕ) → unwrap_or (lookup (is_at (nat_cmp n)) es) (new_track None) ≡ new_track (content_at contents n)
tracks_made es vs contents made sees n =
    ap (λ (l : List (ℕ × Track)). unwrap_or (lookup (is_at (nat_cmp n)) l) (new_track None)) made
    ∙ ap (λ (o : Option Track). unwrap_or o (new_track None)) (lookup-map_values (λ (v : Vec ℕ Global). new_track (Some v.items)) (is_at (nat_cmp n)) vs)
    ∙ cases (lookup (is_at (nat_cmp n)) vs)
    ∙ ap (λ (o : Option (List ℕ)). new_track o) (sym (lookup-map_values (λ (v : Vec ℕ Global). v.items) (is_at (nat_cmp n)) vs))
    ∙ ap (λ (l : List (ℕ × List ℕ)). new_track (lookup (is_at (nat_cmp n)) l)) sees
  where
    cases : (o : Option (Vec ℕ Global)) → unwrap_or (option_map (λ (v : Vec ℕ Global). new_track (Some v.items)) o) (new_track None) ≡ new_track (option_map (λ (v : Vec ℕ Global). v.items) o)
    cases None = refl
    cases (Some v) = refl

-- entries that are seen as they are
pub seen-same : {K X : Type 0} (es : List (K × X)) → seen (λ x. x) es ≡ es
seen-same [] = refl
seen-same {K} {X} (e ∷ es) = ap (λ (l : List (K × X)). e ∷ l) (seen-same es)

-- the same entries are the same files
pub same_tracks : (old new : List (ℕ × Track)) → new ≡ old → (n : ℕ) → unwrap_or (lookup (is_at (nat_cmp n)) new) (new_track None) ≡ unwrap_or (lookup (is_at (nat_cmp n)) old) (new_track None)
same_tracks old new same n = ap (λ (l : List (ℕ × Track)). unwrap_or (lookup (is_at (nat_cmp n)) l) (new_track None)) same
