-- One file more is with those of its kind.
use Rattle.std.proofs.Common.{◌≡◌, List, [], ◌∷◌, ◌++◌, Bool, true, false, cond, sym, ◌∙◌, ap}
use Rattle.std.specs.List.{filter}
use Rattle.std.proofs.lemmas.List.{append-nil}
use Rattle.std.proofs.lemmas.List.Elements.{filter-append}
use Rattle.pm_disk.specs.declared.names.StoreFile.{StoreFile}
use Rattle.pm_disk.specs.declared.names.StoreFile.TheVariants.{Segment, Pages}
use Rattle.pm_disk_fs.specs.OpenFiles.{is_segment, is_pages, is_other, AreSorted}
use Rattle.pm_disk_fs.specs.declared.opened.Opened.{Opened}

-- the files of a kind
abbrev of_kind : {F : Type 0} → (StoreFile → Bool) → List (Opened F) → List (Opened F)
of_kind kind files = filter (λ f. kind f.name) files

module _ {F : Type 0} (files : List (Opened F)) (file : Opened F) where
  -- a file that is of the kind
  one_more : (kind : StoreFile → Bool) → kind file.name ≡ true → of_kind kind (files ++ file ∷ []) ≡ of_kind kind files ++ file ∷ []
  one_more kind is = filter-append (λ f. kind f.name) files (file ∷ []) ∙ ap (λ (b : Bool). of_kind kind files ++ cond b (file ∷ []) []) is

  -- a file that isn't
  none_more : (kind : StoreFile → Bool) → kind file.name ≡ false → of_kind kind (files ++ file ∷ []) ≡ of_kind kind files
  none_more kind is = filter-append (λ f. kind f.name) files (file ∷ []) ∙ ap (λ (b : Bool). of_kind kind files ++ cond b (file ∷ []) []) is ∙ append-nil (of_kind kind files)

-- Files that are sorted, and one more.
module _ {F : Type 0} (files : List (Opened F)) (file : Opened F) (segments pages others new : List (Opened F)) (sorted : AreSorted files segments pages others) where
  pub segment_more : (seg : _) → file.name ≡ Segment seg → new ≡ segments ++ file ∷ [] → AreSorted (files ++ file ∷ []) new pages others
  segment_more seg is put = record {
    segments_are = put ∙ ap (λ l. l ++ file ∷ []) sorted.segments_are ∙ sym (one_more files file is_segment (ap is_segment is));
    pages_are = sorted.pages_are ∙ sym (none_more files file is_pages (ap is_pages is));
    others_are = sorted.others_are ∙ sym (none_more files file is_other (ap is_other is));
  }

  pub pages_more : (part : _) → file.name ≡ Pages part → new ≡ pages ++ file ∷ [] → AreSorted (files ++ file ∷ []) segments new others
  pages_more part is put = record {
    segments_are = sorted.segments_are ∙ sym (none_more files file is_segment (ap is_segment is));
    pages_are = put ∙ ap (λ l. l ++ file ∷ []) sorted.pages_are ∙ sym (one_more files file is_pages (ap is_pages is));
    others_are = sorted.others_are ∙ sym (none_more files file is_other (ap is_other is));
  }

  -- a file of marks, or the configuration
  pub other_more : is_segment file.name ≡ false → is_pages file.name ≡ false → is_other file.name ≡ true → new ≡ others ++ file ∷ [] → AreSorted (files ++ file ∷ []) segments pages new
  other_more no_segment no_pages is put = record {
    segments_are = sorted.segments_are ∙ sym (none_more files file is_segment no_segment);
    pages_are = sorted.pages_are ∙ sym (none_more files file is_pages no_pages);
    others_are = put ∙ ap (λ l. l ++ file ∷ []) sorted.others_are ∙ sym (one_more files file is_other is);
  }
