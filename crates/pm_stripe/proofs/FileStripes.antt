-- A stripe that is told that the files have pages keeps its pages.
use Rattle.std.proofs.Common.{◌≡◌, Bool, None, sym, ap, subst, ◌∙◌}
use Rattle.std.specs.Prelude.{if◌then◌else◌}
use Rattle.std.specs.Vec.{vec_capacity}
use Rattle.pm_types.specs.declared.shape.Shape.{Shape}
use Rattle.pm_stripe.specs.Kept.{AreClean}
use Rattle.pm_stripe.specs.Reads.{stored}
use Rattle.pm_stripe.specs.Rests.{StripesRestOnFiles}
use Rattle.pm_stripe.specs.ShownLaws.{clean_file}
use Rattle.pm_stripe.specs.Stripes.{kept, file_in, IsAtRest}

pub rests_on_files : StripesRestOnFiles
rests_on_files s t seat same there =
    let all : kept t seat ≡ kept s seat =
    λ i. record {
      number = same.number i;
      shape = same.shape i;
      places = same.places i;
      seat = seat;
      held = (same.held i).items;
      held_room = vec_capacity (same.held i);
      free = (same.free i).items;
      free_room = vec_capacity (same.free i);
    } in record {
      pages = all;
      rest = λ locks is. subst (IsAtRest locks) (sym all) is;
      files = λ world id. ap (λ (b : Bool). if b then stored world t.shape.page_size id else None) there;
      clean = λ world is.
          clean_file (stored world s.shape.page_size) (file_in t world) (kept t seat)
          (λ id. ap (λ (b : Bool). if b then stored world t.shape.page_size id else None) there ∙ ap (λ (z : Shape). stored world z.page_size id) same.shape)
          (subst (AreClean (stored world s.shape.page_size)) (sym all) is);
    }
