use Rattle.std.proofs.Common.{◌≡◌, List, set, Some, refl, sym, ap, subst, ◌∙◌, arith}
use Rattle.pm_stripe.specs.declared.held.Held.{Held}
use Rattle.pm_stripe.specs.HandLaws.{place_some}
use Rattle.pm_stripe.specs.Kept.{place_at}
use Rattle.pm_stripe.proofs.InPlace.{in_place}
use Rattle.std.specs.Prelude.{IfSome}
use Rattle.pm_types.specs.Spans.{Coverage}
use Rattle.pm_pages.specs.Paged.{JoinsPatch}
use Rattle.pm_stripe.specs.ChangedPages.{is_changed}
use Rattle.pm_stripe.specs.Shown.{patch_of}
use Rattle.pm_stripe.proofs.stripe.Stripe.note.Goals as goal

pub index-requires : goal.index-requires
index-requires c =
    let hs = c.args.self.now.held.items in
    let at : c.place-at.result ≡ place_at hs c.args.page.0 = c.place-at.ensures ∙ ap (λ (xs : List Held). place_at xs c.args.page.0) c.deref.ensures.value in
    omega (arith, at, place_some hs c.args.page.0 c.requires.there)

pub joined-joined-requires : goal.joined-joined-requires
joined-joined-requires c =
    let hs = c.args.self.now.held.items in
    let at : c.place-at.result ≡ place_at hs c.args.page.0 = c.place-at.ensures ∙ ap (λ (xs : List Held). place_at xs c.args.page.0) c.deref.ensures.value in
    let x = in_place hs c.args.page.0 c.place-at.result c.index.result.now c.requires.there at c.index.ensures in
    subst (λ o. IfSome (patch_of o) (λ (old : Coverage). old.page_size ≡ c.args.patch.now.page_size)) x.0 c.requires.size

pub index_mut-requires : goal.index_mut-requires
index_mut-requires c =
    let hs = c.args.self.now.held.items in
    let at : c.place-at.result ≡ place_at hs c.args.page.0 = c.place-at.ensures ∙ ap (λ (xs : List Held). place_at xs c.args.page.0) c.deref.ensures.value in
    omega (arith, at, place_some hs c.args.page.0 c.requires.there)

pub returns : goal.returns
returns c =
    let hs = c.args.self.now.held.items in
    let at : c.place-at.result ≡ place_at hs c.args.page.0 = c.place-at.ensures ∙ ap (λ (xs : List Held). place_at xs c.args.page.0) c.deref.ensures.value in
    let h : Held = c.index_mut.result.now in
    let x = in_place hs c.args.page.0 c.place-at.result h c.requires.there at c.index_mut.ensures.value in
    let y = in_place hs c.args.page.0 c.place-at.result c.index.result.now c.requires.there at c.index.ensures in
    let same : c.index.result.now ≡ h = (let q : Some c.index.result.now ≡ Some h = sym y.0 ∙ x.0 in cc q) in
    record {
      page = h;
      joined = c.joined-joined.result;
      joins = subst (λ (g : Held). JoinsPatch g.patch c.args.patch.now c.joined-joined.result) same c.joined-joined.ensures.joins;
      changed = λ e. ap (λ (g : Held). is_changed g.patch) (sym same) ∙ c.joined-joined.ensures.changed e;
      is = record {
        at = x.0;
        held = ap (λ n. set hs n (record h { patch = Some c.joined-joined.result })) at;
        room = refl;
        rest = refl;
      };
    }
