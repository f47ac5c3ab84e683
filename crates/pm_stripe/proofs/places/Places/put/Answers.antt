use Rattle.std.proofs.Common.{◌≡◌, ◌-◌, false, Some, None, inr, set, sym, ap, subst, ◌∙◌, arith}
use Rattle.std.specs.Prelude.{if◌then◌else◌}
use Rattle.std.specs.FinMap as map
use Rattle.std.specs.Option.{is_some}
use Rattle.std.proofs.lemmas.Option.{slice_get_within}
use Rattle.std.proofs.lemmas.List.{length-set}
use Rattle.pm_stripe.specs.PlacedPages.{AgreeOnPages}
use Rattle.pm_stripe.proofs.PlacedPages.{agree_put, count_less, count_put}
use Rattle.pm_stripe.proofs.places.Places.put.Goals as goal

pub set-requires : goal.set-requires
set-requires c = inr (let less = count_less c.args.self.now.pages.items c.args.frame c.requires.empty in let room = c.args.self.now.room in omega (arith, less, room))

pub index_mut-requires : goal.index_mut-requires
index_mut-requires c = omega (arith, slice_get_within c.args.self.now.pages.items c.args.frame None c.requires.empty, c.args.self.now.pages.ok)

pub invariant_of-self : goal.invariant_of-self
invariant_of-self c =
    let places = c.args.self.now in
    let items = places.pages.items in
    let unnamed : map.contains_key places.table.entries c.args.page.0 ≡ false = ap is_some c.requires.unnamed in
    let room : c.set.new.self.spare ≡ places.table.spare - 1 = c.set.ensures.spare ∙ ap (λ b. if b then places.table.spare else places.table.spare - 1) unnamed in
    record {
      agree = subst (λ m. AgreeOnPages m (set items c.args.frame (Some c.args.page))) (sym c.set.ensures.entries) (agree_put places.table.entries items places.agree c.args.page c.args.frame c.args.tag c.requires.empty c.requires.unnamed);
      few = omega (arith, places.few, length-set items c.args.frame (Some c.args.page));
      room = omega (arith, room, places.room, count_put items c.args.frame c.args.page c.requires.empty, count_less items c.args.frame c.requires.empty, length-set items c.args.frame (Some c.args.page));
    }
