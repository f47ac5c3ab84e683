use Rattle.std.proofs.Common.{◌≡◌, ◌+◌, true, Some, None, set, sym, ap, subst, ◌∙◌, arith}
use Rattle.std.specs.Prelude.{if◌then◌else◌}
use Rattle.std.proofs.lemmas.List.{length-set}
use Rattle.pm_stripe.specs.PlacedPages.{AgreeOnPages, forgotten}
use Rattle.pm_stripe.proofs.PlacedPages.{at_frame, agree_forget, room_forget, count_forget}
use Rattle.pm_stripe.proofs.places.Places.forget.Goals as goal

pub invariant_of-self : goal.invariant_of-self
invariant_of-self c =
    let places = c.args.self.now in
    let items = places.pages.items in
    let page = c.in-Some.page in
    let at = at_frame items c.args.frame c.index.result.now c.index.ensures c.requires ∙ ap Some c.in-Some.is in
    let there : c.remove.result ≡ true = c.remove.ensures.was_there ∙ room_forget places.table.entries page c.args.frame (places.agree.named page c.args.frame at) in
    let room : c.remove.new.self.spare ≡ places.table.spare + 1 = c.remove.ensures.spare ∙ ap (λ b. places.table.spare + (if b then 1 else 0)) there in
    record {
      agree = subst (λ m. AgreeOnPages m (set items c.args.frame None)) (sym c.remove.ensures.entries) (agree_forget places.table.entries items places.agree page c.args.frame at);
      few = omega (arith, places.few, length-set items c.args.frame None);
      room = omega (arith, room, places.room, count_forget items c.args.frame page at, length-set items c.args.frame None);
    }

pub returns-in-Some-clause-table : goal.returns-in-Some-clause-table
returns-in-Some-clause-table c =
    let places = c.args.self.now in
    let at = at_frame places.pages.items c.args.frame c.index.result.now c.index.ensures c.requires ∙ ap Some c.in-Some.is in
    c.remove.ensures.entries ∙ ap (forgotten places.table.entries) (sym at)

pub returns-in_default-clause-table : goal.returns-in_default-clause-table
returns-in_default-clause-table c =
    let places = c.args.self.now in
    let at = at_frame places.pages.items c.args.frame c.index.result.now c.index.ensures c.requires ∙ ap Some c.in_default.is in
    ap (forgotten places.table.entries) (sym at)
