use Rattle.std.proofs.Common.{◌≡◌, Some, inl, refl, sym, ap, ◌∙◌}
use Rattle.std.specs.Prelude.{slice_get}
use Rattle.std.proofs.lemmas.Option.{slice_get-get_or}
use Rattle.pm_stripe.proofs.MarkedPages.{set_same}
use Rattle.pm_stripe.proofs.stripe.Stripe.mark.Goals as goal

pub returns-else-index : goal.returns-else-index
returns-else-index c =
    let hs = c.args.self.now.held.items in
    let there : slice_get hs c.args.at ≡ Some c.index.result.now = slice_get-get_or hs c.args.at c.index.result.now c.requires.there ∙ ap Some (sym c.index.ensures) in
    record {
      page = c.index.result.now;
      now = c.index.result.now;
      patch = c.whole_patch-whole.result;
      there = there;
      is = record { whole = c.whole_patch-whole.ensures; is = inl (c.if-index.false, refl) };
      held = set_same hs c.args.at c.index.result.now there;
      room = refl;
      rest = refl;
    }
