use Rattle.std.proofs.Common.{refl, sym, ap, ◌∙◌, inl, inr}
use Rattle.pm_types.specs.Ids.{page_id}
use Rattle.pm_tree_del.proofs.WrittenPages.{no_pair_cause}
use Rattle.pm_tree_del.proofs.mending.mend_pair.Goals as goal

pub returns-then-not-may_mend-clause-cause : goal.returns-then-not-may_mend-clause-cause
returns-then-not-may_mend-clause-cause g c =
    let T = g.P.Pages.tells in
    let a = g.P.Pages.seen c.args.pages.now in
    let page = c.requires.page in
    no_pair_cause T a c.args.at page.2 c.args.child page.0 c.new.result _ refl (c.new.ensures ∙ ap (λ n. page_id n c.args.at) c.part.ensures) page.1
    (inr (inl (c.args.pair.now, page.3, (c.args.count, c.requires.count, λ may. absurd (let e = sym (c.may_mend.ensures.1 may) ∙ c.if-not-may_mend.true in cc e)))))

pub returns-then-not-may_mend-clause-sound : goal.returns-then-not-may_mend-clause-sound
returns-then-not-may_mend-clause-sound g c = λ t sound may stand id h. (let e = sym (c.may_mend.ensures.1 may) ∙ c.if-not-may_mend.true in cc e)
