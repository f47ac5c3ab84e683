use Rattle.std.proofs.Common.{ap, sym, ◌==◌, ◌∙◌}
use Rattle.std.proofs.lemmas.Bool.{false≢true}
use Rattle.pm_btpage.proofs.Changed.{link_only}
use Rattle.pm_btpage.proofs.head.set_first.Goals as goal

pub returns-clause-page : goal.returns-clause-page
returns-clause-page c = (link_only _ _ c.set_u64.ensures.writes.outside (λ leaf. absurd (false≢true (sym c.requires.inner ∙ ap (λ n. n == 2) leaf))) c.requires.page).well_made

pub returns-clause-says : goal.returns-clause-says
returns-clause-says c =
    let all = link_only _ _ c.set_u64.ensures.writes.outside (λ leaf. absurd (false≢true (sym c.requires.inner ∙ ap (λ n. n == 2) leaf))) c.requires.page in
    λ j. record { id = record { 0 = all.id j }; leaf = ap (λ n. n == 2) all.kind j; link = c.set_u64.ensures.value j; items = all.items j }
