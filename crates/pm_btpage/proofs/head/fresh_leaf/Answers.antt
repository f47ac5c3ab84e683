use Rattle.std.proofs.Common.{◌==◌, ap, refl, inl, arith}
use Rattle.pm_btpage.proofs.FreshPages.{without_link, no_link, fresh_page}
use Rattle.pm_btpage.proofs.head.fresh_leaf.Goals as goal

pub returns : goal.returns
returns c =
    let w = without_link c.put_head.new.page c.args.id 2 c.put_head.ensures in
    let link = no_link c.put_head.new.page c.args.id 2 c.put_head.ensures in
    let empty = fresh_page c.put_head.new.page c.args.id 2 w (inl refl) (λ leaf. omega (arith, link)) in
    record { page = empty.well_made; says = λ j. record { id = record { 0 = w.own j }; leaf = ap (λ n. n == 2) w.kind_is j; link = link j; items = empty.none j } }
