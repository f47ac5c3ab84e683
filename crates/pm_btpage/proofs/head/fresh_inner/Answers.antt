use Rattle.std.proofs.Common.{◌==◌, ap, refl, inr, arith}
use Rattle.pm_btpage.proofs.FreshPages.{with_link, fresh_page}
use Rattle.pm_btpage.proofs.head.fresh_inner.Goals as goal

pub returns : goal.returns
returns c =
    let w = with_link c.put_head.new.page c.put_u64.new.page c.args.id 3 c.put_head.ensures c.put_u64.ensures.outside in
    let empty = fresh_page c.put_u64.new.page c.args.id 3 w (inr refl) (λ leaf. absurd (omega (arith, leaf))) in
    record { page = empty.well_made; says = λ j. record { id = record { 0 = w.own j }; leaf = ap (λ n. n == 2) w.kind_is j; link = c.put_u64.ensures.value j; items = empty.none j } }
