use Rattle.std.proofs.Common.{◌≡◌, ◌+◌, ◌-◌, get_or, take, drop, ap, arith}
use Rattle.pm_btpage.specs.IndexPages.{offset_of, key_len_at}
use Rattle.pm_btpage.proofs.items.stored_key.Goals as goal

pub returns-clause-key : goal.returns-clause-key
returns-clause-key c =
    let page = c.args.page.now in
    let back : c.offset.result + 1 - 1 ≡ offset_of c.args.i = omega (arith, c.offset.ensures) in
    let len : get_or page (c.offset.result + 1 - 1) 0 ≡ key_len_at page c.args.i = ap (λ k. get_or page k 0) back in
    (λ t. take (c.offset.ensures t + 1 + len t - (c.offset.ensures t + 1)) (drop (c.offset.ensures t + 1) page))

pub slice_bounds-result-end : goal.slice_bounds-result-end
slice_bounds-result-end c =
    let page = c.args.page.now in
    let back : c.offset.result + 1 - 1 ≡ offset_of c.args.i = omega (arith, c.offset.ensures) in
    let len : get_or page (c.offset.result + 1 - 1) 0 ≡ key_len_at page c.args.i = ap (λ k. get_or page k 0) back in
    omega (arith, c.requires.within, c.requires.sound.short, c.offset.ensures, len)
