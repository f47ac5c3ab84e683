use Rattle.std.proofs.Common.{◌≡◌, ℕ, ◌+◌, ◌*◌, ◌/◌, ◌%◌, List, true, false, sym, subst, ap, ◌∙◌, arith}
use Rattle.std.specs.Prelude.{◌^◌}
use Rattle.std.proofs.lemmas.Bool.{eq-eqb, eqb-true}
use Rattle.pm_types.specs.declared.page_id.PageId.{PageId}
use Rattle.pm_pages.specs.PageLists.{pages_in}
use Rattle.pm_pages.specs.Rows.{page_at}
use Rattle.pm_pages.specs.TreeItems.{HasKey}
use Rattle.pm_pages.proofs.ListedKeys.{is_item}
use Rattle.pm_pages.proofs.well_formed.listing.is_of_row.Goals as goal

pub returns-then-eq : goal.returns-then-eq
returns-then-eq c =
    let word = c.args.item.now.word in
    let pages = pages_in c.args.pages.now in
    let is = is_item c.args.part c.args.cache word c.args.item.now.key pages (omega (arith, c.ranges.part.fits)) c.requires.few in
    let id_is : c.page-id.result.0 ≡ word % 2 ^ 56 = ap (λ (p : PageId). p.0) c.page-id.ensures in
    let same : c.page-id.result.0 ≡ c.new.result.0 = eqb-true c.page-id.result.0 c.new.result.0 (sym c.eq.ensures ∙ c.if-eq.true) in
    let new_is : c.new.result.0 ≡ 2 ^ 48 + c.args.part * 2 ^ 32 + c.index.result = ap (λ (p : PageId). p.0) c.new.ensures in
    let index_is : c.index.result ≡ word % 2 ^ 56 % 2 ^ 32 = c.index.ensures ∙ ap (λ n. n % 2 ^ 32) id_is in
    let names = sym id_is ∙ same ∙ new_is ∙ ap (λ n. 2 ^ 48 + c.args.part * 2 ^ 32 + n) index_is in
    let page_is : c.page.result.now ≡ page_at pages (word % 2 ^ 56 % 2 ^ 32) = c.page.ensures.bytes ∙ ap (page_at pages) (c.index-then-eq.ensures ∙ ap (λ n. n % 2 ^ 32) id_is) in
    let H : List ℕ × (ℕ × List ℕ) → Type 0 = λ q. HasKey q.0 q.1.0 c.args.cache q.1.1 in (
      λ yes. is.1 (names, subst H {x = (c.page.result.now, (c.item.result, c.bytes.result.now))} {y = (page_at pages (word % 2 ^ 56 % 2 ^ 32), (word / 2 ^ 56, c.args.item.now.key))} (λ t. (page_is t, (c.item.ensures t, c.bytes.ensures.bytes t))) (c.has_key.ensures.0 yes)),
      λ any. c.has_key.ensures.1 (subst H {x = (page_at pages (word % 2 ^ 56 % 2 ^ 32), (word / 2 ^ 56, c.args.item.now.key))} {y = (c.page.result.now, (c.item.result, c.bytes.result.now))} (λ t. (sym page_is t, (sym c.item.ensures t, sym c.bytes.ensures.bytes t))) (is.0 any).1),
    )

pub returns-else-eq : goal.returns-else-eq
returns-else-eq c =
    let word = c.args.item.now.word in
    let is = is_item c.args.part c.args.cache word c.args.item.now.key (pages_in c.args.pages.now) (omega (arith, c.ranges.part.fits)) c.requires.few in
    let id_is : c.page-id.result.0 ≡ word % 2 ^ 56 = ap (λ (p : PageId). p.0) c.page-id.ensures in
    let new_is : c.new.result.0 ≡ 2 ^ 48 + c.args.part * 2 ^ 32 + c.index.result = ap (λ (p : PageId). p.0) c.new.ensures in
    let index_is : c.index.result ≡ word % 2 ^ 56 % 2 ^ 32 = c.index.ensures ∙ ap (λ n. n % 2 ^ 32) id_is in (
      λ no. (let wrong : true ≡ false = sym no ∙ c.if-eq.false in absurd (cc wrong)),
      λ any. c.eq.ensures ∙ eq-eqb c.page-id.result.0 c.new.result.0 (id_is ∙ (is.0 any).0 ∙ ap (λ n. 2 ^ 48 + c.args.part * 2 ^ 32 + n) (sym index_is) ∙ sym new_is),
    )
