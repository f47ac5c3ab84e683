use Rattle.std.proofs.Common.{◌≡◌, ℕ, ◌<◌, ◌≤◌, List, Some, length, get_or, sym, ap, ◌∙◌, subst}
use Rattle.pm_flush.specs.declared.copies.PageCopy.{PageCopy}
use Rattle.pm_flush.specs.Copies.{Copies, copy_of, place_of}
use Rattle.pm_flush.proofs.Copying.{none_at_end, copy_read}
use Rattle.pm_flush.proofs.copies.CopyList.get.Goals as goal

pub returns-in-Some : goal.returns-in-Some
returns-in-Some c =
    let xs = c.self.inside.pages.items in
    let copy = c.in-Some.copy.now in
    let at : c.place.result ≡ place_of xs c.args.page = c.place.ensures ∙ ap (λ ds. place_of ds c.args.page) c.deref-2.ensures.value in
    let P : List PageCopy → ℕ → Type 0 = λ ds k. (k < length ds) × (copy ≡ get_or ds k copy) in
    let found : P c.deref.result.now c.place.result = (c.in-Some.ensures.lookup.3.0, c.in-Some.ensures.lookup.1) in
    let there : P xs (place_of xs c.args.page) = subst (λ (p : List PageCopy × ℕ). P p.0 p.1) (λ i. (c.deref.ensures.value i, at i)) found in
    ap (λ (k : Copies). copy_of k.pages c.args.page) (sym c.self.view_is) ∙ copy_read xs c.args.page copy there.0 there.1 ∙ ap Some (sym c.as_slice.ensures.value)

pub returns-in-None : goal.returns-in-None
returns-in-None c =
    let xs = c.self.inside.pages.items in
    let at : c.place.result ≡ place_of xs c.args.page = c.place.ensures ∙ ap (λ ds. place_of ds c.args.page) c.deref-2.ensures.value in
    let past : length xs ≤ place_of xs c.args.page = subst (λ (p : List PageCopy × ℕ). length p.0 ≤ p.1) (λ i. (c.deref.ensures.value i, at i)) c.in-None.ensures.lookup.3 in
    ap (λ (k : Copies). copy_of k.pages c.args.page) (sym c.self.view_is) ∙ none_at_end xs c.args.page past
