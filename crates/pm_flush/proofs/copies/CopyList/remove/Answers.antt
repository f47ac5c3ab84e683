use Rattle.std.proofs.Common.{◌≡◌, suc, ◌++◌, length, get_or, take, drop, sym, refl, ap, ◌∙◌, arith}
use Rattle.pm_flush.specs.Copies.{Copies, copy_of, place_of}
use Rattle.pm_flush.proofs.Copying.{none_at_end, place_at_most, copy_read, once_removed, copy_removed, none_removed}
use Rattle.pm_flush.proofs.copies.CopyList.remove.Goals as goal

pub returns-then-at-len-clause-given : goal.returns-then-at-len-clause-given
returns-then-at-len-clause-given c =
    let xs = c.self.inside.pages.items in
    let at : c.place-at.result ≡ place_of xs c.args.page = c.place-at.ensures ∙ ap (λ ds. place_of ds c.args.page) c.deref.ensures.value in
    let many : length xs ≡ length c.deref.result.now = ap length (sym c.deref.ensures.value) in
    ap (λ (k : Copies). copy_of k.pages c.args.page) (sym c.self.view_is) ∙ none_at_end xs c.args.page (omega arith)

pub returns-then-at-len-clause-removed : goal.returns-then-at-len-clause-removed
returns-then-at-len-clause-removed c =
    let xs = c.self.inside.pages.items in
    let at : c.place-at.result ≡ place_of xs c.args.page = c.place-at.ensures ∙ ap (λ ds. place_of ds c.args.page) c.deref.ensures.value in
    let many : length xs ≡ length c.deref.result.now = ap length (sym c.deref.ensures.value) in
    none_removed c.args.self.now c.args.self.now c.args.page refl
    (ap (λ (k : Copies). copy_of k.pages c.args.page) (sym c.self.view_is) ∙ none_at_end xs c.args.page (omega arith))

pub remove-requires : goal.remove-requires
remove-requires c =
    let xs = c.self.inside.pages.items in
    let at : c.place-at.result ≡ place_of xs c.args.page = c.place-at.ensures ∙ ap (λ ds. place_of ds c.args.page) c.deref.ensures.value in
    let many : length xs ≡ length c.deref.result.now = ap length (sym c.deref.ensures.value) in
    let most = place_at_most xs c.args.page in
    omega arith

pub invariant_of-self : goal.invariant_of-self
invariant_of-self c =
    let xs = c.self.inside.pages.items in
    let at : c.place-at.result ≡ place_of xs c.args.page = c.place-at.ensures ∙ ap (λ ds. place_of ds c.args.page) c.deref.ensures.value in
    let gone : c.remove.new.self.items ≡ take (place_of xs c.args.page) xs ++ drop (suc (place_of xs c.args.page)) xs = c.remove.ensures.items ∙ ap (λ k. take k xs ++ drop (suc k) xs) at in
    once_removed xs c.remove.new.self.items c.args.page gone c.self.invariant

pub returns-clause-given : goal.returns-clause-given
returns-clause-given c =
    let xs = c.self.inside.pages.items in
    let at : c.place-at.result ≡ place_of xs c.args.page = c.place-at.ensures ∙ ap (λ ds. place_of ds c.args.page) c.deref.ensures.value in
    let many : length xs ≡ length c.deref.result.now = ap length (sym c.deref.ensures.value) in
    let most = place_at_most xs c.args.page in
    ap (λ (k : Copies). copy_of k.pages c.args.page) (sym c.self.view_is)
    ∙ copy_read xs c.args.page c.remove.result (omega arith) (c.remove.ensures.value ∙ ap (λ k. get_or xs k c.remove.result) at)

pub returns-clause-removed : goal.returns-clause-removed
returns-clause-removed c =
    let xs = c.self.inside.pages.items in
    let at : c.place-at.result ≡ place_of xs c.args.page = c.place-at.ensures ∙ ap (λ ds. place_of ds c.args.page) c.deref.ensures.value in
    let gone : c.remove.new.self.items ≡ take (place_of xs c.args.page) xs ++ drop (suc (place_of xs c.args.page)) xs = c.remove.ensures.items ∙ ap (λ k. take k xs ++ drop (suc k) xs) at in
    copy_removed c.args.self.now _ xs c.remove.new.self.items c.args.page (ap (λ (k : Copies). k.pages) (sym c.self.view_is)) refl gone c.self.invariant
    (c.remove.ensures.capacity ∙ ap (λ (k : Copies). k.room) c.self.view_is)
