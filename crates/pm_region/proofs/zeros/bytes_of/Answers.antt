use Rattle.std.proofs.Common.{◌≡◌, vec_len, sym, ap, ◌∙◌, take, replicate}
use Rattle.std.proofs.lemmas.Bool.{eqb-true}
use Rattle.pm_types.specs.declared.limits.TheConstants.{PAGE_SIZE_MAX}
use Rattle.pm_region.proofs.Shown.{shown_of_a_page}
use Rattle.pm_region.proofs.zeros.bytes_of.Goals as goal

pub returns-then-is_empty-clause-bytes : goal.returns-then-is_empty-clause-bytes
returns-then-is_empty-clause-bytes c =
    let v = c.args.memory.now in
    let empty : vec_len v ≡ 0 = eqb-true _ _ (sym c.is_empty.ensures ∙ c.if-is_empty.true) in
    ap (λ n. take n (replicate PAGE_SIZE_MAX 0)) c.capacity.ensures ∙ shown_of_a_page v.cap v.len v.items c.requires empty v.ok.0
