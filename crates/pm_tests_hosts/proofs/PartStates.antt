-- Which calls may be made on parts that were lent just now, and which on the host once they are back.
use Rattle.std.proofs.Common.{◌≡◌, List, [], ◌∷◌, refl, sym, ◌∙◌, ap, subst, arith}
use Rattle.std.specs.Prelude.{Bool, true, false, ◌==◌, ◌||◌, IsSome}
use Rattle.std.proofs.lemmas.Bool.Decides.{nat_tests}
use Rattle.pm_types.specs.declared.page_id.PageId.{PageId}
use Rattle.pm_disk.specs.Lending.{is_among, writer_lent, log_lent, TakesBack}
use Rattle.pm_disk.specs.States.{Access, DeviceState, IsUsable, MayWrite}

pub log_usable : (part host : DeviceState) → part ≡ log_lent host → IsUsable host → IsUsable part
log_usable part host is usable = subst (λ (s : DeviceState). IsUsable s) (sym is) (record { bound = usable.bound; whole = refl })

among_one : (page : PageId) → is_among (page ∷ []) page ≡ true
among_one page = let e : (page.0 == page.0) ≡ true = grind (arith, nat_tests) in ap (λ (b : Bool). b || false) e

-- the one page that is due
pub writer_may : (part host : DeviceState) (page : PageId) → part ≡ writer_lent (page ∷ []) host → IsUsable host → MayWrite part page
writer_may part host page is usable = subst (λ (s : DeviceState). MayWrite s page) (sym is) (record { usable = record { bound = usable.bound; whole = refl }; allowed = among_one page })

-- a part that has made calls is one of the folder that the host has
pub same_folder : (part now host lent : DeviceState) → part.access.folder ≡ host.access.folder → now.access ≡ part.access → lent.access ≡ record host.access { is_lent = true } → now.access.folder ≡ lent.access.folder
same_folder part now host lent of_host kept is = ap (λ (a : Access). a.folder) kept ∙ of_host ∙ sym (ap (λ (a : Access). a.folder) is)

-- the host is whole again
pub usable_again : (host lent back : DeviceState) (parts : List DeviceState) → IsUsable host → lent.access ≡ record host.access { is_lent = true } → TakesBack lent back parts → IsUsable back
usable_again host lent back parts usable is returns =
    let whole : back.access ≡ record host.access { is_lent = false } = returns.access ∙ ap (λ (a : Access). record a { is_lent = false }) is in
    record {
      bound = subst (λ (a : Access). IsSome a.folder) (sym whole) usable.bound;
      whole = ap (λ (a : Access). a.is_lent) whole;
    }
