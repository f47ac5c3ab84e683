-- What a command promises, by its name.
use Rattle.std.proofs.Common.{◌≡◌, ◌⊎◌, inr, ℕ, List, [], refl, ap, subst, sym}
use Rattle.std.specs.Prelude.{Option, Some, None, is_some, true, false}
use Rattle.pm_disk.specs.Moments.{History, IsHistory, AllMoments}
use Rattle.pm_disk.specs.States.{DeviceState, Rose}
use Rattle.pm_disk.specs.Worlds.{World}
use Rattle.pm_disk.proofs.Chain.{started}
use Rattle.pm_redo.specs.Rebuilding.{IsSame}
use Rattle.pm_top.specs.declared.status.Status.{Status}
use Rattle.pm_top.specs.declared.status.Status.TheVariants.{Failed, Memory, Usage}
use Rattle.pm_top.specs.declared.words.CommandName.{CommandName}
use Rattle.pm_top.specs.declared.words.CommandName.TheVariants.{Run, Wal, Verify, Gen}
use Rattle.pm_top.specs.Commands.{CommandCompletes, CommandHolds, CommandIsSafe}
use Rattle.pm_top.specs.Promises.{RefusalIs}
use Rattle.pm_tools.specs.DrawnLines.{drawn_lines}
use Rattle.pm_top.proofs.DrawnRefusing.{gen_completes, gen_crash_from, gen_from, idle_gen, kept_gen}
use Rattle.pm_top.proofs.Limits.{completes}
use Rattle.pm_top.proofs.LogListing.{wal_completes, wal_from, wal_unbound}
use Rattle.pm_top.proofs.Opened.{crash_from, kept_moments}
use Rattle.pm_top.proofs.Refusing.{idle_run, run_from, same_disk}
use Rattle.pm_top.proofs.StoreChecking.{check_completes, check_ends, check_from}

-- after the folder is bound, which changed nothing
pub holds_from : (name : CommandName) (old mid new : History) (status : Status) (lines : ℕ) (order : List ℕ) → AllMoments old mid (IsSame old.world) → mid.world ≡ old.world → CommandHolds (Some name) mid new status lines order
    → CommandHolds (Some name) old new status lines order
holds_from Run old mid new status lines order first same holds = run_from old mid new status lines order first same holds
holds_from Wal old mid new status lines order first same holds = wal_from old mid new status lines order first same holds
holds_from Verify old mid new status lines order first same holds = check_from old mid new status lines order first same holds
holds_from (Gen seed count) old mid new status lines order first same holds = gen_from (drawn_lines seed 1 count) old mid new status lines order first same holds

pub safe_from : (name : CommandName) (old mid new : History) (order : List ℕ) → AllMoments old mid (IsSame old.world) → mid.world ≡ old.world → CommandIsSafe (Some name) mid new order → CommandIsSafe (Some name) old new order
safe_from Run old mid new order first same safe = crash_from old mid new order first same safe
safe_from Wal old mid new order first same safe = tt
safe_from Verify old mid new order first same safe = tt
safe_from (Gen seed count) old mid new order first same safe = gen_crash_from (drawn_lines seed 1 count) old mid new order first same safe

-- the folder wasn't bound
pub holds_unbound : (name : CommandName) (old mid : History) (status : Status) (lines : ℕ) (order : List ℕ)
    → AllMoments old mid (IsSame old.world) → mid.world ≡ old.world → (status ≡ Failed) ⊎ (status ≡ Memory)
    → lines ≡ 0 → order ≡ [] → CommandHolds (Some name) old mid status lines order
holds_unbound Run old mid status lines order kept same cases none no_order =
    idle_run old mid status lines order cases (ap (λ (w : World). w.said) same) none no_order
    (λ _ _. same_disk old mid kept)
holds_unbound Wal old mid status lines order kept same cases none no_order =
    wal_unbound old mid status lines order kept cases none no_order
holds_unbound Verify old mid status lines order kept same cases none no_order =
    check_ends old mid status lines order kept cases none no_order
holds_unbound (Gen seed count) old mid status lines order kept same cases none no_order =
    idle_gen (drawn_lines seed 1 count) old mid status lines order cases (ap (λ (w : World). w.said) same)
    (ap (λ (w : World). w.input) same) none no_order (λ _ _. same_disk old mid kept)

pub safe_unbound : (name : CommandName) (old mid : History) (order : List ℕ) → AllMoments old mid (IsSame old.world) → CommandIsSafe (Some name) old mid order
safe_unbound Run old mid order kept = kept_moments old mid order kept
safe_unbound Wal old mid order kept = tt
safe_unbound Verify old mid order kept = tt
safe_unbound (Gen seed count) old mid order kept = kept_gen (drawn_lines seed 1 count) old mid order kept

-- memory ran out before anything was done
pub holds_untouched : (name : Option CommandName) (old : History) (status : Status) (lines : ℕ) (order : List ℕ)
    → IsHistory old → status ≡ Memory → lines ≡ 0 → order ≡ [] → CommandHolds name old old status lines order
holds_untouched None old status lines order sound is none no_order =
    subst (λ s. RefusalIs s old.world old.world lines order) (sym is) (refl, none, no_order)
holds_untouched (Some name) old status lines order sound is none no_order =
    holds_unbound name old old status lines order (started old (IsSame old.world) sound refl) refl (inr is) none no_order

pub safe_untouched : (name : Option CommandName) (old : History) (order : List ℕ) → IsHistory old
    → CommandIsSafe name old old order
safe_untouched None old order sound = kept_moments old old order (started old (IsSame old.world) sound refl)
safe_untouched (Some name) old order sound =
    safe_unbound name old old order (started old (IsSame old.world) sound refl)

-- words that aren't a command
pub is_no_command : (name : Option CommandName) → is_some name ≡ false → name ≡ None
is_no_command None is = refl
is_no_command (Some name) is = absurd (let both : true ≡ false = is in cc)

-- where no call fails
pub command_completes : (name : Option CommandName) (old new : History) (status : Status) (lines : ℕ) (order : List ℕ) (before now : DeviceState) → CommandHolds name old new status lines order → (status ≡ Usage → name ≡ None) → (status ≡ Failed → Rose before now)
    → CommandCompletes name status old.world before now
command_completes None old new status lines order before now holds usage failed = tt
command_completes (Some Run) old new status lines order before now holds usage failed = completes old new status lines order before now holds (λ is. (let both : Some Run ≡ None = usage is in cc)) failed
command_completes (Some Wal) old new status lines order before now holds usage failed = wal_completes old new status lines order before now holds failed
command_completes (Some Verify) old new status lines order before now holds usage failed = check_completes old new status lines order before now holds failed
command_completes (Some (Gen seed count)) old new status lines order before now holds usage failed =
    gen_completes (drawn_lines seed 1 count) old new status lines order before now holds (λ is. (let both : Some (Gen seed count) ≡ None = usage is in cc)) failed
