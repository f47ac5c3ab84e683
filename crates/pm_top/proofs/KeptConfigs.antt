-- Runs of calls that leave the configuration as it is.
use Rattle.std.proofs.Common.{List, ℕ, Result, refl, ◌∙◌, sym, subst}
use Rattle.pm_disk.specs.Moments.{History, IsHistory, AllMoments, Does, Says}
use Rattle.pm_disk.proofs.Chain.{started, does, says, joined, weaker, at_last}
use Rattle.pm_script.specs.Reading.{OnlyTakes}
use Rattle.pm_core.specs.Calls.{ChangesDisk}
use Rattle.pm_redo.specs.Rebuilding.{IsSame}
use Rattle.pm_top.specs.Promises.{SameConfig, SaysPart}
use Rattle.pm_top.specs.Runs.{OnlyAnswers}

-- ---- one call or a run of calls

pub config_none : (h : History) → IsHistory h → AllMoments h h (SameConfig h.world)
config_none h sound = started h (SameConfig h.world) sound refl

pub config_disk : (old new : History) → AllMoments old new (ChangesDisk old.world) → AllMoments old new (SameConfig old.world)
config_disk old new only = weaker old new (ChangesDisk old.world) (SameConfig old.world) (λ w is. is.config) only

pub config_take : (old new : History) → AllMoments old new (OnlyTakes old.world) → AllMoments old new (SameConfig old.world)
config_take old new takes = weaker old new (OnlyTakes old.world) (SameConfig old.world) (λ w is. subst (SameConfig old.world) (sym is.1) refl) takes

pub config_same : (old new : History) → AllMoments old new (IsSame old.world) → AllMoments old new (SameConfig old.world)
config_same old new same = weaker old new (IsSame old.world) (SameConfig old.world) (λ w is. subst (SameConfig old.world) (sym is) refl) same

pub config_say : (text : List ℕ) (old new : History) → AllMoments old new (SaysPart text old.world) → AllMoments old new (SameConfig old.world)
config_say text old new part = weaker old new (SaysPart text old.world) (SameConfig old.world) (λ w is. subst (SameConfig old.world) (sym is.1) refl) part

pub config_bind : {T E : Type 0} (old new : History) (result : Result T E) → IsHistory old → Does old new result old.world → AllMoments old new (SameConfig old.world)
config_bind old new result sound call = does old old new result old.world (SameConfig old.world) (config_none old sound) call refl refl

pub config_then : (old mid new : History) → IsHistory mid → AllMoments old mid (SameConfig old.world) → AllMoments mid new (SameConfig mid.world) → AllMoments old new (SameConfig old.world)
config_then old mid new sound first second =
    joined old mid new (SameConfig old.world) first
    (weaker mid new (SameConfig mid.world) (SameConfig old.world) (λ w is. is ∙ at_last old mid (SameConfig old.world) sound first) second)

-- ---- the calls that answer lines

pub answers_none : (h : History) → IsHistory h → AllMoments h h (OnlyAnswers h.world)
answers_none h sound = started h (OnlyAnswers h.world) sound (record { config = refl; input = refl })

pub answers_disk : (old new : History) → AllMoments old new (ChangesDisk old.world) → AllMoments old new (OnlyAnswers old.world)
answers_disk old new only = weaker old new (ChangesDisk old.world) (OnlyAnswers old.world) (λ w is. record { config = is.config; input = is.input }) only

pub answers_said : {T E : Type 0} (old mid new : History) (result : Result T E) (text : List ℕ) → IsHistory mid → AllMoments old mid (OnlyAnswers old.world) → Says mid new result text → AllMoments old new (OnlyAnswers old.world)
answers_said old mid new result text sound so_far call =
    let here = at_last old mid (OnlyAnswers old.world) sound so_far in
    says old mid new result text (OnlyAnswers old.world) so_far call (λ k le. record { config = here.config; input = here.input })

pub answers_then : (old mid new : History) → IsHistory mid → AllMoments old mid (OnlyAnswers old.world) → AllMoments mid new (OnlyAnswers mid.world) → AllMoments old new (OnlyAnswers old.world)
answers_then old mid new sound first second =
    let here = at_last old mid (OnlyAnswers old.world) sound first in
    joined old mid new (OnlyAnswers old.world) first
    (weaker mid new (OnlyAnswers mid.world) (OnlyAnswers old.world) (λ w is. record { config = is.config ∙ here.config; input = is.input ∙ here.input }) second)

pub config_answers : (old new : History) → AllMoments old new (OnlyAnswers old.world) → AllMoments old new (SameConfig old.world)
config_answers old new only = weaker old new (OnlyAnswers old.world) (SameConfig old.world) (λ w is. is.config) only
