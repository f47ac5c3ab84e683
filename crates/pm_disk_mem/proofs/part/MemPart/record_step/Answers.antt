-- What is held goes as the record says.
use Rattle.std.proofs.Common.{◌∷◌, [], ◌++◌, List, ◌∙◌, ap}
use Rattle.pm_disk_mem.specs.declared.step.Step.{Step}
use Rattle.pm_disk_mem.proofs.Recording.{on_error_too}
use Rattle.pm_disk_mem.proofs.PartSteps.{stands_still, does_nothing, world_same, stands_after, does_step}
use Rattle.pm_disk_mem.proofs.part.MemPart.record_step.Goals as goal

pub invariant_of-self-in-Break-branch-2 : goal.invariant_of-self-in-Break-branch-2
invariant_of-self-in-Break-branch-2 c =
    let now = c.args.self.now in
    record {
      stands = stands_still now.files c.make.new.files now.console c.make.new.console now.kept.began.value now.kept.steps.items c.reserve.new.self.items
          now.stands c.in_err-make.ensures.unchanged c.reserve.ensures.items;
    }

pub returns-in_err-make-clause-does : goal.returns-in_err-make-clause-does
returns-in_err-make-clause-does c =
    let now = c.args.self.now in
    does_nothing now.kept.began.value now.kept.steps.items c.reserve.new.self.items c.from_residual-in_err-make.result _ c.from_residual-in_err-make.ensures.0 c.reserve.ensures.items

pub returns-in_err-make-clause-unchanged : goal.returns-in_err-make-clause-unchanged
returns-in_err-make-clause-unchanged c =
    let now = c.args.self.now in
    on_error_too c.from_residual-in_err-make.result _ (world_same now.kept.began.value now.kept.steps.items c.reserve.new.self.items c.reserve.ensures.items)

pub invariant_of-self-2 : goal.invariant_of-self-2
invariant_of-self-2 c =
    let now = c.args.self.now in
    record {
      stands = stands_after now.files c.make.new.files now.console c.make.new.console now.kept.began.value now.kept.steps.items c.push_reserved.new.self.items c.args.step
          now.stands c.in_ok-make.ensures.made (c.push_reserved.ensures.items ∙ ap (λ (l : List Step). l ++ c.args.step ∷ []) c.reserve.ensures.items);
    }

pub returns-clause-does : goal.returns-clause-does
returns-clause-does c =
    let now = c.args.self.now in
    does_step now.kept.began.value now.kept.steps.items c.push_reserved.new.self.items
    c.args.step _ (c.push_reserved.ensures.items ∙ ap (λ (l : List Step). l ++ c.args.step ∷ []) c.reserve.ensures.items)
