use Rattle.std.proofs.Common.{inr}
use Rattle.std.specs.Prelude.{IsTrue}
use Rattle.pm_engine.proofs.EditedPages.{edited_page, edited_within}
use Rattle.pm_engine.proofs.tracking.edits_are_noted.Goals as goal

pub returns-clause-told : goal.returns-clause-told
returns-clause-told g c = λ size most old new told edits keeps. edited_within g.P.Pages.tells size old new (λ j. IsTrue (new.asked j)) most edits told keeps

pub returns-clause-at_hand : goal.returns-clause-at_hand
returns-clause-at_hand g c = λ size most index old new edits keeps known. edited_page g.P.Pages.tells size old new (λ j. IsTrue (new.asked j)) most edits index (inr known) keeps
