use Rattle.pm_engine.proofs.CheckpointPages.{only_logged, base_is, has_first, all_held}
use Rattle.pm_engine.proofs.tracking.tracked_pages_are_rebuilt.Goals as goal

pub returns-clause-rebuilds : goal.returns-clause-rebuilds
returns-clause-rebuilds c = λ shape frames files pages logged tracks part index. tracks.each part index

pub returns-clause-only : goal.returns-clause-only
returns-clause-only c = λ shape frames files pages logged tracks. only_logged shape frames files pages logged tracks

pub returns-clause-held : goal.returns-clause-held
returns-clause-held c = λ shape frames files pages logged tracks. all_held shape frames files pages logged tracks

pub returns-clause-base : goal.returns-clause-base
returns-clause-base c = λ shape frames files pages logged tracks part index inside. base_is shape frames files pages logged tracks part index inside

pub returns-clause-has_meta : goal.returns-clause-has_meta
returns-clause-has_meta c = λ shape frames files pages logged tracks first part index some. has_first shape frames files pages logged tracks first part index some
