use Rattle.pm_tests_pages.proofs.partitions.made.meta_page.Goals as goal

-- a meta page made anew is one whatever the limit of rows
pub set-requires-clause-page : goal.set-requires-clause-page
set-requires-clause-page c = (c.fresh.ensures.stored 0).well_made
