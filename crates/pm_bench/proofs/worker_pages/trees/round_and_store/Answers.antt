use Rattle.pm_bench.proofs.worker_pages.trees.round_and_store.Goals as goal

pub make_round-requires-clause-pages : goal.make_round-requires-clause-pages
make_round-requires-clause-pages g c = g.met.H.Host.all_pages c.args.host

pub store_logged-requires-clause-pages : goal.store_logged-requires-clause-pages
store_logged-requires-clause-pages g c = g.met.H.Host.all_pages _
