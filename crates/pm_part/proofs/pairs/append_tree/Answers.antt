use Rattle.std.proofs.Common.{◌⊎◌, inl, inr}
use Rattle.std.proofs.lemmas.Result.{err_from_is_err_and}
use Rattle.pm_meta.specs.declared.slots.MetaSlot.TheVariants.{Root, Pages}
use Rattle.pm_part.specs.PairFaults.{WasBad, IsDownFault, IsLeavesFault, IsPairsFault}
use Rattle.pm_part.proofs.ReadOn.{reads_none, reads_then, reads_looked}
use Rattle.pm_part.proofs.PairCauses.{cause_same, store_cause_on, disk_only}
use Rattle.pm_part.proofs.PairWalks.{had_number, had_tree}
use Rattle.pm_part.proofs.pairs.append_tree.Goals as goal

pub returns-in_err-count-clause-cause : goal.returns-in_err-count-clause-cause
returns-in_err-count-clause-cause g c =
    let T = g.P.Pages.tells in
    let a = g.P.Pages.seen c.args.pages.now in
    let d = g.P.Pages.seen c.number.new.pages in
    let p = err_from_is_err_and c.from_residual.result c.from_residual.ensures.1 in
    store_cause_on T a a d (λ start. IsPairsFault T start c.args.cache) (λ start. IsPairsFault T start c.args.cache)
    c.number.result c.from_residual.result c.in_err-count.field-0.0 p.0 c.in_err-count.was p.1 p.2 (reads_none T a c.requires.none_lent)
    (λ start since id fault. fault) (disk_only T a d (λ start. IsPairsFault T start c.args.cache) c.number.result c.number.ensures.cause)

pub append_leaves-requires-clause-first : goal.append_leaves-requires-clause-first
append_leaves-requires-clause-first g c =
    let b = g.P.Pages.seen c.number.new.pages in
    let none = (reads_looked g.P.Pages.tells (g.P.Pages.seen c.args.pages.now) b 0 c.requires.none_lent c.number.ensures.looks).none_lent in
    (c.in_ok-leaf.ensures.leaf b (reads_none g.P.Pages.tells b none)).was.some

pub returns-in_err-leaf-clause-kept : goal.returns-in_err-leaf-clause-kept
returns-in_err-leaf-clause-kept g c = g.met.P.Pages.kept_then c.args.pages.now c.number.new.pages c.first_leaf.new.pages c.number.ensures.kept c.first_leaf.ensures.kept

pub returns-in_err-leaf-clause-reads : goal.returns-in_err-leaf-clause-reads
returns-in_err-leaf-clause-reads g c =
    let T = g.P.Pages.tells in
    let a = g.P.Pages.seen c.args.pages.now in
    let b = g.P.Pages.seen c.number.new.pages in
    let d = g.P.Pages.seen c.first_leaf.new.pages in
    reads_then T a b d (reads_looked T a b 0 c.requires.none_lent c.number.ensures.looks) c.first_leaf.ensures.reads

pub returns-in_err-leaf-clause-cause : goal.returns-in_err-leaf-clause-cause
returns-in_err-leaf-clause-cause g c =
    let T = g.P.Pages.tells in
    let a = g.P.Pages.seen c.args.pages.now in
    let b = g.P.Pages.seen c.number.new.pages in
    let d = g.P.Pages.seen c.first_leaf.new.pages in
    let count = c.in_ok-count.count in
    let root = c.args.root in
    let p = err_from_is_err_and c.from_residual-in_err-leaf.result c.from_residual-in_err-leaf.ensures.1 in
    let reads = reads_looked T a b 0 c.requires.none_lent c.number.ensures.looks in
    store_cause_on T a b d (λ start id. WasBad T start count id ⊎ IsDownFault T start count root id) (λ start. IsPairsFault T start c.args.cache)
    c.first_leaf.result c.from_residual-in_err-leaf.result c.in_err-leaf.field-0.0 p.0 c.in_err-leaf.was p.1 p.2 reads
    (λ start since id fault. record {
      count = count;
      count_is = had_number T start b Pages count (reads_then T start a b since reads) c.in_ok-count.ensures.number;
      root = root;
      some = c.requires.some;
      root_is = had_number T start a (Root c.args.cache) root since c.requires.root;
      fault = elim fault [ inl bad ↦ inl bad | inr down ↦ inr (inl down) ];
    })
    c.first_leaf.ensures.cause

pub returns-clause-kept : goal.returns-clause-kept
returns-clause-kept g c =
    g.met.P.Pages.kept_then c.args.pages.now c.number.new.pages c.append_leaves.new.pages c.number.ensures.kept
    (g.met.P.Pages.kept_then c.number.new.pages c.first_leaf.new.pages c.append_leaves.new.pages c.first_leaf.ensures.kept c.append_leaves.ensures.kept)

pub returns-clause-reads : goal.returns-clause-reads
returns-clause-reads g c =
    let T = g.P.Pages.tells in
    let a = g.P.Pages.seen c.args.pages.now in
    let b = g.P.Pages.seen c.number.new.pages in
    let d = g.P.Pages.seen c.first_leaf.new.pages in
    reads_then T a b (g.P.Pages.seen c.append_leaves.new.pages) (reads_looked T a b 0 c.requires.none_lent c.number.ensures.looks)
    (reads_then T b d (g.P.Pages.seen c.append_leaves.new.pages) c.first_leaf.ensures.reads c.append_leaves.ensures.reads)

pub returns-clause-pairs : goal.returns-clause-pairs
returns-clause-pairs g c = λ start since.
    let T = g.P.Pages.tells in
    let a = g.P.Pages.seen c.args.pages.now in
    let b = g.P.Pages.seen c.number.new.pages in
    let d = g.P.Pages.seen c.first_leaf.new.pages in
    let since_b = reads_then T start a b since (reads_looked T a b 0 c.requires.none_lent c.number.ensures.looks) in
    let since_d = reads_then T start b d since_b c.first_leaf.ensures.reads in
    had_tree T start c.args.cache c.in_ok-count.count c.args.root c.in_ok-leaf.leaf c.args.pairs.now.items c.append_leaves.new.pairs.items c.append_leaves.result
    (had_number T start b Pages c.in_ok-count.count since_b c.in_ok-count.ensures.number) c.requires.some (had_number T start a (Root c.args.cache) c.args.root since c.requires.root)
    (c.in_ok-leaf.ensures.leaf start since_b) (c.append_leaves.ensures.leaves start since_d)

pub returns-clause-cause : goal.returns-clause-cause
returns-clause-cause g c =
    let T = g.P.Pages.tells in
    let a = g.P.Pages.seen c.args.pages.now in
    let b = g.P.Pages.seen c.number.new.pages in
    let d = g.P.Pages.seen c.first_leaf.new.pages in
    let e = g.P.Pages.seen c.append_leaves.new.pages in
    let count = c.in_ok-count.count in
    let root = c.args.root in
    let leaf = c.in_ok-leaf.leaf in
    let reads = reads_looked T a b 0 c.requires.none_lent c.number.ensures.looks in
    cause_same T a d e (λ start id. WasBad T start count id ⊎ IsLeavesFault T start count c.args.cache leaf id) (λ start. IsPairsFault T start c.args.cache) c.append_leaves.result
    (reads_then T a b d reads c.first_leaf.ensures.reads)
    (λ start since id fault. record {
      count = count;
      count_is = had_number T start b Pages count (reads_then T start a b since reads) c.in_ok-count.ensures.number;
      root = root;
      some = c.requires.some;
      root_is = had_number T start a (Root c.args.cache) root since c.requires.root;
      fault = elim fault [ inl bad ↦ inl bad | inr wrong ↦ inr (inr (leaf, c.in_ok-leaf.ensures.leaf start (reads_then T start a b since reads), wrong)) ];
    })
    c.append_leaves.ensures.cause
