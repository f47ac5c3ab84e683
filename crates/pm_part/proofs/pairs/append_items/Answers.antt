use Rattle.std.proofs.Common.{◌<◌, ◌⊎◌, length, ap, inl, inr, arith}
use Rattle.std.proofs.lemmas.Result.{err_from_is_err_and}
use Rattle.pm_btpage.specs.IndexPages.{items_of}
use Rattle.pm_tree.specs.Indexes.{as_link}
use Rattle.pm_part.specs.PairFaults.{WasBad, IsPairFault, IsItemFault}
use Rattle.pm_part.proofs.ReadOn.{reads_none, reads_then}
use Rattle.pm_part.proofs.PairCauses.{cause_on}
use Rattle.pm_part.proofs.PairItems.{next_appended, none_appended, all_appended, item_fault}
use Rattle.pm_part.proofs.pairs.append_items.Goals as goal

pub items-init : goal.items-init
items-init g c = record {
  kept = g.met.P.Pages.kept_refl c.args.pages.now;
  reads = reads_none g.P.Pages.tells (g.P.Pages.seen c.args.pages.now) c.requires.none_lent;
  readable = c.requires.readable;
  budget = record { most = omega arith; spare = omega arith };
  pairs = λ start since. none_appended g.P.Pages.tells start c.args.count c.args.cache (items_of c.args.page.now) c.args.pairs.now.items;
}

pub items-preserved : goal.items-preserved
items-preserved g c = record {
  kept = g.met.P.Pages.kept_then c.args.pages.now c.items.pages c.read_pair.new.pages c.items.invariant.kept c.read_pair.ensures.kept;
  reads = reads_then g.P.Pages.tells (g.P.Pages.seen c.args.pages.now) (g.P.Pages.seen c.items.pages) (g.P.Pages.seen c.read_pair.new.pages) c.items.invariant.reads c.read_pair.ensures.reads;
  readable = c.read_pair.ensures.readable;
  budget = c.read_pair.ensures.budget;
  pairs = λ start since.
      let since' = reads_then g.P.Pages.tells start (g.P.Pages.seen c.args.pages.now) (g.P.Pages.seen c.items.pages) since c.items.invariant.reads in
      next_appended g.P.Pages.tells start c.args.count c.args.cache (items_of c.args.page.now) c.items.i c.args.pairs.now.items c.items.pairs.items c.push.new.self.items (as_link c.word_at.result) c.key_at-key.result.now c.in_ok-pair.pair
      (omega (arith, c.items-test.true, c.count-i-end.ensures)) (ap as_link c.word_at.ensures) c.key_at-key.ensures.key c.in_ok-push.ensures.items (c.items.invariant.pairs start since) (c.in_ok-pair.ensures.pair start since');
}

pub returns-in_err-pair-clause-cause : goal.returns-in_err-pair-clause-cause
returns-in_err-pair-clause-cause g c =
    let T = g.P.Pages.tells in
    let a = g.P.Pages.seen c.args.pages.now in
    let b = g.P.Pages.seen c.items.pages in
    let d = g.P.Pages.seen c.read_pair.new.pages in
    let p = err_from_is_err_and c.from_residual.result c.from_residual.ensures.1 in
    let count = c.args.count in
    let cache = c.args.cache in
    let leaf = c.args.leaf in
    let page = c.args.page.now in
    let link = as_link c.word_at.result in
    let key = c.key_at-key.result.now in
    let lt : c.items.i < length (items_of page) = omega (arith, c.items-test.true, c.count-i-end.ensures) in
    cause_on T a b d (λ start id. WasBad T start count id ⊎ IsPairFault T start count cache leaf link key id) (λ start id. WasBad T start count id ⊎ IsItemFault T start count cache leaf page id)
    c.read_pair.result c.from_residual.result c.in_err-pair.field-0.0 p.0 c.in_err-pair.was p.1 p.2 c.items.invariant.reads
    (λ start since id fault. elim fault [ inl bad ↦ inl bad | inr wrong ↦ inr (item_fault T start count cache leaf c.items.i page link key id lt (ap as_link c.word_at.ensures) c.key_at-key.ensures.key wrong) ])
    c.read_pair.ensures.cause

pub returns-in_err-push-clause-kept : goal.returns-in_err-push-clause-kept
returns-in_err-push-clause-kept g c = g.met.P.Pages.kept_then c.args.pages.now c.items.pages c.read_pair.new.pages c.items.invariant.kept c.read_pair.ensures.kept

pub returns-clause-pairs : goal.returns-clause-pairs
returns-clause-pairs g c = λ start since.
    all_appended g.P.Pages.tells start c.args.count c.args.cache (items_of c.args.page.now) c.items.i c.args.pairs.now.items c.items.pairs.items (omega (arith, c.items-test.false, c.count-i-end.ensures)) (c.items.invariant.pairs start since)
