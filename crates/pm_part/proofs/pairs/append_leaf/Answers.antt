use Rattle.std.proofs.Common.{◌⊎◌, refl, inl, inr}
use Rattle.std.proofs.lemmas.Result.{err_from_is_err_and}
use Rattle.pm_part.specs.PairFaults.{WasBad, IsItemFault, IsLeafFault}
use Rattle.pm_part.proofs.ReadOn.{reads_then}
use Rattle.pm_part.proofs.PairCauses.{cause_on, cause_named, named_at}
use Rattle.pm_part.proofs.pairs.append_leaf.Goals as goal

pub returns-in_err-append_items-clause-kept : goal.returns-in_err-append_items-clause-kept
returns-in_err-append_items-clause-kept g c = g.met.P.Pages.kept_then c.args.pages.now c.read_leaf.new.pages c.append_items.new.pages c.read_leaf.ensures.kept c.append_items.ensures.kept

pub returns-in_err-append_items-clause-reads : goal.returns-in_err-append_items-clause-reads
returns-in_err-append_items-clause-reads g c = reads_then g.P.Pages.tells (g.P.Pages.seen c.args.pages.now) (g.P.Pages.seen c.read_leaf.new.pages) (g.P.Pages.seen c.append_items.new.pages) c.read_leaf.ensures.reads c.append_items.ensures.reads

pub returns-clause-kept : goal.returns-clause-kept
returns-clause-kept g c = g.met.P.Pages.kept_then c.args.pages.now c.read_leaf.new.pages c.append_items.new.pages c.read_leaf.ensures.kept c.append_items.ensures.kept

pub returns-clause-reads : goal.returns-clause-reads
returns-clause-reads g c = reads_then g.P.Pages.tells (g.P.Pages.seen c.args.pages.now) (g.P.Pages.seen c.read_leaf.new.pages) (g.P.Pages.seen c.append_items.new.pages) c.read_leaf.ensures.reads c.append_items.ensures.reads

pub returns-then-not-branch-clause-cause : goal.returns-then-not-branch-clause-cause
returns-then-not-branch-clause-cause g c =
    let T = g.P.Pages.tells in
    let a = g.P.Pages.seen c.args.pages.now in
    let d = g.P.Pages.seen c.read_leaf.new.pages in
    cause_named T a d (λ start id. WasBad T start c.args.count id ⊎ IsLeafFault T start c.args.count c.args.cache c.args.from c.args.at id) c.new.result _ refl
    (λ start since. inr (inl (record {
      name = named_at T start a d c.part.result c.args.from c.new.result since c.read_leaf.ensures.reads c.part.ensures c.new.ensures;
      none = (c.in_ok-read_leaf.ensures.read start since).1 c.if-not-branch.true;
    })))

pub returns-in_err-append_items-clause-cause : goal.returns-in_err-append_items-clause-cause
returns-in_err-append_items-clause-cause g c =
    let T = g.P.Pages.tells in
    let a = g.P.Pages.seen c.args.pages.now in
    let b = g.P.Pages.seen c.read_leaf.new.pages in
    let d = g.P.Pages.seen c.append_items.new.pages in
    let p = err_from_is_err_and c.from_residual-in_err-append_items.result c.from_residual-in_err-append_items.ensures.1 in
    let page = c.read_leaf.new.into in
    cause_on T a b d (λ start id. WasBad T start c.args.count id ⊎ IsItemFault T start c.args.count c.args.cache c.args.at page id)
    (λ start id. WasBad T start c.args.count id ⊎ IsLeafFault T start c.args.count c.args.cache c.args.from c.args.at id)
    c.append_items.result c.from_residual-in_err-append_items.result c.in_err-append_items.field-0.0 p.0 c.in_err-append_items.was p.1 p.2 c.read_leaf.ensures.reads
    (λ start since id fault. elim fault [
      | inl bad ↦ inl bad
      | inr wrong ↦ inr (inr (record { name = wrong.name; page = page; was = (c.in_ok-read_leaf.ensures.read start since).0 c.if-not-branch.false; wrong = wrong.wrong }))
    ])
    c.append_items.ensures.cause

pub returns-clause-leaf : goal.returns-clause-leaf
returns-clause-leaf g c = λ start since.
    let T = g.P.Pages.tells in
    let since' = reads_then T start (g.P.Pages.seen c.args.pages.now) (g.P.Pages.seen c.read_leaf.new.pages) since c.read_leaf.ensures.reads in
    let appends = c.in_ok-append_items.ensures.pairs start since' in
    record {
      more = appends.more;
      appended = appends.appended;
      are = record { page = c.read_leaf.new.into; was = (c.in_ok-read_leaf.ensures.read start since).0 c.if-not-branch.false; next_is = c.next.ensures; pairs_are = appends.are };
    }
