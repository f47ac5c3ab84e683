use Rattle.std.proofs.Common.{◌≡◌, ◌≢◌, ◌+◌, ◌⊎◌, refl, inl, inr, arith}
use Rattle.std.proofs.lemmas.Result.{err_from_is_err_and}
use Rattle.pm_part.specs.PairFaults.{WasBad, IsLeafFault, IsLeavesFault}
use Rattle.pm_part.proofs.PairCauses.{cause_on, cause_named, named_at}
use Rattle.pm_part.proofs.PairWalks.{no_leaves, leaves_more, all_leaves}
use Rattle.pm_part.proofs.ReadOn.{reads_none, reads_then}
use Rattle.pm_part.proofs.pairs.append_leaves.Goals as goal

pub leaves-init : goal.leaves-init
leaves-init g c = record { kept = g.met.P.Pages.kept_refl c.args.pages.now; reads = reads_none g.P.Pages.tells (g.P.Pages.seen c.args.pages.now) c.requires.none_lent; readable = c.requires.readable; some = c.requires.first; leaves = λ start since. no_leaves g.P.Pages.tells start c.args.count c.args.cache c.args.first c.args.pairs.now.items }

pub leaves-preserved : goal.leaves-preserved
leaves-preserved g c = record {
  kept = g.met.P.Pages.kept_then c.args.pages.now c.leaves.pages c.append_leaf.new.pages c.leaves.invariant.kept c.append_leaf.ensures.kept;
  reads = reads_then g.P.Pages.tells (g.P.Pages.seen c.args.pages.now) (g.P.Pages.seen c.leaves.pages) (g.P.Pages.seen c.append_leaf.new.pages) c.leaves.invariant.reads c.append_leaf.ensures.reads;
  readable = c.append_leaf.ensures.readable;
  some = (let other : c.in_ok-after.after ≢ 0 = c.if-after-eq0.false in omega (arith, other));
  leaves = λ start since.
      let T = g.P.Pages.tells in
      let since' = reads_then T start (g.P.Pages.seen c.args.pages.now) (g.P.Pages.seen c.leaves.pages) since c.leaves.invariant.reads in
      leaves_more T start c.args.count c.args.cache c.args.first c.leaves._turn c.leaves.from c.leaves.at c.in_ok-after.after c.args.pairs.now.items c.leaves.pairs.items c.append_leaf.new.pairs.items (c.leaves.invariant.leaves start since) (c.in_ok-after.ensures.leaf start since');
}

pub returns-in_err-after-clause-cause : goal.returns-in_err-after-clause-cause
returns-in_err-after-clause-cause g c =
    let T = g.P.Pages.tells in
    let a = g.P.Pages.seen c.args.pages.now in
    let b = g.P.Pages.seen c.leaves.pages in
    let d = g.P.Pages.seen c.append_leaf.new.pages in
    let p = err_from_is_err_and c.from_residual.result c.from_residual.ensures.1 in
    cause_on T a b d (λ start id. WasBad T start c.args.count id ⊎ IsLeafFault T start c.args.count c.args.cache c.leaves.from c.leaves.at id)
    (λ start id. WasBad T start c.args.count id ⊎ IsLeavesFault T start c.args.count c.args.cache c.args.first id)
    c.append_leaf.result c.from_residual.result c.in_err-after.field-0.0 p.0 c.in_err-after.was p.1 p.2 c.leaves.invariant.reads
    (λ start since id fault. elim fault [
      | inl bad ↦ inl bad
      | inr wrong ↦
          let read = c.leaves.invariant.leaves start since in
          inr (record { leaves = c.leaves._turn; from = c.leaves.from; at = c.leaves.at; pairs = read.more; read = read.are; some = c.leaves.invariant.some; wrong = inl wrong })
    ])
    c.append_leaf.ensures.cause

pub returns-then-after-eq0-clause-leaves : goal.returns-then-after-eq0-clause-leaves
returns-then-after-eq0-clause-leaves g c = λ start since.
    let T = g.P.Pages.tells in
    let since' = reads_then T start (g.P.Pages.seen c.args.pages.now) (g.P.Pages.seen c.leaves.pages) since c.leaves.invariant.reads in
    let none : c.in_ok-after.after ≡ 0 = c.if-after-eq0.true in
    all_leaves T start c.args.count c.args.cache c.args.first (c.leaves._turn + 1) c.leaves.at c.in_ok-after.after c.args.pairs.now.items c.append_leaf.new.pairs.items none
    (leaves_more T start c.args.count c.args.cache c.args.first c.leaves._turn c.leaves.from c.leaves.at c.in_ok-after.after c.args.pairs.now.items c.leaves.pairs.items c.append_leaf.new.pairs.items (c.leaves.invariant.leaves start since) (c.in_ok-after.ensures.leaf start since'))

pub returns-clause-cause : goal.returns-clause-cause
returns-clause-cause g c =
    let T = g.P.Pages.tells in
    let a = g.P.Pages.seen c.args.pages.now in
    let b = g.P.Pages.seen c.leaves.pages in
    let all : c.leaves._turn ≡ c.args.count = omega arith in
    cause_named T a b (λ start id. WasBad T start c.args.count id ⊎ IsLeavesFault T start c.args.count c.args.cache c.args.first id) c.new.result _ refl
    (λ start since.
    let read = c.leaves.invariant.leaves start since in
    inr (record {
      leaves = c.leaves._turn;
      from = c.leaves.from;
      at = c.leaves.at;
      pairs = read.more;
      read = read.are;
      some = c.leaves.invariant.some;
      wrong = inr (all, named_at T start a b c.part.result c.leaves.from c.new.result since c.leaves.invariant.reads c.part.ensures c.new.ensures);
    }))
