use Rattle.std.proofs.Common.{◌≡◌, ◌⊎◌, refl, subst, inl, inr, arith}
use Rattle.std.proofs.lemmas.Result.{err_from_is_err_and}
use Rattle.pm_part.specs.declared.pairs.Down.TheVariants.{Leaf, Child, Other}
use Rattle.pm_part.specs.PairReads.{IsDown}
use Rattle.pm_part.specs.PairFaults.{WasBad, IsDownFault}
use Rattle.pm_part.proofs.PairCauses.{page_cause_on, page_cause_named, named_at}
use Rattle.pm_part.proofs.PairWalks.{was_leaf, leads_on}
use Rattle.pm_part.proofs.ReadOn.{reads_none, reads_then}
use Rattle.pm_part.proofs.pairs.first_leaf.Goals as goal

pub levels-init : goal.levels-init
levels-init g c = record { kept = g.met.P.Pages.kept_refl c.args.pages.now; reads = reads_none g.P.Pages.tells (g.P.Pages.seen c.args.pages.now) c.requires.none_lent; readable = c.requires.readable; leads = λ start since. (refl, refl) }

pub levels-preserved : goal.levels-preserved
levels-preserved g c = record {
  kept = g.met.P.Pages.kept_then c.args.pages.now c.levels.pages c.look_down.new.pages c.levels.invariant.kept c.look_down.ensures.kept;
  reads = reads_then g.P.Pages.tells (g.P.Pages.seen c.args.pages.now) (g.P.Pages.seen c.levels.pages) (g.P.Pages.seen c.look_down.new.pages) c.levels.invariant.reads c.look_down.ensures.reads;
  readable = c.look_down.ensures.readable;
  leads = λ start since.
      let T = g.P.Pages.tells in
      let since' = reads_then T start (g.P.Pages.seen c.args.pages.now) (g.P.Pages.seen c.levels.pages) since c.levels.invariant.reads in
      let down = subst (IsDown T start c.args.count c.levels.at) {y = Child c.in-Child.child} c.in-Child.is (c.in_ok-look_down.ensures.down start since') in
      leads_on T start c.args.count c.args.root c.levels._level c.levels.from c.levels.at c.in-Child.child (c.levels.invariant.leads start since) down;
}

pub returns-in-Leaf-clause-leaf : goal.returns-in-Leaf-clause-leaf
returns-in-Leaf-clause-leaf g c = λ start since.
    let T = g.P.Pages.tells in
    let since' = reads_then T start (g.P.Pages.seen c.args.pages.now) (g.P.Pages.seen c.levels.pages) since c.levels.invariant.reads in
    let down = subst (IsDown T start c.args.count c.levels.at) {y = Leaf} c.in-Leaf.is (c.in_ok-look_down.ensures.down start since') in
    record {
      levels = c.levels._level;
      few = omega (arith, c.levels-test.true);
      from = c.levels.from;
      read = c.levels.invariant.leads start since;
      was = was_leaf T start c.args.count c.levels.at down;
    }

pub returns-in_err-look_down-clause-cause : goal.returns-in_err-look_down-clause-cause
returns-in_err-look_down-clause-cause g c =
    let T = g.P.Pages.tells in
    let a = g.P.Pages.seen c.args.pages.now in
    let b = g.P.Pages.seen c.levels.pages in
    let d = g.P.Pages.seen c.look_down.new.pages in
    let p = err_from_is_err_and c.from_residual.result c.from_residual.ensures.1 in
    page_cause_on T a b d (λ start. WasBad T start c.args.count) (λ start id. WasBad T start c.args.count id ⊎ IsDownFault T start c.args.count c.args.root id)
    c.look_down.result c.from_residual.result c.in_err-look_down.field-0.0 p.0 c.in_err-look_down.was p.1 p.2 c.levels.invariant.reads (λ start since id bad. inl bad) c.look_down.ensures.cause

pub returns-in-Other-clause-cause : goal.returns-in-Other-clause-cause
returns-in-Other-clause-cause g c =
    let T = g.P.Pages.tells in
    let a = g.P.Pages.seen c.args.pages.now in
    let b = g.P.Pages.seen c.levels.pages in
    let d = g.P.Pages.seen c.look_down.new.pages in
    let reads = reads_then T a b d c.levels.invariant.reads c.look_down.ensures.reads in
    page_cause_named T a d (λ start id. WasBad T start c.args.count id ⊎ IsDownFault T start c.args.count c.args.root id) c.new.result _ refl
    (λ start since. inr (record {
      levels = c.levels._level;
      from = c.levels.from;
      at = c.levels.at;
      read = c.levels.invariant.leads start since;
      name = named_at T start a d c.part.result c.levels.from c.new.result since reads c.part.ensures c.new.ensures;
      wrong = inl (subst (IsDown T start c.args.count c.levels.at) {y = Other} c.in-Other.is (c.in_ok-look_down.ensures.down start (reads_then T start a b since c.levels.invariant.reads)));
    }))

pub returns-clause-cause : goal.returns-clause-cause
returns-clause-cause g c =
    let T = g.P.Pages.tells in
    let a = g.P.Pages.seen c.args.pages.now in
    let b = g.P.Pages.seen c.levels.pages in
    let last : c.levels._level ≡ 8 = omega arith in
    page_cause_named T a b (λ start id. WasBad T start c.args.count id ⊎ IsDownFault T start c.args.count c.args.root id) c.new-2.result _ refl
    (λ start since. inr (record {
      levels = c.levels._level;
      from = c.levels.from;
      at = c.levels.at;
      read = c.levels.invariant.leads start since;
      name = named_at T start a b c.part-2.result c.levels.from c.new-2.result since c.levels.invariant.reads c.part-2.ensures c.new-2.ensures;
      wrong = inr last;
    }))
