use Rattle.std.proofs.Common.{◌≡◌, ℕ, ◌+◌, ◌-◌, Option, arith, sym, ap, subst, ◌∙◌, inl, inr}
use Rattle.std.specs.Option.{option_map}
use Rattle.pm_types.specs.Ids.{page_id}
use Rattle.pm_meta.specs.declared.slots.MetaSlot.TheVariants.{Pages}
use Rattle.pm_pages.proofs.EditedPages.{looks_then}
use Rattle.pm_pages.proofs.TakenPages.{number_looked}
use Rattle.pm_tree.specs.Steps.{IsLook, IsPath}
use Rattle.pm_tree.specs.Indexes.{as_link, AnswersFrom}
use Rattle.pm_tree.specs.declared.steps.Step.TheVariants.{Word, Child, Other}
use Rattle.pm_tree.proofs.Descents.{path_looked, word_answers, child_answers, path_child, names_no_node}
use Rattle.std.proofs.lemmas.Result.{err_from_is_err_and}
use Rattle.pm_pages.proofs.PassingLooks.{bad_passed}
use Rattle.pm_tree.proofs.SoundLooks.{answers_not_bad, answers_are_nodes, answers_end}
use Rattle.pm_tree.proofs.get.descend.Goals as goal

pub returns-in-Word-clause-gets : goal.returns-in-Word-clause-gets
returns-in-Word-clause-gets g c =
    let T = g.P.Pages.tells in
    let a = g.P.Pages.seen c.args.pages.now in
    let b = g.P.Pages.seen c.levels.pages in
    let d = g.P.Pages.seen c.look.new.pages in
    let looks = looks_then T a b d c.levels._level 1 c.levels.invariant.looks c.look.ensures.looks in
    let number = number_looked T b d 1 Pages c.in_ok-count.count c.look.ensures.looks c.levels.invariant.number in
    let look = subst (IsLook d c.in_ok-count.count c.levels.at c.args.key.now) {y = Word c.in-Word.word} c.in-Word.is c.in_ok-word.ensures.step in
    λ t word answers. c.link_of.ensures ∙ ap (λ (w : Option ℕ). option_map as_link w)
    (word_answers T a d (c.levels._level + 1) c.in_ok-count.count c.levels.at (8 - c.levels._level) c.args.key.now c.in-Word.word word t looks number look (c.levels.invariant.answers t word answers))

pub returns-in-Other-clause-cause : goal.returns-in-Other-clause-cause
returns-in-Other-clause-cause g c =
    let T = g.P.Pages.tells in
    let b = g.P.Pages.seen c.levels.pages in
    let d = g.P.Pages.seen c.look.new.pages in
    let number = number_looked T b d 1 Pages c.in_ok-count.count c.look.ensures.looks c.levels.invariant.number in
    let look = subst (IsLook d c.in_ok-count.count c.levels.at c.args.key.now) {y = Other} c.in-Other.is c.in_ok-word.ensures.step in
    let path = path_looked T b d 1 c.args.cache c.levels._level c.levels.from c.levels.at c.look.ensures.looks c.levels.invariant.path in
    record {
      failed = λ e. absurd (cc e);
      bad = λ id e.
          let is : c.new.result ≡ id = cc e in
          inr (inl (names_no_node d c.args.cache c.levels._level c.levels.from c.levels.at c.in_ok-count.count c.args.key.now id (sym is ∙ c.new.ensures ∙ ap (λ n. page_id n c.levels.from) c.part.ensures) path number look));
    }

pub levels-preserved : goal.levels-preserved
levels-preserved g c =
    let T = g.P.Pages.tells in
    let a = g.P.Pages.seen c.args.pages.now in
    let b = g.P.Pages.seen c.levels.pages in
    let d = g.P.Pages.seen c.look.new.pages in
    let looks = looks_then T a b d c.levels._level 1 c.levels.invariant.looks c.look.ensures.looks in
    let number = number_looked T b d 1 Pages c.in_ok-count.count c.look.ensures.looks c.levels.invariant.number in
    let look = subst (IsLook d c.in_ok-count.count c.levels.at c.args.key.now) {y = Child c.in-Child.child} c.in-Child.is c.in_ok-word.ensures.step in
    let path = path_looked T b d 1 c.args.cache c.levels._level c.levels.from c.levels.at c.look.ensures.looks c.levels.invariant.path in
    let less : 8 - c.levels._level - 1 ≡ 8 - (c.levels._level + 1) = omega arith in
    record {
      kept = g.met.P.Pages.kept_then c.args.pages.now c.levels.pages c.look.new.pages c.levels.invariant.kept c.look.ensures.kept;
      looks = looks;
      readable = c.look.ensures.readable;
      path = path_child d c.args.cache c.levels._level c.levels.from c.levels.at c.in_ok-count.count c.in-Child.child c.args.key.now path look;
      number = number;
      answers = λ t word answers. subst (λ n. AnswersFrom a.pages c.args.key.now n c.in-Child.child word) less
          (child_answers T a d (c.levels._level + 1) c.in_ok-count.count c.levels.at (8 - c.levels._level) c.in-Child.child c.args.key.now word t looks number look (c.levels.invariant.answers t word answers));
    }

pub returns-clause-cause : goal.returns-clause-cause
returns-clause-cause g c =
    let b = g.P.Pages.seen c.levels.pages in
    let last : c.levels._level ≡ 8 = omega arith in
    record {
      failed = λ e. absurd (cc e);
      bad = λ id e.
          let is : c.new-2.result ≡ id = cc e in
          inr (inr (record { from = c.levels.from; at = c.levels.at; name = sym is ∙ c.new-2.ensures ∙ ap (λ n. page_id n c.levels.from) c.part-2.ensures; path = subst (λ n. IsPath b c.args.cache n c.levels.from c.levels.at) last c.levels.invariant.path }));
    }

pub returns-in_err-count-clause-sound : goal.returns-in_err-count-clause-sound
returns-in_err-count-clause-sound g c = λ t all word answers id e.
    let p = err_from_is_err_and c.from_residual.result c.from_residual.ensures.1 in
    c.number.ensures.cause.not_bad id (bad_passed c.number.result c.from_residual.result c.in_err-count.field-0.0 p.0 c.in_err-count.was p.1 p.2 id e)

-- the page that is looked at is one of a tree, and passes its check
pub returns-in_err-word-clause-sound : goal.returns-in_err-word-clause-sound
returns-in_err-word-clause-sound g c = λ t all word answers id e.
    let T = g.P.Pages.tells in
    let a = g.P.Pages.seen c.args.pages.now in
    let b = g.P.Pages.seen c.levels.pages in
    let p = err_from_is_err_and c.from_residual-in_err-word.result c.from_residual-in_err-word.ensures.1 in
    let bad = c.look.ensures.cause.bad id (bad_passed c.look.result c.from_residual-in_err-word.result c.in_err-word.field-0.0 p.0 c.in_err-word.was p.1 p.2 id e) in
    answers_not_bad T a b c.levels._level (8 - c.levels._level) c.levels.at c.args.key.now word id t all c.levels.invariant.looks (c.levels.invariant.answers t word answers) bad

pub returns-in-Other-clause-sound : goal.returns-in-Other-clause-sound
returns-in-Other-clause-sound g c = λ t all word answers id e.
    let T = g.P.Pages.tells in
    let a = g.P.Pages.seen c.args.pages.now in
    let b = g.P.Pages.seen c.levels.pages in
    let d = g.P.Pages.seen c.look.new.pages in
    let looks = looks_then T a b d c.levels._level 1 c.levels.invariant.looks c.look.ensures.looks in
    let number = number_looked T b d 1 Pages c.in_ok-count.count c.look.ensures.looks c.levels.invariant.number in
    let look = subst (IsLook d c.in_ok-count.count c.levels.at c.args.key.now) {y = Other} c.in-Other.is c.in_ok-word.ensures.step in
    answers_are_nodes T a d (c.levels._level + 1) c.in_ok-count.count (8 - c.levels._level) c.levels.at c.args.key.now word t all looks number (c.levels.invariant.answers t word answers) look

-- a tree has no page on a level past the last
pub returns-clause-sound : goal.returns-clause-sound
returns-clause-sound g c = λ t all word answers id e.
    answers_end (g.P.Pages.seen c.args.pages.now) (8 - c.levels._level) c.levels.at c.args.key.now word (omega arith) (c.levels.invariant.answers t word answers)
