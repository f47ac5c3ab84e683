use Rattle.std.proofs.Common.{ℕ, ◌≡◌, ◌⊎◌, [], Option, None, refl, sym, subst, ◌∙◌, inl, inr}
use Rattle.std.specs.Prelude.{IfSome, IfNone}
use Rattle.std.proofs.lemmas.Result.{err_from_is_err_and}
use Rattle.std.proofs.lemmas.List.{append-nil}
use Rattle.pm_meta.specs.declared.slots.MetaSlot.TheVariants.{Root}
use Rattle.pm_pages.specs.Paged.{IsFirstAbsent}
use Rattle.pm_pages.specs.Edits.{IsNumberIn}
use Rattle.pm_part.specs.PairFaults.{WasBad, IsPairsFault}
use Rattle.pm_part.proofs.ReadOn.{reads_then, reads_given_up, reads_looked}
use Rattle.pm_part.proofs.PairCauses.{cause_same, store_cause_on, bad_meta, pairs_cause}
use Rattle.pm_part.proofs.PairWalks.{had_number, tree_or_none}
use Rattle.pm_part.proofs.pairs.append_pairs.Goals as goal

pub returns-in_err-find_number-clause-cause : goal.returns-in_err-find_number-clause-cause
returns-in_err-find_number-clause-cause g c =
    let T = g.P.Pages.tells in
    let a = g.P.Pages.seen c.args.pages.now in
    let b = g.P.Pages.seen c.let_go.new.self in
    let d = g.P.Pages.seen c.find_number.new.pages in
    let p = err_from_is_err_and c.from_residual.result c.from_residual.ensures.1 in
    pairs_cause T a d c.args.cache c.from_residual.result c.requires.none_lent
    (store_cause_on T a b d (λ start. WasBad T start 0) (λ start id. WasBad T start 0 id ⊎ IsPairsFault T start c.args.cache id)
    c.find_number.result c.from_residual.result c.in_err-find_number.field-0.0 p.0 c.in_err-find_number.was p.1 p.2 (reads_given_up T a b c.let_go.ensures.gives_up)
    (λ start since id bad. inl bad) (bad_meta T b d c.find_number.result c.let_go.ensures.gives_up.none_lent c.find_number.ensures.cause))

pub returns-in-None-clause-pairs : goal.returns-in-None-clause-pairs
returns-in-None-clause-pairs g c =
    let T = g.P.Pages.tells in
    let b = g.P.Pages.seen c.let_go.new.self in
    let none = subst (λ (o : Option ℕ). IfNone o (IsFirstAbsent T b 0)) {y = None} c.in-None.is c.in_ok-find_number.ensures.none in
    record {
      more = [];
      appended = sym (append-nil c.args.pairs.now.items);
      are = inl (inl (λ t. sym (c.let_go.ensures.gives_up.pages 0 (inl t)) ∙ none.absent (inl t)), refl);
    }

pub returns-then-root-eq0-clause-pairs : goal.returns-then-root-eq0-clause-pairs
returns-then-root-eq0-clause-pairs g c =
    let T = g.P.Pages.tells in
    let a = g.P.Pages.seen c.args.pages.now in
    let b = g.P.Pages.seen c.let_go.new.self in
    let d = g.P.Pages.seen c.find_number.new.pages in
    let reads = reads_then T a b d (reads_given_up T a b c.let_go.ensures.gives_up) (reads_looked T b d 1 c.let_go.ensures.gives_up.none_lent c.find_number.ensures.looks) in
    let number : IsNumberIn d (Root c.args.cache) c.in-Some.root = subst (λ (o : Option ℕ). IfSome o (IsNumberIn d (Root c.args.cache))) c.in-Some.is c.in_ok-find_number.ensures.number in
    let none : c.in-Some.root ≡ 0 = c.if-root-eq0.true in
    record {
      more = [];
      appended = sym (append-nil c.args.pairs.now.items);
      are = inl (inr (had_number T a d (Root c.args.cache) 0 reads (subst (IsNumberIn d (Root c.args.cache)) none number)), refl);
    }

pub returns-else-root-eq0-clause-kept : goal.returns-else-root-eq0-clause-kept
returns-else-root-eq0-clause-kept g c =
    g.met.P.Pages.kept_then c.args.pages.now c.let_go.new.self c.append_tree.new.pages c.let_go.ensures.kept
    (g.met.P.Pages.kept_then c.let_go.new.self c.find_number.new.pages c.append_tree.new.pages c.find_number.ensures.kept c.append_tree.ensures.kept)

pub returns-else-root-eq0-clause-reads : goal.returns-else-root-eq0-clause-reads
returns-else-root-eq0-clause-reads g c =
    let T = g.P.Pages.tells in
    let a = g.P.Pages.seen c.args.pages.now in
    let b = g.P.Pages.seen c.let_go.new.self in
    let d = g.P.Pages.seen c.find_number.new.pages in
    reads_then T a d (g.P.Pages.seen c.append_tree.new.pages)
    (reads_then T a b d (reads_given_up T a b c.let_go.ensures.gives_up) (reads_looked T b d 1 c.let_go.ensures.gives_up.none_lent c.find_number.ensures.looks)) c.append_tree.ensures.reads

pub returns-else-root-eq0-clause-pairs : goal.returns-else-root-eq0-clause-pairs
returns-else-root-eq0-clause-pairs g c =
    let T = g.P.Pages.tells in
    let a = g.P.Pages.seen c.args.pages.now in
    let b = g.P.Pages.seen c.let_go.new.self in
    let d = g.P.Pages.seen c.find_number.new.pages in
    let reads = reads_then T a b d (reads_given_up T a b c.let_go.ensures.gives_up) (reads_looked T b d 1 c.let_go.ensures.gives_up.none_lent c.find_number.ensures.looks) in
    tree_or_none T a c.args.cache c.args.pairs.now.items c.append_tree.new.pairs.items c.append_tree.result (c.append_tree.ensures.pairs a reads)

pub returns-else-root-eq0-clause-cause : goal.returns-else-root-eq0-clause-cause
returns-else-root-eq0-clause-cause g c =
    let T = g.P.Pages.tells in
    let a = g.P.Pages.seen c.args.pages.now in
    let b = g.P.Pages.seen c.let_go.new.self in
    let d = g.P.Pages.seen c.find_number.new.pages in
    let reads = reads_then T a b d (reads_given_up T a b c.let_go.ensures.gives_up) (reads_looked T b d 1 c.let_go.ensures.gives_up.none_lent c.find_number.ensures.looks) in
    pairs_cause T a (g.P.Pages.seen c.append_tree.new.pages) c.args.cache c.append_tree.result c.requires.none_lent
    (cause_same T a d (g.P.Pages.seen c.append_tree.new.pages) (λ start. IsPairsFault T start c.args.cache) (λ start id. WasBad T start 0 id ⊎ IsPairsFault T start c.args.cache id) c.append_tree.result reads
    (λ start since id fault. inr fault) c.append_tree.ensures.cause)
