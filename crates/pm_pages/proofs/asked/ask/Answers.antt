use Rattle.std.proofs.Common.{◌≡◌, ℕ, ◌<◌, ◌≤◌, List, [], ◌∷◌, ◌++◌, ◌⊎◌, length, subst, sym, ap, ◌∙◌, arith, inl, inr}
use Rattle.std.specs.Prelude.{Some, IsSome, unwrap_or}
use Rattle.pm_pages.specs.declared.asked.Asked.{Asked}
use Rattle.pm_pages.specs.Asked.{to_read, entry_of, position_of, entry_or_new, RegistersPage}
use Rattle.pm_pages.proofs.AskedPages.{entry_at, no_entry, position-le, position_of-push, entry_of-push, pushed, as_before}
use Rattle.pm_pages.proofs.asked.ask.Goals as goal

room : (asked : List Asked) (index capacity : ℕ) → length asked ≤ position_of asked index → (IsSome (entry_of asked index) ⊎ (length asked < capacity)) → length asked < capacity
room asked index capacity le known = elim known [
  | inl there ↦ (let none = subst IsSome (no_entry asked index le) there in absurd (cc none))
  | inr lt ↦ lt
]

pushed_entry : (asked now : List Asked) (index : ℕ) → length asked ≤ position_of asked index → now ≡ asked ++ to_read index ∷ [] → entry_of now index ≡ Some (entry_or_new asked index)
pushed_entry asked now index le is = ap (λ xs. entry_of xs index) is ∙ entry_of-push asked index le ∙ ap (λ o. Some (unwrap_or o (to_read index))) (sym (no_entry asked index le))

kept_entry : (asked : List Asked) (index : ℕ) (d : Asked) → position_of asked index < length asked → entry_of asked index ≡ Some (entry_or_new asked index)
kept_entry asked index d lt = (entry_at asked index d lt).0 ∙ ap (λ o. Some (unwrap_or o (to_read index))) (sym (entry_at asked index d lt).0)

pub push-requires : goal.push-requires
push-requires c =
    let is = c.position-position.ensures ∙ ap (λ xs. position_of xs c.args.index) c.deref.ensures.value in
    room c.args.asked.now.items c.args.index _ (omega (arith, is, sym c.deref.ensures.len ∙ ap length c.deref.ensures.value, c.len.ensures, c.if-position-len.true)) c.requires

pub returns-then-position-len-clause-position : goal.returns-then-position-len-clause-position
returns-then-position-len-clause-position c =
    let is = c.position-position.ensures ∙ ap (λ xs. position_of xs c.args.index) c.deref.ensures.value in
    let long = sym c.deref.ensures.len ∙ ap length c.deref.ensures.value in
    let le : length c.args.asked.now.items ≤ position_of c.args.asked.now.items c.args.index = omega (arith, is, long, c.len.ensures, c.if-position-len.true) in
    c.if-position-len.true ∙ c.len.ensures ∙ long ∙ sym (position_of-push c.args.asked.now.items c.args.index le) ∙ ap (λ xs. position_of xs c.args.index) (sym c.push.ensures.entry)

pub returns-then-position-len-clause-entry : goal.returns-then-position-len-clause-entry
returns-then-position-len-clause-entry c =
    let is = c.position-position.ensures ∙ ap (λ xs. position_of xs c.args.index) c.deref.ensures.value in
    let long = sym c.deref.ensures.len ∙ ap length c.deref.ensures.value in
    pushed_entry c.args.asked.now.items c.push.new.asked.items c.args.index (omega (arith, is, long, c.len.ensures, c.if-position-len.true)) c.push.ensures.entry

pub returns-then-position-len-clause-registers : goal.returns-then-position-len-clause-registers
returns-then-position-len-clause-registers c =
    let is = c.position-position.ensures ∙ ap (λ xs. position_of xs c.args.index) c.deref.ensures.value in
    let long = sym c.deref.ensures.len ∙ ap length c.deref.ensures.value in
    subst (λ (now : List Asked). RegistersPage c.args.asked.now.items now c.args.index) (sym c.push.ensures.entry)
    (pushed c.args.asked.now.items c.args.index (omega (arith, is, long, c.len.ensures, c.if-position-len.true)))

pub returns-else-position-len-clause-there : goal.returns-else-position-len-clause-there
returns-else-position-len-clause-there c =
    let is = c.position-position.ensures ∙ ap (λ xs. position_of xs c.args.index) c.deref.ensures.value in
    let long = sym c.deref.ensures.len ∙ ap length c.deref.ensures.value in
    omega (arith, is, long, c.len.ensures, c.if-position-len.false, position-le c.args.asked.now.items c.args.index)

pub returns-else-position-len-clause-entry : goal.returns-else-position-len-clause-entry
returns-else-position-len-clause-entry c =
    let is = c.position-position.ensures ∙ ap (λ xs. position_of xs c.args.index) c.deref.ensures.value in
    kept_entry c.args.asked.now.items c.args.index (to_read 0) (omega (arith, is, returns-else-position-len-clause-there c))

pub returns-else-position-len-clause-registers : goal.returns-else-position-len-clause-registers
returns-else-position-len-clause-registers c =
    let is = c.position-position.ensures ∙ ap (λ xs. position_of xs c.args.index) c.deref.ensures.value in
    as_before c.args.asked.now.items c.args.index (to_read 0) (omega (arith, is, returns-else-position-len-clause-there c))
