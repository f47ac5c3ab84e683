-- What a call is told after a look is so of the view before.
use Rattle.std.proofs.Common.{◌≡◌, ℕ, List, Some, sym, ap, ◌∙◌, subst}
use Rattle.pm_region.specs.Lease.{Leased}
use Rattle.pm_types.specs.declared.flag.Flag.{Flag}
use Rattle.pm_locks.specs.Words.{LockWord, IsReachedFrom}
use Rattle.pm_locks.specs.declared.view.View.{View}
use Rattle.pm_locks.specs.declared.view.Entry.{Entry}
use Rattle.pm_locks.specs.Views.{entry_at, Has, IsMine}
use Rattle.pm_locks.specs.Steps.{meets, LastPut, IsBacked, AreDated}
use Rattle.pm_locks.specs.Answers.{IsAsPut}
use Rattle.pm_locks.proofs.Puts.{some_entry}

module _ (v v' : View) (f : ℕ) (word : LockWord) (met : v' ≡ meets v f word) where
  pub mine_before : (tag : ℕ) → IsMine v' word tag → IsMine v word tag
  mine_before tag x = let y : IsMine (meets v f word) word tag = subst (λ z. IsMine z word tag) met x in record { same = y.same; owner = y.owner }

  pub backed_before : (bytes : List ℕ) → IsBacked v' f word bytes → IsBacked v f word bytes
  backed_before bytes x = let y : IsBacked (meets v f word) f word bytes = subst (λ z. IsBacked z f word bytes) met x in record {
    last = λ has. let l = y.last has in record { entry = l.entry; at = l.at; tag = l.tag; same = l.same; flag = l.flag; alone = l.alone };
    due = y.due;
    done = y.done;
  }

  -- and what was so is so after it
  pub backed_after : (k : ℕ) (u : LockWord) (bytes : List ℕ) → IsBacked v k u bytes → IsBacked v' k u bytes
  backed_after k u bytes x = subst (λ z. IsBacked z k u bytes) (sym met) (record {
    last = λ has. let l = x.last has in record { entry = l.entry; at = l.at; tag = l.tag; same = l.same; flag = l.flag; alone = l.alone };
    due = x.due;
    done = x.done;
  })

  pub dated_after : (k : ℕ) (u : LockWord) → AreDated v k u → AreDated v' k u
  dated_after k u x = subst (λ z. AreDated z k u) (sym met) x

-- an entry of the word's tag is the owner's, and so the last put
pub follows : (v : View) (f : ℕ) (word : LockWord) (lease : Leased) (told : Flag) → LastPut v f word lease.bytes → told ≡ word.flag
    → (n : ℕ) (e : Entry) → Has v n → entry_at v.entries n f ≡ Some e → e.tag ≡ word.tag → IsAsPut e lease told
follows v f word lease told x flag n e has at tag =
    let same : x.entry ≡ e = some_entry x.entry e (sym x.at ∙ ap (λ k. entry_at v.entries k f) (sym (x.alone n e has at tag)) ∙ at) in record {
      bytes = sym x.same ∙ ap (λ (z : Entry). z.bytes) same;
      flag = subst (λ (p : Flag × Flag). IsReachedFrom p.0 p.1) (λ i. ((same i).flag, sym flag i)) x.flag;
    }
