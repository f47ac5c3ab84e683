-- Which folder is bound once a command is done, and that one was made only where the command makes it.
use Rattle.std.proofs.Common.{◌≡◌, ◌≤◌, ◌∙◌, inl, inr, ℕ, List, refl, ap, subst, sym, arith}
use Rattle.std.proofs.lemmas.Bool.{false≢true}
use Rattle.std.specs.Prelude.{Some, None, is_some, true, false, Ok, Err}
use Rattle.pm_disk.specs.States.{Access, Binds, DeviceState}
use Rattle.pm_top.specs.declared.status.Status.{Status}
use Rattle.pm_top.specs.declared.status.Status.TheVariants.{Failed, Memory}
use Rattle.pm_top.specs.declared.words.CommandName.{CommandName}
use Rattle.pm_top.specs.Causes.{BindsFolder, makes_folder}
use Rattle.pm_top.specs.Words.{command_in, folder_in, is_command}

-- these words are a command
command_named : (words : List (List ℕ)) (name : CommandName) → Some name ≡ command_in words → is_command words ≡ true
command_named words name named = ap is_some (sym named)

made_only : (words : List (List ℕ)) (name : CommandName) (before mid : DeviceState) → Some name ≡ command_in words → (makes_folder (Some name) ≡ false → mid.access.made ≡ before.access.made)
    → makes_folder (command_in words) ≡ false → mid.access.made ≡ before.access.made
made_only words name before mid named none_made none = none_made (ap makes_folder named ∙ none)

-- the folder was bound, and nothing after that has bound another
pub folder_bound : {T E : Type 0} {value : T} (words : List (List ℕ)) (status : Status) (before mid now : DeviceState) (name : CommandName) (folder : List ℕ) → Some name ≡ command_in words → folder ≡ folder_in words → Binds {T = T} {E = E} before mid folder (Ok value)
    → (makes_folder (Some name) ≡ false → mid.access.made ≡ before.access.made) → now.access ≡ mid.access → BindsFolder words status before now
folder_bound words status before mid now name folder named folder_is binds none_made same =
    let made_is : now.access.made ≡ mid.access.made = ap (λ (a : Access). a.made) same in
    record {
      bound = λ _. inl (same ∙ binds.bound ∙ (λ i. record before.access { folder = Some (folder_is i); made = sym made_is i }));
      none = λ isnt. absurd (false≢true (sym isnt ∙ command_named words name named));
      made = subst (λ (n : ℕ). before.access.made ≤ n) (sym made_is) binds.made;
      none_made = λ none. made_is ∙ made_only words name before mid named none_made none;
    }

-- the folder couldn't be bound
pub folder_unbound : {T E : Type 0} {folder : List ℕ} {fault : E} (words : List (List ℕ)) (status : Status) (before now : DeviceState) (name : CommandName) → Some name ≡ command_in words → Binds {T = T} {E = E} before now folder (Err fault)
    → (makes_folder (Some name) ≡ false → now.access.made ≡ before.access.made) → status ≡ Failed → BindsFolder words status before now
folder_unbound words status before now name named binds none_made is = record {
  bound = λ _. inr (inl (binds.unchanged, is));
  none = λ isnt. absurd (false≢true (sym isnt ∙ command_named words name named));
  made = binds.made;
  none_made = made_only words name before now named none_made;
}

-- the words aren't a command
pub folder_refused : (words : List (List ℕ)) (status : Status) (before now : DeviceState) → None ≡ command_in words → now.access ≡ before.access → BindsFolder words status before now
folder_refused words status before now none same =
    let made_is : now.access.made ≡ before.access.made = ap (λ (a : Access). a.made) same in
    record {
      bound = λ is. absurd (false≢true (ap is_some none ∙ is));
      none = λ _. same;
      made = omega (arith, made_is);
      none_made = λ _. made_is;
    }

-- memory ran out before anything was done
pub folder_untouched : (words : List (List ℕ)) (status : Status) (before : DeviceState) → status ≡ Memory → BindsFolder words status before before
folder_untouched words status before is = record {
  bound = λ _. inr (inr (refl, is));
  none = λ _. refl;
  made = omega arith;
  none_made = λ _. refl;
}
