use Rattle.std.proofs.Common.{ℕ, ◌-◌, Option}
use Rattle.pm_meta.specs.declared.slots.MetaSlot.TheVariants.{Pages}
use Rattle.pm_pages.specs.Paged.{AllReadable}
use Rattle.pm_pages.specs.Edits.{LooksAtPages, IsNumberIn}
use Rattle.pm_tree.specs.Indexes.{AnswersFrom}
use Rattle.pm_part.specs.Ways.{IsWay}
use Rattle.pm_part.proofs.entries.descend.Given as goal

abbrev pub invariant-levels : goal.invariant-levels
invariant-levels g l = record {
  kept : g.P.Pages.kept l.fn.pages l.pages;
  looks : LooksAtPages g.P.Pages.tells (g.P.Pages.seen l.fn.pages) (g.P.Pages.seen l.pages) l._level;
  readable : AllReadable (g.P.Pages.seen l.pages);
  way : IsWay (g.P.Pages.seen l.pages) l.cache l.key l._level l.from l.at;
  number : IsNumberIn (g.P.Pages.seen l.pages) Pages l.count;
  answers : g.P.Pages.tells → (word : Option ℕ) → AnswersFrom (g.P.Pages.seen l.fn.pages).pages l.key 8 l.root word → AnswersFrom (g.P.Pages.seen l.fn.pages).pages l.key (8 - l._level) l.at word;
}
