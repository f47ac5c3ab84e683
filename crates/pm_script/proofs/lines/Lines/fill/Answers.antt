use Rattle.std.proofs.Common.{◌∙◌, ◌-◌, ap, take, drop, refl}
use Rattle.std.proofs.lemmas.Bool.{eq-eqb}
use Rattle.pm_script.specs.Reading.{cut, Unread}
use Rattle.pm_script.proofs.Parts.{kept_line}
use Rattle.pm_script.proofs.lines.Lines.fill.Goals as goal

pub returns-in_err-count-clause-line : goal.returns-in_err-count-clause-line
returns-in_err-count-clause-line g c = record {
  line = kept_line c.keep_front-kept.result c.read_after.new.buffer.items c.keep_front-kept.new.buffer.items (take (c.self.inside.to - c.self.inside.from) (drop c.self.inside.from c.self.inside.buffer.items))
      c.read_after.ensures.front c.keep_front-kept.ensures.kept ∙ ap (λ (u : Unread). cut u.line) c.self.view_is;
  is_open = eq-eqb _ _ refl;
  bytes = ap (λ (u : Unread). u.bytes) c.self.view_is;
  lines = ap (λ (u : Unread). u.lines) c.self.view_is;
}

pub returns-clause-line : goal.returns-clause-line
returns-clause-line g c = record {
  line = kept_line c.keep_front-kept.result c.read_after.new.buffer.items c.keep_front-kept.new.buffer.items (take (c.self.inside.to - c.self.inside.from) (drop c.self.inside.from c.self.inside.buffer.items))
      c.read_after.ensures.front c.keep_front-kept.ensures.kept ∙ ap (λ (u : Unread). cut u.line) c.self.view_is;
  is_open = eq-eqb _ _ refl;
  bytes = ap (λ (u : Unread). u.bytes) c.self.view_is;
  lines = ap (λ (u : Unread). u.lines) c.self.view_is;
}
