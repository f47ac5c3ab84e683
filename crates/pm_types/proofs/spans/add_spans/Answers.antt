use Rattle.std.proofs.Common.{inl, inr, arith}
use Rattle.pm_types.proofs.AddedSpans.{any_more, more_any}
use Rattle.pm_types.proofs.Coverages.{rise_at}
use Rattle.pm_types.proofs.spans.add_spans.Goals as goal

pub add_span-number-requires-clause-some : goal.add_span-number-requires-clause-some
add_span-number-requires-clause-some c = rise_at c.args.added.now 0 c.each.span-index (record { start = 0; end = 0 }) c.requires.some c.each-test.true

pub each-preserved : goal.each-preserved
each-preserved c =
    let now = c.add_span-number.ensures.lists in
    let was = c.each.invariant.lists in
    record {
      few = omega arith;
      lists = record {
        rise = now.rise;
        all = λ k h. now.all k (elim h [ inl old ↦ inl (was.all k (inl old)) | inr some ↦ elim (more_any c.args.added.now c.each.span-index k (record { start = 0; end = 0 }) c.each-test.true some) [ inl early ↦ inl (was.all k (inr early)) | inr last ↦ inr last ] ]);
        only = λ k h. elim (now.only k h) [ inl there ↦ elim (was.only k there) [ inl old ↦ inl old | inr early ↦ inr (any_more c.args.added.now c.each.span-index k (record { start = 0; end = 0 }) c.each-test.true (inl early)) ] | inr last ↦ inr (any_more c.args.added.now c.each.span-index k (record { start = 0; end = 0 }) c.each-test.true (inr last)) ];
      };
    }
