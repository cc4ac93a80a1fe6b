use Rattle.std.proofs.Common.{◌∙◌, arith}
use Rattle.vx_pages.proofs.Backwards.{unchanged_met, unchanged_passed}
use Rattle.vx_pages.proofs.page_cache.last_unchanged.Goals as goal

pub loop-number-preserved : goal.loop-number-preserved
loop-number-preserved c = (
  tt,
  tt,
  unchanged_passed c.next.new.self.iter c.loop-number.number-iterator.iter (c.in-Some.number.now, c.in-Some.slot.now) c.in-Some.ensures.steps (grind (arith, c.is_changed-changed.ensures, c.if-not-changed.false)) ∙ c.loop-number.invariant.2,
)

pub returns-then-not-changed : goal.returns-then-not-changed
returns-then-not-changed c =
    unchanged_met c.next.new.self.iter c.loop-number.number-iterator.iter (c.in-Some.number.now, c.in-Some.slot.now) c.in-Some.ensures.steps (grind (arith, c.is_changed-changed.ensures, c.if-not-changed.true)) ∙ c.loop-number.invariant.2
