use Rattle.std.proofs.Common.{◌≤◌, length, sym, ap, ◌∙◌, arith}
use Rattle.vx_pages.specs.Pages.{dropped_from}
use Rattle.vx_pages.specs.Slots.{listed}
use Rattle.vx_pages.proofs.Leaving.{dropped_without, dropped_none, lacks_all}
use Rattle.vx_pages.proofs.page_cache.free_from.Goals as goal

pub loop-preserved : goal.loop-preserved
loop-preserved c = (
  c.free_page.ensures.tied,
  omega (arith, c.loop.invariant.1, c.free_page.ensures.fewer),
  ap (dropped_from c.args.ino c.args.page) c.free_page.ensures.dropped
      ∙ dropped_without c.args.ino c.args.page c.in-Some.first (listed c.loop.slots.entries) c.in-Some.ensures.found.0
      ∙ c.loop.invariant.2,
  λ block kept. c.free_page.ensures.kept block (c.loop.invariant.3 block kept),
)

pub returns-in-None-clause-dropped : goal.returns-in-None-clause-dropped
returns-in-None-clause-dropped c = sym (dropped_none c.args.ino c.args.page c.loop.index c.in-None.ensures.none c.loop.slots.entries c.loop.invariant.0.each) ∙ c.loop.invariant.2

pub returns-clause-dropped : goal.returns-clause-dropped
returns-clause-dropped c =
    let none_left : length c.loop.index ≤ 0 = omega (arith, c.loop.invariant.1, c.loop-test.false) in
    sym (dropped_none c.args.ino c.args.page c.loop.index (lacks_all c.args.ino c.args.page c.loop.index none_left) c.loop.slots.entries c.loop.invariant.0.each) ∙ c.loop.invariant.2
