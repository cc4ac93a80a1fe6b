use Rattle.std.proofs.Common.{◌≡◌, ◌&&◌, false, Some, sym, ap, ◌∙◌, arith}
use Rattle.vx_pages.proofs.Backwards.{changed_met, changed_passed}
use Rattle.vx_pages.proofs.page_cache.last_changed_page.Goals.{else-is_used-via-then-is_used+else-is_changed, else-is_used-via-else-is_used}
use Rattle.vx_pages.proofs.page_cache.last_changed_page.Goals as goal

pub loop-number-preserved : goal.loop-number-preserved
loop-number-preserved c =
    let s = c.in-Some.slot.now in
    let other : (s.used && s.entry.changed) ≡ false = elim c.else-is_used.branch [
      | else-is_used-via-then-is_used+else-is_changed w ↦ grind (arith, w.is_changed.ensures, w.if-is_changed.false)
      | else-is_used-via-else-is_used w ↦ grind (arith, c.is_used.ensures, w.if-is_used.false)
    ] in (tt, tt, changed_passed c.next.new.self.iter c.loop-number._number-iterator.iter (c.in-Some._number.now, s) c.in-Some.ensures.steps other ∙ c.loop-number.invariant.2)

pub returns-then-is_changed : goal.returns-then-is_changed
returns-then-is_changed c =
    ap Some c.page.ensures
    ∙ changed_met c.next.new.self.iter c.loop-number._number-iterator.iter (c.in-Some._number.now, c.in-Some.slot.now) c.in-Some.ensures.steps (sym c.is_used.ensures ∙ c.if-is_used.true) (sym c.is_changed.ensures ∙ c.if-is_changed.true)
    ∙ c.loop-number.invariant.2
