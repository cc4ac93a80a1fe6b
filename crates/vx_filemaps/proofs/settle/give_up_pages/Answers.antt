use Rattle.std.proofs.Common.{◌≡◌, ◌+◌, ◌-◌, ℕ, suc, Option, arith, sym, ap, ◌∙◌, subst}
use Rattle.vx_base.specs.declared.kind.Kind.{Kind}
use Rattle.vx_alloc.specs.FreeMaps.{FreeMapView}
use Rattle.vx_extents.specs.Extents.{mapped_at}
use Rattle.vx_filemaps.specs.Settles.{without_page, IsUsedPage, without_pages, CanGo}
use Rattle.vx_filemaps.proofs.Gone.{pages_next, can_first, can_rest}
use Rattle.vx_filemaps.proofs.settle.give_up_pages.Goals as goal

pub give_up_page-requires : goal.give_up_page-requires
give_up_page-requires c =
    let s = mapped_at c.args.settled.now.pages in
    let t = mapped_at c.args.present.now.pages in
    let p = c.args.from + c.loop-i.i in
    let left : c.args.n - c.loop-i.i ≡ suc (c.args.n - (c.loop-i.i + 1)) = omega arith in
    let next : p + 1 ≡ c.args.from + (c.loop-i.i + 1) = omega arith in
    let at : c.new-p.result ≡ p = omega (arith, c.new-p.ensures, c.get.ensures) in
    let first : c.find.result ≡ s p = c.find.ensures ∙ ap s at in
    let second : c.find-in-loop-i.result ≡ t p = c.find-in-loop-i.ensures ∙ ap t at in
    record {
      used = subst (λ (o : Option (ℕ × Kind)). IsUsedPage o c.find-in-loop-i.result c.loop-i.free) (sym first) (subst (λ (o : Option (ℕ × Kind)). IsUsedPage (s p) o c.loop-i.free) (sym second)
          (can_first c.args.place s t (c.args.n - c.loop-i.i) p (c.args.n - (c.loop-i.i + 1)) (c.args.from + (c.loop-i.i + 1)) c.loop-i.free left next c.loop-i.invariant.used));
    }

pub loop-i-preserved : goal.loop-i-preserved
loop-i-preserved c =
    let s = mapped_at c.args.settled.now.pages in
    let t = mapped_at c.args.present.now.pages in
    let p = c.args.from + c.loop-i.i in
    let left : c.args.n - c.loop-i.i ≡ suc (c.args.n - (c.loop-i.i + 1)) = omega arith in
    let next : p + 1 ≡ c.args.from + (c.loop-i.i + 1) = omega arith in
    let at : c.new-p.result ≡ p = omega (arith, c.new-p.ensures, c.get.ensures) in
    let first : c.find.result ≡ s p = c.find.ensures ∙ ap s at in
    let second : c.find-in-loop-i.result ≡ t p = c.find-in-loop-i.ensures ∙ ap t at in
    let now : c.give_up_page.new.free ≡ without_page c.args.place (s p) (t p) c.loop-i.free = c.give_up_page.ensures ∙ (λ i. without_page c.args.place (first i) (second i) c.loop-i.free) in
    record {
      left = c.loop-i.invariant.left ∙ pages_next c.args.place s t (c.args.n - c.loop-i.i) p (c.args.n - (c.loop-i.i + 1)) (c.args.from + (c.loop-i.i + 1)) c.loop-i.free left next
          ∙ ap (λ (v : FreeMapView). without_pages c.args.place s t (c.args.n - (c.loop-i.i + 1)) (c.args.from + (c.loop-i.i + 1)) v) (sym now);
      used = subst (λ (v : FreeMapView). CanGo c.args.place s t (c.args.n - (c.loop-i.i + 1)) (c.args.from + (c.loop-i.i + 1)) v) (sym now)
          (can_rest c.args.place s t (c.args.n - c.loop-i.i) p (c.args.n - (c.loop-i.i + 1)) (c.args.from + (c.loop-i.i + 1)) c.loop-i.free left next c.loop-i.invariant.used);
    }
