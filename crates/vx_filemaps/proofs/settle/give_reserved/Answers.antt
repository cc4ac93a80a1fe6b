use Rattle.std.proofs.Common.{◌≡◌, ◌+◌, ◌-◌, ℕ, suc, Option, None, arith, sym, ap, ◌∙◌, subst}
use Rattle.vx_base.specs.declared.kind.Kind.{Kind}
use Rattle.vx_alloc.specs.FreeMaps.{FreeMapView}
use Rattle.vx_filemaps.specs.Settles.{if_reserved, none_at, reserved_at, without_page, IsUsedPage, without_pages, CanGo}
use Rattle.vx_filemaps.proofs.Gone.{pages_next, can_first, can_rest}
use Rattle.vx_filemaps.proofs.settle.give_reserved.Goals as goal

pub give_up_page-requires : goal.give_up_page-requires
give_up_page-requires c =
    let t = reserved_at c.args.present.now.pages in
    let p = c.args.from + c.loop-i.i in
    let left : c.args.n - c.loop-i.i ≡ suc (c.args.n - (c.loop-i.i + 1)) = omega arith in
    let next : p + 1 ≡ c.args.from + (c.loop-i.i + 1) = omega arith in
    let at : c.new-p.result ≡ p = omega (arith, c.new-p.ensures, c.get.ensures) in
    let page : c.only_reserved.result ≡ t p = c.only_reserved.ensures ∙ ap if_reserved c.find.ensures ∙ ap t at in
    record { used = subst (λ (o : Option (ℕ × Kind)). IsUsedPage None o c.loop-i.free) (sym page) (can_first 0 none_at t (c.args.n - c.loop-i.i) p (c.args.n - (c.loop-i.i + 1)) (c.args.from + (c.loop-i.i + 1)) c.loop-i.free left next c.loop-i.invariant.used) }

pub loop-i-preserved : goal.loop-i-preserved
loop-i-preserved c =
    let t = reserved_at c.args.present.now.pages in
    let p = c.args.from + c.loop-i.i in
    let left : c.args.n - c.loop-i.i ≡ suc (c.args.n - (c.loop-i.i + 1)) = omega arith in
    let next : p + 1 ≡ c.args.from + (c.loop-i.i + 1) = omega arith in
    let at : c.new-p.result ≡ p = omega (arith, c.new-p.ensures, c.get.ensures) in
    let page : c.only_reserved.result ≡ t p = c.only_reserved.ensures ∙ ap if_reserved c.find.ensures ∙ ap t at in
    let now : c.give_up_page.new.free ≡ without_page 0 None (t p) c.loop-i.free = c.give_up_page.ensures ∙ (λ i. without_page 0 None (page i) c.loop-i.free) in
    record {
      left = c.loop-i.invariant.left ∙ pages_next 0 none_at t (c.args.n - c.loop-i.i) p (c.args.n - (c.loop-i.i + 1)) (c.args.from + (c.loop-i.i + 1)) c.loop-i.free left next
          ∙ ap (λ (v : FreeMapView). without_pages 0 none_at t (c.args.n - (c.loop-i.i + 1)) (c.args.from + (c.loop-i.i + 1)) v) (sym now);
      used = subst (λ (v : FreeMapView). CanGo 0 none_at t (c.args.n - (c.loop-i.i + 1)) (c.args.from + (c.loop-i.i + 1)) v) (sym now)
          (can_rest 0 none_at t (c.args.n - c.loop-i.i) p (c.args.n - (c.loop-i.i + 1)) (c.args.from + (c.loop-i.i + 1)) c.loop-i.free left next c.loop-i.invariant.used);
    }
