use Rattle.std.proofs.Common.{◌≡◌, ◌+◌, ◌-◌, ◌*◌, ℕ, suc, sym, ap, ◌∙◌, arith}
use Rattle.vx_base.specs.declared.refusal.Refusal.TheVariants as no
use Rattle.vx_space.specs.Placing.{write_page, each_page}
use Rattle.vx_filemaps.specs.FileMaps.{filling_in}
use Rattle.vx_filemaps.proofs.Pages.{each_step, each_stops, for_later, past_then}
use Rattle.vx_filemaps.proofs.place.write_pages.Goals as goal

pub returns-in_default : goal.returns-in_default
returns-in_default c =
    let inv = c.loop-i.invariant in
    let rest = c.args.n - (c.loop-i.i + 1) in
    let left : c.args.n - c.loop-i.i ≡ suc rest = omega arith in
    let at : c.new.result ≡ c.args.from + c.loop-i.i = omega (arith, c.new.ensures, c.get.ensures) in
    record {
      placed = λ r maps is same. absurd (c.in_default.not-Placed same);
      full = λ r maps is same.
          let f = filling_in c.loop-i.free c.loop-i.pages.pages maps in
          inv.left r maps is ∙ ap (λ (k : ℕ). each_page (write_page r) k (c.args.from + c.loop-i.i) f) left
          ∙ each_stops (write_page r) rest (c.args.from + c.loop-i.i) f (no.NoSpace r.need r.free)
          (ap (λ (p : ℕ). write_page r p f) (sym at) ∙ c.write_page.ensures.full r maps (for_later r c.args.free.now c.loop-i.free c.args.first inv.volume is) same);
      taken = λ base is. c.write_page.ensures.taken base (inv.taken base is);
      past = past_then (2 * c.loop-i.i) 2 (2 * c.args.n) _ _ _ (omega arith) inv.past c.write_page.ensures.past;
      ready = c.write_page.ensures.ready;
      volume = c.write_page.ensures.volume ∙ inv.volume;
    }

pub loop-i-preserved : goal.loop-i-preserved
loop-i-preserved c =
    let inv = c.loop-i.invariant in
    let rest = c.args.n - (c.loop-i.i + 1) in
    let left : c.args.n - c.loop-i.i ≡ suc rest = omega arith in
    let at : c.new.result ≡ c.args.from + c.loop-i.i = omega (arith, c.new.ensures, c.get.ensures) in
    record {
      left = λ r maps is.
          let f = filling_in c.loop-i.free c.loop-i.pages.pages maps in
          inv.left r maps is ∙ ap (λ (k : ℕ). each_page (write_page r) k (c.args.from + c.loop-i.i) f) left
          ∙ each_step (write_page r) rest (c.args.from + c.loop-i.i) (c.args.from + (c.loop-i.i + 1)) f _
          (ap (λ (p : ℕ). write_page r p f) (sym at) ∙ c.write_page.ensures.placed r maps (for_later r c.args.free.now c.loop-i.free c.args.first inv.volume is) c.in-Placed.is) (omega arith);
      taken = λ base is. c.write_page.ensures.taken base (inv.taken base is);
      past = past_then (2 * c.loop-i.i) 2 (2 * (c.loop-i.i + 1)) _ _ _ (omega arith) inv.past c.write_page.ensures.past;
      ready = c.write_page.ensures.ready;
      volume = c.write_page.ensures.volume ∙ inv.volume;
    }
