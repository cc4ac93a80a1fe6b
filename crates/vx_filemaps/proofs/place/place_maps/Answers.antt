use Rattle.std.proofs.Common.{◌≡◌, ◌+◌, ◌-◌, ℕ, suc, sym, ap, ◌∙◌, arith}
use Rattle.vx_space.specs.Placing.{place_maps}
use Rattle.vx_filemaps.specs.FileMaps.{filling_in}
use Rattle.vx_filemaps.proofs.Pages.{maps_step, maps_stop, begins_then}
use Rattle.vx_filemaps.proofs.place.place_maps.Goals as goal

pub returns-in_default : goal.returns-in_default
returns-in_default c =
    let inv = c.loop-i.invariant in
    let rest = c.args.more - (c.loop-i.i + 1) in
    let left : c.args.more - c.loop-i.i ≡ suc rest = omega arith in
    record {
      placed = λ v pages is same. absurd (c.in_default.not-Placed same);
      full = λ v pages is same.
          let f = filling_in c.loop-i.free pages c.loop-i.chain.items in
          inv.left v pages is ∙ ap (λ (k : ℕ). place_maps v k f) left ∙ maps_stop v rest f (c.place_map.ensures.full v pages (is ∙ sym inv.volume) same);
      taken = λ base is. c.place_map.ensures.taken base (inv.taken base is);
      begins = begins_then c.args.chain.now.items c.loop-i.chain.items c.place_map.new.chain.items inv.begins c.place_map.ensures.begins;
      ready = c.place_map.ensures.ready;
      volume = c.place_map.ensures.volume ∙ inv.volume;
    }

pub loop-i-preserved : goal.loop-i-preserved
loop-i-preserved c =
    let inv = c.loop-i.invariant in
    let rest = c.args.more - (c.loop-i.i + 1) in
    let left : c.args.more - c.loop-i.i ≡ suc rest = omega arith in
    record {
      left = λ v pages is.
          let f = filling_in c.loop-i.free pages c.loop-i.chain.items in
          inv.left v pages is ∙ ap (λ (k : ℕ). place_maps v k f) left ∙ maps_step v rest f _ (c.place_map.ensures.placed v pages (is ∙ sym inv.volume) c.in-Placed.is);
      taken = λ base is. c.place_map.ensures.taken base (inv.taken base is);
      begins = begins_then c.args.chain.now.items c.loop-i.chain.items c.place_map.new.chain.items inv.begins c.place_map.ensures.begins;
      ready = c.place_map.ensures.ready;
      volume = c.place_map.ensures.volume ∙ inv.volume;
    }

pub returns-clause-placed : goal.returns-clause-placed
returns-clause-placed c = λ v pages is same.
    let none : c.args.more - c.loop-i.i ≡ 0 = omega arith in
    c.loop-i.invariant.left v pages is ∙ ap (λ (k : ℕ). place_maps v k (filling_in c.loop-i.free pages c.loop-i.chain.items)) none
