use Rattle.std.proofs.Common.{◌≡◌, ◌+◌, ◌-◌, ℕ, Some, arith, sym, ap, ◌∙◌, subst}
use Rattle.vx_extents.specs.declared.stretch.Stretch.{Stretch}
use Rattle.vx_extents.specs.Extents.{IsStretch}
use Rattle.vx_extents.specs.Uses.{page_in}
use Rattle.vx_extents.proofs.Adds.{each_is, is_at}
use Rattle.vx_extents.proofs.Cuts.{kept_within}
use Rattle.vx_extents.proofs.Removes.{not_there, begun_low, looked_at, in_it, out_of}
use Rattle.vx_extents.proofs.extent_map.find_in.Goals as goal

pub returns-then-begun-eq0 : goal.returns-then-begun-eq0
returns-then-begun-eq0 c = sym (not_there c.args.p c.args.extents.now c.requires.maximal (sym c.begun_before-begun.ensures ∙ c.if-begun-eq0.true))

pub offset_bounds-extents-begun : goal.offset_bounds-extents-begun
offset_bounds-extents-begun c = let few = kept_within (c.args.p + 1) c.args.extents.now in omega (arith, few, c.requires.few, c.begun_before-begun.ensures)

pub bounds-extents-begun : goal.bounds-extents-begun
bounds-extents-begun c = let few = kept_within (c.args.p + 1) c.args.extents.now in omega (arith, few, c.begun_before-begun.ensures, c.if-begun-eq0.false)

pub overflow_sub-after : goal.overflow_sub-after
overflow_sub-after c =
    let e = c.index-extents-begun.result in
    let low = begun_low c.args.p c.args.extents.now c.begun_before-begun.result e c.begun_before-begun.ensures c.if-begun-eq0.false in
    let at = ap (λ (f : Stretch). f.page) c.index-extents-begun.is in
    omega (arith, low, at, c.get.ensures)

pub returns-then-after-extent : goal.returns-then-after-extent
returns-then-after-extent c =
    let e = c.index-extents-begun.result in
    sym (looked_at c.args.p c.args.extents.now c.begun_before-begun.result e c.requires.maximal c.begun_before-begun.ensures c.if-begun-eq0.false
    ∙ ap (page_in c.args.p) (sym c.index-extents-begun.is) ∙ out_of c.args.p e (omega (arith, c.if-after-extent.true, c.get.ensures)))

pub overflow_add-block : goal.overflow_add-block
overflow_add-block c =
    let e = c.index-extents-begun.result in
    let few = kept_within (c.args.p + 1) c.args.extents.now in
    let is : IsStretch e = subst IsStretch (sym c.index-extents-begun.is) (is_at c.args.extents.now (c.begun_before-begun.result - 1) e (each_is c.args.extents.now c.requires.maximal) (omega (arith, few, c.begun_before-begun.ensures, c.if-begun-eq0.false))) in
    omega (arith, is.blocks, c.if-after-extent.false, c.get.ensures, c.get-2.ensures)

pub returns : goal.returns
returns c =
    let e = c.index-extents-begun.result in
    let at : c.new.result ≡ e.start + (c.args.p - e.page) = omega (arith, c.new.ensures, c.get.ensures, c.get-2.ensures) in
    ap (λ (b : ℕ). Some (b, e.kind)) at
    ∙ sym (looked_at c.args.p c.args.extents.now c.begun_before-begun.result e c.requires.maximal c.begun_before-begun.ensures c.if-begun-eq0.false
    ∙ ap (page_in c.args.p) (sym c.index-extents-begun.is) ∙ in_it c.args.p e (omega (arith, c.if-after-extent.false, c.get.ensures)))
