use Rattle.std.proofs.Common.{◌≡◌, ◌+◌, ◌-◌, ℕ, suc, arith, sym, ap, ◌∙◌, subst}
use Rattle.std.specs.Prelude.{nat_le}
use Rattle.vx_extents.specs.declared.stretch.Stretch.{Stretch}
use Rattle.vx_extents.specs.Extents.{IsStretch, begun_before}
use Rattle.vx_extents.proofs.Adds.{each_is, is_at}
use Rattle.vx_extents.proofs.Cuts.{kept_within}
use Rattle.vx_extents.proofs.Ranges.{none_begun, last_begun}
use Rattle.vx_extents.proofs.extent_map.has_between.Goals as goal

pub returns-then-begun-eq0 : goal.returns-then-begun-eq0
returns-then-begun-eq0 c = sym (none_begun c.args.from c.args.to c.requires.some c.args.extents.now c.requires.maximal (sym c.begun_before-begun.ensures ∙ c.if-begun-eq0.true))

pub offset_bounds-extents-begun : goal.offset_bounds-extents-begun
offset_bounds-extents-begun c = let few = kept_within c.args.to c.args.extents.now in omega (arith, few, c.requires.few, c.begun_before-begun.ensures)

pub bounds-extents-begun : goal.bounds-extents-begun
bounds-extents-begun c = let few = kept_within c.args.to c.args.extents.now in omega (arith, few, c.begun_before-begun.ensures, c.if-begun-eq0.false)

pub overflow_add-result : goal.overflow_add-result
overflow_add-result c =
    let e = c.index-extents-begun.result in
    let few = kept_within c.args.to c.args.extents.now in
    let is : IsStretch e = subst IsStretch (sym c.index-extents-begun.is) (is_at c.args.extents.now (c.begun_before-begun.result - 1) e (each_is c.args.extents.now c.requires.maximal) (omega (arith, few, c.begun_before-begun.ensures, c.if-begun-eq0.false))) in
    omega (arith, is.pages, c.get.ensures)

pub returns : goal.returns
returns c =
    let e = c.index-extents-begun.result in
    let k : ℕ = c.begun_before-begun.result - 1 in
    let begun : begun_before c.args.to c.args.extents.now ≡ suc k = sym c.begun_before-begun.ensures ∙ omega (arith, c.if-begun-eq0.false) in
    ap (λ (p : ℕ). nat_le c.args.from (p + e.more)) c.get.ensures
    ∙ ap (λ (f : Stretch). nat_le c.args.from (f.page + f.more)) c.index-extents-begun.is
    ∙ sym (last_begun c.args.from c.args.to c.requires.some c.args.extents.now k e c.requires.maximal begun)
