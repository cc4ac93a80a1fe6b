use Rattle.std.proofs.Common.{rules, ◌≡◌, ◌+◌, ◌-◌, ◌<◌, ◌≤◌, true, false, length, get_or, refl, arith}
use Rattle.std.proofs.lemmas.Grind.{common_steps}
use Rattle.std.proofs.lemmas.List.{get_or_default}
use Rattle.vx_base.specs.declared.kind.Kind.TheVariants.{Data}
use Rattle.vx_check.proofs.Ordering.{solid_step, solid_wrong}
use Rattle.vx_check.proofs.extents.pages_without_holes.Goals as goal
use Rattle.vx_check.proofs.extents.pages_without_holes.Goals.{then-get-at-via-then-get-at, then-get-at-via-else-get-at+then-not-is_same, then-get-at-via-else-get-at+else-not-is_same+then-e-at}

pub returns-then-get-at-clause-none : goal.returns-then-get-at-clause-none
returns-then-get-at-clause-none c = λ _ whole few.
    let es = c.args.extents.now in
    let t = c.loop-e.e-index in
    let e = c.e-item.result in
    let lt : t < length es = omega arith in
    let is : get_or es t e ≡ e = first_of (search (rules, get_or_default), grind (arith, common_steps, get_or_default)) in
    let r = solid_wrong es t c.loop-e.at e lt is c.loop-e.invariant whole few in
    let page = r.0 in
    let kind = r.1 in
    let len = r.2 in
    elim c.then-get-at.branch [
      | then-get-at-via-then-get-at w ↦ let got = c.get.ensures in absurd (omega (arith, w.if-get-at.true))
      | then-get-at-via-else-get-at+then-not-is_same w ↦
          let bad : w.is_same.result ≡ false = first_of (search rules, grind (arith, common_steps)) in
          w.is_same.ensures.wrong bad kind
      | then-get-at-via-else-get-at+else-not-is_same+then-e-at w ↦ absurd (omega (arith, w.if-e-at.true))
    ]

pub loop-e-preserved : goal.loop-e-preserved
loop-e-preserved c =
    let es = c.args.extents.now in
    let t = c.loop-e.e-index in
    let e = c.e-item.result in
    let lt : t < length es = omega arith in
    let is : get_or es t e ≡ e = first_of (search (rules, get_or_default), grind (arith, common_steps, get_or_default)) in
    let got = c.get.ensures in
    let page : e.page ≡ c.loop-e.at = omega arith in
    let same : c.is_same.result ≡ true = first_of (search rules, grind (arith, common_steps)) in
    let kind : e.kind ≡ Data = c.is_same.ensures.right same in
    let len : e.len ≤ 64 - c.loop-e.at = omega arith in
    solid_step es t c.loop-e.at (c.loop-e.at + e.len) e lt is page kind len refl c.loop-e.invariant
