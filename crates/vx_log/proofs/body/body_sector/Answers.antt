use Rattle.std.proofs.Common.{◌+◌, ◌-◌, ◌*◌, ◌/◌, ◌%◌, ◌<◌, ◌≤◌, ℕ, List, length, map, take, drop, sym, ◌∙◌, ap, refl, arith}
use Rattle.vx_layout.specs.LogForms.{AfterImage, descriptor}
use Rattle.vx_log.proofs.Bodies.{body-descriptor, body-image, record-range}
use Rattle.vx_log.proofs.body.body_sector.Goals as goal

pub returns-in-0 : goal.returns-in-0
returns-in-0 c =
    let i = c.args.i in
    let b = c.args.batch.now in
    let first : i / 125 * 124 ≤ length b = omega (arith, c.requires.within, c.in-0.is) in
    c.descriptor.ensures
    ∙ ap (λ (p : ℕ). descriptor (c.args.position + p) (map (λ (e : AfterImage). e.0) (take (c.min-end.result - i / 125 * 124) (drop (i / 125 * 124) b)))) c.from.ensures
    ∙ ap (λ (l : List AfterImage). descriptor (c.args.position + i) (map (λ (e : AfterImage). e.0) l)) (record-range (i / 125 * 124) c.min-end.result (i / 125 * 124) b first c.min-end.ensures refl)
    ∙ sym (body-descriptor c.args.position i b c.requires.within c.in-0.is)

pub returns-in_default : goal.returns-in_default
returns-in_default c =
    let later : 0 < c.args.i % 125 = omega arith in
    sym (body-image c.args.position c.args.i c.args.batch.now c.index-batch-first.result c.requires.within later).1
