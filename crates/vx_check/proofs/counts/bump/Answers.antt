use Rattle.std.proofs.Common.{rules, ◌≡◌, ◌+◌, ◌-◌, ◌^◌, ◌<◌, min, length, take, get_or, refl, arith}
use Rattle.std.proofs.lemmas.Grind.{common_steps}
use Rattle.vx_check.proofs.Counting.{bumped_none, bumped_more, bumped_all}
use Rattle.vx_check.proofs.counts.bump.Goals as goal

pub loop-n-init : goal.loop-n-init
loop-n-init c = bumped_none c.args.counts.now.items c.args.targets.now

pub loop-n-preserved : goal.loop-n-preserved
loop-n-preserved c =
    let t = c.loop-n.n-index in
    let x = get_or c.args.targets.now t 0 in
    let long = c.loop-n.invariant.length_is in
    let lt : t < length c.args.targets.now = omega arith in
    let at = c.requires.inside t lt in
    let inside : x < length c.loop-n.counts.items = omega arith in
    let added : c.saturating_add.result ≡ min (get_or c.loop-n.counts.items x 0 + 1) (2 ^ 32 - 1) = first_of (search rules, grind (arith, common_steps)) in
    bumped_more c.args.counts.now.items c.loop-n.counts.items c.args.targets.now t x c.saturating_add.result lt refl inside added c.loop-n.invariant

pub returns-clause-counts : goal.returns-clause-counts
returns-clause-counts c =
    let all : take c.loop-n.n-index c.args.targets.now ≡ c.args.targets.now = first_of (search rules, grind (arith, common_steps)) in
    bumped_all c.args.counts.now.items c.loop-n.counts.items c.args.targets.now c.loop-n.n-index all c.loop-n.invariant
