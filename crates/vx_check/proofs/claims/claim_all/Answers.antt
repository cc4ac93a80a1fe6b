use Rattle.std.proofs.Common.{rules, ◌≡◌, ◌<◌, true, false, length, take, get_or, arith}
use Rattle.std.proofs.lemmas.Grind.{common_steps}
use Rattle.std.proofs.lemmas.List.{get_or_default}
use Rattle.vx_check.proofs.Claiming.{all_none, all_more, all_wrong, all_all}
use Rattle.vx_check.proofs.claims.claim_all.Goals as goal

pub loop-extent-init : goal.loop-extent-init
loop-extent-init c = record { room = c.requires.room; claimed = all_none c.args.volume.now c.args.marks.now c.args.extents.now }

pub returns-then-not-claim_run-clause-wrong : goal.returns-then-not-claim_run-clause-wrong
returns-then-not-claim_run-clause-wrong c = λ before marks _ all.
    let e = c.extent-item.result in
    let lt : c.loop-extent.extent-index < length c.args.extents.now = omega arith in
    let is : get_or c.args.extents.now c.loop-extent.extent-index e ≡ e = first_of (search (rules, get_or_default), grind (arith, common_steps, get_or_default)) in
    let bad : c.claim_run.result ≡ false = first_of (search rules, grind (arith, common_steps)) in
    all_wrong c.args.volume.now c.args.marks.now c.loop-extent.marks c.args.extents.now c.loop-extent.extent-index e lt is c.loop-extent.invariant.claimed (λ l h. c.claim_run.ensures.wrong l h bad) before marks all

pub loop-extent-preserved : goal.loop-extent-preserved
loop-extent-preserved c =
    let e = c.extent-item.result in
    let lt : c.loop-extent.extent-index < length c.args.extents.now = omega arith in
    let is : get_or c.args.extents.now c.loop-extent.extent-index e ≡ e = first_of (search (rules, get_or_default), grind (arith, common_steps, get_or_default)) in
    let fine : c.claim_run.result ≡ true = first_of (search rules, grind (arith, common_steps)) in
    record {
      room = c.claim_run.ensures.room;
      claimed = all_more c.args.volume.now c.args.marks.now c.loop-extent.marks c.args.extents.now c.loop-extent.extent-index e lt is c.loop-extent.invariant.claimed c.claim_run.new.marks (λ l h. c.claim_run.ensures.right l h fine);
    }

pub returns-clause-right : goal.returns-clause-right
returns-clause-right c = λ before marks _.
    let all : take c.loop-extent.extent-index c.args.extents.now ≡ c.args.extents.now = first_of (search rules, grind (arith, common_steps)) in
    all_all c.args.volume.now c.args.marks.now c.loop-extent.marks c.args.extents.now c.loop-extent.extent-index all c.loop-extent.invariant.claimed before marks
