use Rattle.std.proofs.Common.{rules, ◌≡◌, ◌+◌, ◌<◌, ◌++◌, ℕ, true, false, length, sym, subst, ◌∙◌, arith}
use Rattle.std.proofs.lemmas.Grind.{common_steps}
use Rattle.vx_sound.specs.FirstFault.{numbers}
use Rattle.vx_sound.specs.Facts.{AreClaimable}
use Rattle.vx_check.specs.Parts.{AreMarksOf}
use Rattle.vx_check.proofs.Claiming.{claimed_none, claimed_more, claimed_wrong}
use Rattle.vx_check.proofs.claims.claim_run.Goals as goal

pub loop-i-init : goal.loop-i-init
loop-i-init c = record { room = c.requires.room; within = λ z. absurd (omega arith); claimed = claimed_none c.args.volume.now c.args.marks.now c.args.start }

pub returns-then-not-claim-clause-wrong : goal.returns-then-not-claim-clause-wrong
returns-then-not-claim-clause-wrong c = λ before marks _ all.
    let less : c.loop-i.i < c.args.len = omega arith in
    let b = c.new-b.result in
    let is : b ≡ c.args.start + c.loop-i.i = first_of (search rules, grind (arith, common_steps)) in
    let bad : c.claim.result ≡ false = first_of (search rules, grind (arith, common_steps)) in
    claimed_wrong c.args.volume.now c.args.marks.now c.loop-i.marks c.args.start c.loop-i.i b is c.loop-i.invariant.claimed c.args.len less (λ l h. c.claim.ensures.wrong l h bad) before marks all

pub loop-i-preserved : goal.loop-i-preserved
loop-i-preserved c =
    let b = c.new-b.result in
    let is : b ≡ c.args.start + c.loop-i.i = first_of (search rules, grind (arith, common_steps)) in
    let fine : c.claim.result ≡ true = first_of (search rules, grind (arith, common_steps)) in
    let low = c.claim.ensures.within fine in
    let long : length c.claim.new.marks ≡ length c.loop-i.marks = c.claim.ensures.room ∙ sym c.loop-i.invariant.room in
    record {
      room = c.claim.ensures.room;
      within = λ z. omega arith;
      claimed = claimed_more c.args.volume.now c.args.marks.now c.loop-i.marks c.args.start c.loop-i.i b is c.loop-i.invariant.claimed c.claim.new.marks (λ l h. c.claim.ensures.right l h fine);
    }

pub returns-clause-right : goal.returns-clause-right
returns-clause-right c = λ before marks _.
    let end : c.loop-i.i ≡ c.args.len = omega arith in
    subst (λ (n : ℕ). AreClaimable c.args.volume.now before (numbers c.args.start n) × AreMarksOf c.loop-i.marks (before ++ numbers c.args.start n)) end (c.loop-i.invariant.claimed.known before marks)
