use Rattle.std.proofs.Common.{rules, ◌≡◌, ◌+◌, ◌++◌, ◌∷◌, [], ℕ, List, sym, ap, ◌∙◌, arith, append_assoc}
use Rattle.std.proofs.lemmas.Grind.{common_steps}
use Rattle.vx_sound.specs.FirstFault.{numbers}
use Rattle.vx_check.proofs.Claiming.{numbers_more}
use Rattle.vx_check.proofs.inode.add_run.Goals as goal

pub loop-i-preserved : goal.loop-i-preserved
loop-i-preserved c =
    let a = c.args.extent.now.start in
    let i = c.loop-i.i in
    let b = c.new.result in
    let is : b ≡ a + i = first_of (search rules, grind (arith, common_steps)) in
    let pushed : c.push.new.self.items ≡ c.loop-i.blocks.items ++ b ∷ [] = first_of (search rules, grind (arith, common_steps)) in
    pushed ∙ ap (λ (l : List ℕ). l ++ b ∷ []) c.loop-i.invariant ∙ append_assoc c.args.blocks.now.items (numbers a i) (b ∷ [])
    ∙ ap (λ (l : List ℕ). c.args.blocks.now.items ++ l) (ap (λ (x : ℕ). numbers a i ++ x ∷ []) is ∙ sym (numbers_more a i))
