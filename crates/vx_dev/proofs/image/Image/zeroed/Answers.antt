use Rattle.std.proofs.Common.{◌∙◌, ◌∷◌, ◌++◌, [], List, ℕ, ap, replicate}
use Rattle.std.proofs.lemmas.List.{replicate_more}
use Rattle.vx_dev.proofs.image.Image.zeroed.Goals as goal

pub loop-n-preserved : goal.loop-n-preserved
loop-n-preserved c = c.in_ok-push.ensures.items ∙ ap (λ (l : List (List ℕ)). l ++ replicate 512 0 ∷ []) c.loop-n.invariant ∙ replicate_more c.loop-n._n (replicate 512 0)
