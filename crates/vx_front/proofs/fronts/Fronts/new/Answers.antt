use Rattle.std.proofs.Common.{◌∙◌}
use Rattle.vx_front.proofs.Moves.{zeros_kept}
use Rattle.vx_front.proofs.fronts.Fronts.new.Goals as goal

pub of_words-requires : goal.of_words-requires
of_words-requires c = zeros_kept _ _ (c.as_slice.ensures.value ∙ c.in_ok-words.ensures.items_if_clones_equal (λ y p. p))
