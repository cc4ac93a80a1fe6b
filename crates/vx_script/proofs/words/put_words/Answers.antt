use Rattle.vx_script.specs.Words.{spaced, text_of_word}
use Rattle.vx_script.proofs.Pieces.{puts_more, puts_broken, puts_at_err}
use Rattle.vx_script.proofs.words.put_words.Goals as goal

pub returns-in_err-put_spaced : goal.returns-in_err-put_spaced
returns-in_err-put_spaced g c =
    puts_at_err _ _ _ c.from_residual.ensures.1 (puts_broken (λ word. spaced (text_of_word word)) _ _ _ c.loop-word-test.true c.loop-word.invariant c.in_err-put_spaced.ensures)

pub loop-word-preserved : goal.loop-word-preserved
loop-word-preserved g c = puts_more (λ word. spaced (text_of_word word)) _ _ _ c.loop-word-test.true c.loop-word.invariant c.in_ok-put_spaced.ensures
