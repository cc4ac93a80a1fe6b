use Rattle.std.proofs.Common.{refl}
use Rattle.vx_alloc.specs.FreeMaps.{is_free}
use Rattle.vx_filemaps.specs.FileMaps.{volume_in}
use Rattle.vx_filemaps.proofs.Placing.{lowest_start, no_run}
use Rattle.vx_filemaps.proofs.Runs.{lowest_aligned, none_aligned, longest_is, run_taken}
use Rattle.vx_filemaps.proofs.laws.run_laws.Goals as goal

pub returns : goal.returns
returns c = record {
  lowest = λ view n b some found. lowest_start view (volume_in view) (is_free view) (λ _. refl) refl refl n b some found;
  none = λ view n none. no_run view (volume_in view) (is_free view) (λ _. refl) refl refl n none;
  lowest_aligned = λ view n align b some aligned found. lowest_aligned view align aligned n b some found;
  none_aligned = λ view n align aligned none. none_aligned view align aligned n none;
  longest = longest_is;
  taken = run_taken;
}
