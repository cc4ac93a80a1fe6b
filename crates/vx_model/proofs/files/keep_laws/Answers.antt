use Rattle.std.proofs.Common.{sym, ◌∙◌}
use Rattle.vx_model.proofs.FileStep.{on_file}
use Rattle.vx_model.proofs.FileNodes.{file_alone, settled_blocks}
use Rattle.vx_model.proofs.Keeping.{step_laid, settled_laid}
use Rattle.vx_model.proofs.Reaching.{step_reached, settled_reached}
use Rattle.vx_model.proofs.files.keep_laws.Goals as goal

pub returns : goal.returns
returns c = record {
  laid_out = λ s place session call done on is h.
      step_laid c.edit_laws.ensures c.place_laws.ensures c.close_laws.ensures c.settle_laws.ensures s place session call done is (sym (on_file s place session call on) ∙ h);
  settled_laid_out = settled_laid c.edit_laws.ensures c.place_laws.ensures c.close_laws.ensures c.settle_laws.ensures;
  reached = λ s place session call done on is h. step_reached s place session call done is (sym (on_file s place session call on) ∙ h);
  settled_reached = settled_reached;
  blocks = λ s place session call done on h. (file_alone s place session call done (sym (on_file s place session call on) ∙ h)).blocks;
  settled_blocks = settled_blocks;
}
