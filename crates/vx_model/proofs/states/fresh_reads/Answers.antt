use Rattle.vx_sound.specs.Said.{block_bytes}
use Rattle.vx_model.specs.Layout.{volume}
use Rattle.vx_model.proofs.Formatting as laws
use Rattle.vx_model.proofs.states.fresh_reads.Goals as goal

pub returns-clause-laid_out : goal.returns-clause-laid_out
returns-clause-laid_out c = laws.fresh_laid

pub returns-clause-plain : goal.returns-clause-plain
returns-clause-plain c = laws.fresh_plain

pub returns-clause-stands : goal.returns-clause-stands
returns-clause-stands c = λ v limit sectors image is formatted. laws.fresh_stands v limit sectors is image formatted

pub returns-clause-reads : goal.returns-clause-reads
returns-clause-reads c = laws.fresh_reads (λ s image is plain stands. c.state_reads.ensures.reads s image s.tree is stands (c.state_reads.ensures.plain s (block_bytes (volume s.layout) image) is plain))
