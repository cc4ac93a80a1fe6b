use Rattle.vx_bytes.proofs.Outcoming.{outcome_committed, outcome_closing, outcome_later, outcome_more}
use Rattle.vx_bytes.proofs.laws.outcome_laws.Goals as goal

pub returns : goal.returns
returns c = record {
  committed = λ mode o h p since t m image files come is low durable r clear. outcome_committed mode o h p since t files m come image is low durable r clear;
  closing = λ mode o h p since t m image files come is low durable r clear. outcome_closing mode o h p since t files m come image is low durable r clear;
  later = outcome_later;
  unpromising = λ mode o h e m image placed un come early quiet old. outcome_more mode o h e placed un m image come early quiet old;
}
