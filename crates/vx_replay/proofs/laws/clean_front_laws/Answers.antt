use Rattle.vx_replay.proofs.ImageChecking.{clean_passes, clean_fails}
use Rattle.vx_replay.proofs.laws.clean_front_laws.Goals as goal

pub returns-clause-passes : goal.returns-clause-passes
returns-clause-passes c = λ size image front can h sound. clean_passes c.super_spelling.ensures.again size image front can h sound

pub returns-clause-bad_meta : goal.returns-clause-bad_meta
returns-clause-bad_meta c = λ size image front sector can h first. clean_fails c.super_spelling.ensures.again size image front can h sector first
