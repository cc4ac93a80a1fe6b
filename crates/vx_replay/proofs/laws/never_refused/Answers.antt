use Rattle.vx_replay.proofs.Accepting.{FormLaws, super_good, log_good, passes_check}
use Rattle.vx_replay.proofs.laws.never_refused.Goals as goal

pub returns-clause-superblock : goal.returns-clause-superblock
returns-clause-superblock c = λ size image tree field h bad.
    let laws : FormLaws = record { again = c.super_spelling.ensures.again; heads = c.log_spelling.ensures.head; records = c.log_spelling.ensures.records; count = c.log_fields.ensures.count } in
    super_good laws size image tree h field bad

pub returns-clause-log : goal.returns-clause-log
returns-clause-log c = λ size image tree sector h bad.
    let laws : FormLaws = record { again = c.super_spelling.ensures.again; heads = c.log_spelling.ensures.head; records = c.log_spelling.ensures.records; count = c.log_fields.ensures.count } in
    log_good laws size image tree h sector bad

pub returns-clause-check : goal.returns-clause-check
returns-clause-check c = λ size image tree why h of bad.
    let laws : FormLaws = record { again = c.super_spelling.ensures.again; heads = c.log_spelling.ensures.head; records = c.log_spelling.ensures.records; count = c.log_fields.ensures.count } in
    passes_check laws size image tree h c.sound_laws.ensures why of bad
