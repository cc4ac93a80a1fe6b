use Rattle.std.proofs.Common.{◌+◌, ℕ, ap, arith}
use Rattle.vx_dev.specs.declared.device.Operation.TheVariants.{Put, Barrier}
use Rattle.vx_dev.specs.Tape.{tried}
use Rattle.vx_dev.proofs.Claims.{told_did, told_either}
use Rattle.vx_layout.specs.LogForms.{head_of, head_sector}
use Rattle.vx_log.specs.Crashes.{Holds, Stands, Either, Turns}
use Rattle.vx_log.specs.Logs.{next_serial}
use Rattle.vx_log.proofs.Bodies.{length-body}
use Rattle.vx_log.proofs.Commits.{holds_grown, holds_emptied, holds_trimmed}
use Rattle.vx_log.proofs.Operations.{turn, turn_failed, not_turned, turned}
use Rattle.vx_log.proofs.laws.head_laws.Goals as goal

pub returns-clause-grown : goal.returns-clause-grown
returns-clause-grown c = λ n r batch is_metadata t apart covers fits body h. holds_grown c.tape_laws.ensures n r _ is_metadata t apart covers (omega (arith, fits, length-body r.head batch)) body h

pub returns-clause-grown_head : goal.returns-clause-grown_head
returns-clause-grown_head c = λ r batch is_metadata. ap (λ (k : ℕ). head_sector (next_serial r.serial) r.tail (r.head + k)) (length-body r.head batch)

pub returns-clause-emptied : goal.returns-clause-emptied
returns-clause-emptied c = holds_emptied c.tape_laws.ensures

pub returns-clause-trimmed : goal.returns-clause-trimmed
returns-clause-trimmed c = holds_trimmed c.tape_laws.ensures

pub returns-clause-written : goal.returns-clause-written
returns-clause-written c = λ n r r2 old new put h. told_did (Put 2 (head_of r2)) old.told new.told (λ t. Stands n r t × Holds n r2 t) (Turns n r r2) put.told (λ t s. turn c.tape_laws.ensures n r r2 t s.0 s.1) h

pub returns-clause-failed : goal.returns-clause-failed
returns-clause-failed c = λ n r r2 old new failed h. told_either (tried 2 (head_of r2)) old new (λ t. Stands n r t × Holds n r2 t) (Either n r r2) failed.did
    (λ t s. turn_failed c.tape_laws.ensures n r r2 t (tried 2 (head_of r2)) (c.tape_laws.ensures.failed_writes 2 (head_of r2)) s.0 s.1) (λ t s. not_turned c.tape_laws.ensures n r r2 t s.0 s.1) h

pub returns-clause-passed : goal.returns-clause-passed
returns-clause-passed c = λ n r r2 old new passed h. told_did Barrier old.told new.told (Turns n r r2) (Stands n r2) passed.told (λ t w. turned c.tape_laws.ensures n r r2 t w) h
