use Rattle.std.proofs.Common.{rules, ◌≡◌, ℕ, subst, ◌∙◌, arith}
use Rattle.std.proofs.lemmas.Grind.{common_steps}
use Rattle.std.specs.Prelude.{None}
use Rattle.vx_dev.specs.Tape.{now}
use Rattle.vx_log.specs.Batches.{noted_at}
use Rattle.vx_check.proofs.Laying.{laid_at, read_value}
use Rattle.vx_check.proofs.overlaid.sector_of.Goals as goal

pub returns-in-Ok-clause-bytes : goal.returns-in-Ok-clause-bytes
returns-in-Ok-clause-bytes g c = λ image known.
    let d = g.D.BlockDev.state c.args.dev.now in
    let s = c.args.s in
    let homes = c.args.homes.now in
    let lacks : noted_at homes s ≡ None = first_of (search rules, grind (arith, common_steps)) in
    let at : c.get-2.result ≡ s = first_of (search rules, grind (arith, common_steps)) in
    laid_at d.told d.doubt homes s c.read.new.to (λ t told none.
    c.note_laws.ensures.overlay_lacks homes s (now t s) lacks ∙ subst (λ (q : ℕ). now t q ≡ c.read.new.to) at (read_value d c.get-2.result c.read.new.to c.in-Ok.ensures.value t told none)) image known
