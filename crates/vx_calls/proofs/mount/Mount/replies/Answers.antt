use Rattle.std.proofs.Common.{◌≡◌, ◌∙◌, ℕ, true, false, length, refl, sym, subst}
use Rattle.vx_base.specs.declared.refusal.Refusal.TheVariants as no
use Rattle.vx_model.specs.Legal.{IfThere}
use Rattle.vx_model.specs.State.{Done}
use Rattle.vx_model.specs.Step.{step}
use Rattle.vx_stage.specs.Kernels.{present}
use Rattle.vx_txn.specs.Calls.{IsDone}
use Rattle.vx_calls.specs.Calls.{IsAsked}
use Rattle.vx_calls.specs.declared.asked.Asked.{Asked}
use Rattle.vx_calls.proofs.Asking.{done_replied, kept_at, ran_of, refused_at, refused_replied, short_of}
use Rattle.vx_calls.specs.Potentials.{AsksOf}
use Rattle.vx_calls.proofs.Spending.{asks_from, changed_owed, changed_promised, failed_same, kept_owed, kept_promised}
use Rattle.vx_calls.proofs.Waiting.{same_waits, waits_one, waits_some}
use Rattle.vx_calls.proofs.mount.Mount.replies.Goals.{else-is_no_space-via-then-is_no_space+else-has_pending, else-is_no_space-via-else-is_no_space}
use Rattle.vx_calls.proofs.mount.Mount.replies.Goals as goal

pub apply-requires-clause-sound : goal.apply-requires-clause-sound
apply-requires-clause-sound g c = let at = c.requires.used.at in record { state = present c.requires.used.opening c.args.self.now.kernel; stands = record { laid_out = at.run.mounted_now.consistent.laid_out; plain = at.plain; is = at.meta } }

pub make_space-requires-clause-used : goal.make_space-requires-clause-used
make_space-requires-clause-used g c =
    let m = c.args.self.now in
    let d = g.D.BlockDev.state c.args.dev.now in
    let o = c.requires.used.opening in
    let at = c.requires.used.at in
    let s = present o m.kernel in
    let ran = ran_of o d m at c.args.call.now c.in-Ok.reply c.apply.new.self c.apply.new.touched (step s (length m.kernel.history.items) 0 c.args.call.now) refl
    (subst (λ (n : ℕ). IfThere (step s n 0 c.args.call.now) (λ (done : Done). IsDone s done c.apply.new.self c.apply.new.touched c.in-Ok.reply)) (c.len-place.ensures ∙ m.kernel.history.ok.0) (c.in-Ok.ensures.done s 0 at.run.mounted_now.consistent.laid_out at.plain at.meta)) in
    let short = short_of c.in-Ok.reply (sym c.is_no_space.ensures ∙ c.if-is_no_space.true) in
    record { opening = o; at = refused_at o d m at c.args.call.now c.in-Ok.reply c.apply.new.self c.apply.new.touched ran c.refused_leaves.ensures short.0 short.1 c.in-Ok.ensures.fits; in_use = c.requires.used.in_use }

pub returns-then-has_pending-clause-at : goal.returns-then-has_pending-clause-at
returns-then-has_pending-clause-at g c = λ o at used.
    let m = c.args.self.now in
    let d = g.D.BlockDev.state c.args.dev.now in
    let s = present o m.kernel in
    let ran = ran_of o d m at c.args.call.now c.in-Ok.reply c.apply.new.self c.apply.new.touched (step s (length m.kernel.history.items) 0 c.args.call.now) refl
    (subst (λ (n : ℕ). IfThere (step s n 0 c.args.call.now) (λ (done : Done). IsDone s done c.apply.new.self c.apply.new.touched c.in-Ok.reply)) (c.len-place.ensures ∙ m.kernel.history.ok.0) (c.in-Ok.ensures.done s 0 at.run.mounted_now.consistent.laid_out at.plain at.meta)) in
    let short = short_of c.in-Ok.reply (sym c.is_no_space.ensures ∙ c.if-is_no_space.true) in
    c.make_space.ensures.at o (refused_at o d m at c.args.call.now c.in-Ok.reply c.apply.new.self c.apply.new.touched ran c.refused_leaves.ensures short.0 short.1 c.in-Ok.ensures.fits) used c.args.call.now c.requires.built

pub returns-else-is_no_space-clause-at : goal.returns-else-is_no_space-clause-at
returns-else-is_no_space-clause-at g c = λ o at used.
    let m = c.args.self.now in
    let d = g.D.BlockDev.state c.args.dev.now in
    let s = present o m.kernel in
    let ran = ran_of o d m at c.args.call.now c.in-Ok.reply c.apply.new.self c.apply.new.touched (step s (length m.kernel.history.items) 0 c.args.call.now) refl
    (subst (λ (n : ℕ). IfThere (step s n 0 c.args.call.now) (λ (done : Done). IsDone s done c.apply.new.self c.apply.new.touched c.in-Ok.reply)) (c.len-place.ensures ∙ m.kernel.history.ok.0) (c.in-Ok.ensures.done s 0 at.run.mounted_now.consistent.laid_out at.plain at.meta)) in
    done_replied o d m at c.args.call.now c.in-Ok.reply c.apply.new.self c.apply.new.touched c.requires.built ran c.in-Ok.ensures.sound (c.apply.ensures.few, c.apply.ensures.units) c.requires.place
    (λ is. elim c.else-is_no_space.branch [
      | else-is_no_space-via-then-is_no_space+else-has_pending w ↦
          let short = short_of c.in-Ok.reply is in
          w.has_pending.ensures.none s (refused_at o d m at c.args.call.now c.in-Ok.reply c.apply.new.self c.apply.new.touched ran c.refused_leaves.ensures short.0 short.1 c.in-Ok.ensures.fits).meta w.if-has_pending.false
      | else-is_no_space-via-else-is_no_space w ↦ absurd (let wrong : true ≡ false = sym is ∙ sym c.is_no_space.ensures ∙ w.if-is_no_space.false in cc)
    ])

pub returns-in-Err-clause-at : goal.returns-in-Err-clause-at
returns-in-Err-clause-at g c = λ o at used.
    let m = c.args.self.now in
    let d = g.D.BlockDev.state c.args.dev.now in
    subst (λ (x : Asked). IsAsked o d (record m { meta = c.apply.new.self; touched = c.apply.new.touched }) c.args.call.now x) (sym c.refused.ensures)
    (refused_replied o d (record m { meta = c.apply.new.self; touched = c.apply.new.touched }) (kept_at o d m at c.apply.new.self c.apply.new.touched (c.in-Err.ensures.err (present o m.kernel) at.meta) c.in-Err.ensures.untouched)
    c.args.call.now no.NoMemory c.requires.built refl)

pub make_space-requires-clause-waits : goal.make_space-requires-clause-waits
make_space-requires-clause-waits g c =
    let m = c.args.self.now in
    let d = g.D.BlockDev.state c.args.dev.now in
    let o = c.requires.used.opening in
    let at = c.requires.used.at in
    let s = present o m.kernel in
    let ran = ran_of o d m at c.args.call.now c.in-Ok.reply c.apply.new.self c.apply.new.touched (step s (length m.kernel.history.items) 0 c.args.call.now) refl
    (subst (λ (n : ℕ). IfThere (step s n 0 c.args.call.now) (λ (done : Done). IsDone s done c.apply.new.self c.apply.new.touched c.in-Ok.reply)) (c.len-place.ensures ∙ m.kernel.history.ok.0) (c.in-Ok.ensures.done s 0 at.run.mounted_now.consistent.laid_out at.plain at.meta)) in
    let short = short_of c.in-Ok.reply (sym c.is_no_space.ensures ∙ c.if-is_no_space.true) in
    let is = (refused_at o d m at c.args.call.now c.in-Ok.reply c.apply.new.self c.apply.new.touched ran c.refused_leaves.ensures short.0 short.1 c.in-Ok.ensures.fits).meta in
    let some = c.has_pending.ensures.some s is c.if-has_pending.true in
    waits_some c.apply.new.self s is some.0 some.1

pub returns-then-has_pending-clause-asks : goal.returns-then-has_pending-clause-asks
returns-then-has_pending-clause-asks g c =
    let m = c.args.self.now in
    let d = g.D.BlockDev.state c.args.dev.now in
    let o = c.requires.used.opening in
    let at = c.requires.used.at in
    let s = present o m.kernel in
    let ran = ran_of o d m at c.args.call.now c.in-Ok.reply c.apply.new.self c.apply.new.touched (step s (length m.kernel.history.items) 0 c.args.call.now) refl
    (subst (λ (n : ℕ). IfThere (step s n 0 c.args.call.now) (λ (done : Done). IsDone s done c.apply.new.self c.apply.new.touched c.in-Ok.reply)) (c.len-place.ensures ∙ m.kernel.history.ok.0) (c.in-Ok.ensures.done s 0 at.run.mounted_now.consistent.laid_out at.plain at.meta)) in
    let short = short_of c.in-Ok.reply (sym c.is_no_space.ensures ∙ c.if-is_no_space.true) in
    let is = (refused_at o d m at c.args.call.now c.in-Ok.reply c.apply.new.self c.apply.new.touched ran c.refused_leaves.ensures short.0 short.1 c.in-Ok.ensures.fits).meta in
    let e = g.D.BlockDev.state c.make_space.new.dev in
    let same = same_waits m.meta c.apply.new.self s at.meta is in
    asks_from d e m (record m { meta = c.apply.new.self; touched = c.apply.new.touched }) c.make_space.new.self c.make_space.result (kept_owed m c.apply.new.self c.apply.new.touched same) (kept_promised m c.apply.new.self c.apply.new.touched same) refl refl c.make_space.ensures.asks

pub returns-else-is_no_space-clause-asks : goal.returns-else-is_no_space-clause-asks
returns-else-is_no_space-clause-asks g c = record { owed = changed_owed c.args.self.now c.apply.new.self c.apply.new.touched (waits_one c.apply.new.self); promised = changed_promised c.args.self.now c.apply.new.self c.apply.new.touched (waits_one c.apply.new.self); quiet = λ same. refl }

pub returns-else-is_no_space-clause-failed : goal.returns-else-is_no_space-clause-failed
returns-else-is_no_space-clause-failed g c = failed_same c.args.self.now.disabled (g.D.BlockDev.state c.args.dev.now)

pub returns-in-Err-clause-asks : goal.returns-in-Err-clause-asks
returns-in-Err-clause-asks g c =
    let d = g.D.BlockDev.state c.args.dev.now in
    subst (λ (x : Asked). AsksOf d d c.args.self.now (record c.args.self.now { meta = c.apply.new.self; touched = c.apply.new.touched }) x) (sym c.refused.ensures) (record { owed = changed_owed c.args.self.now c.apply.new.self c.apply.new.touched (waits_one c.apply.new.self); promised = changed_promised c.args.self.now c.apply.new.self c.apply.new.touched (waits_one c.apply.new.self); quiet = λ same. refl })

pub returns-in-Err-clause-failed : goal.returns-in-Err-clause-failed
returns-in-Err-clause-failed g c = failed_same c.args.self.now.disabled (g.D.BlockDev.state c.args.dev.now)
