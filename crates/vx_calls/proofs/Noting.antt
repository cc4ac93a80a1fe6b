-- What is noted of a call.
use Rattle.std.proofs.Common.{◌≡◌, ◌⊎◌, ℕ, ◌+◌, ◌*◌, ◌<◌, ◌≤◌, true, List, [], ◌∷◌, ◌++◌, Some, sym, ap, subst, ◌∙◌, arith}
use Rattle.std.specs.Prelude.{All, IsSome}
use Rattle.std.specs.List.{AllByRecursion}
use Rattle.vx_base.specs.declared.call.Call.{Call}
use Rattle.vx_base.specs.declared.event.Event.{Event}
use Rattle.vx_base.specs.declared.event.Event.TheVariants as event
use Rattle.vx_base.specs.declared.reply.Reply.{Reply}
use Rattle.vx_dev.specs.Tape.{State as Device}
use Rattle.vx_dev.specs.Moments.{Told}
use Rattle.vx_layout.specs.LogForms.{AfterImage}
use Rattle.vx_layout.specs.Places.{Volume}
use Rattle.vx_layout.specs.Supers.{volume_of}
use Rattle.vx_model.specs.Contents.{parsed_of}
use Rattle.vx_model.specs.EditLaws.{EditLaws}
use Rattle.vx_model.specs.Images.{content_at, IsBatch}
use Rattle.vx_model.specs.Layout.{volume}
use Rattle.vx_model.specs.LaidOut.{IsLaidOut, IsPlain}
use Rattle.vx_model.specs.Legal.{World, IfThere, after_all, is_fault}
use Rattle.vx_model.specs.State.{State}
use Rattle.vx_model.specs.Step.{step}
use Rattle.vx_model.specs.Touching.{Touched, HasTouched, untouched}
use Rattle.vx_stage.specs.Growths.{MayDo, called_state}
use Rattle.vx_stage.specs.Kernels.{IsFit, IsInside, HasRun, IsLive, present}
use Rattle.vx_stage.specs.declared.kernel.Kernel.{Kernel}
use Rattle.vx_txn.specs.Metas.{IsStateOf, Stands}
use Rattle.vx_calls.specs.Calls.{HasReplied}
use Rattle.vx_calls.specs.Mounts.{IsAt, MayBegin}
use Rattle.vx_calls.specs.declared.mount.Mount.{Mount}
use Rattle.vx_calls.proofs.Keeping.{after_push, in_use_still}

module _ (o : World) (d : Device) (m : Mount) (c : Call) (reply : Reply) (r : HasReplied o d m c reply) where
  pub stands : Stands m.meta r.new
  stands = record { laid_out = r.laid_out; plain = r.plain; is = r.meta }

  same_volume : (r.new.layout.log_blocks ≡ m.kernel.sizes.log_blocks) × (r.new.layout.units ≡ m.kernel.sizes.units)
  same_volume = (
    omega (arith, ap (λ (v : Volume). v.first) r.touched.same_volume, r.run.mounted_now.log_blocks),
    ap (λ (v : Volume). v.units) r.touched.same_volume ∙ r.run.mounted_now.units,
  )

  pub inside : (batch : List AfterImage) → All (λ e. (2 * (2 + r.new.layout.log_blocks) ≤ e.0) × (e.0 < 2 * (2 + r.new.layout.log_blocks + 4096 * r.new.layout.units))) batch → All (IsInside m.kernel.sizes) batch
  inside batch all k e lt = let here = all k e lt in (omega (arith, here.0, same_volume.0), omega (arith, here.1, same_volume.0, same_volume.1))

  module _ (session line : ℕ) (may : MayBegin o m.kernel session line) where
    pub may_do : MayDo o m.kernel session line c reply
    may_do = record {
      mounted = may.mounted;
      allowed = record {
        numbered = may.numbered;
        idle = may.idle;
        reply_is = subst (λ (n : ℕ). IfThere (step (present o m.kernel) n session c) (λ done. (reply ≡ done.reply) ⊎ (is_fault reply ≡ true))) (sym r.run.next) (r.reply_is session);
        all_released = r.all_released;
      };
      laid_out = subst IsLaidOut (sym (r.state_is session)) r.laid_out;
    }

    pub is_batch : EditLaws → (batch : List AfterImage) → AllByRecursion (λ e. content_at (volume r.new.layout) (parsed_of r.new) e.0 ≡ Some e.1) batch → HasTouched r.new m.touched batch
        → IsBatch (volume_of m.kernel.sizes) (parsed_of (present o m.kernel)) (parsed_of (called_state o m.kernel session c reply)) batch
    is_batch edits batch right whole = subst (λ (s : State). IsBatch (volume_of m.kernel.sizes) (parsed_of (present o m.kernel)) (parsed_of s) batch) (sym (r.state_is session))
        (subst (λ (v : Volume). IsBatch v (parsed_of (present o m.kernel)) (parsed_of r.new) batch) volume_is
        (edits.batch (present o m.kernel) r.new m.touched batch r.run.mounted_now.consistent.laid_out r.laid_out r.touched right whole))
      where
        volume_is : volume r.new.layout ≡ volume_of m.kernel.sizes
        volume_is = r.touched.same_volume ∙ (λ i. record { block = 1024; first = 2 + r.run.mounted_now.log_blocks i; units = r.run.mounted_now.units i })

    -- the mount once the call is noted
    module _ (edits : EditLaws) (m2 : Mount) (same : m2 ≡ record m { transaction = m2.transaction }) (right : (s : State) → Stands m.meta s → AllByRecursion (λ e. content_at (volume s.layout) (parsed_of s) e.0 ≡ Some e.1) m2.transaction)
        (whole : (s : State) → Stands m.meta s → HasTouched s m.touched m2.transaction) (k : Kernel) (at : ℕ) (items : k.history.items ≡ m2.kernel.history.items ++ event.Do at session line c reply ∷ [])
        (run : HasRun o d m2.kernel → MayDo o m2.kernel session line c reply → HasRun o d k)
        (live : HasRun o d m2.kernel → MayDo o m2.kernel session line c reply → IsBatch (volume_of m2.kernel.sizes) (parsed_of (present o m2.kernel)) (parsed_of (called_state o m2.kernel session c reply)) m2.transaction → Told d (IsLive o m2.kernel) → Told d (IsLive o k))
        (fit : IsFit d k) (job : k.job ≡ m2.kernel.job) where
      kernel_is : m2.kernel ≡ m.kernel
      kernel_is = ap (λ (x : Mount). x.kernel) same

      on_kernel : (P : Kernel → Type 0) → P m.kernel → P m2.kernel
      on_kernel P is = subst P (sym kernel_is) is

      run_now : HasRun o d m2.kernel
      run_now = on_kernel (HasRun o d) r.run

      may_now : MayDo o m2.kernel session line c reply
      may_now = on_kernel (λ x. MayDo o x session line c reply) may_do

      present_is : present o k ≡ called_state o m.kernel session c reply
      present_is = ap (λ (es : List Event). (after_all o es).state) items ∙ ap (λ (w : World). w.state) (after_push o m2.kernel.history.items (event.Do at session line c reply)) ∙ ap (λ (x : Kernel). called_state o x session c reply) kernel_is

      pub noted : (touched : Touched) (transaction : List AfterImage) → touched ≡ untouched → transaction ≡ [] → IsAt o d (record { kernel = k; meta = m2.meta; touched = touched; transaction = transaction; disabled = m2.disabled; due = m2.due })
      noted touched transaction none empty = record {
        run = run run_now may_now;
        live = live run_now may_now (on_kernel (λ x. IsBatch (volume_of x.sizes) (parsed_of (present o x)) (parsed_of (called_state o x session c reply)) m2.transaction) (is_batch edits m2.transaction (right r.new stands) (whole r.new stands)))
            (on_kernel (λ x. Told d (IsLive o x)) r.live);
        fit = fit;
        meta = subst (IsStateOf m2.meta) (sym (present_is ∙ r.state_is session)) (subst (λ (x : Mount). IsStateOf x.meta r.new) (sym same) r.meta);
        plain = subst IsPlain (sym (present_is ∙ r.state_is session)) r.plain;
        touched = none;
        transaction = empty;
        enabled = λ is broken. r.enabled (sym (ap (λ (x : Mount). x.disabled) same) ∙ is) (sym (ap (λ (x : Kernel). x.job) kernel_is) ∙ sym job ∙ broken);
        broken = λ some. job ∙ ap (λ (x : Kernel). x.job) kernel_is ∙ r.broken (subst (λ (x : Mount). IsSome x.disabled) same some);
        left = λ is. absurd (in_use_still o m.kernel may.mounted (r.left (sym (ap (λ (x : Kernel). x.job) kernel_is) ∙ sym job ∙ is)));
      }
