-- What every step of a mount keeps.
use Rattle.std.proofs.Common.{◌≡◌, ◌≢◌, ◌⊎◌, ℕ, Bool, true, false, cond, List, [], ◌∷◌, ◌++◌, length, Option, Some, None, Vec, Global, refl, sym, ap, subst, ◌∙◌, inl, inr}
use Rattle.std.specs.Prelude.{◌==◌, IsSome}
use Rattle.vx_base.specs.declared.event.Event.{Event}
use Rattle.vx_dev.specs.Tape.{State as Device}
use Rattle.vx_dev.specs.Moments.{Told}
use Rattle.vx_log.specs.Logs.{after_stage, is_body_out}
use Rattle.vx_model.specs.LaidOut.{IsPlain}
use Rattle.vx_model.specs.Legal.{World, in_use, unmounted, after, after_all, with_released}
use Rattle.vx_model.specs.State.{State}
use Rattle.vx_stage.specs.Growths.{IsBusy, IsInUse}
use Rattle.vx_stage.specs.Kernels.{IsFit, HasRun, IsLive, present}
use Rattle.vx_layout.specs.LogForms.{AfterImage}
use Rattle.vx_stage.specs.Staged.{staged, homes_from}
use Rattle.vx_stage.specs.declared.kernel.Job.{Job}
use Rattle.vx_stage.specs.declared.kernel.Job.TheVariants.{Idle, Body, BodyOut, Head, HeadOut, Homes, HomesOut, Tail, TailOut, Leave, LeaveOut, Left, Broken}
use Rattle.vx_stage.specs.declared.kernel.Kernel.{Kernel}
use Rattle.vx_txn.specs.Metas.{IsStateOf}
use Rattle.vx_txn.specs.declared.meta.Meta.{Meta}
use Rattle.vx_calls.specs.Mounts.{IsAt}
use Rattle.vx_calls.specs.declared.mount.Mount.{Mount}

pub after_push : (w : World) (h : List Event) (e : Event) → after_all w (h ++ e ∷ []) ≡ after (after_all w h) e
after_push w [] e = refl
after_push w (x ∷ h) e = after_push (after w x) h e

-- ---- jobs

if_job : (P : Job → Type 0) (b : Bool) (x y : Job) → P x → P y → P (cond b x y)
if_job P true x y p q = p
if_job P false x y p q = q

-- a stage that succeeds breaks nothing
pub staged_whole : (k : Kernel) (j : Job) → k.job ≡ j → j ≢ Broken → (staged k j).job ≢ Broken
staged_whole k Body is whole = if_job (λ x. x ≢ Broken) (is_body_out (after_stage k.log.closing)) BodyOut Body (λ e. cc) (λ e. cc)
staged_whole k BodyOut is whole = λ e. cc
staged_whole k Head is whole = λ e. cc
staged_whole k HeadOut is whole = λ e. cc
staged_whole k (Homes put) is whole = if_job (λ x. x ≢ Broken) _ HomesOut (Homes _) (λ e. cc) (λ e. cc)
staged_whole k HomesOut is whole = λ e. cc
staged_whole k Tail is whole = λ e. cc
staged_whole k TailOut is whole = λ e. cc
staged_whole k Leave is whole = λ e. cc
staged_whole k Idle is whole = λ e. whole (sym is ∙ e)
staged_whole k LeaveOut is whole = λ e. whole (sym is ∙ e)
staged_whole k Left is whole = λ e. whole (sym is ∙ e)
staged_whole k Broken is whole = λ e. whole refl

-- ... and does not end the leaving
staged_left : (k : Kernel) (j : Job) → k.job ≡ j → (staged k j).job ≡ Left → k.job ≡ Left
staged_left k Body is = if_job (λ x. x ≡ Left → k.job ≡ Left) (is_body_out (after_stage k.log.closing)) BodyOut Body (λ e. absurd cc) (λ e. absurd cc)
staged_left k BodyOut is = λ e. absurd cc
staged_left k Head is = λ e. absurd cc
staged_left k HeadOut is = λ e. absurd cc
staged_left k (Homes put) is = if_job (λ x. x ≡ Left → k.job ≡ Left) _ HomesOut (Homes _) (λ e. absurd cc) (λ e. absurd cc)
staged_left k HomesOut is = λ e. absurd cc
staged_left k Tail is = λ e. absurd cc
staged_left k TailOut is = λ e. absurd cc
staged_left k Leave is = λ e. absurd cc
staged_left k Idle is = λ e. e
staged_left k LeaveOut is = λ e. e
staged_left k Left is = λ e. e
staged_left k Broken is = λ e. e

-- ... and leaves nothing where the mount is not being left
pub staged_free : (k : Kernel) (j : Job) → k.job ≡ j → (IsBusy j → ⊥) → IsBusy (staged k j).job → ⊥
staged_free k Body is free = if_job (λ x. IsBusy x → ⊥) (is_body_out (after_stage k.log.closing)) BodyOut Body (λ e. e) (λ e. e)
staged_free k BodyOut is free = λ e. e
staged_free k Head is free = λ e. e
staged_free k HeadOut is free = λ e. e
staged_free k (Homes put) is free = if_job (λ x. IsBusy x → ⊥) _ HomesOut (Homes _) (λ e. e) (λ e. e)
staged_free k HomesOut is free = λ e. e
staged_free k Tail is free = λ e. e
staged_free k TailOut is free = λ e. e
staged_free k Leave is free = λ e. free tt
staged_free k Idle is free = λ e. subst IsBusy is e
staged_free k LeaveOut is free = λ e. free tt
staged_free k Left is free = λ e. subst IsBusy is e
staged_free k Broken is free = λ e. subst IsBusy is e

-- ---- the mount

-- no device failed, and the file system is not left
abbrev pub IsWhole : Job → Type 0
IsWhole j = (j ≢ Broken) × (j ≢ Left)

-- a mount that is in use is not left
pub in_use_still : (o : World) (k : Kernel) → IsInUse o k → (after_all o k.history.items).phase ≢ unmounted
in_use_still o k used left = let wrong : in_use ≡ unmounted = sym used ∙ left in cc

pub not_left : (o : World) (d : Device) (m : Mount) → IsAt o d m → IsInUse o m.kernel → m.kernel.job ≢ Left
not_left o d m at used left = in_use_still o m.kernel used (at.left left)

module _ (o : World) (a b : Device) (m : Mount) (at : IsAt o a m) where
  -- another kernel with the same history
  pub with_kernel : (k : Kernel) (disabled : Option ℕ) → k.history ≡ m.kernel.history → HasRun o b k → Told b (IsLive o k) → IsFit b k → (disabled ≡ None → k.job ≢ Broken) → (IsSome disabled → k.job ≡ Broken)
      → (k.job ≡ Left → m.kernel.job ≡ Left) → IsAt o b (record m { kernel = k; disabled = disabled })
  with_kernel k disabled same run live fit enabled broken left = record {
    run = run;
    live = live;
    fit = fit;
    meta = subst (λ (es : List Event). IsStateOf m.meta (after_all o es).state) (sym (ap (λ (v : _). v.items) same)) at.meta;
    plain = subst (λ (es : List Event). IsPlain (after_all o es).state) (sym (ap (λ (v : _). v.items) same)) at.plain;
    touched = at.touched;
    transaction = at.transaction;
    enabled = enabled;
    broken = broken;
    left = λ is. subst (λ (es : List Event). (after_all o es).phase ≡ unmounted) (sym (ap (λ (v : _). v.items) same)) (at.left (left is));
  }

  -- ---- a stage

  pub staged_at : m.disabled ≡ None → (k : Kernel) → k ≡ staged m.kernel m.kernel.job → k.history ≡ m.kernel.history → HasRun o b k → Told b (IsLive o k) → IsFit b k → IsAt o b (record m { kernel = k })
  staged_at enabled k done same run live fit = with_kernel k m.disabled same run live fit
      (λ none. subst (λ (x : Kernel). x.job ≢ Broken) (sym done) (staged_whole m.kernel m.kernel.job refl (at.enabled enabled))) (λ some. absurd (none_some enabled some))
      (λ left. staged_left m.kernel m.kernel.job refl (subst (λ (x : Kernel). x.job ≡ Left) done left))
    where
      none_some : {A : Type 0} {x : Option A} → x ≡ None → IsSome x → ⊥
      none_some none some = cc

  pub failed_at : (k : Kernel) (faults : ℕ) → k.job ≡ Broken → k.history ≡ m.kernel.history → HasRun o b k → Told b (IsLive o k) → IsFit b k → IsAt o b (record m { kernel = k; disabled = Some faults })
  failed_at k faults job same run live fit = with_kernel k (Some faults) same run live fit (λ none. absurd cc) (λ some. job) (λ left. absurd (let wrong : ◌≡◌ {A = Job} Broken Left = sym job ∙ left in cc))

  -- another job begins
  pub wanted_at : (k : Kernel) → m.kernel.job ≡ Idle → IsWhole k.job → k.history ≡ m.kernel.history → HasRun o b k → Told b (IsLive o k) → IsFit b k → IsAt o b (record m { kernel = k })
  wanted_at k idle whole same run live fit = with_kernel k m.disabled same run live fit (λ none. whole.0) (λ some. absurd (let broken = at.broken some in let wrong : ◌≡◌ {A = Job} Idle Broken = sym idle ∙ broken in cc)) (λ left. absurd (whole.1 left))

-- ---- an event more

module _ (o : World) (d e : Device) (m : Mount) (at : IsAt o d m) (k : Kernel) (x : Event) (items : k.history.items ≡ m.kernel.history.items ++ x ∷ []) (run : HasRun o e k) (live : Told e (IsLive o k)) (fit : IsFit e k) where
  pub present_is : present o k ≡ (after (after_all o m.kernel.history.items) x).state
  present_is = ap (λ (es : List Event). (after_all o es).state) items ∙ ap (λ (w : World). w.state) (after_push o m.kernel.history.items x)

  pub pushed_at : (meta : Meta) → (m.disabled ≡ None → k.job ≢ Broken) → (IsSome m.disabled → k.job ≡ Broken) → (k.job ≡ Left → (after (after_all o m.kernel.history.items) x).phase ≡ unmounted)
      → IsStateOf meta (after (after_all o m.kernel.history.items) x).state → IsPlain (after (after_all o m.kernel.history.items) x).state → IsAt o e (record m { kernel = k; meta = meta })
  pushed_at meta enabled broken left is plain = record {
    run = run;
    live = live;
    fit = fit;
    meta = subst (IsStateOf meta) (sym present_is) is;
    plain = subst IsPlain (sym present_is) plain;
    touched = at.touched;
    transaction = at.transaction;
    enabled = enabled;
    broken = broken;
    left = λ here. subst (λ (w : World). w.phase ≡ unmounted) (sym (ap (after_all o) items ∙ after_push o m.kernel.history.items x)) (left here);
  }

  pub same_job : k.job ≡ m.kernel.job → (after_all o m.kernel.history.items).phase ≢ unmounted → (meta : Meta) → IsStateOf meta (after (after_all o m.kernel.history.items) x).state → IsPlain (after (after_all o m.kernel.history.items) x).state
      → IsAt o e (record m { kernel = k; meta = meta })
  same_job job still meta is plain = pushed_at meta (λ none broken. at.enabled none (sym job ∙ broken)) (λ some. job ∙ at.broken some) (λ left. absurd (still (at.left (sym job ∙ left)))) is plain

-- no file gets bytes by a release
pub released_plain : (s : State) (upto : ℕ) → IsPlain s → IsPlain (with_released s upto)
released_plain s upto p = record { files = λ n f there. (let both = p.files n f there in (both.0, record { none = both.1.none; space = both.1.space })); rest = p.rest }

-- what begins is whole
pub starts_whole : (homes : List AfterImage) (j : Job) → (j ≡ Idle) ⊎ ((j ≡ Body) ⊎ ((j ≡ homes_from homes) ⊎ (j ≡ Leave))) → IsWhole j
starts_whole homes j (inl idle) = subst IsWhole (sym idle) ((λ e. cc), (λ e. cc))
starts_whole homes j (inr (inl body)) = subst IsWhole (sym body) ((λ e. cc), (λ e. cc))
starts_whole homes j (inr (inr (inl from))) = subst IsWhole (sym from) (if_job IsWhole (0 == length homes) Tail (Homes 0) ((λ e. cc), (λ e. cc)) ((λ e. cc), (λ e. cc)))
starts_whole homes j (inr (inr (inr leave))) = subst IsWhole (sym leave) ((λ e. cc), (λ e. cc))

-- where a wish is answered so
pub wished : (b : Bool) (P : Job → Type 0) (j : Job) → (b ≡ true → P j) → (b ≡ false → P j) → P j
wished true P j then_ else_ = then_ refl
wished false P j then_ else_ = else_ refl

-- the same use, with the same history
pub used_still : (o : World) (k k2 : Kernel) → k2.history ≡ k.history → IsInUse o k → IsInUse o k2
used_still o k k2 same used = subst (λ (es : List Event). (after_all o es).phase ≡ in_use) (sym (ap (λ (v : Vec Event Global). v.items) same)) used
