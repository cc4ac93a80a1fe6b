-- A mount whose history begins, as a core takes it.
use Rattle.std.proofs.Common.{◌≡◌, ℕ, ◌<◌, ◌≤◌, ◌^◌, List, [], length, sym, ◌∙◌, ap, subst, arith}
use Rattle.std.specs.Prelude.{vec_capacity}
use Rattle.vx_base.specs.declared.event.Event.{Event}
use Rattle.vx_dev.specs.Tape as dev
use Rattle.vx_model.specs.LaidOut.{IsPlain}
use Rattle.vx_model.specs.Legal.{World, in_use, unmounted, after_all}
use Rattle.vx_stage.specs.Kernels.{present}
use Rattle.vx_stage.specs.declared.kernel.Kernel.{Kernel}
use Rattle.vx_txn.specs.Metas.{IsStateOf}
use Rattle.vx_txn.specs.declared.meta.Meta.{Meta}
use Rattle.vx_calls.specs.declared.mount.Mount.{Mount}
use Rattle.vx_calls.specs.Mounts.{IsAt}
use Rattle.vx_calls.specs.Potentials.{debt, promised}
use Rattle.vx_run.specs.Mounted.{Keeps}

-- what the memory stands for before the first call
pub meta_new : (o : World) (k : Kernel) (m : Meta) → k.history.items ≡ [] → IsStateOf m o.state → IsStateOf m (present o k)
meta_new o k m empty is = subst (λ (h : List Event). IsStateOf m (after_all o h).state) (sym empty) is

pub plain_new : (o : World) (k : Kernel) → k.history.items ≡ [] → IsPlain o.state → IsPlain (present o k)
plain_new o k empty is = subst (λ (h : List Event). IsPlain (after_all o h).state) (sym empty) is

module _ (o : World) (room : ℕ) (d : dev.State) (k : Kernel) (m : Mount) (same : m.kernel ≡ k) (empty : k.history.items ≡ []) (owes : debt m ≡ 0) where
  pub none_promised : promised m ≡ 0
  none_promised = let none : length m.kernel.history.items ≡ 0 = ap (λ (x : Kernel). length x.history.items) same ∙ ap length empty in omega (arith, none, owes)

  pub keeps_new : IsAt o d m → room ≤ vec_capacity k.history → room < 2 ^ 32 → k.first ≡ o.at → o.phase ≡ in_use → Keeps o room m d
  keeps_new at capacity small first used = record {
    at = at;
    few = (let none = none_promised in omega (arith, none));
    capacity = subst (λ (x : Kernel). room ≤ vec_capacity x.history) (sym same) capacity;
    small = small;
    first = ap (λ (x : Kernel). x.first) same ∙ first;
    left = λ left. absurd (
        let phase : (after_all o m.kernel.history.items).phase ≡ in_use = ap (λ (h : List Event). (after_all o h).phase) (ap (λ (x : Kernel). x.history.items) same ∙ empty) ∙ used in
        let no_way : in_use ≡ unmounted = sym phase ∙ left in
        cc
        );
  }
