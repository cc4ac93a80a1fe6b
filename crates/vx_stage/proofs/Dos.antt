-- A Do frees no block: what it gives up waits for it.
use Rattle.std.proofs.Common.{◌≡◌, ◌⊎◌, ℕ, ◌+◌, ◌<◌, ◌≤◌, Bool, true, false, cond, List, length, Option, Some, None, refl, sym, ap, subst, ◌∙◌, arith, inl, inr}
use Rattle.std.specs.Prelude.{IfSome, IsTrue, is_some, option_map, nat_lt}
use Rattle.std.proofs.lemmas.Bool.{le-ltb}
use Rattle.vx_base.specs.declared.call.Call.{Call}
use Rattle.vx_base.specs.declared.event.Event.TheVariants as event
use Rattle.vx_base.specs.declared.refusal.Refusal.{Refusal}
use Rattle.vx_base.specs.declared.refusal.Refusal.TheVariants as no
use Rattle.vx_base.specs.declared.reply.Reply.{Reply}
use Rattle.vx_base.specs.declared.reply.Reply.TheVariants as say
use Rattle.std.specs.FinMap as map
use Rattle.vx_layout.specs.declared.superblock.Super.{Super}
use Rattle.vx_stage.specs.declared.kernel.Job.TheVariants.{Broken}
use Rattle.vx_dev.specs.Tape.{State as Device}
use Rattle.vx_sound.specs.Reading.{Form, form_bytes}
use Rattle.vx_layout.specs.LogForms.{AfterImage}
use Rattle.vx_layout.specs.Places.{Volume, is_data, block_sector, sector_part}
use Rattle.vx_layout.specs.Supers.{volume_of}
use Rattle.vx_model.specs.Contents.{parsed_of}
use Rattle.vx_model.specs.Images.{IsBatch}
use Rattle.vx_model.specs.Layout.{kept_pending}
use Rattle.vx_model.specs.LaidOut.{IsLaidOut}
use Rattle.vx_model.specs.AllowedLaws.{IsQuiet}
use Rattle.vx_model.specs.Legal.{World, Waiting, DoAllowed, RetAllowed, IfThere, is_any_time, is_fault, is_no_space, after_all, state_after_step}
use Rattle.vx_model.specs.Step.{step}
use Rattle.vx_model.specs.State.{State, Done}
use Rattle.vx_model.specs.Waiting.{Waits, WaitingLaws}
use Rattle.vx_wellformed.specs.WellFormed.{IsConsistent, WellFormedLaws}
use Rattle.vx_stage.specs.Growths.{called_state, IsGrowth, KeepsApart, IsInUse, MayDo, MayRefuse, MayAnswer, MayStop}
use Rattle.vx_stage.specs.KernelLaws.{KernelLaws}
use Rattle.vx_stage.specs.Kernels.{IsMounted, HasRun, present}
use Rattle.vx_stage.specs.Leads.{IsYoung, AreYoung}
use Rattle.vx_stage.specs.declared.kernel.Kernel.{Kernel}
use Rattle.vx_stage.proofs.Merging.{note_cases, is_right}
use Rattle.vx_stage.proofs.Showing.{same_volume}

waits_on : (here p : ℕ) (old new : Option ℕ) → (new ≡ old) ⊎ (new ≡ Some here) → new ≡ Some p → (old ≡ Some p) ⊎ (p ≡ here)
waits_on here p old new (inl same) is = inl (sym same ∙ is)
waits_on here p old new (inr fresh) is = let both : Some here ≡ Some p = sym fresh ∙ is in let e : here ≡ p = cc in inr (sym e)

young_on : (here place b : ℕ) (s new : State) → place ≤ here → Waits here s new → IsYoung s place b → IsYoung new place b
young_on here place b s new le waits young = elim young [
  | inl named ↦ elim (waits.named b named) [
    | inl still ↦ inl still
    | inr fresh ↦ inr (here, (fresh, le))
  ]
  | inr (p, old) ↦ elim (waits.pending b) [
    | inl same ↦ inr (p, (same ∙ old.0, old.1))
    | inr fresh ↦ inr (here, (fresh, le))
  ]
]

-- a call leaves what it gives up waiting, and a refused one leaves all as it was
same_waits : (place : ℕ) (s : State) → Waits place s s
same_waits place s = record { same_volume = refl; same_device = refl; named = λ b there. inl there; pending = λ b. inl refl }

pub call_waits : WaitingLaws → (o : World) (d : Device) (k : Kernel) (session line : ℕ) (call : Call) (reply : Reply) → HasRun o d k → DoAllowed (after_all o k.history.items) session line call reply
    → Waits (length k.history.items) (present o k) (called_state o k session call reply)
call_waits laws o d k session line call reply run allowed = subst (λ (place : ℕ). Waits place s (called_state o k session call reply)) run.next (by_cases (is_fault reply) (step s n session call) refl allowed.reply_is)
  where
    s : State
    s = present o k

    n : ℕ
    n = (after_all o k.history.items).next

    by_cases : (b : Bool) (x : Option Done) → step s n session call ≡ x → IfThere x (λ done. (reply ≡ done.reply) ⊎ (is_fault reply ≡ true)) → Waits n s (cond b s (state_after_step s x))
    by_cases true x is there = same_waits n s
    by_cases false None is there = absurd there
    by_cases false (Some done) is there = laws.step s n session call done is

mounted_on : (v : Super) (s new : State) (place : ℕ) → IsMounted v s → IsConsistent new → Waits place s new → IsMounted v new
mounted_on v s new place is consistent waits = record {
  consistent = consistent;
  log_blocks = omega (arith, ap (λ (w : Volume). w.first) waits.same_volume, is.log_blocks);
  units = ap (λ (w : Volume). w.units) waits.same_volume ∙ is.units;
}

module _ (laws : WaitingLaws) (well : WellFormedLaws) (o : World) (d : Device) (k : Kernel) (at session line : ℕ) (call : Call) (reply : Reply) (at_is : at ≡ d.count) (run : HasRun o d k) (may : MayDo o k session line call reply) where
  waits : Waits (length k.history.items) (present o k) (called_state o k session call reply)
  waits = call_waits laws o d k session line call reply run may.allowed

  pub do_grows : IsGrowth o d k (event.Do at session line call reply)
  do_grows = record {
    allowed = record { later = omega (arith, run.at, at_is); phase_is = may.mounted; comes = may.allowed };
    at = at_is;
    placed = tt;
    earned = tt;
    mounted = mounted_on k.sizes (present o k) (called_state o k session call reply) (length k.history.items) run.mounted_now
        (well.consistent_event (after_all o k.history.items) (event.Do at session line call reply) run.mounted_now.consistent may.laid_out) waits;
    pending = λ b p is. waits_on (length k.history.items) p _ _ (waits.pending b) is;
    young = λ place b from inside young. young_on (length k.history.items) place b (present o k) (called_state o k session call reply) inside waits young;
  }

  pub do_frees : KeepsApart o k (event.Do at session line call reply)
  do_frees b holds = laws.stays (present o k) (called_state o k session call reply) (length k.history.items) b waits holds

-- ---- a refusal

not_space : (why : Refusal) → is_any_time why ≡ true → is_no_space (say.Refused why) ≡ true → ⊥
not_space (no.NoSpace need free) any_time short = absurd cc
not_space _ any_time short = absurd cc

pub refused_state : (o : World) (k : Kernel) (session : ℕ) (call : Call) (why : Refusal) → is_any_time why ≡ true → called_state o k session call (say.Refused why) ≡ present o k
refused_state o k session call why any_time = ap (λ (b : Bool). cond b (present o k) (state_after_step (present o k) (step (present o k) (after_all o k.history.items).next session call))) any_time

pub refused_may : (o : World) (d : Device) (k : Kernel) (session line : ℕ) (call : Call) (why : Refusal) → HasRun o d k → MayRefuse o k session line call why → MayDo o k session line call (say.Refused why)
refused_may o d k session line call why run may = record {
  mounted = may.mounted;
  allowed = record {
    numbered = may.numbered;
    idle = may.idle;
    reply_is = there (step (present o k) (after_all o k.history.items).next session call) may.built;
    all_released = λ short b. absurd (not_space why may.any_time short);
  };
  laid_out = subst IsLaidOut (sym (refused_state o k session call why may.any_time)) run.mounted_now.consistent.laid_out;
}
  where
    there : (x : Option Done) → IfThere x (λ _. Unit {0}) → IfThere x (λ done. (say.Refused why ≡ done.reply) ⊎ (is_fault (say.Refused why) ≡ true))
    there None is = absurd is
    there (Some done) is = inr may.any_time

-- ---- an answer

module _ (o : World) (d : Device) (k : Kernel) (at place : ℕ) (answer : Reply) (at_is : at ≡ d.count) (run : HasRun o d k) (may : MayAnswer o k place answer) where
  here : (x : Option Waiting) → map.get (after_all o k.history.items).waiting place ≡ x → RetAllowed x answer → place < length k.history.items
  here None is allowed = absurd allowed
  here (Some v) is allowed = run.waiting place v is

  pub answer_grows : IsGrowth o d k (event.Ret at place answer)
  answer_grows = record {
    allowed = record { later = omega (arith, run.at, at_is); phase_is = may.mounted; comes = may.allowed };
    at = at_is;
    placed = here (map.get (after_all o k.history.items).waiting place) refl may.allowed;
    earned = may.earned;
    mounted = run.mounted_now;
    pending = λ b p is. inl is;
    young = λ place_ b from inside young. young;
  }

  pub answer_quiet : k.job ≡ Broken → IsQuiet d.count (event.Ret at place answer)
  answer_quiet broken = inr (may.refused broken)

-- ---- the end of a run that was stopped

pub stop_grows : (o : World) (d : Device) (k : Kernel) (at : ℕ) → at ≡ d.count → HasRun o d k → MayStop o k → IsGrowth o d k (event.Stopped at)
stop_grows o d k at at_is run may = record {
  allowed = record { later = omega (arith, run.at, at_is); phase_is = may; comes = tt };
  at = at_is;
  placed = tt;
  earned = tt;
  mounted = run.mounted_now;
  pending = λ b p is. inl is;
  young = λ place b from inside young. young;
}

claim_some : {A B : Type 0} (f : A → B) (x : Option A) (y : B) → option_map f x ≡ Some y → is_some x ≡ true
claim_some f None y h = absurd cc
claim_some f (Some a) y h = refl

-- what a transaction has of a data block's sectors is metadata
pub young_batch : (laws : KernelLaws) (k : Kernel) (old new : State) (place : ℕ) (batch : List AfterImage) → IsMounted k.sizes new → IsBatch (volume_of k.sizes) (parsed_of old) (parsed_of new) batch → AreYoung new place batch
young_batch laws k old new place batch mounted is b i data_ lt = elim (note_cases batch (block_sector 2 b + i)) [
  | inl (image, found) ↦
      let here : IsTrue (is_data (volume_of k.sizes) b) = subst (λ (w : Volume). IsTrue (is_data w b)) (same_volume k.sizes new mounted) data_ in
      let content = sym (laws.parts k.sizes (parsed_of new) b i here lt) ∙ is_right (volume_of k.sizes) (parsed_of new) batch (block_sector 2 b + i) image is.right found in
      let form : is_some ((parsed_of new).forms b) ≡ true = claim_some (λ (x : Form). sector_part i (form_bytes 1024 x)) ((parsed_of new).forms b) image content in
      subst (λ (x : Option (List ℕ)). IfSome x (λ _. IsYoung new place b)) (sym found) (inl (laws.formed new b form))
  | inr none ↦ subst (λ (x : Option (List ℕ)). IfSome x (λ _. IsYoung new place b)) (sym none) tt
]

-- ---- a release up to the committed prefix

kept_some : (upto p : ℕ) (x : Option ℕ) → kept_pending upto x ≡ Some p → x ≡ Some p
kept_some upto p None h = absurd cc
kept_some upto p (Some q) h = here (nat_lt q upto) h
  where
    here : (t : Bool) → cond t None (Some q) ≡ Some p → Some q ≡ Some p
    here true e = absurd cc
    here false e = e

kept_late : (upto p : ℕ) (x : Option ℕ) → x ≡ Some p → upto ≤ p → kept_pending upto x ≡ Some p
kept_late upto p x is le = ap (kept_pending upto) is ∙ ap (λ (t : Bool). cond t None (Some p)) (le-ltb p upto le)

pub release_grows : WellFormedLaws → (o : World) (d : Device) (k : Kernel) (at : ℕ) → at ≡ d.count → HasRun o d k → IsInUse o k → IsGrowth o d k (event.Release at k.committed)
release_grows well o d k at at_is run mounted = record {
  allowed = record { later = omega (arith, run.at, at_is); phase_is = mounted; comes = tt };
  at = at_is;
  placed = tt;
  earned = tt;
  mounted = record { consistent = well.consistent_released (present o k) k.committed run.mounted_now.consistent; log_blocks = run.mounted_now.log_blocks; units = run.mounted_now.units };
  pending = λ b p is. inl (kept_some k.committed p ((present o k).layout.pending b) is);
  young = λ place b from inside young. elim young [
    | inl named ↦ inl named
    | inr (p, old) ↦ inr (p, (kept_late k.committed p ((present o k).layout.pending b) old.0 (omega (arith, from, old.1)), old.1))
  ];
}
