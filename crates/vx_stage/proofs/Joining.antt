-- The transaction of a call joins the open batch.
use Rattle.std.proofs.Common.{◌≡◌, ℕ, ◌+◌, List, Option, sym, subst, inl, inr}
use Rattle.std.specs.Prelude.{IfSome}
use Rattle.std.specs.List.Sorted.{IsStrictlyIncreasing}
use Rattle.vx_base.specs.declared.event.Event.{Event}
use Rattle.vx_dev.specs.Tape.{State as Device}
use Rattle.vx_layout.specs.LogForms.{AfterImage, LogState}
use Rattle.vx_layout.specs.Places.{block_sector}
use Rattle.vx_layout.specs.Supers.{volume_of}
use Rattle.vx_log.specs.Batches.{sectors_of}
use Rattle.vx_log.specs.Batches.{with_notes, noted_at}
use Rattle.vx_log.specs.NoteLaws.{NoteLaws}
use Rattle.vx_model.specs.Contents.{parsed_of}
use Rattle.vx_model.specs.Legal.{World}
use Rattle.vx_model.specs.State.{State}
use Rattle.vx_stage.specs.Leads.{state_at}
use Rattle.vx_stage.specs.Growths.{next_state, IsGrowth}
use Rattle.vx_stage.specs.Kernels.{HasRun, IsLogOf, present}
use Rattle.vx_stage.specs.Leads.{Leads, IsYoung, AreYoung}
use Rattle.vx_stage.specs.declared.kernel.Kernel.{Kernel}
use Rattle.vx_stage.proofs.Growing.{still_young}
use Rattle.vx_stage.proofs.Merging.{note_cases, joined}

-- the blocks of both batches
pub both_young : (notes : NoteLaws) (s : State) (place : ℕ) (first second : List AfterImage) → IsStrictlyIncreasing (sectors_of second) → AreYoung s place first → AreYoung s place second → AreYoung s place (with_notes first second)
both_young notes s place first second rising f g b i data_ lt = elim (note_cases second (block_sector 2 b + i)) [
  | inl (image, is) ↦
      let young : IfSome (noted_at second (block_sector 2 b + i)) (λ _. IsYoung s place b) = g b i data_ lt in
      subst (λ (x : Option (List ℕ)). IfSome x (λ _. IsYoung s place b)) (sym (notes.batch first second (block_sector 2 b + i) image rising is)) (subst (λ (x : Option (List ℕ)). IfSome x (λ _. IsYoung s place b)) is young)
  | inr none ↦ subst (λ (x : Option (List ℕ)). IfSome x (λ _. IsYoung s place b)) (sym (notes.batch_other first second (block_sector 2 b + i) none)) (f b i data_ lt)
]

module _ (o : World) (d : Device) (k : Kernel) (e : Event) (run : HasRun o d k) (grows : IsGrowth o d k e) where
  abbrev Opens : List AfterImage → Type 0
  Opens batch = Leads (volume_of k.sizes) (parsed_of (state_at o k.history.items k.closing)) (parsed_of (next_state o k e)) batch × AreYoung (next_state o k e) k.closing batch

  -- an event that leaves the state
  pub opens_still : next_state o k e ≡ present o k → (i : ℕ) (r : LogState) → IsLogOf o k i r → Opens k.gathered
  opens_still same i r l = (
    subst (λ (s : State). Leads (volume_of k.sizes) (parsed_of (state_at o k.history.items k.closing)) (parsed_of s) k.gathered) (sym same) l.leads,
    subst (λ (s : State). AreYoung s k.closing k.gathered) (sym same) l.young,
  )

  -- a Do with its transaction
  pub opens_joined : NoteLaws → (transaction gathered : List AfterImage) → gathered ≡ with_notes k.gathered transaction → IsStrictlyIncreasing (sectors_of transaction)
      → Leads (volume_of k.sizes) (parsed_of (present o k)) (parsed_of (next_state o k e)) transaction → AreYoung (next_state o k e) k.closing transaction → (i : ℕ) (r : LogState) → IsLogOf o k i r → Opens gathered
  opens_joined notes transaction gathered is rising leads young i r l = subst Opens (sym is) (
    joined notes (volume_of k.sizes) (parsed_of (state_at o k.history.items k.closing)) (parsed_of (present o k)) (parsed_of (next_state o k e)) k.gathered transaction rising l.leads leads,
    both_young notes (next_state o k e) k.closing k.gathered transaction rising (still_young o d k e run grows k.closing k.gathered run.order run.within l.young) young,
  )
