-- The log's tail moves to its head, from one step to the next.
use Rattle.std.proofs.Common.{◌≡◌, ◌⊎◌, ℕ, List, sym, ◌∙◌, ap, inl, inr, ⊎_elim}
use Rattle.std.specs.Prelude.{Result, Ok, Err, OnOk, OnErr}
use Rattle.vx_dev.specs.declared.device.DevFault.{DevFault}
use Rattle.vx_dev.specs.declared.device.Operation.TheVariants.{Put, Barrier}
use Rattle.vx_dev.specs.Tape.{Tape, State, Did, DidNothing, Failed, did, tried}
use Rattle.vx_dev.specs.Moments.{Told, Passed, Shows}
use Rattle.vx_dev.proofs.Claims.{told_did, passed_did, passed_still, told_weaker}
use Rattle.vx_layout.specs.LogForms.{LogState, ReadsAs, head_of, head_sector}
use Rattle.vx_log.specs.Crashes.{Holds, Stands, Either, Turns, IsHome, emptied}
use Rattle.vx_log.specs.Logs.{LogView, next_serial}
use Rattle.vx_log.specs.Stages.{AreHomesPut}
use Rattle.vx_replay.specs.ReplayLaws.{ReplayLaws}
use Rattle.vx_replay.specs.TailMoves.{IsReading}

module _ (laws : ReplayLaws) (n : ℕ) (r : LogState) where
  abbrev pub ReadsOne : (ℕ → List ℕ) → Type 0
  ReadsOne image = ReadsAs n r image ⊎ ReadsAs n (emptied r) image

  abbrev pub Ready : Tape → Type 0
  Ready t = Stands n r t × Holds n (emptied r) t

  abbrev pub Turning : Tape → Type 0
  Turning = Turns n r (emptied r)

  homes_shown : (d : State) → Told d (AreHomesPut n r) → Told d (Shows ReadsOne)
  homes_shown d h = told_weaker d (AreHomesPut n r) (Shows ReadsOne) (λ t p image is. inl (laws.image_reads n r t image p.stands is)) h

  ready_shown : (d : State) → Told d Ready → Told d (Shows ReadsOne)
  ready_shown d h = told_weaker d Ready (Shows ReadsOne) (λ t s image is. inl (laws.image_reads n r t image s.0 is)) h

  either_shown : (d : State) → Told d (Either n r (emptied r)) → Told d (Shows ReadsOne)
  either_shown d h = told_weaker d (Either n r (emptied r)) (Shows ReadsOne) (λ t w image is. laws.either n r (emptied r) t image w is) h

  turning_shown : (d : State) → Told d Turning → Told d (Shows ReadsOne)
  turning_shown d h = told_weaker d Turning (Shows ReadsOne) (λ t w image is. laws.either n r (emptied r) t image w.reads is) h

  after_shown : (d : State) → Told d (Stands n (emptied r)) → Told d (Shows ReadsOne)
  after_shown d h = told_weaker d (Stands n (emptied r)) (Shows ReadsOne) (λ t s image is. inr (laws.image_reads n (emptied r) t image s is)) h

  -- ---- the barrier behind the homes

  home_at : (t : Tape) → AreHomesPut n r t → Stands n r (did Barrier t) → IsHome r (did Barrier t)
  home_at t h stands = laws.all_home n r (did Barrier t) stands.holds (λ s there. ⊎_elim (λ unnamed. inl unnamed) (λ put. inr (laws.home_stable r s t put)) (h.put s there))

  ready_at : (t : Tape) → AreHomesPut n r t → Ready (did Barrier t)
  ready_at t h = let stands = laws.barrier n r t h.stands in (stands, laws.emptied n r (did Barrier t) (home_at t h stands) stands.holds)

  pub homes_settled : (old new : State) → Did Barrier old new → Told old (AreHomesPut n r) → Told new Ready
  homes_settled old new passed h = told_did Barrier old.told new.told (AreHomesPut n r) Ready passed.told ready_at h

  pub ready_passed : (old new : State) → Did Barrier old new → Told old (AreHomesPut n r) → Passed ReadsOne old new
  ready_passed old new passed h = passed_did ReadsOne Barrier old new passed (homes_shown old h) (ready_shown new (homes_settled old new passed h))

  pub ready_failed : (old new : State) → DidNothing old new → Told old (AreHomesPut n r) → Passed ReadsOne old new
  ready_failed old new nothing h = passed_still ReadsOne old new nothing.told (homes_shown old h)

  -- ---- the head sector

  pub head_passed : (old new : State) → Did (Put 2 (head_of (emptied r))) old new → Told old Ready → Passed ReadsOne old new
  head_passed old new put h = passed_did ReadsOne (Put 2 (head_of (emptied r))) old new put (ready_shown old h) (turning_shown new (laws.head_written n r (emptied r) old new put h))

  pub head_failed : (old new : State) → Failed 2 (head_of (emptied r)) old new → Told old Ready → Passed ReadsOne old new
  head_failed old new failed h =
      ⊎_elim (λ put. passed_did ReadsOne (tried 2 (head_of (emptied r))) old new put (ready_shown old h) (either_shown new (laws.head_failed n r (emptied r) old new failed h)))
      (λ nothing. passed_still ReadsOne old new nothing.told (ready_shown old h)) failed.did

  -- ---- the barrier behind it

  pub turned_passed : (old new : State) → Did Barrier old new → Told old Turning → Passed ReadsOne old new
  turned_passed old new passed h = passed_did ReadsOne Barrier old new passed (turning_shown old h) (after_shown new (laws.head_passed n r (emptied r) old new passed h))

  pub turned_failed : (old new : State) → DidNothing old new → Told old Turning → Passed ReadsOne old new
  turned_failed old new nothing h = passed_still ReadsOne old new nothing.told (turning_shown old h)

-- the head sector with the tail at the head is that of the emptied state
pub tail_is : (log : LogView) (r : LogState) (to : ℕ) → IsReading log r → to ≡ log.head → head_sector (next_serial log.serial) to log.head ≡ head_of (emptied r)
tail_is log r to h is =
    ap (λ (k : ℕ). head_sector (next_serial k) to log.head) (sym h.serial)
    ∙ ap (λ (k : ℕ). head_sector (next_serial r.serial) k log.head) (is ∙ sym h.head)
    ∙ ap (λ (k : ℕ). head_sector (next_serial r.serial) r.head k) (sym h.head)

pub on_ok : {A B : Type 0} (r : Result (Unit {0}) DevFault) → (A → B) → OnOk r A → OnOk r B
on_ok (Ok x) f h = f h
on_ok (Err e) f h = tt

pub on_either : {A B C : Type 0} (r : Result (Unit {0}) DevFault) → OnOk r A → OnErr r B → (A → C) → (B → C) → C
on_either (Ok x) ok err f g = f ok
on_either (Err e) ok err f g = g err
