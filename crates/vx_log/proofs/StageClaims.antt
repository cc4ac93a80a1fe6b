-- What a stage of a batch's log sectors and of homes keeps, claim by claim.
use Rattle.std.proofs.Common.{◌≡◌, ◌+◌, ◌≤◌, ◌<◌, ℕ, List, length, sym, subst, ⊎_elim, arith}
use Rattle.std.specs.Prelude.{Option, Some, IfSome, slice_range}
use Rattle.vx_dev.specs.Tape.{Tape, State, IsImage}
use Rattle.vx_dev.proofs.Claims.{told_by, at_tape, passed_past, told_weaker, past_start}
use Rattle.vx_dev.specs.Laws.{TapeLaws}
use Rattle.vx_layout.specs.LogForms.{AfterImage, LogState, ReadsAs, body_of}
use Rattle.vx_dev.specs.Runs.{Ran, puts, BrokeOff}
use Rattle.vx_log.specs.Writes.{log_writes}
use Rattle.vx_log.specs.Crashes.{Stands}
use Rattle.vx_dev.specs.Moments.{Told, Past, Passed, Shows}
use Rattle.vx_log.specs.Stages.{IsBodyPut, IsFitting, AreHomes, AreWritten}
use Rattle.vx_log.proofs.Bodies.{length-body}
use Rattle.vx_log.proofs.Operations.{reads}
use Rattle.vx_log.proofs.StageRuns.{Putting, WritingHome, body_stage, body_broken, home_stage, home_broken}

module _ (tape : TapeLaws) (n : ℕ) (r : LogState) where
  abbrev pub Reads : (ℕ → List ℕ) → Type 0
  Reads image = ReadsAs n r image

  pub shows : (t : Tape) → Stands n r t → Shows Reads t
  shows t s image is = reads tape n r t image s is

  shows_at : (t : Tape) → Stands n r t → (image : ℕ → List ℕ) → IsImage t image → Reads image
  shows_at t s image is = reads tape n r t image s is

  -- ---- a stage of a body

  module _ (batch : List AfterImage) (fits : IsFitting n r batch) where
    abbrev body : List (List ℕ)
    body = body_of r.head batch

    room : r.head + length body ≤ r.tail + n
    room = omega (arith, fits.room, length-body r.head batch)

    module _ (from end : ℕ) (order : from ≤ end) (within : end ≤ length body) where
      abbrev writes : List (ℕ × List ℕ)
      writes = log_writes n (r.head + from) (slice_range body from end)

      begun : (old : State) (t : Tape) → old.told ≡ Some t → Told old (IsBodyPut n r batch from) → Told old (Putting n r body (length t.ops) (λ _. Reads) from)
      begun old t e h =
          let b = at_tape old (IsBodyPut n r batch from) t h e in
          subst (λ (o : Option Tape). IfSome o (Putting n r body (length t.ops) (λ _. Reads) from)) (sym e) (record { stands = b.stands; put = b.put; past = past_start (λ _. Reads) t })

      put_through : (old new : State) → Ran (puts writes) old new → Told old (IsBodyPut n r batch from) → (t : Tape) → old.told ≡ Some t → Told new (Putting n r body (length t.ops) (λ _. Reads) end)
      put_through old new ran h t e = body_stage tape n fits.some r body room (length t.ops) (λ _. Reads) shows_at from end order within old new ran (begun old t e h)

      pub stage_put : (old new : State) → Ran (puts writes) old new → Told old (IsBodyPut n r batch from) → Told new (IsBodyPut n r batch end)
      stage_put old new ran h = told_by (puts writes) old new (IsBodyPut n r batch end) ran.told (λ t e. told_weaker new _ _ (λ u p. record { stands = p.stands; put = p.put }) (put_through old new ran h t e))

      pub stage_passed : (old new : State) → Ran (puts writes) old new → Told old (IsBodyPut n r batch from) → Passed Reads old new
      stage_passed old new ran h = passed_past Reads (puts writes) old new ran.told (λ t e. told_weaker new _ _ (λ u p. (p.past, shows u p.stands)) (put_through old new ran h t e))

      after_broken : (old new : State) → BrokeOff writes old new → Told old (IsBodyPut n r batch from) → (t : Tape) → old.told ≡ Some t → Told new (Putting n r body (length t.ops) (λ _. Reads) from)
      after_broken old new broke h t e = body_broken tape n fits.some r body room (length t.ops) (λ _. Reads) shows_at from end order within old new broke (begun old t e h)

      pub broken_passed : (old new : State) → BrokeOff writes old new → Told old (IsBodyPut n r batch from) → Passed Reads old new
      broken_passed old new broke h =
          let past = λ (t : Tape) (e : old.told ≡ Some t). told_weaker new (Putting n r body (length t.ops) (λ _. Reads) from) (λ u. Past (length t.ops) (λ _. Reads) u × Shows Reads u) (λ u p. (p.past, shows u p.stands)) (after_broken old new broke h t e) in
          ⊎_elim (λ ran. passed_past Reads _ old new ran.told past) (λ ran. passed_past Reads _ old new ran.told past) broke.ran

  -- ---- homes

  module _ (some : 0 < n) (writes : List (ℕ × List ℕ)) (homes : AreHomes r writes) where
    begun_home : (old : State) (t : Tape) → old.told ≡ Some t → Told old (Stands n r) → Told old (WritingHome n r writes (length t.ops) (λ _. Reads) 0)
    begun_home old t e h = subst (λ (o : Option Tape). IfSome o (WritingHome n r writes (length t.ops) (λ _. Reads) 0)) (sym e)
        (record { stands = at_tape old (Stands n r) t h e; home = λ j d below. absurd (omega (arith, below)); past = past_start (λ _. Reads) t })

    after_homes : (old new : State) → Ran (puts writes) old new → Told old (Stands n r) → (t : Tape) → old.told ≡ Some t → Told new (WritingHome n r writes (length t.ops) (λ _. Reads) (length writes))
    after_homes old new ran h t e = home_stage tape n some r writes homes (length t.ops) (λ _. Reads) shows_at old new ran (begun_home old t e h)

    pub homes_written : (old new : State) → Ran (puts writes) old new → Told old (Stands n r) → Told new (AreWritten n r writes)
    homes_written old new ran h = told_by (puts writes) old new (AreWritten n r writes) ran.told (λ t e. told_weaker new _ _ (λ u p. record { stands = p.stands; home = p.home }) (after_homes old new ran h t e))

    pub homes_passed : (old new : State) → Ran (puts writes) old new → Told old (Stands n r) → Passed Reads old new
    homes_passed old new ran h = passed_past Reads (puts writes) old new ran.told (λ t e. told_weaker new _ _ (λ u p. (p.past, shows u p.stands)) (after_homes old new ran h t e))

    after_broken_homes : (old new : State) → BrokeOff writes old new → Told old (Stands n r) → (t : Tape) → old.told ≡ Some t → Told new (WritingHome n r writes (length t.ops) (λ _. Reads) 0)
    after_broken_homes old new broke h t e = home_broken tape n some r writes homes (length t.ops) (λ _. Reads) shows_at old new broke (begun_home old t e h)

    pub homes_broken : (old new : State) → BrokeOff writes old new → Told old (Stands n r) → Passed Reads old new
    homes_broken old new broke h =
        let past = λ (t : Tape) (e : old.told ≡ Some t). told_weaker new (WritingHome n r writes (length t.ops) (λ _. Reads) 0) (λ u. Past (length t.ops) (λ _. Reads) u × Shows Reads u) (λ u p. (p.past, shows u p.stands)) (after_broken_homes old new broke h t e) in
        ⊎_elim (λ ran. passed_past Reads _ old new ran.told past) (λ ran. passed_past Reads _ old new ran.told past) broke.ran
