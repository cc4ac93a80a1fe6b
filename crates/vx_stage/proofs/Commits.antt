-- The stages of a commit behind its body: a barrier, the head sector, a barrier.
use Rattle.std.proofs.Common.{◌≡◌, ℕ, ◌+◌, ◌≤◌, ◌^◌, List, [], length, Option, Some, None, refl, sym, ap, subst, ◌∙◌, arith, inl, inr}
use Rattle.std.specs.Prelude.{IsTrue, All, ◌==◌}
use Rattle.std.proofs.lemmas.Bool.{eqb-true}
use Rattle.vx_dev.specs.declared.device.Operation.TheVariants.{Put, Barrier}
use Rattle.vx_dev.specs.Tape.{Tape, State as Device, Did, DidNothing, Failed, did, tried, IsInStep}
use Rattle.vx_layout.specs.LogForms.{AfterImage, LogState, log_length, body_of, head_of, head_sector}
use Rattle.vx_layout.specs.Supers.{IsSuper}
use Rattle.vx_log.specs.Crashes.{Holds, Stands, Either, Turns, IsPut}
use Rattle.vx_log.specs.Logs.{LogView, IsClosing, is_body_out, closing_length, next_serial}
use Rattle.vx_dev.specs.Moments.{Told}
use Rattle.vx_log.specs.declared.log.Closing.{Closing}
use Rattle.vx_dev.specs.Moments.{Shows}
use Rattle.vx_log.specs.Batches.{with_notes}
use Rattle.vx_model.specs.Legal.{World}
use Rattle.vx_stage.specs.Leads.{state_at}
use Rattle.vx_stage.specs.Kernels.{log_size, device_size, IsInside, IsReadingOf, HasRun, IsLogOf, IsTurning, Now, IsLive}
use Rattle.vx_stage.specs.KernelLaws.{KernelLaws}
use Rattle.vx_stage.specs.declared.kernel.Job.{Job}
use Rattle.vx_stage.specs.declared.kernel.Job.TheVariants.{Idle, BodyOut, Head, HeadOut, Broken}
use Rattle.vx_stage.specs.declared.kernel.Kernel.{Kernel}
use Rattle.vx_stage.proofs.Stages.{IsClaimed, stands_claimed, either_claimed, done_on, nothing_on, failed_on}
use Rattle.vx_stage.proofs.Gates.{next, apart_next, covers_next, next_reading, gate_log}

-- the job alone is another
pub other_job : (o : World) (k : Kernel) (job : Job) (i : ℕ) (r : LogState) → IsLogOf o k i r → IsLogOf o (record k { job = job }) i r
other_job o k job i r l = record { reading = l.reading; serial = l.serial; tail = l.tail; head = l.head; noted = l.noted; apart = l.apart; leads = l.leads; young = l.young; batch_leads = l.batch_leads; batch_young = l.batch_young }

-- the closing state is the committed one now
pub promoted : (o : World) (k : Kernel) (r : LogState) → k.log.closing ≡ None → IsLogOf o k k.closing r → IsLogOf o (record k { job = Idle; committed = k.closing }) k.closing r
promoted o k r none l = record {
  reading = l.reading;
  serial = l.serial;
  tail = l.tail;
  head = l.head;
  noted = l.noted;
  apart = l.apart;
  leads = l.leads;
  young = l.young;
  batch_leads = λ d e. absurd (let wrong : ◌≡◌ {A = Option Closing} None (Some d) = sym none ∙ e in cc);
  batch_young = λ d e. absurd (let wrong : ◌≡◌ {A = Option Closing} None (Some d) = sym none ∙ e in cc);
}

-- a device that tells the tape
abbrev pub device_at : Tape → Device
device_at t = record { size = 0; count = 0; read_faults = 0; write_faults = 0; told = Some t; doubt = [] }

pub turned_at : (laws : KernelLaws) (n : ℕ) (r old : LogState) (t : Tape) → Turns n old r t → Stands n r (did Barrier t)
turned_at laws n r old t turns = laws.passed n old r (device_at t) (record (device_at (did Barrier t)) { count = 1 }) (record { told = refl; count = refl }) turns

module _ (laws : KernelLaws) (o : World) (k : Kernel) (a : Device) (is_super : IsSuper k.sizes) (run : HasRun o a k) (step : IsInStep a) (b : Device) where
  abbrev n : ℕ
  n = log_size k.sizes

  low : k.committed ≤ length k.history.items
  low = omega (arith, run.order, run.within)

  -- ---- the barrier behind the body

  now_out : (t : Tape) → k.job ≡ BodyOut → (live : IsLive o k t) → Now k BodyOut o live.reading t
  now_out t job live = subst (λ (j : Job). Now k j o live.reading t) job live.now

  body_length : (r : LogState) (c : Closing) → IsTrue (is_body_out k.log.closing) → k.log.closing ≡ Some c → c.written ≡ length (body_of r.head c.batch)
  body_length r c out is =
      let full : IsTrue (c.written == log_length (length c.batch)) = subst (λ (x : Option Closing). IsTrue (is_body_out x)) is out in
      eqb-true c.written (log_length (length c.batch)) full ∙ sym (laws.body_length r.head c.batch)

  pub body_passed : k.job ≡ BodyOut → IsTrue (is_body_out k.log.closing) → Did Barrier a b → Told a (IsLive o k) → Told b (IsLive o (record k { job = Head }))
  body_passed job out done told = done_on laws o k a is_super run step b (record k { job = Head }) refl refl refl Barrier (λ t live.
      let r : LogState = live.reading in
      let now_ = now_out t job live in
      let stands : Stands n r (did Barrier t) = laws.barrier n r t now_.1 in (
        stands_claimed laws o k a is_super run step b k.committed r t (omega arith) low now_.0.reading now_.1,
        stands_claimed laws o k a is_super run step b k.committed r (did Barrier t) (omega arith) low now_.0.reading stands,
        (r, (other_job o k Head k.committed r now_.0, stands, λ c is. laws.certain n r.head (body_of r.head c.batch) t (subst (λ (j : ℕ). IsPut n r.head (body_of r.head c.batch) j t) (body_length r c out is) (now_.2 c is).put))),
      )) done told

  pub body_not_passed : k.job ≡ BodyOut → DidNothing a b → Told a (IsLive o k) → Told b (IsLive o (record k { job = Broken }))
  body_not_passed job nothing told = nothing_on laws o k a is_super run step b (record k { job = Broken }) refl refl refl refl (λ t live.
      let now_ = now_out t job live in stands_claimed laws o k a is_super run step b k.committed live.reading t (omega arith) low now_.0.reading now_.1) nothing told

  -- ---- the barrier behind the head sector

  now_turning : (t : Tape) → k.job ≡ HeadOut → (live : IsLive o k t) → Now k HeadOut o live.reading t
  now_turning t job live = subst (λ (j : Job). Now k j o live.reading t) job live.now

  pub turning_claimed : (i : ℕ) (r : LogState) (t : Tape) → k.committed ≤ i → i ≤ length k.history.items → IsReadingOf k.sizes (state_at o k.history.items i) r → IsTurning o k r t → Shows (IsClaimed laws o k a is_super run step b) t
  turning_claimed i r t low2 high reading turning = either_claimed laws o k a is_super run step b k.committed i turning.old r t (omega arith) low low2 high turning.reading reading turning.turns.reads

  pub head_passed : k.job ≡ HeadOut → k.log.closing ≡ None → Did Barrier a b → Told a (IsLive o k) → Told b (IsLive o (record k { job = Idle; committed = k.closing }))
  head_passed job none done told = done_on laws o k a is_super run step b (record k { job = Idle; committed = k.closing }) refl refl refl Barrier (λ t live.
      let r : LogState = live.reading in
      let now_ = now_turning t job live in
      let stands : Stands n r (did Barrier t) = turned_at laws n r now_.1.old t now_.1.turns in (
        turning_claimed k.closing r t run.order run.within now_.0.reading now_.1,
        stands_claimed laws o k a is_super run step b k.closing r (did Barrier t) run.order run.within now_.0.reading stands,
        (r, (promoted o k r none now_.0, stands)),
      )) done told

  pub head_not_passed : k.job ≡ HeadOut → DidNothing a b → Told a (IsLive o k) → Told b (IsLive o (record k { job = Broken }))
  head_not_passed job nothing told = nothing_on laws o k a is_super run step b (record k { job = Broken }) refl refl refl refl (λ t live.
      let now_ = now_turning t job live in turning_claimed k.closing live.reading t run.order run.within now_.0.reading now_.1) nothing told

  -- ---- the head sector

  module _ (job_is : k.job ≡ Head) (small : device_size k.sizes ≤ 2 ^ 32) (c : Closing) (is : k.log.closing ≡ Some c) (sectors : k.log.sectors ≡ n) (inside : All (IsInside k.sizes) c.batch) (fits : IsClosing k.log.sectors k.log.tail k.log.head c) where
    module _ (t : Tape) (live : IsLive o k t) where
      abbrev r : LogState
      r = live.reading

      now_head : Now k Head o r t
      now_head = subst (λ (j : Job). Now k j o r t) job_is live.now

      abbrev later : LogState
      later = next laws o k a run small r now_head.0 c is inside fits

      both : Stands n r t × Holds n later t
      both = (
        now_head.1,
        laws.holds_grown n r c.batch later.is_metadata t (apart_next laws o k a run small r now_head.0 c is inside fits now_head.1.holds.apart) (covers_next laws o k a run small r now_head.0 c is inside fits)
            (omega (arith, fits.room, now_head.0.tail, now_head.0.head, sectors)) (now_head.2 c is) now_head.1.holds,
      )

      later_reading : IsReadingOf k.sizes (state_at o k.history.items k.closing) later
      later_reading = next_reading laws o k a run small r now_head.0 c is inside fits

      -- the bytes of the head sector
      bytes_are : head_of later ≡ head_sector (next_serial k.log.serial) k.log.tail (k.log.head + closing_length k.log.closing)
      bytes_are = laws.head_grown r c.batch later.is_metadata ∙ ap (λ (s : ℕ). head_sector (next_serial s) r.tail (r.head + log_length (length c.batch))) now_head.0.serial
          ∙ ap (λ (s : ℕ). head_sector (next_serial k.log.serial) s (r.head + log_length (length c.batch))) now_head.0.tail
          ∙ ap (λ (s : ℕ). head_sector (next_serial k.log.serial) k.log.tail (s + log_length (length c.batch))) now_head.0.head
          ∙ sym (ap (λ (x : Option Closing). head_sector (next_serial k.log.serial) k.log.tail (k.log.head + closing_length x)) is)

      turns : Turns n r later (did (Put 2 (head_of later)) t)
      turns = laws.written n r later (device_at t) (record (device_at (did (Put 2 (head_of later)) t)) { count = 1 }) (record { told = refl; count = refl }) both

      after_fault : Either n r later (did (tried 2 (head_of later)) t)
      after_fault = laws.failed n r later (device_at t) (record (device_at (did (tried 2 (head_of later)) t)) { count = 1 }) (record { did = inl (record { told = refl; count = refl }); doubt = inr refl }) both

      now_claimed : Shows (IsClaimed laws o k a is_super run step b) t
      now_claimed = stands_claimed laws o k a is_super run step b k.committed r t (omega arith) low now_head.0.reading now_head.1

      either_now : (u : Tape) → Either n r later u → Shows (IsClaimed laws o k a is_super run step b) u
      either_now u e = either_claimed laws o k a is_super run step b k.committed k.closing r later u (omega arith) low run.order run.within now_head.0.reading later_reading e

    abbrev gate_bytes : List ℕ
    gate_bytes = head_sector (next_serial k.log.serial) k.log.tail (k.log.head + closing_length k.log.closing)

    pub gate_written : (log : LogView) (homes : List AfterImage) (ready : Option (List AfterImage)) → homes ≡ with_notes k.homes c.batch → log.closing ≡ None
        → log.serial ≡ next_serial k.log.serial → log.tail ≡ k.log.tail → log.head ≡ k.log.head + log_length (length c.batch)
        → Did (Put 2 gate_bytes) a b → Told a (IsLive o k) → Told b (IsLive o (record k { log = log; homes = homes; ready = ready; job = HeadOut }))
    gate_written log homes ready homes_is none serial tail head done told = done_on laws o k a is_super run step b (record k { log = log; homes = homes; ready = ready; job = HeadOut }) refl refl refl (Put 2 gate_bytes) (λ t live.
        let turned : Turns n (r t live) (later t live) (did (Put 2 gate_bytes) t) = subst (λ (x : List ℕ). Turns n (r t live) (later t live) (did (Put 2 x) t)) (bytes_are t live) (turns t live) in (
          now_claimed t live,
          either_now t live (did (Put 2 gate_bytes) t) turned.reads,
          (later t live, (gate_log laws o k a run small (r t live) (now_head t live).0 c is inside fits log homes ready HeadOut homes_is none serial tail head, record { old = r t live; reading = (now_head t live).0.reading; turns = turned })),
        )) done told

    pub gate_failed : (log : LogView) (homes : List AfterImage) → Failed 2 gate_bytes a b → Told a (IsLive o k) → Told b (IsLive o (record k { log = log; homes = homes; job = Broken }))
    gate_failed log homes failed told = failed_on laws o k a is_super run step b (record k { log = log; homes = homes; job = Broken }) refl refl refl refl 2 gate_bytes (λ t live. (
      now_claimed t live,
      either_now t live (did (tried 2 gate_bytes) t) (subst (λ (x : List ℕ). Either n (r t live) (later t live) (did (tried 2 x) t)) (bytes_are t live) (after_fault t live)),
    )) failed told
