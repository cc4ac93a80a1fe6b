-- The log is emptied: behind the homes a barrier, the head sector with the tail at the head, a barrier.
use Rattle.std.proofs.Common.{◌≡◌, ℕ, zero, suc, ◌<◌, ◌≤◌, ◌^◌, List, [], ◌∷◌, length, get_or, Option, Some, None, refl, sym, ap, subst, ◌∙◌, arith, inl, inr}
use Rattle.std.specs.Prelude.{Contains}
use Rattle.vx_dev.specs.declared.device.Operation.TheVariants.{Put, Barrier}
use Rattle.vx_dev.specs.Tape.{Tape, State as Device, Did, DidNothing, Failed, did, tried, IsInStep}
use Rattle.vx_layout.specs.LogForms.{AfterImage, LogState, head_of, head_sector}
use Rattle.vx_layout.specs.Supers.{IsSuper}
use Rattle.vx_log.specs.Batches.{sectors_of}
use Rattle.vx_log.specs.Crashes.{Holds, Stands, Either, Turns, IsHome, IsPutHome, emptied}
use Rattle.vx_log.specs.Logs.{LogView, next_serial}
use Rattle.vx_dev.specs.Moments.{Told}
use Rattle.vx_log.specs.Stages.{AreWritten}
use Rattle.vx_log.specs.declared.log.Closing.{Closing}
use Rattle.vx_dev.specs.Moments.{Shows}
use Rattle.vx_model.specs.Legal.{World}
use Rattle.vx_stage.specs.Leads.{state_at}
use Rattle.vx_stage.specs.Kernels.{log_size, IsReadingOf, IsNoted, HasRun, IsLogOf, Now, IsLive}
use Rattle.vx_stage.specs.KernelLaws.{KernelLaws}
use Rattle.vx_stage.specs.declared.kernel.Job.{Job}
use Rattle.vx_stage.specs.declared.kernel.Job.TheVariants.{Idle, HomesOut, Tail, TailOut, Broken}
use Rattle.vx_stage.specs.declared.kernel.Kernel.{Kernel}
use Rattle.vx_stage.proofs.Merging.{note_cases}
use Rattle.vx_stage.proofs.Stages.{IsClaimed, stands_claimed, either_claimed, done_on, nothing_on, failed_on}
use Rattle.vx_stage.proofs.Commits.{other_job, device_at, turned_at, turning_claimed}

-- where a noted sector stands
place_of : (homes : List AfterImage) (q : ℕ) → Contains (sectors_of homes) q → (j : ℕ) × ((j < length homes) × ((d : AfterImage) → (get_or homes j d).0 ≡ q))
place_of [] q (k, lt, is) = absurd (omega (arith, lt))
place_of (e ∷ homes) q (zero, lt, is) = (zero, (omega arith, λ d. is))
place_of (e ∷ homes) q (suc k, lt, is) = let rest = place_of homes q (k, omega (arith, lt), is) in (suc rest.0, (omega (arith, rest.1.0), rest.1.1))

-- a reading's positions have not run out
pub head_low : (o : World) (k : Kernel) (r : LogState) → IsLogOf o k k.committed r → k.log.head ≤ 2 ^ 62
head_low o k r l = omega (arith, l.reading.limit, l.head)

module _ (laws : KernelLaws) (o : World) (k : Kernel) (a : Device) (is_super : IsSuper k.sizes) (run : HasRun o a k) (step : IsInStep a) (b : Device) where
  abbrev n : ℕ
  n = log_size k.sizes

  low : k.committed ≤ length k.history.items
  low = omega (arith, run.order, run.within)

  claimed : (r : LogState) (t : Tape) → IsReadingOf k.sizes (state_at o k.history.items k.committed) r → Stands n r t → Shows (IsClaimed laws o k a is_super run step b) t
  claimed r t reading stands = stands_claimed laws o k a is_super run step b k.committed r t (omega arith) low reading stands

  -- ---- the barrier behind the homes

  now_written : (t : Tape) → k.job ≡ HomesOut → (live : IsLive o k t) → Now k HomesOut o live.reading t
  now_written t job live = subst (λ (j : Job). Now k j o live.reading t) job live.now

  all_home : (r : LogState) (t : Tape) → IsLogOf o k k.committed r → AreWritten n r k.homes t → IsHome r (did Barrier t)
  all_home r t l w = laws.home n r (did Barrier t) (laws.barrier n r t w.stands).holds (λ q meta. elim (note_cases k.homes q) [
    | inl (image, is) ↦
        let there = place_of k.homes q (laws.notes.contains k.homes q image is) in
        let d : AfterImage = (0, []) in
        let put : IsPutHome r q t = subst (λ (u : ℕ). IsPutHome r u t) (there.1.1 d) (w.home there.0 d there.1.0) in
        inr (laws.stable r q t put)
    | inr none ↦ inl (subst (IsNoted r q) none (l.noted q))
  ])

  pub homes_passed : k.job ≡ HomesOut → Did Barrier a b → Told a (IsLive o k) → Told b (IsLive o (record k { job = Tail }))
  homes_passed job done told = done_on laws o k a is_super run step b (record k { job = Tail }) refl refl refl Barrier (λ t live.
      let r : LogState = live.reading in
      let now_ = now_written t job live in
      let stands : Stands n r (did Barrier t) = laws.barrier n r t now_.1.stands in (
        claimed r t now_.0.reading now_.1.stands,
        claimed r (did Barrier t) now_.0.reading stands,
        (r, (other_job o k Tail k.committed r now_.0, stands, all_home r t now_.0 now_.1)),
      )) done told

  pub homes_not_passed : k.job ≡ HomesOut → DidNothing a b → Told a (IsLive o k) → Told b (IsLive o (record k { job = Broken }))
  homes_not_passed job nothing told = nothing_on laws o k a is_super run step b (record k { job = Broken }) refl refl refl refl (λ t live.
      let now_ = now_written t job live in claimed live.reading t now_.0.reading now_.1.stands) nothing told

  -- ---- the barrier behind the tail

  now_tailed : (t : Tape) → k.job ≡ TailOut → (live : IsLive o k t) → Now k TailOut o live.reading t
  now_tailed t job live = subst (λ (j : Job). Now k j o live.reading t) job live.now

  pub tail_passed : k.job ≡ TailOut → Did Barrier a b → Told a (IsLive o k) → Told b (IsLive o (record k { job = Idle }))
  tail_passed job done told = done_on laws o k a is_super run step b (record k { job = Idle }) refl refl refl Barrier (λ t live.
      let r : LogState = live.reading in
      let now_ = now_tailed t job live in
      let stands : Stands n r (did Barrier t) = turned_at laws n r now_.1.old t now_.1.turns in (
        turning_claimed laws o k a is_super run step b k.committed r t (omega arith) low now_.0.reading now_.1,
        claimed r (did Barrier t) now_.0.reading stands,
        (r, (other_job o k Idle k.committed r now_.0, stands)),
      )) done told

  pub tail_not_passed : k.job ≡ TailOut → DidNothing a b → Told a (IsLive o k) → Told b (IsLive o (record k { job = Broken }))
  tail_not_passed job nothing told = nothing_on laws o k a is_super run step b (record k { job = Broken }) refl refl refl refl (λ t live.
      let now_ = now_tailed t job live in turning_claimed laws o k a is_super run step b k.committed live.reading t (omega arith) low now_.0.reading now_.1) nothing told

  -- ---- the head sector with both positions at p: at the head, or at 0

  -- the log with no record, and both positions there
  abbrev settled : ℕ → LogState → LogState
  settled p r = record (emptied r) { tail = p; head = p }

  holds_settled : (p : ℕ) (r : LogState) (t : Tape) → Holds n (emptied r) t → Holds n (settled p r) t
  holds_settled p r t h = record { apart = h.apart; ends = omega arith; fits = omega arith; whole = λ i x lt may. absurd (omega (arith, lt)); metadata = h.metadata }

  module _ (p : ℕ) where
    abbrev tail_bytes : List ℕ
    tail_bytes = head_sector (next_serial k.log.serial) p p

    module _ (job_is : k.job ≡ Tail) (limit_of : (r : LogState) → IsLogOf o k k.committed r → p ≤ 2 ^ 62) where
      module _ (t : Tape) (live : IsLive o k t) where
        abbrev r : LogState
        r = live.reading

        now_home : Now k Tail o r t
        now_home = subst (λ (j : Job). Now k j o r t) job_is live.now

        both : Stands n r t × Holds n (settled p r) t
        both = (now_home.1, holds_settled p r t (laws.holds_emptied n r t now_home.2 now_home.1.holds))

        settled_reading : IsReadingOf k.sizes (state_at o k.history.items k.committed) (settled p r)
        settled_reading = let l = now_home.0.reading in record {
          says = record { sectors = l.says.sectors; bytes = l.says.bytes };
          superblock = l.superblock;
          superblock_is = l.superblock_is;
          serial = (let small : next_serial r.serial < 2 ^ 64 = omega arith in small);
          limit = limit_of r now_home.0;
          form = tt;
          unnamed = λ x. refl;
        }

        bytes_are : head_of (settled p r) ≡ tail_bytes
        bytes_are = ap (λ (s : ℕ). head_sector (next_serial s) p p) now_home.0.serial

        turns : Turns n r (settled p r) (did (Put 2 (head_of (settled p r))) t)
        turns = laws.written n r (settled p r) (device_at t) (record (device_at (did (Put 2 (head_of (settled p r))) t)) { count = 1 }) (record { told = refl; count = refl }) both

        after_fault : Either n r (settled p r) (did (tried 2 (head_of (settled p r))) t)
        after_fault = laws.failed n r (settled p r) (device_at t) (record (device_at (did (tried 2 (head_of (settled p r))) t)) { count = 1 }) (record { did = inl (record { told = refl; count = refl }); doubt = inr refl }) both

        either_now : (u : Tape) → Either n r (settled p r) u → Shows (IsClaimed laws o k a is_super run step b) u
        either_now u e = either_claimed laws o k a is_super run step b k.committed k.committed r (settled p r) u (omega arith) low (omega arith) low now_home.0.reading settled_reading e

        tail_log : (log : LogView) → log.closing ≡ None → log.serial ≡ next_serial k.log.serial → log.tail ≡ p → log.head ≡ p → IsLogOf o (record k { log = log; homes = []; job = TailOut }) k.committed (settled p r)
        tail_log log none serial tail head = let l = now_home.0 in record {
          reading = settled_reading;
          serial = ap next_serial l.serial ∙ sym serial;
          tail = sym tail;
          head = sym head;
          noted = λ q x. refl;
          apart = l.apart;
          leads = l.leads;
          young = l.young;
          batch_leads = λ d e. absurd (let wrong : ◌≡◌ {A = Option Closing} None (Some d) = sym none ∙ e in cc);
          batch_young = λ d e. absurd (let wrong : ◌≡◌ {A = Option Closing} None (Some d) = sym none ∙ e in cc);
        }

      pub tail_written : (log : LogView) (homes : List AfterImage) → homes ≡ [] → log.closing ≡ None → log.serial ≡ next_serial k.log.serial → log.tail ≡ p → log.head ≡ p
          → Did (Put 2 tail_bytes) a b → Told a (IsLive o k) → Told b (IsLive o (record k { log = log; homes = homes; job = TailOut }))
      tail_written log homes empty none serial tail head done told = subst (λ (hs : List AfterImage). Told b (IsLive o (record k { log = log; homes = hs; job = TailOut }))) (sym empty)
          (done_on laws o k a is_super run step b (record k { log = log; homes = []; job = TailOut }) refl refl refl (Put 2 tail_bytes) (λ t live.
          let turned : Turns n (r t live) (settled p (r t live)) (did (Put 2 tail_bytes) t) = subst (λ (x : List ℕ). Turns n (r t live) (settled p (r t live)) (did (Put 2 x) t)) (bytes_are t live) (turns t live) in (
            claimed (r t live) t (now_home t live).0.reading (now_home t live).1,
            either_now t live (did (Put 2 tail_bytes) t) turned.reads,
            (settled p (r t live), (tail_log t live log none serial tail head, record { old = r t live; reading = (now_home t live).0.reading; turns = turned })),
          )) done told)

      pub tail_failed : (log : LogView) → Failed 2 tail_bytes a b → Told a (IsLive o k) → Told b (IsLive o (record k { log = log; job = Broken }))
      tail_failed log failed told = failed_on laws o k a is_super run step b (record k { log = log; job = Broken }) refl refl refl refl 2 tail_bytes (λ t live. (
        claimed (r t live) t (now_home t live).0.reading (now_home t live).1,
        either_now t live (did (tried 2 tail_bytes) t) (subst (λ (x : List ℕ). Either n (r t live) (settled p (r t live)) (did (tried 2 x) t)) (bytes_are t live) (after_fault t live)),
      )) failed told
