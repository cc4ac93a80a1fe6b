-- A commit begins: the batch that calls joined becomes the closing one; and what the history says of the kernel from one job to the next.
use Rattle.std.proofs.Common.{◌≡◌, ℕ, ◌≤◌, List, [], ◌∷◌, length, Option, Some, None, refl, sym, ap, subst, ◌∙◌, arith, inl, inr}
use Rattle.std.specs.Prelude.{All}
use Rattle.std.proofs.lemmas.List.{take_all}
use Rattle.std.proofs.lemmas.List.Elements.{All-weaker}
use Rattle.vx_base.specs.declared.event.Event.{Event}
use Rattle.vx_dev.specs.Tape.{Tape, State as Device, Failed}
use Rattle.vx_layout.specs.LogForms.{AfterImage, LogState, IsHomeSector}
use Rattle.vx_layout.specs.Supers.{volume_of}
use Rattle.vx_log.specs.Batches.{sectors_of}
use Rattle.std.specs.List.Sorted.{IsStrictlyIncreasing}
use Rattle.vx_log.specs.Logs.{LogView, closed}
use Rattle.vx_dev.specs.Moments.{Told}
use Rattle.vx_dev.specs.Runs.{BrokeOff}
use Rattle.vx_log.specs.declared.log.Closing.{Closing}
use Rattle.vx_dev.proofs.Claims.{told_weaker}
use Rattle.vx_model.specs.Contents.{parsed_of}
use Rattle.vx_model.specs.Legal.{World, at_of, after_all}
use Rattle.vx_model.specs.State.{State}
use Rattle.vx_stage.specs.Leads.{state_at}
use Rattle.vx_stage.specs.Kernels.{log_size, IsInside, HasRun, Now, IsLive, present}
use Rattle.vx_stage.specs.KernelLaws.{KernelLaws}
use Rattle.vx_stage.specs.Leads.{Leads, AreYoung}
use Rattle.vx_stage.specs.declared.kernel.Job.{Job}
use Rattle.vx_stage.specs.declared.kernel.Job.TheVariants.{Idle, Body}
use Rattle.vx_stage.specs.declared.kernel.Kernel.{Kernel}
use Rattle.vx_stage.proofs.Merging.{nothing, covered, says_next}
use Rattle.vx_stage.proofs.Showing.{front_on}

-- ---- the history, from one job to the next

-- operations may have come, and the committed and the closing prefix may have risen
pub run_with : (o : World) (d e : Device) (k : Kernel) → HasRun o d k → d.count ≤ e.count → (log : LogView) (homes gathered : List AfterImage) (ready : Option (List AfterImage)) (job : Job) (i j : ℕ) → k.committed ≤ i → i ≤ j → j ≤ length k.history.items
    → HasRun o e (record k { log = log; homes = homes; gathered = gathered; ready = ready; job = job; committed = i; closing = j })
run_with o d e k run later log homes gathered ready job i j low order within = record {
  legal = run.legal;
  next = run.next;
  at = omega (arith, run.at, later);
  come = All-weaker (λ x. at_of x ≤ d.count) (λ x. at_of x ≤ e.count) (λ x at. omega (arith, at, later)) k.history.items run.come;
  placed = run.placed;
  waiting = run.waiting;
  order = order;
  within = within;
  durable = λ m. front_on o d k run i m low;
  mounted = run.mounted;
  mounted_now = run.mounted_now;
  named = λ p b from inside there. run.named p b (omega (arith, low, from)) inside there;
  waits = run.waits;
  pending = run.pending;
}

pub broke_later : (writes : List (ℕ × List ℕ)) (a b : Device) → BrokeOff writes a b → a.count ≤ b.count
broke_later writes a b broke = elim broke.ran [
  | inl ran ↦ omega (arith, ran.count)
  | inr ran ↦ omega (arith, ran.count)
]

pub homes_of_inside : (k : Kernel) → All (IsInside k.sizes) k.gathered → k.log.sectors ≡ log_size k.sizes → All (λ e. IsHomeSector k.log.sectors e.0) k.gathered
homes_of_inside k inside sectors = All-weaker (IsInside k.sizes) (λ e. IsHomeSector k.log.sectors e.0) (λ e is. inr (omega (arith, is.0, sectors))) k.gathered inside

none_rise : IsStrictlyIncreasing (sectors_of [])
none_rise i lt = absurd (omega (arith, lt))

-- ---- the batch

module _ (o : World) (d : Device) (k : Kernel) (run : HasRun o d k) (job_is : k.job ≡ Idle) (level : k.closing ≡ k.committed) where
  abbrev all : ℕ
  all = length k.history.items

  whole : state_at o k.history.items all ≡ present o k
  whole = ap (λ (es : List Event). (after_all o es).state) (take_all all k.history.items (omega arith))

  now_idle : (t : Tape) → (live : IsLive o k t) → Now k Idle o live.reading t
  now_idle t live = subst (λ (j : Job). Now k j o live.reading t) job_is live.now

  nothing_open : Leads (volume_of k.sizes) (parsed_of (state_at o k.history.items all)) (parsed_of (present o k)) []
  nothing_open = subst (λ (s : State). Leads (volume_of k.sizes) (parsed_of s) (parsed_of (present o k)) []) (sym whole) (nothing (volume_of k.sizes) (parsed_of (present o k)))

  -- a commit begins
  abbrev pub begun : LogView → Option (List AfterImage) → Kernel
  begun log ready = record k { log = log; gathered = []; ready = ready; job = Body; closing = all }

  begun_batch : (c : Closing) → (closed k.log k.gathered).closing ≡ Some c → (c.batch ≡ k.gathered) × (c.written ≡ 0)
  begun_batch c is =
      let same : record { batch = k.gathered; written = 0 } ≡ c = cc in
      (sym (ap (λ (x : Closing). x.batch) same), sym (ap (λ (x : Closing). x.written) same))

  pub close_live : (log : LogView) (ready : Option (List AfterImage)) → log ≡ closed k.log k.gathered → Told d (IsLive o k) → Told d (IsLive o (begun log ready))
  close_live log ready log_is told = subst (λ (x : LogView). Told d (IsLive o (begun x ready))) (sym log_is) (told_weaker d (IsLive o k) (IsLive o (begun (closed k.log k.gathered) ready)) (λ t live.
      let r : LogState = live.reading in
      let now_ = now_idle t live in
      let l = now_.0 in
      let leads : Leads (volume_of k.sizes) (parsed_of (state_at o k.history.items k.committed)) (parsed_of (present o k)) k.gathered =
      subst (λ (i : ℕ). Leads (volume_of k.sizes) (parsed_of (state_at o k.history.items i)) (parsed_of (present o k)) k.gathered) level l.leads in
      record {
        past = live.past;
        reading = r;
        now = (
          record {
            reading = l.reading;
            serial = l.serial;
            tail = l.tail;
            head = l.head;
            noted = l.noted;
            apart = l.apart;
            leads = nothing_open;
            young = λ b i data_ lt. tt;
            batch_leads = λ c is. subst (Leads (volume_of k.sizes) (parsed_of (state_at o k.history.items k.committed)) (parsed_of (state_at o k.history.items all))) (sym (begun_batch c is).0)
                (subst (λ (s : State). Leads (volume_of k.sizes) (parsed_of (state_at o k.history.items k.committed)) (parsed_of s) k.gathered) (sym whole) leads);
            batch_young = λ c is. subst (AreYoung (present o k) k.committed) (sym (begun_batch c is).0) (subst (λ (i : ℕ). AreYoung (present o k) i k.gathered) level l.young);
          },
          now_.1,
          λ c is. record { stands = now_.1; put = λ i lt. absurd (omega (arith, lt, (begun_batch c is).1)) },
        );
      }) told)

  -- ---- nothing is open: what is committed is all that has come

  abbrev pub raised : Kernel
  raised = record k { committed = all; closing = all }

  pub raise_live : KernelLaws → k.gathered ≡ [] → k.log.closing ≡ None → Told d (IsLive o k) → Told d (IsLive o raised)
  raise_live laws empty none told = told_weaker d (IsLive o k) (IsLive o raised) (λ t live.
      let r : LogState = live.reading in
      let now_ = now_idle t live in
      let l = now_.0 in
      let leads : Leads (volume_of k.sizes) (parsed_of (state_at o k.history.items k.committed)) (parsed_of (state_at o k.history.items all)) [] =
      subst (λ (s : State). Leads (volume_of k.sizes) (parsed_of (state_at o k.history.items k.committed)) (parsed_of s) []) (sym whole)
      (subst (Leads (volume_of k.sizes) (parsed_of (state_at o k.history.items k.committed)) (parsed_of (present o k))) empty
      (subst (λ (i : ℕ). Leads (volume_of k.sizes) (parsed_of (state_at o k.history.items i)) (parsed_of (present o k)) k.gathered) level l.leads)) in
      record {
        past = live.past;
        reading = r;
        now = subst (λ (j : Job). Now raised j o r t) (sym job_is) (
          record {
            reading = record {
              says = says_next laws.notes (volume_of k.sizes) (parsed_of (state_at o k.history.items k.committed)) (parsed_of (state_at o k.history.items all)) [] none_rise leads r r l.reading.says (λ q there. elim (covered laws.notes (volume_of k.sizes) (parsed_of (state_at o k.history.items k.committed)) (parsed_of (state_at o k.history.items all)) [] none_rise leads q there) [
                | inl before ↦ l.reading.says.sectors q before
                | inr any ↦ absurd (let wrong : ◌≡◌ {A = List ℕ} [] (0 ∷ []) = any [] (0 ∷ []) in cc)
              ]) (λ s. refl);
              superblock = l.reading.superblock;
              superblock_is = l.reading.superblock_is;
              serial = l.reading.serial;
              limit = l.reading.limit;
              form = l.reading.form;
              unnamed = l.reading.unnamed;
            };
            serial = l.serial;
            tail = l.tail;
            head = l.head;
            noted = l.noted;
            apart = l.apart;
            leads = subst (Leads (volume_of k.sizes) (parsed_of (state_at o k.history.items all)) (parsed_of (present o k))) (sym empty) nothing_open;
            young = subst (AreYoung (present o k) all) (sym empty) (λ b i data_ lt. tt);
            batch_leads = λ c is. absurd (let wrong : ◌≡◌ {A = Option Closing} None (Some c) = sym none ∙ is in cc);
            batch_young = λ c is. absurd (let wrong : ◌≡◌ {A = Option Closing} None (Some c) = sym none ∙ is in cc);
          },
          now_.1,
        );
      }) told

-- the room that was ready is empty
pub ready_empty : (x : Option (List AfterImage)) (batch : List AfterImage) → Some batch ≡ x → x ≡ Some [] → batch ≡ []
ready_empty x batch there is = let both : Some batch ≡ Some [] = there ∙ is in cc

pub failed_later : (s : ℕ) (bytes : List ℕ) (a b : Device) → Failed s bytes a b → a.count ≤ b.count
failed_later s bytes a b failed = elim failed.did [
  | inl done ↦ omega (arith, done.count)
  | inr nothing_ ↦ omega (arith, nothing_.count)
]
