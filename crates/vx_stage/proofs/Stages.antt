-- A stage of a commit, and its barrier: the log sectors of the closing batch are written.
use Rattle.std.proofs.Common.{◌≡◌, ◌⊎◌, ℕ, ◌+◌, ◌≤◌, List, [], ◌∷◌, length, Option, Some, None, refl, sym, ap, subst, ◌∙◌, arith, inl, inr}
use Rattle.std.specs.Prelude.{IfSome, IsTrue, IsSome, IsNone, option_map, slice_range, min}
use Rattle.vx_base.specs.declared.event.Event.{Event}
use Rattle.vx_base.specs.declared.mode.Logging.{Logging}
use Rattle.vx_dev.specs.declared.device.Operation.{Operation}
use Rattle.vx_dev.specs.Tape.{Tape, State as Device, Did, DidNothing, Failed, did, tried, IsImage, IsInStep}
use Rattle.vx_layout.specs.LogForms.{AfterImage, LogState, ReadsAs, log_length, body_of}
use Rattle.vx_layout.specs.Supers.{IsSuper, volume_of}
use Rattle.vx_log.specs.Crashes.{Stands, Either}
use Rattle.vx_log.specs.Logs.{LogView, IsLog, IsClosing, stage_end, stage_writes, after_stage, is_body_out}
use Rattle.vx_dev.specs.Moments.{Told, Past, Passed}
use Rattle.vx_dev.specs.Runs.{did_all, Ran, BrokeOff, puts}
use Rattle.vx_log.specs.Writes.{log_writes}
use Rattle.vx_log.specs.Stages.{IsBodyPut, IsFitting}
use Rattle.vx_log.specs.declared.log.Closing.{Closing}
use Rattle.vx_dev.specs.Moments.{Shows}
use Rattle.vx_dev.proofs.Claims.{passed_did, passed_still, told_weaker}
use Rattle.vx_model.specs.Legal.{World}
use Rattle.vx_model.specs.Contents.{parsed_of}
use Rattle.vx_stage.specs.Leads.{Leads, AreYoung}
use Rattle.vx_model.specs.Allowed.{IsAllowed}
use Rattle.vx_stage.specs.Leads.{state_at}
use Rattle.vx_stage.specs.Kernels.{log_size, IsReadingOf, HasRun, IsLogOf, Now, IsLive, present}
use Rattle.vx_stage.specs.KernelLaws.{KernelLaws}
use Rattle.vx_stage.specs.declared.kernel.Job.{Job}
use Rattle.vx_stage.specs.declared.kernel.Job.TheVariants.{Body, BodyOut, Broken}
use Rattle.vx_stage.specs.declared.kernel.Kernel.{Kernel}
use Rattle.vx_stage.proofs.Showing.{replays, allowed, passes}

-- ---- what is told

-- what holds at the tape that is told leads to what is told afterwards
pub told_on : (a b : Device) (ops : List Operation) (P Q : Tape → Type 0) → b.told ≡ option_map (did_all ops) a.told → Told a P → ((t : Tape) → a.told ≡ Some t → P t → Told b Q) → Told b Q
told_on a b ops P Q is h step = by_cases a.told refl h
  where
    by_cases : (o : Option Tape) → a.told ≡ o → IfSome o P → Told b Q
    by_cases None e k = subst (λ (m : Option Tape). IfSome m Q) (sym is) (subst (λ (m : Option Tape). IfSome (option_map (did_all ops) m) Q) (sym e) tt)
    by_cases (Some t) e k = step t e k

pub told_at : (d : Device) (P : Tape → Type 0) (t : Tape) → d.told ≡ Some t → P t → Told d P
told_at d P t is h = subst (λ (o : Option Tape). IfSome o P) (sym is) h

pub told_both : (d : Device) (P Q R : Tape → Type 0) → Told d P → Told d Q → ((t : Tape) → P t → Q t → R t) → Told d R
told_both d P Q R h k f = by_cases d.told h k
  where
    by_cases : (o : Option Tape) → IfSome o P → IfSome o Q → IfSome o R
    by_cases None x y = tt
    by_cases (Some t) x y = f t x y

-- ---- a stage, as its images show

abbrev pub Claim : World → Kernel → ℕ → (ℕ → List ℕ) → Type 0
Claim o k m image = IsAllowed k.logging o k.history.items m image

abbrev pub IsShown : World → Kernel → Tape → Type 0
IsShown o k t = Past k.first (Claim o k) t × ((image : ℕ → List ℕ) → IsImage t image → Claim o k (length t.ops) image)

pub min_above : (w l : ℕ) → w ≤ l → w ≤ min (w + 8) l
min_above w l h = omega (arith, h)

pub min_below : (x l : ℕ) → min x l ≤ l
min_below x l = omega arith

module _ (laws : KernelLaws) (o : World) (k : Kernel) (a : Device) (is_super : IsSuper k.sizes) (run : HasRun o a k) (step : IsInStep a) where
  abbrev n : ℕ
  n = log_size k.sizes

  -- what is read as the state after i events is allowed
  pub way : (i : ℕ) (r : LogState) (m : ℕ) (image : ℕ → List ℕ) → k.committed ≤ i → i ≤ length k.history.items → IsReadingOf k.sizes (state_at o k.history.items i) r → a.count ≤ m → ReadsAs n r image → Claim o k m image
  way i r m image low high reading late reads =
      allowed o a k run laws i m image low high late (replays laws k.sizes (state_at o k.history.items i) r image is_super (run.mounted i high) reading reads)

  -- ... so each moment of a stage is, whose images are read so
  pub shown : (b : Device) (Q : (ℕ → List ℕ) → Type 0) → ((m : ℕ) (image : ℕ → List ℕ) → a.count ≤ m → Q image → Claim o k m image) → Passed Q a b → Told a (Past k.first (Claim o k)) → Told b (IsShown o k)
  shown b Q leads passed past = passes (Claim o k) Q k.first a b step leads passed past

  -- ---- the body of the closing batch

  module _ (c : Closing) (is : k.log.closing ≡ Some c) (fits : IsLog k.log) (sectors : k.log.sectors ≡ n) where
    closing_fits : IsClosing k.log.sectors k.log.tail k.log.head c
    closing_fits = subst (λ (x : Option Closing). IfSome x (IsClosing k.log.sectors k.log.tail k.log.head)) is fits.closing

    abbrev end : ℕ
    end = stage_end c

    fitting : (r : LogState) → r.tail ≡ k.log.tail → r.head ≡ k.log.head → IsFitting n r c.batch
    fitting r tail head = record { some = omega (arith, sectors, fits.small); room = omega (arith, closing_fits.room, tail, head, sectors) }

    -- the kernel after that stage
    abbrev pub staged : Job → Kernel
    staged job = record k { log = record k.log { closing = after_stage k.log.closing }; job = job }

    staged_batch : (d : Closing) → after_stage k.log.closing ≡ Some d → (d.batch ≡ c.batch) × (d.written ≡ end)
    staged_batch d e =
        let same : Some (record c { written = end }) ≡ Some d = sym (ap after_stage is) ∙ e in
        let inner : record c { written = end } ≡ d = cc in
        (sym (ap (λ (x : Closing). x.batch) inner), sym (ap (λ (x : Closing). x.written) inner))

    staged_log : (job : Job) (i : ℕ) (r : LogState) → IsLogOf o k i r → IsLogOf o (staged job) i r
    staged_log job i r l = record {
      reading = l.reading;
      serial = l.serial;
      tail = l.tail;
      head = l.head;
      noted = l.noted;
      apart = l.apart;
      leads = l.leads;
      young = l.young;
      batch_leads = λ d e. subst (Leads (volume_of k.sizes) (parsed_of (state_at o k.history.items k.committed)) (parsed_of (state_at o k.history.items k.closing))) (sym (staged_batch d e).0) (l.batch_leads c is);
      batch_young = λ d e. subst (AreYoung (present o k) k.committed) (sym (staged_batch d e).0) (l.batch_young c is);
    }

    abbrev IsThere : LogState → ℕ → Tape → Type 0
    IsThere r i t = IsBodyPut n r c.batch i t

    abbrev Before : Tape → Type 0
    Before t = IsLive o k t

    body_long : (r : LogState) → length (body_of r.head c.batch) ≡ log_length (length c.batch)
    body_long r = laws.body_length r.head c.batch

    module _ (job_is : k.job ≡ Body) (b : Device) (t : Tape) (at_t : a.told ≡ Some t) (live : IsLive o k t) where
      abbrev r : LogState
      r = live.reading

      now_body : Now k Body o r t
      now_body = subst (λ (j : Job). Now k j o r t) job_is live.now

      before : Told a (IsThere r c.written)
      before = told_at a (IsThere r c.written) t at_t (now_body.2 c is)

      past_at : Told a (Past k.first (Claim o k))
      past_at = told_at a (Past k.first (Claim o k)) t at_t live.past

      fitting_at : IsFitting n r c.batch
      fitting_at = fitting r now_body.0.tail now_body.0.head

      order : c.written ≤ end
      order = min_above c.written (log_length (length c.batch)) closing_fits.written

      within : end ≤ length (body_of r.head c.batch)
      within = omega (arith, min_below (c.written + 8) (log_length (length c.batch)), body_long r)

      abbrev writes : ℕ → ℕ → List (ℕ × List ℕ)
      writes m head = log_writes m (head + c.written) (slice_range (body_of head c.batch) c.written end)

      -- the writes of the stage, as the reading has them
      writes_are : stage_writes k.log.sectors k.log.head k.log.closing ≡ writes n r.head
      writes_are = ap (stage_writes k.log.sectors k.log.head) is ∙ ap (λ (m : ℕ). writes m k.log.head) sectors ∙ ap (writes n) (sym now_body.0.head)

      claims : (m : ℕ) (image : ℕ → List ℕ) → a.count ≤ m → ReadsAs n r image → Claim o k m image
      claims m image late reads = way k.committed r m image (omega arith) (omega (arith, run.order, run.within)) now_body.0.reading late reads

      body_at : (job : Job) → ((l : IsLogOf o (staged job) k.committed r) (u : Tape) → Stands n r u → ((d : Closing) → after_stage k.log.closing ≡ Some d → IsBodyPut n r d.batch d.written u) → Now (staged job) job o r u)
          → Ran (puts (stage_writes k.log.sectors k.log.head k.log.closing)) a b → Told b (IsLive o (staged job))
      body_at job now_is ran =
          let ran2 : Ran (puts (writes n r.head)) a b = subst (λ (w : List (ℕ × List ℕ)). Ran (puts w) a b) writes_are ran in
          let both = laws.body n r c.batch c.written end a b fitting_at order within ran2 before in
          told_both b (IsThere r end) (IsShown o k) (IsLive o (staged job)) both.0 (shown b (ReadsAs n r) claims both.1 past_at)
          (λ u put claim. record {
            past = claim.0;
            reading = r;
            now = now_is (staged_log job k.committed r now_body.0) u put.stands
                (λ d e. let same = staged_batch d e in
                subst (λ (x : List AfterImage). IsBodyPut n r x d.written u) (sym same.0) (subst (λ (x : ℕ). IsBodyPut n r c.batch x u) (sym same.1) put));
          })

      body_broken_at : BrokeOff (stage_writes k.log.sectors k.log.head k.log.closing) a b → Told b (IsShown o k)
      body_broken_at broke =
          let broke2 : BrokeOff (writes n r.head) a b = subst (λ (w : List (ℕ × List ℕ)). BrokeOff w a b) writes_are broke in
          shown b (ReadsAs n r) claims (laws.body_broken n r c.batch c.written end a b fitting_at order within broke2 before) past_at

    -- a stage of the body
    pub body_stage : k.job ≡ Body → (b : Device) (log : LogView) (job : Job) → log ≡ record k.log { closing = after_stage k.log.closing } → (job ≡ BodyOut) ⊎ (job ≡ Body)
        → Ran (puts (stage_writes k.log.sectors k.log.head k.log.closing)) a b → Told a (IsLive o k) → Told b (IsLive o (record k { log = log; job = job }))
    body_stage job_is b log job log_is new ran told =
        subst (λ (l : LogView). Told b (IsLive o (record k { log = l; job = job }))) (sym log_is)
        (told_on a b _ (IsLive o k) (IsLive o (staged job)) ran.told told (λ t at_t live. elim new [
          | inl full ↦ subst (λ (j : Job). Told b (IsLive o (staged j))) (sym full) (body_at job_is b t at_t live BodyOut (λ l u s p. (l, s, p)) ran)
          | inr rest ↦ subst (λ (j : Job). Told b (IsLive o (staged j))) (sym rest) (body_at job_is b t at_t live Body (λ l u s p. (l, s, p)) ran)
        ]))

    -- ... that a fault breaks off
    pub body_broken : k.job ≡ Body → (b : Device) (log : LogView) → log ≡ k.log → BrokeOff (stage_writes k.log.sectors k.log.head k.log.closing) a b → Told a (IsLive o k) → Told b (IsLive o (record k { log = log; job = Broken }))
    body_broken job_is b log log_is broke told = subst (λ (l : LogView). Told b (IsLive o (record k { log = l; job = Broken }))) (sym log_is) (elim broke.ran [
      | inl ran ↦ told_on a b _ (IsLive o k) (IsLive o (record k { job = Broken })) ran.told told after
      | inr ran ↦ told_on a b _ (IsLive o k) (IsLive o (record k { job = Broken })) ran.told told after
    ])
      where
        after : (t : Tape) → a.told ≡ Some t → IsLive o k t → Told b (IsLive o (record k { job = Broken }))
        after t at_t live = told_weaker b (IsShown o k) (IsLive o (record k { job = Broken })) (λ u claim. record { past = claim.0; reading = live.reading; now = claim.1 }) (body_broken_at job_is b t at_t live broke)

-- the closing batch, where there is one
pub closing_of : (x : Option Closing) → IsSome x → (c : Closing) × (x ≡ Some c)
closing_of None h = absurd cc
closing_of (Some c) h = (c, refl)

pub none_of : (x : Option Closing) → IsNone x → x ≡ None
none_of None h = refl
none_of (Some c) h = absurd cc

-- ---- one operation

module _ (laws : KernelLaws) (o : World) (k : Kernel) (a : Device) (is_super : IsSuper k.sizes) (run : HasRun o a k) (step : IsInStep a) (b : Device) where
  -- the image is allowed from now on, as long as the history is this one
  abbrev pub IsClaimed : (ℕ → List ℕ) → Type 0
  IsClaimed image = (m : ℕ) → a.count ≤ m → Claim o k m image

  pub stands_claimed : (i : ℕ) (r : LogState) (t : Tape) → k.committed ≤ i → i ≤ length k.history.items → IsReadingOf k.sizes (state_at o k.history.items i) r → Stands (log_size k.sizes) r t → Shows IsClaimed t
  stands_claimed i r t low high reading stands image is m late = way laws o k a is_super run step i r m image low high reading late (laws.image_reads (log_size k.sizes) r t image stands is)

  pub either_claimed : (i j : ℕ) (r r2 : LogState) (t : Tape) → k.committed ≤ i → i ≤ length k.history.items → k.committed ≤ j → j ≤ length k.history.items
      → IsReadingOf k.sizes (state_at o k.history.items i) r → IsReadingOf k.sizes (state_at o k.history.items j) r2 → Either (log_size k.sizes) r r2 t → Shows IsClaimed t
  either_claimed i j r r2 t low high low2 high2 reading reading2 both image is m late = elim (laws.image_either (log_size k.sizes) r r2 t image both is) [
    | inl before ↦ way laws o k a is_super run step i r m image low high reading late before
    | inr after ↦ way laws o k a is_super run step j r2 m image low2 high2 reading2 late after
  ]

  module _ (k2 : Kernel) (first : k2.first ≡ k.first) (logging : k2.logging ≡ k.logging) (history : k2.history.items ≡ k.history.items) where
    past_in : (t : Tape) → Past k.first (Claim o k) t → Past k2.first (Claim o k2) t
    past_in t past = subst (λ (es : List Event). Past k2.first (IsAllowed k2.logging o es) t) (sym history)
        (subst (λ (m : Logging). Past k2.first (IsAllowed m o k.history.items) t) (sym logging) (subst (λ (f : ℕ). Past f (Claim o k) t) (sym first) past))

    claim_in : (m : ℕ) (image : ℕ → List ℕ) → Claim o k m image → Claim o k2 m image
    claim_in m image claim = subst (λ (es : List Event). IsAllowed k2.logging o es m image) (sym history) (subst (λ (x : Logging). IsAllowed x o k.history.items m image) (sym logging) claim)

    -- what is known of the tape before an operation leads to what is known after it
    pub done_on : (op : Operation) → ((t : Tape) (live : IsLive o k t) → Shows IsClaimed t × Shows IsClaimed (did op t) × ((next : LogState) × Now k2 k2.job o next (did op t))) → Did op a b → Told a (IsLive o k) → Told b (IsLive o k2)
    done_on op shows done told = by_cases a.told refl told
      where
        by_cases : (x : Option Tape) → a.told ≡ x → IfSome x (IsLive o k) → Told b (IsLive o k2)
        by_cases None e h = subst (λ (m : Option Tape). IfSome m (IsLive o k2)) (sym (done.told ∙ ap (option_map (did op)) e)) tt
        by_cases (Some t) e h =
            let is = shows t h in
            let there : b.told ≡ Some (did op t) = done.told ∙ ap (option_map (did op)) e in
            let past = shown laws o k a is_super run step b IsClaimed (λ m image late claimed. claimed m late)
            (passed_did IsClaimed op a b done (told_at a (Shows IsClaimed) t e is.0) (told_at b (Shows IsClaimed) (did op t) there is.1)) (told_at a (Past k.first (Claim o k)) t e h.past) in
            let at : IsShown o k (did op t) = subst (λ (m : Option Tape). IfSome m (IsShown o k)) there past in
            told_at b (IsLive o k2) (did op t) there (record { past = past_in (did op t) at.0; reading = is.2.0; now = is.2.1 })

    -- a fault: nothing is done, or a write that failed
    pub nothing_on : k2.job ≡ Broken → ((t : Tape) (live : IsLive o k t) → Shows IsClaimed t) → DidNothing a b → Told a (IsLive o k) → Told b (IsLive o k2)
    nothing_on job shows nothing told = by_cases a.told refl told
      where
        by_cases : (x : Option Tape) → a.told ≡ x → IfSome x (IsLive o k) → Told b (IsLive o k2)
        by_cases None e h = subst (λ (m : Option Tape). IfSome m (IsLive o k2)) (sym (nothing.told ∙ e)) tt
        by_cases (Some t) e h =
            told_weaker b (IsShown o k) (IsLive o k2) (λ u claim. record {
              past = past_in u claim.0;
              reading = h.reading;
              now = subst (λ (j : Job). Now k2 j o h.reading u) (sym job) (λ image is. claim_in (length u.ops) image (claim.1 image is));
            })
            (shown laws o k a is_super run step b IsClaimed (λ m image late claimed. claimed m late)
            (passed_still IsClaimed a b nothing.told (told_at a (Shows IsClaimed) t e (shows t h))) (told_at a (Past k.first (Claim o k)) t e h.past))

    pub failed_on : k2.job ≡ Broken → (s : ℕ) (bytes : List ℕ) → ((t : Tape) (live : IsLive o k t) → Shows IsClaimed t × Shows IsClaimed (did (tried s bytes) t)) → Failed s bytes a b → Told a (IsLive o k) → Told b (IsLive o k2)
    failed_on job s bytes shows failed told = elim failed.did [
      | inr nothing ↦ nothing_on job (λ t live. (shows t live).0) nothing told
      | inl done ↦ told_on a b (tried s bytes ∷ []) (IsLive o k) (IsLive o k2) done.told told (λ t e h.
          let is = shows t h in
          let there : b.told ≡ Some (did (tried s bytes) t) = done.told ∙ ap (option_map (did (tried s bytes))) e in
          told_weaker b (IsShown o k) (IsLive o k2) (λ u claim. record {
            past = past_in u claim.0;
            reading = h.reading;
            now = subst (λ (j : Job). Now k2 j o h.reading u) (sym job) (λ image at. claim_in (length u.ops) image (claim.1 image at));
          })
          (shown laws o k a is_super run step b IsClaimed (λ m image late claimed. claimed m late)
          (passed_did IsClaimed (tried s bytes) a b done (told_at a (Shows IsClaimed) t e is.0) (told_at b (Shows IsClaimed) (did (tried s bytes) t) there is.1)) (told_at a (Past k.first (Claim o k)) t e h.past)))
    ]

pub closing_out : (x : Option Closing) → IsTrue (is_body_out x) → (c : Closing) × (x ≡ Some c)
closing_out None h = absurd cc
closing_out (Some c) h = (c, refl)

pub same_batch : (x : Option Closing) (c : Closing) (batch : List AfterImage) → Some batch ≡ option_map (λ (d : Closing). d.batch) x → x ≡ Some c → batch ≡ c.batch
same_batch x c batch e is = let both : Some batch ≡ Some c.batch = e ∙ ap (option_map (λ (d : Closing). d.batch)) is in cc
