-- What the steps of a mount do to its bounds.
use Rattle.std.proofs.Common.{◌≡◌, ◌≢◌, ◌⊎◌, ◌∙◌, ℕ, ◌+◌, ◌<◌, ◌≤◌, Bool, true, false, List, [], ◌∷◌, ◌++◌, length, length-append, Option, Some, None, Vec, Global, refl, sym, ap, subst, arith, inl, inr}
use Rattle.std.specs.Prelude.{nat_lt, IsNone}
use Rattle.vx_base.specs.Faults.{Rose}
use Rattle.vx_base.specs.declared.event.Event.{Event}
use Rattle.vx_dev.specs.Tape.{State as Device}
use Rattle.vx_layout.specs.LogForms.{AfterImage}
use Rattle.vx_log.specs.Batches.{with_notes}
use Rattle.vx_log.specs.NoteLaws.{NoteLaws}
use Rattle.vx_log.specs.declared.log.Closing.{Closing}
use Rattle.vx_model.specs.Touching.{Touched}
use Rattle.vx_model.specs.Legal.{World}
use Rattle.vx_stage.specs.Growths.{IsBusy, IsInUse}
use Rattle.vx_stage.specs.Kernels.{JobFits}
use Rattle.vx_stage.specs.Staged.{staged, has_stage}
use Rattle.vx_stage.specs.declared.kernel.Job.{Job}
use Rattle.vx_stage.specs.declared.kernel.Job.TheVariants.{Idle, Tail, Left, Broken}
use Rattle.vx_stage.specs.declared.kernel.Kernel.{Kernel}
use Rattle.vx_txn.specs.declared.meta.Meta.{Meta}
use Rattle.vx_calls.specs.Calls.{HasFailed}
use Rattle.vx_calls.specs.Mounts.{IsAt}
use Rattle.vx_calls.specs.Potentials.{waits, owed_by, kernel_owed, owed, per_transaction, debt_by, kernel_debt, debt, promised, HasWorked, HasRaised, AsksOf}
use Rattle.vx_calls.specs.declared.asked.Asked.{Asked}
use Rattle.vx_calls.specs.declared.asked.Asked.TheVariants as asked
use Rattle.vx_calls.specs.declared.mount.Mount.{Mount}
use Rattle.vx_calls.proofs.Keeping.{not_left}
use Rattle.vx_calls.proofs.Owing.{IsBegun, owed_waiting, owed_freed, owed_more, owed_act, owed_broken, owed_left, owed_some, staged_less, staged_owed, staged_debt, tail_debt, debt_broken, debt_left, debt_fewer, debt_paid, debt_unpaid, debt_freed, debt_more, debt_act, works_at}

-- ---- failed writes

pub failed_same : (x : Option ℕ) (d : Device) → HasFailed x x d d
failed_same None d = refl
failed_same (Some faults) d = (refl, refl)

pub failed_not : (before now : Option ℕ) (d e : Device) → before ≡ None → now ≡ None → e.write_faults ≡ d.write_faults → HasFailed before now d e
failed_not None None d e none still same = same
failed_not None (Some faults) d e none still same = absurd (let wrong : ◌≡◌ {A = Option ℕ} (Some faults) None = still in cc)
failed_not (Some faults) now d e none still same = absurd (let wrong : ◌≡◌ {A = Option ℕ} (Some faults) None = none in cc)

pub failed_now : (before now : Option ℕ) (d e : Device) (faults : ℕ) → before ≡ None → now ≡ Some faults → faults ≡ e.write_faults → Rose d.write_faults e.write_faults → HasFailed before now d e
failed_now None None d e faults none some is rose = absurd (let wrong : ◌≡◌ {A = Option ℕ} None (Some faults) = some in cc)
failed_now None (Some told) d e faults none some is rose = (rose, (let same : ◌≡◌ {A = Option ℕ} (Some told) (Some faults) = some in cc))
failed_now (Some told) now d e faults none some is rose = absurd (let wrong : ◌≡◌ {A = Option ℕ} (Some told) None = none in cc)

pub failed_other : (x y : Option ℕ) (faults : ℕ) → x ≡ None → y ≡ Some faults → y ≢ x
failed_other x y faults none some same = let wrong : ◌≡◌ {A = Option ℕ} (Some faults) None = sym some ∙ same ∙ none in cc

-- ---- a kernel without the device, or left

pub broken_owed : (k : Kernel) (w : ℕ) → k.job ≡ Broken → kernel_owed k w ≡ 0
broken_owed k w is = ap (λ (j : Job). owed_by k.log (length k.homes) (length k.gathered) j w) is ∙ owed_broken k.log (length k.homes) (length k.gathered) w

pub broken_debt : (k : Kernel) (due : Bool) (w : ℕ) → k.job ≡ Broken → kernel_debt k due w ≡ 0
broken_debt k due w is = ap (λ (j : Job). debt_by j (length k.gathered) k.log.closing (length k.homes) due w) is ∙ debt_broken (length k.gathered) k.log.closing (length k.homes) due w

pub left_owed : (k : Kernel) (w : ℕ) → k.job ≡ Left → kernel_owed k w ≡ 0
left_owed k w is = ap (λ (j : Job). owed_by k.log (length k.homes) (length k.gathered) j w) is ∙ owed_left k.log (length k.homes) (length k.gathered) w

pub left_debt : (k : Kernel) (due : Bool) (w : ℕ) → k.job ≡ Left → kernel_debt k due w ≡ 0
left_debt k due w is = ap (λ (j : Job). debt_by j (length k.gathered) k.log.closing (length k.homes) due w) is ∙ debt_left (length k.gathered) k.log.closing (length k.homes) due w

not_of : (j : Job) → has_stage j ≡ true → (j ≢ Left) × (j ≢ Broken)
not_of j has = (
  (λ left. let wrong : false ≡ true = sym (ap has_stage left) ∙ has in cc),
  (λ broken. let wrong : false ≡ true = sym (ap has_stage broken) ∙ has in cc),
)

pub stage_some : (k : Kernel) (w : ℕ) → has_stage k.job ≡ true → 0 < kernel_owed k w
stage_some k w has = owed_some k.log (length k.homes) (length k.gathered) k.job w (not_of k.job has).0 (not_of k.job has).1

pub job_some : (k : Kernel) (w : ℕ) → k.job ≢ Left → k.job ≢ Broken → 0 < kernel_owed k w
job_some k w left broken = owed_some k.log (length k.homes) (length k.gathered) k.job w left broken

-- the job that a turn goes on with has a stage
pub goes_on : (j : Job) → j ≢ Idle → (IsBusy j → ⊥) → j ≢ Left → j ≢ Broken → has_stage j ≡ true
goes_on j idle free left broken = works_at j idle (λ out. free (subst IsBusy (sym out) tt)) left broken

-- ---- a stage

is_tail : (j : Job) → (j ≡ Tail) ⊎ (j ≢ Tail)
is_tail Tail = inl refl
is_tail Idle = inr (λ e. cc)
is_tail _ = inr (λ e. cc)

pub items_same : (a b : Vec Event Global) → a ≡ b → length a.items ≡ length b.items
items_same a b is = ap (λ (v : Vec Event Global). length v.items) is

module _ (laws : NoteLaws) (m m2 : Mount) (k : Kernel) (fits : JobFits m.kernel.job m.kernel) (done : k ≡ staged m.kernel m.kernel.job) (same : m2.kernel ≡ record k { history = m2.kernel.history }) (fewer : waits m2.meta ≤ waits m.meta) where
  now_owed : owed m2 ≡ kernel_owed (staged m.kernel m.kernel.job) (waits m2.meta)
  now_owed = ap (λ (x : Kernel). kernel_owed x (waits m2.meta)) same ∙ ap (λ (x : Kernel). kernel_owed x (waits m2.meta)) done

  pub stage_owed : owed m2 ≤ owed m
  stage_owed = omega (arith, now_owed, staged_owed laws m.kernel (waits m.meta) (waits m2.meta) fits fewer)

  pub stage_less : has_stage m.kernel.job ≡ true → owed m2 < owed m
  stage_less has = omega (arith, now_owed, staged_less laws m.kernel (waits m.meta) (waits m2.meta) fits fewer has)

pub stage_promised : (m m2 : Mount) (k : Kernel) (noted : ℕ) → JobFits m.kernel.job m.kernel → m.kernel.job ≢ Left → m.kernel.job ≢ Broken → k ≡ staged m.kernel m.kernel.job → k.history ≡ m.kernel.history → noted ≡ length m.kernel.homes
    → (m.kernel.job ≢ Tail → promised m2 ≤ promised (record m { kernel = k })) → (m.kernel.job ≡ Tail → m2 ≡ record m { kernel = k; due = nat_lt 0 noted }) → promised m2 ≤ promised m
stage_promised m m2 k noted fits left whole done history count others tail = elim (is_tail m.kernel.job) [
  | inl is ↦
      let now : promised m2 ≡ length k.history.items + kernel_debt k (nat_lt 0 (length m.kernel.homes)) (waits m.meta) =
      ap promised (tail is) ∙ ap (λ (n : ℕ). length k.history.items + kernel_debt k (nat_lt 0 n) (waits m.meta)) count in
      let then_ : kernel_debt k (nat_lt 0 (length m.kernel.homes)) (waits m.meta) ≤ debt m =
      subst (λ (x : Kernel). kernel_debt x (nat_lt 0 (length m.kernel.homes)) (waits m.meta) ≤ debt m) (sym done) (tail_debt m.kernel m.due (waits m.meta) is) in
      omega (arith, now, then_, items_same k.history m.kernel.history history)
  | inr other ↦
      let then_ : kernel_debt k m.due (waits m.meta) ≤ debt m = subst (λ (x : Kernel). kernel_debt x m.due (waits m.meta) ≤ debt m) (sym done) (staged_debt m.kernel m.due (waits m.meta) fits left whole other) in
      omega (arith, others other, then_, items_same k.history m.kernel.history history)
]

pub broken_promised : (m m2 : Mount) → m2.kernel.job ≡ Broken → m2.kernel.history ≡ m.kernel.history → promised m2 ≤ promised m
broken_promised m m2 job same = omega (arith, broken_debt m2.kernel m2.due (waits m2.meta) job, items_same m2.kernel.history m.kernel.history same)

-- ---- a release

module _ (m m2 : Mount) (idle : m.kernel.job ≡ Idle) where
  debt_at : (due : Bool) (w : ℕ) → kernel_debt m.kernel due w ≡ debt_by Idle (length m.kernel.gathered) m.kernel.log.closing (length m.kernel.homes) due w
  debt_at due w = ap (λ (j : Job). debt_by j (length m.kernel.gathered) m.kernel.log.closing (length m.kernel.homes) due w) idle

  -- none was due, or no block waits
  pub unpaid : promised (record m { due = false }) ≤ promised m
  unpaid = omega (arith, debt_at m.due (waits m.meta), debt_at false (waits m.meta), debt_unpaid (length m.kernel.gathered) m.kernel.log.closing (length m.kernel.homes) m.due (waits m.meta))

  module _ (same : m2.kernel ≡ record m.kernel { history = m2.kernel.history }) (noted : length m2.kernel.history.items ≡ length m.kernel.history.items + 1) where
    now_debt : debt m2 ≡ kernel_debt m.kernel m2.due (waits m2.meta)
    now_debt = ap (λ (x : Kernel). kernel_debt x m2.due (waits m2.meta)) same

    -- one was due
    pub paid : m.due ≡ true → m2.due ≡ false → waits m2.meta ≤ waits m.meta → promised m2 ≤ promised m
    paid due none fewer =
        let before : debt m ≡ debt_by Idle (length m.kernel.gathered) m.kernel.log.closing (length m.kernel.homes) true (waits m.meta) = ap (λ (b : Bool). kernel_debt m.kernel b (waits m.meta)) due ∙ debt_at true (waits m.meta) in
        let after : debt m2 ≡ debt_by Idle (length m.kernel.gathered) m.kernel.log.closing (length m.kernel.homes) false (waits m2.meta) =
        now_debt ∙ ap (λ (b : Bool). kernel_debt m.kernel b (waits m2.meta)) none ∙ debt_at false (waits m2.meta) in
        omega (arith, noted, before, after, debt_paid (length m.kernel.gathered) m.kernel.log.closing (length m.kernel.homes) (waits m.meta) (waits m2.meta) fewer)

    -- all blocks that waited are free
    module _ (due : m2.due ≡ m.due) (fewer : waits m2.meta < waits m.meta) where
      pub freed_promised : promised m2 ≤ promised m
      freed_promised =
          let before : debt m ≡ debt_by Idle (length m.kernel.gathered) m.kernel.log.closing (length m.kernel.homes) m.due (waits m.meta) = debt_at m.due (waits m.meta) in
          let after : debt m2 ≡ debt_by Idle (length m.kernel.gathered) m.kernel.log.closing (length m.kernel.homes) m.due (waits m2.meta) =
          now_debt ∙ ap (λ (b : Bool). kernel_debt m.kernel b (waits m2.meta)) due ∙ debt_at m.due (waits m2.meta) in
          omega (arith, noted, before, after, debt_freed (length m.kernel.gathered) m.kernel.log.closing (length m.kernel.homes) m.due (waits m.meta) (waits m2.meta) fewer)

      pub freed_owed : owed m2 < owed m
      freed_owed =
          let before : owed m ≡ owed_by m.kernel.log (length m.kernel.homes) (length m.kernel.gathered) Idle (waits m.meta) =
          ap (λ (j : Job). owed_by m.kernel.log (length m.kernel.homes) (length m.kernel.gathered) j (waits m.meta)) idle in
          let after : owed m2 ≡ owed_by m.kernel.log (length m.kernel.homes) (length m.kernel.gathered) Idle (waits m2.meta) =
          ap (λ (x : Kernel). kernel_owed x (waits m2.meta)) same ∙ ap (λ (j : Job). owed_by m.kernel.log (length m.kernel.homes) (length m.kernel.gathered) j (waits m2.meta)) idle in
          omega (arith, before, after, owed_freed m.kernel.log (length m.kernel.homes) (length m.kernel.gathered) (waits m.meta) (waits m2.meta) fewer)

-- ---- what a wish begins

module _ (m m2 : Mount) (same : m2 ≡ record m { kernel = m2.kernel }) (history : m2.kernel.history ≡ m.kernel.history) (begun : IsBegun m.kernel m2.kernel) where
  pub begun_owed : owed m2 ≤ owed m
  begun_owed = omega (arith, ap owed same, begun.owed (waits m.meta))

  pub begun_promised : promised m2 ≤ promised m
  begun_promised = omega (arith, ap debt same, begun.debt m.due (waits m.meta), items_same m2.kernel.history m.kernel.history history)

-- ---- a call in memory

-- the metadata were changed, so that blocks may wait
module _ (m : Mount) (meta : Meta) (touched : Touched) where
  abbrev pub changed : Mount
  changed = record m { meta = meta; touched = touched }

  pub changed_owed : waits meta ≤ 1 → owed changed ≤ owed m + 1
  changed_owed one =
      let most : kernel_owed m.kernel (waits meta) ≤ kernel_owed m.kernel (waits m.meta + 1) = owed_waiting m.kernel.log (length m.kernel.homes) (length m.kernel.gathered) m.kernel.job (waits m.meta + 1) (waits meta) (omega (arith, one)) in
      omega (arith, most, owed_more m.kernel.log (length m.kernel.homes) (length m.kernel.gathered) m.kernel.job (waits m.meta))

  pub changed_promised : waits meta ≤ 1 → promised changed ≤ promised m + 1
  changed_promised one =
      let most : kernel_debt m.kernel m.due (waits meta) ≤ kernel_debt m.kernel m.due (waits m.meta + 1) =
      debt_fewer m.kernel.job (length m.kernel.gathered) m.kernel.log.closing (length m.kernel.homes) m.due (waits m.meta + 1) (waits meta) (omega (arith, one)) in
      omega (arith, most, debt_more m.kernel.job (length m.kernel.gathered) m.kernel.log.closing (length m.kernel.homes) m.due (waits m.meta))

  pub kept_owed : waits meta ≡ waits m.meta → owed changed ≡ owed m
  kept_owed same = ap (kernel_owed m.kernel) same

  pub kept_promised : waits meta ≡ waits m.meta → promised changed ≡ promised m
  kept_promised same = ap (λ (w : ℕ). length m.kernel.history.items + kernel_debt m.kernel m.due w) same

-- nothing was done
pub raised_none : (d : Device) (m : Mount) → HasRaised 1 1 d d m m
raised_none d m = record { owed = omega arith; promised = omega arith; quiet = λ same. refl }

pub one_more : (es later : List Event) (e : Event) → later ≡ es ++ e ∷ [] → length later ≡ length es + 1
one_more es later e is = ap (λ (x : List Event). length x) is ∙ length-append es (e ∷ [])

pub joined : (old k k2 : Kernel) (transaction : List AfterImage) → old ≡ k → k2 ≡ record old { gathered = k2.gathered; history = k2.history } → k2.gathered ≡ with_notes old.gathered transaction
    → k2 ≡ record k { gathered = with_notes k.gathered transaction; history = k2.history }
joined old k k2 transaction is same gathered = subst (λ (x : Kernel). k2 ≡ record x { gathered = with_notes x.gathered transaction; history = k2.history }) is (same ∙ ap (λ (b : List AfterImage). record old { gathered = b; history = k2.history }) gathered)

-- a transaction joined the open batch
transaction_few : NoteLaws → (gathered transaction : List AfterImage) → length transaction ≤ 256 → ((transaction ≡ []) ⊎ (length gathered ≤ 144))
    → (length (with_notes gathered transaction) ≡ length gathered) ⊎ (length (with_notes gathered transaction) ≤ 400)
transaction_few laws gathered transaction few (inl none) = inl (ap (λ (t : List AfterImage). length (with_notes gathered t)) none)
transaction_few laws gathered transaction few (inr place) = inr (omega (arith, few, place, laws.length gathered transaction))

module _ (laws : NoteLaws) (m m2 : Mount) (transaction : List AfterImage) (same : m2.kernel ≡ record m.kernel { gathered = with_notes m.kernel.gathered transaction; history = m2.kernel.history }) (meta : m2.meta ≡ m.meta) where
  pub joined_owed : length transaction ≤ 256 → ((transaction ≡ []) ⊎ (length m.kernel.gathered ≤ 144)) → owed m2 ≤ owed m + per_transaction
  joined_owed few place =
      let now : owed m2 ≡ owed_by m.kernel.log (length m.kernel.homes) (length (with_notes m.kernel.gathered transaction)) m.kernel.job (waits m.meta) =
      ap (λ (x : Kernel). kernel_owed x (waits m2.meta)) same ∙ ap (λ (x : Meta). owed_by m.kernel.log (length m.kernel.homes) (length (with_notes m.kernel.gathered transaction)) m.kernel.job (waits x)) meta in
      let most = owed_act m.kernel.log (length m.kernel.homes) (length m.kernel.gathered) (length (with_notes m.kernel.gathered transaction)) m.kernel.job (waits m.meta) (transaction_few laws m.kernel.gathered transaction few place) in
      omega (arith, now, most)

  pub joined_promised : m2.due ≡ m.due → length m2.kernel.history.items ≡ length m.kernel.history.items + 1 → promised m2 ≤ promised m + 2
  joined_promised due noted =
      let now : debt m2 ≡ debt_by m.kernel.job (length (with_notes m.kernel.gathered transaction)) m.kernel.log.closing (length m.kernel.homes) m.due (waits m.meta) =
      ap (λ (x : Kernel). kernel_debt x m2.due (waits m2.meta)) same ∙ ap (λ (b : Bool). debt_by m.kernel.job (length (with_notes m.kernel.gathered transaction)) m.kernel.log.closing (length m.kernel.homes) b (waits m2.meta)) due
      ∙ ap (λ (x : Meta). debt_by m.kernel.job (length (with_notes m.kernel.gathered transaction)) m.kernel.log.closing (length m.kernel.homes) m.due (waits x)) meta in
      let most = debt_act m.kernel.job (length m.kernel.gathered) (length (with_notes m.kernel.gathered transaction)) m.kernel.log.closing (length m.kernel.homes) m.due (waits m.meta) in
      omega (arith, now, most, noted)

-- ---- a mount that begins

debt_none : debt_by Idle 0 None 0 false 0 ≡ 0
unfolding debt_by
debt_none = refl

pub none_of : (x : Option Closing) → IsNone x → x ≡ None
none_of None none = refl
none_of (Some c) none = absurd cc

pub fresh_debt : (k : Kernel) (w : ℕ) → k.job ≡ Idle → k.gathered ≡ [] → k.homes ≡ [] → k.log.closing ≡ None → w ≡ 0 → kernel_debt k false w ≡ 0
fresh_debt k w idle gathered homes closing none = ap (λ (j : Job). debt_by j (length k.gathered) k.log.closing (length k.homes) false w) idle ∙ ap (λ (b : List AfterImage). debt_by Idle (length b) k.log.closing (length k.homes) false w) gathered
    ∙ ap (λ (x : Option Closing). debt_by Idle 0 x (length k.homes) false w) closing ∙ ap (λ (b : List AfterImage). debt_by Idle 0 None (length b) false w) homes ∙ ap (λ (n : ℕ). debt_by Idle 0 None 0 false n) none ∙ debt_none

-- ---- what a turn comes to

-- another job began, and its first stage was done
pub worked : (d e : Device) (m m1 m2 : Mount) → owed m1 ≤ owed m → promised m1 ≤ promised m → owed m2 < owed m1 → promised m2 ≤ promised m1 → d.count < e.count → HasWorked d e m m2
worked d e m m1 m2 owed_first promised_first owed_then promised_then works = record { less = omega (arith, owed_first, owed_then); promised = omega (arith, promised_first, promised_then); works = inl works }

-- ... or failed
pub raised_fault : (d e : Device) (m m1 m2 : Mount) (faults : ℕ) → owed m1 ≤ owed m → promised m1 ≤ promised m → owed m2 ≤ owed m1 → promised m2 ≤ promised m1 → m.disabled ≡ None → m2.disabled ≡ Some faults → HasRaised 1 1 d e m m2
raised_fault d e m m1 m2 faults owed_first promised_first owed_then promised_then none some =
    record { owed = omega (arith, owed_first, owed_then); promised = omega (arith, promised_first, promised_then); quiet = λ same. absurd (failed_other m.disabled m2.disabled faults none some same) }

-- the same from a mount that differs in nothing that counts
pub asks_from : (d e : Device) (m m1 m2 : Mount) (a : Asked) → owed m1 ≡ owed m → promised m1 ≡ promised m → m1.kernel.history ≡ m.kernel.history → m1.disabled ≡ m.disabled → AsksOf d e m1 m2 a → AsksOf d e m m2 a
asks_from d e m m1 m2 asked.Again same_owed same_promised history disabled asks =
    record { less = omega (arith, same_owed, asks.less); promised = omega (arith, same_promised, asks.promised); works = elim asks.works [ inl works ↦ inl works | inr noted ↦ inr (noted ∙ ap (λ (n : ℕ). n + 1) (items_same m1.kernel.history m.kernel.history history)) ] }
asks_from d e m m1 m2 (asked.Replied reply copy) same_owed same_promised history disabled asks =
    record { owed = omega (arith, same_owed, asks.owed); promised = omega (arith, same_promised, asks.promised); quiet = λ same. asks.quiet (same ∙ sym disabled) }

-- nothing is open, or a job has begun
pub begun_job : (b : Bool) (gathered : List AfterImage) (j : Job) → (b ≡ true → gathered ≡ []) → (b ≡ false → j ≢ Idle) → 0 < length gathered → j ≢ Idle
begun_job true gathered j none begun some = absurd (omega (arith, some, ap (λ (g : List AfterImage). length g) (none refl)))
begun_job false gathered j none begun some = begun refl

-- the job that goes on has a stage
pub has_begun : (o : World) (d : Device) (m : Mount) → IsAt o d m → IsInUse o m.kernel → m.kernel.job ≢ Idle → (IsBusy m.kernel.job → ⊥) → m.disabled ≡ None → has_stage m.kernel.job ≡ true
has_begun o d m at used begun free none = goes_on m.kernel.job begun free (not_left o d m at used) (at.enabled none)
