-- What the stages of a kernel, and what begins them, do to the bounds.
use Rattle.std.proofs.Common.{◌≡◌, ◌≢◌, ◌⊎◌, ◌∙◌, ℕ, zero, suc, ◌+◌, ◌-◌, ◌<◌, ◌≤◌, Bool, true, false, cond, List, length, Option, Some, None, refl, sym, ap, subst, arith, inl, inr}
use Rattle.std.specs.Prelude.{◌==◌, ◌&&◌, ◌^◌, min, nat_lt, IsTrue, IsSome, is_some}
use Rattle.std.proofs.lemmas.Bool.Decides.{nat_tests}
use Rattle.vx_layout.specs.LogForms.{AfterImage, log_length}
use Rattle.vx_log.specs.Batches.{with_notes}
use Rattle.vx_log.specs.Logs.{LogView, after_stage, is_body_out, opened, advanced, restarted}
use Rattle.vx_log.specs.NoteLaws.{NoteLaws}
use Rattle.vx_log.specs.declared.log.Closing.{Closing}
use Rattle.vx_stage.specs.Kernels.{JobFits, IsFew}
use Rattle.vx_stage.specs.Growths.{IsBusy}
use Rattle.vx_stage.specs.Staged.{staged, has_stage, homes_from, closing_batch, raised, emptying, batched, BeginsCommit, BeginsRelease, BeginsClean}
use Rattle.vx_stage.specs.declared.kernel.Job.{Job}
use Rattle.vx_stage.specs.declared.kernel.Job.TheVariants.{Idle, Body, BodyOut, Head, HeadOut, Homes, HomesOut, Tail, TailOut, Leave, LeaveOut, Left, Broken}
use Rattle.vx_stage.specs.declared.kernel.Kernel.{Kernel}
use Rattle.vx_calls.specs.Potentials.{flag, unwritten, batch_owed, is_level, log_owed, owed_by, kernel_owed, per_transaction, debt_by, kernel_debt}

-- ---- the parts

nat_same : (a b : ℕ) → a ≡ b → (a == b) ≡ true
nat_same a b is = grind (arith, nat_tests)

cond_most : (b : Bool) (n : ℕ) → cond b 0 n ≤ n
cond_most true n = omega arith
cond_most false n = omega arith

log_most : (log : LogView) (h : ℕ) → log_owed log h ≤ h + 6
unfolding log_owed
log_most log h = cond_most (is_level log) (h + 6)

both : (a b : Bool) → a ≡ true → b ≡ true → (a && b) ≡ true
both a b one two = cc

log_level : (log : LogView) (h : ℕ) → is_level log ≡ true → log_owed log h ≡ 0
unfolding log_owed
log_level log h level = ap (λ (b : Bool). cond b 0 (h + 6)) level

log_not_level : (log : LogView) (h : ℕ) → is_level log ≡ false → log_owed log h ≡ h + 6
unfolding log_owed
log_not_level log h level = ap (λ (b : Bool). cond b 0 (h + 6)) level

first_of : (a b : Bool) → (a && b) ≡ true → a ≡ true
first_of true b is = refl
first_of false b is = is

level_same : (log : LogView) → is_level log ≡ true → log.tail ≡ log.head
level_same log level = let same : (log.tail == log.head) ≡ true = first_of (log.tail == log.head) (nat_lt log.head (2 ^ 61)) level in grind (arith, nat_tests)

-- noted sectors are in the log
log_least : (log : LogView) (h : ℕ) → log.tail + h ≤ log.head → h ≤ log_owed log h
log_least log h few = by_test (is_level log) refl
  where
    by_test : (t : Bool) → is_level log ≡ t → h ≤ log_owed log h
    by_test true level = omega (arith, few, level_same log level)
    by_test false level = omega (arith, log_not_level log h level)

batch_none : batch_owed 0 ≡ 0
unfolding batch_owed
batch_none = refl

not_zero : (n : ℕ) → 0 < n → (n == 0) ≡ false
not_zero n some = grind (arith, nat_tests)

batch_some : (n : ℕ) → 0 < n → batch_owed n ≡ log_length n + n + 10
unfolding batch_owed
batch_some n some = ap (λ (b : Bool). cond b 0 (log_length n + n + 10)) (not_zero n some)

batch_most : (n : ℕ) → n ≤ 400 → batch_owed n ≤ per_transaction
batch_most zero le = omega (arith, batch_none)
batch_most (suc n) le = omega (arith, le, batch_some (suc n) (omega arith))

pub owed_waiting : (log : LogView) (h g : ℕ) (j : Job) (w w2 : ℕ) → w2 ≤ w → owed_by log h g j w2 ≤ owed_by log h g j w
unfolding owed_by
owed_waiting log h g Idle w w2 le = omega (arith, le)
owed_waiting log h g Body w w2 le = omega (arith, le)
owed_waiting log h g BodyOut w w2 le = omega (arith, le)
owed_waiting log h g Head w w2 le = omega (arith, le)
owed_waiting log h g HeadOut w w2 le = omega (arith, le)
owed_waiting log h g (Homes put) w w2 le = omega (arith, le)
owed_waiting log h g HomesOut w w2 le = omega (arith, le)
owed_waiting log h g Tail w w2 le = omega (arith, le)
owed_waiting log h g TailOut w w2 le = omega (arith, le)
owed_waiting log h g Leave w w2 le = omega arith
owed_waiting log h g LeaveOut w w2 le = omega arith
owed_waiting log h g Left w w2 le = omega arith
owed_waiting log h g Broken w w2 le = omega arith

-- where blocks waited, their release lowers it
pub owed_freed : (log : LogView) (h g : ℕ) (w w2 : ℕ) → w2 < w → owed_by log h g Idle w2 < owed_by log h g Idle w
unfolding owed_by
owed_freed log h g w w2 lt = omega (arith, lt)

-- so many blocks more that wait
pub owed_more : (log : LogView) (h g : ℕ) (j : Job) (w : ℕ) → owed_by log h g j (w + 1) ≤ owed_by log h g j w + 1
unfolding owed_by
owed_more log h g Idle w = omega arith
owed_more log h g Body w = omega arith
owed_more log h g BodyOut w = omega arith
owed_more log h g Head w = omega arith
owed_more log h g HeadOut w = omega arith
owed_more log h g (Homes put) w = omega arith
owed_more log h g HomesOut w = omega arith
owed_more log h g Tail w = omega arith
owed_more log h g TailOut w = omega arith
owed_more log h g Leave w = omega arith
owed_more log h g LeaveOut w = omega arith
owed_more log h g Left w = omega arith
owed_more log h g Broken w = omega arith

-- a transaction joins the open batch, which has room for it
owed_joined : (log : LogView) (h g g2 : ℕ) (j : Job) (w : ℕ) → batch_owed g2 ≤ batch_owed g + per_transaction → owed_by log h g2 j w ≤ owed_by log h g j w + per_transaction
unfolding owed_by
owed_joined log h g g2 Idle w le = omega (arith, le)
owed_joined log h g g2 Body w le = omega (arith, le)
owed_joined log h g g2 BodyOut w le = omega (arith, le)
owed_joined log h g g2 Head w le = omega (arith, le)
owed_joined log h g g2 HeadOut w le = omega (arith, le)
owed_joined log h g g2 (Homes put) w le = omega (arith, le)
owed_joined log h g g2 HomesOut w le = omega (arith, le)
owed_joined log h g g2 Tail w le = omega (arith, le)
owed_joined log h g g2 TailOut w le = omega (arith, le)
owed_joined log h g g2 Leave w le = omega arith
owed_joined log h g g2 LeaveOut w le = omega arith
owed_joined log h g g2 Left w le = omega arith
owed_joined log h g g2 Broken w le = omega arith

pub owed_act : (log : LogView) (h g g2 : ℕ) (j : Job) (w : ℕ) → (g2 ≡ g) ⊎ (g2 ≤ 400) → owed_by log h g2 j w ≤ owed_by log h g j w + per_transaction
owed_act log h g g2 j w (inl same) = owed_joined log h g g2 j w (let is : batch_owed g2 ≡ batch_owed g = ap batch_owed same in omega (arith, is))
owed_act log h g g2 j w (inr few) = owed_joined log h g g2 j w (let most : batch_owed g2 ≤ per_transaction = batch_most g2 few in omega (arith, most))

-- nothing is to come of a device that fails
pub owed_broken : (log : LogView) (h g w : ℕ) → owed_by log h g Broken w ≡ 0
unfolding owed_by
owed_broken log h g w = refl

pub owed_left : (log : LogView) (h g w : ℕ) → owed_by log h g Left w ≡ 0
unfolding owed_by
owed_left log h g w = refl

pub owed_some : (log : LogView) (h g : ℕ) (j : Job) (w : ℕ) → j ≢ Left → j ≢ Broken → 0 < owed_by log h g j w
unfolding owed_by
owed_some log h g Idle w left broken = omega arith
owed_some log h g Body w left broken = omega arith
owed_some log h g BodyOut w left broken = omega arith
owed_some log h g Head w left broken = omega arith
owed_some log h g HeadOut w left broken = omega arith
owed_some log h g (Homes put) w left broken = omega arith
owed_some log h g HomesOut w left broken = omega arith
owed_some log h g Tail w left broken = omega arith
owed_some log h g TailOut w left broken = omega arith
owed_some log h g Leave w left broken = omega arith
owed_some log h g LeaveOut w left broken = omega arith
owed_some log h g Left w left broken = absurd (left refl)
owed_some log h g Broken w left broken = absurd (broken refl)

-- ---- a stage

by_cond : (P : Job → Type 0) (b : Bool) (x y : Job) → (b ≡ true → P x) → (b ≡ false → P y) → P (cond b x y)
by_cond P true x y p q = p refl
by_cond P false x y p q = q refl

put_left : (w l : ℕ) → (min (w + 8) l == l) ≡ false → l - min (w + 8) l < l - w
put_left w l not_ = let le : min (w + 8) l ≤ l = omega arith in let ne : min (w + 8) l ≢ l = (λ e. let wrong : true ≡ false = sym (nat_same (min (w + 8) l) l e) ∙ not_ in cc) in omega (arith, le, ne)

body_less : (log : LogView) (h g w : ℕ) (c : Closing) → log.closing ≡ Some c
    → owed_by (record log { closing = after_stage log.closing }) h g (cond (is_body_out (after_stage log.closing)) BodyOut Body) w < owed_by log h g Body w
unfolding owed_by log_owed
body_less log h g w c is =
    subst (λ (x : Option Closing). owed_by (record log { closing = after_stage x }) h g (cond (is_body_out (after_stage x)) BodyOut Body) w < 13 + unwritten x + length (closing_batch x) + batch_owed g + log_owed log h + w) (sym is)
    (by_cond (λ j. owed_by (record log { closing = after_stage (Some c) }) h g j w < 13 + unwritten (Some c) + length c.batch + batch_owed g + log_owed log h + w) (min (c.written + 8) (log_length (length c.batch)) == log_length (length c.batch)) BodyOut Body
    (λ out. omega arith) (λ not_. omega (arith, put_left c.written (log_length (length c.batch)) not_)))

some_of : (x : Option Closing) → IsSome x → (c : Closing) × (x ≡ Some c)
some_of (Some c) is = (c, refl)
some_of None is = absurd cc

out_some : (x : Option Closing) → IsTrue (is_body_out x) → IsSome x
out_some (Some c) is = refl
out_some None is = absurd cc

abbrev stage_owed : Kernel → Job → ℕ → ℕ
stage_owed k j w = owed_by k.log (length k.homes) (length k.gathered) j w

tail_level : (log : LogView) (b : Bool) → nat_lt log.head (2 ^ 61) ≡ b → is_level (cond b (advanced log log.head) (restarted log)) ≡ true
tail_level log true lt = both (log.head == log.head) (nat_lt log.head (2 ^ 61)) (nat_same log.head log.head refl) lt
tail_level log false lt = refl

stage_less : NoteLaws → (k : Kernel) (w : ℕ) (j : Job) → JobFits j k → has_stage j ≡ true → kernel_owed (staged k j) w < stage_owed k j w
unfolding owed_by
stage_less laws k w Idle fits has = absurd cc
stage_less laws k w Body fits has = let some = some_of k.log.closing fits.0 in body_less k.log (length k.homes) (length k.gathered) w some.0 some.1
stage_less laws k w BodyOut fits has = omega arith
stage_less laws k w Head fits has = omega (arith, log_most (record (opened k.log) { spare = false }) (length (with_notes k.homes (closing_batch k.log.closing))), laws.length k.homes (closing_batch k.log.closing), log_least k.log (length k.homes) fits.1)
stage_less laws k w HeadOut fits has = omega arith
stage_less laws k w (Homes put) fits has = by_cond (λ x. owed_by k.log (length k.homes) (length k.gathered) x w < stage_owed k (Homes put) w) (min (put + 8) (length k.homes) == length k.homes) HomesOut (Homes (min (put + 8) (length k.homes)))
    (λ all. omega (arith, fits.3)) (λ not_. omega (arith, put_left put (length k.homes) not_))
stage_less laws k w HomesOut fits has = omega arith
stage_less laws k w Tail fits has = omega (arith, log_level (staged k Tail).log 0 (tail_level k.log (nat_lt k.log.head (2 ^ 61)) refl))
stage_less laws k w TailOut fits has = omega arith
stage_less laws k w Leave fits has = omega arith
stage_less laws k w LeaveOut fits has = absurd cc
stage_less laws k w Left fits has = absurd cc
stage_less laws k w Broken fits has = absurd cc

stage_none : (k : Kernel) (j : Job) → has_stage j ≡ false → staged k j ≡ k
stage_none k Idle has = refl
stage_none k LeaveOut has = refl
stage_none k Left has = refl
stage_none k Broken has = refl
stage_none k Body has = absurd cc
stage_none k BodyOut has = absurd cc
stage_none k Head has = absurd cc
stage_none k HeadOut has = absurd cc
stage_none k (Homes put) has = absurd cc
stage_none k HomesOut has = absurd cc
stage_none k Tail has = absurd cc
stage_none k TailOut has = absurd cc
stage_none k Leave has = absurd cc

pub staged_less : NoteLaws → (k : Kernel) (w w2 : ℕ) → JobFits k.job k → w2 ≤ w → has_stage k.job ≡ true → kernel_owed (staged k k.job) w2 < kernel_owed k w
staged_less laws k w w2 fits le has =
    let k2 = staged k k.job in
    let fewer : kernel_owed k2 w2 ≤ kernel_owed k2 w = owed_waiting k2.log (length k2.homes) (length k2.gathered) k2.job w w2 le in
    let less : kernel_owed k2 w < kernel_owed k w = stage_less laws k w k.job fits has in
    omega (arith, fewer, less)

pub staged_owed : NoteLaws → (k : Kernel) (w w2 : ℕ) → JobFits k.job k → w2 ≤ w → kernel_owed (staged k k.job) w2 ≤ kernel_owed k w
staged_owed laws k w w2 fits le = by_test (has_stage k.job) refl
  where
    by_test : (t : Bool) → has_stage k.job ≡ t → kernel_owed (staged k k.job) w2 ≤ kernel_owed k w
    by_test true has = let less : kernel_owed (staged k k.job) w2 < kernel_owed k w = staged_less laws k w w2 fits le has in omega (arith, less)
    by_test false has = subst (λ (x : Kernel). kernel_owed x w2 ≤ kernel_owed k w) (sym (stage_none k k.job has)) (owed_waiting k.log (length k.homes) (length k.gathered) k.job w w2 le)

-- ---- releases

abbrev stage_debt : Kernel → Job → Bool → ℕ → ℕ
stage_debt k j due w = debt_by j (length k.gathered) k.log.closing (length k.homes) due w

abbrev flags : ℕ → Option Closing → ℕ → Bool → ℕ → ℕ
flags gathered closing homes due waiting = flag (nat_lt 0 gathered) + flag (is_some closing) + flag (nat_lt 0 homes) + flag due + waiting

abbrev kernel_flags : Kernel → Bool → ℕ → ℕ
kernel_flags k due w = flags (length k.gathered) k.log.closing (length k.homes) due w

pub debt_left : (g : ℕ) (c : Option Closing) (h : ℕ) (due : Bool) (w : ℕ) → debt_by Left g c h due w ≡ 0
unfolding debt_by
debt_left g c h due w = refl

pub debt_broken : (g : ℕ) (c : Option Closing) (h : ℕ) (due : Bool) (w : ℕ) → debt_by Broken g c h due w ≡ 0
unfolding debt_by
debt_broken g c h due w = refl

debt_most : (j : Job) (g : ℕ) (c : Option Closing) (h : ℕ) (due : Bool) (w : ℕ) → debt_by j g c h due w ≤ flags g c h due w
unfolding debt_by
debt_most Broken g c h due w = omega arith
debt_most Idle g c h due w = omega arith
debt_most Body g c h due w = omega arith
debt_most BodyOut g c h due w = omega arith
debt_most Head g c h due w = omega arith
debt_most HeadOut g c h due w = omega arith
debt_most (Homes put) g c h due w = omega arith
debt_most HomesOut g c h due w = omega arith
debt_most Tail g c h due w = omega arith
debt_most TailOut g c h due w = omega arith
debt_most Leave g c h due w = omega arith
debt_most LeaveOut g c h due w = omega arith
debt_most Left g c h due w = omega arith

debt_whole : (j : Job) (g : ℕ) (c : Option Closing) (h : ℕ) (due : Bool) (w : ℕ) → j ≢ Left → j ≢ Broken → debt_by j g c h due w ≡ flags g c h due w
unfolding debt_by
debt_whole Broken g c h due w left whole = absurd (whole refl)
debt_whole Idle g c h due w left whole = refl
debt_whole Body g c h due w left whole = refl
debt_whole BodyOut g c h due w left whole = refl
debt_whole Head g c h due w left whole = refl
debt_whole HeadOut g c h due w left whole = refl
debt_whole (Homes put) g c h due w left whole = refl
debt_whole HomesOut g c h due w left whole = refl
debt_whole Tail g c h due w left whole = refl
debt_whole TailOut g c h due w left whole = refl
debt_whole Leave g c h due w left whole = refl
debt_whole LeaveOut g c h due w left whole = refl
debt_whole Left g c h due w left whole = absurd (left refl)

flag_most : (b : Bool) → flag b ≤ 1
flag_most true = omega arith
flag_most false = omega arith

some_flag : (x : Option Closing) → IsSome x → flag (is_some x) ≡ 1
some_flag (Some c) is = refl
some_flag None is = absurd cc

after_flag : (x : Option Closing) → is_some (after_stage x) ≡ is_some x
after_flag (Some c) = refl
after_flag None = refl

stage_flags : (k : Kernel) (due : Bool) (w : ℕ) (j : Job) → JobFits j k → j ≢ Tail → kernel_flags (staged k j) due w ≤ kernel_flags k due w
stage_flags k due w Body fits other = let same : flag (is_some (after_stage k.log.closing)) ≡ flag (is_some k.log.closing) = ap flag (after_flag k.log.closing) in omega (arith, same)
stage_flags k due w Head fits other = omega (arith, some_flag k.log.closing (out_some k.log.closing fits.0), flag_most (nat_lt 0 (length (with_notes k.homes (closing_batch k.log.closing)))))
stage_flags k due w Tail fits other = absurd (other refl)
stage_flags k due w Idle fits other = omega arith
stage_flags k due w BodyOut fits other = omega arith
stage_flags k due w HeadOut fits other = omega arith
stage_flags k due w (Homes put) fits other = omega arith
stage_flags k due w HomesOut fits other = omega arith
stage_flags k due w TailOut fits other = omega arith
stage_flags k due w Leave fits other = omega arith
stage_flags k due w LeaveOut fits other = omega arith
stage_flags k due w Left fits other = omega arith
stage_flags k due w Broken fits other = omega arith

pub staged_debt : (k : Kernel) (due : Bool) (w : ℕ) → JobFits k.job k → k.job ≢ Left → k.job ≢ Broken → k.job ≢ Tail → kernel_debt (staged k k.job) due w ≤ kernel_debt k due w
staged_debt k due w fits left whole other =
    let k2 = staged k k.job in
    let most : kernel_debt k2 due w ≤ kernel_flags k2 due w = debt_most k2.job (length k2.gathered) k2.log.closing (length k2.homes) due w in
    let less : kernel_flags k2 due w ≤ kernel_flags k due w = stage_flags k due w k.job fits other in
    let is : kernel_debt k due w ≡ kernel_flags k due w = debt_whole k.job (length k.gathered) k.log.closing (length k.homes) due w left whole in
    omega (arith, most, less, is)

same_closing : (log : LogView) (b : Bool) → (cond b (advanced log log.head) (restarted log)).closing ≡ log.closing
same_closing log true = refl
same_closing log false = refl

tail_debt_at : (k : Kernel) (due : Bool) (w : ℕ) → kernel_debt (staged k Tail) (nat_lt 0 (length k.homes)) w ≤ stage_debt k Tail due w
unfolding debt_by
tail_debt_at k due w = let same : flag (is_some (staged k Tail).log.closing) ≡ flag (is_some k.log.closing) = ap (λ (x : Option Closing). flag (is_some x)) (same_closing k.log (nat_lt k.log.head (2 ^ 61))) in omega (arith, same)

-- sectors that were noted are home, so that a release is due
pub tail_debt : (k : Kernel) (due : Bool) (w : ℕ) → k.job ≡ Tail → kernel_debt (staged k k.job) (nat_lt 0 (length k.homes)) w ≤ kernel_debt k due w
tail_debt k due w is = subst (λ (j : Job). kernel_debt (staged k j) (nat_lt 0 (length k.homes)) w ≤ stage_debt k j due w) (sym is) (tail_debt_at k due w)

-- fewer blocks wait, or a release was due
pub debt_fewer : (j : Job) (g : ℕ) (c : Option Closing) (h : ℕ) (due : Bool) (w w2 : ℕ) → w2 ≤ w → debt_by j g c h due w2 ≤ debt_by j g c h due w
unfolding debt_by
debt_fewer Broken g c h due w w2 le = omega arith
debt_fewer Idle g c h due w w2 le = omega (arith, le)
debt_fewer Body g c h due w w2 le = omega (arith, le)
debt_fewer BodyOut g c h due w w2 le = omega (arith, le)
debt_fewer Head g c h due w w2 le = omega (arith, le)
debt_fewer HeadOut g c h due w w2 le = omega (arith, le)
debt_fewer (Homes put) g c h due w w2 le = omega (arith, le)
debt_fewer HomesOut g c h due w w2 le = omega (arith, le)
debt_fewer Tail g c h due w w2 le = omega (arith, le)
debt_fewer TailOut g c h due w w2 le = omega (arith, le)
debt_fewer Leave g c h due w w2 le = omega (arith, le)
debt_fewer LeaveOut g c h due w w2 le = omega (arith, le)
debt_fewer Left g c h due w w2 le = omega arith

pub debt_paid : (g : ℕ) (c : Option Closing) (h : ℕ) (w w2 : ℕ) → w2 ≤ w → debt_by Idle g c h false w2 + 1 ≤ debt_by Idle g c h true w
unfolding debt_by
debt_paid g c h w w2 le = omega (arith, le)

pub debt_unpaid : (g : ℕ) (c : Option Closing) (h : ℕ) (due : Bool) (w : ℕ) → debt_by Idle g c h false w ≤ debt_by Idle g c h due w
unfolding debt_by
debt_unpaid g c h due w = omega arith

pub debt_freed : (g : ℕ) (c : Option Closing) (h : ℕ) (due : Bool) (w w2 : ℕ) → w2 < w → debt_by Idle g c h due w2 + 1 ≤ debt_by Idle g c h due w
unfolding debt_by
debt_freed g c h due w w2 lt = omega (arith, lt)

-- blocks more that wait, and a transaction more
pub debt_more : (j : Job) (g : ℕ) (c : Option Closing) (h : ℕ) (due : Bool) (w : ℕ) → debt_by j g c h due (w + 1) ≤ debt_by j g c h due w + 1
unfolding debt_by
debt_more Broken g c h due w = omega arith
debt_more Idle g c h due w = omega arith
debt_more Body g c h due w = omega arith
debt_more BodyOut g c h due w = omega arith
debt_more Head g c h due w = omega arith
debt_more HeadOut g c h due w = omega arith
debt_more (Homes put) g c h due w = omega arith
debt_more HomesOut g c h due w = omega arith
debt_more Tail g c h due w = omega arith
debt_more TailOut g c h due w = omega arith
debt_more Leave g c h due w = omega arith
debt_more LeaveOut g c h due w = omega arith
debt_more Left g c h due w = omega arith

pub debt_act : (j : Job) (g g2 : ℕ) (c : Option Closing) (h : ℕ) (due : Bool) (w : ℕ) → debt_by j g2 c h due w ≤ debt_by j g c h due w + 1
unfolding debt_by
debt_act Broken g g2 c h due w = omega arith
debt_act Idle g g2 c h due w = omega (arith, flag_most (nat_lt 0 g2))
debt_act Body g g2 c h due w = omega (arith, flag_most (nat_lt 0 g2))
debt_act BodyOut g g2 c h due w = omega (arith, flag_most (nat_lt 0 g2))
debt_act Head g g2 c h due w = omega (arith, flag_most (nat_lt 0 g2))
debt_act HeadOut g g2 c h due w = omega (arith, flag_most (nat_lt 0 g2))
debt_act (Homes put) g g2 c h due w = omega (arith, flag_most (nat_lt 0 g2))
debt_act HomesOut g g2 c h due w = omega (arith, flag_most (nat_lt 0 g2))
debt_act Tail g g2 c h due w = omega (arith, flag_most (nat_lt 0 g2))
debt_act TailOut g g2 c h due w = omega (arith, flag_most (nat_lt 0 g2))
debt_act Leave g g2 c h due w = omega (arith, flag_most (nat_lt 0 g2))
debt_act LeaveOut g g2 c h due w = omega (arith, flag_most (nat_lt 0 g2))
debt_act Left g g2 c h due w = omega arith

-- ---- what a wish begins

-- neither bound rises, and the mode and the moment at which the history began are the same
pub record IsBegun (k k2 : Kernel) : Type 0 where
  pub owed : (w : ℕ) → kernel_owed k2 w ≤ kernel_owed k w
  pub debt : (due : Bool) (w : ℕ) → kernel_debt k2 due w ≤ kernel_debt k due w
  pub logging : k2.logging ≡ k.logging
  pub first : k2.first ≡ k.first

at_idle : (k : Kernel) (P : Job → Type 0) → k.job ≡ Idle → P Idle → P k.job
at_idle k P idle is = subst P (sym idle) is

pub raised_begins : (k k2 : Kernel) (committed : ℕ) → k2 ≡ record k { committed = committed; closing = committed } → IsBegun k k2
raised_begins k k2 committed is = subst (IsBegun k) (sym is) (record { owed = λ w. omega arith; debt = λ due w. omega arith; logging = refl; first = refl })

batch_owed_at : (k : Kernel) (w : ℕ) → 0 < length k.gathered → kernel_owed (batched k) w ≤ stage_owed k Idle w
unfolding owed_by log_owed
batch_owed_at k w some = omega (arith, batch_none, batch_some (length k.gathered) some)

batch_debt_at : (k : Kernel) (due : Bool) (w : ℕ) → 0 < length k.gathered → kernel_debt (batched k) due w ≤ stage_debt k Idle due w
unfolding debt_by
batch_debt_at k due w some = let one : nat_lt 0 (length k.gathered) ≡ true = grind (arith, nat_tests) in let is : flag (nat_lt 0 (length k.gathered)) ≡ 1 = ap flag one in omega (arith, is)

batch_begins : (k : Kernel) (ready : Option (List AfterImage)) → k.job ≡ Idle → 0 < length k.gathered → IsBegun k (record (batched k) { ready = ready })
batch_begins k ready idle some = record {
  owed = λ w. at_idle k (λ j. kernel_owed (batched k) w ≤ stage_owed k j w) idle (batch_owed_at k w some);
  debt = λ due w. at_idle k (λ j. kernel_debt (batched k) due w ≤ stage_debt k j due w) idle (batch_debt_at k due w some);
  logging = refl;
  first = refl;
}

empty_owed_at : (k : Kernel) (w : ℕ) → is_level k.log ≡ false → stage_owed k (homes_from k.homes) w ≤ stage_owed k Idle w
unfolding owed_by
empty_owed_at k w level = by_cond (λ j. owed_by k.log (length k.homes) (length k.gathered) j w ≤ stage_owed k Idle w) (0 == length k.homes) Tail (Homes 0)
    (λ none. omega (arith, log_not_level k.log (length k.homes) level)) (λ some. omega (arith, log_not_level k.log (length k.homes) level))

empty_debt_at : (k : Kernel) (due : Bool) (w : ℕ) → stage_debt k (homes_from k.homes) due w ≤ stage_debt k Idle due w
unfolding debt_by
empty_debt_at k due w = debt_most (homes_from k.homes) (length k.gathered) k.log.closing (length k.homes) due w

empty_begins : (k : Kernel) → k.job ≡ Idle → is_level k.log ≡ false → IsBegun k (emptying k)
empty_begins k idle level = record {
  owed = λ w. at_idle k (λ j. stage_owed k (homes_from k.homes) w ≤ stage_owed k j w) idle (empty_owed_at k w level);
  debt = λ due w. at_idle k (λ j. stage_debt k (homes_from k.homes) due w ≤ stage_debt k j due w) idle (empty_debt_at k due w);
  logging = refl;
  first = refl;
}

not_body : (homes : List AfterImage) → homes_from homes ≢ Body
not_body homes = by_cond (λ j. j ≢ Body) (0 == length homes) Tail (Homes 0) (λ none e. cc) (λ some e. cc)

second_of : (a b : Bool) → (a && b) ≡ true → b ≡ true
second_of true b is = is
second_of false b is = absurd cc

level_head : (log : LogView) → is_level log ≡ true → log.head ≤ 2 ^ 61
level_head log level = let lt : nat_lt log.head (2 ^ 61) ≡ true = second_of (log.tail == log.head) (nat_lt log.head (2 ^ 61)) level in grind (arith, nat_tests)

pub commit_begins : (k k2 : Kernel) → k.job ≡ Idle → BeginsCommit k k2 → (0 < length k.gathered → k.log.tail ≡ k.log.head → k.log.head ≤ 2 ^ 61 → k2.job ≡ Body) → IsBegun k k2
commit_begins k k2 idle begins closes = elim begins.is [
  | inl batch ↦ subst (IsBegun k) (sym batch) (batch_begins k k2.ready idle begins.some)
  | inr empty ↦ subst (IsBegun k) (sym empty) (by_test (is_level k.log) refl empty)
]
  where
    by_test : (t : Bool) → is_level k.log ≡ t → k2 ≡ emptying k → IsBegun k (emptying k)
    by_test true level empty = absurd (not_body k.homes (sym (ap (λ (x : Kernel). x.job) empty) ∙ closes begins.some (level_same k.log level) (level_head k.log level)))
    by_test false level empty = empty_begins k idle level

not_level : (log : LogView) → log.tail ≢ log.head → is_level log ≡ false
not_level log other = by_test (is_level log) refl
  where
    by_test : (t : Bool) → is_level log ≡ t → is_level log ≡ false
    by_test true level = absurd (other (level_same log level))
    by_test false level = level

emptying_begins : (k k2 : Kernel) → k.job ≡ Idle → k.log.tail ≢ k.log.head → k2 ≡ emptying (raised k) → IsBegun k k2
emptying_begins k k2 idle other is = subst (IsBegun k) (sym is) (let begun : IsBegun k (emptying k) = empty_begins k idle (not_level k.log other) in record { owed = begun.owed; debt = begun.debt; logging = refl; first = refl })

pub release_begins : (k k2 : Kernel) → k.job ≡ Idle → IsFew k → BeginsRelease k k2 → (0 < length k.gathered → k.log.tail ≡ k.log.head → k.log.head ≤ 2 ^ 61 → k2.job ≡ Body) → IsBegun k k2
release_begins k k2 idle few (inl commit) closes = commit_begins k k2 idle commit closes
release_begins k k2 idle few (inr empty) closes = emptying_begins k k2 idle (λ same. omega (arith, few, empty.1, same)) empty.0.is

leave_owed_at : (k : Kernel) (w : ℕ) → stage_owed k Leave w ≤ stage_owed k Idle w
unfolding owed_by
leave_owed_at k w = omega arith

leave_debt_at : (k : Kernel) (due : Bool) (w : ℕ) → stage_debt k Leave due w ≤ stage_debt k Idle due w
unfolding debt_by
leave_debt_at k due w = omega arith

leaving_begins : (k : Kernel) → k.job ≡ Idle → IsBegun k (record (raised k) { job = Leave })
leaving_begins k idle = record {
  owed = λ w. at_idle k (λ j. stage_owed k Leave w ≤ stage_owed k j w) idle (leave_owed_at k w);
  debt = λ due w. at_idle k (λ j. stage_debt k Leave due w ≤ stage_debt k j due w) idle (leave_debt_at k due w);
  logging = refl;
  first = refl;
}

pub clean_begins : (k k2 : Kernel) → k.job ≡ Idle → BeginsClean k k2 → (0 < length k.gathered → k.log.tail ≡ k.log.head → k.log.head ≤ 2 ^ 61 → k2.job ≡ Body) → IsBegun k k2
clean_begins k k2 idle (inl commit) closes = commit_begins k k2 idle commit closes
clean_begins k k2 idle (inr (inl empty)) closes = emptying_begins k k2 idle empty.1 empty.0.is
clean_begins k k2 idle (inr (inr leave)) closes = subst (IsBegun k) (sym leave.is) (leaving_begins k idle)

-- ---- jobs

pub works_at : (j : Job) → j ≢ Idle → j ≢ LeaveOut → j ≢ Left → j ≢ Broken → has_stage j ≡ true
works_at Idle idle out left broken = absurd (idle refl)
works_at LeaveOut idle out left broken = absurd (out refl)
works_at Left idle out left broken = absurd (left refl)
works_at Broken idle out left broken = absurd (broken refl)
works_at Body idle out left broken = refl
works_at BodyOut idle out left broken = refl
works_at Head idle out left broken = refl
works_at HeadOut idle out left broken = refl
works_at (Homes put) idle out left broken = refl
works_at HomesOut idle out left broken = refl
works_at Tail idle out left broken = refl
works_at TailOut idle out left broken = refl
works_at Leave idle out left broken = refl

-- nothing is to be committed while the file system is left
pub busy_committed : (k : Kernel) (j : Job) → JobFits j k → IsBusy j → k.committed ≡ length k.history.items
busy_committed k Leave fits busy = fits.2
busy_committed k LeaveOut fits busy = fits.2
busy_committed k Idle fits busy = absurd busy
busy_committed k Body fits busy = absurd busy
busy_committed k BodyOut fits busy = absurd busy
busy_committed k Head fits busy = absurd busy
busy_committed k HeadOut fits busy = absurd busy
busy_committed k (Homes put) fits busy = absurd busy
busy_committed k HomesOut fits busy = absurd busy
busy_committed k Tail fits busy = absurd busy
busy_committed k TailOut fits busy = absurd busy
busy_committed k Left fits busy = absurd busy
busy_committed k Broken fits busy = absurd busy

-- what leaves the file system clean has a stage
pub clean_job : (homes : List AfterImage) (j : Job) → (j ≡ Body) ⊎ ((j ≡ homes_from homes) ⊎ (j ≡ Leave)) → (j ≢ Idle) × (j ≢ LeaveOut)
clean_job homes j (inl body) = subst (λ (x : Job). (x ≢ Idle) × (x ≢ LeaveOut)) (sym body) ((λ e. cc), (λ e. cc))
clean_job homes j (inr (inl from)) = subst (λ (x : Job). (x ≢ Idle) × (x ≢ LeaveOut)) (sym from)
    (by_cond (λ x. (x ≢ Idle) × (x ≢ LeaveOut)) (0 == length homes) Tail (Homes 0) (λ none. ((λ e. cc), (λ e. cc))) (λ some. ((λ e. cc), (λ e. cc))))
clean_job homes j (inr (inr leave)) = subst (λ (x : Job). (x ≢ Idle) × (x ≢ LeaveOut)) (sym leave) ((λ e. cc), (λ e. cc))

-- where a wish is answered so
pub commit_answered : (k k2 : Kernel) (result : Bool) → k.job ≡ Idle → (result ≡ true → k2 ≡ record k { committed = k2.committed; closing = k2.committed }) → (result ≡ false → BeginsCommit k k2)
    → (0 < length k.gathered → k.log.tail ≡ k.log.head → k.log.head ≤ 2 ^ 61 → k2.job ≡ Body) → IsBegun k k2
commit_answered k k2 true idle same begins closes = raised_begins k k2 k2.committed (same refl)
commit_answered k k2 false idle same begins closes = commit_begins k k2 idle (begins refl) closes

few_at : (k : Kernel) → k.job ≡ Idle → JobFits k.job k → IsFew k
few_at k idle fits = (subst (λ (j : Job). JobFits j k) idle fits).3

pub release_answered : (k k2 : Kernel) (result : Bool) → k.job ≡ Idle → JobFits k.job k → (result ≡ true → k2 ≡ raised k) → (result ≡ false → BeginsRelease k k2)
    → (0 < length k.gathered → k.log.tail ≡ k.log.head → k.log.head ≤ 2 ^ 61 → k2.job ≡ Body) → IsBegun k k2
release_answered k k2 true idle fits same begins closes = raised_begins k k2 (length k.history.items) (same refl)
release_answered k k2 false idle fits same begins closes = release_begins k k2 idle (few_at k idle fits) (begins refl) closes
