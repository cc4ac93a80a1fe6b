-- A stage is at most eight operations.
use Rattle.std.proofs.Common.{◌≡◌, ◌⊎◌, ℕ, suc, false, ◌+◌, ◌-◌, ◌<◌, ◌≤◌, List, [], ◌∷◌, length, take, drop, Option, Some, None, refl, ap, arith, inl, inr, length-append, length-take, length-drop}
use Rattle.std.specs.Prelude.{min, slice_range, IsSome, IfSome}
use Rattle.std.proofs.lemmas.Bool.{cases_lt, eqb-false}
use Rattle.vx_dev.specs.declared.device.Operation.{Operation}
use Rattle.vx_dev.specs.Tape.{State as Device, Failed, tried}
use Rattle.vx_dev.specs.Runs.{Ran, BrokeOff, puts}
use Rattle.vx_layout.specs.LogForms.{AfterImage, body_of, log_length}
use Rattle.vx_log.specs.Logs.{IsClosing, is_body_out, stage_end, stage_writes}
use Rattle.vx_log.specs.Writes.{log_writes}
use Rattle.vx_log.specs.declared.log.Closing.{Closing}

length-puts : (writes : List (ℕ × List ℕ)) → length (puts writes) ≡ length writes
length-puts [] = refl
length-puts (w ∷ writes) = ap suc (length-puts writes)

length-log_writes : (n position : ℕ) (xs : List (List ℕ)) → length (log_writes n position xs) ≡ length xs
length-log_writes n position [] = refl
length-log_writes n position (x ∷ xs) = ap suc (length-log_writes n (position + 1) xs)

part_few : {A : Type 0} (xs : List A) (from end : ℕ) → end ≤ from + 8 → length (slice_range xs from end) ≤ 8
part_few xs from end le = omega (arith, le, length-take (end - from) (drop from xs))

pub homes_few : (homes : List AfterImage) (put : ℕ) → length (slice_range homes put (min (put + 8) (length homes))) ≤ 8
homes_few homes put = part_few homes put (min (put + 8) (length homes)) (omega arith)

pub body_few : (n head : ℕ) (closing : Option Closing) → length (stage_writes n head closing) ≤ 8
body_few n head None = omega arith
body_few n head (Some c) = omega (arith, length-log_writes n (head + c.written) (slice_range (body_of head c.batch) c.written (stage_end c)), part_few (body_of head c.batch) c.written (stage_end c) (omega arith))

pub ran_few : (writes : List (ℕ × List ℕ)) (a b : Device) → length writes ≤ 8 → Ran (puts writes) a b → b.count ≤ a.count + 8
ran_few writes a b few ran = omega (arith, few, ran.count, length-puts writes)

pub broke_few : (writes : List (ℕ × List ℕ)) (a b : Device) → length writes ≤ 8 → BrokeOff writes a b → b.count ≤ a.count + 8
broke_few writes a b few broke =
    let front : List Operation = take broke.k (puts writes) in
    let last : Operation = tried broke.failed.0 broke.failed.1 in
    elim broke.ran [
      | inl ran ↦ omega (arith, few, broke.within, ran.count, length-append front (last ∷ []), length-take broke.k (puts writes))
      | inr ran ↦ omega (arith, few, broke.within, ran.count, length-take broke.k (puts writes))
    ]

pub failed_few : (s : ℕ) (bytes : List ℕ) (a b : Device) → Failed s bytes a b → b.count ≤ a.count + 8
failed_few s bytes a b failed = elim failed.did [
  | inl done ↦ omega (arith, done.count)
  | inr nothing ↦ omega (arith, nothing.count)
]

-- ... and none less

pub ran_on : (writes : List (ℕ × List ℕ)) (a b : Device) → Ran (puts writes) a b → a.count ≤ b.count
ran_on writes a b ran = omega (arith, ran.count)

-- ---- a stage that has something to write does an operation

pub ran_works : (writes : List (ℕ × List ℕ)) (a b : Device) → 0 < length writes → Ran (puts writes) a b → a.count < b.count
ran_works writes a b some ran = omega (arith, some, ran.count, length-puts writes)

part_some : {A : Type 0} (xs : List A) (from end : ℕ) → from < end → end ≤ length xs → 0 < length (slice_range xs from end)
part_some xs from end lt le = omega (arith, lt, le, length-take (end - from) (drop from xs), length-drop from xs)

pub homes_some : (homes : List AfterImage) (put : ℕ) → put < length homes → 0 < length (slice_range homes put (min (put + 8) (length homes)))
homes_some homes put lt = part_some homes put (min (put + 8) (length homes)) (omega (arith, lt)) (omega arith)

pub within_of : (n tail head : ℕ) (closing : Option Closing) → IfSome closing (IsClosing n tail head) → IfSome closing (λ c. c.written ≤ log_length (length c.batch))
within_of n tail head None is = tt
within_of n tail head (Some c) is = is.written

pub body_some : (n head : ℕ) (closing : Option Closing) → ((position : ℕ) (batch : List AfterImage) → length (body_of position batch) ≡ log_length (length batch))
    → IsSome closing → IfSome closing (λ c. c.written ≤ log_length (length c.batch)) → is_body_out closing ≡ false → 0 < length (stage_writes n head closing)
body_some n head None lengths there within left = absurd cc
body_some n head (Some c) lengths there within left = omega (
  arith,
  length-log_writes n (head + c.written) (slice_range (body_of head c.batch) c.written (stage_end c)),
  part_some (body_of head c.batch) c.written (stage_end c) (omega (arith, not_out (cases_lt c.written (log_length (length c.batch))))) (omega (arith, lengths head c.batch)),
)
  where
    not_out : (c.written < log_length (length c.batch)) ⊎ (log_length (length c.batch) ≤ c.written) → c.written < log_length (length c.batch)
    not_out (inl lt) = lt
    not_out (inr ge) = absurd (eqb-false c.written (log_length (length c.batch)) left (omega (arith, within, ge)))
