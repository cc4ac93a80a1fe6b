-- One sector more of a body, or one that fails.
use Rattle.std.proofs.Common.{◌≡◌, ◌+◌, ◌-◌, ◌≤◌, ◌<◌, ℕ, List, [], ◌∷◌, ◌++◌, length, take, drop, get_or, sym, ◌∙◌, ap, subst, arith, length-take, length-drop}
use Rattle.std.specs.Prelude.{slice_range, Result, Ok, Err, OnErr}
use Rattle.std.proofs.lemmas.List.{take-take, get_or-take, get_or-drop}
use Rattle.std.proofs.lemmas.List.Edits.{between_more}
use Rattle.vx_dev.specs.declared.device.Operation.{Operation}
use Rattle.vx_dev.specs.declared.device.Operation.TheVariants.{Put}
use Rattle.vx_dev.specs.Tape.{State, Did, Failed}
use Rattle.vx_layout.specs.LogForms.{log_at}
use Rattle.vx_dev.specs.Runs.{Ran, puts, BrokeOff}
use Rattle.vx_log.specs.Writes.{log_writes}
use Rattle.vx_dev.specs.RunLaws.{RunLaws}
use Rattle.vx_log.proofs.LogWrites.{log_writes-push, length-log_writes, take-log_writes, get_or-log_writes}

length-range : (from end : ℕ) (xs : List (List ℕ)) → from ≤ end → end ≤ length xs → length (slice_range xs from end) ≡ end - from
length-range from end xs le within = omega (arith, le, within, length-take (end - from) (drop from xs), length-drop from xs)

module _ (runs : RunLaws) (n head from i : ℕ) (body : List (List ℕ)) (x : List ℕ) (after : from ≤ i) (within : i < length body) (is : x ≡ get_or body i []) (at : ℕ) (at_is : at ≡ log_at n (head + i)) where
  -- the operation appends the next write of the range
  range_more : puts (log_writes n (head + from) (slice_range body from (i + 1))) ≡ puts (log_writes n (head + from) (slice_range body from i)) ++ Put (log_at n (head + i)) x ∷ []
  range_more =
      let before : List (List ℕ) = slice_range body from i in
      let place : head + from + length before ≡ head + i = omega (arith, after, length-range from i body after (omega (arith, within))) in
      ap (λ (xs : List (List ℕ)). puts (log_writes n (head + from) xs)) (between_more body from i [] after within)
      ∙ ap puts (log_writes-push n (head + from) before (get_or body i []))
      ∙ runs.push (log_writes n (head + from) before) (log_at n (head + from + length before), get_or body i [])
      ∙ ap (λ (p : ℕ). puts (log_writes n (head + from) before) ++ Put (log_at n p) (get_or body i []) ∷ []) place
      ∙ ap (λ (b : List ℕ). puts (log_writes n (head + from) before) ++ Put (log_at n (head + i)) b ∷ []) (sym is)

  pub stage_more : (old mid new : State) → Ran (puts (log_writes n (head + from) (slice_range body from i))) old mid → Did (Put at x) mid new → new.size ≡ mid.size
      → Ran (puts (log_writes n (head + from) (slice_range body from (i + 1)))) old new
  stage_more old mid new ran did size =
      subst (λ (ops : List Operation). Ran ops old new) (sym range_more) (runs.more (puts (log_writes n (head + from) (slice_range body from i))) (Put (log_at n (head + i)) x) old mid new ran (subst (λ (u : ℕ). Did (Put u x) mid new) at_is did) size)

  pub stage_failed : (end : ℕ) (old mid new : State) → i < end → end ≤ length body → Ran (puts (log_writes n (head + from) (slice_range body from i))) old mid → mid.doubt ≡ old.doubt
      → Failed at x mid new → new.size ≡ mid.size → BrokeOff (log_writes n (head + from) (slice_range body from end)) old new
  stage_failed end old mid new lt le ran certain failed size =
      let all : List (List ℕ) = slice_range body from end in
      let k : ℕ = i - from in
      let w : ℕ × List ℕ = (log_at n (head + i), x) in
      let short : k < length all = omega (arith, lt, after, length-range from end body (omega (arith, lt, after)) le) in
      let front : take k (log_writes n (head + from) all) ≡ log_writes n (head + from) (slice_range body from i) =
      take-log_writes k n (head + from) all ∙ ap (λ (xs : List (List ℕ)). log_writes n (head + from) xs) (take-take k (end - from) (drop from body) (omega (arith, lt))) in
      let place : head + from + k ≡ head + i = omega (arith, after) in
      let index : from + k ≡ i = omega (arith, after) in
      let bytes : get_or all k [] ≡ x = get_or-take (end - from) (drop from body) k [] (omega (arith, lt, after)) ∙ get_or-drop from body k [] ∙ ap (λ (j : ℕ). get_or body j []) index ∙ sym is in
      runs.broke (log_writes n (head + from) all) k w old mid new (omega (arith, short, length-log_writes n (head + from) all))
      (get_or-log_writes k n (head + from) all w short ∙ ap (λ (p : ℕ). (log_at n p, get_or all k [])) place ∙ ap (λ (b : List ℕ). (log_at n (head + i), b)) bytes)
      (subst (λ (ws : List (ℕ × List ℕ)). Ran (puts ws) old mid) (sym front) ran) certain (subst (λ (u : ℕ). Failed u x mid new) at_is failed) size

pub on_err_any : {T E X : Type 0} (r : Result T E) → X → OnErr r X
on_err_any (Ok v) x = tt
on_err_any (Err e) x = x
