-- What each change keeps of a log.
use Rattle.std.proofs.Common.{◌≡◌, ◌⊎◌, ◌+◌, ◌*◌, ◌<◌, ◌≤◌, ℕ, zero, suc, List, [], length, refl, sym, ◌∙◌, subst, arith, Contains}
use Rattle.std.specs.Prelude.{filter, nat_le, Option, Some, None, IfSome, option_map, IsNone}
use Rattle.vx_layout.specs.LogForms.{AfterImage, log_length}
use Rattle.vx_log.specs.Logs.{LogView, AreStarts, IsLog, IsClosing, with_start}
use Rattle.vx_log.specs.declared.log.Closing.{Closing}
use Rattle.vx_log.proofs.Starts.{starts_long, starts_push, starts_advanced, boundary_above}

pub tail_below : (log : LogView) → IsLog log → log.tail ≤ log.head
tail_below log h = omega (arith, starts_long log.tail log.starts log.head h.starts)

-- there is room for the start of one batch more that has log sectors
pub starts_room : (log : LogView) (c : Closing) → IsLog log → log.closing ≡ Some c → 0 < log_length (length c.batch) → 2 * length log.starts + 2 ≤ log.sectors
starts_room log c h is some =
    let closing : IsClosing log.sectors log.tail log.head c = subst (λ (o : Option Closing). IfSome o (IsClosing log.sectors log.tail log.head)) is h.closing in
    omega (arith, some, closing.room, starts_long log.tail log.starts log.head h.starts)

-- a batch has no log sectors or two at least
two_at_least : (m : ℕ) → 0 < log_length m → 2 ≤ log_length m
two_at_least m some = omega (arith, some)

-- batches fill the log with one more
starts_with : (tail : ℕ) (starts : List ℕ) (head k : ℕ) → AreStarts tail starts head → (0 < k → 2 ≤ k) → AreStarts tail (with_start starts head k) (head + k)
starts_with tail starts head zero h two = let same : head ≡ head + 0 = omega arith in subst (AreStarts tail starts) same h
starts_with tail starts head (suc k) h two = starts_push tail starts head (head + suc k) h (omega (arith, two (omega arith)))

pub opened_log : (log new : LogView) (c : Closing) → IsLog log → log.closing ≡ Some c → new.sectors ≡ log.sectors → new.tail ≡ log.tail → new.head ≡ log.head + log_length (length c.batch) → new.starts ≡ with_start log.starts log.head (log_length (length c.batch)) → new.closing ≡ None → IsLog new
opened_log log new c h is sectors tail head starts closing =
    let old : IsClosing log.sectors log.tail log.head c = subst (λ (o : Option Closing). IfSome o (IsClosing log.sectors log.tail log.head)) is h.closing in
    record {
      small = omega (arith, h.small, sectors);
      large = omega (arith, h.large, sectors);
      starts = rw (tail, head, starts) (starts_with log.tail log.starts log.head (log_length (length c.batch)) h.starts (λ some. two_at_least (length c.batch) some));
      fits = omega (arith, old.room, sectors, tail, head);
      limit = omega (arith, old.limit, head);
      closing = subst (λ (o : Option Closing). IfSome o (IsClosing new.sectors new.tail new.head)) (sym closing) tt;
    }

none_is : (o : Option Closing) → IsNone o → o ≡ None
none_is None h = refl
none_is (Some c) h = absurd cc

pub advanced_log : (log new : LogView) (to : ℕ) → IsLog log → IsNone log.closing → (to ≡ log.head) ⊎ Contains log.starts to → new.sectors ≡ log.sectors → new.tail ≡ to → new.head ≡ log.head → new.starts ≡ filter (λ (s : ℕ). nat_le to s) log.starts → new.closing ≡ log.closing → IsLog new
advanced_log log new to h free at sectors tail head starts closing =
    let from : log.tail ≤ to = omega (arith, boundary_above log.tail log.starts log.head to h.starts at) in
    record {
      small = omega (arith, h.small, sectors);
      large = omega (arith, h.large, sectors);
      starts = rw (tail, head, starts) (starts_advanced log.tail log.starts log.head to h.starts at);
      fits = omega (arith, h.fits, sectors, tail, head, from);
      limit = omega (arith, h.limit, head);
      closing = subst (λ (o : Option Closing). IfSome o (IsClosing new.sectors new.tail new.head)) (sym (closing ∙ none_is log.closing free)) tt;
    }

abbrev emptied_of : Option Closing → Option (List AfterImage)
emptied_of o = option_map (λ _. []) o

emptied_of_is : (o : Option Closing) → IfSome (emptied_of o) (λ b. b ≡ [])
emptied_of_is None = tt
emptied_of_is (Some c) = refl

-- an emptied batch has no sector
pub emptied_is : (o : Option Closing) (spare : Option (List AfterImage)) → spare ≡ option_map (λ _. []) o → IfSome spare (λ b. b ≡ [])
emptied_is o spare is = subst (λ (s : Option (List AfterImage)). IfSome s (λ b. b ≡ [])) (sym is) (emptied_of_is o)
