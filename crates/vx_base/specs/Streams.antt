-- What is known of sources and sinks in memory.
use Rattle.std.specs.Prelude.{ℕ, ◌+◌, ◌-◌, ◌^◌, Bool, ◌||◌, nat_eq, nat_le, List, ◌++◌, length, drop, min}
use Rattle.std.specs.List.{list_any}

-- one more, where a counter stays at the last value of a u64
abbrev pub counted : ℕ → ℕ
counted n = min (n + 1) (2 ^ 64 - 1)

-- whether the call of this number, from 1, is one of those that are to fail
abbrev pub is_told_to_fail : List ℕ → ℕ → Bool
is_told_to_fail fail number = list_any (λ y. nat_eq y number) fail

pub record SourceView : Type 0 where
  pub left : List ℕ
  pub reads : ℕ
  pub fail : List ℕ
  pub faults : ℕ

-- whether the next read fails
abbrev pub fails_next_read : SourceView → Bool
fails_next_read s = is_told_to_fail s.fail (counted s.reads)

abbrev pub after_failed_read : SourceView → SourceView
after_failed_read s = record { left = s.left; reads = counted s.reads; fail = s.fail; faults = counted s.faults }

-- the source after a read of so many bytes
abbrev pub after_read : ℕ → SourceView → SourceView
after_read n s = record { left = drop n s.left; reads = counted s.reads; fail = s.fail; faults = s.faults }

pub record SinkView : Type 0 where
  pub taken : List ℕ
  pub room : ℕ
  pub writes : ℕ
  pub fail : List ℕ
  pub faults : ℕ

-- whether the next write fails: it is told to, or there is no room
abbrev pub fails_next_write : SinkView → Bool
fails_next_write s = nat_le s.room (length s.taken) || is_told_to_fail s.fail (counted s.writes)

abbrev pub after_failed_write : SinkView → SinkView
after_failed_write s = record { taken = s.taken; room = s.room; writes = counted s.writes; fail = s.fail; faults = counted s.faults }

-- the sink after a write that took these bytes
abbrev pub after_write : List ℕ → SinkView → SinkView
after_write bytes s = record { taken = s.taken ++ bytes; room = s.room; writes = counted s.writes; fail = s.fail; faults = s.faults }
