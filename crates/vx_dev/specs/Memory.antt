-- A disk in memory as a device, and which of its calls fail.
use Rattle.std.specs.Prelude.{ℕ, ◌||◌, ◌≡◌, Bool, List, [], length, nat_le, Some, Result, OnOk, OnErr, is_err}
use Rattle.vx_base.specs.Streams.{counted, is_told_to_fail}
use Rattle.vx_dev.specs.declared.memory.MemDisk.{MemDisk}
use Rattle.vx_dev.specs.Tape.{Tape, State}

-- what it tells
abbrev pub tape_of : MemDisk → Tape
tape_of d = record { start = d.start; ops = d.ops.items }

abbrev pub state_of : MemDisk → State
state_of d = record {
  size = length d.start;
  count = length d.ops.items;
  read_faults = d.read_faults;
  write_faults = d.write_faults;
  told = Some (tape_of d);
  doubt = [];
}

-- a disk with this image that has done nothing
abbrev pub new_state : List (List ℕ) → State
new_state image = record {
  size = length image;
  count = 0;
  read_faults = 0;
  write_faults = 0;
  told = Some (record { start = image; ops = [] });
  doubt = [];
}

-- The calls so far, writes and barriers together and reads apart, the numbers of those that are to fail, and the number
-- of operations that there is room for.
pub record Plan : Type 0 where
  pub calls : ℕ
  pub reads : ℕ
  pub fail_writes : List ℕ
  pub fail_reads : List ℕ
  pub room : ℕ

abbrev pub plan_of : MemDisk → Plan
plan_of d = record { calls = d.calls; reads = d.reads; fail_writes = d.fail_writes; fail_reads = d.fail_reads; room = d.room }

-- the plan after one more write or barrier, and after one more read
abbrev pub after_call : Plan → Plan
after_call p = record { calls = counted p.calls; reads = p.reads; fail_writes = p.fail_writes; fail_reads = p.fail_reads; room = p.room }

abbrev pub after_read : Plan → Plan
after_read p = record { calls = p.calls; reads = counted p.reads; fail_writes = p.fail_writes; fail_reads = p.fail_reads; room = p.room }

-- whether the next call is told to fail
abbrev pub is_call_told : MemDisk → Bool
is_call_told d = is_told_to_fail d.fail_writes (counted d.calls)

abbrev pub is_read_told : MemDisk → Bool
is_read_told d = is_told_to_fail d.fail_reads (counted d.reads)

-- no further operation has room
abbrev pub is_full : MemDisk → Bool
is_full d = nat_le d.room (length d.ops.items)

-- how a write or a barrier that is to be an operation ends: its call fails exactly where it is told to or the disk is
-- full, and that counts one fault
pub record CallEnds {E : Type 0} (old new : MemDisk) (result : Result (Unit {0}) E) : Type 0 where
  pub fails : is_err result ≡ (is_full old || is_call_told old)
  pub fault : OnErr result (new.write_faults ≡ counted old.write_faults)
  pub plan : plan_of new ≡ after_call (plan_of old)

pub record ReadEnds {E : Type 0} (old new : MemDisk) (result : Result (Unit {0}) E) : Type 0 where
  pub fails : is_err result ≡ is_read_told old
  pub fault : OnErr result (new.read_faults ≡ counted old.read_faults)
  pub fine : OnOk result (new.read_faults ≡ old.read_faults)
  pub plan : plan_of new ≡ after_read (plan_of old)
