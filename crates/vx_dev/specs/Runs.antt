-- Several operations in a row, on a device that is lent.
use Rattle.std.specs.Prelude.{◌≡◌, ◌⊎◌, ◌+◌, ◌<◌, ◌≤◌, ℕ, List, [], ◌∷◌, ◌++◌, length, take, get_or, option_map}
use Rattle.vx_dev.specs.declared.device.Operation.{Operation}
use Rattle.vx_dev.specs.declared.device.Operation.TheVariants.{Put}
use Rattle.vx_dev.specs.Tape.{Tape, State, tried}

-- the tape with these operations more
abbrev pub did_all : List Operation → Tape → Tape
did_all ops t = record { start = t.start; ops = t.ops ++ ops }

-- exactly these operations were done
pub record Ran (ops : List Operation) (old new : State) : Type 0 where
  pub told : new.told ≡ option_map (did_all ops) old.told
  pub count : new.count ≡ old.count + length ops
  pub size : new.size ≡ old.size

-- writes, each a sector and its bytes, as operations
abbrev pub puts : List (ℕ × List ℕ) → List Operation
puts [] = []
puts (w ∷ writes) = Put w.0 w.1 ∷ puts writes

-- The writes before number k were done, and then that one failed, which may be there or not.
pub record BrokeOff (writes : List (ℕ × List ℕ)) (old new : State) : Type 0 where
  pub k : ℕ
  pub within : k < length writes
  pub failed : ℕ × List ℕ
  pub failed_is : get_or writes k failed ≡ failed
  pub ran : Ran (take k (puts writes) ++ tried failed.0 failed.1 ∷ []) old new ⊎ Ran (take k (puts writes)) old new
  pub doubt : (new.doubt ≡ failed.0 ∷ old.doubt) ⊎ (new.doubt ≡ old.doubt)

-- operations may have been added; nothing else but the count of failed writes has changed
pub record Onward (old new : State) : Type 0 where
  pub size : new.size ≡ old.size
  pub later : old.count ≤ new.count
  pub reads : new.read_faults ≡ old.read_faults
  pub faults : old.write_faults ≤ new.write_faults
