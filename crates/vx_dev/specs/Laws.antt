-- What an operation does to what a crash may leave. All above the devices rests on this alone.
use Rattle.std.specs.Prelude.{◌≡◌, ◌≢◌, ◌⊎◌, ◌<◌, ℕ, List}
use Rattle.vx_dev.specs.declared.device.Operation.TheVariants.{Put, Barrier}
use Rattle.vx_dev.specs.Tape.{Tape, did, upto, MayHold, now, Settles, Writes, tried, HasSectors, IsSector}

pub record TapeLaws : Type 0 where
  -- what is put is what a barrier leaves, and other sectors stay
  pub put_settles : (t : Tape) (s : ℕ) (bytes : List ℕ) → Settles (did (Put s bytes) t) s bytes
  pub put_elsewhere : (t : Tape) (u s : ℕ) (bytes x : List ℕ) → s ≢ u → Settles t s x → Settles (did (Put u bytes) t) s x
  pub barrier_settles : (t : Tape) (s : ℕ) (x : List ℕ) → Settles t s x → Settles (did Barrier t) s x
  -- a write, and one that failed, adds its bytes to what its sector may hold
  pub put_adds : (t : Tape) (u s : ℕ) (bytes x : List ℕ) → MayHold (did (Put u bytes) t) s x → MayHold t s x ⊎ ((s ≡ u) × (x ≡ bytes))
  pub failed_adds : (t : Tape) (u s : ℕ) (bytes x : List ℕ) → MayHold (did (tried u bytes) t) s x → MayHold t s x ⊎ ((s ≡ u) × (x ≡ bytes))
  pub put_writes : (u : ℕ) (bytes : List ℕ) → Writes (Put u bytes) u bytes
  pub failed_writes : (u : ℕ) (bytes : List ℕ) → Writes (tried u bytes) u bytes
  -- a barrier adds nothing, and leaves one value
  pub barrier_adds : (t : Tape) (s : ℕ) (x : List ℕ) → MayHold (did Barrier t) s x → MayHold t s x
  pub barrier_leaves_one : (t : Tape) (s : ℕ) (x : List ℕ) → MayHold (did Barrier t) s x → x ≡ now (did Barrier t) s
  pub barrier_keeps : (t : Tape) (s : ℕ) → now (did Barrier t) s ≡ now t s
  pub now_may : (t : Tape) (s : ℕ) → MayHold t s (now t s)
  -- whatever a sector of the device may hold has the bytes of a sector, at earlier moments too
  pub may_hold_sector : (t : Tape) (n s : ℕ) (x : List ℕ) → HasSectors n t → s < n → MayHold t s x → IsSector x
  pub earlier_sectors : (t : Tape) (n m : ℕ) → HasSectors n t → HasSectors n (upto m t)
