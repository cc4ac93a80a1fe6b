-- What operations on the device leave of what is held of every file.
use Rattle.std.specs.Prelude.{◌+◌, ◌*◌, ℕ, Bool, List, take}
use Rattle.std.specs.List.{AllByRecursion}
use Rattle.vx_base.specs.declared.event.Event.{Event}
use Rattle.vx_base.specs.declared.mode.Logging.{Logging}
use Rattle.vx_dev.specs.declared.device.Operation.{Operation}
use Rattle.vx_dev.specs.declared.device.Operation.TheVariants as operation
use Rattle.vx_dev.specs.Runs.{did_all}
use Rattle.vx_dev.specs.Tape.{Tape, did, tried}
use Rattle.vx_model.specs.Legal.{World}
use Rattle.vx_bytes.specs.BlockUse.{UsesBlocks}
use Rattle.vx_bytes.specs.Kept.{Progress, Sinces, HoldsFiles, IsApartFromFiles, MayPut, WritesNamed, marked, page_put, all_passed}
use Rattle.vx_bytes.specs.Standings.{Put, Changed}

pub record DeviceLaws : Type 0 where
  -- half a page is put to its sector; it is owed a barrier then
  pub put : (mode : Logging) (o : World) (h : List Event) (p : Progress) (since : Sinces) (t : Tape) (ino part sector : ℕ) (bytes : List ℕ) → UsesBlocks o h p.committed p.closing → MayPut o h p.committed ino part sector bytes
      → HoldsFiles mode o h p since t → HoldsFiles mode o h (marked ino part Put p) since (did (operation.Put sector bytes) t)
  -- the write of it failed, and may be there or not; it is to be put again
  pub failed : (mode : Logging) (o : World) (h : List Event) (p : Progress) (since : Sinces) (t : Tape) (ino part sector : ℕ) (bytes : List ℕ) → UsesBlocks o h p.committed p.closing → MayPut o h p.committed ino part sector bytes
      → HoldsFiles mode o h p since t → HoldsFiles mode o h (marked ino part Changed p) since (did (tried sector bytes) t)
  -- both halves of a page are put
  pub page : (mode : Logging) (o : World) (h : List Event) (p : Progress) (since : Sinces) (t : Tape) (ino page sector next : ℕ) (first second : List ℕ) → UsesBlocks o h p.committed p.closing → MayPut o h p.committed ino (2 * page) sector first → MayPut o h p.committed ino (2 * page + 1) next second
      → HoldsFiles mode o h p since t → HoldsFiles mode o h (page_put ino page p) since (did (operation.Put next second) (did (operation.Put sector first) t))
  -- a barrier makes stable what was put
  pub barrier : (mode : Logging) (o : World) (h : List Event) (p : Progress) (since : Sinces) (t : Tape) → HoldsFiles mode o h p since t → HoldsFiles mode o h (all_passed p) since (did operation.Barrier t)
  -- writes of sectors that are no file's, as those of the log, of homes and of the superblock, at each moment between two of them too
  pub named : (mode : Logging) (o : World) (h : List Event) (p : Progress) (since : Sinces) (t : Tape) (is_named : ℕ → Bool) (ops : List Operation) (j : ℕ) → IsApartFromFiles o h p.committed p.closing is_named → AllByRecursion (WritesNamed is_named) ops
      → HoldsFiles mode o h p since t → HoldsFiles mode o h p since (did_all (take j ops) t)
