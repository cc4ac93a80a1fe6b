-- What commits leave of what is held of every file, and a flush with nothing to do.
use Rattle.std.specs.Prelude.{ℕ, List, length}
use Rattle.vx_base.specs.declared.event.Event.{Event}
use Rattle.vx_base.specs.declared.mode.Logging.{Logging}
use Rattle.vx_dev.specs.Tape.{Tape}
use Rattle.vx_model.specs.Legal.{World}
use Rattle.vx_bytes.specs.Histories.{present}
use Rattle.vx_bytes.specs.Kept.{Progress, Sinces, HoldsFiles, IsStableNow, counted_from}

pub record PrefixLaws : Type 0 where
  -- a batch closes: the present state is the closing one
  pub close : (mode : Logging) (o : World) (h : List Event) (p : Progress) (since : Sinces) (t : Tape) → HoldsFiles mode o h p since t → HoldsFiles mode o h (record p { closing = length h }) (record since { closing = since.present }) t
  -- the barrier behind its head sector has passed: the closing state is the committed one
  pub commit : (mode : Logging) (o : World) (h : List Event) (p : Progress) (since : Sinces) (t : Tape) → HoldsFiles mode o h p since t → HoldsFiles mode o h (record p { committed = p.closing }) (record since { committed = since.closing }) t
  -- a file that is stable as it is counts from now
  pub renewed : (mode : Logging) (o : World) (h : List Event) (p : Progress) (since : Sinces) (t : Tape) (ino : ℕ) → IsStableNow (present o h) (p.marks ino) ino
      → HoldsFiles mode o h p since t → HoldsFiles mode o h p (record since { present = counted_from ino (length h) since.present }) t
