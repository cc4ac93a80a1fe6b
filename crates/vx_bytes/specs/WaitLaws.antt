-- A call that waits for its flush to be committed, from one turn to the next.
use Rattle.std.specs.Prelude.{◌≡◌, ◌<◌, ◌+◌, List, [], ◌∷◌, ◌++◌, length}
use Rattle.vx_base.specs.declared.event.Event.{Event}
use Rattle.vx_base.specs.declared.mode.Logging.{Logging}
use Rattle.vx_model.specs.Legal.{World}
use Rattle.vx_bytes.specs.Kept.{Since, SinceRises, Sinces, Serials, Wait, IsFlushed, IsWaiting}

pub record WaitLaws : Type 0 where
  -- its flush is over: what it needs is in the batch that is being gathered, or on the device since it began
  pub begins : (mode : Logging) (o : World) (h : List Event) (since : Sinces) (s : Serials) (w : Wait) → w.place < length h → w.serial ≡ s.gathering → s.closing < s.gathering → s.committed < s.gathering → IsFlushed mode o h w.place since.present → IsWaiting mode o h since s w
  -- an event, by which files may count from later
  pub event : (mode : Logging) (o : World) (h : List Event) (e : Event) (since : Sinces) (present : Since) (s : Serials) (w : Wait) → SinceRises since.present present → IsWaiting mode o h since s w → IsWaiting mode o (h ++ e ∷ []) (record since { present = present }) s w
  -- the batch closes, and the next one is gathered
  pub close : (mode : Logging) (o : World) (h : List Event) (since : Sinces) (s : Serials) (w : Wait) → IsWaiting mode o h since s w
      → IsWaiting mode o h (record since { closing = since.present }) (record { committed = s.committed; closing = s.gathering; gathering = s.gathering + 1 }) w
  -- it is committed
  pub commit : (mode : Logging) (o : World) (h : List Event) (since : Sinces) (s : Serials) (w : Wait) → IsWaiting mode o h since s w → IsWaiting mode o h (record since { committed = since.closing }) (record s { committed = s.closing }) w
