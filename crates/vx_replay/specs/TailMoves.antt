-- The log's tail moves to its head.
use Rattle.std.specs.Prelude.{◌≡◌}
use Rattle.vx_layout.specs.LogForms.{LogState}
use Rattle.vx_log.specs.Logs.{LogView}

-- what the head sector says of the log
pub record IsReading (log : LogView) (r : LogState) : Type 0 where
  pub serial : r.serial ≡ log.serial
  pub tail : r.tail ≡ log.tail
  pub head : r.head ≡ log.head
