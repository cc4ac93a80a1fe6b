-- What a run comes to, before its output.
use Rattle.std.specs.Prelude.{◌<◌, ◌^◌, length}
use Rattle.vx_run.specs.declared.outcome.Outcome.{Outcome}
use Rattle.vx_run.specs.declared.outcome.Outcome.TheVariants.{Refused, Finished}
use Rattle.vx_run.specs.Ends.{End, refused, finished}

abbrev pub end_of : Outcome → End
end_of (Refused why) = refused why
end_of (Finished disabled history) = finished disabled history.items

abbrev pub HasShortHistory : Outcome → Type 0
HasShortHistory (Refused why) = Unit {0}
HasShortHistory (Finished disabled history) = length history.items < 2 ^ 32
