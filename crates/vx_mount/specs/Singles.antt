-- A core of one session with one line, which the tests drive: nothing is done yet, or the line is answered, or the run is unmounted too.
use Rattle.std.specs.Prelude.{ℕ, Bool, true, false, List, [], ◌∷◌, Option, Some, None}
use Rattle.vx_base.specs.declared.call.Call.{Call}
use Rattle.vx_base.specs.declared.call.Call.TheVariants as call
use Rattle.vx_base.specs.declared.event.Event.{Event}
use Rattle.vx_base.specs.declared.event.Event.TheVariants as event
use Rattle.vx_base.specs.declared.mode.Logging.TheVariants as logging
use Rattle.vx_base.specs.declared.reply.Reply.TheVariants as say
use Rattle.vx_mount.specs.Views.{CoreView}

abbrev pub one_line : List (List Call)
one_line = (call.Tick ∷ []) ∷ []

abbrev pub events_of : (unmounted : Option Bool) → List Event
events_of None = []
events_of (Some false) = event.Do 0 0 1 call.Tick say.Fine ∷ event.Ret 0 0 say.Fine ∷ []
events_of (Some true) = event.Do 0 0 1 call.Tick say.Fine ∷ event.Ret 0 0 say.Fine ∷ event.Unmounted 0 ∷ []

abbrev pub view_of : (unmounted : Option Bool) → CoreView
view_of unmounted = record { lines = one_line; history = events_of unmounted; logging = logging.Log; count = 0; write_faults = 0; disabled = None; locks = [] }

abbrev pub work_of : (unmounted : Option Bool) → ℕ
work_of None = 2
work_of (Some false) = 1
work_of (Some true) = 0
