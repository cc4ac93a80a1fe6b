-- The calls on files alone.
use Rattle.std.proofs.Common.{◌≡◌, ℕ, true, Option, Some, None, refl}
use Rattle.vx_base.specs.declared.call.Call.{Call}
use Rattle.vx_base.specs.declared.call.Call.TheVariants as call
use Rattle.vx_model.specs.State.{State, Done, settled}
use Rattle.vx_model.specs.Opened.{open_path, close}
use Rattle.vx_model.specs.Bytes.{read, write, truncate, fsync}
use Rattle.vx_model.specs.Step.{is_on_file, step}

-- what the event at this place of the history leaves and answers, where it is a session's call on a file; none for every other call
abbrev pub file_step : State → (place session : ℕ) → Call → Option Done
file_step s place session (call.OpenFile handle path flag) = Some (settled s (open_path s session handle path flag))
file_step s place session (call.Close handle) = Some (settled s (close s place session handle))
file_step s place session (call.Read handle offset count) = Some (settled s (read s session handle offset count))
file_step s place session (call.Write handle offset payload) = Some (settled s (write s session handle offset payload))
file_step s place session (call.Truncate handle size) = Some (settled s (truncate s place session handle size))
file_step s place session (call.Fsync handle) = Some (settled s (fsync s session handle))
file_step s place session _ = None

pub on_file : (s : State) (place session : ℕ) (c : Call) → is_on_file c ≡ true → step s place session c ≡ file_step s place session c
on_file s place session (call.OpenFile handle path flag) is = refl
on_file s place session (call.Close handle) is = refl
on_file s place session (call.Read handle offset count) is = refl
on_file s place session (call.Write handle offset payload) is = refl
on_file s place session (call.Truncate handle size) is = refl
on_file s place session (call.Fsync handle) is = refl
on_file s place session _ is = absurd cc
