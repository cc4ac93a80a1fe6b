-- What each call does: one line for each.
use Rattle.std.specs.Prelude.{ℕ, Bool, true, false, Option, Some, None}
use Rattle.vx_base.specs.declared.call.Call.{Call}
use Rattle.vx_base.specs.declared.call.Call.TheVariants as call
use Rattle.vx_model.specs.State.{State, Done, settled}
use Rattle.vx_model.specs.Making.{create, mkdir}
use Rattle.vx_model.specs.Removing.{fine, unlink, rmdir}
use Rattle.vx_model.specs.Linking.{link}
use Rattle.vx_model.specs.Moving.{rename}
use Rattle.vx_model.specs.Naming.{list, stat, chmod}
use Rattle.vx_model.specs.Opened.{open_path, close}
use Rattle.vx_model.specs.Bytes.{read, write, truncate, fsync}

-- what the event at this place of the history leaves and answers, where it is a session's call; none for a call that is not built yet
abbrev pub step : State → ℕ → ℕ → Call → Option Done
step s place session (call.Create path mode) = Some (settled s (create s path mode))
step s place session (call.Mkdir path mode) = Some (settled s (mkdir s path mode))
step s place session (call.Unlink path) = Some (settled s (unlink s place path))
step s place session (call.Rmdir path) = Some (settled s (rmdir s place path))
step s place session (call.Link old new) = Some (settled s (link s old new))
step s place session (call.Rename old new) = Some (settled s (rename s place old new))
step s place session (call.Chmod path mode) = Some (settled s (chmod s path mode))
step s place session (call.Stat path) = Some (settled s (stat s path))
step s place session (call.List path) = Some (settled s (list s path))
step s place session (call.OpenFile handle path flag) = Some (settled s (open_path s session handle path flag))
step s place session (call.Close handle) = Some (settled s (close s place session handle))
step s place session (call.Read handle offset count) = Some (settled s (read s session handle offset count))
step s place session (call.Write handle offset payload) = Some (settled s (write s session handle offset payload))
step s place session (call.Truncate handle size) = Some (settled s (truncate s place session handle size))
step s place session (call.Fsync handle) = Some (settled s (fsync s session handle))
step s place session call.Sync = Some (fine s)
step s place session call.Tick = Some (fine s)
step s place session (call.After other lines) = Some (fine s)
step s place session call.Stop = Some (fine s)
step s place session _ = None

-- a call to the mount or to the run, which leaves the tree as it was
abbrev pub is_for_mount : Call → Bool
is_for_mount call.Sync = true
is_for_mount call.Tick = true
is_for_mount (call.After session lines) = true
is_for_mount call.Stop = true
is_for_mount _ = false

-- a call of names, or to the mount or the run: it opens no file and uses no handle
abbrev pub is_of_names : Call → Bool
is_of_names (call.Create path mode) = true
is_of_names (call.Mkdir path mode) = true
is_of_names (call.Unlink path) = true
is_of_names (call.Rmdir path) = true
is_of_names (call.Link old new) = true
is_of_names (call.Rename old new) = true
is_of_names (call.Chmod path mode) = true
is_of_names (call.Stat path) = true
is_of_names (call.List path) = true
is_of_names call.Sync = true
is_of_names call.Tick = true
is_of_names (call.After session lines) = true
is_of_names call.Stop = true
is_of_names _ = false

-- a call that opens a file, or uses one that is open
abbrev pub is_on_file : Call → Bool
is_on_file (call.OpenFile handle path flag) = true
is_on_file (call.Close handle) = true
is_on_file (call.Read handle offset count) = true
is_on_file (call.Write handle offset payload) = true
is_on_file (call.Truncate handle size) = true
is_on_file (call.Fsync handle) = true
is_on_file _ = false
