-- Which calls a line can ask for.
use Rattle.std.specs.Prelude.{◌≡◌, ℕ, ◌<◌, ◌≤◌, true}
use Rattle.vx_base.specs.declared.call.Call.{Call}
use Rattle.vx_base.specs.declared.call.Call.TheVariants as call
use Rattle.vx_base.specs.Fits.{fits}
use Rattle.vx_grammar.specs.declared.keywords.CommandName.{CommandName}
use Rattle.vx_grammar.specs.declared.keywords.CommandName.TheVariants as name
use Rattle.vx_grammar.specs.Keywords.{is_built}

-- the command that asks for a call
abbrev pub name_of : Call → CommandName
name_of (call.Create path mode) = name.Create
name_of (call.Mkdir path mode) = name.Mkdir
name_of (call.Chmod path mode) = name.Chmod
name_of (call.Unlink path) = name.Unlink
name_of (call.Rmdir path) = name.Rmdir
name_of (call.Stat path) = name.Stat
name_of (call.List path) = name.List
name_of (call.Link old new) = name.Link
name_of (call.Rename old new) = name.Rename
name_of (call.OpenFile handle path flag) = name.Open
name_of (call.Close handle) = name.Close
name_of (call.Fsync handle) = name.Fsync
name_of (call.Read handle offset len) = name.Read
name_of (call.Write handle offset payload) = name.Write
name_of (call.Truncate handle size) = name.Truncate
name_of call.Sync = name.Sync
name_of call.Tick = name.Tick
name_of call.Stop = name.Stop
name_of (call.After session lines) = name.After
name_of (call.Setext path attrs) = name.Setext
name_of (call.Getext path) = name.Getext
name_of (call.Tune tunable value) = name.Tune
name_of (call.Reorg path) = name.Fsadm
name_of (call.DirReorg path) = name.Fsadm
name_of (call.ExtReport path) = name.Fsadm
name_of (call.DirReport path) = name.Fsadm
name_of (call.Resize units) = name.Fsadm

-- each number is in its range: a wait is for one of so many sessions, and a read wants a byte or more
abbrev pub IsInRange : (sessions : ℕ) → Call → Type 0
IsInRange sessions (call.After session lines) = session < sessions
IsInRange sessions call.Stop = Unit {0}
IsInRange sessions (call.Read handle offset len) = (1 ≤ len) × (fits (call.Read handle offset len) ≡ true)
IsInRange sessions c = fits c ≡ true

-- a call that a line of a script of so many sessions can ask for
pub record IsScriptCall (sessions : ℕ) (c : Call) : Type 0 where
  pub built : is_built (name_of c) ≡ true
  pub range : IsInRange sessions c
