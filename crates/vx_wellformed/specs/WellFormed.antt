-- States whose images pass the image check.
use Rattle.std.specs.Prelude.{◌≡◌, ℕ, ◌≤◌, true, List, [], Some}
use Rattle.std.specs.List.{AllByRecursion}
use Rattle.std.specs.FinMap as map
use Rattle.vx_base.specs.declared.call.Call.{Call}
use Rattle.vx_base.specs.declared.call.Call.TheVariants as call
use Rattle.vx_base.specs.declared.event.Event.{Event}
use Rattle.vx_base.specs.declared.event.Event.TheVariants as event
use Rattle.vx_layout.specs.Places.{sectors_of}
use Rattle.vx_layout.specs.Supers.{IsSuper, volume_of}
use Rattle.vx_layout.specs.declared.superblock.Super.{Super}
use Rattle.vx_sound.specs.Facts.{AreNamesRight}
use Rattle.vx_model.specs.Tree.{File, IsFile}
use Rattle.vx_model.specs.State.{State, Done, fresh_of}
use Rattle.vx_model.specs.Settling.{settle}
use Rattle.vx_model.specs.Step.{is_of_names, step}
use Rattle.vx_model.specs.Layout.{Layout, blocks_at}
use Rattle.vx_model.specs.LaidOut.{IsLaidOut, IsPlain, entries_of}
use Rattle.vx_model.specs.Legal.{World, with_released, after, after_all}
use Rattle.vx_model.specs.NameLaws.{HasLinks, HasNoLoops}

-- each name in a directory's blocks is one that a path may have, and stands there once
abbrev pub HasNames : Layout → Type 0
HasNames l = (n : ℕ) → AreNamesRight [] (entries_of (blocks_at l n))

-- The state can be laid out on a device, its names fit its inodes, and no inode is below itself. Its files may have bytes, and
-- handles may be open.
pub record IsConsistent (s : State) : Type 0 where
  pub laid_out : IsLaidOut s
  pub names : HasNames s.layout
  pub links : HasLinks s
  pub no_loops : HasNoLoops s.tree.nodes

-- no file is without a name
abbrev pub AreNamed : State → Type 0
AreNamed s = (n : ℕ) (f : File) → map.get s.tree.nodes n ≡ Some (IsFile f) → 1 ≤ f.nlink

-- So it is, and no file has bytes.
pub record IsWellFormed (s : State) : Type 0 where
  pub laid_out : IsLaidOut s
  pub plain : IsPlain s
  pub names : HasNames s.layout
  pub links : HasLinks s
  pub no_loops : HasNoLoops s.tree.nodes

-- ---- calls

-- a mode that an inode can have
abbrev pub HasMode : Call → Type 0
HasMode (call.Create path mode) = mode ≤ 4095
HasMode (call.Mkdir path mode) = mode ≤ 4095
HasMode (call.Chmod path mode) = mode ≤ 4095
HasMode _ = Unit {0}

-- an event of a run in which no file is opened: its call is one of names, with a mode that an inode can have
abbrev pub HasModes : Event → Type 0
HasModes (event.Do at session line c reply) = (is_of_names c ≡ true) × HasMode c
HasModes (event.Settle at ino size) = ⊥
HasModes _ = Unit {0}

pub record WellFormedLaws : Type 0 where
  -- each call keeps a state consistent, whatever its files have
  pub consistent : (s : State) (place session : ℕ) (c : Call) (done : Done) → IsConsistent s → HasMode c → step s place session c ≡ Some done → IsConsistent done.state
  pub consistent_settled : (s : State) (place ino : ℕ) → IsConsistent s → IsConsistent (settle s place ino)
  pub consistent_released : (s : State) (upto : ℕ) → IsConsistent s → IsConsistent (with_released s upto)
  -- and so does an event that leaves a state known to be laid out, whatever mode it sets
  pub consistent_event : (w : World) (e : Event) → IsConsistent w.state → IsLaidOut (after w e).state → IsConsistent (after w e).state
  -- a new file system is well-formed
  pub fresh : (v : Super) (limit device_sectors : ℕ) → IsSuper v → limit ≤ 64 → sectors_of (volume_of v) ≤ device_sectors → IsWellFormed (fresh_of v limit device_sectors)
  -- each call of names keeps it so, whatever it answers
  pub of_names : (s : State) (place session : ℕ) (c : Call) (done : Done) → IsWellFormed s → is_of_names c ≡ true → HasMode c → step s place session c ≡ Some done → IsWellFormed done.state
  pub released : (s : State) (upto : ℕ) → IsWellFormed s → IsWellFormed (with_released s upto)
  -- and so does a history of such calls
  pub history : (w : World) (events : List Event) → IsWellFormed w.state → AllByRecursion HasModes events → IsWellFormed (after_all w events).state
