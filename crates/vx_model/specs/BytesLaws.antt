-- What calls on files do, in a user's words.
use Rattle.std.specs.Prelude.{◌≡◌, ◌≢◌, ◌⊎◌, ℕ, ◌+◌, ◌-◌, ◌≤◌, ◌<◌, min, max, List, length, get_or, Some, None, Ok}
use Rattle.std.specs.FinMap as map
use Rattle.vx_base.specs.declared.call.Call.TheVariants as call
use Rattle.vx_base.specs.declared.call.Flag.{Flag}
use Rattle.vx_base.specs.declared.call.Payload.{Payload}
use Rattle.vx_base.specs.declared.reply.Reply.TheVariants as say
use Rattle.vx_base.specs.Fits.{payload_len}
use Rattle.vx_model.specs.Tree.{File, IsFile, HandleKey, Tree}
use Rattle.vx_model.specs.Layout.{space_at}
use Rattle.vx_model.specs.State.{State, Done}
use Rattle.vx_model.specs.Walks.{inode_of}
use Rattle.vx_model.specs.LaidOut.{IsClosed, IsLaidOut}
use Rattle.vx_model.specs.Handles.{key_of}
use Rattle.vx_model.specs.Bytes.{payload_bytes}
use Rattle.vx_model.specs.Settling.{HoldsNone, settle}
use Rattle.vx_model.specs.Step.{step}

-- ---- one file

-- a session's handle is open on this file
pub record IsOpenOn (t : Tree) (session handle ino : ℕ) (f : File) : Type 0 where
  pub flag : Flag
  pub opened : map.get t.handles (key_of session handle) ≡ Some (record { ino = ino; flag = flag })
  pub there : map.get t.nodes ino ≡ Some (IsFile f)

-- the file has other bytes now or another reservation, and nothing else of the tree has changed
pub record IsFileChange (old new : Tree) (ino : ℕ) (was is : File) : Type 0 where
  pub there : map.get new.nodes ino ≡ Some (IsFile is)
  pub mode : is.mode ≡ was.mode
  pub links : is.nlink ≡ was.nlink
  pub fixed : is.attrs.fixed ≡ was.attrs.fixed
  pub flags : is.attrs.flags ≡ was.attrs.flags
  pub others : (n : ℕ) → n ≢ ino → map.get new.nodes n ≡ map.get old.nodes n
  pub handles : new.handles ≡ old.handles
  pub tunables : new.tunables ≡ old.tunables
  pub ticks : new.ticks ≡ old.ticks

-- ---- bytes

-- the bytes from an offset on, as many as were asked for where there are so many
pub record IsRead (offset count : ℕ) (bytes answer : List ℕ) : Type 0 where
  pub size : length answer ≡ min count (length bytes - offset)
  pub bytes_are : (i : ℕ) → i < length answer → get_or answer i 0 ≡ get_or bytes (offset + i) 0

-- The bytes of a range are new, those outside are as they were, and between the old end and the range are zeros.
pub record IsOverwritten (offset : ℕ) (new before after : List ℕ) : Type 0 where
  pub size : length after ≡ max (length before) (offset + length new)
  pub inside : (i : ℕ) → i < length new → get_or after (offset + i) 0 ≡ get_or new i 0
  pub below : (o : ℕ) → o < offset → o < length before → get_or after o 0 ≡ get_or before o 0
  pub between : (o : ℕ) → length before ≤ o → o < offset → get_or after o 0 ≡ 0
  pub above : (o : ℕ) → offset + length new ≤ o → o < length before → get_or after o 0 ≡ get_or before o 0

-- as many bytes as were asked for: the first ones as they were, and zeros behind the old end
pub record IsResized (size : ℕ) (before after : List ℕ) : Type 0 where
  pub size_is : length after ≡ size
  pub kept : (o : ℕ) → o < size → o < length before → get_or after o 0 ≡ get_or before o 0
  pub zeros : (o : ℕ) → length before ≤ o → o < size → get_or after o 0 ≡ 0

-- ---- handles

-- a handle that was not open is open on the file of a path, and nothing else of the tree has changed
pub record IsOpened (old new : Tree) (session handle : ℕ) (path : List ℕ) : Type 0 where
  pub ino : ℕ
  pub file : File
  pub named : inode_of old.nodes path ≡ Ok ino
  pub was_free : map.get old.handles (key_of session handle) ≡ None
  pub open_on : IsOpenOn new session handle ino file
  pub others : (key : HandleKey) → key ≢ key_of session handle → map.get new.handles key ≡ map.get old.handles key
  pub nodes : new.nodes ≡ old.nodes
  pub tunables : new.tunables ≡ old.tunables
  pub ticks : new.ticks ≡ old.ticks

-- A handle is no longer open. Its file has its bytes, mode and link number still, or it had no name, no other handle is open on it and
-- it is gone. No other file or directory has changed.
pub record IsClosedNow (old new : Tree) (session handle ino : ℕ) (f : File) : Type 0 where
  pub free : map.get new.handles (key_of session handle) ≡ None
  pub others : (key : HandleKey) → key ≢ key_of session handle → map.get new.handles key ≡ map.get old.handles key
  pub file : ((is : File) × (map.get new.nodes ino ≡ Some (IsFile is)) × (is.bytes ≡ f.bytes) × (is.mode ≡ f.mode) × (is.nlink ≡ f.nlink)) ⊎ ((map.get new.nodes ino ≡ None) × (f.nlink ≡ 0) × IsClosed new ino)
  pub nodes : (n : ℕ) → n ≢ ino → map.get new.nodes n ≡ map.get old.nodes n
  pub tunables : new.tunables ≡ old.tunables
  pub ticks : new.ticks ≡ old.ticks

pub record BytesLaws : Type 0 where
  pub read : (s : State) (place session handle offset count ino : ℕ) (f : File) (done : Done) → IsOpenOn s.tree session handle ino f → step s place session (call.Read handle offset count) ≡ Some done
      → (answer : List ℕ) × (done.reply ≡ say.Got answer) × IsRead offset count f.bytes answer × (done.state ≡ s)
  pub write : (s : State) (place session handle offset count ino : ℕ) (p : Payload) (f : File) (done : Done) → IsOpenOn s.tree session handle ino f → step s place session (call.Write handle offset p) ≡ Some done
      → done.reply ≡ say.Wrote count → (count ≡ payload_len p) × (is : File) × IsFileChange s.tree done.state.tree ino f is × (is.attrs ≡ f.attrs) × IsOverwritten offset (payload_bytes p) f.bytes is.bytes
  pub truncate : (s : State) (place session handle size ino : ℕ) (f : File) (done : Done) → IsOpenOn s.tree session handle ino f → step s place session (call.Truncate handle size) ≡ Some done
      → done.reply ≡ say.Fine → (is : File) × IsFileChange s.tree done.state.tree ino f is × (is.attrs.reserve ≤ f.attrs.reserve) × IsResized size f.bytes is.bytes
  pub fsync : (s : State) (place session handle : ℕ) (done : Done) → step s place session (call.Fsync handle) ≡ Some done → done.state ≡ s
  -- ---- handles
  pub opened : (s : State) (place session handle : ℕ) (path : List ℕ) (flag : Flag) (done : Done) → step s place session (call.OpenFile handle path flag) ≡ Some done → done.reply ≡ say.Fine
      → IsOpened s.tree done.state.tree session handle path
  pub closed : (s : State) (place session handle ino : ℕ) (f : File) (done : Done) → IsOpenOn s.tree session handle ino f → step s place session (call.Close handle) ≡ Some done
      → (done.reply ≡ say.Fine) × IsClosedNow s.tree done.state.tree session handle ino f
  -- ---- a settle is no call: names, attributes and bytes are as they were, and the device says all of the file then
  pub settled : (s : State) (place ino : ℕ) → (settle s place ino).tree ≡ s.tree
  pub settled_whole : (s : State) (place ino : ℕ) (f : File) → IsLaidOut s → map.get s.tree.nodes ino ≡ Some (IsFile f)
      → HoldsNone (settle s place ino).layout ino f × ((space_at (settle s place ino).layout ino).size ≡ length f.bytes)
