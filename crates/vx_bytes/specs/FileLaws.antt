-- Which events of the laws the calls on files, settles and the end of a file are, and what they give up.
use Rattle.std.specs.Prelude.{◌≡◌, ◌⊎◌, ◌+◌, ◌<◌, ◌≤◌, max, ℕ, List, [], length, Some, None, Ok}
use Rattle.std.specs.FinMap as map
use Rattle.vx_space.specs.Placing.{Filling}
use Rattle.vx_model.specs.Edits.{drop_node, set_node}
use Rattle.vx_model.specs.LaidOut.{IsLaidOut}
use Rattle.vx_model.specs.Layout.{space_at}
use Rattle.vx_model.specs.State.{State}
use Rattle.vx_model.specs.Tree.{File, IsFile}
use Rattle.vx_model.specs.Bytes.{cut, resized, written}
use Rattle.vx_model.specs.Opened.{unreserved}
use Rattle.vx_model.specs.Settling.{settle}
use Rattle.vx_bytes.specs.BlockUse.{GivesUp}
use Rattle.vx_bytes.specs.Events.{IsUntouched, LeavesOthers, IsLonger, IsMarkedChanged, IsShorter, IsEmptied, IsSettledNow}
use Rattle.vx_bytes.specs.Promises.{file_in}
use Rattle.vx_bytes.specs.Standings.{Mark}

pub record FileLaws : Type 0 where
  -- where a file's node and space are as they were, it is untouched: a read, an open, a call of names
  pub same : (s new : State) (n : ℕ) → map.get new.tree.nodes n ≡ map.get s.tree.nodes n → space_at new.layout n ≡ space_at s.layout n → IsUntouched s new n
  -- and where no page on the device goes, blocks may wait for the event alone
  pub same_gives : (s new : State) (place : ℕ) → ((n : ℕ) → (space_at new.layout n).settled ≡ (space_at s.layout n).settled) → ((b : ℕ) → (new.layout.pending b ≡ s.layout.pending b) ⊎ (new.layout.pending b ≡ Some place)) → GivesUp s new place
  -- what a close gives up are reserved pages, which hold no byte
  pub closes : (s : State) (place ino : ℕ) (f : File) (reserve from n : ℕ) → IsLaidOut s → file_in s ino ≡ Ok f → IsUntouched s (unreserved s place ino f reserve from) n
  pub close_gives : (s : State) (place ino : ℕ) (f : File) (reserve from : ℕ) → GivesUp s (unreserved s place ino f reserve from) place
  -- a write, where what it writes is marked as changed, and where the file grows the rest of its last page
  pub writes : (s : State) (ino offset : ℕ) (new : List ℕ) (f : File) (g : Filling) (before after : ℕ → Mark) → IsLaidOut s → file_in s ino ≡ Ok f
      → IsMarkedChanged s (written s ino offset new f g).state ino offset (length new) (length f.bytes) (max (length f.bytes) (offset + length new)) before after → IsLonger s (written s ino offset new f g).state ino before after
  pub write_others : (s : State) (ino offset : ℕ) (new : List ℕ) (f : File) (g : Filling) → LeavesOthers s (written s ino offset new f g).state ino
  pub write_gives : (s : State) (place ino offset : ℕ) (new : List ℕ) (f : File) (g : Filling) → GivesUp s (written s ino offset new f g).state place
  -- a truncate that is no smaller
  pub extends : (s : State) (ino size : ℕ) (f : File) (before after : ℕ → Mark) → IsLaidOut s → file_in s ino ≡ Ok f → length f.bytes ≤ size
      → IsMarkedChanged s (set_node s ino (IsFile (record f { bytes = resized size f.bytes }))) ino size 0 (length f.bytes) size before after → IsLonger s (set_node s ino (IsFile (record f { bytes = resized size f.bytes }))) ino before after
  pub extend_others : (s : State) (ino size : ℕ) (f : File) → LeavesOthers s (set_node s ino (IsFile (record f { bytes = resized size f.bytes }))) ino
  pub extend_gives : (s : State) (place ino size : ℕ) (f : File) → GivesUp s (set_node s ino (IsFile (record f { bytes = resized size f.bytes }))) place
  -- a smaller truncate
  pub cuts : (s : State) (place ino size : ℕ) (f : File) → file_in s ino ≡ Ok f → size < length f.bytes → IsShorter s (cut s place ino size f) ino size
  pub cut_others : (s : State) (place ino size : ℕ) (f : File) → LeavesOthers s (cut s place ino size f) ino
  pub cut_gives : (s : State) (place ino size : ℕ) (f : File) → GivesUp s (cut s place ino size f) place
  -- a settle
  pub settles : (s : State) (place ino : ℕ) (f : File) → IsLaidOut s → file_in s ino ≡ Ok f → (c : IsSettledNow s (settle s place ino) ino) × (c.was ≡ f)
  pub settle_others : (s : State) (place ino : ℕ) (f : File) → file_in s ino ≡ Ok f → LeavesOthers s (settle s place ino) ino
  pub settle_gives : (s : State) (place ino : ℕ) (f : File) → IsLaidOut s → file_in s ino ≡ Ok f → GivesUp s (settle s place ino) place
  -- a file without bytes comes at an unused inode
  pub comes : (s new : State) (ino : ℕ) (f : File) → IsLaidOut s → map.get s.tree.nodes ino ≡ None → map.get new.tree.nodes ino ≡ Some (IsFile f) → f.bytes ≡ [] → space_at new.layout ino ≡ space_at s.layout ino → IsEmptied s new ino
  -- the file goes, with its last name or its last close
  pub drop : (s : State) (place ino : ℕ) (f : File) → file_in s ino ≡ Ok f → IsEmptied s (drop_node s place ino) ino
  pub drop_others : (s : State) (place ino : ℕ) → LeavesOthers s (drop_node s place ino) ino
  pub drop_gives : (s : State) (place ino : ℕ) → GivesUp s (drop_node s place ino) place
