-- Open handles by session and handle.
use Rattle.std.specs.Prelude.{◌≡◌, ℕ, ◌+◌, ◌≤◌, Bool, ◌==◌, if◌then◌else◌, List, [], ◌∷◌, count_by, Option, Some, None, Result, Ok, Err}
use Rattle.std.specs.declared.cmp.Ordering.{Ordering}
use Rattle.std.specs.Ordering.{nat_cmp, ordering_then}
use Rattle.std.specs.FinMap as map
use Rattle.slab.specs.Slab.{Slab, get, slab_len}
use Rattle.vx_base.specs.declared.call.Flag.{Flag}
use Rattle.vx_handles.specs.declared.handles.Entry.{Entry}
use Rattle.vx_handles.specs.declared.handles.HandleRefusal.{HandleRefusal}
use Rattle.vx_handles.specs.declared.handles.HandleRefusal.TheVariants.{BadHandle, TooManyOpen}

-- a session and one of its handles
abbrev pub Key : Type 0
Key = ℕ × ℕ

-- the number of a file's inode, and the flag that it was opened with
abbrev pub Opened : Type 0
Opened = ℕ × Flag

-- by session, and then by handle
abbrev pub key_cmp : Key → Key → Ordering
key_cmp a b = ordering_then (nat_cmp a.0 b.0) (nat_cmp a.1 b.1)

abbrev pub OpenHandles : Type 0
OpenHandles = map.FinMap key_cmp Opened

-- a handle that the session has open is refused first, and then the one past 256
abbrev pub add_answer : OpenHandles → Key → Result (Unit {0}) HandleRefusal
add_answer handles key =
    if map.contains_key handles key then Err BadHandle
    else (if map.len handles == 256 then Err (TooManyOpen 256) else Ok tt)

abbrev pub ino_of : Option Opened → Option ℕ
ino_of None = None
ino_of (Some o) = Some o.0

abbrev pub is_on : ℕ → Opened → Bool
is_on ino o = o.0 == ino

-- how many handles are open on a file
abbrev pub count_on : OpenHandles → ℕ → ℕ
count_on handles ino = count_by (is_on ino) (map.values handles)

-- ---- as they are stored

abbrev pub key_of : Entry → Key
key_of e = (e.session, e.handle)

abbrev pub value_of : Entry → Opened
value_of e = (e.ino, e.flag)

abbrev pub listed : List (Option Entry) → List (Key × Opened)
listed [] = []
listed (None ∷ slots) = listed slots
listed (Some e ∷ slots) = (key_of e, value_of e) ∷ listed slots

abbrev pub opened : List (Option Entry) → OpenHandles
opened slots = map.from_entries (listed slots)

abbrev pub slot_on : Option Entry → ℕ → ℕ
slot_on None ino = 0
slot_on (Some e) ino = if e.ino == ino then 1 else 0

abbrev pub slots_on : List (Option Entry) → ℕ → ℕ
slots_on [] ino = 0
slots_on (slot ∷ slots) ino = slot_on slot ino + slots_on slots ino

-- there is room for all, no two slots have one key, and the slots count as the handles do
pub record IsKept (s : Slab Entry) : Type 0 where
  pub room : 256 ≤ s.capacity
  pub few : slab_len s ≤ 256
  pub apart : (i j : ℕ) (d e : Entry) → get s i ≡ Some d → get s j ≡ Some e → key_of d ≡ key_of e → i ≡ j
  pub counted : slab_len s ≡ map.len (opened s.slots)
  pub counted_on : (ino : ℕ) → slots_on s.slots ino ≡ count_on (opened s.slots) ino
