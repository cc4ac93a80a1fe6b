-- Inodes by their numbers.
use Rattle.std.specs.Prelude.{◌≡◌, ℕ, ◌-◌, ◌*◌, ◌<◌, ◌≤◌, Bool, ◌==◌, if◌then◌else◌, IsTrue, Option, Some, None, is_some, Result, Ok, Err}
use Rattle.std.specs.Ordering.{nat_cmp}
use Rattle.std.specs.FinMap as map
use Rattle.vx_base.specs.declared.kind.FileKind.{FileKind}
use Rattle.vx_base.specs.declared.inode.Inode.{Inode}
use Rattle.vx_base.specs.Rules.{lowest_unused}
use Rattle.vx_inode.specs.declared.table.MakeRefusal.{MakeRefusal}
use Rattle.vx_inode.specs.declared.table.MakeRefusal.TheVariants.{NoInodes}
use Rattle.vx_inode.specs.declared.table.TooManyLinks.{TooManyLinks}

abbrev pub Inodes : Type 0
Inodes = map.FinMap nat_cmp Inode

-- the number of units, each with 128 numbers, and the inodes in use
pub record Table : Type 0 where
  pub units : ℕ
  pub inodes : Inodes

abbrev pub inode_at : Table → ℕ → Option Inode
inode_at t ino = map.get t.inodes ino

abbrev pub is_used : Table → ℕ → Bool
is_used t ino = is_some (inode_at t ino)

-- ---- changes

abbrev pub with_inode : Table → ℕ → Inode → Table
with_inode t ino inode = record t { inodes = map.insert t.inodes ino inode }

abbrev pub without_inode : Table → ℕ → Table
without_inode t ino = record t { inodes = map.remove t.inodes ino }

abbrev pub changed_from : Table → ℕ → (Inode → Inode) → Option Inode → Table
changed_from t ino change None = t
changed_from t ino change (Some inode) = with_inode t ino (change inode)

-- the table with one inode changed, if it is there
abbrev pub with_change : Table → ℕ → (Inode → Inode) → Table
with_change t ino change = changed_from t ino change (inode_at t ino)

-- ---- a new inode

-- there are as many inodes as numbers, without 0 and 1, which are never used
abbrev pub is_full : Table → Bool
is_full t = map.len t.inodes == 128 * t.units - 2

-- what a make is answered, but for want of memory
abbrev pub make_answer : Table → Result ℕ MakeRefusal
make_answer t = if is_full t then Err (NoInodes (128 * t.units - 2)) else Ok (lowest_unused t.units t.inodes)

-- one name, size 0 and no attributes
abbrev pub new_inode : FileKind → ℕ → Inode
new_inode kind mode = record { kind = kind; mode = mode; nlink = 1; size = 0; attrs = record { fixed = 0; reserve = 0; flags = 0 } }

-- ---- links

abbrev pub links_of : Option Inode → ℕ
links_of None = 0
links_of (Some inode) = inode.nlink

-- the number of an inode's names
abbrev pub links_at : Table → ℕ → ℕ
links_at t ino = links_of (inode_at t ino)

-- what a further name is answered, by the number of those that are there
abbrev pub link_answer : ℕ → Result (Unit {0}) TooManyLinks
link_answer nlink = if nlink == 32767 then Err (record { nlink = nlink }) else Ok tt

-- ---- what is always so

-- `lowest` is a number below which none from 3 on is unused
pub record IsKept (t : Table) (lowest : ℕ) : Type 0 where
  pub some_unit : 1 ≤ t.units
  pub at_most_64 : t.units ≤ 64
  pub none_below_2 : (q : ℕ) → q < 2 → inode_at t q ≡ None
  pub none_past_units : (q : ℕ) → 128 * t.units ≤ q → inode_at t q ≡ None
  pub few_links : (q : ℕ) → links_at t q ≤ 32767
  pub from_3 : 3 ≤ lowest
  pub used_below : (q : ℕ) → 3 ≤ q → q < lowest → IsTrue (is_used t q)
