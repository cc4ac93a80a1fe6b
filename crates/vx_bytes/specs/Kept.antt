-- What a mount keeps of the sizes and bytes of all files.
use Rattle.std.specs.Prelude.{◌≡◌, ◌≤◌, ◌<◌, ◌+◌, ◌*◌, ℕ, Bool, true, false, List, length, get_or, Some, ◌==◌, if◌then◌else◌}
use Rattle.vx_base.specs.declared.event.Event.{Event}
use Rattle.vx_base.specs.declared.mode.Logging.{Logging}
use Rattle.vx_dev.specs.declared.device.Operation.{Operation}
use Rattle.vx_dev.specs.Tape.{Tape, Writes}
use Rattle.vx_model.specs.Legal.{World}
use Rattle.vx_model.specs.State.{State}
use Rattle.vx_bytes.specs.Histories.{state_at, story, size_of, byte_of, last_cut, last_shorter, promises_at, promises_size_at}
use Rattle.vx_bytes.specs.Places.{place_of, placed_in}
use Rattle.vx_bytes.specs.Promises.{file_in}
use Rattle.vx_bytes.specs.Standings.{Memory, Mark, Put, Stable, Keeps, Reads, IsAlone, part_of, within, passed}

-- since which prefix what a crash may leave of a file's size, and of its bytes, are candidates
pub record Since : Type 0 where
  pub size : ℕ → ℕ
  pub bytes : ℕ → ℕ → ℕ

-- in each of the three states
pub record Sinces : Type 0 where
  pub committed : Since
  pub closing : Since
  pub present : Since

-- what counts of a mount here: the prefixes of its committed and its closing state, and the marks of the halves of each file's pages
pub record Progress : Type 0 where
  pub committed : ℕ
  pub closing : ℕ
  pub marks : ℕ → ℕ → Mark

-- of three states, the last of them after so many events
abbrev pub memory_of : State → State → State → (ends cut : ℕ) → Progress → Sinces → ℕ → Memory
memory_of committed closing present ends cut p since n = record {
  committed = record { k = p.committed; place = place_of committed n; since = since.committed.bytes n; size_since = since.committed.size n };
  closing = record { k = p.closing; place = place_of closing n; since = since.closing.bytes n; size_since = since.closing.size n };
  present = record { k = ends; place = place_of present n; since = since.present.bytes n; size_since = since.present.size n };
  placed = placed_in present n;
  marks = p.marks n;
  last_cut = cut;
}

-- what the mount knows of one file
abbrev pub memory : World → List Event → Progress → Sinces → ℕ → Memory
memory o h p since n = memory_of (state_at o h p.committed) (state_at o h p.closing) (state_at o h (length h)) (length h) (last_cut o h n) p since n

-- the sizes and bytes of every file, in the three states
abbrev pub HoldsFiles : Logging → World → List Event → Progress → Sinces → Tape → Type 0
HoldsFiles mode o h p since t = (n : ℕ) → Keeps (story mode o h n) (memory o h p since n) t

-- ---- writes

-- Which sectors the log, its batches and the homes name or may name: none of them is a file's, in any of the three states.
pub record IsApartFromFiles (o : World) (h : List Event) (committed closing : ℕ) (is_named : ℕ → Bool) : Type 0 where
  pub committed_sectors : (n q s : ℕ) → (place_of (state_at o h committed) n).sectors q ≡ Some s → is_named s ≡ false
  pub closing_sectors : (n q s : ℕ) → (place_of (state_at o h closing) n).sectors q ≡ Some s → is_named s ≡ false
  pub present_sectors : (n q s : ℕ) → (place_of (state_at o h (length h)) n).sectors q ≡ Some s → is_named s ≡ false
  pub placed_sectors : (n q s : ℕ) → placed_in (state_at o h (length h)) n q ≡ Some s → is_named s ≡ false

-- the operation writes a sector that is named
pub record WritesNamed (is_named : ℕ → Bool) (op : Operation) : Type 0 where
  pub sector : ℕ
  pub bytes : List ℕ
  pub writes : Writes op sector bytes
  pub named : is_named sector ≡ true

-- These bytes may be put there: the sector is that of half a page as the file is now, they are what stands in that half now, and the
-- file's last smaller truncate is durable.
pub record MayPut (o : World) (h : List Event) (committed ino part sector : ℕ) (bytes : List ℕ) : Type 0 where
  pub here : placed_in (state_at o h (length h)) ino part ≡ Some sector
  pub content : (i : ℕ) → part_of i ≡ part → get_or bytes (within i) 0 ≡ byte_of (file_in (state_at o h (length h)) ino) i
  pub cut_durable : last_shorter o h ino ≤ committed

-- the half has this mark now
abbrev pub marked : ℕ → ℕ → Mark → Progress → Progress
marked ino part mark p = record p { marks = λ n q. if n == ino then (if q == part then mark else p.marks n q) else p.marks n q }

-- both halves of a page are put
abbrev pub page_put : ℕ → ℕ → Progress → Progress
page_put ino page p = marked ino (2 * page + 1) Put (marked ino (2 * page) Put p)

-- a barrier has passed behind all that was put
abbrev pub all_passed : Progress → Progress
all_passed p = record p { marks = λ n q. passed (p.marks n q) }

-- ---- settles and calls that wait

-- everything of the file counts from that prefix on
abbrev pub counted_from : ℕ → ℕ → Since → Since
counted_from ino k since = record { size = λ n. if n == ino then k else since.size n; bytes = λ n o. if n == ino then k else since.bytes n o }

-- so does everything of every file
abbrev pub all_from : ℕ → Since
all_from k = record { size = λ n. k; bytes = λ n o. k }

-- the device says of the file what it is, and each part of it is stable there
pub record IsStableNow (s : State) (marks : ℕ → Mark) (n : ℕ) : Type 0 where
  pub sectors : (p : ℕ) → (place_of s n).sectors p ≡ placed_in s n p
  pub size : (place_of s n).size ≡ size_of (file_in s n)
  pub parts : (i : ℕ) → i < size_of (file_in s n) → marks (part_of i) ≡ Stable

-- a call whose flush is over, and the number of the batch that holds all that it needs
pub record Wait : Type 0 where
  pub place : ℕ
  pub serial : ℕ

-- the numbers of the batches: committed, closing, and being gathered
pub record Serials : Type 0 where
  pub committed : ℕ
  pub closing : ℕ
  pub gathering : ℕ

-- what the call at that place promises is on the device since it began
pub record IsFlushed (mode : Logging) (o : World) (h : List Event) (place : ℕ) (since : Since) : Type 0 where
  pub size : (n : ℕ) → promises_size_at mode o h n place ≡ true → place < since.size n
  pub bytes : (n i : ℕ) → promises_at mode o h n i place ≡ true → place < since.bytes n i

-- in each state that has the batch
pub record IsWaiting (mode : Logging) (o : World) (h : List Event) (since : Sinces) (s : Serials) (w : Wait) : Type 0 where
  pub begun : w.place < length h
  pub known : w.serial ≤ s.gathering
  pub present : IsFlushed mode o h w.place since.present
  pub closing : w.serial ≤ s.closing → IsFlushed mode o h w.place since.closing
  pub committed : w.serial ≤ s.committed → IsFlushed mode o h w.place since.committed

-- it counts from no earlier
pub record SinceRises (a b : Since) : Type 0 where
  pub size : (n : ℕ) → a.size n ≤ b.size n
  pub bytes : (n i : ℕ) → a.bytes n i ≤ b.bytes n i

-- ---- where a mount begins

-- nothing is owed
abbrev pub at_start : Progress
at_start = record { committed = 0; closing = 0; marks = λ n p. Stable }

-- all three states count from there
abbrev pub sinces_from : ℕ → Sinces
sinces_from k = record { committed = all_from k; closing = all_from k; present = all_from k }

-- the opening's files are on the device as they are
pub record IsOpened (s : State) (t : Tape) : Type 0 where
  pub size : (n : ℕ) → (place_of s n).size ≡ size_of (file_in s n)
  pub bytes : (n o v : ℕ) → o < size_of (file_in s n) → Reads t ((place_of s n).sectors (part_of o)) (within o) v → v ≡ byte_of (file_in s n) o
  pub placed : (n p : ℕ) → placed_in s n p ≡ (place_of s n).sectors p
  pub alone : (n : ℕ) → IsAlone (placed_in s n) (placed_in s n)
