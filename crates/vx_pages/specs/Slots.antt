-- The slots in which pages stand, most recent first.
use Rattle.std.specs.Prelude.{◌≡◌, ℕ, ◌<◌, ◌≤◌, ⊤, Bool, true, false, ◌&&◌, ◌+◌, nat_eq, if◌then◌else◌, List, [], ◌∷◌, length, Option, Some, None, is_some}
use Rattle.std.specs.List.{AllByRecursion}
use Rattle.std.specs.Map.{lookup}
use Rattle.vx_pages.specs.Pages.{Entry, is_page}
use Rattle.vx_pages.specs.Indexes.{Tie, slot_at}

-- whether a page stands in the slot, and which; of an unused slot the bytes stay
pub record Slot : Type 0 where
  pub used : Bool
  pub entry : Entry

abbrev pub holds : ℕ → ℕ → Slot → Bool
holds ino page s = s.used && is_page ino page s.entry

-- slots with their numbers
abbrev pub Slots : Type 0
Slots = List (ℕ × Slot)

-- the pages that stand in them
abbrev pub listed : Slots → List Entry
listed [] = []
listed (s ∷ ss) = if s.1.used then s.1.entry ∷ listed ss else listed ss

-- the option has this number
abbrev pub names : Option ℕ → ℕ → Bool
names None n = false
names (Some k) n = nat_eq k n

-- the page stands in this slot and no other
abbrev pub IsSlotOf : ℕ → ℕ → Option ℕ → Slots → Type 0
IsSlotOf ino page k = AllByRecursion (λ s. names k s.0 ≡ holds ino page s.1)

-- one of the slots with so many bytes
abbrev pub IsSlot : ℕ → ℕ × Slot → Type 0
IsSlot block s = (s.0 < 1024) × (length s.1.entry.bytes ≡ block)

-- which slot a new page gets: the first unused one, or else the last unchanged one, or else this
abbrev pub slot_for_new : Option ℕ → Slots → Option ℕ
slot_for_new last [] = last
slot_for_new last (s ∷ ss) = if s.1.used then slot_for_new (if s.1.entry.changed then last else Some s.0) ss else Some s.0

-- the last unchanged slot, or else this
abbrev pub last_unchanged_slot : Option ℕ → Slots → Option ℕ
last_unchanged_slot last [] = last
last_unchanged_slot last (s ∷ ss) = last_unchanged_slot (if s.1.entry.changed then last else Some s.0) ss

abbrev pub changed_slots : Slots → ℕ
changed_slots [] = 0
changed_slots (s ∷ ss) = (if s.1.used && s.1.entry.changed then 1 else 0) + changed_slots ss

-- the last page that is changed, or else this
abbrev pub last_changed_slot : Option (ℕ × ℕ) → Slots → Option (ℕ × ℕ)
last_changed_slot last [] = last
last_changed_slot last (s ∷ ss) = last_changed_slot (if s.1.used && s.1.entry.changed then Some (s.1.entry.ino, s.1.entry.page) else last) ss

-- the option has a number only if a slot has it
abbrev pub IsThere : Option ℕ → Slots → Type 0
IsThere None ss = ⊤
IsThere (Some k) ss = is_some (lookup (nat_eq k) ss) ≡ true

-- the number, if it is another one
abbrev pub but : ℕ → Option ℕ → Option ℕ
but k None = None
but k (Some n) = if nat_eq n k then None else Some n

-- an index has exactly the pages that stand in slots, each with its slot
pub record AreTied (index : List Tie) (ss : Slots) : Type 0 where
  pub each : (ino page : ℕ) → IsSlotOf ino page (slot_at ino page index) ss
  pub there : (ino page : ℕ) → IsThere (slot_at ino page index) ss

-- all slots are there, and an index has each page once
pub record IsKept (block : ℕ) (ss : Slots) (index : List Tie) : Type 0 where
  pub count : length ss ≡ 1024
  pub each : AllByRecursion (IsSlot block) ss
  pub tied : AreTied index ss
  pub few : length index ≤ length (listed ss)
