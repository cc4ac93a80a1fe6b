-- The slots of pages by page: entries that rise in their inodes and, within an inode, in their pages.
use Rattle.std.specs.Prelude.{◌≡◌, ℕ, zero, suc, ◌≤◌, ⊤, Bool, true, false, ◌&&◌, ◌||◌, ◌==◌, nat_lt, if◌then◌else◌, List, [], ◌∷◌, Option, Some, None}
use Rattle.std.specs.List.{AllByRecursion}

-- an inode and a page of it, and the number of the slot in which the page stands
abbrev pub Tie : Type 0
Tie = (ℕ × ℕ) × ℕ

abbrev pub is_of : ℕ → ℕ → Tie → Bool
is_of ino page e = (e.0.0 == ino) && (e.0.1 == page)

-- the slot of a page
abbrev pub slot_at : ℕ → ℕ → List Tie → Option ℕ
slot_at ino page [] = None
slot_at ino page (e ∷ es) = if is_of ino page e then Some e.1 else slot_at ino page es

-- the entry stands before that of this page
abbrev pub precedes : ℕ → ℕ → Tie → Bool
precedes ino page e = nat_lt e.0.0 ino || ((e.0.0 == ino) && nat_lt e.0.1 page)

abbrev pub IsRising : List Tie → Type 0
IsRising [] = ⊤
IsRising (e ∷ es) = AllByRecursion (λ d. precedes d.0.0 d.0.1 e ≡ true) es × IsRising es

-- the entries before this place are those that stand before the page's
abbrev pub IsPlace : ℕ → ℕ → List Tie → ℕ → Type 0
IsPlace ino page es zero = AllByRecursion (λ e. precedes ino page e ≡ false) es
IsPlace ino page [] (suc at) = ⊤
IsPlace ino page (e ∷ es) (suc at) = (precedes ino page e ≡ true) × IsPlace ino page es at

-- from now on the page has this slot, and the others have theirs
abbrev pub Enters : ℕ → ℕ → ℕ → List Tie → List Tie → Type 0
Enters ino page slot old new = (i q : ℕ) → slot_at i q new ≡ (if (ino == i) && (page == q) then Some slot else slot_at i q old)

-- from now on the page has no slot, and the others have theirs
abbrev pub Leaves : ℕ → ℕ → List Tie → List Tie → Type 0
Leaves ino page old new = (i q : ℕ) → slot_at i q new ≡ (if (ino == i) && (page == q) then None else slot_at i q old)

-- no page of the inode from this one on has a slot
abbrev pub LacksFrom : ℕ → ℕ → List Tie → Type 0
LacksFrom ino page es = (q : ℕ) → page ≤ q → slot_at ino q es ≡ None
