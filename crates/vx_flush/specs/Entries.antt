-- What is kept of pages: entries that rise in their inodes and, within an inode, in their pages.
use Rattle.std.specs.Prelude.{◌≡◌, ℕ, zero, suc, ◌≤◌, ◌<◌, ⊤, Bool, true, false, ◌&&◌, ◌||◌, ◌==◌, nat_lt, nat_le, if◌then◌else◌, List, [], ◌∷◌, length, map, Option, Some, None, IfSome, get_or}
use Rattle.std.specs.List.{AllByRecursion}

-- an inode and a page of it, and what is kept of the page
abbrev pub Entry : Type 0 → Type 0
Entry V = (ℕ × ℕ) × V

module _ {V : Type 0} where
  abbrev pub is_of : ℕ → ℕ → Entry V → Bool
  is_of ino page e = (e.0.0 == ino) && (e.0.1 == page)

  -- what is kept of a page
  abbrev pub kept_at : ℕ → ℕ → List (Entry V) → Option V
  kept_at ino page [] = None
  kept_at ino page (e ∷ es) = if is_of ino page e then Some e.1 else kept_at ino page es

  -- the entry stands before that of this page
  abbrev pub precedes : ℕ → ℕ → Entry V → Bool
  precedes ino page e = nat_lt e.0.0 ino || ((e.0.0 == ino) && nat_lt e.0.1 page)

  abbrev pub IsRising : List (Entry V) → Type 0
  IsRising [] = ⊤
  IsRising (e ∷ es) = AllByRecursion (λ d. precedes d.0.0 d.0.1 e ≡ true) es × IsRising es

  -- the entries before this place are those that stand before the page's
  abbrev pub IsPlace : ℕ → ℕ → List (Entry V) → ℕ → Type 0
  IsPlace ino page es zero = AllByRecursion (λ e. precedes ino page e ≡ false) es
  IsPlace ino page [] (suc at) = ⊤
  IsPlace ino page (e ∷ es) (suc at) = (precedes ino page e ≡ true) × IsPlace ino page es at

  -- from now on this is kept of the page, and of the others what was
  abbrev pub Keeps : ℕ → ℕ → Option V → List (Entry V) → List (Entry V) → Type 0
  Keeps ino page kept old new = (i q : ℕ) → kept_at i q new ≡ (if (ino == i) && (page == q) then kept else kept_at i q old)

  -- from now on nothing is kept of the file's pages from this one on, and of the others what was
  abbrev pub Drops : ℕ → ℕ → List (Entry V) → List (Entry V) → Type 0
  Drops ino page old new = (i q : ℕ) → kept_at i q new ≡ (if (ino == i) && nat_le page q then None else kept_at i q old)

-- entries with numbers
abbrev pub Numbers : Type 0
Numbers = List (Entry ℕ)

-- the page's entry stands at this place
pub record StandsAt (ino page : ℕ) (es : Numbers) (at : ℕ) : Type 0 where
  pub within : at < length es
  pub place : IsPlace ino page es at
  pub is : (d : Entry ℕ) → is_of ino page (get_or es at d) ≡ true

-- the page has no entry, and this is the place for one
pub record LacksAt (ino page : ℕ) (es : Numbers) (at : ℕ) : Type 0 where
  pub within : at ≤ length es
  pub place : IsPlace ino page es at
  pub none : kept_at ino page es ≡ None

-- the entry is of another file, or of an earlier page
abbrev pub stays : ℕ → ℕ → Entry ℕ → Bool
stays ino page e = if e.0.0 == ino then nat_lt e.0.1 page else true

-- no number is greater than this one
abbrev pub IsUpTo : ℕ → Numbers → Type 0
IsUpTo most es = (i q : ℕ) → IfSome (kept_at i q es) (λ n. n ≤ most)

-- every number is 0
abbrev pub zeroed : Numbers → Numbers
zeroed es = map (λ e. (e.0, 0)) es
