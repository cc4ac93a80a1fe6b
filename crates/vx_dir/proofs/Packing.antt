-- Blocks packed one entry after the other.
use Rattle.std.proofs.Common.{◌≡◌, ℕ, ◌+◌, ◌-◌, ◌<◌, ◌≤◌, Bool, true, false, cond, nat_lt, List, [], ◌∷◌, length, get_or, inl, inr, refl, arith}
use Rattle.std.specs.List.{count_by, All, fold, flat_map}
use Rattle.std.specs.List.Sorted.{IsPermutation}
use Rattle.std.proofs.lemmas.Bool.{cases_lt}
use Rattle.std.proofs.lemmas.Bool.Decides.{nat_tests}
use Rattle.std.proofs.lemmas.List.Sums.{sum_by-cons, sum_by-append, get_or-le-sum_by}
use Rattle.std.proofs.lemmas.List.Sorted.{All-permutation, sum_by-IsPermutation}
use Rattle.std.proofs.lemmas.List.Elements.{All-push, All-nil, All-append, All-head, All-tail}
use Rattle.vx_base.specs.Paths.{FileName}
use Rattle.vx_base.specs.declared.inode.DirEntry.{DirEntry}
use Rattle.vx_dir.specs.Sizes.{Entries, entry_size, used_by}
use Rattle.vx_dir.specs.Directories.{Directory, IsKept, IsShort, is_named, name_count, HasDistinctNames, has_room, entry_room, last_place, put_last, packed, all_entries}
use Rattle.vx_dir.proofs.Each.{InAll, each_packed, each_flat}
use Rattle.vx_dir.proofs.Adding.{count_with, fits_set}

abbrev pub Fits : ℕ → List Entries → Type 0
Fits room blocks = All (λ (b : Entries). used_by b ≤ room) blocks

-- ---- sizes

-- where the entry goes into a block, that block has room
has_last : (b : Bool) (room : ℕ) (blocks : List Entries) (e : DirEntry) → has_room room (entry_size e) (get_or blocks (length blocks - 1) []) ≡ b
    → cond b (length blocks - 1) (length blocks) < length blocks → has_room room (entry_size e) (get_or blocks (cond b (length blocks - 1) (length blocks)) []) ≡ true
has_last true room blocks e is lt = is
has_last false room blocks e is lt = absurd (omega arith)

has_at : (room : ℕ) (blocks : List Entries) (e : DirEntry) → last_place room (entry_size e) blocks < length blocks
    → has_room room (entry_size e) (get_or blocks (last_place room (entry_size e) blocks) []) ≡ true
has_at room blocks e lt = has_last (has_room room (entry_size e) (get_or blocks (length blocks - 1) [])) room blocks e refl lt

pub fits_put : (room : ℕ) (blocks : List Entries) (e : DirEntry) → entry_size e ≤ room → Fits room blocks → Fits room (put_last room blocks e)
fits_put room blocks e size all = elim (cases_lt (last_place room (entry_size e) blocks) (length blocks)) [
  | inl lt ↦
      let t : nat_lt (last_place room (entry_size e) blocks) (length blocks) ≡ true = grind (arith, nat_tests) in
      let has : has_room room (entry_size e) (get_or blocks (last_place room (entry_size e) blocks) []) ≡ true = has_at room blocks e lt in
      rw t (fits_set room blocks (last_place room (entry_size e) blocks) e has all)
  | inr le ↦
      let t : nat_lt (last_place room (entry_size e) blocks) (length blocks) ≡ false = grind (arith, nat_tests) in
      rw t (All-push (λ (b : Entries). used_by b ≤ room) blocks (e ∷ []) all (omega arith))
]

fits_fold : (room : ℕ) (es : Entries) (blocks : List Entries) → All (λ e. entry_size e ≤ room) es → Fits room blocks → Fits room (fold (put_last room) blocks es)
fits_fold room [] blocks sizes all = all
fits_fold room (e ∷ es) blocks sizes all =
    fits_fold room es (put_last room blocks e) (All-tail (λ e. entry_size e ≤ room) e es sizes) (fits_put room blocks e (All-head (λ e. entry_size e ≤ room) e es sizes) all)

pub fits_packed : (room : ℕ) (es : Entries) → All (λ e. entry_size e ≤ room) es → Fits room (packed room es)
fits_packed room es sizes = fits_fold room es [] sizes (All-nil (λ (b : Entries). used_by b ≤ room))

sizes_of : (room : ℕ) (es : Entries) → used_by es ≤ room → All (λ e. entry_size e ≤ room) es
sizes_of room es h k d within = let least = get_or-le-sum_by entry_size es k d within in omega (arith, least)

pub sizes_all : (room : ℕ) (blocks : List Entries) → Fits room blocks → All (λ e. entry_size e ≤ room) (flat_map (λ (b : Entries). b) blocks)
sizes_all room [] all = All-nil (λ (e : DirEntry). entry_size e ≤ room)
sizes_all room (b ∷ bs) all =
    All-append (λ (e : DirEntry). entry_size e ≤ room) b (flat_map (λ (x : Entries). x) bs) (sizes_of room b (All-head (λ (x : Entries). used_by x ≤ room) b bs all))
    (sizes_all room bs (All-tail (λ (x : Entries). used_by x ≤ room) b bs all))

-- ---- names

count_fold : (room : ℕ) (es : Entries) (blocks : List Entries) (q : FileName) → name_count q (fold (put_last room) blocks es) ≡ name_count q blocks + count_by (is_named q) es
count_fold room [] blocks q = omega arith
count_fold room (e ∷ es) blocks q =
    let rest = count_fold room es (put_last room blocks e) q in
    let here = count_with blocks (last_place room (entry_size e) blocks) e q in
    let both = sum_by-cons (λ x. cond (is_named q x) 1 0) e es in
    omega (arith, rest, here, both)

pub count_all : (blocks : List Entries) (q : FileName) → count_by (is_named q) (flat_map (λ (b : Entries). b) blocks) ≡ name_count q blocks
count_all [] q = refl
count_all (b ∷ bs) q =
    let parts = sum_by-append (λ x. cond (is_named q x) 1 0) b (flat_map (λ (x : Entries). x) bs) in
    let both = sum_by-cons (λ (x : Entries). count_by (is_named q) x) b bs in
    omega (arith, parts, both, count_all bs q)

pub distinct_packed : (room : ℕ) (blocks : List Entries) (es : Entries) → IsPermutation (flat_map (λ (b : Entries). b) blocks) es → HasDistinctNames blocks → HasDistinctNames (packed room es)
distinct_packed room blocks es same distinct q =
    let now = count_fold room es [] q in
    let moved = sum_by-IsPermutation (λ x. cond (is_named q x) 1 0) (flat_map (λ (b : Entries). b) blocks) es same in
    omega (arith, now, moved, count_all blocks q, distinct q)

-- ---- a directory

pub kept_packed : (d : Directory) (es : Entries) → IsKept d → IsPermutation (all_entries d) es → length (packed (entry_room d.block_size) es) < length d.blocks
    → IsKept (record d { blocks = packed (entry_room d.block_size) es })
kept_packed d es kept same fewer = record {
  least_size = kept.least_size;
  greatest_size = kept.greatest_size;
  few_blocks = kept.few_blocks;
  within = let w : length d.blocks ≤ d.limit = kept.within in omega arith;
  fits = fits_packed (entry_room d.block_size) es (All-permutation (λ e. entry_size e ≤ entry_room d.block_size) (all_entries d) es same (sizes_all (entry_room d.block_size) d.blocks kept.fits));
  short = each_packed IsShort (entry_room d.block_size) es [] (All-permutation IsShort (all_entries d) es same (each_flat IsShort d.blocks kept.short)) (All-nil (InAll IsShort));
  distinct = distinct_packed (entry_room d.block_size) d.blocks es same kept.distinct;
}
