-- A directory after an add.
use Rattle.std.proofs.Common.{◌≡◌, ◌≢◌, ℕ, ◌+◌, ◌*◌, ◌<◌, ◌≤◌, Bool, true, false, cond, nat_lt, List, [], ◌∷◌, ◌++◌, length, get_or, set, inl, inr, refl, ◌∙◌, subst, arith, Ok, Err, length-set, length-append}
use Rattle.std.specs.List.{count_by, position_or_len, All}
use Rattle.std.proofs.lemmas.Bool.{cases_lt}
use Rattle.std.proofs.lemmas.Bool.Decides.{nat_tests}
use Rattle.std.proofs.lemmas.Slice.Eq.{bytes_eq-Decides}
use Rattle.std.proofs.lemmas.List.Sums.{sum_by-set, sum_by_push, sum_by-le, passes_at_first, fails_before_first}
use Rattle.std.proofs.lemmas.List.Elements.{All-set, All-push, All-from_get_or}
use Rattle.vx_base.specs.Paths.{FileName}
use Rattle.vx_base.specs.declared.inode.DirEntry.{DirEntry}
use Rattle.vx_dir.specs.Sizes.{Entries, entry_size, used_by}
use Rattle.vx_dir.specs.Directories.{Directory, IsKept, holds, block_of, is_named, name_count, HasDistinctNames, IsShort, has_room, entry_room, place_for, blocks_with, with_entry, add_answer}
use Rattle.vx_dir.specs.declared.refusal.DirRefusal.TheVariants as no
use Rattle.vx_dir.proofs.Each.{each_with}
use Rattle.vx_dir.proofs.Places.{position_within, count_none}

-- ---- the answer

module _ (d : Directory) (kept : IsKept d) (name : FileName) (new_name : length d.blocks ≤ block_of name d.blocks) where
  pub no_place : place_for d (5 + length name) ≡ d.limit → Err (no.TooBig (d.block_size * (length d.blocks + 1))) ≡ add_answer d name
  no_place full =
      let within : length d.blocks ≤ d.limit = kept.within in
      let most : place_for d (5 + length name) ≤ length d.blocks = position_within (has_room (entry_room d.block_size) (5 + length name)) d.blocks in
      grind (arith, nat_tests)

  pub placed : place_for d (5 + length name) ≢ d.limit → Ok (place_for d (5 + length name)) ≡ add_answer d name
  placed room =
      let within : length d.blocks ≤ d.limit = kept.within in
      let most : place_for d (5 + length name) ≤ length d.blocks = position_within (has_room (entry_room d.block_size) (5 + length name)) d.blocks in
      grind (arith, nat_tests)

pub taken : (d : Directory) (name : FileName) → block_of name d.blocks < length d.blocks → Err no.Exist ≡ add_answer d name
taken d name there = grind (arith, nat_tests)

-- ---- what stays so

-- a name that no block holds has no entry
pub absent : (blocks : List Entries) (name : FileName) → length blocks ≤ block_of name blocks → name_count name blocks ≡ 0
absent blocks name none =
    let each : All (λ (b : Entries). count_by (is_named name) b ≤ 0) blocks = All-from_get_or (λ (b : Entries). count_by (is_named name) b ≤ 0) blocks [] (λ i h.
    let off : holds name (get_or blocks i []) ≡ false = fails_before_first (holds name) blocks i [] (omega arith) in
    let all : length (get_or blocks i []) ≤ position_or_len (is_named name) (get_or blocks i []) = grind (arith, nat_tests) in
    let e = count_none (is_named name) (get_or blocks i []) all in omega (arith, e)) in
    omega (arith, sum_by-le (λ (b : Entries). count_by (is_named name) b) 0 blocks each)

-- whether an entry counts for a name
abbrev pub one_if : Bool → ℕ
one_if b = cond b 1 0

count_set : (blocks : List Entries) (i : ℕ) (e : DirEntry) (q : FileName) → i < length blocks
    → name_count q (set blocks i (get_or blocks i [] ++ e ∷ [])) ≡ name_count q blocks + one_if (is_named q e)
count_set blocks i e q h =
    let s = sum_by-set (λ (b : Entries). count_by (is_named q) b) blocks i (get_or blocks i [] ++ e ∷ []) [] h in
    let p = sum_by_push (λ x. cond (is_named q x) 1 0) (get_or blocks i []) e in
    omega (arith, s, p)

count_push : (blocks : List Entries) (e : DirEntry) (q : FileName) → name_count q (blocks ++ (e ∷ []) ∷ []) ≡ name_count q blocks + one_if (is_named q e)
count_push blocks e q = sum_by_push (λ (b : Entries). count_by (is_named q) b) blocks (e ∷ []) ∙ omega arith

pub count_with : (blocks : List Entries) (i : ℕ) (e : DirEntry) (q : FileName) → name_count q (blocks_with blocks i e) ≡ name_count q blocks + one_if (is_named q e)
count_with blocks i e q = elim (cases_lt i (length blocks)) [
  | inl lt ↦ let t : nat_lt i (length blocks) ≡ true = grind (arith, nat_tests) in rw t (count_set blocks i e q lt)
  | inr le ↦ let t : nat_lt i (length blocks) ≡ false = grind (arith, nat_tests) in rw t (count_push blocks e q)
]

distinct_if : (b : Bool) (q : FileName) (e : DirEntry) (blocks : List Entries) → is_named q e ≡ b → HasDistinctNames blocks → name_count e.name blocks ≡ 0 → name_count q blocks + one_if b ≤ 1
distinct_if true q e blocks same distinct none =
    let is : e.name ≡ q = (bytes_eq-Decides e.name q).0 same in
    let zero' : name_count q blocks ≡ 0 = subst (λ (n : FileName). name_count n blocks ≡ 0) is none in
    omega arith
distinct_if false q e blocks other distinct none = omega (arith, distinct q)

pub distinct_with : (blocks : List Entries) (i : ℕ) (e : DirEntry) → HasDistinctNames blocks → length blocks ≤ block_of e.name blocks → HasDistinctNames (blocks_with blocks i e)
distinct_with blocks i e distinct none q = rw (count_with blocks i e q) (distinct_if (is_named q e) q e blocks refl distinct (absent blocks e.name none))

pub fits_set : (room : ℕ) (blocks : List Entries) (i : ℕ) (e : DirEntry) → has_room room (entry_size e) (get_or blocks i []) ≡ true → All (λ (b : Entries). used_by b ≤ room) blocks
    → All (λ (b : Entries). used_by b ≤ room) (set blocks i (get_or blocks i [] ++ e ∷ []))
fits_set room blocks i e has all =
    let within : used_by (get_or blocks i []) + entry_size e ≤ room = grind (arith, nat_tests) in
    All-set (λ (b : Entries). used_by b ≤ room) blocks i _ (let s = sum_by_push entry_size (get_or blocks i []) e in omega (arith, s)) all

module _ (d : Directory) (kept : IsKept d) (e : DirEntry) (short : length e.name ≤ 255) (new_name : length d.blocks ≤ block_of e.name d.blocks) (room : place_for d (entry_size e) ≢ d.limit) where
  most : place_for d (entry_size e) ≤ length d.blocks
  most = position_within (has_room (entry_room d.block_size) (entry_size e)) d.blocks

  fits_with : All (λ (b : Entries). used_by b ≤ entry_room d.block_size) (blocks_with d.blocks (place_for d (entry_size e)) e)
  fits_with = elim (cases_lt (place_for d (entry_size e)) (length d.blocks)) [
    | inl lt ↦
        let t : nat_lt (place_for d (entry_size e)) (length d.blocks) ≡ true = grind (arith, nat_tests) in
        rw t (fits_set (entry_room d.block_size) d.blocks (place_for d (entry_size e)) e (passes_at_first (has_room (entry_room d.block_size) (entry_size e)) d.blocks [] lt) kept.fits)
    | inr le ↦
        let t : nat_lt (place_for d (entry_size e)) (length d.blocks) ≡ false = grind (arith, nat_tests) in
        let least : 1024 ≤ d.block_size = kept.least_size in
        rw t (All-push (λ (b : Entries). used_by b ≤ entry_room d.block_size) d.blocks (e ∷ []) kept.fits (omega arith))
  ]

  within_with : length (blocks_with d.blocks (place_for d (entry_size e)) e) ≤ d.limit
  within_with =
      let w : length d.blocks ≤ d.limit = kept.within in
      let m : place_for d (entry_size e) ≤ length d.blocks = most in
      elim (cases_lt (place_for d (entry_size e)) (length d.blocks)) [
        | inl lt ↦
            let t : nat_lt (place_for d (entry_size e)) (length d.blocks) ≡ true = grind (arith, nat_tests) in
            rw t (omega (arith, length-set {A = Entries}))
        | inr le ↦
            let t : nat_lt (place_for d (entry_size e)) (length d.blocks) ≡ false = grind (arith, nat_tests) in
            rw t (omega (arith, length-append {A = Entries}))
      ]

  pub kept_with : IsKept (with_entry d e)
  kept_with = record {
    least_size = kept.least_size;
    greatest_size = kept.greatest_size;
    few_blocks = kept.few_blocks;
    within = within_with;
    fits = fits_with;
    short = each_with IsShort d.blocks (place_for d (entry_size e)) e short kept.short;
    distinct = distinct_with d.blocks (place_for d (entry_size e)) e kept.distinct new_name;
  }
