-- What one block has for a name, after a change.
use Rattle.std.proofs.Common.{◌≡◌, ℕ, ◌+◌, ◌<◌, ◌≤◌, Bool, true, false, cond, nat_lt, not, bytes_eq, List, [], ◌∷◌, ◌++◌, length, get_or, take, Option, Some, None, is_some, refl, sym, ◌∙◌, ap, arith, inl, inr, suc}
use Rattle.std.specs.List.{count_by, find, position_or_len, remove}
use Rattle.std.specs.Option.{option_map, option_or}
use Rattle.std.proofs.lemmas.Grind.{common_steps}
use Rattle.std.proofs.lemmas.Bool.{cases_lt}
use Rattle.std.proofs.lemmas.Bool.Decides.{nat_tests}
use Rattle.std.proofs.lemmas.Slice.Eq.{bytes_eq-Decides}
use Rattle.std.proofs.lemmas.List.Folds.{find_at, find-append}
use Rattle.std.proofs.lemmas.List.Sums.{sum_by-cons, sum_by-remove, sum_by-take-le, count_by_more_yes, passes_at_first, fails_before_first}
use Rattle.vx_base.specs.Paths.{FileName}
use Rattle.vx_base.specs.declared.inode.DirEntry.{DirEntry}
use Rattle.vx_dir.specs.Sizes.{Entries}
use Rattle.vx_dir.specs.Directories.{is_named, place_of, holds, inode_in, without_entry}
use Rattle.vx_dir.specs.declared.name_index.Spot.{Spot}
use Rattle.vx_dir.specs.Index.{spot_in}
use Rattle.vx_dir.proofs.Places.{count_none}
use Rattle.vx_dir.proofs.Removing.{nobody}

abbrev pub spot_at : ℕ → ℕ → Spot
spot_at block ino = record { block = block; ino = ino }

-- ---- options

map_or : {A B : Type 0} (f : A → B) (x y : Option A) → option_map f (option_or x y) ≡ option_or (option_map f x) (option_map f y)
map_or f None y = refl
map_or f (Some a) y = refl

map_cond : {A B : Type 0} (f : A → B) (b : Bool) (a : A) → option_map f (cond b (Some a) None) ≡ cond b (Some (f a)) None
map_cond f true a = refl
map_cond f false a = refl

pub or_none : {A : Type 0} (x : Option A) → option_or x None ≡ x
or_none None = refl
or_none (Some a) = refl

pub some_after : {A : Type 0} (x : Option A) (a : A) → is_some (option_or x (Some a)) ≡ true
some_after None a = refl
some_after (Some b) a = refl

is_false : (b : Bool) → b ≡ true → b ≡ false → ⊥
is_false true t f = cc
is_false false t f = cc

pub map_found : {A B : Type 0} (f : A → B) (x : Option A) → is_some (option_map f x) ≡ is_some x
map_found f None = refl
map_found f (Some a) = refl

-- ---- the first entry of a name

module _ {X : Type 0} (p : X → Bool) where
  is_within : (xs : List X) → nat_lt (position_or_len p xs) (length xs) ≡ is_some (find p xs)
  is_within [] = refl
  is_within (x ∷ xs) = grind (arith, common_steps, nat_tests, is_within xs)

  find_none : (xs : List X) → count_by p xs ≡ 0 → find p xs ≡ None
  find_none [] none = refl
  find_none (x ∷ xs) none = grind (arith, common_steps, find_none xs, sum_by-cons (λ y. cond (p y) 1 0) x xs)

inode_found : (name : FileName) (b : Entries) → inode_in name b ≡ option_map (λ (e : DirEntry). e.ino) (find (is_named name) b)
inode_found name b = ap (option_map (λ (e : DirEntry). e.ino)) (sym (find_at (is_named name) b))

pub holds_inode : (name : FileName) (b : Entries) → holds name b ≡ is_some (inode_in name b)
holds_inode name b =
    is_within (is_named name) b ∙ sym (map_found (λ (e : DirEntry). e.ino) (find (is_named name) b)) ∙ ap (λ (o : Option ℕ). is_some o) (sym (inode_found name b))

pub no_inode : (name : FileName) (b : Entries) → count_by (is_named name) b ≡ 0 → inode_in name b ≡ None
no_inode name b none = inode_found name b ∙ ap (option_map (λ (e : DirEntry). e.ino)) (find_none (is_named name) b none)

-- ---- a further entry

pub inode_push : (name : FileName) (b : Entries) (e : DirEntry) → inode_in name (b ++ e ∷ []) ≡ option_or (inode_in name b) (cond (is_named name e) (Some e.ino) None)
inode_push name b e =
    let f : DirEntry → ℕ = λ x. x.ino in
    inode_found name (b ++ e ∷ []) ∙ ap (option_map f) (find-append (is_named name) b (e ∷ [])) ∙ map_or f (find (is_named name) b) (find (is_named name) (e ∷ []))
    ∙ ap (option_or (option_map f (find (is_named name) b))) (map_cond f (is_named name e) e) ∙ ap (λ (o : Option ℕ). option_or o (cond (is_named name e) (Some e.ino) None)) (sym (inode_found name b))

pub spot_push : (block : ℕ) (name : FileName) (b : Entries) (e : DirEntry)
    → spot_in block name (b ++ e ∷ []) ≡ option_or (spot_in block name b) (cond (is_named name e) (Some (record { block = block; ino = e.ino })) None)
spot_push block name b e =
    let f : ℕ → Spot = λ ino. record { block = block; ino = ino } in
    ap (option_map f) (inode_push name b e) ∙ map_or f (inode_in name b) (cond (is_named name e) (Some e.ino) None) ∙ ap (option_or (option_map f (inode_in name b))) (map_cond f (is_named name e) e.ino)

-- ---- an entry less

one_more : (n : ℕ) → 1 + n ≡ suc n
one_more n = omega arith

apart : (name q : FileName) (e : DirEntry) → bytes_eq name q ≡ false → is_named name e ≡ true → is_named q e ≡ false
apart name q e other named = ap (λ (n : FileName). bytes_eq n q) ((bytes_eq-Decides e.name name).0 named) ∙ other

find_without : (name q : FileName) (b : Entries) → bytes_eq name q ≡ false → find (is_named q) (without_entry name b) ≡ find (is_named q) b
find_without name q [] other = refl
find_without name q (e ∷ b) other =
    ap (λ (k : ℕ). find (is_named q) (remove (e ∷ b) (cond (not (is_named name e)) k 0))) (one_more (place_of name b))
    ∙ elim (is_named name e) as (λ (t : Bool). is_named name e ≡ t → find (is_named q) (remove (e ∷ b) (cond (not t) (suc (place_of name b)) 0)) ≡ find (is_named q) (e ∷ b)) [
      | true ↦ λ t. sym (ap (λ (n : Bool). cond n (Some e) (find (is_named q) b)) (apart name q e other t))
      | false ↦ λ t. ap (cond (is_named q e) (Some e)) (find_without name q b other)
    ] refl

pub inode_without : (name q : FileName) (b : Entries) → bytes_eq name q ≡ false → inode_in q (without_entry name b) ≡ inode_in q b
inode_without name q b other = inode_found q (without_entry name b) ∙ ap (option_map (λ (e : DirEntry). e.ino)) (find_without name q b other) ∙ sym (inode_found q b)

-- the entry of the name counted for it
pub count_without : (name : FileName) (b : Entries) → holds name b ≡ true → count_by (is_named name) (without_entry name b) + 1 ≡ count_by (is_named name) b
count_without name b there =
    let inside : place_of name b < length b = grind (arith, nat_tests) in
    let named = passes_at_first (is_named name) b nobody inside in
    omega (arith, sum_by-remove (λ x. cond (is_named name x) 1 0) b (place_of name b) nobody inside, ap {B = ℕ} (λ t. cond t 1 0) named)

-- ---- the first entries

pub held_at : (name : FileName) (es : Entries) (i : ℕ) (d : DirEntry) → i < length es → is_named name (get_or es i d) ≡ true → holds name es ≡ true
held_at name es i d lt named = elim (cases_lt (place_of name es) (length es)) [
  | inl there ↦ grind (arith, nat_tests)
  | inr past ↦ absurd (is_false (is_named name (get_or es i d)) named (fails_before_first (is_named name) es i d (omega arith)))
]

-- a name that is held is not in the entries before it, where names are distinct
pub not_before : (name : FileName) (es : Entries) (i : ℕ) (d : DirEntry) → count_by (is_named name) es ≤ 1 → i < length es → is_named name (get_or es i d) ≡ true → inode_in name (take i es) ≡ None
not_before name es i d once lt named = no_inode name (take i es) (omega (arith, once, count_by_more_yes (is_named name) es i d lt named, sum_by-take-le (λ x. cond (is_named name x) 1 0) es (i + 1)))

pub not_in_front : (name : FileName) (es : Entries) (i : ℕ) → holds name es ≡ false → inode_in name (take i es) ≡ None
not_in_front name es i off =
    let past : length es ≤ place_of name es = grind (arith, nat_tests) in
    no_inode name (take i es) (omega (arith, count_none (is_named name) es past, sum_by-take-le (λ x. cond (is_named name x) 1 0) es i))
