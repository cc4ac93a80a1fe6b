-- Entries with distinct names stand in one order of names.
use Rattle.std.proofs.Common.{◌≡◌, ℕ, zero, suc, ◌+◌, ◌<◌, ◌≤◌, ◌⊎◌, Bool, true, false, cond, List, [], ◌∷◌, length, get_or, inl, inr, refl, sym, ◌∙◌, ap, subst, arith}
use Rattle.std.specs.List.{count_by, Contains, flat_map}
use Rattle.std.specs.List.Sorted.{IsPermutation, IsSortedBy}
use Rattle.std.specs.Cmp.{IsStrictWeakOrder}
use Rattle.std.specs.Cmp.Lexicographic.{nat_list_cmp_total, texts_ties}
use Rattle.std.specs.Ordering.{is_lt, is_eq, ordering_reverse}
use Rattle.std.specs.declared.cmp.Ordering.{Ordering}
use Rattle.std.specs.declared.cmp.Ordering.TheVariants.{Less, Equal, Greater}
use Rattle.std.proofs.lemmas.Slice.Eq.{bytes_eq-Decides}
use Rattle.std.proofs.lemmas.List.Sums.{sum_by-cons, get_or-le-sum_by}
use Rattle.std.proofs.lemmas.List.Sorted.{ranks_by, sorted_far, Contains-permutation, IsPermutation-sym, sum_by-IsPermutation}
use Rattle.vx_base.specs.Paths.{FileName}
use Rattle.vx_base.specs.declared.inode.DirEntry.{DirEntry}
use Rattle.vx_dir.specs.Sizes.{Entries}
use Rattle.vx_dir.specs.Directories.{Directory, is_named, HasDistinctNames, by_name, entry_room, packed, with_fewer, all_entries, IsTightened}
use Rattle.vx_dir.proofs.Packing.{count_all}

abbrev before : DirEntry → DirEntry → Bool
before x y = is_lt (by_name x y)

orders : IsStrictWeakOrder before
orders = ranks_by nat_list_cmp_total (λ (e : DirEntry). e.name)

tie : (p q : Ordering) → p ≡ ordering_reverse q → is_lt p ≡ false → is_lt q ≡ false → p ≡ Equal
tie Less q h a b = cc
tie Equal q h a b = refl
tie Greater Less h a b = cc
tie Greater Equal h a b = cc
tie Greater Greater h a b = cc

same_name : (x y : DirEntry) → before x y ≡ false → before y x ≡ false → x.name ≡ y.name
same_name x y a b =
    let equal : by_name x y ≡ Equal = tie (by_name x y) (by_name y x) (nat_list_cmp_total.antisymm x.name y.name) a b in
    (bytes_eq-Decides x.name y.name).0 (texts_ties x.name y.name ∙ ap is_eq equal)

-- ---- members

at_case : (x : DirEntry) (xs : Entries) (e : DirEntry) (k : ℕ) → k < length (x ∷ xs) → get_or (x ∷ xs) k e ≡ e → (x ≡ e) ⊎ Contains xs e
at_case x xs e zero h is = inl is
at_case x xs e (suc k) h is = inr (k, omega arith, is)

member_case : (x : DirEntry) (xs : Entries) (e : DirEntry) → Contains (x ∷ xs) e → (x ≡ e) ⊎ Contains xs e
member_case x xs e m = at_case x xs e m.0 m.1 m.2

first_member : (x : DirEntry) (xs : Entries) → Contains (x ∷ xs) x
first_member x xs = (0, omega arith, refl)

later_member : (x : DirEntry) (xs : Entries) (e : DirEntry) → Contains xs e → Contains (x ∷ xs) e
later_member x xs e m = let h : m.0 < length xs = m.1 in (suc m.0, omega arith, m.2)

least : (x : DirEntry) (xs : Entries) (e : DirEntry) → IsSortedBy before (x ∷ xs) → Contains (x ∷ xs) e → before e x ≡ false
least x xs e up m = ap (λ (y : DirEntry). before y x) (sym m.2) ∙ sorted_far before orders (x ∷ xs) up 0 m.0 e (omega arith) m.1

tail_sorted : (x : DirEntry) (xs : Entries) → IsSortedBy before (x ∷ xs) → IsSortedBy before xs
tail_sorted x xs up k d low high =
    let next : suc k + 1 ≡ suc (k + 1) = omega arith in
    subst (λ (n : ℕ). before (get_or (x ∷ xs) n d) (get_or xs k d) ≡ false) next (up (suc k) d (omega arith) (omega arith))

-- ---- names

abbrev HasDistinct : Entries → Type 0
HasDistinct es = (q : FileName) → count_by (is_named q) es ≤ 1

tail_distinct : (x : DirEntry) (xs : Entries) → HasDistinct (x ∷ xs) → HasDistinct xs
tail_distinct x xs distinct q = omega (arith, distinct q, sum_by-cons (λ y. cond (is_named q y) 1 0) x xs)

-- a name of the first entry is in no later one
named_twice : (x : DirEntry) (xs : Entries) (e : DirEntry) → HasDistinct (x ∷ xs) → Contains xs e → e.name ≡ x.name → ⊥
named_twice x xs e distinct m same =
    let here : is_named x.name x ≡ true = (bytes_eq-Decides x.name x.name).1 refl in
    let there : is_named x.name (get_or xs m.0 e) ≡ true = ap (is_named x.name) m.2 ∙ (bytes_eq-Decides e.name x.name).1 same in
    let parts = sum_by-cons (λ y. cond (is_named x.name y) 1 0) x xs in
    let some = get_or-le-sum_by (λ y. cond (is_named x.name y) 1 0) xs m.0 e m.1 in
    omega (arith, distinct x.name, parts, some, ap {B = ℕ} (λ b. cond b 1 0) here, ap {B = ℕ} (λ b. cond b 1 0) there)

same_first : (x : DirEntry) (xs : Entries) (y : DirEntry) (ys : Entries) → IsSortedBy before (x ∷ xs) → IsSortedBy before (y ∷ ys) → HasDistinct (y ∷ ys) → Contains (y ∷ ys) x → Contains (x ∷ xs) y → x ≡ y
same_first x xs y ys up_x up_y distinct in_y in_x = elim (member_case y ys x in_y) [
  | inl is ↦ sym is
  | inr later ↦ absurd (named_twice y ys x distinct later (same_name x y (least y ys x up_y in_y) (least x xs y up_x in_x)))
]

pub one_order : (xs ys : Entries) → IsSortedBy before xs → IsSortedBy before ys → HasDistinct xs → HasDistinct ys → ((e : DirEntry) → Contains xs e → Contains ys e) → ((e : DirEntry) → Contains ys e → Contains xs e) → xs ≡ ys
one_order [] [] up_x up_y dx dy to from = refl
one_order [] (y ∷ ys) up_x up_y dx dy to from = let m = from y (first_member y ys) in let h : m.0 < 0 = m.1 in absurd (omega arith)
one_order (x ∷ xs) [] up_x up_y dx dy to from = let m = to x (first_member x xs) in let h : m.0 < 0 = m.1 in absurd (omega arith)
one_order (x ∷ xs) (y ∷ ys) up_x up_y dx dy to from =
    let is : x ≡ y = same_first x xs y ys up_x up_y dy (to x (first_member x xs)) (from y (first_member y ys)) in
    let rest : xs ≡ ys = one_order xs ys (tail_sorted x xs up_x) (tail_sorted y ys up_y) (tail_distinct x xs dx) (tail_distinct y ys dy)
    (λ e m. elim (member_case y ys e (to e (later_member x xs e m))) [
      | inl here ↦ absurd (named_twice x xs e dx m (ap (λ (z : DirEntry). z.name) (sym here ∙ sym is)))
      | inr later ↦ later
    ])
    (λ e m. elim (member_case x xs e (from e (later_member y ys e m))) [
      | inl here ↦ absurd (named_twice y ys e dy m (ap (λ (z : DirEntry). z.name) (sym here ∙ is)))
      | inr later ↦ later
    ]) in
    ap (λ (z : DirEntry). z ∷ xs) is ∙ ap (λ (l : Entries). y ∷ l) rest

-- ---- packing

distinct_moved : (blocks : List Entries) (es : Entries) → IsPermutation (flat_map (λ (b : Entries). b) blocks) es → HasDistinctNames blocks → HasDistinct es
distinct_moved blocks es same distinct q =
    omega (arith, sum_by-IsPermutation (λ x. cond (is_named q x) 1 0) (flat_map (λ (b : Entries). b) blocks) es same, count_all blocks q, distinct q)

pub one_result : (d a b : Directory) → HasDistinctNames d.blocks → IsTightened d a → IsTightened d b → a ≡ b
one_result d a b distinct ta tb =
    let same : ta.entries ≡ tb.entries = one_order ta.entries tb.entries ta.sorted tb.sorted
    (distinct_moved d.blocks ta.entries ta.same distinct) (distinct_moved d.blocks tb.entries tb.same distinct)
    (λ e m. Contains-permutation (all_entries d) tb.entries e tb.same (Contains-permutation ta.entries (all_entries d) e (IsPermutation-sym (all_entries d) ta.entries ta.same) m))
    (λ e m. Contains-permutation (all_entries d) ta.entries e ta.same (Contains-permutation tb.entries (all_entries d) e (IsPermutation-sym (all_entries d) tb.entries tb.same) m)) in
    ta.blocks ∙ ap (λ (es : Entries). with_fewer d (packed (entry_room d.block_size) es)) same ∙ sym tb.blocks
