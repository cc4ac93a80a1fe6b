-- The names of a directory, in the order of their bytes, are the keys of its map.
use Rattle.std.proofs.Common.{◌≡◌, ℕ, suc, ◌+◌, ◌<◌, ◌≤◌, Bool, true, false, cond, List, [], ◌∷◌, map, length, get_or, Option, Some, None, Ok, refl, sym, ◌∙◌, ap, subst, arith, inl, inr}
use Rattle.std.specs.Prelude.{is_some, bytes_eq, ◌||◌}
use Rattle.std.specs.Option.{unwrap_or}
use Rattle.std.specs.List.{count_by, list_any}
use Rattle.std.specs.List.Sorted.{IsPermutation, IsSorted, IsSortedBy}
use Rattle.std.specs.Ordering.{nat_cmp, eq_by_cmp, is_lt, is_eq, ordering_reverse}
use Rattle.std.specs.declared.cmp.Ordering.{Ordering}
use Rattle.std.specs.declared.cmp.Ordering.TheVariants.{Less, Equal, Greater}
use Rattle.std.specs.Cmp.{IsStrictWeakOrder}
use Rattle.std.specs.Cmp.Lexicographic.{slice_cmp, nat_list_cmp_total, texts_ties}
use Rattle.std.specs.FinMap as map
use Rattle.std.specs.FinMap.Entries as rows
use Rattle.std.specs.Prelude.{T}
use Rattle.std.proofs.lemmas.Bool.{cases_Bool, and_from}
use Rattle.std.proofs.lemmas.Slice.Eq.{bytes_eq-Decides}
use Rattle.std.proofs.lemmas.List.Sums.{sum_by-cons}
use Rattle.std.proofs.lemmas.List.Sorted.{ranks_by, sorted_far, sum_by-IsPermutation, list_any-IsPermutation}
use Rattle.vx_base.specs.Paths.{FileName}
use Rattle.vx_base.specs.declared.inode.DirEntry.{DirEntry}
use Rattle.vx_base.specs.declared.reply.Reply.TheVariants as say
use Rattle.vx_dir.specs.Sizes.{Entries}
use Rattle.vx_dir.specs.Directories.{IsKept, AreNames, all_entries, inode_in, is_named}
use Rattle.vx_model.specs.Naming.{list_at}
use Rattle.vx_model.specs.Outcome.{Maybe, ◌>>=◌}
use Rattle.vx_model.specs.Reads.{entries_from, name_to_inode}
use Rattle.vx_model.specs.State.{State}
use Rattle.vx_model.specs.Touching.{untouched}
use Rattle.vx_model.specs.Tree as tree
use Rattle.vx_txn.specs.Calls.{IsSettled}
use Rattle.vx_txn.specs.Directories.{DirectoryValue}
use Rattle.vx_txn.specs.Metas.{directory_of, Stands}
use Rattle.vx_txn.specs.declared.meta.Meta.{Meta}
use Rattle.vx_txn.proofs.CallLaws.{answered, distinct_names}
use Rattle.vx_txn.proofs.EntryLaws.{find_in}
use Rattle.vx_txn.proofs.StateLaws.{directory_here, directory_node, entries_here}

abbrev by_bytes : FileName → FileName → Ordering
by_bytes = slice_cmp nat_cmp

abbrev before : FileName → FileName → Bool
before x y = is_lt (by_bytes x y)

orders : IsStrictWeakOrder before
orders = ranks_by nat_list_cmp_total (λ (x : FileName). x)

same_name : (q n : FileName) → eq_by_cmp by_bytes q n ≡ true → q ≡ n
same_name q n tie = (bytes_eq-Decides q n).0 (texts_ties q n ∙ tie)

-- ---- what the sorted names mean

module _ (value : FileName → ℕ) where
  abbrev paired : List FileName → List (FileName × ℕ)
  paired names = map (λ (n : FileName). (n, value n)) names

  keys_of_paired : (names : List FileName) → map (λ (e : FileName × ℕ). e.0) (paired names) ≡ names
  keys_of_paired [] = refl
  keys_of_paired (n ∷ names) = ap (λ (ns : List FileName). n ∷ ns) (keys_of_paired names)

  find_step : (hit : Bool) (q n : FileName) (names : List FileName) → eq_by_cmp by_bytes q n ≡ hit → map.find by_bytes q (paired names) ≡ cond (list_any (eq_by_cmp by_bytes q) names) (Some (value q)) None
      → cond hit (Some (value n)) (map.find by_bytes q (paired names)) ≡ cond (hit || list_any (eq_by_cmp by_bytes q) names) (Some (value q)) None
  find_step true q n names tie rest = ap (λ (x : FileName). Some (value x)) (sym (same_name q n tie))
  find_step false q n names tie rest = rest

  find_paired : (q : FileName) (names : List FileName) → map.find by_bytes q (paired names) ≡ cond (list_any (eq_by_cmp by_bytes q) names) (Some (value q)) None
  find_paired q [] = refl
  find_paired q (n ∷ names) = find_step (eq_by_cmp by_bytes q n) q n names refl (find_paired q names)

-- ---- names that are sorted and distinct rise strictly

less_by : (p q : Ordering) → p ≡ ordering_reverse q → is_eq p ≡ false → is_lt q ≡ false → is_lt p ≡ true
less_by Less q h e l = refl
less_by Equal q h e l = absurd (cc)
less_by Greater Less h e l = absurd (cc)
less_by Greater Equal h e l = absurd (cc)
less_by Greater Greater h e l = absurd (cc)

abbrev AreDistinct : List FileName → Type 0
AreDistinct names = (q : FileName) → count_by (λ (n : FileName). bytes_eq n q) names ≤ 1

count_first : (n : FileName) (names : List FileName) → count_by (λ (x : FileName). bytes_eq x n) (n ∷ names) ≡ 1 + count_by (λ (x : FileName). bytes_eq x n) names
count_first n names =
    let own : bytes_eq n n ≡ true = (bytes_eq-Decides n n).1 refl in
    sum_by-cons (λ (x : FileName). cond (bytes_eq x n) 1 0) n names ∙ ap (λ (b : Bool). cond b 1 0 + count_by (λ (x : FileName). bytes_eq x n) names) own

tail_distinct : (n : FileName) (names : List FileName) → AreDistinct (n ∷ names) → AreDistinct names
tail_distinct n names distinct q = let c = sum_by-cons (λ (x : FileName). cond (bytes_eq x q) 1 0) n names in let h = distinct q in omega arith

tail_sorted : (n : FileName) (names : List FileName) → IsSortedBy before (n ∷ names) → IsSortedBy before names
tail_sorted n names up k d low high =
    let next : suc k + 1 ≡ suc (k + 1) = omega arith in
    subst (λ (i : ℕ). before (get_or (n ∷ names) i d) (get_or names k d) ≡ false) next (up (suc k) d (omega arith) (omega arith))

other_tie : (n m : FileName) (names : List FileName) → AreDistinct (n ∷ m ∷ names) → is_eq (by_bytes n m) ≡ false
other_tie n m names distinct = elim (cases_Bool (is_eq (by_bytes n m))) [
  | inl hit ↦
      let same : n ≡ m = same_name n m hit in
      let one = count_first n (m ∷ names) in
      let two : 1 ≤ count_by (λ (x : FileName). bytes_eq x n) (m ∷ names) =
      subst (λ (x : FileName). 1 ≤ count_by (λ (y : FileName). bytes_eq y x) (m ∷ names)) (sym same) (let c = count_first m names in omega arith) in
      let h = distinct n in absurd (omega arith)
  | inr miss ↦ miss
]

without_second : (n m : FileName) (names : List FileName) → AreDistinct (n ∷ m ∷ names) → AreDistinct (n ∷ names)
without_second n m names distinct q =
    let a = sum_by-cons (λ (x : FileName). cond {A = ℕ} (bytes_eq x q) 1 0) n (m ∷ names) in
    let b = sum_by-cons (λ (x : FileName). cond {A = ℕ} (bytes_eq x q) 1 0) m names in
    let c = sum_by-cons (λ (x : FileName). cond {A = ℕ} (bytes_eq x q) 1 0) n names in
    let h = distinct q in omega arith

module _ (value : FileName → ℕ) where
  all_above : (n : FileName) (names : List FileName) → ((k : ℕ) → k < length names → before (get_or names k []) n ≡ false) → AreDistinct (n ∷ names) → rows.below_all by_bytes n (paired value names) ≡ true
  all_above n [] up distinct = refl
  all_above n (m ∷ names) up distinct =
      and_from _ _ (less_by (by_bytes n m) (by_bytes m n) (nat_list_cmp_total.antisymm n m) (other_tie n m names distinct) (up 0 (omega arith)))
      (all_above n names (λ k h. up (suc k) (omega arith)) (without_second n m names distinct))

  rises : (names : List FileName) → IsSortedBy before names → AreDistinct names → map.is_sorted by_bytes (paired value names) ≡ true
  rises [] up distinct = refl
  rises (n ∷ names) up distinct =
      and_from _ _ (all_above n names (λ k h. sorted_far before orders (n ∷ names) up 0 (suc k) [] (omega arith) (omega arith)) distinct)
      (rises names (tail_sorted n names up) (tail_distinct n names distinct))

-- ---- the names of entries

count_names : (q : FileName) (es : Entries) → count_by (λ (n : FileName). bytes_eq n q) (map (λ (e : DirEntry). e.name) es) ≡ count_by (is_named q) es
count_names q [] = refl
count_names q (e ∷ es) =
    sum_by-cons (λ (n : FileName). cond (bytes_eq n q) 1 0) e.name (map (λ (x : DirEntry). x.name) es) ∙ ap (λ (k : ℕ). cond (bytes_eq e.name q) 1 0 + k) (count_names q es)
    ∙ sym (sum_by-cons (λ (x : DirEntry). cond (is_named q x) 1 0) e es)

names_of_pairs : (es : Entries) → map (λ (e : FileName × ℕ). e.0) (map name_to_inode es) ≡ map (λ (e : DirEntry). e.name) es
names_of_pairs [] = refl
names_of_pairs (e ∷ es) = ap (λ (ns : List FileName). e.name ∷ ns) (names_of_pairs es)

whole_option : (o : Option ℕ) → cond (is_some o) (Some (unwrap_or o 0)) None ≡ o
whole_option None = refl
whole_option (Some x) = refl

module _ (es : Entries) (names : List FileName) (same : IsPermutation (map (λ (e : DirEntry). e.name) es) names) (sorted : IsSorted (slice_cmp nat_cmp) names) (distinct : (q : FileName) → count_by (is_named q) es ≤ 1) where
  meaning : FileName → ℕ
  meaning q = unwrap_or (inode_in q es) 0

  names_distinct : AreDistinct names
  names_distinct q =
      let moved = sum_by-IsPermutation (λ (n : FileName). cond (bytes_eq n q) 1 0) (map (λ (e : DirEntry). e.name) es) names same in
      let count = count_names q es in
      let h = distinct q in omega arith

  there : (q : FileName) → list_any (eq_by_cmp by_bytes q) names ≡ is_some (inode_in q es)
  there q =
      sym (list_any-IsPermutation (eq_by_cmp by_bytes q) (map (λ (e : DirEntry). e.name) es) names same)
      ∙ sym (ap (list_any (eq_by_cmp by_bytes q)) (names_of_pairs es)) ∙ sym (rows.is_some-find by_bytes q (map name_to_inode es)) ∙ ap is_some (find_in q es)

  found_there : (q : FileName) → map.find by_bytes q (paired meaning names) ≡ inode_in q es
  unfolding meaning
  found_there q = find_paired meaning q names ∙ ap (λ (b : Bool). cond b (Some (meaning q)) None) (there q) ∙ whole_option (inode_in q es)

  strictly : T (map.is_sorted by_bytes (paired meaning names))
  strictly = subst T (sym (rises meaning names sorted names_distinct)) tt

  as_map : map.from_sorted {R = by_bytes} (paired meaning names) ≡ entries_from es
  as_map =
      map.same_map nat_list_cmp_total (map.slice_cmp-IsAntisymmetric map.nat_cmp-IsAntisymmetric) _ _ (λ q.
      map.get-from_sorted by_bytes (paired meaning names) q strictly ∙ found_there q ∙ sym (find_in q es) ∙ sym (map.get-from_entries nat_list_cmp_total (map name_to_inode es) q))

  pub keys_are : map.keys (entries_from es) ≡ names
  keys_are =
      ap map.keys (sym as_map) ∙ ap (map (λ (e : FileName × ℕ). e.0)) (map.entries-from_sorted by_bytes (paired meaning names) strictly) ∙ keys_of_paired meaning names

-- ---- of a directory

module _ (m : Meta) (s : State) (is : Stands m s) (at : ℕ) (d : DirectoryValue) (names : List FileName) where
  pub listing_settled : (there : directory_of m at ≡ Some d) → IsKept d.names → AreNames d.names names → IsSettled s (list_at s at) m untouched (say.Listing names)
  listing_settled there kept are =
      let h = directory_here m s is at d there in
      let keys : map.keys h.tree.entries ≡ names = ap map.keys (entries_here m s is at d there) ∙ keys_are (all_entries d.names) names are.same are.sorted (distinct_names d.names kept) in
      answered m s is (list_at s at) (say.Listing (map.keys h.tree.entries)) (say.Listing names)
      (ap (λ (r : Maybe tree.Directory). r >>= (λ x. Ok (record { state = s; reply = say.Listing (map.keys x.entries) }))) (directory_node m s is at d there)) (ap say.Listing (sym keys))
