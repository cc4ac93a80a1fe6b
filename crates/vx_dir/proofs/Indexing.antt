-- The index of blocks that change.
use Rattle.std.proofs.Common.{◌≡◌, ℕ, ◌+◌, ◌<◌, ◌≤◌, Bool, true, false, cond, nat_lt, bytes_eq, List, [], ◌∷◌, ◌++◌, length, get_or, set, take, Option, Some, None, is_some, refl, sym, ◌∙◌, ap, subst, arith, inl, inr, length-set, length-append}
use Rattle.std.specs.List.{count_by}
use Rattle.std.specs.Option.{option_map, option_or}
use Rattle.std.specs.FinMap as map
use Rattle.std.specs.Cmp.Lexicographic.{slice_cmp}
use Rattle.std.specs.Ordering.{nat_cmp}
use Rattle.std.proofs.lemmas.Bool.{cases_lt, cases_eq}
use Rattle.std.proofs.lemmas.Bool.Decides.{nat_tests}
use Rattle.std.proofs.lemmas.Slice.Eq.{bytes_eq-Decides}
use Rattle.std.proofs.lemmas.List.{length-take-le, take_more, get_or_past, get_or-set_same, get_or-set_other, get_or_append_left}
use Rattle.std.proofs.Math.Seq.{get_or-append_seam}
use Rattle.std.proofs.lemmas.List.Folds.{position_or_len-set}
use Rattle.std.proofs.lemmas.List.Sums.{position_or_len_is, fails_before_first, passes_at_first, get_or-le-sum_by, sum_by-set, sum_by_push, sum_by-take-le}
use Rattle.std.proofs.lemmas.List.Elements.{All-nil}
use Rattle.vx_base.specs.Paths.{FileName}
use Rattle.vx_base.specs.declared.inode.DirEntry.{DirEntry}
use Rattle.vx_dir.specs.Sizes.{Entries, used_by}
use Rattle.vx_dir.specs.Directories.{IsKept, empty, entry_room, HasShortNames, is_named, place_of, holds, block_of, inode_in, name_count, HasDistinctNames, blocks_with, without_entry}
use Rattle.vx_dir.specs.declared.name_index.Spot.{Spot}
use Rattle.vx_dir.specs.Index.{Spots, spot_in, spot_of, Indexes, AreNew, HasGained}
use Rattle.vx_dir.proofs.Adding.{absent}
use Rattle.vx_dir.proofs.Places.{count_none}
use Rattle.vx_dir.proofs.NameMap.{get_inserted, get_removed}
use Rattle.vx_dir.proofs.InBlock.{spot_at, or_none, map_found, holds_inode, no_inode, inode_push, inode_without, count_without}

none_if : {A : Type 0} (x : Option A) → is_some x ≡ false → x ≡ None
none_if None h = refl
none_if (Some a) h = cc

-- ---- where a name has its spot

absent_spot : (name : FileName) (blocks : List Entries) → name_count name blocks ≡ 0 → spot_of name blocks ≡ None
absent_spot name blocks none =
    let k : ℕ = block_of name blocks in
    let here : inode_in name (get_or blocks k []) ≡ None = elim (cases_lt k (length blocks)) [
      | inl lt ↦ no_inode name (get_or blocks k []) (omega (arith, get_or-le-sum_by (λ (b : Entries). count_by (is_named name) b) blocks k [] lt))
      | inr past ↦ ap (inode_in name) (get_or_past blocks k [] past)
    ] in
    ap (option_map (spot_at k)) here

unlisted : (name : FileName) (blocks : List Entries) → length blocks ≤ block_of name blocks → spot_of name blocks ≡ None
unlisted name blocks past = absent_spot name blocks (absent blocks name past)

listed : (name : FileName) (blocks : List Entries) → is_some (spot_of name blocks) ≡ nat_lt (block_of name blocks) (length blocks)
listed name blocks = elim (cases_lt (block_of name blocks) (length blocks)) [
  | inl lt ↦
      let t : nat_lt (block_of name blocks) (length blocks) ≡ true = grind (arith, nat_tests) in
      map_found (spot_at (block_of name blocks)) (inode_in name (get_or blocks (block_of name blocks) []))
      ∙ sym (holds_inode name (get_or blocks (block_of name blocks) [])) ∙ passes_at_first (holds name) blocks [] lt ∙ sym t
  | inr past ↦
      let f : nat_lt (block_of name blocks) (length blocks) ≡ false = grind (arith, nat_tests) in
      ap (λ (o : Option Spot). is_some o) (unlisted name blocks past) ∙ sym f
]

abbrev spot_fields : Option Spot → ℕ × Option ℕ
spot_fields None = (0, None)
spot_fields (Some s) = (s.block, Some s.ino)

spot_is : (k : ℕ) (o : Option ℕ) (s : Spot) → option_map (spot_at k) o ≡ Some s → (k ≡ s.block) × (o ≡ Some s.ino)
spot_is k None s h = cc
spot_is k (Some ino) s h = (ap (λ (p : ℕ × Option ℕ). p.0) (ap spot_fields h), ap (λ (p : ℕ × Option ℕ). p.1) (ap spot_fields h))

spot_none : (k : ℕ) (o : Option ℕ) → option_map (spot_at k) o ≡ None → o ≡ None
spot_none k None h = refl
spot_none k (Some ino) h = cc

-- ---- one block of them changes

module _ (name : FileName) (blocks : List Entries) (i : ℕ) (b : Entries) where
  -- .. for other names
  spot_set : i < length blocks → inode_in name b ≡ inode_in name (get_or blocks i []) → spot_of name (set blocks i b) ≡ spot_of name blocks
  spot_set within same =
      let held : holds name b ≡ holds name (get_or blocks i []) = holds_inode name b ∙ ap (λ (o : Option ℕ). is_some o) same ∙ sym (holds_inode name (get_or blocks i [])) in
      let k : ℕ = block_of name blocks in
      let inode : inode_in name (get_or (set blocks i b) k []) ≡ inode_in name (get_or blocks k []) = elim (cases_eq k i) [
        | inl at ↦ subst (λ (n : ℕ). inode_in name (get_or (set blocks i b) n []) ≡ inode_in name (get_or blocks n [])) (sym at) (ap (inode_in name) (get_or-set_same blocks i b [] within) ∙ same)
        | inr off ↦ ap (inode_in name) (get_or-set_other blocks i k b [] off)
      ] in
      ap (λ (n : ℕ). spot_in n name (get_or (set blocks i b) n [])) (position_or_len-set (holds name) blocks i b [] held) ∙ ap (option_map (spot_at k)) inode

  -- .. for a name that none held
  spot_new : (ino : ℕ) → i < length blocks → length blocks ≤ block_of name blocks → inode_in name b ≡ Some ino → spot_of name (set blocks i b) ≡ Some (spot_at i ino)
  spot_new ino within new is =
      let held : holds name b ≡ true = holds_inode name b ∙ ap (λ (o : Option ℕ). is_some o) is in
      let at : get_or (set blocks i b) i [] ≡ b = get_or-set_same blocks i b [] within in
      let first : block_of name (set blocks i b) ≡ i = position_or_len_is (holds name) (set blocks i b) i [] (omega (arith, length-set {A = Entries}))
      (λ k before. ap (holds name) (get_or-set_other blocks i k b [] (omega arith)) ∙ fails_before_first (holds name) blocks k [] (omega arith)) (λ _. ap (holds name) at ∙ held) in
      ap (λ (n : ℕ). spot_in n name (get_or (set blocks i b) n [])) first ∙ ap (option_map (spot_at i)) (ap (inode_in name) at ∙ is)

-- ---- a further block

or_some : {A : Type 0} (x y : Option A) → is_some x ≡ true → option_or x y ≡ x
or_some None y h = cc
or_some (Some a) y h = refl

further_case : (name : FileName) (blocks : List Entries) (b : Entries) → length blocks ≤ block_of name blocks → (t : Bool) → holds name b ≡ t → spot_of name (blocks ++ b ∷ []) ≡ spot_in (length blocks) name b
further_case name blocks b past true held =
    let last : get_or (blocks ++ b ∷ []) (length blocks) [] ≡ b = get_or-append_seam blocks b [] [] in
    let first : block_of name (blocks ++ b ∷ []) ≡ length blocks = position_or_len_is (holds name) (blocks ++ b ∷ []) (length blocks) [] (omega (arith, length-append {A = Entries}))
    (λ j before. ap (holds name) (get_or_append_left blocks (b ∷ []) [] j before) ∙ fails_before_first (holds name) blocks j [] (omega arith)) (λ _. ap (holds name) last ∙ held) in
    ap (λ (n : ℕ). spot_in n name (get_or (blocks ++ b ∷ []) n [])) first ∙ ap (spot_in (length blocks) name) last
further_case name blocks b past false off =
    let none : length b ≤ place_of name b = grind (arith, nat_tests) in
    absent_spot name (blocks ++ b ∷ []) (omega (arith, sum_by_push (λ (x : Entries). count_by (is_named name) x) blocks b, absent blocks name past, count_none (is_named name) b none))
    ∙ sym (ap (option_map (spot_at (length blocks))) (none_if (inode_in name b) (sym (holds_inode name b) ∙ off)))

spot_further : (name : FileName) (blocks : List Entries) (b : Entries) → spot_of name (blocks ++ b ∷ []) ≡ option_or (spot_of name blocks) (spot_in (length blocks) name b)
spot_further name blocks b =
    let k : ℕ = block_of name blocks in
    let all : List Entries = blocks ++ b ∷ [] in
    elim (cases_lt k (length blocks)) [
      | inl lt ↦
          let t : nat_lt k (length blocks) ≡ true = grind (arith, nat_tests) in
          let here : get_or all k [] ≡ get_or blocks k [] = get_or_append_left blocks (b ∷ []) [] k lt in
          let first : block_of name all ≡ k = position_or_len_is (holds name) all k [] (omega (arith, length-append {A = Entries}))
          (λ j before. ap (holds name) (get_or_append_left blocks (b ∷ []) [] j (omega arith)) ∙ fails_before_first (holds name) blocks j [] before) (λ _. ap (holds name) here ∙ passes_at_first (holds name) blocks [] lt) in
          ap (λ (n : ℕ). spot_in n name (get_or all n [])) first ∙ ap (spot_in k name) here ∙ sym (or_some (spot_of name blocks) (spot_in (length blocks) name b) (listed name blocks ∙ t))
      | inr past ↦
          further_case name blocks b past (holds name b) refl ∙ sym (ap (λ (o : Option Spot). option_or o (spot_in (length blocks) name b)) (unlisted name blocks past))
    ]

-- ---- the index keeps up

module _ (blocks : List Entries) (spots : Spots) (index : Indexes blocks spots) where
  module _ (i : ℕ) (e : DirEntry) (new : length blocks ≤ block_of e.name blocks) where
    set_case : (q : FileName) (b : Bool) → is_named q e ≡ b → i < length blocks → spot_of q (set blocks i (get_or blocks i [] ++ e ∷ [])) ≡ cond b (Some (spot_at i e.ino)) (spot_of q blocks)
    set_case q true named within =
        let is : e.name ≡ q = (bytes_eq-Decides e.name q).0 named in
        let new_too : length blocks ≤ block_of q blocks = subst (λ (n : FileName). length blocks ≤ block_of n blocks) is new in
        let none : inode_in q (get_or blocks i []) ≡ None = none_if (inode_in q (get_or blocks i [])) (sym (holds_inode q (get_or blocks i [])) ∙ fails_before_first (holds q) blocks i [] (omega arith)) in
        spot_new q blocks i (get_or blocks i [] ++ e ∷ []) e.ino within new_too
        (inode_push q (get_or blocks i []) e ∙ ap (λ (t : Bool). option_or (inode_in q (get_or blocks i [])) (cond t (Some e.ino) None)) named ∙ ap (λ (o : Option ℕ). option_or o (Some e.ino)) none)
    set_case q false other within =
        spot_set q blocks i (get_or blocks i [] ++ e ∷ []) within
        (inode_push q (get_or blocks i []) e ∙ ap (λ (t : Bool). option_or (inode_in q (get_or blocks i [])) (cond t (Some e.ino) None)) other ∙ or_none (inode_in q (get_or blocks i [])))

    push_case : (q : FileName) (b : Bool) → is_named q e ≡ b → spot_of q (blocks ++ (e ∷ []) ∷ []) ≡ cond b (Some (spot_at (length blocks) e.ino)) (spot_of q blocks)
    push_case q true named =
        let is : e.name ≡ q = (bytes_eq-Decides e.name q).0 named in
        let none : spot_of q blocks ≡ None = unlisted q blocks (subst (λ (n : FileName). length blocks ≤ block_of n blocks) is new) in
        spot_further q blocks (e ∷ []) ∙ ap (λ (o : Option Spot). option_or o (spot_in (length blocks) q (e ∷ []))) none
        ∙ ap (option_map (spot_at (length blocks))) (inode_push q [] e ∙ ap (λ (t : Bool). cond t (Some e.ino) None) named)
    push_case q false other =
        spot_further q blocks (e ∷ []) ∙ ap (option_or (spot_of q blocks)) (ap (option_map (spot_at (length blocks))) (inode_push q [] e ∙ ap (λ (t : Bool). cond t (Some e.ino) None) other))
        ∙ or_none (spot_of q blocks)

    spot_with : (q : FileName) → i ≤ length blocks → spot_of q (blocks_with blocks i e) ≡ cond (is_named q e) (Some (spot_at i e.ino)) (spot_of q blocks)
    spot_with q within = elim (cases_lt i (length blocks)) [
      | inl lt ↦ let t : nat_lt i (length blocks) ≡ true = grind (arith, nat_tests) in rw t (set_case q (is_named q e) refl lt)
      | inr past ↦
          let t : nat_lt i (length blocks) ≡ false = grind (arith, nat_tests) in
          let last : length blocks ≡ i = omega arith in
          rw t (push_case q (is_named q e) refl ∙ ap (λ (n : ℕ). cond (is_named q e) (Some (spot_at n e.ino)) (spot_of q blocks)) last)
    ]

    pub indexes_with : i ≤ length blocks → Indexes (blocks_with blocks i e) (map.insert spots e.name (spot_at i e.ino))
    indexes_with within q = get_inserted spots e.name (spot_at i e.ino) q ∙ ap (cond (is_named q e) (Some (spot_at i e.ino))) (index q) ∙ sym (spot_with q within)

  module _ (name : FileName) (i : ℕ) (is : i ≡ block_of name blocks) (within : i < length blocks) (distinct : HasDistinctNames blocks) where
    held : holds name (get_or blocks i []) ≡ true
    held = ap (λ (k : ℕ). holds name (get_or blocks k [])) is ∙ passes_at_first (holds name) blocks [] (omega arith)

    gone : spot_of name (set blocks i (without_entry name (get_or blocks i []))) ≡ None
    gone = absent_spot name (set blocks i (without_entry name (get_or blocks i [])))
        (omega (arith, sum_by-set (λ (b : Entries). count_by (is_named name) b) blocks i (without_entry name (get_or blocks i [])) [] within, count_without name (get_or blocks i []) held, distinct name))

    spot_without : (q : FileName) (b : Bool) → bytes_eq name q ≡ b → spot_of q (set blocks i (without_entry name (get_or blocks i []))) ≡ cond b None (spot_of q blocks)
    spot_without q true same = subst (λ (n : FileName). spot_of n (set blocks i (without_entry name (get_or blocks i []))) ≡ None) ((bytes_eq-Decides name q).0 same) gone
    spot_without q false other = spot_set q blocks i (without_entry name (get_or blocks i [])) within (inode_without name q (get_or blocks i []) other)

    pub indexes_without : Indexes (set blocks i (without_entry name (get_or blocks i []))) (map.remove spots name)
    indexes_without q = get_removed spots name q ∙ ap (cond (bytes_eq name q) None) (index q) ∙ sym (spot_without q (bytes_eq name q) refl)

  -- a name that is not there is taken out
  none_to_take : (name q : FileName) (b : Bool) → bytes_eq name q ≡ b → map.get spots name ≡ None → cond b None (map.get spots q) ≡ map.get spots q
  none_to_take name q true same none = sym (subst (λ (n : FileName). map.get spots n ≡ None) ((bytes_eq-Decides name q).0 same) none)
  none_to_take name q false other none = refl

  pub indexes_as_before : (name : FileName) → map.get spots name ≡ None → Indexes blocks (map.remove spots name)
  indexes_as_before name none q = get_removed spots name q ∙ none_to_take name q (bytes_eq name q) refl none ∙ index q

  -- ---- a whole block

  module _ (b : Entries) where
    pub indexes_further : (after : Spots) → HasGained (length blocks) b spots after → Indexes (blocks ++ b ∷ []) after
    indexes_further after gained q = gained q ∙ ap (λ (o : Option Spot). option_or o (spot_in (length blocks) q b)) (index q) ∙ sym (spot_further q blocks b)

    pub new_names : HasDistinctNames (blocks ++ b ∷ []) → AreNew b spots
    new_names distinct q there =
        index q ∙ absent_spot q blocks (omega (arith, distinct q, sum_by_push (λ (x : Entries). count_by (is_named q) x) blocks b, count_without q b there))

  -- ---- what the index answers

  index_holds : (name : FileName) → map.contains_key spots name ≡ nat_lt (block_of name blocks) (length blocks)
  index_holds name = ap (λ (o : Option Spot). is_some o) (index name) ∙ listed name blocks

  pub is_there : (name : FileName) → map.contains_key spots name ≡ true → block_of name blocks < length blocks
  is_there name on = let t : nat_lt (block_of name blocks) (length blocks) ≡ true = sym (index_holds name) ∙ on in grind (arith, nat_tests)

  pub is_new : (name : FileName) → map.contains_key spots name ≡ false → length blocks ≤ block_of name blocks
  is_new name off = let f : nat_lt (block_of name blocks) (length blocks) ≡ false = sym (index_holds name) ∙ off in grind (arith, nat_tests)

  pub lacks_new : (name : FileName) → length blocks ≤ block_of name blocks → map.get spots name ≡ None
  lacks_new name new = index name ∙ unlisted name blocks new

  -- a spot says where the name stands and what it means
  pub found : (name : FileName) (s : Spot) → map.get spots name ≡ Some s → (block_of name blocks ≡ s.block) × (inode_in name (get_or blocks (block_of name blocks) []) ≡ Some s.ino)
  found name s is = spot_is (block_of name blocks) (inode_in name (get_or blocks (block_of name blocks) [])) s (sym (index name) ∙ is)

  pub found_there : (name : FileName) (s : Spot) → map.get spots name ≡ Some s → block_of name blocks < length blocks
  found_there name s is = is_there name (ap (λ (o : Option Spot). is_some o) is)

  pub missed : (name : FileName) → map.get spots name ≡ None → inode_in name (get_or blocks (block_of name blocks) []) ≡ None
  missed name none = spot_none (block_of name blocks) (inode_in name (get_or blocks (block_of name blocks) [])) (sym (index name) ∙ none)

pub no_index : Indexes [] map.empty
no_index q = map.get-empty (slice_cmp nat_cmp) q

pub distinct_last : (blocks : List Entries) (b : Entries) → HasDistinctNames (blocks ++ b ∷ []) → (q : FileName) → count_by (is_named q) b ≤ 1
distinct_last blocks b distinct q = omega (arith, distinct q, sum_by_push (λ (x : Entries). count_by (is_named q) x) blocks b)

pub distinct_front : (blocks : List Entries) (i : ℕ) → HasDistinctNames blocks → HasDistinctNames (take i blocks)
distinct_front blocks i distinct q = omega (arith, distinct q, sum_by-take-le (λ (x : Entries). count_by (is_named q) x) blocks i)

pub kept_empty : (block_size limit : ℕ) → 1024 ≤ block_size → block_size ≤ 8192 → limit ≤ 64 → IsKept (empty block_size limit)
kept_empty block_size limit least greatest few = record {
  least_size = least;
  greatest_size = greatest;
  few_blocks = few;
  within = omega arith;
  fits = All-nil (λ (b : Entries). used_by b ≤ entry_room block_size);
  short = All-nil HasShortNames;
  distinct = λ q. omega arith;
}

-- ---- the blocks so far, and the next

module _ (blocks : List Entries) (i : ℕ) (b : Entries) (within : i < length blocks) (is : b ≡ get_or blocks i b) where
  next : take (i + 1) blocks ≡ take i blocks ++ b ∷ []
  next = take_more blocks i b within ∙ ap (λ (x : Entries). take i blocks ++ x ∷ []) (sym is)

  distinct_next : HasDistinctNames blocks → HasDistinctNames (take i blocks ++ b ∷ [])
  distinct_next distinct = subst HasDistinctNames next (distinct_front blocks (i + 1) distinct)

  pub distinct_at : HasDistinctNames blocks → (q : FileName) → count_by (is_named q) b ≤ 1
  distinct_at distinct = distinct_last (take i blocks) b (distinct_next distinct)

  pub new_at : (spots : Spots) → Indexes (take i blocks) spots → HasDistinctNames blocks → AreNew b spots
  new_at spots index distinct = new_names (take i blocks) spots index b (distinct_next distinct)

  pub indexes_more : (spots after : Spots) → Indexes (take i blocks) spots → HasGained i b spots after → Indexes (take (i + 1) blocks) after
  indexes_more spots after index gained =
      let long : length (take i blocks) ≡ i = length-take-le i blocks (omega arith) in
      subst (λ (bs : List Entries). Indexes bs after) (sym next) (indexes_further (take i blocks) spots index b after (subst (λ (n : ℕ). HasGained n b spots after) (sym long) gained))
