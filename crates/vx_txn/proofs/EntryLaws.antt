-- What a directory's names mean, and its blocks after a change.
use Rattle.std.proofs.Common.{◌≡◌, ◌≢◌, ℕ, zero, suc, ◌+◌, ◌*◌, ◌<◌, ◌≤◌, Bool, true, false, not, cond, List, [], ◌∷◌, ◌++◌, length, map, Option, Some, None, refl, sym, ◌∙◌, ap, arith, set, get_or, inl, inr, length-append}
use Rattle.std.specs.Prelude.{is_some, Result, Ok, Err, IfOk, OnOk, OnErr}
use Rattle.vx_dir.specs.declared.refusal.NoEnt.{NoEnt}
use Rattle.std.specs.Option.{option_map, option_or, unwrap_or}
use Rattle.std.specs.List.{filter, flat_map, count_by, position_or_len, remove, slice_get, sum_by}
use Rattle.std.specs.Ordering.{nat_cmp, eq_by_cmp}
use Rattle.std.specs.Cmp.{eq_by_cmp_equiv}
use Rattle.std.specs.Cmp.Lexicographic.{slice_cmp, nat_list_cmp_total, texts_ties}
use Rattle.std.specs.FinMap as map
use Rattle.std.proofs.lemmas.Bool.{cases_Bool, cases_lt, le-ltb}
use Rattle.std.proofs.lemmas.Bool.Decides.{nat_tests}
use Rattle.std.proofs.lemmas.List.Sums.{sum_by-cons, passes_at_first, get_or-le-sum_by}
use Rattle.std.proofs.lemmas.Option.{slice_get-get_or, slice_get_past, none-some, same_Some}
use Rattle.std.proofs.lemmas.List.{get_or_past}
use Rattle.vx_base.specs.Paths.{FileName}
use Rattle.vx_base.specs.declared.inode.DirEntry.{DirEntry}
use Rattle.vx_dir.specs.Sizes.{Entries}
use Rattle.vx_dir.specs.Directories.{Directory, is_named, place_of, holds, block_of, inode_in, inode_of, name_count, without_entry, without_name, IsKept, is_there, has_place, place_for, add_answer}
use Rattle.vx_dir.specs.declared.refusal.DirRefusal.{DirRefusal}
use Rattle.vx_dir.specs.declared.refusal.DirRefusal.TheVariants as no
use Rattle.vx_model.specs.Reads.{entries_from, name_to_inode}
use Rattle.vx_extents.specs.Extents.{Mapped}
use Rattle.vx_model.specs.Layout.{DirectoryBlock}
use Rattle.vx_model.specs.Layout as layout
use Rattle.vx_model.specs.Touching.{IsOnlyIn}
use Rattle.vx_txn.specs.Directories.{others, placed}

nobody : DirEntry
nobody = record { ino = 0; name = [] }

-- ---- what a name means

same_test : (name : FileName) (e : DirEntry) → eq_by_cmp (slice_cmp nat_cmp) name e.name ≡ is_named name e
same_test name e = (eq_by_cmp_equiv nat_list_cmp_total).symm name e.name ∙ sym (texts_ties e.name name)

pub found_by : (b : Bool) (name : FileName) (e : DirEntry) (es : Entries) → is_named name e ≡ b → inode_in name (e ∷ es) ≡ cond b (Some e.ino) (inode_in name es)
found_by true name e es is = rw is refl
found_by false name e es is =
    let q : place_of name (e ∷ es) ≡ suc (place_of name es) = rw is (omega arith) in
    ap (λ (i : ℕ). option_map (λ (x : DirEntry). x.ino) (slice_get (e ∷ es) i)) q

pub find_in : (name : FileName) (es : Entries) → map.find (slice_cmp nat_cmp) name (map name_to_inode es) ≡ inode_in name es
find_in name [] = refl
find_in name (e ∷ es) =
    ap (λ b. cond b (Some e.ino) (map.find (slice_cmp nat_cmp) name (map name_to_inode es))) (same_test name e)
    ∙ ap (cond (is_named name e) (Some e.ino)) (find_in name es) ∙ sym (found_by (is_named name e) name e es refl)

-- the entries of a list, by name
pub get_entries : (name : FileName) (es : Entries) → map.get (entries_from es) name ≡ inode_in name es
get_entries name es = map.get-from_entries nat_list_cmp_total (map name_to_inode es) name ∙ find_in name es

-- ---- an entry less

module _ {X : Type 0} (p : X → Bool) where
  abbrev rest_of : List X → List X
  rest_of xs = filter (λ x. not (p x)) xs

  pub count_cons : (b : Bool) (x : X) (xs : List X) → p x ≡ b → count_by p (x ∷ xs) ≡ cond b 1 0 + count_by p xs
  count_cons b x xs is = sum_by-cons (λ y. cond (p y) 1 0) x xs ∙ ap (λ (c : Bool). cond c 1 0 + count_by p xs) is

  none_step : (b : Bool) (x : X) (xs : List X) → p x ≡ b → count_by p (x ∷ xs) ≡ 0 → (count_by p xs ≡ 0 → rest_of xs ≡ xs) → rest_of (x ∷ xs) ≡ x ∷ xs
  none_step true x xs is none step = let e : count_by p (x ∷ xs) ≡ 1 + count_by p xs = count_cons true x xs is in absurd (omega arith)
  none_step false x xs is none step = let e : count_by p (x ∷ xs) ≡ 0 + count_by p xs = count_cons false x xs is in rw is (ap (λ (ys : List X). x ∷ ys) (step (omega arith)))

  pub rest_all : (xs : List X) → count_by p xs ≡ 0 → rest_of xs ≡ xs
  rest_all [] none = refl
  rest_all (x ∷ xs) none = none_step (p x) x xs refl none (rest_all xs)

  pub none_passes : (xs : List X) → length xs ≤ position_or_len p xs → count_by p xs ≡ 0
  none_passes [] h = refl
  none_passes (x ∷ xs) h = elim (cases_Bool (p x)) [
    | inl hit ↦ let e : position_or_len p (x ∷ xs) ≡ 0 = rw hit refl in absurd (omega arith)
    | inr miss ↦ let e : position_or_len p (x ∷ xs) ≡ 1 + position_or_len p xs = rw miss refl in
        let f : count_by p (x ∷ xs) ≡ 0 + count_by p xs = count_cons false x xs miss in
        let z : count_by p xs ≡ 0 = none_passes xs (omega arith) in omega arith
  ]

  pub rest_one : (xs : List X) → count_by p xs ≤ 1 → position_or_len p xs < length xs → remove xs (position_or_len p xs) ≡ rest_of xs
  rest_one [] few within = absurd (omega arith)
  rest_one (x ∷ xs) few within = elim (cases_Bool (p x)) [
    | inl hit ↦ let e : count_by p (x ∷ xs) ≡ 1 + count_by p xs = count_cons true x xs hit in rw (hit, rest_all xs (omega arith)) refl
    | inr miss ↦
        let e : count_by p (x ∷ xs) ≡ 0 + count_by p xs = count_cons false x xs miss in
        let q : position_or_len p (x ∷ xs) ≡ suc (position_or_len p xs) = rw miss (omega arith) in
        rw (q, miss) (ap (λ (ys : List X). x ∷ ys) (rest_one xs (omega arith) (omega arith)))
  ]

module _ (name : FileName) where
  count_blocks : (b : Entries) (bs : List Entries) → name_count name (b ∷ bs) ≡ count_by (is_named name) b + name_count name bs
  count_blocks b bs = sum_by-cons (λ (x : Entries). count_by (is_named name) x) b bs

  all_rest : (bs : List Entries) → name_count name bs ≡ 0 → map (others name) bs ≡ bs
  all_rest [] none = refl
  all_rest (b ∷ bs) none =
      let e = count_blocks b bs in
      let here : others name b ≡ b = rest_all (is_named name) b (omega arith) in
      let later : map (others name) bs ≡ bs = all_rest bs (omega arith) in
      rw (here, later) refl

  not_held : (b : Entries) → holds name b ≡ false → count_by (is_named name) b ≡ 0
  not_held b miss = none_passes (is_named name) b (grind (arith, nat_tests))

  pub none_named : (bs : List Entries) → length bs ≤ block_of name bs → name_count name bs ≡ 0
  none_named [] h = refl
  none_named (b ∷ bs) h = elim (cases_Bool (holds name b)) [
    | inl hit ↦ let e : block_of name (b ∷ bs) ≡ 0 = rw hit refl in absurd (omega arith)
    | inr miss ↦ let e : block_of name (b ∷ bs) ≡ 1 + block_of name bs = rw miss refl in count_blocks b bs ∙ (let z = not_held b miss in let n = none_named bs (omega arith) in omega arith)
  ]

  held_count : (b : Entries) → holds name b ≡ true → 1 ≤ count_by (is_named name) b
  held_count b hit =
      let inside : place_of name b < length b = grind (arith, nat_tests) in
      let at : is_named name (get_or b (place_of name b) nobody) ≡ true = passes_at_first (is_named name) b nobody inside in
      let one : cond {A = ℕ} (is_named name (get_or b (place_of name b) nobody)) 1 0 ≡ 1 = ap (λ (t : Bool). cond t 1 0) at in
      let le = get_or-le-sum_by (λ (e : DirEntry). cond (is_named name e) 1 0) b (place_of name b) nobody inside in
      omega arith

  -- the first block that holds the name loses it
  pub one_rest : (bs : List Entries) → name_count name bs ≤ 1 → block_of name bs < length bs
      → set bs (block_of name bs) (without_entry name (get_or bs (block_of name bs) [])) ≡ map (others name) bs
  one_rest [] few within = absurd (omega arith)
  one_rest (b ∷ bs) few within = elim (cases_Bool (holds name b)) [
    | inl hit ↦
        let e = count_blocks b bs in
        let one = held_count b hit in
        let q : block_of name (b ∷ bs) ≡ 0 = rw hit refl in
        let inside : place_of name b < length b = grind (arith, nat_tests) in
        let here : without_entry name b ≡ others name b = rest_one (is_named name) b (omega arith) inside in
        let later : map (others name) bs ≡ bs = all_rest bs (omega arith) in
        rw (q, here, later) refl
    | inr miss ↦
        let e = count_blocks b bs in
        let q : block_of name (b ∷ bs) ≡ suc (block_of name bs) = rw miss (omega arith) in
        let here : others name b ≡ b = rest_all (is_named name) b (not_held b miss) in
        rw (q, here) (ap (λ (x : List Entries). b ∷ x) (one_rest bs (omega arith) (omega arith)))
  ]

  -- a name without a meaning is not there
  pub inode_here : (es : Entries) → holds name es ≡ true → is_some (inode_in name es) ≡ true
  inode_here es hit =
      let inside : place_of name es < length es = grind (arith, nat_tests) in
      ap (λ (o : Option DirEntry). is_some (option_map (λ (e : DirEntry). e.ino) o)) (slice_get-get_or es (place_of name es) nobody inside)

  pub not_there : (d : Directory) → inode_of d name ≡ None → length d.blocks ≤ block_of name d.blocks
  not_there d none = elim (cases_lt (block_of name d.blocks) (length d.blocks)) [
    | inl lt ↦
        let hit : holds name (get_or d.blocks (block_of name d.blocks) []) ≡ true = passes_at_first (holds name) d.blocks [] lt in
        let some = inode_here (get_or d.blocks (block_of name d.blocks) []) hit in
        absurd (let no : false ≡ true = sym (ap is_some none) ∙ some in cc)
    | inr le ↦ le
  ]

  pub there : (d : Directory) (ino : ℕ) → inode_of d name ≡ Some ino → block_of name d.blocks < length d.blocks
  there d ino is = elim (cases_lt (block_of name d.blocks) (length d.blocks)) [
    | inl lt ↦ lt
    | inr le ↦
        let past : get_or d.blocks (block_of name d.blocks) [] ≡ [] = get_or_past d.blocks (block_of name d.blocks) [] le in
        let none : inode_of d name ≡ None = ap (inode_in name) past in
        absurd (none-some ino (sym none ∙ is))
  ]

-- ---- the entries of several blocks

module _ (name : FileName) where
  append_by : (t : Bool) (x : ℕ) (a b : Option ℕ) → cond t (Some x) (option_or a b) ≡ option_or (cond t (Some x) a) b
  append_by true x a b = refl
  append_by false x a b = refl

  -- what a name means in two lists of entries
  pub in_append : (xs ys : Entries) → inode_in name (xs ++ ys) ≡ option_or (inode_in name xs) (inode_in name ys)
  in_append [] ys = refl
  in_append (e ∷ xs) ys =
      found_by (is_named name e) name e (xs ++ ys) refl ∙ ap (cond (is_named name e) (Some e.ino)) (in_append xs ys)
      ∙ append_by (is_named name e) e.ino (inode_in name xs) (inode_in name ys)
      ∙ sym (ap (λ (o : Option ℕ). option_or o (inode_in name ys)) (found_by (is_named name e) name e xs refl))

  not_in : (es : Entries) → holds name es ≡ false → inode_in name es ≡ None
  not_in es miss = ap (option_map (λ (e : DirEntry). e.ino)) (slice_get_past es (place_of name es) (grind (arith, nat_tests)))

  first_is : (o p : Option ℕ) → is_some o ≡ true → option_or o p ≡ o
  first_is None p some = absurd (cc)
  first_is (Some x) p some = refl

  -- a name means what it does in the first block that has it
  pub meaning_in : (bs : List Entries) → inode_in name (flat_map (λ (b : Entries). b) bs) ≡ inode_in name (get_or bs (block_of name bs) [])
  meaning_in [] = refl
  meaning_in (b ∷ bs) = elim (cases_Bool (holds name b)) [
    | inl hit ↦
        let q : block_of name (b ∷ bs) ≡ 0 = rw hit refl in
        in_append b (flat_map (λ (x : Entries). x) bs) ∙ first_is (inode_in name b) _ (inode_here name b hit) ∙ sym (ap (λ (i : ℕ). inode_in name (get_or (b ∷ bs) i [])) q)
    | inr miss ↦
        let q : block_of name (b ∷ bs) ≡ suc (block_of name bs) = rw miss (omega arith) in
        in_append b (flat_map (λ (x : Entries). x) bs) ∙ ap (λ (o : Option ℕ). option_or o (inode_in name (flat_map (λ (x : Entries). x) bs))) (not_in b miss) ∙ meaning_in bs
        ∙ sym (ap (λ (i : ℕ). inode_in name (get_or (b ∷ bs) i [])) q)
  ]

  -- how many entries of all blocks have the name
  count_append : (xs ys : Entries) → count_by (is_named name) (xs ++ ys) ≡ count_by (is_named name) xs + count_by (is_named name) ys
  count_append [] ys = let e : count_by (is_named name) [] ≡ 0 = refl in omega arith
  count_append (e ∷ xs) ys =
      let a = count_cons (is_named name) (is_named name e) e (xs ++ ys) refl in
      let b = count_cons (is_named name) (is_named name e) e xs refl in
      let c = count_append xs ys in omega arith

  pub count_all : (bs : List Entries) → count_by (is_named name) (flat_map (λ (b : Entries). b) bs) ≡ name_count name bs
  count_all [] = refl
  count_all (b ∷ bs) = let a = count_append b (flat_map (λ (x : Entries). x) bs) in let c = count_all bs in let d = count_blocks name b bs in omega arith

-- how many entries there are
pub length_all : (bs : List Entries) → length (flat_map (λ (b : Entries). b) bs) ≡ sum_by (λ (b : Entries). length b) bs
length_all [] = refl
length_all (b ∷ bs) = length-append b (flat_map (λ (x : Entries). x) bs) ∙ ap (λ (n : ℕ). length b + n) (length_all bs) ∙ sym (sum_by-cons (λ (x : Entries). length x) b bs)

-- ---- which blocks have a name

module _ (name : FileName) where
  none_at : (bs : List Entries) (j : ℕ) (es : Entries) → name_count name bs ≡ 0 → slice_get bs j ≡ Some es → count_by (is_named name) es ≡ 0
  none_at [] j es none got = absurd (none-some es got)
  none_at (b ∷ bs) zero es none got = let e = count_blocks name b bs in let same : b ≡ es = same_Some b es got in ap (count_by (is_named name)) (sym same) ∙ omega arith
  none_at (b ∷ bs) (suc j) es none got = let e = count_blocks name b bs in none_at bs j es (omega arith) got

  one_at : (bs : List Entries) (j : ℕ) (es : Entries) → name_count name bs ≤ 1 → j ≢ block_of name bs → slice_get bs j ≡ Some es → count_by (is_named name) es ≡ 0
  one_at [] j es few ne got = absurd (none-some es got)
  one_at (b ∷ bs) zero es few ne got = elim (cases_Bool (holds name b)) [
    | inl hit ↦ let q : block_of name (b ∷ bs) ≡ 0 = rw hit refl in absurd (ne (sym q))
    | inr miss ↦ let same : b ≡ es = same_Some b es got in ap (count_by (is_named name)) (sym same) ∙ not_held name b miss
  ]
  one_at (b ∷ bs) (suc j) es few ne got = elim (cases_Bool (holds name b)) [
    | inl hit ↦ let e = count_blocks name b bs in let one = held_count name b hit in none_at bs j es (omega arith) got
    | inr miss ↦
        let e = count_blocks name b bs in
        let q : block_of name (b ∷ bs) ≡ suc (block_of name bs) = rw miss (omega arith) in
        one_at bs j es (omega arith) (λ same. ne (ap (λ (k : ℕ). suc k) same ∙ sym q)) got
  ]

  pub placed_get : (pages : List Mapped) (bs : List Entries) (j : ℕ) (d : DirectoryBlock) → slice_get (placed pages bs) j ≡ Some d → slice_get bs j ≡ Some d.entries
  placed_get [] bs j d got = absurd (none-some d got)
  placed_get (m ∷ pages) [] j d got = absurd (none-some d got)
  placed_get (m ∷ pages) (es ∷ bs) zero d got = ap (λ (x : DirectoryBlock). Some x.entries) (same_Some _ d got)
  placed_get (m ∷ pages) (es ∷ bs) (suc j) d got = placed_get pages bs j d got

  as_it_was : (d : DirectoryBlock) → count_by (is_named name) d.entries ≡ 0 → layout.without_name name d ≡ d
  as_it_was d none = ap (λ (es : Entries). record d { entries = es }) (rest_all (is_named name) d.entries none)

  only_by : (pages : List Mapped) (d : Directory) (i : ℕ) (o : Option ℕ) → IsKept d → inode_of d name ≡ o → (is_some o ≡ true → i ≡ block_of name d.blocks) → IsOnlyIn name i (placed pages d.blocks)
  only_by pages d i None kept means at = λ j x ne got.
      as_it_was x (none_at d.blocks j x.entries (none_named name d.blocks (not_there name d means)) (placed_get pages d.blocks j x got))
  only_by pages d i (Some ino) kept means at = λ j x ne got.
      as_it_was x (one_at d.blocks j x.entries (kept.distinct name) (λ same. ne (same ∙ sym (at refl))) (placed_get pages d.blocks j x got))

  place_by : (o : Option ℕ) (b : ℕ) → is_some o ≡ true → unwrap_or (option_map (λ (ino : ℕ). b) o) 0 ≡ b
  place_by None b some = absurd (cc)
  place_by (Some x) b some = refl

  pub only_there : (pages : List Mapped) (d : Directory) (i : ℕ) → IsKept d → i ≡ unwrap_or (option_map (λ (ino : ℕ). block_of name d.blocks) (inode_of d name)) 0 → IsOnlyIn name i (placed pages d.blocks)
  only_there pages d i kept is = only_by pages d i (inode_of d name) kept refl (λ some. is ∙ place_by (inode_of d name) (block_of name d.blocks) some)

-- a name less, whether it was there or not
pub removed_by : (r : Result ℕ NoEnt) (d new : Directory) (name : FileName) → IsKept d → IfOk r (λ ino. inode_of d name ≡ Some ino) → OnErr r (inode_of d name ≡ None)
    → OnOk r (new ≡ without_name d name) → OnErr r (new ≡ d) → new ≡ record d { blocks = map (others name) d.blocks }
removed_by (Ok ino) d new name kept is miss ok err = ok ∙ ap (λ (bs : List Entries). record d { blocks = bs }) (one_rest name d.blocks (kept.distinct name) (there name d ino is))
removed_by (Err e) d new name kept is miss ok err =
    err ∙ ap (λ (bs : List Entries). record d { blocks = bs }) (sym (all_rest name d.blocks (none_named name d.blocks (not_there name d miss))))

-- ---- a name more

answers : (t h : Bool) (i : ℕ) (w big : DirRefusal) → t ≡ false → cond t (Err no.Exist) (cond h (Ok i) (Err big)) ≡ Err w → w ≡ big
answers true h i w big e is = absurd (cc)
answers false true i w big e is = cc
answers false false i w big e is = cc

module _ (d : Directory) (name : FileName) (new : inode_of d name ≡ None) where
  pub not_named : is_there d name ≡ false
  not_named = le-ltb (block_of name d.blocks) (length d.blocks) (not_there name d new)

  -- a name that isn't there is refused for want of a place alone
  pub refused_for_size : (w : DirRefusal) → add_answer d name ≡ Err w → w ≡ no.TooBig (d.block_size * (length d.blocks + 1))
  refused_for_size w is = answers (is_there d name) (has_place d (5 + length name)) (place_for d (5 + length name)) w _ not_named is
