-- The walk over directories.
use Rattle.std.proofs.Common.{◌≡◌, ◌⊎◌, ℕ, zero, suc, ◌+◌, ◌-◌, ◌<◌, ◌≤◌, Bool, true, false, List, [], ◌∷◌, ◌++◌, length, get_or, set, refl, sym, ap, subst, ◌∙◌, inl, inr, arith, get_or-set_same, get_or-set_other}
use Rattle.std.proofs.lemmas.Bool.{cases_eq, cases_lt}
use Rattle.std.proofs.lemmas.List.{length-set, length_push, get_or_append_left}
use Rattle.vx_check.specs.Reaching.{Children, children_of, Names, ReachedIn, IsReached, unmarked, Marks, IsWalk}

-- ---- one mark more

unmarked_less : (marks : List Bool) (n : ℕ) → get_or marks n true ≡ false → suc (unmarked (set marks n true)) ≡ unmarked marks
unmarked_less [] n h = absurd (cc)
unmarked_less (true ∷ ms) zero h = absurd (cc)
unmarked_less (false ∷ ms) zero h = refl
unmarked_less (true ∷ ms) (suc n) h = unmarked_less ms n h
unmarked_less (false ∷ ms) (suc n) h = ap suc (unmarked_less ms n h)

inside_same : (marks : List Bool) (n : ℕ) → n < length marks → get_or marks n true ≡ get_or marks n false
inside_same [] n lt = absurd (omega arith)
inside_same (m ∷ ms) zero lt = refl
inside_same (m ∷ ms) (suc n) lt = let fewer : n < length ms = omega arith in inside_same ms n fewer

pub names_more : (found : List ℕ) (x n : ℕ) → Names found n → Names (found ++ x ∷ []) n
names_more found x n h = record {
  at = h.at;
  inside = let e = length_push found x in let lt = h.inside in omega arith;
  is = get_or_append_left found (x ∷ []) 0 h.at h.inside ∙ h.is;
}

last_is : (xs : List ℕ) (y : ℕ) → get_or (xs ++ y ∷ []) (length xs) 0 ≡ y
last_is [] y = refl
last_is (z ∷ xs) y = last_is xs y

pub names_last : (found : List ℕ) (x : ℕ) → Names (found ++ x ∷ []) x
names_last found x = record {
  at = length found;
  inside = let e = length_push found x in omega arith;
  is = last_is found x;
}

module _ (marks : List Bool) (found targets : List ℕ) where
  pub no_mark : Marks marks found targets 0 marks found
  no_mark = record {
    length_is = refl;
    kept = λ n h. h;
    marked = λ j lt. absurd (omega arith);
    longer = omega arith;
    front = λ i lt. refl;
    from_targets = λ i low high. absurd (omega arith);
    listed = λ n h. inl h;
    spare = refl;
  }

  -- the next target is marked already
  pub same_mark : (t : ℕ) (ms : List Bool) (fs : List ℕ) → get_or ms (get_or targets t 0) false ≡ true → Marks marks found targets t ms fs → Marks marks found targets (t + 1) ms fs
  same_mark t ms fs here m = record {
    length_is = m.length_is;
    kept = m.kept;
    marked = λ j lt. elim (cases_eq j t) [
      | inl e ↦ subst (λ (x : ℕ). get_or ms (get_or targets x 0) false ≡ true) (sym e) here
      | inr ne ↦ m.marked j (omega arith)
    ];
    longer = m.longer;
    front = m.front;
    from_targets = λ i low high. let f = m.from_targets i low high in (f.0, let lt = f.1 in omega arith, f.2);
    listed = m.listed;
    spare = m.spare;
  }

  -- or it is marked now
  pub new_mark : (t x : ℕ) (ms : List Bool) (fs : List ℕ) → get_or targets t 0 ≡ x → x < length ms → get_or ms x false ≡ false → Marks marks found targets t ms fs
      → Marks marks found targets (t + 1) (set ms x true) (fs ++ x ∷ [])
  new_mark t x ms fs is lt free m = record {
    length_is = length-set ms x true ∙ m.length_is;
    kept = λ n h. still n (m.kept n h);
    marked = λ j less. elim (cases_eq j t) [
      | inl e ↦ subst (λ (y : ℕ). get_or (set ms x true) y false ≡ true) (sym (ap (λ (k : ℕ). get_or targets k 0) e ∙ is)) (get_or-set_same ms x true false lt)
      | inr ne ↦ still (get_or targets j 0) (m.marked j (omega arith))
    ];
    longer = let e = length_push fs x in let l = m.longer in omega arith;
    front = λ i low. let l = m.longer in let inside : i < length fs = omega arith in get_or_append_left fs (x ∷ []) 0 i inside ∙ m.front i low;
    from_targets = λ i low high. elim (cases_eq i (length fs)) [
      | inl e ↦ (t, omega arith, is ∙ sym (last_is fs x) ∙ ap (λ (k : ℕ). get_or (fs ++ x ∷ []) k 0) (sym e))
      | inr ne ↦
          let e = length_push fs x in
          let inside : i < length fs = omega arith in
          let f = m.from_targets i low inside in
          (f.0, (let less = f.1 in omega arith), f.2 ∙ sym (get_or_append_left fs (x ∷ []) 0 i inside))
    ];
    listed = λ n h. elim (cases_eq n x) [
      | inl e ↦ inr (subst (Names (fs ++ x ∷ [])) (sym e) (names_last fs x))
      | inr ne ↦ elim (m.listed n (sym (get_or-set_other ms x n true false ne) ∙ h)) [
        | inl was ↦ inl was
        | inr names ↦ inr (names_more fs x n names)
      ]
    ];
    spare =
        let less = unmarked_less ms x (inside_same ms x lt ∙ free) in
        let longer = length_push fs x in
        let was = m.spare in
        omega arith;
  }
    where
      still : (n : ℕ) → get_or ms n false ≡ true → get_or (set ms x true) n false ≡ true
      still n h = elim (cases_eq n x) [
        | inl e ↦ subst (λ (y : ℕ). get_or (set ms x true) y false ≡ true) (sym e) (get_or-set_same ms x true false lt)
        | inr ne ↦ get_or-set_other ms x n true false ne ∙ h
      ]

-- ---- one directory more

reached_below : (g : Children) (root d n : ℕ) → IsReached g root d → Names (children_of g d) n → IsReached g root n
reached_below g root d n r names = record { names = suc r.names; way = (d, r.way, names) }

module _ (g : Children) (root : ℕ) where
  pub walk_start : (ms : List Bool) → root < length g → length ms ≡ length g → ((n : ℕ) → get_or ms n false ≡ false) → IsWalk g root (set ms root true) (root ∷ []) 0
  walk_start ms lt long none = record {
    length_is = length-set ms root true ∙ long;
    root_marked = let inside : root < length ms = omega arith in get_or-set_same ms root true false inside;
    listed = λ n h. elim (cases_eq n root) [
      | inl e ↦ record { at = 0; inside = omega arith; is = sym e }
      | inr ne ↦ let bad : true ≡ false = sym h ∙ get_or-set_other ms root n true false ne ∙ none n in absurd (cc)
    ];
    inside = λ i low. first (λ (x : ℕ). x < length g) i low lt;
    reached = λ i low. first (IsReached g root) i low (record { names = 0; way = refl });
    closed = λ i low. absurd (omega arith);
    before = omega arith;
  }
    where
      first : (P : ℕ → Type 0) (i : ℕ) → i < 1 → P root → P (get_or (root ∷ []) i 0)
      first P zero low h = h
      first P (suc i) low h = absurd (omega arith)

  pub walk_more : (ms : List Bool) (fs : List ℕ) (next d : ℕ) (new_ms : List Bool) (new_fs : List ℕ) → next < length fs → get_or fs next 0 ≡ d
      → ((j : ℕ) → j < length (children_of g d) → get_or (children_of g d) j 0 < length g)
      → IsWalk g root ms fs next → Marks ms fs (children_of g d) (length (children_of g d)) new_ms new_fs → IsWalk g root new_ms new_fs (next + 1)
  walk_more ms fs next d new_ms new_fs lt is below w m = record {
    length_is = m.length_is ∙ w.length_is;
    root_marked = m.kept root w.root_marked;
    listed = λ n h. elim (m.listed n h) [
      | inl was ↦ moved n (w.listed n was)
      | inr names ↦ names
    ];
    inside = λ i high. elim (old_or_new i high) [
      | inl low ↦ subst (λ (x : ℕ). x < length g) (sym (m.front i low)) (w.inside i low)
      | inr f ↦ subst (λ (x : ℕ). x < length g) f.2 (below f.0 f.1)
    ];
    reached = λ i high. elim (old_or_new i high) [
      | inl low ↦ subst (IsReached g root) (sym (m.front i low)) (w.reached i low)
      | inr f ↦ reached_below g root d (get_or new_fs i 0) (subst (IsReached g root) is (w.reached next lt)) (record { at = f.0; inside = f.1; is = f.2 })
    ];
    closed = λ i less n names. elim (cases_eq i next) [
      | inl e ↦
          let same : get_or new_fs i 0 ≡ d = ap (λ (k : ℕ). get_or new_fs k 0) e ∙ m.front next lt ∙ is in
          let child = subst (λ (x : ℕ). Names (children_of g x) n) same names in
          subst (λ (x : ℕ). get_or new_ms x false ≡ true) child.is (m.marked child.at child.inside)
      | inr ne ↦
          let low : i < next = omega arith in
          let inside : i < length fs = omega arith in
          m.kept n (w.closed i low n (subst (λ (x : ℕ). Names (children_of g x) n) (m.front i inside) names))
    ];
    before = let l = m.longer in omega arith;
  }
    where
      old_or_new : (i : ℕ) → i < length new_fs → (i < length fs) ⊎ ((j : ℕ) × (j < length (children_of g d)) × (get_or (children_of g d) j 0 ≡ get_or new_fs i 0))
      old_or_new i high = elim (cases_lt i (length fs)) [
        | inl low ↦ inl low
        | inr at_least ↦ inr (m.from_targets i at_least high)
      ]

      moved : (n : ℕ) → Names fs n → Names new_fs n
      moved n names = record {
        at = names.at;
        inside = let l = m.longer in let a = names.inside in omega arith;
        is = m.front names.at names.inside ∙ names.is;
      }

  -- at the end all that is reached is marked, and nothing else
  pub walk_all : (ms : List Bool) (fs : List ℕ) (next : ℕ) → length fs ≤ next → IsWalk g root ms fs next → (n : ℕ) → IsReached g root n → get_or ms n false ≡ true
  walk_all ms fs next end w n r = go r.names n r.way
    where
      go : (k n : ℕ) → ReachedIn g root k n → get_or ms n false ≡ true
      go zero n way = subst (λ (x : ℕ). get_or ms x false ≡ true) (sym way) w.root_marked
      go (suc k) n way =
          let at = w.listed way.0 (go k way.0 way.1) in
          let low : at.at < next = let a = at.inside in omega arith in
          w.closed at.at low n (subst (λ (x : ℕ). Names (children_of g x) n) (sym at.is) way.2)

  pub walk_only : (ms : List Bool) (fs : List ℕ) (next : ℕ) → IsWalk g root ms fs next → (n : ℕ) → get_or ms n false ≡ true → IsReached g root n
  walk_only ms fs next w n h =
      let at = w.listed n h in
      subst (IsReached g root) at.is (w.reached at.at at.inside)

-- each turn takes a number from the list, and the list with what is not marked is as long as before
pub walk_less : (ms : List Bool) (fs targets : List ℕ) (t next : ℕ) (new_ms : List Bool) (new_fs : List ℕ) → next < length fs → Marks ms fs targets t new_ms new_fs
    → unmarked new_ms + length new_fs - (next + 1) < unmarked ms + length fs - next
walk_less ms fs targets t next new_ms new_fs lt m = let e = m.spare in omega arith
