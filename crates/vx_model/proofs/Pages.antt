-- Lists of pages that are shortened, filled and used.
use Rattle.std.proofs.Common.{◌≡◌, ◌≢◌, ◌⊎◌, ℕ, suc, ◌+◌, ◌-◌, ◌<◌, ◌≤◌, Bool, true, false, not, cond, List, [], ◌∷◌, length, Some, None, inl, inr, refl, sym, ap, ◌∙◌, subst, arith}
use Rattle.std.specs.Prelude.{◌==◌, nat_le, nat_lt, filter}
use Rattle.std.specs.Int.{div_ceil}
use Rattle.std.specs.List.{AllByRecursion}
use Rattle.std.proofs.lemmas.Bool.{eq-eqb, eqb-true, ltb-true, ltb-false, leb-true, leb-false, true≢false}
use Rattle.std.proofs.lemmas.Option.{none-some}
use Rattle.vx_base.specs.declared.inode.Extent.{Extent}
use Rattle.vx_base.specs.declared.kind.Kind.{Kind}
use Rattle.vx_base.specs.declared.kind.Kind.TheVariants.{Data, Reserved}
use Rattle.vx_extents.specs.Extents.{Mapped, mapped_at, with_page, follows, extent_from, extents_after, extent_count}
use Rattle.vx_extents.specs.Uses.{used_pages}
use Rattle.vx_space.specs.Space.{maps_for, most_pages}
use Rattle.vx_space.specs.Leaving.{pages_but}
use Rattle.vx_space.specs.Laws.{AreRising, IsPart, IsSamePage}

-- ---- fewer pages

pub rising_from : (a b : ℕ) (ms : List Mapped) → a ≤ b → AreRising b ms → AreRising a ms
rising_from a b [] le h = tt
rising_from a b (m ∷ ms) le h = (omega (arith, le, h.0), h.1, h.2)

rising_by : (a : ℕ) (m : Mapped) (ms : List Mapped) (t : Bool) → a ≤ m.page → m.page < most_pages → AreRising (m.page + 1) ms → AreRising a (cond t (m ∷ ms) ms)
rising_by a m ms true low high h = (low, high, h)
rising_by a m ms false low high h = rising_from a (m.page + 1) ms (omega (arith, low)) h

pub rising_filter : (keep : Mapped → Bool) (a : ℕ) (ms : List Mapped) → AreRising a ms → AreRising a (filter keep ms)
rising_filter keep a [] h = tt
rising_filter keep a (m ∷ ms) h = rising_by a m (filter keep ms) (keep m) h.0 h.1 (rising_filter keep (m.page + 1) ms h.2)

all_by : (P : Mapped → Type 0) (m : Mapped) (ms : List Mapped) (t : Bool) → P m → AllByRecursion P ms → AllByRecursion P (cond t (m ∷ ms) ms)
all_by P m ms true first h = (first, h)
all_by P m ms false first h = h

pub all_filter : (P : Mapped → Type 0) (keep : Mapped → Bool) (ms : List Mapped) → AllByRecursion P ms → AllByRecursion P (filter keep ms)
all_filter P keep [] h = tt
all_filter P keep (m ∷ ms) h = all_by P m (filter keep ms) (keep m) h.0 (all_filter P keep ms h.1)

-- what passes the test and what held of it
pub all_passing : (P Q : Mapped → Type 0) (keep : Mapped → Bool) → ((m : Mapped) → keep m ≡ true → P m → Q m) → (ms : List Mapped) → AllByRecursion P ms → AllByRecursion Q (filter keep ms)
all_passing P Q keep more [] h = tt
all_passing P Q keep more (m ∷ ms) h = by (keep m) refl (all_passing P Q keep more ms h.1)
  where
    by : (t : Bool) → keep m ≡ t → AllByRecursion Q (filter keep ms) → AllByRecursion Q (cond t (m ∷ filter keep ms) (filter keep ms))
    by true is rest = (more m is h.0, rest)
    by false is rest = rest

pub all_weaker : (P Q : Mapped → Type 0) → ((m : Mapped) → P m → Q m) → (ms : List Mapped) → AllByRecursion P ms → AllByRecursion Q ms
all_weaker P Q more [] h = tt
all_weaker P Q more (m ∷ ms) h = (more m h.0, all_weaker P Q more ms h.1)

part_both : (m n : Mapped) (ms ns : List Mapped) (t u : Bool) → t ≡ u → IsSamePage m n → IsPart ms ns → IsPart (cond t (m ∷ ms) ms) (cond u (n ∷ ns) ns)
part_both m n ms ns true true is same h = inl (same, h)
part_both m n ms ns true false is same h = absurd cc
part_both m n ms ns false true is same h = absurd cc
part_both m n ms ns false false is same h = h

pub part_more : (ms : List Mapped) (n : Mapped) (ns : List Mapped) → IsPart ms ns → IsPart ms (n ∷ ns)
part_more [] n ns h = tt
part_more (m ∷ ms) n ns h = inr h

part_one : (ms : List Mapped) (n : Mapped) (ns : List Mapped) (t : Bool) → IsPart ms ns → IsPart ms (cond t (n ∷ ns) ns)
part_one ms n ns true h = part_more ms n ns h
part_one ms n ns false h = h

pub part_but : (goes : ℕ → Bool) (ms ns : List Mapped) → IsPart ms ns → IsPart (pages_but goes ms) (pages_but goes ns)
part_but goes [] ns h = tt
part_but goes (m ∷ ms) [] h = absurd h
part_but goes (m ∷ ms) (n ∷ ns) (inl h) = part_both m n (pages_but goes ms) (pages_but goes ns) (not (goes m.page)) (not (goes n.page)) (ap (λ p. not (goes p)) h.0.page) h.0 (part_but goes ms ns h.1)
part_but goes (m ∷ ms) (n ∷ ns) (inr h) = part_one (pages_but goes (m ∷ ms)) n (pages_but goes ns) (not (goes n.page)) (part_but goes (m ∷ ms) ns h)

-- ---- no more extents

after_one : (t : Bool) (xs : List Extent) (x : Extent) → length xs ≤ length (cond t xs (x ∷ xs))
after_one true xs x = omega arith
after_one false xs x = omega arith

after_most : (t : Bool) (xs : List Extent) (x : Extent) → length (cond t xs (x ∷ xs)) ≤ suc (length xs)
after_most true xs x = omega arith
after_most false xs x = omega arith

after_same : (t : Bool) (xs ys : List Extent) (x y : Extent) → length xs ≤ length ys → length (cond t xs (x ∷ xs)) ≤ length (cond t ys (y ∷ ys))
after_same true xs ys x y le = le
after_same false xs ys x y le = omega (arith, le)

-- Pages are left out, and none that stays goes on from one that is left out.
module _ (keep : Mapped → Bool) (breaks : (n k : Mapped) → keep n ≡ false → keep k ≡ true → follows n k ≡ false) where
  -- p stays, and n is p or is left out
  fewer_after : (p n : Mapped) (ms : List Mapped) → (n ≡ p) ⊎ (keep n ≡ false) → length (extents_after p (filter keep ms)) ≤ length (extents_after n ms)
  fewer_after p n [] h = omega arith
  fewer_after p n (k ∷ ms) h = by (keep k) refl (fewer_after k k ms (inl refl)) (λ out. fewer_after p k ms (inr out)) h
    where
      by : (t : Bool) → keep k ≡ t → length (extents_after k (filter keep ms)) ≤ length (extents_after k ms) → (keep k ≡ false → length (extents_after p (filter keep ms)) ≤ length (extents_after k ms))
          → (n ≡ p) ⊎ (keep n ≡ false) → length (extents_after p (cond t (k ∷ filter keep ms) (filter keep ms))) ≤ length (extents_after n (k ∷ ms))
      by true is rest out (inl e) =
          subst (λ (x : Mapped). length (extents_after p (k ∷ filter keep ms)) ≤ length (extents_after x (k ∷ ms))) (sym e)
          (after_same (follows p k) (extents_after k (filter keep ms)) (extents_after k ms) (extent_from k (filter keep ms)) (extent_from k ms) rest)
      by true is rest out (inr left) =
          let new : length (extents_after n (k ∷ ms)) ≡ suc (length (extents_after k ms)) = ap (λ t. length (cond t (extents_after k ms) (extent_from k ms ∷ extents_after k ms))) (breaks n k left is) in
          let most = after_most (follows p k) (extents_after k (filter keep ms)) (extent_from k (filter keep ms)) in
          omega (arith, new, most, rest)
      by false is rest out h = let more = after_one (follows n k) (extents_after k ms) (extent_from k ms) in let low = out is in omega (arith, more, low)

  count_first : (m : Mapped) (ms : List Mapped) → extent_count ms ≤ extent_count (m ∷ ms)
  count_first m [] = omega arith
  count_first m (k ∷ ms) = let more = after_one (follows m k) (extents_after k ms) (extent_from k ms) in omega (arith, more)

  pub fewer_extents : (ms : List Mapped) → extent_count (filter keep ms) ≤ extent_count ms
  fewer_extents [] = omega arith
  fewer_extents (m ∷ ms) = by (keep m) (fewer_extents ms) (fewer_after m m ms (inl refl))
    where
      by : (t : Bool) → extent_count (filter keep ms) ≤ extent_count ms → length (extents_after m (filter keep ms)) ≤ length (extents_after m ms) → extent_count (cond t (m ∷ filter keep ms) (filter keep ms)) ≤ extent_count (m ∷ ms)
      by true rest after = omega (arith, after)
      by false rest after = let first = count_first m ms in omega (arith, first, rest)

chain_by : (a b : ℕ) (t u : Bool) → nat_le a 6 ≡ t → nat_le b 6 ≡ u → a ≤ b → cond t 0 (div_ceil (a - 6) 63) ≤ cond u 0 (div_ceil (b - 6) 63)
chain_by a b true u low high le = omega arith
chain_by a b false true low high le = let x : 6 < a = leb-false a 6 low in let y : b ≤ 6 = leb-true b 6 high in absurd (omega (arith, x, y, le))
chain_by a b false false low high le = omega (arith, le)

pub fewer_maps : (ms ns : List Mapped) → extent_count ms ≤ extent_count ns → maps_for ms ≤ maps_for ns
fewer_maps ms ns le = chain_by (extent_count ms) (extent_count ns) _ _ refl refl le

most_by : (a : ℕ) (t : Bool) → nat_le a 6 ≡ t → a ≤ 4038 → cond t 0 (div_ceil (a - 6) 63) ≤ 64
most_by a true low le = omega arith
most_by a false low le = omega (arith, le)

pub most_maps : (ms : List Mapped) → extent_count ms ≤ 4038 → maps_for ms ≤ 64
most_maps ms le = most_by (extent_count ms) _ refl le

-- ---- a page more

module _ (m : Mapped) where
  rising_at : (a : ℕ) (n : Mapped) (ms : List Mapped) (t : Bool) → nat_lt n.page m.page ≡ t → a ≤ m.page → m.page < most_pages → n.page ≢ m.page → AreRising a (n ∷ ms) → (n.page + 1 ≤ m.page → AreRising (n.page + 1) (with_page m ms))
      → AreRising a (cond t (n ∷ with_page m ms) (m ∷ n ∷ ms))
  rising_at a n ms true below low high ne h rest = (h.0, h.1, rest (let lt = ltb-true n.page m.page below in omega (arith, lt)))
  rising_at a n ms false below low high ne h rest = (low, high, ((let ge = ltb-false n.page m.page below in omega (arith, ge, ne)), h.1, h.2))

  pub rising_with : (a : ℕ) (ms : List Mapped) → a ≤ m.page → m.page < most_pages → mapped_at ms m.page ≡ None → AreRising a ms → AreRising a (with_page m ms)
  rising_with a [] low high absent h = (low, high, tt)
  rising_with a (n ∷ ms) low high absent h = by (n.page == m.page) refl absent (λ none le. rising_with (n.page + 1) ms le high none h.2)
    where
      by : (t : Bool) → (n.page == m.page) ≡ t → cond t (Some (n.block, n.kind)) (mapped_at ms m.page) ≡ None → (mapped_at ms m.page ≡ None → n.page + 1 ≤ m.page → AreRising (n.page + 1) (with_page m ms)) → AreRising a (with_page m (n ∷ ms))
      by true is none rest = absurd (none-some (n.block, n.kind) (sym none))
      by false is none rest = rising_at a n ms (nat_lt n.page m.page) refl low high (λ e. true≢false (sym (eq-eqb n.page m.page e) ∙ is)) h (rest none)

  part_at : (ms : List Mapped) (n : Mapped) (ns : List Mapped) (t : Bool) → IsPart ms (n ∷ with_page m ns) → IsPart ms (n ∷ ns) → IsPart ms (cond t (n ∷ with_page m ns) (m ∷ n ∷ ns))
  part_at ms n ns true both h = both
  part_at ms n ns false both h = part_more ms m (n ∷ ns) h

  pub part_with : (ms ns : List Mapped) → IsPart ms ns → IsPart ms (with_page m ns)
  part_with [] ns h = tt
  part_with (x ∷ ms) [] h = absurd h
  part_with (x ∷ ms) (n ∷ ns) (inl h) = part_at (x ∷ ms) n ns (nat_lt n.page m.page) (inl (h.0, part_with ms ns h.1)) (inl h)
  part_with (x ∷ ms) (n ∷ ns) (inr h) = part_at (x ∷ ms) n ns (nat_lt n.page m.page) (inr (part_with (x ∷ ms) ns h)) (inr h)

  all_at : (P : Mapped → Type 0) (n : Mapped) (ns : List Mapped) (t : Bool) → P m → P n → AllByRecursion P ns → AllByRecursion P (with_page m ns) → AllByRecursion P (cond t (n ∷ with_page m ns) (m ∷ n ∷ ns))
  all_at P n ns true new first rest more = (first, more)
  all_at P n ns false new first rest more = (new, (first, rest))

  pub all_with : (P : Mapped → Type 0) (ns : List Mapped) → P m → AllByRecursion P ns → AllByRecursion P (with_page m ns)
  all_with P [] new h = (new, tt)
  all_with P (n ∷ ns) new h = all_at P n ns (nat_lt n.page m.page) new h.0 h.1 (all_with P ns new h.1)

-- ---- a page that is used

module _ (p : ℕ) where
  used_at : (a : ℕ) (m : Mapped) (ms : List Mapped) (t : Bool) → AreRising a (m ∷ ms) → AreRising (m.page + 1) (used_pages p ms) → AreRising a (cond t (record m { kind = Data } ∷ ms) (m ∷ used_pages p ms))
  used_at a m ms true h rest = h
  used_at a m ms false h rest = (h.0, h.1, rest)

  pub rising_used : (a : ℕ) (ms : List Mapped) → AreRising a ms → AreRising a (used_pages p ms)
  rising_used a [] h = tt
  rising_used a (m ∷ ms) h = used_at a m ms (m.page == p) h (rising_used (m.page + 1) ms h.2)

  now_data : (m n : Mapped) → IsSamePage m n → IsSamePage m (record n { kind = Data })
  now_data m n same = record { page = same.page; block = same.block; kind = by m.kind refl same.kind }
    where
      by : (k : Kind) → m.kind ≡ k → (m.kind ≡ n.kind) ⊎ (m.kind ≡ Reserved) → (m.kind ≡ Data) ⊎ (m.kind ≡ Reserved)
      by Data is h = inl is
      by Reserved is h = inr is

  used_first : (m n : Mapped) (ms ns : List Mapped) (t : Bool) → IsSamePage m n → IsPart ms ns → IsPart ms (used_pages p ns) → IsPart (m ∷ ms) (cond t (record n { kind = Data } ∷ ns) (n ∷ used_pages p ns))
  used_first m n ms ns true same h rest = inl (now_data m n same, h)
  used_first m n ms ns false same h rest = inl (same, rest)

  used_later : (ms : List Mapped) (n : Mapped) (ns : List Mapped) (t : Bool) → IsPart ms ns → IsPart ms (used_pages p ns) → IsPart ms (cond t (record n { kind = Data } ∷ ns) (n ∷ used_pages p ns))
  used_later ms n ns true h rest = part_more ms (record n { kind = Data }) ns h
  used_later ms n ns false h rest = part_more ms n (used_pages p ns) rest

  pub part_used : (ms ns : List Mapped) → IsPart ms ns → IsPart ms (used_pages p ns)
  part_used [] ns h = tt
  part_used (m ∷ ms) [] h = absurd h
  part_used (m ∷ ms) (n ∷ ns) (inl h) = used_first m n ms ns (n.page == p) h.0 h.1 (part_used ms ns h.1)
  part_used (m ∷ ms) (n ∷ ns) (inr h) = used_later (m ∷ ms) n ns (n.page == p) h (part_used (m ∷ ms) ns h)

  all_used_by : (P : Mapped → Type 0) (m : Mapped) (ms : List Mapped) (t : Bool) → (m.page == p) ≡ t → (m.page ≡ p → P (record m { kind = Data })) → P m → AllByRecursion P ms → AllByRecursion P (used_pages p ms)
      → AllByRecursion P (cond t (record m { kind = Data } ∷ ms) (m ∷ used_pages p ms))
  all_used_by P m ms true is now first h rest = (now (eqb-true m.page p is), h)
  all_used_by P m ms false is now first h rest = (first, rest)

  pub all_used : (P : Mapped → Type 0) → ((m : Mapped) → m.page ≡ p → P (record m { kind = Data })) → (ms : List Mapped) → AllByRecursion P ms → AllByRecursion P (used_pages p ms)
  all_used P now [] h = tt
  all_used P now (m ∷ ms) h = all_used_by P m ms (m.page == p) refl (now m) h.0 h.1 (all_used P now ms h.1)
