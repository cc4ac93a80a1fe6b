-- Extents without a page.
use Rattle.std.proofs.Common.{◌≡◌, ℕ, zero, suc, ◌+◌, ◌-◌, ◌<◌, ◌≤◌, Bool, true, false, not, List, [], ◌∷◌, ◌++◌, length, get_or, set, Option, Some, None, refl, sym, ap, ◌∙◌, subst, arith, cond}
use Rattle.std.specs.Prelude.{nat_eq, nat_lt, nat_le, insert, remove, is_some, option_map}
use Rattle.std.proofs.lemmas.Bool.Decides.{nat_tests}
use Rattle.std.proofs.lemmas.Option.{same_Some}
use Rattle.vx_base.specs.declared.kind.Kind.{Kind}
use Rattle.vx_base.specs.declared.kind.Kind.TheVariants.{Data}
use Rattle.vx_extents.specs.declared.stretch.Stretch.{Stretch}
use Rattle.vx_extents.specs.Extents.{Mapped, mapped_at, run, expand, begun_before, with_page, IsStretch, IsBefore, AreMaximal, AreBelow}
use Rattle.vx_extents.specs.Uses.{used_pages, pages_without, part_before, part_after, piece_after, removed_at, left_before, page_in}
use Rattle.vx_extents.proofs.Runs.{below, hit, past, rest_maximal}
use Rattle.vx_extents.proofs.Cuts.{yes_less, not_less, less, more}

pub other : (a b : ℕ) → a < b → nat_eq a b ≡ false
other a b h = grind (arith, nat_tests)

pub other_up : (a b : ℕ) → b < a → nat_eq a b ≡ false
other_up a b h = grind (arith, nat_tests)

pub itself : (a b : ℕ) → a ≡ b → nat_eq a b ≡ true
itself a b h = grind (arith, nat_tests)

pub same : (a b : ℕ) → nat_eq a b ≡ true → a ≡ b
same a b h = grind (arith, nat_tests)

pub differs : (a b : ℕ) → nat_eq a b ≡ false → (a ≡ b) → ⊥
differs a b h e = let yes = itself a b e in absurd (cc)

-- ---- extents that begin from a page on

abbrev pub BeginFrom : ℕ → List Stretch → Type 0
BeginFrom n [] = Unit {0}
BeginFrom n (e ∷ extents) = n ≤ e.page

pub rest_begins : (e : Stretch) (extents : List Stretch) → AreMaximal (e ∷ extents) → BeginFrom (e.page + suc e.more) extents
rest_begins e [] all = tt
rest_begins e (f ∷ extents) all = all.1.rises

pub begins_lower : (m n : ℕ) (extents : List Stretch) → m ≤ n → BeginFrom n extents → BeginFrom m extents
begins_lower m n [] le from = tt
begins_lower m n (e ∷ extents) le from = omega (arith, le, from)

pub first_is : (extents : List Stretch) (e : Stretch) → AreMaximal (e ∷ extents) → IsStretch e
first_is [] e all = all
first_is (f ∷ extents) e all = all.0

-- a page between two
pub gap : (e f : Stretch) → e.page + suc e.more < f.page → IsBefore e f
gap e f h =
    let no : nat_eq (e.page + suc e.more) f.page ≡ false = other (e.page + suc e.more) f.page h in
    record { rises = omega (arith, h); apart = rw no refl }

pub with_gap : (e : Stretch) (extents : List Stretch) → IsStretch e → BeginFrom (suc (e.page + suc e.more)) extents → AreMaximal extents → AreMaximal (e ∷ extents)
with_gap e [] is from all = is
with_gap e (f ∷ extents) is from all = (is, gap e f (omega (arith, from)), all)

-- ---- the pages that stay

module _ (p : ℕ) where
  keep_past : (n a b : ℕ) (kind : Kind) (rest : List Mapped) → a + n ≤ p → pages_without p (run n a b kind ++ rest) ≡ run n a b kind ++ pages_without p rest
  keep_past zero a b kind rest h = refl
  keep_past (suc n) a b kind rest h =
      rw (other a p (omega (arith, h))) (ap (λ (ms : List Mapped). record { page = a; block = b; kind = kind } ∷ ms) (keep_past n (a + 1) (b + 1) kind rest (omega (arith, h))))

  keep_above : (n a b : ℕ) (kind : Kind) (rest : List Mapped) → p < a → pages_without p (run n a b kind ++ rest) ≡ run n a b kind ++ pages_without p rest
  keep_above zero a b kind rest h = refl
  keep_above (suc n) a b kind rest h =
      rw (other_up a p h) (ap (λ (ms : List Mapped). record { page = a; block = b; kind = kind } ∷ ms) (keep_above n (a + 1) (b + 1) kind rest (omega (arith, h))))

  keep_all : (extents : List Stretch) → AreMaximal extents → BeginFrom (suc p) extents → pages_without p (expand extents) ≡ expand extents
  keep_all [] all from = refl
  keep_all (e ∷ extents) all from =
      keep_above (suc e.more) e.page e.start e.kind (expand extents) (omega (arith, from))
      ∙ ap (λ (ms : List Mapped). run (suc e.more) e.page e.start e.kind ++ ms) (keep_all extents (rest_maximal extents e all) (begins_lower (suc p) (e.page + suc e.more) extents (omega (arith, from)) (rest_begins e extents all)))

  -- ---- the pages of the parts

  expand_before : (k : ℕ) (e : Stretch) (xs : List Stretch) → expand (part_before k e ++ xs) ≡ run k e.page e.start e.kind ++ expand xs
  expand_before zero e xs = refl
  expand_before (suc k) e xs = refl

  expand_after : (k : ℕ) (e : Stretch) (xs : List Stretch) (c : Bool) → nat_lt k e.more ≡ c → expand (cond c (piece_after k e ∷ []) [] ++ xs) ≡ run (e.more - k) (e.page + k + 1) (e.start + k + 1) e.kind ++ expand xs
  expand_after k e xs true is =
      let n : suc (e.more - k - 1) ≡ e.more - k = omega (arith, less k e.more is) in
      ap (λ (n : ℕ). run n (e.page + k + 1) (e.start + k + 1) e.kind ++ expand xs) n
  expand_after k e xs false is =
      let n : 0 ≡ e.more - k = omega (arith, more k e.more is) in
      ap (λ (n : ℕ). run n (e.page + k + 1) (e.start + k + 1) e.kind ++ expand xs) n

  -- a run without one of its pages
  run_without : (t k n a b : ℕ) (kind : Kind) (rest : List Mapped) → t ≡ k + n → a + k ≡ p → pages_without p (run (suc t) a b kind ++ rest) ≡ run k a b kind ++ (run n (a + k + 1) (b + k + 1) kind ++ pages_without p rest)
  run_without t zero n a b kind rest all at =
      let pa : a + 1 ≡ a + 0 + 1 = omega arith in
      let pb : b + 1 ≡ b + 0 + 1 = omega arith in
      let pt : t ≡ n = omega (arith, all) in
      rw (itself a p (omega (arith, at))) (keep_above t (a + 1) (b + 1) kind rest (omega (arith, at)) ∙ (λ i. run (pt i) (pa i) (pb i) kind ++ pages_without p rest))
  run_without zero (suc k) n a b kind rest all at = absurd (omega (arith, all))
  run_without (suc t) (suc k) n a b kind rest all at =
      let pa : a + 1 + k + 1 ≡ a + suc k + 1 = omega arith in
      let pb : b + 1 + k + 1 ≡ b + suc k + 1 = omega arith in
      rw (other a p (omega (arith, at))) (ap (λ (ms : List Mapped). record { page = a; block = b; kind = kind } ∷ ms) (run_without t k n (a + 1) (b + 1) kind rest (omega (arith, all)) (omega (arith, at)) ∙ (λ i. run k (a + 1) (b + 1) kind ++ (run n (pa i) (pb i) kind ++ pages_without p rest))))

  later : (extents : List Stretch) (e : Stretch) (n : ℕ) (d : Stretch) → AreMaximal (e ∷ extents) → n < length extents → e.page + suc e.more ≤ (get_or extents n d).page
  later [] e n d all lt = absurd (omega (arith, lt))
  later (f ∷ extents) e zero d all lt = all.1.rises
  later (f ∷ extents) e (suc n) d all lt = let rest = later extents f n d all.2 (omega (arith, lt)) in omega (arith, rest, all.1.rises)

  pub expand_removed : (extents : List Stretch) (n k : ℕ) (d : Stretch) → AreMaximal extents → n < length extents → (get_or extents n d).page + k ≡ p → k ≤ (get_or extents n d).more
      → expand (removed_at n k extents) ≡ pages_without p (expand extents)
  expand_removed [] n k d all lt at in_it = absurd (omega (arith, lt))
  expand_removed (e ∷ extents) zero k d all lt at in_it =
      let len : e.more ≡ k + (e.more - k) = omega (arith, in_it) in
      let stays = keep_all extents (rest_maximal extents e all) (begins_lower (suc p) (e.page + suc e.more) extents (omega (arith, at, in_it)) (rest_begins e extents all)) in
      expand_before k e (part_after k e ++ extents)
      ∙ ap (λ (ms : List Mapped). run k e.page e.start e.kind ++ ms) (expand_after k e extents (nat_lt k e.more) refl)
      ∙ ap (λ (ms : List Mapped). run k e.page e.start e.kind ++ (run (e.more - k) (e.page + k + 1) (e.start + k + 1) e.kind ++ ms)) (sym stays)
      ∙ sym (run_without e.more k (e.more - k) e.page e.start e.kind (expand extents) len at)
  expand_removed (e ∷ extents) (suc n) k d all lt at in_it =
      let past_it = later extents e n d all (omega (arith, lt)) in
      ap (λ (ms : List Mapped). run (suc e.more) e.page e.start e.kind ++ ms) (expand_removed extents n k d (rest_maximal extents e all) (omega (arith, lt)) at in_it)
      ∙ sym (keep_past (suc e.more) e.page e.start e.kind (expand extents) (omega (arith, past_it, at)))

-- ---- what is left is maximal

after_maximal : (k : ℕ) (e : Stretch) (extents : List Stretch) (c : Bool) → nat_lt k e.more ≡ c → AreMaximal (e ∷ extents) → AreMaximal (cond c (piece_after k e ∷ []) [] ++ extents)
after_maximal k e extents false is all = rest_maximal extents e all
after_maximal k e [] true is all = let lt = less k e.more is in record { pages = omega (arith, lt, all.pages); blocks = omega (arith, lt, all.blocks) }
after_maximal k e (f ∷ extents) true is all =
    let lt = less k e.more is in
    let pg : e.page + k + 1 + suc (e.more - k - 1) ≡ e.page + suc e.more = omega (arith, lt) in
    let bl : e.start + k + 1 + suc (e.more - k - 1) ≡ e.start + suc e.more = omega (arith, lt) in
    (record { pages = omega (arith, lt, all.0.pages); blocks = omega (arith, lt, all.0.blocks) }, record { rises = omega (arith, pg, all.1.rises); apart = rw (pg, bl) all.1.apart }, all.2)

after_begins : (k : ℕ) (e : Stretch) (extents : List Stretch) (c : Bool) → AreMaximal (e ∷ extents) → k ≤ e.more → BeginFrom (suc (e.page + k)) (cond c (piece_after k e ∷ []) [] ++ extents)
after_begins k e extents true all in_it = omega arith
after_begins k e extents false all in_it = begins_lower (suc (e.page + k)) (e.page + suc e.more) extents (omega (arith, in_it)) (rest_begins e extents all)

parts_maximal : (k : ℕ) (e : Stretch) (extents : List Stretch) → AreMaximal (e ∷ extents) → k ≤ e.more → AreMaximal (part_before k e ++ (part_after k e ++ extents))
parts_maximal zero e extents all in_it = after_maximal zero e extents (nat_lt zero e.more) refl all
parts_maximal (suc k) e extents all in_it =
    let is = first_is extents e all in
    with_gap (record e { more = k }) (part_after (suc k) e ++ extents) (record { pages = omega (arith, is.pages, in_it); blocks = omega (arith, is.blocks, in_it) })
    (after_begins (suc k) e extents (nat_lt (suc k) e.more) all in_it)
    (after_maximal (suc k) e extents (nat_lt (suc k) e.more) refl all)

next_parts : (k : ℕ) (e f : Stretch) (extents : List Stretch) → AreMaximal (e ∷ f ∷ extents) → k ≤ f.more → AreMaximal (e ∷ (part_before k f ++ (part_after k f ++ extents)))
next_parts zero e f extents all in_it =
    with_gap e (part_after zero f ++ extents) all.0
    (begins_lower (suc (e.page + suc e.more)) (suc (f.page + 0)) (part_after zero f ++ extents) (omega (arith, all.1.rises)) (after_begins zero f extents (nat_lt zero f.more) all.2 in_it))
    (parts_maximal zero f extents all.2 in_it)
next_parts (suc k) e f extents all in_it = (all.0, record { rises = all.1.rises; apart = all.1.apart }, parts_maximal (suc k) f extents all.2 in_it)

pub removed_maximal : (extents : List Stretch) (n k : ℕ) (d : Stretch) → AreMaximal extents → n < length extents → k ≤ (get_or extents n d).more → AreMaximal (removed_at n k extents)
removed_maximal [] n k d all lt in_it = tt
removed_maximal (e ∷ extents) zero k d all lt in_it = parts_maximal k e extents all in_it
removed_maximal (e ∷ []) (suc n) k d all lt in_it = absurd (omega (arith, lt))
removed_maximal (e ∷ f ∷ extents) (suc zero) k d all lt in_it = next_parts k e f extents all in_it
removed_maximal (e ∷ f ∷ extents) (suc (suc n)) k d all lt in_it = (all.0, all.1, removed_maximal (f ∷ extents) (suc n) k d all.2 (omega (arith, lt)) in_it)

-- ---- how many there are, and how far they reach

after_most : (k : ℕ) (e : Stretch) (extents : List Stretch) (c : Bool) → length (cond c (piece_after k e ∷ []) [] ++ extents) ≤ suc (length extents)
after_most k e extents true = omega arith
after_most k e extents false = omega arith

pub removed_most : (extents : List Stretch) (n k : ℕ) → length (removed_at n k extents) ≤ length extents + 1
removed_most [] n k = omega arith
removed_most (e ∷ extents) zero zero = omega (arith, after_most zero e extents (nat_lt zero e.more))
removed_most (e ∷ extents) zero (suc k) = omega (arith, after_most (suc k) e extents (nat_lt (suc k) e.more))
removed_most (e ∷ extents) (suc n) k = omega (arith, removed_most extents n k)

after_below : (limit k : ℕ) (e : Stretch) (extents : List Stretch) (c : Bool) → nat_lt k e.more ≡ c → AreBelow limit (e ∷ extents) → AreBelow limit (cond c (piece_after k e ∷ []) [] ++ extents)
after_below limit k e extents true is each = (omega (arith, less k e.more is, each.0), each.1)
after_below limit k e extents false is each = each.1

parts_below : (limit k : ℕ) (e : Stretch) (extents : List Stretch) → k ≤ e.more → AreBelow limit (e ∷ extents) → AreBelow limit (part_before k e ++ (part_after k e ++ extents))
parts_below limit zero e extents in_it each = after_below limit zero e extents (nat_lt zero e.more) refl each
parts_below limit (suc k) e extents in_it each = (omega (arith, in_it, each.0), after_below limit (suc k) e extents (nat_lt (suc k) e.more) refl each)

pub removed_below : (limit : ℕ) (extents : List Stretch) (n k : ℕ) (d : Stretch) → n < length extents → k ≤ (get_or extents n d).more → AreBelow limit extents → AreBelow limit (removed_at n k extents)
removed_below limit [] n k d lt in_it each = tt
removed_below limit (e ∷ extents) zero k d lt in_it each = parts_below limit k e extents in_it each
removed_below limit (e ∷ extents) (suc n) k d lt in_it each = (each.0, removed_below limit extents n k d (omega (arith, lt)) in_it each.1)

-- ---- as the code does it

pub left_gone : (extents : List Stretch) (n : ℕ) → n < length extents → remove extents n ≡ left_before n 0 extents
left_gone [] n lt = absurd (omega (arith, lt))
left_gone (e ∷ extents) zero lt = refl
left_gone (e ∷ extents) (suc n) lt = ap (λ (es : List Stretch). e ∷ es) (left_gone extents n (omega (arith, lt)))

pub left_some : (extents : List Stretch) (n k : ℕ) (e : Stretch) → n < length extents → e ≡ get_or extents n e → set extents n (record e { more = k }) ≡ left_before n (suc k) extents
left_some [] n k e lt at = absurd (omega (arith, lt))
left_some (f ∷ extents) zero k e lt at = ap (λ (g : Stretch). record g { more = k } ∷ extents) at
left_some (f ∷ extents) (suc n) k e lt at = ap (λ (es : List Stretch). f ∷ es) (left_some extents n k e (omega (arith, lt)) at)

pub removes_both : (extents : List Stretch) (n k : ℕ) (e : Stretch) → n < length extents → e ≡ get_or extents n e → nat_lt k e.more ≡ true → left_before n k (insert extents (suc n) (piece_after k e)) ≡ removed_at n k extents
removes_both [] n k e lt at is = absurd (omega (arith, lt))
removes_both (f ∷ extents) zero k e lt at is =
    let yes : nat_lt k f.more ≡ true = subst (λ (g : Stretch). nat_lt k g.more ≡ true) at is in
    rw yes (ap (λ (g : Stretch). part_before k f ++ (piece_after k g ∷ extents)) at)
removes_both (f ∷ extents) (suc n) k e lt at is = ap (λ (es : List Stretch). f ∷ es) (removes_both extents n k e (omega (arith, lt)) at is)

pub removes_end : (extents : List Stretch) (n k : ℕ) (e : Stretch) → n < length extents → e ≡ get_or extents n e → nat_lt k e.more ≡ false → left_before n k extents ≡ removed_at n k extents
removes_end [] n k e lt at is = absurd (omega (arith, lt))
removes_end (f ∷ extents) zero k e lt at is =
    let no : nat_lt k f.more ≡ false = subst (λ (g : Stretch). nat_lt k g.more ≡ false) at is in
    rw no refl
removes_end (f ∷ extents) (suc n) k e lt at is = ap (λ (es : List Stretch). f ∷ es) (removes_end extents n k e (omega (arith, lt)) at is)

-- ---- a page that is looked up

module _ (p : ℕ) where
  none_from : (extents : List Stretch) → AreMaximal extents → BeginFrom (suc p) extents → mapped_at (expand extents) p ≡ None
  none_from [] all from = refl
  none_from (e ∷ extents) all from =
      below (suc e.more) e.page e.start e.kind p (expand extents) (omega (arith, from))
      ∙ none_from extents (rest_maximal extents e all) (begins_lower (suc p) (e.page + suc e.more) extents (omega (arith, from)) (rest_begins e extents all))

  begun : (c : Bool) (n k : ℕ) → cond c (suc n) zero ≡ suc k → (c ≡ true) × (n ≡ k)
  begun true n k is = (refl, omega arith)
  begun false n k is = absurd (omega arith)

  not_begun : (c : Bool) (n : ℕ) → cond c (suc n) zero ≡ zero → c ≡ false
  not_begun true n is = absurd (omega arith)
  not_begun false n is = refl

  none_begun : (extents : List Stretch) → begun_before (p + 1) extents ≡ zero → BeginFrom (suc p) extents
  none_begun [] is = tt
  none_begun (e ∷ extents) is = let from = more e.page (p + 1) (not_begun (nat_lt e.page (p + 1)) (begun_before (p + 1) extents) is) in omega (arith, from)

  pub not_there : (extents : List Stretch) → AreMaximal extents → begun_before (p + 1) extents ≡ zero → mapped_at (expand extents) p ≡ None
  not_there extents all is = none_from extents all (none_begun extents is)

  in_last : (e : Stretch) (rest : List Mapped) (c : Bool) → nat_le (p - e.page) e.more ≡ c → e.page ≤ p → mapped_at rest p ≡ None → mapped_at (run (suc e.more) e.page e.start e.kind ++ rest) p ≡ cond c (Some (e.start + (p - e.page), e.kind)) None
  in_last e rest true is low none = hit (suc e.more) e.page e.start e.kind p rest low (let h : p - e.page ≤ e.more = grind (arith, nat_tests) in omega (arith, h))
  in_last e rest false is low none = past (suc e.more) e.page e.start e.kind p rest (let h : e.more < p - e.page = grind (arith, nat_tests) in omega (arith, h)) ∙ none

  pub last_low : (extents : List Stretch) (k : ℕ) (d : Stretch) → begun_before (p + 1) extents ≡ suc k → (get_or extents k d).page ≤ p
  last_low [] k d is = absurd (omega arith)
  last_low (e ∷ extents) zero d is = let low = less e.page (p + 1) (begun (nat_lt e.page (p + 1)) (begun_before (p + 1) extents) zero is).0 in omega (arith, low)
  last_low (e ∷ extents) (suc k) d is = last_low extents k d (begun (nat_lt e.page (p + 1)) (begun_before (p + 1) extents) (suc k) is).1

  pub last_within : (extents : List Stretch) (k : ℕ) → begun_before (p + 1) extents ≡ suc k → k < length extents
  last_within [] k is = absurd (omega arith)
  last_within (e ∷ extents) zero is = omega arith
  last_within (e ∷ extents) (suc k) is = let rest = last_within extents k (begun (nat_lt e.page (p + 1)) (begun_before (p + 1) extents) (suc k) is).1 in omega (arith, rest)

  -- the page is in the last extent that begins at it or before it, or nowhere
  pub looked : (extents : List Stretch) (k : ℕ) (d : Stretch) → AreMaximal extents → begun_before (p + 1) extents ≡ suc k → mapped_at (expand extents) p ≡ page_in p (get_or extents k d)
  looked [] k d all is = absurd (omega arith)
  looked (e ∷ extents) zero d all is =
      let now = begun (nat_lt e.page (p + 1)) (begun_before (p + 1) extents) zero is in
      let low = less e.page (p + 1) now.0 in
      in_last e (expand extents) (nat_le (p - e.page) e.more) refl (omega (arith, low)) (not_there extents (rest_maximal extents e all) now.1)
  looked (e ∷ []) (suc k) d all is = absurd (omega (arith, (begun (nat_lt e.page (p + 1)) zero (suc k) is).1))
  looked (e ∷ f ∷ extents) (suc k) d all is =
      let now = begun (nat_lt e.page (p + 1)) (begun_before (p + 1) (f ∷ extents)) (suc k) is in
      let next = begun (nat_lt f.page (p + 1)) (begun_before (p + 1) extents) k now.1 in
      let low = less f.page (p + 1) next.0 in
      past (suc e.more) e.page e.start e.kind p (expand (f ∷ extents)) (omega (arith, low, all.1.rises))
      ∙ looked (f ∷ extents) k d all.2 now.1

  found_or_none : (at : ℕ × Kind) (c : Bool) → is_some (cond c (Some at) None) ≡ true → c ≡ true
  found_or_none at true some = refl
  found_or_none at false some = absurd (cc)

  pub inside : (e : Stretch) → is_some (page_in p e) ≡ true → p - e.page ≤ e.more
  inside e some = let yes = found_or_none (e.start + (p - e.page), e.kind) (nat_le (p - e.page) e.more) some in grind (arith, nat_tests)

  pub past_all : (limit : ℕ) (extents : List Stretch) → AreBelow limit extents → limit ≤ p → mapped_at (expand extents) p ≡ None
  past_all limit [] each le = refl
  past_all limit (e ∷ extents) each le = past (suc e.more) e.page e.start e.kind p (expand extents) (omega (arith, each.0, le)) ∙ past_all limit extents each.1 le

  -- ---- a page that is gone, or holds data

  pub gone : (pages : List Mapped) → mapped_at (pages_without p pages) p ≡ None
  gone [] = refl
  gone (m ∷ pages) = step (nat_eq m.page p) refl (gone pages)
    where
      step : (c : Bool) → nat_eq m.page p ≡ c → mapped_at (pages_without p pages) p ≡ None → mapped_at (cond (not c) (m ∷ pages_without p pages) (pages_without p pages)) p ≡ None
      step true is rest = rest
      step false is rest = rw is rest

-- rising pages
abbrev pub Rises : ℕ → List Mapped → Type 0
Rises low [] = Unit {0}
Rises low (m ∷ pages) = (low ≤ m.page) × Rises (m.page + 1) pages

rises_lower : (m n : ℕ) (pages : List Mapped) → m ≤ n → Rises n pages → Rises m pages
rises_lower m n [] le rise = tt
rises_lower m n (q ∷ pages) le rise = (omega (arith, le, rise.0), rise.1)

run_rises : (n a b : ℕ) (kind : Kind) (rest : List Mapped) → Rises (a + n) rest → Rises a (run n a b kind ++ rest)
run_rises zero a b kind rest rise = rises_lower a (a + 0) rest (omega arith) rise
run_rises (suc n) a b kind rest rise = (omega arith, run_rises n (a + 1) (b + 1) kind rest (rises_lower (a + 1 + n) (a + suc n) rest (omega arith) rise))

pub expand_rises : (low : ℕ) (extents : List Stretch) → AreMaximal extents → BeginFrom low extents → Rises low (expand extents)
expand_rises low [] all from = tt
expand_rises low (e ∷ extents) all from =
    rises_lower low e.page (expand (e ∷ extents)) from (run_rises (suc e.more) e.page e.start e.kind (expand extents) (expand_rises (e.page + suc e.more) extents (rest_maximal extents e all) (rest_begins e extents all)))

module _ (p b : ℕ) where
  front : (pages : List Mapped) → Rises (p + 1) pages → with_page (record { page = p; block = b; kind = Data }) pages ≡ record { page = p; block = b; kind = Data } ∷ pages
  front [] rise = refl
  front (m ∷ pages) rise = rw (not_less m.page p (omega (arith, rise.0))) refl

  all_stay : (pages : List Mapped) (low : ℕ) → p < low → Rises low pages → pages_without p pages ≡ pages
  all_stay [] low lt rise = refl
  all_stay (m ∷ pages) low lt rise = rw (other_up m.page p (omega (arith, lt, rise.0))) (ap (λ (ms : List Mapped). m ∷ ms) (all_stay pages (m.page + 1) (omega (arith, lt, rise.0)) rise.1))

  is_above : (pages : List Mapped) (low : ℕ) → Rises low pages → is_some (mapped_at pages p) ≡ true → low ≤ p
  is_above [] low rise some = absurd (cc)
  is_above (m ∷ pages) low rise some = step (nat_eq m.page p) refl some (is_above pages (m.page + 1) rise.1)
    where
      step : (c : Bool) → nat_eq m.page p ≡ c → is_some (cond c (Some (m.block, m.kind)) (mapped_at pages p)) ≡ true → (is_some (mapped_at pages p) ≡ true → m.page + 1 ≤ p) → low ≤ p
      step true is some rest = omega (arith, same m.page p is, rise.0)
      step false is some rest = let up = rest some in omega (arith, up, rise.0)

  pub used_is : (pages : List Mapped) (low : ℕ) (kind : Kind) → Rises low pages → mapped_at pages p ≡ Some (b, kind) → with_page (record { page = p; block = b; kind = Data }) (pages_without p pages) ≡ used_pages p pages
  used_is [] low kind rise at = absurd (cc)
  used_is (m ∷ pages) low kind rise at = step (nat_eq m.page p) refl at (used_is pages (m.page + 1) kind rise.1)
    where
      step : (c : Bool) → nat_eq m.page p ≡ c → cond c (Some (m.block, m.kind)) (mapped_at pages p) ≡ Some (b, kind)
          → (mapped_at pages p ≡ Some (b, kind) → with_page (record { page = p; block = b; kind = Data }) (pages_without p pages) ≡ used_pages p pages)
          → with_page (record { page = p; block = b; kind = Data }) (cond (not c) (m ∷ pages_without p pages) (pages_without p pages)) ≡ cond c (record m { kind = Data } ∷ pages) (m ∷ used_pages p pages)
      step true is at rest =
          let pg : p ≡ m.page = sym (same m.page p is) in
          let bl : b ≡ m.block = sym (ap (λ (x : ℕ × Kind). x.0) (same_Some (m.block, m.kind) (b, kind) at)) in
          ap (with_page (record { page = p; block = b; kind = Data })) (all_stay pages (m.page + 1) (omega (arith, pg)) rise.1)
          ∙ front pages (rises_lower (p + 1) (m.page + 1) pages (omega (arith, pg)) rise.1)
          ∙ (λ i. record { page = pg i; block = bl i; kind = Data } ∷ pages)
      step false is at rest =
          let some : is_some (mapped_at pages p) ≡ true = ap is_some at in
          let up = is_above pages (m.page + 1) rise.1 some in
          rw (yes_less m.page p (omega (arith, up))) (ap (λ (ms : List Mapped). m ∷ ms) (rest at))

-- ---- a page that is there

pub record Found (p limit : ℕ) (extents : List Stretch) (n : ℕ) : Type 0 where
  pub inside_limit : p < limit
  pub some : 1 ≤ n
  pub bound : n - 1 < length extents
  pub low : (d : Stretch) → (get_or extents (n - 1) d).page ≤ p
  pub high : (d : Stretch) → p - (get_or extents (n - 1) d).page ≤ (get_or extents (n - 1) d).more

module _ (p : ℕ) where
  found_suc : (limit : ℕ) (extents : List Stretch) (k : ℕ) → AreMaximal extents → AreBelow limit extents → is_some (mapped_at (expand extents) p) ≡ true → p < limit → begun_before (p + 1) extents ≡ suc k → Found p limit extents (suc k)
  found_suc limit extents k all each some lt is =
      let one : suc k - 1 ≡ k = omega arith in
      record {
        inside_limit = lt;
        some = omega arith;
        bound = let in_it = last_within p extents k is in omega (arith, in_it);
        low = λ d. subst (λ (j : ℕ). (get_or extents j d).page ≤ p) (sym one) (last_low p extents k d is);
        high = λ d. subst (λ (j : ℕ). p - (get_or extents j d).page ≤ (get_or extents j d).more) (sym one) (inside p (get_or extents k d) (sym (ap is_some (looked p extents k d all is)) ∙ some));
      }

  found_by : (limit : ℕ) (extents : List Stretch) (n : ℕ) → AreMaximal extents → AreBelow limit extents → is_some (mapped_at (expand extents) p) ≡ true → p < limit → n ≡ begun_before (p + 1) extents → Found p limit extents n
  found_by limit extents zero all each some lt is = let none = not_there p extents all (sym is) in absurd (cc)
  found_by limit extents (suc k) all each some lt is = found_suc limit extents k all each some lt (sym is)

  within : (limit : ℕ) (extents : List Stretch) (c : Bool) → nat_lt p limit ≡ c → AreBelow limit extents → is_some (mapped_at (expand extents) p) ≡ true → p < limit
  within limit extents true is each some = less p limit is
  within limit extents false is each some = let none = past_all p limit extents each (more p limit is) in absurd (cc)

  pub found : (limit : ℕ) (extents : List Stretch) (n : ℕ) → AreMaximal extents → AreBelow limit extents → is_some (mapped_at (expand extents) p) ≡ true → n ≡ begun_before (p + 1) extents → Found p limit extents n
  found limit extents n all each some is = found_by limit extents n all each some (within limit extents (nat_lt p limit) refl each some) is

  pub in_it : (e : Stretch) → p - e.page ≤ e.more → page_in p e ≡ Some (e.start + (p - e.page), e.kind)
  in_it e h = let yes : nat_le (p - e.page) e.more ≡ true = grind (arith, nat_tests) in rw yes refl

  pub out_of : (e : Stretch) → e.more < p - e.page → page_in p e ≡ None
  out_of e h = let no : nat_le (p - e.page) e.more ≡ false = grind (arith, nat_tests) in rw no refl

  pub looked_at : (extents : List Stretch) (n : ℕ) (d : Stretch) → AreMaximal extents → n ≡ begun_before (p + 1) extents → (n ≡ 0 → ⊥) → mapped_at (expand extents) p ≡ page_in p (get_or extents (n - 1) d)
  looked_at extents zero d all is some = absurd (some refl)
  looked_at extents (suc k) d all is some =
      let one : k ≡ suc k - 1 = omega arith in
      looked p extents k d all (sym is) ∙ ap (λ (j : ℕ). page_in p (get_or extents j d)) one

  pub begun_low : (extents : List Stretch) (n : ℕ) (d : Stretch) → n ≡ begun_before (p + 1) extents → (n ≡ 0 → ⊥) → (get_or extents (n - 1) d).page ≤ p
  begun_low extents zero d is some = absurd (some refl)
  begun_low extents (suc k) d is some = let one : suc k - 1 ≡ k = omega arith in subst (λ (j : ℕ). (get_or extents j d).page ≤ p) (sym one) (last_low p extents k d (sym is))

pub other_default : (extents : List Stretch) (n : ℕ) (d e : Stretch) → n < length extents → get_or extents n d ≡ get_or extents n e
other_default [] n d e lt = absurd (omega (arith, lt))
other_default (f ∷ extents) zero d e lt = refl
other_default (f ∷ extents) (suc n) d e lt = other_default extents n d e (omega (arith, lt))

pub begins_zero : (extents : List Stretch) → BeginFrom 0 extents
begins_zero [] = tt
begins_zero (e ∷ extents) = omega arith

pub kind_there : (o : Option (ℕ × Kind)) (b : ℕ) → option_map (λ (m : ℕ × Kind). m.0) o ≡ Some b → (kind : Kind) × (o ≡ Some (b, kind))
kind_there None b is = absurd (cc)
kind_there (Some m) b is = (m.1, ap (λ (c : ℕ). Some (c, m.1)) (same_Some m.0 b is))

pub below_more : (m n : ℕ) (extents : List Stretch) → m ≤ n → AreBelow m extents → AreBelow n extents
below_more m n [] le each = tt
below_more m n (e ∷ extents) le each = (omega (arith, le, each.0), below_more m n extents le each.1)
