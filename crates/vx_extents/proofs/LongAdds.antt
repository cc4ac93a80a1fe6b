-- Extents that a run of further pages is added to.
use Rattle.std.proofs.Common.{◌≡◌, ℕ, zero, suc, ◌+◌, ◌<◌, ◌≤◌, Bool, true, false, List, [], ◌∷◌, ◌++◌, length, refl, sym, ap, ◌∙◌, arith, cond}
use Rattle.std.specs.Prelude.{nat_lt}
use Rattle.std.proofs.lemmas.Bool.Decides.{nat_tests}
use Rattle.vx_base.specs.declared.kind.Kind.{Kind}
use Rattle.vx_extents.specs.declared.stretch.Stretch.{Stretch}
use Rattle.vx_extents.specs.Extents.{Mapped, with_page, run, expand, joined, added, begun_before, IsStretch, AreMaximal, AreBelow}
use Rattle.vx_extents.specs.Uses.{with_pages, AreAbsent}
use Rattle.vx_extents.proofs.Runs.{hit, past, rest_maximal}
use Rattle.vx_extents.proofs.Cuts.{yes_less, less, more}
use Rattle.vx_extents.proofs.Adds.{BeginFrom, with_run, expand_joined, first_is, after_first, joined_begins, joined_maximal, counted}
use Rattle.vx_extents.proofs.Limits.{joined_below}

abbrev pub long : ℕ → ℕ → ℕ → Kind → Stretch
long k p b kind = record { page = p; start = b; more = k; kind = kind }

-- ---- lists of pages

-- behind an extent that ends before
with_pages_past : (n p b : ℕ) (kind : Kind) (m page block : ℕ) (k : Kind) (rest : List Mapped) → page + m ≤ p → with_pages n p b kind (run m page block k ++ rest) ≡ run m page block k ++ with_pages n p b kind rest
with_pages_past zero p b kind m page block k rest low = refl
with_pages_past (suc n) p b kind m page block k rest low =
    ap (with_pages n (p + 1) (b + 1) kind) (with_run m page block k (record { page = p; block = b; kind = kind }) rest low)
    ∙ with_pages_past n (p + 1) (b + 1) kind m page block k (with_page (record { page = p; block = b; kind = kind }) rest) (omega (arith, low))

-- the first page is this one or a later one
abbrev pub PagesFrom : ℕ → List Mapped → Type 0
PagesFrom n [] = Unit {0}
PagesFrom n (m ∷ pages) = n ≤ m.page

with_first : (p b : ℕ) (kind : Kind) (pages : List Mapped) → PagesFrom (p + 1) pages → with_page (record { page = p; block = b; kind = kind }) pages ≡ record { page = p; block = b; kind = kind } ∷ pages
with_first p b kind [] from = refl
with_first p b kind (m ∷ pages) from = let no : nat_lt m.page p ≡ false = grind (arith, nat_tests) in rw no refl

with_pages_second : (n p b q c : ℕ) (kind k : Kind) (pages : List Mapped) → q < p → with_pages n p b kind (record { page = q; block = c; kind = k } ∷ pages) ≡ record { page = q; block = c; kind = k } ∷ with_pages n p b kind pages
with_pages_second zero p b q c kind k pages lt = refl
with_pages_second (suc n) p b q c kind k pages lt =
    rw (yes_less q p lt) (with_pages_second n (p + 1) (b + 1) q c kind k (with_page (record { page = p; block = b; kind = kind }) pages) (omega (arith, lt)))

later : (n m : ℕ) (pages : List Mapped) → m ≤ n → PagesFrom n pages → PagesFrom m pages
later n m [] le from = tt
later n m (x ∷ pages) le from = omega (arith, le, from)

-- before all others
with_pages_first : (n p b : ℕ) (kind : Kind) (pages : List Mapped) → PagesFrom (p + n) pages → with_pages n p b kind pages ≡ run n p b kind ++ pages
with_pages_first zero p b kind pages from = refl
with_pages_first (suc n) p b kind pages from =
    ap (with_pages n (p + 1) (b + 1) kind) (with_first p b kind pages (later (p + suc n) (p + 1) pages (omega arith) from))
    ∙ with_pages_second n (p + 1) (b + 1) p b kind kind pages (omega arith)
    ∙ ap (λ (ms : List Mapped). record { page = p; block = b; kind = kind } ∷ ms) (with_pages_first n (p + 1) (b + 1) kind pages (later (p + suc n) (p + 1 + n) pages (omega arith) from))

-- ---- extents

module _ (k p b : ℕ) (kind : Kind) where
  -- an extent that begins at the first page or before it ends before it
  ends_before : (e : Stretch) (extents : List Stretch) → AreAbsent p (suc k) (expand (e ∷ extents)) → e.page ≤ p → e.page + suc e.more ≤ p
  ends_before e extents absent low = ends (nat_lt p (e.page + suc e.more)) refl
    where
      ends : (c : Bool) → nat_lt p (e.page + suc e.more) ≡ c → e.page + suc e.more ≤ p
      ends false is = more p (e.page + suc e.more) is
      ends true is =
          let there = hit (suc e.more) e.page e.start e.kind p (expand extents) low (omega (arith, low, less p (e.page + suc e.more) is)) in
          let gone = absent p (omega arith) (omega arith) in
          absurd (cc (there, gone))

  -- and one that begins past it begins past them all
  begins_after : (e : Stretch) (extents : List Stretch) → AreAbsent p (suc k) (expand (e ∷ extents)) → p ≤ e.page → p + suc k ≤ e.page
  begins_after e extents absent low = begins (nat_lt e.page (p + suc k)) refl
    where
      begins : (c : Bool) → nat_lt e.page (p + suc k) ≡ c → p + suc k ≤ e.page
      begins false is = more e.page (p + suc k) is
      begins true is =
          let there = hit (suc e.more) e.page e.start e.kind e.page (expand extents) (omega arith) (omega arith) in
          let gone = absent e.page low (less e.page (p + suc k) is) in
          absurd (cc (there, gone))

  absent_after : (e : Stretch) (extents : List Stretch) → AreAbsent p (suc k) (expand (e ∷ extents)) → e.page ≤ p → AreAbsent p (suc k) (expand extents)
  absent_after e extents absent low q above below =
      let ends = ends_before e extents absent low in
      sym (past (suc e.more) e.page e.start e.kind q (expand extents) (omega (arith, ends, above))) ∙ absent q above below

  add_step : (e : Stretch) (extents : List Stretch) (c : Bool) → nat_lt e.page p ≡ c → AreAbsent p (suc k) (expand (e ∷ extents))
      → (e.page ≤ p → expand (added (long k p b kind) extents) ≡ with_pages (suc k) p b kind (expand extents))
      → expand (cond c (joined e (added (long k p b kind) extents)) (joined (long k p b kind) (e ∷ extents))) ≡ with_pages (suc k) p b kind (expand (e ∷ extents))
  add_step e extents true is absent rest =
      let low : e.page ≤ p = omega (arith, less e.page p is) in
      expand_joined e (added (long k p b kind) extents)
      ∙ ap (λ (ms : List Mapped). run (suc e.more) e.page e.start e.kind ++ ms) (rest low)
      ∙ sym (with_pages_past (suc k) p b kind (suc e.more) e.page e.start e.kind (expand extents) (ends_before e extents absent low))
  add_step e extents false is absent rest =
      expand_joined (long k p b kind) (e ∷ extents)
      ∙ sym (with_pages_first (suc k) p b kind (expand (e ∷ extents)) (begins_after e extents absent (more e.page p is)))

  pub expand_long : (extents : List Stretch) → AreAbsent p (suc k) (expand extents) → expand (added (long k p b kind) extents) ≡ with_pages (suc k) p b kind (expand extents)
  expand_long [] absent = sym (with_pages_first (suc k) p b kind [] tt)
  expand_long (e ∷ extents) absent = add_step e extents (nat_lt e.page p) refl absent (λ low. expand_long extents (absent_after e extents absent low))

  long_begins : (n : ℕ) (extents : List Stretch) → n ≤ p → BeginFrom n extents → BeginFrom n (added (long k p b kind) extents)
  long_begins n [] le from = le
  long_begins n (e ∷ extents) le from = begins (nat_lt e.page p)
    where
      begins : (c : Bool) → BeginFrom n (cond c (joined e (added (long k p b kind) extents)) (joined (long k p b kind) (e ∷ extents)))
      begins true = joined_begins n e (added (long k p b kind) extents) from
      begins false = joined_begins n (long k p b kind) (e ∷ extents) le

  maximal_step : (e : Stretch) (extents : List Stretch) (c : Bool) → nat_lt e.page p ≡ c → IsStretch (long k p b kind) → AreMaximal (e ∷ extents) → AreAbsent p (suc k) (expand (e ∷ extents))
      → (e.page ≤ p → AreMaximal (added (long k p b kind) extents)) → AreMaximal (cond c (joined e (added (long k p b kind) extents)) (joined (long k p b kind) (e ∷ extents)))
  maximal_step e extents true is some all absent rest =
      let low : e.page ≤ p = omega (arith, less e.page p is) in
      joined_maximal e (added (long k p b kind) extents) (first_is extents e all) (long_begins (e.page + suc e.more) extents (ends_before e extents absent low) (after_first e extents all)) (rest low)
  maximal_step e extents false is some all absent rest =
      joined_maximal (long k p b kind) (e ∷ extents) some (begins_after e extents absent (more e.page p is)) all

  pub long_maximal : (extents : List Stretch) → IsStretch (long k p b kind) → AreMaximal extents → AreAbsent p (suc k) (expand extents) → AreMaximal (added (long k p b kind) extents)
  long_maximal [] some all absent = some
  long_maximal (e ∷ extents) some all absent =
      maximal_step e extents (nat_lt e.page p) refl some all absent (λ low. long_maximal extents some (rest_maximal extents e all) (absent_after e extents absent low))

  pub long_below : (limit : ℕ) (extents : List Stretch) → p + suc k ≤ limit → AreBelow limit extents → AreBelow limit (added (long k p b kind) extents)
  long_below limit [] le each = (le, tt)
  long_below limit (e ∷ extents) le each = below (nat_lt e.page p) (long_below limit extents le each.1)
    where
      below : (c : Bool) → AreBelow limit (added (long k p b kind) extents) → AreBelow limit (cond c (joined e (added (long k p b kind) extents)) (joined (long k p b kind) (e ∷ extents)))
      below true rest = joined_below limit e (added (long k p b kind) extents) each.0 rest
      below false rest = joined_below limit (long k p b kind) (e ∷ extents) le each

  pub long_most : (extents : List Stretch) → AreMaximal extents → length (added (long k p b kind) extents) ≤ length extents + 1
  long_most extents all = omega (arith, counted (long k p b kind) extents (begun_before p extents) all refl)
