-- Extents of pages that hold data.
use Rattle.std.proofs.Common.{◌≡◌, ℕ, zero, suc, ◌+◌, ◌≤◌, Bool, true, false, List, [], ◌∷◌, ◌++◌, length, refl, sym, ap, ◌∙◌, arith, cond}
use Rattle.std.specs.Prelude.{filter}
use Rattle.vx_base.specs.declared.kind.Kind.{Kind}
use Rattle.vx_extents.specs.declared.stretch.Stretch.{Stretch}
use Rattle.vx_extents.specs.Extents.{Mapped, run, expand, AreMaximal, AreBelow}
use Rattle.vx_extents.specs.Uses.{is_data_kind, data_pages}
use Rattle.vx_extents.proofs.Runs.{rest_maximal}
use Rattle.vx_extents.proofs.Removes.{BeginFrom, begins_lower, rest_begins, with_gap}

abbrev pub kept : List Stretch → List Stretch
kept extents = filter (λ (e : Stretch). is_data_kind e.kind) extents

run_stays : (n a b : ℕ) (kind : Kind) (rest : List Mapped) → is_data_kind kind ≡ true → data_pages (run n a b kind ++ rest) ≡ run n a b kind ++ data_pages rest
run_stays zero a b kind rest is = refl
run_stays (suc n) a b kind rest is = rw is (ap (λ (ms : List Mapped). record { page = a; block = b; kind = kind } ∷ ms) (run_stays n (a + 1) (b + 1) kind rest is))

run_goes : (n a b : ℕ) (kind : Kind) (rest : List Mapped) → is_data_kind kind ≡ false → data_pages (run n a b kind ++ rest) ≡ data_pages rest
run_goes zero a b kind rest is = refl
run_goes (suc n) a b kind rest is = rw is (run_goes n (a + 1) (b + 1) kind rest is)

pub expand_kept : (extents : List Stretch) → expand (kept extents) ≡ data_pages (expand extents)
expand_kept [] = refl
expand_kept (e ∷ extents) = step (is_data_kind e.kind) refl (expand_kept extents)
  where
    step : (c : Bool) → is_data_kind e.kind ≡ c → expand (kept extents) ≡ data_pages (expand extents) → expand (cond c (e ∷ kept extents) (kept extents)) ≡ data_pages (expand (e ∷ extents))
    step true is rest = ap (λ (ms : List Mapped). run (suc e.more) e.page e.start e.kind ++ ms) rest ∙ sym (run_stays (suc e.more) e.page e.start e.kind (expand extents) is)
    step false is rest = rest ∙ sym (run_goes (suc e.more) e.page e.start e.kind (expand extents) is)

kept_begins : (low : ℕ) (extents : List Stretch) → AreMaximal extents → BeginFrom low extents → BeginFrom low (kept extents)
kept_begins low [] all from = tt
kept_begins low (e ∷ extents) all from = step (is_data_kind e.kind) (kept_begins low extents (rest_maximal extents e all) (begins_lower low (e.page + suc e.more) extents (omega (arith, from)) (rest_begins e extents all)))
  where
    step : (c : Bool) → BeginFrom low (kept extents) → BeginFrom low (cond c (e ∷ kept extents) (kept extents))
    step true rest = from
    step false rest = rest

-- behind an extent that stays, the next one stays, or a gap is left
kept_next : (e f : Stretch) (extents : List Stretch) (c : Bool) → AreMaximal (e ∷ f ∷ extents) → AreMaximal (kept extents) → AreMaximal (cond c (f ∷ kept extents) (kept extents)) → AreMaximal (e ∷ cond c (f ∷ kept extents) (kept extents))
kept_next e f extents true all rest both = (all.0, all.1, both)
kept_next e f extents false all rest both =
    with_gap e (kept extents) all.0
    (begins_lower (suc (e.page + suc e.more)) (f.page + suc f.more) (kept extents) (omega (arith, all.1.rises)) (kept_begins (f.page + suc f.more) extents (rest_maximal extents f all.2) (rest_begins f extents all.2)))
    both

pub kept_maximal : (extents : List Stretch) → AreMaximal extents → AreMaximal (kept extents)
kept_maximal [] all = tt
kept_maximal (e ∷ []) all = step (is_data_kind e.kind)
  where
    step : (c : Bool) → AreMaximal (cond c (e ∷ []) [])
    step true = all
    step false = tt
kept_maximal (e ∷ f ∷ extents) all = step (is_data_kind e.kind) (kept_maximal (f ∷ extents) all.2) (kept_maximal extents (rest_maximal extents f all.2))
  where
    step : (c : Bool) → AreMaximal (kept (f ∷ extents)) → AreMaximal (kept extents) → AreMaximal (cond c (e ∷ kept (f ∷ extents)) (kept (f ∷ extents)))
    step true both rest = kept_next e f extents (is_data_kind f.kind) all rest both
    step false both rest = both

pub kept_below : (limit : ℕ) (extents : List Stretch) → AreBelow limit extents → AreBelow limit (kept extents)
kept_below limit [] each = tt
kept_below limit (e ∷ extents) each = step (is_data_kind e.kind) (kept_below limit extents each.1)
  where
    step : (c : Bool) → AreBelow limit (kept extents) → AreBelow limit (cond c (e ∷ kept extents) (kept extents))
    step true rest = (each.0, rest)
    step false rest = rest

pub kept_fewer : (extents : List Stretch) → length (kept extents) ≤ length extents
kept_fewer [] = omega arith
kept_fewer (e ∷ extents) = step (is_data_kind e.kind) (kept_fewer extents)
  where
    step : (c : Bool) → length (kept extents) ≤ length extents → length (cond c (e ∷ kept extents) (kept extents)) ≤ suc (length extents)
    step true rest = omega (arith, rest)
    step false rest = omega (arith, rest)
