-- A file's placing by its space, on the maps in memory.
use Rattle.std.proofs.Common.{◌≡◌, ℕ, zero, suc, ◌+◌, ◌*◌, Bool, List, refl, sym, ap, ◌∙◌, arith, cond}
use Rattle.vx_base.specs.declared.call.ExtAttrs.{ExtAttrs}
use Rattle.vx_layout.specs.Places.{Volume}
use Rattle.vx_alloc.specs.FreeMaps.{FreeMapView, is_free, count_below, free_blocks}
use Rattle.vx_space.specs.Placement.{count_of, free_count}
use Rattle.vx_space.specs.Space.{Space}
use Rattle.vx_space.specs.Placing.{place_write, place_fill, request_of, pages_needed}
use Rattle.vx_filemaps.specs.Files.{FileView}
use Rattle.vx_filemaps.specs.FileMaps.{IsFileIn, IsFor, filling_of}

count_last : (test : ℕ → Bool) (n from : ℕ) → count_of test (suc n) from ≡ count_of test n from + cond (test (from + n)) 1 0
count_last test zero from = let at : from ≡ from + 0 = omega arith in let one : ◌≡◌ {A = ℕ} (cond (test from) 1 0) (cond (test (from + 0)) 1 0) = ap (λ (q : ℕ). cond {A = ℕ} (test q) 1 0) at in omega (arith, one)
count_last test (suc n) from =
    let rest = count_last test n (from + 1) in
    let at : from + 1 + n ≡ from + suc n = omega arith in
    let one : ◌≡◌ {A = ℕ} (cond (test (from + 1 + n)) 1 0) (cond (test (from + suc n)) 1 0) = ap (λ (q : ℕ). cond {A = ℕ} (test q) 1 0) at in
    omega (arith, rest, one)

count_both : (test : ℕ → Bool) (n from : ℕ) → count_of test n from ≡ count_below (λ i. test (from + i)) n
count_both test zero from = refl
count_both test (suc n) from = let last = count_last test n from in let rest = count_both test n from in omega (arith, last, rest)

module _ (v : Volume) (free : ℕ → Bool) (x : Space) (maps : List ℕ) (m : FileView) (view : FreeMapView) (is : IsFileIn v free x maps m view) where
  test_is : is_free view ≡ free
  test_is i b = is.same_free b i

  filling_is : filling_of view m ≡ record { free = free; pages = x.present; maps = maps }
  filling_is i = record { free = test_is i; pages = (is.space i).present; maps = is.same_maps i }

  pub write_is : (attrs : ExtAttrs) (first from n : ℕ)
      → place_write v free attrs first x maps from n ≡ place_fill (request_of v free attrs first (pages_needed attrs x.present from n)) m.space from n (filling_of view m)
  write_is attrs first from n i = place_fill (request_of v free attrs first (pages_needed attrs x.present from n)) (sym is.space i) from n (sym filling_is i)

  pub request_is : (attrs : ExtAttrs) (first need : ℕ) → attrs.fixed ≡ 0 → IsFor (request_of v free attrs first need) view first
  request_is attrs first need plain = record { volume = sym is.same_volume; plain = plain; begins = refl }

  pub count_is : (attrs : ExtAttrs) (first need : ℕ) → (request_of v free attrs first need).free ≡ free_blocks view
  unfolding free_count
  count_is attrs first need =
      (λ i. free_count (sym is.same_volume i) (sym test_is i)) ∙ count_both (is_free view) (4096 * view.units) view.first
