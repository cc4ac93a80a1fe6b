-- Pages that go, one after the other.
use Rattle.std.proofs.Common.{◌≡◌, ℕ, suc, ◌+◌, Option, ap, ◌∙◌, subst}
use Rattle.vx_alloc.specs.FreeMaps.{FreeMapView}
use Rattle.vx_base.specs.declared.kind.Kind.{Kind}
use Rattle.vx_filemaps.specs.Settles.{without_page, IsUsedPage, without_pages, CanGo}

module _ (place : ℕ) (s t : ℕ → Option (ℕ × Kind)) (n p k q : ℕ) (v : FreeMapView) (more : n ≡ suc k) (next : p + 1 ≡ q) where
  pub pages_next : without_pages place s t n p v ≡ without_pages place s t k q (without_page place (s p) (t p) v)
  pages_next = ap (λ (j : ℕ). without_pages place s t j p v) more ∙ ap (λ (j : ℕ). without_pages place s t k j (without_page place (s p) (t p) v)) next

  pub can_first : CanGo place s t n p v → IsUsedPage (s p) (t p) v
  can_first can = (subst (λ (j : ℕ). CanGo place s t j p v) more can).0

  pub can_rest : CanGo place s t n p v → CanGo place s t k q (without_page place (s p) (t p) v)
  can_rest can = subst (λ (j : ℕ). CanGo place s t k j (without_page place (s p) (t p) v)) next (subst (λ (j : ℕ). CanGo place s t j p v) more can).1
